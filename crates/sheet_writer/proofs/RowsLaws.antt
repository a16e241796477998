-- How the numbers of an `09` line are laid into the output.
use Prim.Native.Nat.{ℕ, suc, ◌+◌, ◌*◌, ◌≤◌, ◌<◌}
use mathlib.Core.Bool.{Bool, false, ◌&&◌}
use mathlib.Core.List.{List, flat_map}
use mathlib.Core.Path.{◌≡◌, refl, sym, ap, ◌∙◌}
use native.Mathlib.Numerals.{add-one}
use native.Mathlib.Omega.{arith}
use lib.ListN.{length, drop, get_or, set, drop_of_length-le}
use lib.Seq.{sets, drop-cons}
use Rattle.model.specs.declared.Grid.{Grid}
use Rattle.model.specs.Lists.{tabulate}
use Rattle.model.specs.Values.{rows_of}
use Rattle.model.specs.Judging.{bad_rows}
use Rattle.model_sheet.specs.Frames.{digit_of, digits_of, framed}
use Rattle.model_sheet.specs.Lines.{line_feed}
use Rattle.model_sheet.specs.Numbers.{half_bytes}
use Rattle.grid_laws.proofs.ListLaws.{length_tabulate, get_d_tabulate}
use Rattle.sheet_laws.specs.Sections.{rows_line}
use Rattle.sheet_writer.specs.Laying.{RowsFit}

-- The first n numbers, 0 where there are too few.
abbrev pub listed : (n : ℕ) → List ℕ → List ℕ
listed n rows = tabulate n (λ i. get_or rows i 0)

-- They and LF, from number i on.
abbrev pub numbers_from : (n i : ℕ) → List ℕ → List ℕ
numbers_from n i rows = framed (flat_map half_bytes (drop i (listed n rows)))

-- One number more, and the LF.
module _ (rows out : List ℕ) (n at i : ℕ) where
  pub number_on : i < n → sets (sets out at (digits_of (half_bytes (get_or rows i 0)))) (at + 4) (numbers_from n (i + 1) rows) ≡ sets out at (numbers_from n i rows)
  unfolding framed digits_of half_bytes flat_map
  number_on h =
      let e : at + 4 ≡ suc (suc (suc (suc at))) = omega arith in
      let q : i < length (listed n rows) = omega (arith, length_tabulate n (λ i. get_or rows i 0)) in
      rw (e, add-one, drop-cons (listed n rows) i 0 q, get_d_tabulate n (λ i. get_or rows i 0) i 0 h)

  pub numbers_end : n ≤ i → set out at line_feed ≡ sets out at (numbers_from n i rows)
  unfolding framed digits_of flat_map
  numbers_end h = rw (drop_of_length-le (listed n rows) {i = i} (omega (arith, length_tabulate n (λ i. get_or rows i 0))))

-- The line's kind and its row count stand before them.
pub rows_laid : (count : ℕ) (rows out : List ℕ)
    → sets (sets (set (set out 0 48) 1 57) 2 (digits_of (half_bytes count))) 6 (numbers_from (2 * count) 0 rows) ≡ sets out 0 (framed (rows_line count rows))
unfolding rows_line framed digits_of digit_of half_bytes
rows_laid count rows out = refl

-- Rows that the test lets pass.
pub rows_fit : (g : Grid) (rows : List ℕ) → (g.skewed && bad_rows (rows_of g.rows rows)) ≡ false → RowsFit g rows
rows_fit g rows fine e = ap (λ (b : Bool). b && bad_rows (rows_of g.rows rows)) (sym e) ∙ fine
