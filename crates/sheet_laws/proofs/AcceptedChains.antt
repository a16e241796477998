-- What is known of a chain that no number turns back.
use Prim.Native.Nat.{ℕ, zero, suc, ◌+◌, ◌*◌, ◌/◌, ◌%◌, ◌≤◌, ◌<◌}
use mathlib.Core.Bool.{Bool, true, false, ◌||◌}
use mathlib.Core.List.{List}
use mathlib.Core.Path.{◌≡◌, sym, ◌∙◌, ap}
use native.Mathlib.Omega.{arith}
use lib.Dec.{eqb, ltb}
use lib.ListN.{get_or}
use borrow.Author.Tests.{eqb-false, ltb-false}
use Rattle.model.specs.declared.Chain.{Chain}
use Rattle.model.specs.declared.Grid.{Grid}
use Rattle.std.specs.Prelude.{Ok}
use Rattle.model.specs.Lists.{tabulate, any}
use Rattle.model.specs.Grounds.Ground.{rectangle}
use Rattle.model.specs.Values.{sizes_of, rows_of, ground_of, dims_of, order_of, trimmed}
use Rattle.model.specs.Judging.{bad_dims, bad_sizes, bad_grid, bad_row, bad_row_count, bad_rows, bad_ground, bad_count, bad_factor, bad_order, judged, judge_chain}
use Rattle.grid_laws.proofs.ChainLaws.{rows_count, ground_flat, dims_skewed, ground_skewed}
use Rattle.grid_laws.proofs.CheckLaws.{value_passes}
use Rattle.sheet_laws.proofs.Cases.{by_bool, or-false}
use Rattle.sheet_laws.proofs.AcceptedLines.{dims_in_order, rows_in_order}

-- What no entry passes, each entry fails.
pub none_of : {A : Type 0} (p : A → Bool) (n : ℕ) (f : ℕ → A) → any p (tabulate n f) ≡ false → (i : ℕ) → i < n → p (f i) ≡ false
unfolding any tabulate
none_of p zero f h i l = absurd (omega arith)
none_of p (suc n) f h zero l = (or-false (p (f 0)) (any p (tabulate n (λ i. f (suc i)))) h).0
none_of p (suc n) f h (suc i) l = none_of p n (λ i. f (suc i)) (or-false (p (f 0)) (any p (tabulate n (λ i. f (suc i)))) h).1 i (omega arith)

-- Rows that 16 lets pass: there are 1 to 512 of them, and each has a start up to 4,095 and 1 to 1,024 cells.
pub row_in_order : (start length : ℕ) → bad_row (record { start = start; length = length }) ≡ false → (start ≤ 4095) × (0 < length) × (length ≤ 1024)
unfolding bad_row
row_in_order start length h =
    let s = or-false (ltb 4095 start) (eqb length 0 || ltb 1024 length) h in
    let l = or-false (eqb length 0) (ltb 1024 length) s.1 in
    (ltb-false 4095 start s.0, omega (arith, eqb-false length 0 l.0), ltb-false 1024 length l.1)

module _ (n : ℕ) (rows : List ℕ) where
  module _ (none : any bad_row (rows_of n rows) ≡ false) (i : ℕ) (h : i < n) where
    fits : (get_or rows (2 * i) 0 ≤ 4095) × (0 < get_or rows (2 * i + 1) 0) × (get_or rows (2 * i + 1) 0 ≤ 1024)
    unfolding rows_of
    fits = row_in_order _ _ (none_of bad_row n (λ (i : ℕ). record { start = get_or rows (2 * i) 0; length = get_or rows (2 * i + 1) 0 }) none i h)

    pub start_fits : get_or rows (2 * i) 0 ≤ 4095
    start_fits = fits.0

    pub some_cells : 0 < get_or rows (2 * i + 1) 0
    some_cells = fits.1

    pub length_fits : get_or rows (2 * i + 1) 0 ≤ 1024
    length_fits = fits.2

  -- Any number of a row.
  pub number_fits : any bad_row (rows_of n rows) ≡ false → (i : ℕ) → i < 2 * n → get_or rows i 0 ≤ 4095
  number_fits none i h = go (i % 2) (i / 2) (omega arith) (omega arith)
    where
      go : (r q : ℕ) → i ≡ 2 * q + r → r < 2 → get_or rows i 0 ≤ 4095
      go zero q e l = let f : i ≡ 2 * q = omega arith in rw f (start_fits none q (omega arith))
      go (suc zero) q e l = rw e (omega (arith, length_fits none q (omega arith)))
      go (suc (suc r)) q e l = absurd (omega arith)

  -- The rows of a grid.
  module _ (fine : bad_rows (rows_of n rows) ≡ false) where
    both : (bad_row_count n ≡ false) × (any bad_row (rows_of n rows) ≡ false)
    unfolding bad_rows
    both = or-false (bad_row_count n) (any bad_row (rows_of n rows)) (ap (λ (k : ℕ). bad_row_count k || any bad_row (rows_of n rows)) (sym (rows_count n rows)) ∙ fine)

    pub some_rows : 0 < n
    some_rows = (rows_in_order n both.0).0

    pub few_rows : n ≤ 512
    few_rows = (rows_in_order n both.0).1

    pub no_bad_row : any bad_row (rows_of n rows) ≡ false
    no_bad_row = both.1

-- A grid that 3 and 16 let pass: of a rectangle the sizes, and of any the dimension count.
module _ (g : Grid) (rows : List ℕ) (fine : bad_ground (dims_of g) (ground_of g rows) ≡ false) where
  flat_in_order : g.skewed ≡ false → (bad_dims (dims_of g) ≡ false) × (bad_sizes (sizes_of g) ≡ false)
  unfolding bad_grid
  flat_in_order e =
      let grid : bad_ground (dims_of g) (rectangle (sizes_of g)) ≡ false = rw (ground_flat g e rows) at fine in
      or-false (bad_dims (dims_of g)) (bad_sizes (sizes_of g)) grid

  grid_dims : (0 < dims_of g) × (dims_of g ≤ 4)
  grid_dims = by_bool g.skewed (λ e. rw (dims_skewed g e) (omega arith, omega arith)) (λ e. dims_in_order (dims_of g) (flat_in_order e).0)

pub record Accepted (c : Chain) (rows : List ℕ) : Type 0 where
  pub some_dims : 0 < dims_of c.grid
  pub few_dims : dims_of c.grid ≤ 4
  pub sizes : c.grid.skewed ≡ false → bad_sizes (sizes_of c.grid) ≡ false
  pub good_rows : c.grid.skewed ≡ true → bad_rows (rows_of c.grid.rows rows) ≡ false
  pub some : 0 < c.window.count
  pub few : c.window.count ≤ 32
  pub factors : bad_factor c.kernel ≡ false
  pub once : bad_order c.window.count (order_of c.window.count c.order) ≡ false

pub accepted_chain : (c : Chain) (rows : List ℕ) → judge_chain c rows ≡ Ok tt → Accepted c rows
unfolding judge_chain judged trimmed bad_count
accepted_chain c rows h =
    let p = value_passes (trimmed c rows) h in
    let n = or-false (eqb c.window.count 0) (ltb 32 c.window.count) p.window.count in
    record {
      some_dims = (grid_dims c.grid rows p.window.grid).0;
      few_dims = (grid_dims c.grid rows p.window.grid).1;
      sizes = λ e. (flat_in_order c.grid rows p.window.grid e).1;
      good_rows = λ e. rw (ground_skewed c.grid e rows) at p.window.grid;
      some = omega (arith, eqb-false c.window.count 0 n.0);
      few = ltb-false 32 c.window.count n.1;
      factors = p.kernel.factors;
      once = p.chain.once;
    }
