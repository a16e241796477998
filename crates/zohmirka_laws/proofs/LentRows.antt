-- Rows that are lent beside a grid: only as many numbers play a part as the grid says, of a rectangle none.
use Prim.Native.Nat.{ℕ, ◌+◌, ◌*◌, ◌<◌}
use mathlib.Core.Bool.{true, false}
use mathlib.Core.List.{List}
use mathlib.Core.Path.{◌≡◌, sym, ◌∙◌, ap, ap₂}
use native.Mathlib.Omega.{arith}
use Rattle.model.specs.Grounds.{Row}
use Rattle.model.specs.Grounds.Ground.{skewed}
use Rattle.model.specs.Values.{rows_of, ground_of, trimmed}
use Rattle.model.specs.Judging.{judge_chain}
use Rattle.model_run.specs.Running.{run_of}
use Rattle.model_sheet.specs.Writing.{chain_lines, sheet_of, write_verdict, write_of}
use Rattle.model.specs.declared.Chain.{Chain}
use Rattle.model.specs.declared.Grid.{Grid}
use Rattle.model.specs.declared.State.{State}
use Rattle.grid_laws.proofs.ListLaws.{tabulate_same}
use Rattle.grid_laws.proofs.ChainLaws.{ground_flat, ground_skewed}
use Rattle.sheet_laws.proofs.Cases.{by_bool}
use Rattle.zohmirka_words.specs.Words.{word_at, laid, row_places, row_words}
use Rattle.zohmirka_laws.proofs.Laid.{laid_at}

-- How many numbers a grid has.
pub places_skewed : (g : Grid) → g.skewed ≡ true → row_places g ≡ 2 * g.rows
unfolding row_places
places_skewed g e = rw e

pub places_flat : (g : Grid) → g.skewed ≡ false → row_places g ≡ 0
unfolding row_places
places_flat g e = rw e

rows_alike : (n : ℕ) (rows rows' : List ℕ) → ((i : ℕ) → i < 2 * n → word_at rows i ≡ word_at rows' i) → rows_of n rows ≡ rows_of n rows'
unfolding rows_of
rows_alike n rows rows' h =
    tabulate_same n _ _
    (λ k b. ap₂ (λ (s l : ℕ). let r : Row = record { start = s; length = l } in r) (h (2 * k) (omega arith)) (h (2 * k + 1) (omega arith)))

abbrev pub Alike : Grid → (rows rows' : List ℕ) → Type 0
Alike g rows rows' = (i : ℕ) → i < row_places g → word_at rows i ≡ word_at rows' i

module _ (g : Grid) (rows rows' : List ℕ) (h : Alike g rows rows') where
  pub ground_alike : ground_of g rows ≡ ground_of g rows'
  ground_alike =
      by_bool g.skewed
      (λ e. ground_skewed g e rows ∙ ap skewed (rows_alike g.rows rows rows' (λ i b. h i (rw (places_skewed g e) b))) ∙ sym (ground_skewed g e rows'))
      (λ e. ground_flat g e rows ∙ sym (ground_flat g e rows'))

  pub words_alike : row_words g rows ≡ row_words g rows'
  unfolding row_words
  words_alike = tabulate_same (row_places g) (word_at rows) (word_at rows') h

-- The numbers that were laid into a slice.
pub laid_alike : (g : Grid) (rows old : List ℕ) → Alike g (laid (row_words g rows) old) rows
unfolding row_words
laid_alike g rows old i h = laid_at (row_places g) (word_at rows) old i h

module _ (c : Chain) (rows rows' : List ℕ) (h : Alike c.grid rows rows') where
  pub trimmed_alike : trimmed c rows ≡ trimmed c rows'
  unfolding trimmed
  trimmed_alike = rw (ground_alike c.grid rows rows' h)

  pub judged_alike : judge_chain c rows ≡ judge_chain c rows'
  unfolding judge_chain
  judged_alike = rw trimmed_alike

  pub run_alike : (s : State) (store lent output : List ℕ) (allowance : ℕ) → run_of c rows s store lent output allowance ≡ run_of c rows' s store lent output allowance
  unfolding run_of
  run_alike s store lent output allowance = rw trimmed_alike

  sheet_alike : sheet_of c rows ≡ sheet_of c rows'
  unfolding sheet_of chain_lines
  sheet_alike = rw (ground_alike c.grid rows rows' h)

  pub write_alike : (sheet : List ℕ) → write_of c rows sheet ≡ write_of c rows' sheet
  unfolding write_of write_verdict
  write_alike sheet = rw (sheet_alike, judged_alike)
