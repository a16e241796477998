-- The cells that an accepted chain's filters want, by the arrays that say where its references read.
use Prim.Native.Nat.{ℕ, ◌+◌, ◌≤◌, ◌<◌}
use mathlib.Core.List.{List}
use mathlib.Core.Path.{◌≡◌, sym, ◌∙◌, ap₂}
use native.Mathlib.Omega.{arith}
use borrow.Author.Tests.{le-ltb}
use Rattle.model.specs.Grounds.{ground_sizes}
use Rattle.model.specs.Values.{Trimmed}
use Rattle.model.specs.Iterations.{iterations_of, reads_of}
use Rattle.model.specs.Judging.{most_cells}
use Rattle.model_run.specs.Running.{layout}
use Rattle.grid_laws.proofs.Iterations.{at_most_cells, reads_from_first, below_cells}
use Rattle.run_laws.proofs.Accepts.{fitting_of}
use Rattle.run_laws.proofs.Layouts.{wants_read}
use Rattle.run_prepare.specs.Prepared.{number_at, walk_by, Walks, Counted, Shaped}
use Rattle.run_prepare.proofs.PrepareWalks.{walk_is, walks}

module _ {t : Trimmed} {n cells iterations : ℕ} (counted : Counted t n cells iterations) where
  pub few_filters : n ≤ 32
  few_filters = omega (arith, counted.accepted.few, counted.count_is)

  pub few_iterations : iterations ≤ most_cells
  few_iterations =
      omega (arith, counted.iterations_are, at_most_cells t (fitting_of t counted.proper counted.accepted), counted.accepted.cells)

  pub wants_here : (j k : ℕ) → j < iterations → reads_of t j k ≡ (layout t).wants j k
  wants_here j k h = sym (wants_read t counted.proper counted.accepted j k (omega (arith, counted.iterations_are)))

  pub wants_past : (j k : ℕ) → iterations ≤ j → cells ≡ (layout t).wants j k
  unfolding layout
  wants_past j k h = sym (rw (le-ltb j (iterations_of t) (omega (arith, counted.iterations_are))) counted.cells_are)

module _ {t : Trimmed} {dims n cells iterations : ℕ} {es ss at : List ℕ} (shaped : Shaped t dims n cells iterations es ss at) where
  pub can_walk : (j : ℕ) → j < iterations → Walks dims es ss j
  can_walk j h = walks shaped.spaced j (omega (arith, shaped.counted.iterations_are))

  reference : (k : ℕ) → k < n → k < t.count
  reference k g = omega (arith, shaped.counted.count_is)

  -- Where iteration j lies `way` cells behind the first.
  module _ (j way : ℕ) (e : way ≡ walk_by (number_at es) (number_at ss) dims j) (h : j < iterations) where
    below : j < iterations_of t
    below = omega (arith, shaped.counted.iterations_are)

    reads_at : (k : ℕ) → k < n → number_at at k + way ≡ reads_of t j k
    reads_at k g =
        ap₂ ◌+◌ (shaped.reads_are k g) (e ∙ walk_is shaped.spaced j below)
        ∙ sym (reads_from_first t shaped.spaced.fitting (ground_sizes t.the_ground) shaped.spaced.rectangular j k below (reference k g))

    pub wants_at : (k : ℕ) → k < n → number_at at k + way ≡ (layout t).wants j k
    wants_at k g = reads_at k g ∙ wants_here shaped.counted j k h

    pub wants_near : (k : ℕ) → k < n → number_at at k + way < 18446744073709551616
    wants_near k g =
        omega (arith, reads_at k g, below_cells t shaped.spaced.fitting j k below (reference k g), shaped.spaced.cells)
