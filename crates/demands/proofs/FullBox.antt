-- A full box runs as none: the proof.
use Prim.Native.Nat.{ℕ, ◌<◌}
use mathlib.Core.Bool.{Bool, false}
use mathlib.Core.List.{List}
use mathlib.Core.Path.{◌≡◌, sym, ◌∙◌, ap, subst}
use native.Mathlib.Omega.{arith}
use lib.IntN.{ℤ}
use lib.ListN.{length}
use Rattle.model.specs.Grounds.{Ground, dims}
use Rattle.model.specs.Grounds.Ground.{rectangle}
use Rattle.model.specs.Courses.{count, all_iterations}
use Rattle.model.specs.Boxes.{Part, course, bad_box, full_box}
use Rattle.model.specs.Boxes.Part.{whole}
use Rattle.model.specs.Values.{Trimmed, ground_of, dims_of, offsets_of, part_of, capacities_of, order_of, trimmed}
use Rattle.model.specs.Sized.{Sized}
use Rattle.model.specs.Iterations.{cells_of, position_of, course_of, iterations_of, iteration_of, reads_of}
use Rattle.model.specs.Judging.{window_checks, value_checks, judged, judge_chain}
use Rattle.model_run.specs.Running.{layout, short_store, judge_run, begun, filters_of, terms_of, writes_of, written_by, width_of, ended, run_trimmed, run_of}
use Rattle.model.specs.declared.Kernel.{Kernel}
use Rattle.model.specs.declared.State.{State}
use Rattle.grid_laws.proofs.ChainLaws.{offsets_count, offsets_sized}
use Rattle.grid_laws.proofs.CheckLaws.{WindowPasses, value_passes, some_references}
use Rattle.grid_laws.proofs.BoxLaws.{none_whole}
use Rattle.grid_laws.proofs.WholeLaws.{rectangle_count}
use Rattle.grid_laws.proofs.RectangleBoxes.{full_course, full_fits}
use Rattle.grid_laws.proofs.Iterations.{some_iteration}
use Rattle.demands.specs.Iterations.{FullBoxRuns}

-- A value with a box, by its parts.
module _ (dims : ℕ) (g : Ground) (n : ℕ) (offsets : List (List ℤ)) (capacities : List ℕ) (ordered : Bool) (order : List ℕ) (kernel : Kernel) where
  abbrev with_part : Part → Trimmed
  with_part p = record { dims = dims; the_ground = g; count = n; offsets = offsets; part = p; capacities = capacities; ordered = ordered; order = order; kernel = kernel }

  -- Where it has the course of none, and 15 does not hold, it is judged and run as without it.
  module _ (p : Part) (same : course g offsets p ≡ course g offsets whole) (fits : bad_box g offsets p ≡ false) where
    judged_alike : judged (with_part p) ≡ judged (with_part whole)
    unfolding judged value_checks window_checks
    judged_alike = rw (fits, none_whole g offsets)

    runs_alike : (s : State) (store lent output : List ℕ) (allowance : ℕ) → run_trimmed (with_part p) s store lent output allowance ≡ run_trimmed (with_part whole) s store lent output allowance
    unfolding run_trimmed ended judge_run value_checks window_checks short_store layout cells_of iterations_of reads_of position_of iteration_of course_of begun written_by terms_of filters_of writes_of width_of
    runs_alike s store lent output allowance = rw (same, fits, none_whole g offsets)

-- The full box has the course of none, and 15 does not hold of it.
full_same : (g : Ground) (sizes : List ℕ) (offsets : List (List ℤ)) → g ≡ rectangle sizes → 0 < count (all_iterations g offsets) → course g offsets (full_box sizes offsets) ≡ course g offsets whole
full_same g sizes offsets e =
    subst (λ (u : Ground). 0 < count (all_iterations u offsets) → course u offsets (full_box sizes offsets) ≡ course u offsets whole) (sym e)
    (λ h. full_course sizes offsets (rw (rectangle_count sizes offsets) at h))

full_passes : (g : Ground) (sizes : List ℕ) (offsets : List (List ℤ)) → g ≡ rectangle sizes → Sized (dims g) offsets → 0 < length offsets → 0 < count (all_iterations g offsets)
    → bad_box g offsets (full_box sizes offsets) ≡ false
full_passes g sizes offsets e =
    subst (λ (u : Ground). Sized (dims u) offsets → 0 < length offsets → 0 < count (all_iterations u offsets) → bad_box u offsets (full_box sizes offsets) ≡ false) (sym e)
    (λ sized some h. full_fits sizes offsets sized some (rw (rectangle_count sizes offsets) at h))

pub full_box_runs : FullBoxRuns
unfolding judge_chain judged run_of trimmed part_of capacities_of
full_box_runs c rows sizes is b f ok = (
  judged_alike dims g n offsets (capacities_of c) c.order.stood (order_of n c.order) c.kernel p same fits ∙ ap (λ (q : Part). judged (with q)) (sym none) ∙ ok,
  λ s store lent output allowance.
      runs_alike dims g n offsets (capacities_of c) c.order.stood (order_of n c.order) c.kernel p same fits s store lent output allowance
      ∙ ap (λ (q : Part). run_trimmed (with q) s store lent output allowance) (sym none),
)
  where
    dims : ℕ
    dims = dims_of c.grid

    n : ℕ
    n = c.window.count

    g : Ground
    g = ground_of c.grid rows

    offsets : List (List ℤ)
    offsets = offsets_of (dims_of c.grid) c.window

    p : Part
    p = part_of (dims_of c.grid) b

    with : Part → Trimmed
    with q = with_part (dims_of c.grid) (ground_of c.grid rows) c.window.count (offsets_of (dims_of c.grid) c.window) (capacities_of c) c.order.stood (order_of c.window.count c.order) c.kernel q

    none : part_of (dims_of c.grid) c.bounds ≡ whole
    none = rw f.absent

    passes : WindowPasses (trimmed c rows)
    passes = (value_passes (trimmed c rows) ok).window

    some : 0 < count (all_iterations (ground_of c.grid rows) (offsets_of (dims_of c.grid) c.window))
    some = some_iteration (trimmed c rows) passes.iterates

    same : course (ground_of c.grid rows) (offsets_of (dims_of c.grid) c.window) (part_of (dims_of c.grid) b) ≡ course (ground_of c.grid rows) (offsets_of (dims_of c.grid) c.window) whole
    same =
        ap (course (ground_of c.grid rows) (offsets_of (dims_of c.grid) c.window)) f.full
        ∙ full_same (ground_of c.grid rows) sizes (offsets_of (dims_of c.grid) c.window) is some

    fits : bad_box (ground_of c.grid rows) (offsets_of (dims_of c.grid) c.window) (part_of (dims_of c.grid) b) ≡ false
    fits =
        ap (bad_box (ground_of c.grid rows) (offsets_of (dims_of c.grid) c.window)) f.full
        ∙ full_passes (ground_of c.grid rows) sizes (offsets_of (dims_of c.grid) c.window) is (offsets_sized c.grid rows c.window)
        (omega (arith, offsets_count (dims_of c.grid) c.window, some_references c.window.count passes.count)) some
