-- The three steps of planning: a proof for each.
use Prim.Native.Nat.{ℕ, suc, ◌+◌, ◌-◌, ◌<◌}
use mathlib.Core.Bool.{true}
use mathlib.Core.List.{List, []}
use mathlib.Core.Path.{◌≡◌, refl, sym, ◌∙◌, ap, ap₂, subst}
use native.Mathlib.Omega.{arith}
use lib.IntN.{ℤ}
use lib.ListN.{length, get_or}
use Rattle.model.specs.Lists.{tabulate, sum}
use Rattle.model.specs.Vectors.{plus, before}
use Rattle.model.specs.Grounds.{Ground, dims, cell_place, position, is_iteration}
use Rattle.model.specs.Grounds.Ground.{rectangle}
use Rattle.model.specs.Courses.{count}
use Rattle.model.specs.Boxes.{course}
use Rattle.model.specs.Sized.{Sized, Suits, Fitting}
use Rattle.model.specs.Windows.{Members}
use Rattle.model.specs.Values.{Trimmed, ground_of, dims_of, offsets_of, part_of, on_grid}
use Rattle.model.specs.Iterations.{position_of, is_iteration_of, course_of, iterations_of, iteration_of, reads_of, distance_in, distance_of}
use Rattle.model.specs.Judging.{judge_window}
use Rattle.model.specs.Steps.{falling, authors_order, sorted, distances, total, steps_of}
use Rattle.model.specs.Planning.{plan_of}
use Rattle.model.specs.declared.Bounds.{Bounds}
use Rattle.model.specs.declared.Grid.{Grid}
use Rattle.model.specs.declared.Steps.{Steps}
use Rattle.model.specs.declared.Window.{Window}
use Rattle.std.specs.Prelude.{Ok}
use Rattle.grid_laws.proofs.ListLaws.{length_tabulate, get_d_tabulate}
use Rattle.grid_laws.proofs.Rectangles as rectangle
use Rattle.grid_laws.proofs.Distances as window
use Rattle.grid_laws.proofs.Listed.{reads_in}
use Rattle.grid_laws.proofs.DistanceLaws.{rectangle_distance as by_sizes}
use Rattle.grid_laws.proofs.WholeLaws.{rectangle_iteration}
use Rattle.grid_laws.proofs.Iterations.{falls, distance_most, distance_reached, same_distance}
use Rattle.grid_laws.proofs.SameWindows.{same_iterations, same_count, same_iteration}
use Rattle.grid_laws.proofs.SortLaws.{falling_each, falling_no_other}
use Rattle.grid_laws.proofs.TermLaws.{authors_below, authors_hold}
use Rattle.grid_laws.proofs.ChainLaws.{offsets_count}
use Rattle.grid_laws.proofs.CheckLaws.{some_references, few_references}
use Rattle.grid_laws.proofs.StepLaws as laws
use Rattle.demands.specs.PlanSteps as promised
use Rattle.demands.proofs.Iterations.{enumerated}
use Rattle.demands.proofs.Plans.{steps_sum}

module _ (g : Grid) (rows : List ℕ) (w : Window) (x : Bounds) (s : Steps) (f : steps_of g rows w x ≡ Ok s) where
  e : judge_window g rows w x ≡ Ok tt
  e = laws.steps_passed g rows w x s f

  steps_are : s ≡ laws.taken g rows w x
  steps_are = laws.steps_given g rows w x e s f

  abbrev given : List (List ℤ)
  given = offsets_of (dims_of g) w

  -- The window's offsets are those sorted.
  window_is : offsets_of (dims_of g) s.window ≡ falling given
  window_is = ap (λ (y : Steps). offsets_of (dims_of g) y.window) steps_are ∙ laws.arranged_back g rows w x e

  place_is : (k : ℕ) → promised.arranged g rows w x s k ≡ get_or (falling given) k []
  place_is k = ap (λ (os : List (List ℤ)). get_or os k []) window_is

  -- ---- Section 3.3.2: the offsets sorted

  filter_is : (i : ℕ) → i < w.count → get_or s.filters i 0 ≡ get_or (authors_order given) i 0
  filter_is i h =
      ap (λ (y : Steps). get_or y.filters i 0) steps_are
      ∙ get_d_tabulate 32 _ i 0 (omega (arith, few_references w.count (laws.passed g rows w x e).count))

  sorted_right : promised.Sorted g rows w x s
  sorted_right = record {
    count = ap (λ (y : Steps). y.window.count) steps_are;
    each = subst (Members given) (sym window_is) (falling_each given);
    no_other = subst (λ (os : List (List ℤ)). Members os given) (sym window_is) (falling_no_other given);
    falls = λ k h. ap₂ before (place_is (suc k)) (place_is k) ∙ laws.arranged_falls g rows w x e k h;
    held = λ i h.
        let b : i < length given = omega (arith, offsets_count (dims_of g) w) in (
          omega (arith, filter_is i h, authors_below given i b, offsets_count (dims_of g) w),
          ap (promised.arranged g rows w x s) (filter_is i h) ∙ place_is (get_or (authors_order given) i 0) ∙ authors_hold given i b,
        );
  }

  -- ---- Section 3.3.2: the distances of neighbours

  abbrev t : Trimmed
  t = on_grid g rows w x

  abbrev arranged : Trimmed
  arranged = sorted (on_grid g rows w x)

  fit : Fitting (on_grid g rows w x)
  fit = laws.given_fits g rows w x e

  -- What is read in an iteration of the run goes by its number.
  reads_are : (v : List ℤ) (j k : ℕ) → v ≡ iteration_of t j → promised.read_by g rows w x s v k ≡ reads_of arranged j k
  unfolding sorted position_of reads_of
  reads_are v j k f =
      ap₂ (λ (u o : List ℤ). position (ground_of g rows) (plus u o)) (f ∙ same_iteration t arranged refl (falling_each given) (falling_no_other given) refl j) (place_is k)

  distance_is : (k : ℕ) → suc k < w.count → promised.distance g rows w x s k ≡ distance_of arranged k
  distance_is k h = ap (λ (y : Steps). get_or y.distances k 0) steps_are ∙ laws.distance_there g rows w x e k h

  -- In each iteration of the run the first of a pair reads a later position than the second.
  reads_fall : (j k : ℕ) → j < iterations_of arranged → suc k < w.count → reads_of arranged j (suc k) < reads_of arranged j k
  unfolding sorted
  reads_fall j k h b = (falls arranged (laws.arranged_fits g rows w x e) j k (suc k) h (omega arith) b).0 (laws.arranged_falls g rows w x e k b)

  same_number : iterations_of arranged ≡ iterations_of t
  unfolding sorted
  same_number = sym (same_count t arranged refl (falling_each given) (falling_no_other given) refl)

  distances_right : promised.Distances g rows w x s
  unfolding distance_in sorted
  distances_right = record {
    most = λ v k h b.
        let (j, l, f) = (enumerated t fit).no_other v h in
        omega (arith, reads_are v j k f, reads_are v j (suc k) f, distance_is k b, distance_most arranged (laws.arranged_fits g rows w x e) j k (omega (arith, same_number)) b);
    reached = λ k b.
        let (j, l, d) = distance_reached arranged (laws.arranged_fits g rows w x e) k (laws.some_arranged g rows w x e) in (
          iteration_of t j,
          (enumerated t fit).each j (omega (arith, same_number)),
          omega (arith, reads_are (iteration_of t j) j k refl, reads_are (iteration_of t j) j (suc k) refl, distance_is k b, reads_fall j k l b),
        );
    some = λ k b.
        let (j, l, d) = distance_reached arranged (laws.arranged_fits g rows w x e) k (laws.some_arranged g rows w x e) in
        omega (arith, distance_is k b, reads_fall j k l b);
  }

  -- On a rectangle they go by its sizes, and an iteration by its number among all.
  module _ (sizes : List ℕ) (is : ground_of g rows ≡ rectangle sizes) where
    rectangle_distance : (k : ℕ) → suc k < w.count → promised.distance g rows w x s k ≡ rectangle.distance sizes (falling given) k
    unfolding sorted position_of reads_of iteration_of course_of iterations_of
    rectangle_distance k b =
        let f = laws.arranged_fits g rows w x e in
        let some = laws.some_arranged g rows w x e in
        distance_is k b ∙ sym (same_distance arranged f sizes is 0 k some b)
        ∙ subst (λ (u : Ground). (s : Suits u (falling given) (part_of (dims_of g) x)) → 0 < count (course u (falling given) (part_of (dims_of g) x))
        → reads_in u (falling given) (part_of (dims_of g) x) s 0 k - reads_in u (falling given) (part_of (dims_of g) x) s 0 (suc k) ≡ rectangle.distance sizes (falling given) k)
        (sym is) (λ s a. by_sizes sizes (falling given) (part_of (dims_of g) x) s 0 k a (omega (arith, f.references))) f.suits some

    every_iteration : (v : List ℤ) (k : ℕ) → is_iteration_of t v ≡ true → suc k < w.count → promised.read_by g rows w x s v k ≡ promised.read_by g rows w x s v (suc k) + promised.distance g rows w x s k
    unfolding is_iteration_of position_of position cell_place rectangle.reads rectangle.position
    every_iteration v k h b =
        let os = falling given in
        let n : length os ≡ w.count = laws.arranged_count g rows w in
        let sized : Sized (length sizes) os = λ i l. laws.arranged_sized g rows w i (omega arith) ∙ ap (λ (u : Ground). dims u) is in
        let (j, l, f) = window.complete sizes os sized v (omega (arith, some_references w.count (laws.passed g rows w x e).count))
        (sym (rectangle_iteration sizes os v) ∙ same_iterations (rectangle sizes) given os (falling_no_other given) v (ap (λ (u : Ground). is_iteration u given v) (sym is) ∙ h)) in
        let read : (k : ℕ) → promised.read_by g rows w x s v k ≡ rectangle.reads sizes os j k =
        λ k. ap (λ (u : Ground). position u (plus v (promised.arranged g rows w x s k))) is ∙ ap₂ (λ (u o : List ℤ). rectangle.position sizes (plus u o)) f (place_is k) in
        let fall = (window.falls sizes os sized j k (suc k) l (omega arith) (omega arith)).0 (laws.arranged_falls g rows w x e k b) in
        omega (arith, read k, read (suc k), rectangle_distance k b, window.same_distance sizes os sized j k l (omega arith))

  -- ---- Section 3.3.3: their sum

  abbrev listed : List ℕ
  listed = tabulate (w.count - 1) (promised.distance g rows w x s)

  listed_are : listed ≡ distances (sorted (on_grid g rows w x))
  listed_are = ap (λ (y : Steps). tabulate (w.count - 1) (λ k. get_or y.distances k 0)) steps_are ∙ laws.distances_back g rows w x e

  total_right : promised.Summed g rows w x s
  unfolding total
  total_right = ap (λ (y : Steps). y.total) steps_are ∙ ap sum (sym listed_are)

  module _ (sizes : List ℕ) (is : ground_of g rows ≡ rectangle sizes) where
    first_to_last : (v : List ℤ) → is_iteration_of t v ≡ true → promised.read_by g rows w x s v 0 ≡ promised.read_by g rows w x s v (w.count - 1) + s.total
    first_to_last v h =
        rw (length_tabulate (w.count - 1) (promised.distance g rows w x s)) at (steps_sum (promised.read_by g rows w x s v) listed apart)
        ∙ ap (λ (y : ℕ). promised.read_by g rows w x s v (w.count - 1) + y) (sym total_right)
      where
        apart : (k : ℕ) → k < length listed → promised.read_by g rows w x s v k ≡ promised.read_by g rows w x s v (suc k) + get_or listed k 0
        apart k b =
            let l : k < w.count - 1 = rw length_tabulate at b in
            every_iteration sizes is v k h (omega arith) ∙ ap (λ (y : ℕ). promised.read_by g rows w x s v (suc k) + y) (sym (get_d_tabulate (w.count - 1) (promised.distance g rows w x s) k 0 l))

-- A plan is the steps, what refuses, the chain.
plans_by_steps : promised.PlansBySteps
unfolding plan_of
plans_by_steps r rows = record {
  found = laws.steps_verdict r.grid rows r.window r.bounds;
  refused = laws.plan_verdict_lem r rows ∙ laws.judged_by_steps r rows;
  chain = λ s c f p.
      let e = laws.steps_passed r.grid rows r.window r.bounds s f in
      rw (laws.plan_chain r rows c p, laws.steps_given r.grid rows r.window r.bounds e s f) (laws.chain_by_steps r rows e);
}

pub paper_steps : promised.PaperSteps
paper_steps = record {
  sorted = λ g rows w x e. given g rows w x (promised.Sorted g rows w x) (sorted_right g rows w x) e;
  distances = λ g rows w x e. given g rows w x (promised.Distances g rows w x) (distances_right g rows w x) e;
  total = λ g rows w x e. given g rows w x (promised.Summed g rows w x) (total_right g rows w x) e;
  rectangles = λ g rows w x sizes is e.
      given g rows w x (promised.OnRectangle g rows w x)
      (λ s f. record { every = every_iteration g rows w x s f sizes is; first_to_last = first_to_last g rows w x s f sizes is }) e;
  plans = plans_by_steps;
}
  where
    given : (g : Grid) (rows : List ℕ) (w : Window) (x : Bounds) (P : Steps → Type 0) → ((s : Steps) → steps_of g rows w x ≡ Ok s → P s)
        → promised.OfSteps g rows w x P
    given g rows w x P holds e = (laws.taken g rows w x, laws.steps_taken g rows w x e, holds _ (laws.steps_taken g rows w x e))
