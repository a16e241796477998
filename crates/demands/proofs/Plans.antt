-- Demand 2, of a plan: what planning gives.
use Prim.Native.Nat.{ℕ, suc, ◌+◌, ◌-◌, ◌≤◌, ◌<◌}
use mathlib.Core.List.{List, [], ◌∷◌}
use mathlib.Core.Path.{◌≡◌, refl, ◌∙◌}
use native.Mathlib.Omega.{arith}
use lib.ListN.{length, get_or}
use Rattle.model.specs.Lists.{sum}
use Rattle.model.specs.Grounds.{dims}
use Rattle.model.specs.Grounds.Ground.{rectangle}
use Rattle.model.specs.Values.{Trimmed, ground_of, dims_of, offsets_of, trimmed}
use Rattle.model.specs.Iterations.{position_of, course_of, iterations_of, iteration_of, reads_of, distance_in, distance_of}
use Rattle.model.specs.Judging.{judge_chain}
use Rattle.model_run.specs.Running.{layout}
use Rattle.model.specs.Steps.{distances, sorted}
use Rattle.model.specs.Planning.{trimmed_request, judge_request}
use Rattle.grid_laws.proofs.StepLaws.{plan_taken}
use Rattle.model.specs.declared.Request.{Request}
use Rattle.std.specs.Prelude.{Ok}
use Rattle.grid_laws.proofs.ListLaws.{get_d_tabulate}
use Rattle.grid_laws.proofs.Iterations.{falls, distance_most, distance_reached}
use Rattle.grid_laws.proofs.SameWindows.{fewest_places}
use Rattle.grid_laws.proofs.SortLaws.{length_falling, falling_each, falling_no_other, falling_falls}
use Rattle.grid_laws.proofs.TermLaws.{length_authors, authors_below, authors_hold}
use Rattle.model.specs.Sized.{Proper}
use Rattle.run_laws.specs.Accepted.{Accepted}
use Rattle.grid_laws.specs.Right.{Planned}
use Rattle.run_laws.proofs.Accepts.{trimmed_proper, accepted, fitting_of}
use Rattle.run_laws.proofs.Layouts.{wants_read, planned_layout}
use Rattle.run_laws.proofs.Plans.{sorted_proper, no_repeats, request_proper, planned_lists, planned_judged, plan_accepted}
use Rattle.demands.specs.Plan.{PlanRight, PlanDemand}

-- Positions that fall by these steps fall by their sum.
pub steps_sum : (at : ℕ → ℕ) (steps : List ℕ) → ((k : ℕ) → k < length steps → at k ≡ at (suc k) + get_or steps k 0) → at 0 ≡ at (length steps) + sum steps
unfolding sum
steps_sum at [] f = omega arith
steps_sum at (s ∷ ss) f = omega (arith, f 0 (omega arith), steps_sum (λ k. at (suc k)) ss (λ k h. f (suc k) (omega arith)))

-- Of a planned value: no iteration has a greater distance than the capacity, and one has it;
module _ (t : Trimmed) (proper : Proper t) (ok : Accepted t) (p : Planned t) where
  no_more : (j k : ℕ) → j < iterations_of t → suc k < t.count → reads_of t j k ≤ reads_of t j (suc k) + get_or t.capacities k 0
  unfolding distance_in
  no_more j k h g = omega (arith, (p k g).exact, distance_most t (fitting_of t proper ok) j k h g)

  one_has : (k : ℕ) → suc k < t.count → (j : ℕ) × (j < iterations_of t) × (reads_of t j k ≡ reads_of t j (suc k) + get_or t.capacities k 0)
  unfolding distance_in
  one_has k g =
      let f = fitting_of t proper ok in
      let (j, h, e) = distance_reached t f k ok.iterates in
      (j, h, omega (arith, (p k g).exact, (falls t f j k (suc k) h (omega arith) g).0 (p k g).falls))

  -- on a rectangle every iteration has it, and the capacities' sum is the distance of the first and the last reference.
  module _ (sizes : List ℕ) (is : t.the_ground ≡ rectangle sizes) where
    every_iteration : (j k : ℕ) → j < iterations_of t → suc k < t.count
        → reads_of t j k ≡ reads_of t j (suc k) + get_or t.capacities k 0
    unfolding layout
    every_iteration j k h g = omega (arith, (planned_layout t proper ok sizes is p).exact j k h g, wants_read t proper ok j k h, wants_read t proper ok j (suc k) h)

    total_distance : (j : ℕ) → j < iterations_of t
        → reads_of t j 0 ≡ reads_of t j (t.count - 1) + sum t.capacities
    total_distance j h =
        rw proper.fifos at (steps_sum (reads_of t j) t.capacities (λ k b. every_iteration j k h (omega (arith, proper.fifos))))

module _ (r : Request) (rows : List ℕ) (ok : judge_request r rows ≡ Ok tt) where
  planned_pairs : Planned (sorted (trimmed_request r rows))
  unfolding judge_request trimmed_request sorted distances distance_of distance_in reads_of position_of iteration_of course_of
  planned_pairs k g =
      let p = request_proper r rows in
      let os = offsets_of (dims_of r.grid) r.window in
      let n = length_falling os in
      record {
        falls = falling_falls (dims (ground_of r.grid rows)) os p.entries (no_repeats (trimmed_request r rows) ok) k (omega (arith, p.references));
        exact = get_d_tabulate (r.window.count - 1) _ k 0 (omega arith);
      }

  planned_right : PlanRight r rows (sorted (trimmed_request r rows))
  unfolding trimmed_request sorted
  planned_right =
      let t = sorted (trimmed_request r rows) in
      let proper = sorted_proper (trimmed_request r rows) (request_proper r rows) in
      let good = accepted t proper (planned_judged r rows ok) in
      let os = offsets_of (dims_of r.grid) r.window in
      record {
        dims = refl;
        the_ground = refl;
        part = refl;
        kernel = refl;
        count = refl;
        each = falling_each os;
        no_other = falling_no_other os;
        ordered = refl;
        terms = length_authors os ∙ (request_proper r rows).references;
        holds = λ i h. let b : i < length os = omega (arith, (request_proper r rows).references) in (omega (arith, authors_below os i b, (request_proper r rows).references), authors_hold os i b);
        planned = planned_pairs;
        most = no_more t proper good planned_pairs;
        reached = one_has t proper good planned_pairs;
        every = every_iteration t proper good planned_pairs;
        total = total_distance t proper good planned_pairs;
        least = λ c rows same right.
            fewest_places t (trimmed c rows) same.the_ground same.each same.no_other same.part proper (trimmed_proper c rows) (fitting_of t proper good) good.iterates planned_pairs right;
      }

pub plan_demand : PlanDemand
plan_demand r rows ok = record {
  answer = plan_taken r rows ok;
  accepted = plan_accepted r rows ok;
  right = rw (planned_lists r rows ok) (planned_right r rows ok);
}
