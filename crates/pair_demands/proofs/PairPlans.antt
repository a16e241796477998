-- The planned chain of a pair: the proof.
use Prim.Native.Nat.{ℕ, ◌-◌}
use native.Mathlib.Omega.{arith}
use mathlib.Core.Bool.{Bool, false, not, ◌||◌}
use mathlib.Core.List.{List, ◌++◌}
use mathlib.Core.Path.{sym, ◌≡◌, refl, ap, ap₂, fun_ext}
use lib.IntN.{ℤ}
use lib.ListN.{length}
use Rattle.model.specs.Lists.{any, up_to}
use Rattle.model.specs.Vectors.{equal}
use Rattle.model.specs.Grounds.{dims}
use Rattle.model.specs.Values.{Trimmed, trimmed, dims_of, ground_of, offsets_of, chain_of}
use Rattle.model.specs.Answers.{Verdict, first_of}
use Rattle.model.specs.Judging.{bad_count, judged}
use Rattle.model.specs.Iterations.{distance_of, distance_in, reads_of, position_of, iteration_of, course_of}
use Rattle.model.specs.Steps.{falling, sorted, distances}
use Rattle.model.specs.Planning.{trimmed_request, judge_request}
use Rattle.grid_laws.specs.Right.{Planned}
use Rattle.model.specs.declared.Bounds.{Bounds}
use Rattle.model.specs.declared.Grid.{Grid}
use Rattle.model.specs.declared.Request.{Request}
use Rattle.std.specs.Prelude.{Ok, Err}
use Rattle.grid_laws.proofs.ListLaws.{length_tabulate, get_d_tabulate}
use Rattle.grid_laws.proofs.ChainLaws.{trimmed_chain, ground_again, ground_dims}
use Rattle.grid_laws.proofs.CheckLaws.{WindowPasses, value_passes, few_dims}
use Rattle.grid_laws.proofs.SortLaws.{any_falling, length_falling, falling_falls}
use Rattle.run_laws.proofs.Accepts.{accepted}
use Rattle.run_laws.proofs.Plans.{sorted_proper, no_repeats, request_proper, planned_judged}
use Rattle.grid_laws.proofs.PairPasses.{pair_passes, raw_checks}
use Rattle.model.specs.Pairs.{Own, own_of, member, union, not_union, raw_of, pair_checks, union_request, planned_union, plan_pair_of}
use Rattle.pair_demands.specs.PairPlans.{PlannedPair, PairPlans}

module _ (g : Grid) (rows : List ℕ) (bounds : Bounds) (a b : Own) (e : first_of (pair_checks (trimmed_request (union_request g bounds a b) rows) a b) ≡ Ok tt) where
  abbrev r : Request
  r = union_request g bounds a b

  abbrev u : Trimmed
  u = trimmed_request r rows

  request_judged : judge_request r rows ≡ Ok tt
  unfolding judge_request judged trimmed_request union_request raw_of
  request_judged = raw_checks u a b (pair_passes u a b e)

  planned_is : trimmed (chain_of (planned_union r rows)) rows ≡ planned_union r rows
  unfolding planned_union sorted judge_request judged trimmed_request
  planned_is =
      let p = sorted_proper u (request_proper r rows) in
      trimmed_chain (planned_union r rows) rows (ground_again r.grid rows) p.dimensions p.references p.entries p.bounded p.fifos (unfold up_to in length_tabulate u.count (λ k. k))
      (few_dims (dims_of r.grid) (ground_of r.grid rows) (ground_dims r.grid rows) (value_passes u request_judged).window.grid) (accepted u (request_proper r rows) request_judged).few

  planned_too : Planned (planned_union r rows)
  unfolding planned_union judge_request trimmed_request sorted distances distance_of distance_in reads_of position_of iteration_of course_of
  planned_too k h =
      let p = request_proper r rows in
      let os = offsets_of (dims_of r.grid) r.window in
      let n = length_falling os in
      record {
        falls = falling_falls (dims (ground_of r.grid rows)) os p.entries (no_repeats u request_judged) k (omega (arith, p.references));
        exact = get_d_tabulate (r.window.count - 1) _ k 0 (omega arith);
      }

  union_falling : not_union (falling u.offsets) a b ≡ not_union u.offsets a b
  unfolding not_union member
  union_falling =
      ap₂ ◌||◌ (ap (λ (f : List ℤ → Bool). any f (a.offsets ++ b.offsets)) (fun_ext (λ o. ap not (any_falling (λ p. equal o p) u.offsets))))
      (any_falling (λ o. not (member (a.offsets ++ b.offsets) o)) u.offsets)

  sorted_passes : WindowPasses (sorted u)
  unfolding judged
  sorted_passes = (value_passes (sorted u) (planned_judged r rows request_judged)).window

  counted : bad_count (length (union a b)) ≡ false
  unfolding trimmed_request union_request
  counted = (pair_passes u a b e).count

  -- No number turns the planned chain back.
  planned_accepted : first_of (pair_checks (planned_union r rows) a b) ≡ Ok tt
  unfolding pair_checks planned_union sorted any first_of
  planned_accepted =
      let p = pair_passes u a b e in
      let v = sorted_passes in
      rw (p.grid, p.count, p.first_count, p.second_count, counted, v.distinct, p.first_distinct, p.second_distinct, v.iterates, v.fits, p.first_centre, p.second_centre, p.first_factors, p.second_factors, p.places, union_falling, p.is_union) refl

pub pair_plans : PairPlans
unfolding plan_pair_of
pair_plans g rows bounds x y c e = go (first_of (pair_checks (trimmed_request (union_request g bounds a b) rows) a b)) refl e
  where
    a : Own
    a = own_of (dims_of g) x

    b : Own
    b = own_of (dims_of g) y

    go : (v : Verdict) → first_of (pair_checks (trimmed_request (union_request g bounds a b) rows) a b) ≡ v → plan_pair_of g rows bounds x y ≡ Ok c → PlannedPair g rows bounds x y c
    go (Ok _) h k =
        let made : c ≡ chain_of (planned_union (union_request g bounds a b) rows) = cc (rw h at k) in
        let is = rw (sym made) at (planned_is g rows bounds a b h) in
        record { lists = is; planned = rw is (planned_too g rows bounds a b h); accepted = rw is (planned_accepted g rows bounds a b h) }
    go (Err z) h k = absurd (let d = rw h at k in let q : ◌≡◌ {A = ℕ} 0 1 = cc in omega arith)
