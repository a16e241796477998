-- Planning for two kernels: where a count is turned back, whatever window is planned; elsewhere the window is the union.
use Prim.Native.Nat.{ℕ, ◌≤◌, ◌<◌, min}
use mathlib.Core.Bool.{Bool, true, false, or-true, true≢false}
use mathlib.Core.List.{List, [], ◌∷◌}
use mathlib.Core.Path.{◌≡◌, refl, sym, ◌∙◌, ap, ap₂}
use native.Mathlib.Decide.{dec_lt}
use native.Mathlib.Omega.{arith}
use lib.IntN.{ℤ}
use lib.ListN.{length, get_or, get_or-eq_default}
use lib.Seq.{ext_get_or}
use borrow.Author.Tests.{le-leb}
use Rattle.model.specs.Lists.{tabulate, up_to, any}
use Rattle.model.specs.Values.{Trimmed, dims_of, ground_of, window_of, filter_array, chain_of, set_order}
use Rattle.model.specs.Answers.{Verdict, first_of, verdict_of}
use Rattle.model.specs.Judging.{bad_ground, bad_count, judged}
use Rattle.model.specs.Steps.{sorted}
use Rattle.model.specs.Planning.{trimmed_request, judge_request, planned_chain, plan_of}
use Rattle.model.specs.Pairs.{Own, own_of, union, raw_of, pair_checks, union_request, planned_union, plan_pair_of}
use Rattle.model.specs.declared.Bounds.{Bounds}
use Rattle.model.specs.declared.Chain.{Chain}
use Rattle.model.specs.declared.Grid.{Grid}
use Rattle.model.specs.declared.Kernel.TheVariants as kernel
use Rattle.model.specs.declared.Order.{Order}
use Rattle.model.specs.declared.Refusal.{Refusal}
use Rattle.model.specs.declared.Request.{Request}
use Rattle.model.specs.declared.Side.{Side}
use Rattle.std.specs.Prelude.{Result, Ok, Err, is_ok, MatchResult}
use Rattle.model.specs.declared.Window.{Window}
use Rattle.grid_laws.proofs.Tests.{neither, both_false}
use Rattle.grid_laws.proofs.ListLaws.{length_tabulate, get_d_tabulate}
use Rattle.grid_laws.proofs.ChainLaws.{ground_dims}
use Rattle.grid_laws.proofs.CheckLaws.{few_dims, few_references}
use Rattle.grid_laws.proofs.StepLaws.{plan_verdict_lem, plan_taken}
use Rattle.grid_laws.proofs.PairPasses.{PairPasses, pair_passes, raw_checks}
use Rattle.geometry.specs.Parts.{Filled}
use Rattle.pair_windows.specs.Unions.{union_in, union_window}
use Rattle.pair_windows.proofs.UnionLaws.{union_is}
use Rattle.pair_judging.specs.Verdicts.{earlier_of, side_checks}
use Rattle.pair_judging.proofs.JudgeLaws.{pair_verdict}
use Rattle.pair_plan.specs.Orders.{rising_order}

-- ---- the order

-- Of more than 32 filters the first 32 stand in the array.
pub rising_so : (n m : ℕ) (filters : List ℕ) → m ≡ min n 32 → Filled 32 0 (λ k. k) m filters → record { stood = true; filters = filters } ≡ rising_order n
unfolding up_to
rising_so n m filters e f = ap (λ (xs : List ℕ). let o : Order = record { stood = true; filters = xs } in o) same
  where
    at : (i : ℕ) → i < 32 → Dec (i < n) → get_or filters i 0 ≡ get_or (up_to n) i 0
    at i h (yes l) = f.done i (omega arith) ∙ sym (get_d_tabulate n (λ k. k) i 0 l)
    at i h (no l) = f.left i (omega arith) ∙ sym (get_or-eq_default (tabulate n (λ k. k)) 0 (omega (arith, length_tabulate n (λ (k : ℕ). k))))

    same : filters ≡ filter_array (up_to n)
    same =
        ext_get_or 0 filters (filter_array (up_to n)) (f.long ∙ sym (length_tabulate 32 _))
        (λ i h. let l : i < 32 = omega (arith, f.long) in at i l (dec_lt i n) ∙ sym (get_d_tabulate 32 (λ t. get_or (up_to n) t 0) i 0 l))

-- ---- the plan

-- What is left of a plan without its chain: its verdict.
pub verdict_is : (p : Result Chain Refusal) (v : Verdict) (P : Chain → Type 0) → is_ok v ≡ is_ok p → MatchResult p P (λ x. v ≡ Err x) → v ≡ verdict_of p
verdict_is (Ok c) (Ok _) P same m = refl
verdict_is (Ok c) (Err x) P same m = absurd (true≢false (sym same))
verdict_is (Err x) v P same m = m

module _ (g : Grid) (rows : List ℕ) (bounds : Bounds) (x y : Side) where
  abbrev d : ℕ
  d = dims_of g

  abbrev a : Own
  a = own_of d x

  abbrev b : Own
  b = own_of d y

  abbrev u : List (List ℤ)
  u = union a b

  -- The window that the code plans, and the union.
  abbrev window : Window
  window = union_window (union_in d x.window y.window)

  abbrev whole : Window
  whole = window_of (length u) u

  -- The raw request for a window, and all of it that plays a part.
  abbrev request : Window → Request
  request w = record { grid = g; window = w; bounds = bounds; kernel = kernel.Raw }

  abbrev value : Window → Trimmed
  value w = trimmed_request (request w) rows

  abbrev bad : Bool
  bad = bad_ground d (ground_of g rows)

  abbrev counts : Bool
  counts = any bad_count (a.count ∷ b.count ∷ length u ∷ [])

  module _ (e : bad ≡ false) where
    few : d ≤ 4
    few = few_dims d (ground_of g rows) (ground_dims g rows) e

    window_is : counts ≡ false → window ≡ whole
    unfolding any own_of union_window
    window_is n =
        let p = neither (bad_count x.window.count) _ n in
        let q = neither (bad_count y.window.count) _ p.1 in
        let r = neither (bad_count (length u)) false q.1 in
        rw (union_is d x y few (few_references x.window.count p.0) (few_references y.window.count q.0), le-leb (length u) 32 (few_references (length u) r.0))

  -- Either way the verdict is that on the union.
  same_verdict : first_of (pair_checks (value window) a b) ≡ first_of (pair_checks (value whole) a b)
  unfolding pair_checks first_of any trimmed_request
  same_verdict = go bad counts refl refl
    where
      go : (s t : Bool) → bad ≡ s → counts ≡ t → first_of (pair_checks (value window) a b) ≡ first_of (pair_checks (value whole) a b)
      go true t e f = rw e
      go false true e f = rw (e, f, or-true (bad_count window.count), or-true (bad_count (length u)))
      go false false e f = ap (λ (w : Window). first_of (pair_checks (value w) a b)) (window_is e f)

  -- What is found of the request, and what the windows and kernels add.
  found : earlier_of (verdict_of (plan_of (request window) rows)) (first_of (side_checks d window x y)) ≡ first_of (pair_checks (value whole) a b)
  unfolding judge_request trimmed_request
  found =
      ap (λ (v : Verdict). earlier_of v (first_of (side_checks d window x y))) (plan_verdict_lem (request window) rows)
      ∙ pair_verdict g rows window bounds (value window).capacities x y ∙ same_verdict

  -- By what the code finds.
  module _ (n : ℕ) (en : n ≡ d) (w : Window) (ew : w ≡ union_window (union_in n x.window y.window)) (p : Result Chain Refusal) (ep : p ≡ plan_of (request w) rows)
      (s : Verdict) (es : s ≡ first_of (side_checks n w x y)) (v : Verdict) (ev : v ≡ earlier_of (verdict_of p) s) where
    w_is : w ≡ window
    w_is = ew ∙ ap (λ (k : ℕ). union_window (union_in k x.window y.window)) en

    p_is : p ≡ plan_of (request window) rows
    p_is = ep ∙ ap (λ (o : Window). plan_of (request o) rows) w_is

    v_is : v ≡ first_of (pair_checks (value whole) a b)
    v_is = ev ∙ ap₂ earlier_of (ap verdict_of p_is) (es ∙ ap₂ (λ (k : ℕ) (o : Window). first_of (side_checks k o x y)) en w_is) ∙ found

    pub refused_so : (z : Refusal) → v ≡ Err z → Err z ≡ plan_pair_of g rows bounds x y
    unfolding plan_pair_of union_request
    refused_so z f = rw (sym v_is ∙ f)

    module _ (f : v ≡ Ok tt) where
      accepted : first_of (pair_checks (value whole) a b) ≡ Ok tt
      accepted = sym v_is ∙ f

      passed : PairPasses (value whole) a b
      passed = pair_passes (value whole) a b accepted

      is_whole : window ≡ whole
      unfolding trimmed_request any
      is_whole = window_is passed.grid (both_false passed.first_count (both_false passed.second_count (both_false passed.count refl)))

      judged_so : judge_request (request whole) rows ≡ Ok tt
      unfolding judge_request judged trimmed_request raw_of
      judged_so = raw_checks (value whole) a b passed

      planned : p ≡ Ok (planned_chain (request whole) rows)
      planned = p_is ∙ ap (λ (o : Window). plan_of (request o) rows) is_whole ∙ plan_taken (request whole) rows judged_so

      ordered : set_order (rising_order (length u)) (planned_chain (request whole) rows) ≡ chain_of (planned_union (request whole) rows)
      unfolding planned_union planned_chain chain_of sorted trimmed_request
      ordered = refl

      pub accepted_so : (q : Chain) → p ≡ Ok q → (o : Order) → o ≡ rising_order w.count → (c : Chain) → c ≡ set_order o q → Ok c ≡ plan_pair_of g rows bounds x y
      unfolding plan_pair_of union_request
      accepted_so q e o k c j =
          let there : q ≡ planned_chain (request whole) rows = cc planned in
          let same : c ≡ chain_of (planned_union (request whole) rows) = j ∙ ap₂ set_order (k ∙ ap (λ (r : Window). rising_order r.count) (w_is ∙ is_whole)) there ∙ ordered in
          ap Ok same ∙ rw accepted
