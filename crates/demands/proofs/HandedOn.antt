-- Demand 3, what the state that is handed on counts: the proofs.
use Prim.Native.Nat.{ℕ, zero, suc, ◌+◌, ◌<◌}
use mathlib.Core.Bool.{Bool}
use mathlib.Core.List.{List, [], ◌∷◌}
use mathlib.Core.Path.{◌≡◌, refl, sym, ◌∙◌, ap}
use native.Mathlib.Nat.{zero-add, add-zero}
use native.Mathlib.Omega.{arith}
use lib.ListN.{get_or, replicate}
use Rattle.model.specs.Lists.{tabulate, sum}
use Rattle.model.specs.Answers.{answer_counts}
use Rattle.model_run.specs.Clock.{Counters, first, fresh}
use Rattle.model_run.specs.Running.{layout, counters_of, Run}
use Rattle.model_run.specs.CallLists.{Lending, Between, call_run, after, after_all, runs, cells_taken}
use Rattle.model.specs.declared.Counts.{Counts}
use Rattle.demands.specs.Demand3.{ListOfCalls, runs_of, handed_on, HandsOn, chain_in}
use Rattle.run_laws.proofs.Between.{Setting, Reached, now, ending, refused, ran, by_call, sound_end, reached_fired, after_reached, now_after}
use Rattle.run_laws.proofs.CallEnds.{outcome_counts_lem, not_short}
use Rattle.demands.proofs.Finishing.{setting, start, reached, numbered}

module _ (S : Setting) where
  open S use {trimmed as t, stream}

  -- A call moves filter 0's counter on by the cells that it takes, and so does a list of calls.
  call_cells : (l : Lending) (b : Between) {es : List Bool} → Reached S b es
      → first (now S (after t stream l b)).passed ≡ first (now S b).passed + (answer_counts (call_run t stream l b).answer).cells
  unfolding after refused ran answer_counts
  call_cells l b r =
      by_call S l b r (λ x _. first (counters_of t.count x.state).passed ≡ first (now S b).passed + (answer_counts x.answer).cells)
      (λ _. sym (add-zero _))
      (λ s. ap (λ (x : Run). first (counters_of t.count x.state).passed) (sym (not_short S l b r s))
      ∙ ap (λ (c : Counters). first c.passed) (now_after S l b r s) ∙ (sound_end S l b r s).taken
      ∙ ap (λ (c : Counts). first (now S b).passed + c.cells) (sym (outcome_counts_lem (ending S l b).ending (ending S l b).standing.done)))

  list_cells : (ls : List Lending) (b : Between) (es : List Bool) → Reached S b es
      → first (now S (after_all t stream ls b)).passed ≡ first (now S b).passed + cells_taken (runs t stream ls b)
  unfolding after_all runs cells_taken sum
  list_cells [] b es r = sym (add-zero _)
  list_cells (l ∷ ls) b es r = omega (arith, list_cells ls (after t stream l b) _ (after_reached S l b r), call_cells l b r)

first_of_lem : (n : ℕ) (f : ℕ → ℕ) → 0 < n → first (tabulate n f) ≡ f 0
unfolding tabulate
first_of_lem zero f h = absurd (omega arith)
first_of_lem (suc n) f h = refl

first_zero : (n : ℕ) → first (replicate n 0) ≡ 0
first_zero zero = refl
first_zero (suc n) = refl

pub hands_on : (q : ListOfCalls) → HandsOn q
unfolding counters_of fresh
hands_on q = record {
  firings = reached_fired (setting q) (reached q) ∙ (numbered q).firings;
  cells = sym (first_of_lem (chain_in q).count (λ k. (get_or (handed_on q).state.passed k (record { 0 = 0 })).0) (setting q).accepted.some)
      ∙ list_cells (setting q) q.calls q.start [] (start q)
      ∙ ap (λ (n : ℕ). n + cells_taken (runs_of q)) (ap (λ (c : Counters). first c.passed) q.fresh.counters ∙ first_zero (layout (chain_in q)).filters)
      ∙ zero-add _;
}
