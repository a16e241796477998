-- A call takes no more cells than it is lent.
use Rattle.std.proofs.Common.{◌≡◌, ℕ, suc, ◌≤◌, Bool, List, [], ◌∷◌, map, length, refl, arith}
use Rattle.model.specs.declared.Counts.{Counts}
use Rattle.model.specs.declared.State.{State}
use Rattle.std.specs.Prelude.{Ok, Err}
use Rattle.model.specs.declared.Chain.{Chain}
use Rattle.model.specs.Answers.{Verdict, answer_counts, outcome_counts}
use Rattle.model_run.specs.Clock.{Layout, Counters, first, turns, next}
use Rattle.model.specs.Values.{trimmed}
use Rattle.model_run.specs.Running.{Standing, Ended, Ending, Done, Spent, Starved, Stalled, Full, goes, outcome_of, clocked, call, layout, written_by, width_of, begun, ended, judge_run, run_trimmed, run_of}
use Rattle.flow.proofs.Tests.{by_next}
use Rattle.flow.proofs.Turns.{moved_turned}
use Rattle.run_laws.proofs.Looks.{Looked, is_going, along_call}

module _ (L : Layout) (write : List ℕ → List ℕ) (size : ℕ) (lent : List ℕ) where
  one_cell_lem : (s : Counters) → first (next L s).passed ≤ suc (first s.passed)
  unfolding turns
  one_cell_lem s = by_next L (λ x. first x.passed ≤ suc (first s.passed)) s (λ _. firing s.passed) (λ _. turning s.passed)
    where
      firing : (ps : List ℕ) → first (map suc ps) ≤ suc (first ps)
      firing [] = omega arith
      firing (p ∷ ps) = omega arith

      turning : (ps : List ℕ) → first (turns (L.wants s.fired) L.capacity 0 L.cells ps) ≤ suc (first ps)
      turning [] = omega arith
      turning (p ∷ ps) = (moved_turned L s.fired 0 L.cells p ps).slow

  pub no_more : (left : ℕ) (s : Standing) → s.done.cells ≤ length lent → (call L write size lent left s).standing.done.cells ≤ length lent
  unfolding clocked
  no_more = along_call L write size lent (λ left s r es. s.done.cells ≤ length lent → r.standing.done.cells ≤ length lent) (λ left s e h x. x) further
    where
      further : (left : ℕ) (s : Standing) (r : Ended) (es : List Bool) → Looked L write size lent (suc left) s goes
          → ((clocked L write size lent s).done.cells ≤ length lent → r.standing.done.cells ≤ length lent) → s.done.cells ≤ length lent
          → r.standing.done.cells ≤ length lent
      further left s r es (is_going _ _ fewer _ _) h x = h (omega (arith, one_cell_lem s.counters))

counts_back : (e : Ending) (c : Counts) → outcome_counts (outcome_of e c) ≡ c
unfolding outcome_counts outcome_of
counts_back Done c = refl
counts_back Spent c = refl
counts_back Starved c = refl
counts_back Stalled c = refl
counts_back Full c = refl

pub lent_at_most : (c : Chain) (rows : List ℕ) (s : State) (store lent output : List ℕ) (allowance : ℕ)
    → (answer_counts (run_of c rows s store lent output allowance).answer).cells ≤ length lent
unfolding run_of run_trimmed answer_counts ended begun
lent_at_most c rows s store lent output allowance = go (judge_run (trimmed c rows) s store) refl
  where
    go : (v : Verdict) → judge_run (trimmed c rows) s store ≡ v → (answer_counts (run_of c rows s store lent output allowance).answer).cells ≤ length lent
    go (Err x) e = rw e (omega arith)
    go (Ok _) e =
        rw (e, counts_back (ended (trimmed c rows) s store lent output allowance).ending (ended (trimmed c rows) s store lent output allowance).standing.done)
        (no_more (layout (trimmed c rows)) (written_by (trimmed c rows)) (width_of (trimmed c rows)) lent allowance (begun (trimmed c rows) s store output) (omega arith))
