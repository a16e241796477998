-- A call keeps the number of counters.
use Prim.Native.Nat.{ℕ, suc}
use mathlib.Core.List.{List, [], ◌∷◌}
use mathlib.Core.Path.{◌≡◌, refl, ◌∙◌, ap}
use lib.ListN.{length, length-map}
use Rattle.model.specs.Values.{Trimmed}
use Rattle.model_run.specs.Clock.{Layout, Counters, next, turns}
use Rattle.model_run.specs.Running.{layout, counters_of, Standing, begun, written_by, width_of, ended, call, clocked}
use Rattle.model.specs.declared.State.{State}
use Rattle.grid_laws.proofs.ListLaws.{length_tabulate}
use Rattle.flow.proofs.Tests.{by_next}
use Rattle.run_laws.proofs.Looks.{along_call}

pub length_turns : (wanted capacity : ℕ → ℕ) (k source : ℕ) (ps : List ℕ) → length (turns wanted capacity k source ps) ≡ length ps
unfolding turns
length_turns wanted capacity k source [] = refl
length_turns wanted capacity k source (p ∷ ps) = ap suc (length_turns wanted capacity (suc k) p ps)

length_next : (L : Layout) (s : Counters) → length (next L s).passed ≡ length s.passed
length_next L s = by_next L (λ x. length x.passed ≡ length s.passed) s (λ _. length-map s.passed suc) (λ _. length_turns _ _ 0 _ s.passed)

length_call : (L : Layout) (write : List ℕ → List ℕ) (size : ℕ) (lent : List ℕ) (left : ℕ) (s : Standing)
    → length (call L write size lent left s).standing.counters.passed ≡ length s.counters.passed
unfolding clocked
length_call L write size lent = along_call L write size lent (λ _ s r _. length r.standing.counters.passed ≡ length s.counters.passed) (λ _ _ _ _. refl)
    (λ left s r es _ e. e ∙ length_next L s.counters)

pub length_ended : (t : Trimmed) (s : State) (store lent output : List ℕ) (allowance : ℕ) → length (ended t s store lent output allowance).standing.counters.passed ≡ t.count
unfolding ended begun counters_of
length_ended t s store lent output allowance = length_call (layout t) (written_by t) (width_of t) lent allowance _ ∙ length_tabulate t.count _
