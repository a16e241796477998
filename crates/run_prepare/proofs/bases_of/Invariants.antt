use Prim.Native.Nat.{◌+◌, ◌*◌, ◌≤◌}
use mathlib.Core.Path.{◌≡◌}
use Rattle.model_run.specs.Store.{first_place}
use Rattle.run_prepare.specs.Prepared.{number_at, blank, Filled}
use Rattle.run_prepare.proofs.bases_of.Given as goal

abbrev pub invariant-loop-k : goal.invariant-loop-k
invariant-loop-k l =
    (l.places ≤ 4294967296 * l.k) × (l.places ≡ first_place (number_at l.caps) l.k)
    × Filled blank (first_place (number_at l.caps)) l.k l.bases × Filled blank (λ i. first_place (number_at l.caps) i + number_at l.caps i) l.k l.tops
