-- Counters put back into a state, one after the other.
use Prim.Native.Nat.{ℕ, zero, suc, ◌+◌, ◌≤◌, ◌<◌}
use mathlib.Core.List.{List, [], ◌∷◌, ◌++◌, map}
use mathlib.Core.Path.{◌≡◌, refl, sym, ◌∙◌, ap, ap₂}
use native.Mathlib.Numerals.{add-one}
use native.Mathlib.Omega.{arith}
use lib.ListN.{length, take, drop, set}
use lib.Seq.{length-take-le}
use Rattle.model_run.specs.Running.{with_counters}
use Rattle.model.specs.declared.CellsPassed.{CellsPassed}
use Rattle.model.specs.declared.State.{State}
use Rattle.run_prepare.specs.Prepared.{number_at}

abbrev pub counter : ℕ → CellsPassed
counter p = record { 0 = p }

-- The first k counters are those of the array, the others as they were.
abbrev pub put_back : (k : ℕ) → List ℕ → List CellsPassed → List CellsPassed
put_back k ps qs = map counter (take k ps) ++ drop k qs

put_suc : (k : ℕ) (ps : List ℕ) (qs : List CellsPassed) → k < length ps → k < length qs → set (put_back k ps qs) k (counter (number_at ps k)) ≡ put_back (suc k) ps qs
put_suc zero [] qs h g = absurd (omega arith)
put_suc zero (p ∷ ps) [] h g = absurd (omega arith)
put_suc zero (p ∷ ps) (q ∷ qs) h g = refl
put_suc (suc k) [] qs h g = absurd (omega arith)
put_suc (suc k) (p ∷ ps) [] h g = absurd (omega arith)
put_suc (suc k) (p ∷ ps) (q ∷ qs) h g = ap (λ (l : List CellsPassed). counter p ∷ l) (put_suc k ps qs (omega arith) (omega arith))

pub put_more : (k : ℕ) (ps : List ℕ) (qs to : List CellsPassed) (p : ℕ) → k < length ps → k < length qs → p ≡ number_at ps k → to ≡ put_back k ps qs
    → set to k (counter p) ≡ put_back (k + 1) ps qs
put_more k ps qs to p h g e d = ap₂ (λ (l : List CellsPassed) (x : ℕ). set l k (counter x)) d e ∙ put_suc k ps qs h g ∙ ap (λ (i : ℕ). put_back i ps qs) (sym (add-one k))

pub put_all : (n fired : ℕ) (ps : List ℕ) (s : State) (to : List CellsPassed) → n ≤ length ps → to ≡ put_back n ps s.passed
    → ◌≡◌ {A = State} (record { passed = to; fired = record { 0 = fired } }) (with_counters s (record { fired = fired; passed = take n ps }))
unfolding with_counters
put_all n fired ps s to h e = λ i. record {
  passed = (e ∙ ap (λ (m : ℕ). map counter (take n ps) ++ drop m s.passed) (sym (length-take-le n ps h))) i;
  fired = record { 0 = fired };
}
