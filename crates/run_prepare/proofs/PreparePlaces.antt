-- The FIFOs' places in the store, one FIFO after the other.
use Prim.Native.Nat.{ℕ, zero, suc, ◌+◌, ◌<◌}
use mathlib.Core.Path.{◌≡◌, refl, sym, ◌∙◌, ap, ap₂}
use native.Mathlib.Numerals.{add-one}
use native.Mathlib.Omega.{arith}
use Rattle.model.specs.Lists.{sum, tabulate}
use Rattle.model_run.specs.Store.{first_place}
use Rattle.run_laws.proofs.Held.{first_place_suc}

pub no_place_lem : (capacity : ℕ → ℕ) → 0 ≡ first_place capacity 0
unfolding first_place sum tabulate
no_place_lem capacity = refl

pub next_place : (capacity : ℕ → ℕ) (k places : ℕ) → places ≡ first_place capacity k → places + capacity k ≡ first_place capacity (k + 1)
next_place capacity k places e = ap (λ (x : ℕ). x + capacity k) e ∙ sym (first_place_suc capacity k) ∙ ap (first_place capacity) (sym (add-one k))

pub same_places : (k : ℕ) (f g : ℕ → ℕ) → ((i : ℕ) → i < k → f i ≡ g i) → first_place f k ≡ first_place g k
same_places zero f g e = sym (no_place_lem f) ∙ no_place_lem g
same_places (suc k) f g e =
    first_place_suc f k ∙ ap₂ ◌+◌ (same_places k f g (λ i h. e i (omega arith))) (e k (omega arith)) ∙ sym (first_place_suc g k)
