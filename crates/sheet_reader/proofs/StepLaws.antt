-- One line read: an accepted line has room; a step by its verdict.
use Prim.Native.Nat.{ℕ}
use mathlib.Core.Bool.{Bool}
use mathlib.Core.List.{List}
use mathlib.Core.Path.{◌≡◌, sym, ◌∙◌}
use native.Mathlib.Omega.{arith}
use Rattle.model.specs.declared.Reading.{Reading}
use Rattle.model.specs.declared.Refusal.{Refusal}
use Rattle.std.specs.Prelude.{Ok, Err}
use Rattle.model_sheet.specs.Frames.{Seen}
use Rattle.model_sheet.specs.Reading.{line_verdict, taken, step_of}
use Rattle.sheet_laws.proofs.AcceptedLines.{Admitted, admitted}
use Rattle.sheet_laws.proofs.AcceptedLines.Admitted.{grid, skewed_grid, offset, capacity, order, kernel, name, box}
use Rattle.sheet_reader.specs.Room.{Room}

pub accepted_room : (chained : Bool) (rows : List ℕ) (r : Reading) (l : Seen) → line_verdict chained rows r l ≡ Ok tt → Room r l.first
accepted_room chained rows r l h = go (admitted chained rows r l h).1
  where
    other : {kind a b : ℕ} → kind ≡ a → kind ≡ b → (a ≡ b → ⊥) → ⊥
    other p q n = n (sym p ∙ q)

    go : Admitted chained rows r l → Room r l.first
    go (grid e last some few len sizes) = record { offset = λ z. absurd (other e z (λ y. omega arith)); capacity = λ z. absurd (other e z (λ y. omega arith)) }
    go (skewed_grid e last some few len cells) = record { offset = λ z. absurd (other e z (λ y. omega arith)); capacity = λ z. absurd (other e z (λ y. omega arith)) }
    go (offset e last len count) = record { offset = λ z. count; capacity = λ z. absurd (other e z (λ y. omega arith)) }
    go (capacity e last chain given len) = record { offset = λ z. absurd (other e z (λ y. omega arith)); capacity = λ z. given }
    go (order e last chain given len) = record { offset = λ z. absurd (other e z (λ y. omega arith)); capacity = λ z. absurd (other e z (λ y. omega arith)) }
    go (name e last request len ok) = record { offset = λ z. absurd (other e z (λ y. omega arith)); capacity = λ z. absurd (other e z (λ y. omega arith)) }
    go (box e last len) = record { offset = λ z. absurd (other e z (λ y. omega arith)); capacity = λ z. absurd (other e z (λ y. omega arith)) }
    go (kernel e last given form) = record { offset = λ z. absurd (other e z (λ y. omega arith)); capacity = λ z. absurd (other e z (λ y. omega arith)) }

module _ (chained : Bool) (rows : List ℕ) (r : Reading) (l : Seen) where
  pub step_accepted : (t : Reading) → line_verdict chained rows r l ≡ Ok tt → t ≡ taken r l.first
      → record { verdict = Ok tt; reading = t } ≡ step_of chained rows r l
  unfolding step_of
  step_accepted t e q = rw (e, q)

  pub step_refused : (x : Refusal) → line_verdict chained rows r l ≡ Err x → record { verdict = Err x; reading = r } ≡ step_of chained rows r l
  unfolding step_of
  step_refused x e = rw e
