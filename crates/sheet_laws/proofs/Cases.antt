-- Cases by a test, and what a test that came out false says.
use Prim.Native.Nat.{ℕ, ◌≤◌, ◌<◌}
use mathlib.Core.Bool.{Bool, true, false, cond, ◌&&◌, ◌||◌}
use mathlib.Core.Path.{◌≡◌, refl}
use native.Mathlib.Omega.{arith}
use lib.Dec.{eqb, ltb}
use borrow.Author.Tests.{eq-eqb, eqb-true, eqb-false, ltb-true, ltb-false}

pub by_bool : {A : Type 0} (b : Bool) → (b ≡ true → A) → (b ≡ false → A) → A
by_bool true y n = y refl
by_bool false y n = n refl

pub by_eq : {A : Type 0} (a b : ℕ) → (a ≡ b → A) → ((a ≡ b → ⊥) → A) → A
by_eq a b y n = by_bool (eqb a b) (λ e. y (eqb-true a b e)) (λ e. n (eqb-false a b e))

pub by_lt : {A : Type 0} (a b : ℕ) → (a < b → A) → (b ≤ a → A) → A
by_lt a b y n = by_bool (ltb a b) (λ e. y (ltb-true a b e)) (λ e. n (ltb-false a b e))

pub never : true ≡ false → ⊥
never h = let z : ◌≡◌ {A = ℕ} 0 1 = cc in omega arith

pub and_true : (a b : Bool) → (a && b) ≡ true → (a ≡ true) × (b ≡ true)
and_true true b h = (refl, h)
and_true false b h = absurd (let z : ◌≡◌ {A = ℕ} 0 1 = cc in omega arith)

-- A test for one kind of line only.
pub of_kind : (kind k : ℕ) (b : Bool) → (eqb kind k && b) ≡ false → kind ≡ k → b ≡ false
of_kind kind k b h e = rw (eq-eqb _ _ e) at h

-- `cond a b true` and `cond a true b`, which came out false.
pub both : (a b : Bool) → cond a b true ≡ false → (a ≡ true) × (b ≡ false)
both true b h = (refl, h)
both false b h = absurd (never h)

pub neither : (a b : Bool) → cond a true b ≡ false → (a ≡ false) × (b ≡ false)
neither true b h = absurd (never h)
neither false b h = (refl, h)

pub or-false : (a b : Bool) → (a || b) ≡ false → (a ≡ false) × (b ≡ false)
or-false true b h = absurd (never h)
or-false false b h = (refl, h)
