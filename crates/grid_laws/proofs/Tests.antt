-- Two tests of which neither holds.
use mathlib.Core.Bool.{Bool, false, ◌||◌}
use mathlib.Core.Path.{◌≡◌}
use mathlib.Mathlib.Data.Bool.Basic.{or-eq-false-eq-eq-false-and-eq-false}

pub neither : (a b : Bool) → (a || b) ≡ false → (a ≡ false) × (b ≡ false)
neither a b e = (or-eq-false-eq-eq-false-and-eq-false a b).0 e

pub both_false : {a b : Bool} → a ≡ false → b ≡ false → (a || b) ≡ false
both_false e d = rw e d
