-- Numbers that fit.
use Prim.Native.Nat.{ℕ, ◌≤◌}
use native.Mathlib.Omega.{arith}
use mir.Syntax.{w64}
use mir.Val.{Fits}

pub small_fits : (x : ℕ) → x ≤ 1048577 → Fits w64 x
small_fits x h = record { fits = omega arith }
