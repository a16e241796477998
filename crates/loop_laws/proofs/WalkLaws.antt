-- The walk to an iteration, dimension by dimension.
use Prim.Native.Nat.{ℕ, suc, ◌+◌, ◌-◌, ◌*◌, ◌/◌, ◌%◌, ◌≤◌, ◌<◌}
use mathlib.Core.List.{List}
use mathlib.Core.Path.{◌≡◌, ◌∙◌, ap}
use native.Mathlib.Nat.{sub-zero}
use native.Mathlib.Numerals.{add-one}
use native.Mathlib.Omega.{arith}
use lib.ListN.{get_or}
use Rattle.loop_laws.specs.LoopTables.{walked}

module _ (spans strides : List ℕ) (dims j : ℕ) where
  -- The loop has come to dimension d: what remains gives what the whole does.
  pub record Walking (sum left d : ℕ) : Type 0 where
    pub range : d ≤ dims
    pub remains : sum + walked spans strides (dims - d) d left ≡ walked spans strides dims 0 j

  pub walking_start : Walking 0 j 0
  walking_start = record { range = omega arith; remains = rw sub-zero (omega arith) }

  module _ (sum left d : ℕ) (s : Walking sum left d) where
    step : d < dims → sum + (left / get_or spans d 0 * get_or strides d 0 + walked spans strides (dims - suc d) (suc d) (left % get_or spans d 0)) ≡ walked spans strides dims 0 j
    unfolding walked
    step h = ap (λ (m : ℕ). sum + walked spans strides m d left) (let e : suc (dims - suc d) ≡ dims - d = omega arith in e) ∙ s.remains

    pub term_small : d < dims → walked spans strides dims 0 j ≤ 1048576 → sum + left / get_or spans d 0 * get_or strides d 0 ≤ 1048576
    term_small h l = omega (arith, step h)

    pub walking_again : d < dims → Walking (sum + left / get_or spans d 0 * get_or strides d 0) (left % get_or spans d 0) (d + 1)
    walking_again h = rw add-one record { range = h; remains = omega (arith, step h) }

    pub walking_end : dims ≤ d → sum ≡ walked spans strides dims 0 j
    unfolding walked
    walking_end h = omega (arith, none ∙ s.remains)
      where
        none : sum + walked spans strides 0 d left ≡ sum + walked spans strides (dims - d) d left
        none = ap (λ (m : ℕ). sum + walked spans strides m d left) (let e : 0 ≡ dims - d = omega arith in e)
