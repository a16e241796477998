-- The clocks of iterations.
use Prim.Native.Nat.{ℕ, zero, suc, ◌+◌, ◌-◌, ◌≤◌, ◌<◌}
use mathlib.Core.List.{List}
use mathlib.Core.Path.{◌≡◌, refl}
use native.Mathlib.Omega.{arith}
use lib.ListN.{length}
use Rattle.model.specs.Lists.{tabulate}
use Rattle.model.specs.Grounds.Ground.{rectangle}
use Rattle.model.specs.Values.{Trimmed}
use Rattle.model.specs.Sized.{Fitting}
use Rattle.model.specs.Iterations.{iterations_of, reads_of, newest_of, clock_of}
use Rattle.grid_laws.proofs.ListLaws.{length_tabulate, get_d_tabulate, greatest_above, greatest_stands}
use Rattle.grid_laws.proofs.Iterations.{newest_most, newest_read, rises, one_distance}

module _ (t : Trimmed) (f : Fitting t) where
  way : (j k : ℕ) → ℕ
  way j k = reads_of t (suc j) k - reads_of t j k

  -- No reference has further to go than the clocks are apart, and one has as far.
  furthest_most : (j k : ℕ) → k < t.count → clock_of t j + reads_of t (suc j) k ≤ clock_of t (suc j) + reads_of t j k
  unfolding clock_of way
  furthest_most j k h =
      let b : k < length t.offsets = omega (arith, f.references) in
      let g = rw (get_d_tabulate (length t.offsets) (way j) k 0 b) at (greatest_above (tabulate (length t.offsets) (way j)) k 0 (rw length_tabulate b)) in
      omega (arith, g)

  furthest_stands : (j : ℕ) → suc j < iterations_of t → (k : ℕ) × (k < t.count) × (clock_of t j + reads_of t (suc j) k ≡ clock_of t (suc j) + reads_of t j k)
  unfolding clock_of way
  furthest_stands j h =
      let (k, b, e) = greatest_stands (tabulate (length t.offsets) (way j)) 0 (rw length_tabulate f.suits.some) in
      let c = rw length_tabulate at b in
      let d : k < t.count = omega (arith, f.references) in
      (k, d, omega (arith, e, get_d_tabulate (length t.offsets) (way j) k 0 c, rises t f j (suc j) k (omega arith) h d))

  -- An iteration's clock is not before what it reads.
  reads_before : (j k : ℕ) → k < t.count → reads_of t j k ≤ clock_of t j
  unfolding clock_of
  reads_before zero k h = newest_most t f 0 k h
  reads_before (suc j) k h = omega (arith, reads_before j k h, furthest_most j k h)

  pub newest_before : (j : ℕ) → newest_of t j ≤ clock_of t j
  newest_before j = let (k, h, e) = newest_read t f j in omega (arith, e, reads_before j k h)

  -- On a rectangle it is the newest cell's position.
  pub rectangle_clock : (sizes : List ℕ) → t.the_ground ≡ rectangle sizes → (j : ℕ) → j < iterations_of t → clock_of t j ≡ newest_of t j
  unfolding clock_of
  rectangle_clock sizes is zero h = refl
  rectangle_clock sizes is (suc j) h =
      let b : j < iterations_of t = omega arith in
      let (x, a, e) = furthest_stands j h in
      let (k, y, d) = newest_read t f j in
      omega (
        arith,
        rectangle_clock sizes is j b,
        newest_before (suc j),
        e,
        d,
        newest_most t f (suc j) x a,
        newest_most t f (suc j) k y,
        newest_most t f j x a,
        one_distance t f sizes is (suc j) j k x h b y a,
      )
