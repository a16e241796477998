-- How many firings fit.
use Prim.Native.Nat.{ℕ, ◌+◌, ◌-◌, ◌*◌, ◌/◌, ◌≤◌, ◌<◌, min}
use mathlib.Core.Bool.{Bool, true, false, cond, ◌||◌}
use mathlib.Core.Path.{◌≡◌}
use native.Mathlib.Nat.{div-mul-le_self, mul-le-mul_left, mul-le-mul_right, le_trans}
use native.Mathlib.Omega.{arith}
use lib.Dec.{eqb, ltb}
use Rattle.program_writer.specs.Texts.{firing_chars, fitting}

-- Where a line has no fewer characters than words, the words whose lines fit are no more than there are characters.
pub room_bound : (size chars room limit : ℕ) → size ≤ chars → room < limit → room / chars * size < limit
room_bound size chars room limit h r =
    let m : room / chars * size ≤ room = le_trans (mul-le-mul_left (room / chars) h) (div-mul-le_self room chars) in
    omega arith

-- So many firings have their words, room for their lines, and indices below 4294967295.
pub record Fits (size index words room lines : ℕ) : Type 0 where
  pub has_words : lines * size ≤ words
  pub has_room : lines * firing_chars size ≤ room
  pub has_indices : lines ≤ 4294967295 - index

module _ (size index n words room : ℕ) where
  lines : ℕ
  lines = min n (min (words / size) (min (room / firing_chars size) (4294967295 - index)))

  pub fit : (l : ℕ) → l ≡ fitting size index n words room → Fits size index words room l
  unfolding fitting lines
  fit l e = rw e (one_way (eqb size 0 || ltb 32 size))
    where
      one_way : (b : Bool) → Fits size index words room (cond b 0 lines)
      one_way true = record { has_words = omega arith; has_room = omega arith; has_indices = omega arith }
      one_way false = record {
        has_words = le_trans (mul-le-mul_right size (omega arith)) (div-mul-le_self words size);
        has_room = le_trans (mul-le-mul_right (firing_chars size) (omega arith)) (div-mul-le_self room (firing_chars size));
        has_indices = omega arith;
      }

-- One step more, of k places, where there is room for all steps.
step_room : (i all k room : ℕ) → i < all → all * k ≤ room → i * k + k ≤ room
step_room i all k room h r =
    let e : (i + 1) * k ≡ i * k + k = omega arith in
    rw (← e) (le_trans (mul-le-mul_right k (omega arith)) r)

-- The next firing's line and words.
pub next_fits : (size index words room lines i : ℕ) → Fits size index words room lines → i < lines
    → (i * firing_chars size + firing_chars size ≤ room) × (i * size + size ≤ words)
next_fits size index words room lines i f h =
    (step_room i lines (firing_chars size) room h f.has_room, step_room i lines size words h f.has_words)
