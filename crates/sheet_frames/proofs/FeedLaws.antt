-- One character more, and the rest of a line: one law for each way.
use Prim.Native.Nat.{ℕ, ◌+◌, ◌*◌, ◌%◌, ◌≤◌, ◌<◌}
use mathlib.Core.Bool.{true, false}
use mathlib.Core.List.{List}
use mathlib.Core.Path.{◌≡◌}
use native.Mathlib.Nat.{mod-eq_of_lt}
use native.Mathlib.Numerals.{add-one}
use native.Mathlib.Omega.{arith}
use lib.ListN.{length, drop, get_or, set, drop_of_length-le}
use lib.Seq.{drop-cons}
use borrow.Author.Tests.{lt-ltb, le-ltb}
use Rattle.model.specs.declared.Frame.{Frame}
use Rattle.model_sheet.specs.Frames.{is_digit, value_of, kept, counted, pushed, fed, feeds}
use Rattle.sheet_laws.proofs.FrameLaws.{value_small}
use Rattle.std.specs.Prelude.{None, Some}

-- Two digits are a byte.
pub joined : (high c : ℕ) → is_digit c ≡ true → (v : ℕ) → v ≡ value_of c → (b : ℕ) → b ≡ high % 16 * 16 + v % 16 → b ≡ high % 16 * 16 + value_of c
joined high c digit v value b is = rw (is, value, mod-eq_of_lt (value_small c digit))

module _ (f : Frame) (c : ℕ) where
  pub fed_other : is_digit c ≡ false → record { first = f.first; len = f.len; sound = false; upper = f.upper } ≡ fed f c
  unfolding fed
  fed_other e = rw e

  module _ (digit : is_digit c ≡ true) (v : ℕ) (value : v ≡ value_of c) where
    pub fed_high : f.upper ≡ None → record { first = f.first; len = f.len; sound = f.sound; upper = Some v } ≡ fed f c
    unfolding fed
    fed_high h = rw (digit, h, value)

    pub fed_kept : (high b : ℕ) → b ≡ high % 16 * 16 + v % 16 → f.upper ≡ Some high → f.len < kept
        → record { first = set f.first f.len b; len = f.len + 1; sound = f.sound; upper = None } ≡ fed f c
    unfolding fed pushed
    fed_kept high b is h l = let m : f.len < counted = omega arith in rw (digit, h, lt-ltb _ _ l, lt-ltb _ _ m, joined high c digit v value b is)

    pub fed_counted : (high : ℕ) → f.upper ≡ Some high → kept ≤ f.len → f.len < counted
        → record { first = f.first; len = f.len + 1; sound = f.sound; upper = None } ≡ fed f c
    unfolding fed pushed
    fed_counted high h l m = rw (digit, h, le-ltb _ _ l, lt-ltb _ _ m)

    pub fed_past : (high : ℕ) → f.upper ≡ Some high → counted ≤ f.len → record { first = f.first; len = f.len; sound = f.sound; upper = None } ≡ fed f c
    unfolding fed pushed
    fed_past high h m = let l : kept ≤ f.len = omega arith in rw (digit, h, le-ltb _ _ l, le-ltb _ _ m)

-- The rest of a line: a character more, and none.
pub feeds_on : (f g : Frame) (s : List ℕ) (i : ℕ) → i < length s → g ≡ fed f (get_or s i 0) → feeds g (drop (i + 1) s) ≡ feeds f (drop i s)
unfolding feeds
feeds_on f g s i h e = rw (e, add-one, drop-cons s i 0 h)

pub feeds_end : (f : Frame) (s : List ℕ) (i : ℕ) → length s ≤ i → f ≡ feeds f (drop i s)
unfolding feeds
feeds_end f s i h = rw (drop_of_length-le s {i = i} h)
