-- 16 bits in two's complement, and 32.
use Prim.Native.Nat.{ℕ, suc, ◌+◌, ◌-◌, ◌%◌, ◌≤◌, ◌<◌}
use mathlib.Core.Path.{◌≡◌, refl, ap}
use native.Mathlib.Omega.{arith}
use lib.IntN.{ℤ, pos, negsuc, ◌+ℤ◌, ◌-ℤ◌}
use lib.Signed.{mag}
use borrow.Author.Tests.{le-ltb, lt-ltb}
use Rattle.model_sheet.specs.Numbers.{signed, pattern, signed_word, word_pattern}

pub signed_low : (w : ℕ) → w < 32768 → pos w ≡ signed w
unfolding signed
signed_low w h = rw (lt-ltb _ _ h)

pub signed_high : (w : ℕ) → 32768 ≤ w → w < 65536 → pos w -ℤ pos 65536 ≡ signed w
unfolding signed
signed_high w h l =
    let e : 65536 - suc w ≡ 65535 - w = omega arith in
    rw (le-ltb _ _ h, lt-ltb w 65536 l) (ap negsuc e)

pub signed_small : (w : ℕ) → 32768 ≤ w → w < 65536 → mag (signed w) < 32768
unfolding signed
signed_small w h l = rw (le-ltb _ _ h) (omega arith)

-- An entry and 65536 more.
abbrev pub raised : ℤ → ℕ
raised (pos n) = n + 65536
raised (negsuc n) = 65535 - n

pub sum_raised : (z : ℤ) → mag z < 32768 → z +ℤ pos 65536 ≡ pos (raised z)
sum_raised (pos n) h = refl
sum_raised (negsuc n) h = rw (le-ltb 65536 (suc n) (omega arith)) (ap pos (omega arith))

pub raised_small : (z : ℤ) → mag z < 32768 → raised z < 131072
raised_small (pos n) h = omega arith
raised_small (negsuc n) h = omega arith

pub raised_pattern : (z : ℤ) → mag z < 32768 → raised z % 65536 ≡ pattern z
unfolding pattern
raised_pattern (pos n) h = omega arith
raised_pattern (negsuc n) h = omega arith

pub signed_word_low : (w : ℕ) → w < 2147483648 → pos w ≡ signed_word w
unfolding signed_word
signed_word_low w h = rw (lt-ltb _ _ h)

pub signed_word_high : (w : ℕ) → 2147483648 ≤ w → w < 4294967296 → pos w -ℤ pos 4294967296 ≡ signed_word w
unfolding signed_word
signed_word_high w h l =
    let e : 4294967296 - suc w ≡ 4294967295 - w = omega arith in
    rw (le-ltb _ _ h, lt-ltb w 4294967296 l) (ap negsuc e)

pub signed_word_small : (w : ℕ) → 2147483648 ≤ w → w < 4294967296 → mag (signed_word w) < 2147483648
unfolding signed_word
signed_word_small w h l = rw (le-ltb _ _ h) (omega arith)

-- An index and 4294967296 more.
abbrev pub lifted : ℤ → ℕ
lifted (pos n) = n + 4294967296
lifted (negsuc n) = 4294967295 - n

pub sum_lifted : (z : ℤ) → mag z < 2147483648 → z +ℤ pos 4294967296 ≡ pos (lifted z)
sum_lifted (pos n) h = refl
sum_lifted (negsuc n) h = rw (le-ltb 4294967296 (suc n) (omega arith)) (ap pos (omega arith))

pub lifted_small : (z : ℤ) → mag z < 2147483648 → lifted z < 8589934592
lifted_small (pos n) h = omega arith
lifted_small (negsuc n) h = omega arith

pub lifted_pattern : (z : ℤ) → mag z < 2147483648 → lifted z % 4294967296 ≡ word_pattern z
unfolding word_pattern
lifted_pattern (pos n) h = omega arith
lifted_pattern (negsuc n) h = omega arith
