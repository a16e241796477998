-- Entries, indices and factors, there and back; what setting entries leaves.
use Prim.Native.Nat.{ℕ, zero, suc, ◌+◌, ◌-◌, ◌≤◌, ◌<◌}
use mathlib.Core.Bool.{false, not}
use mathlib.Core.List.{List, [], ◌∷◌}
use mathlib.Core.Path.{◌≡◌, refl, ap, ◌∙◌}
use native.Mathlib.Omega.{arith}
use lib.Dec.{T}
use lib.Ieee.{Float, nan, inf, fin, of_bits, to_bits, is_nan, binary32}
use lib.Ieee.Bits.{to_bits-of_bits}
use lib.IntN.{ℤ, pos, negsuc}
use lib.ListN.{length, get_or, set, length-set}
use lib.Seq.{sets, get_or-set_same, get_or-set_other}
use lib.Signed.{mag}
use borrow.Author.Tests.{lt-ltb, le-ltb}
use Rattle.model.specs.Judging.{not_finite}
use Rattle.model_sheet.specs.Numbers.{signed, pattern, signed_word, word_pattern}
use Rattle.sheet_laws.proofs.Cases.{by_lt, never}

-- 16 bits in two's complement.
pub pattern_signed : (w : ℕ) → w < 65536 → pattern (signed w) ≡ w
unfolding signed pattern
pattern_signed w h = by_lt w 32768 (λ l. rw (lt-ltb _ _ l)) (λ l. rw (le-ltb _ _ l) (omega arith))

pub signed_pattern : (z : ℤ) → mag z < 32768 → signed (pattern z) ≡ z
unfolding signed pattern
signed_pattern (pos n) h = rw (lt-ltb _ _ h)
signed_pattern (negsuc n) h =
    let q : 32768 ≤ 65535 - n = omega arith in
    let e : 65535 - (65535 - n) ≡ n = omega arith in
    rw (le-ltb _ _ q, e)

pub pattern_small : (z : ℤ) → mag z < 32768 → pattern z < 65536
unfolding pattern
pattern_small (pos n) h = omega arith
pattern_small (negsuc n) h = omega arith

-- And 32 bits.
pub word_pattern_signed : (w : ℕ) → w < 4294967296 → word_pattern (signed_word w) ≡ w
unfolding signed_word word_pattern
word_pattern_signed w h = by_lt w 2147483648 (λ l. rw (lt-ltb _ _ l)) (λ l. rw (le-ltb _ _ l) (omega arith))

pub signed_word_pattern : (z : ℤ) → mag z < 2147483648 → signed_word (word_pattern z) ≡ z
unfolding signed_word word_pattern
signed_word_pattern (pos n) h = rw (lt-ltb _ _ h)
signed_word_pattern (negsuc n) h =
    let q : 2147483648 ≤ 4294967295 - n = omega arith in
    let e : 4294967295 - (4294967295 - n) ≡ n = omega arith in
    rw (le-ltb _ _ q, e)

pub word_pattern_small : (z : ℤ) → mag z < 2147483648 → word_pattern z < 4294967296
unfolding word_pattern
word_pattern_small (pos n) h = omega arith
word_pattern_small (negsuc n) h = omega arith

-- The bits of a finite factor.
finite_number : (x : Float) → not_finite x ≡ false → T (not (is_nan x))
unfolding not_finite is_nan
finite_number nan h = absurd (never h)
finite_number (inf s) h = tt
finite_number (fin s m e) h = tt

pub bits_back : (w : ℕ) → w < 4294967296 → not_finite (of_bits binary32 w) ≡ false → to_bits binary32 (of_bits binary32 w) ≡ w
bits_back w small h = to_bits-of_bits binary32 w small (finite_number _ h)

-- Entries set from place i on: those before and behind them stay, and those set stand there.
module _ {A : Type 0} where
  pub sets_before : (vs l : List A) (i j : ℕ) (d : A) → j < i → get_or (sets l i vs) j d ≡ get_or l j d
  sets_before [] l i j d h = refl
  sets_before (v ∷ vs) l i j d h =
      sets_before vs (set l i v) (suc i) j d (omega arith) ∙ get_or-set_other l i j v d (λ e. omega arith)

  pub sets_at : (vs l : List A) (i k : ℕ) (d : A) → i + length vs ≤ length l → k < length vs → get_or (sets l i vs) (i + k) d ≡ get_or vs k d
  sets_at [] l i k d h q = absurd (omega arith)
  sets_at (v ∷ vs) l i zero d h q =
      let e : i + 0 ≡ i = omega arith in
      ap (λ j. get_or (sets (set l i v) (suc i) vs) j d) e
      ∙ sets_before vs (set l i v) (suc i) i d (omega arith)
      ∙ get_or-set_same l i v d (omega arith)
  sets_at (v ∷ vs) l i (suc k) d h q =
      let e : i + suc k ≡ suc i + k = omega arith in
      ap (λ j. get_or (sets (set l i v) (suc i) vs) j d) e
      ∙ sets_at vs (set l i v) (suc i) k d (simp length-set (omega arith)) (omega arith)

  pub sets_behind : (vs l : List A) (i j : ℕ) (d : A) → i + length vs ≤ j → get_or (sets l i vs) j d ≡ get_or l j d
  sets_behind [] l i j d h = refl
  sets_behind (v ∷ vs) l i j d h = sets_behind vs (set l i v) (suc i) j d (omega arith) ∙ get_or-set_other l i j v d (λ e. omega arith)
