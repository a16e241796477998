-- Digits laid into the output one behind the other.
use Prim.Native.Nat.{ℕ, suc, ◌+◌, ◌*◌, ◌/◌, ◌%◌}
use mathlib.Core.List.{List, [], ◌∷◌, ◌++◌}
use mathlib.Core.Path.{◌≡◌, refl, ap, ◌∙◌}
use native.Mathlib.Omega.{arith}
use lib.ListN.{length, set}
use lib.Seq.{sets}
use Rattle.model_sheet.specs.Frames.{digit_of, digits_of, framed}
use Rattle.model_sheet.specs.Lines.{line_feed}
use Rattle.model_sheet.specs.Numbers.{word_bytes}
use Rattle.sheet_laws.proofs.SheetLength.{digits_length}

pub sets_join : (xs ys l : List ℕ) (i : ℕ) → sets (sets l i xs) (i + length xs) ys ≡ sets l i (xs ++ ys)
sets_join [] ys l i = ap (λ j. sets l j ys) (zero_right i)
  where
    zero_right : (i : ℕ) → i + 0 ≡ i
    zero_right i = omega arith
sets_join (x ∷ xs) ys l i =
    let e : i + suc (length xs) ≡ suc i + length xs = omega arith in
    ap (λ j. sets (sets (set l i x) (suc i) xs) j ys) e ∙ sets_join xs ys (set l i x) (suc i)

digits_join : (xs ys : List ℕ) → digits_of (xs ++ ys) ≡ digits_of xs ++ digits_of ys
unfolding digits_of
digits_join [] ys = refl
digits_join (x ∷ xs) ys = ap (λ t. digit_of (x / 16) ∷ digit_of (x % 16) ∷ t) (digits_join xs ys)

-- The digits of more bytes, and a line's end, behind those of the bytes before.
module _ (out : List ℕ) (at next : ℕ) (bs : List ℕ) (e : next ≡ at + 2 * length bs) where
  behind : next ≡ at + length (digits_of bs)
  behind = omega (arith, digits_length bs)

  pub digits_on : (more : List ℕ) → sets (sets out at (digits_of bs)) next (digits_of more) ≡ sets out at (digits_of (bs ++ more))
  digits_on more = rw (behind, digits_join bs more) (sets_join (digits_of bs) (digits_of more) out at)

  pub line_end : set (sets out at (digits_of bs)) next line_feed ≡ sets out at (framed bs)
  unfolding framed
  line_end = rw behind (sets_join (digits_of bs) (line_feed ∷ []) out at)

-- The two digits of a byte, and the eight of a word.
pub byte_laid : (out : List ℕ) (at b : ℕ) → set (set out at (digit_of (b / 16))) (at + 1) (digit_of (b % 16)) ≡ sets out at (digits_of (b ∷ []))
unfolding digits_of
byte_laid out at b =
    let e : at + 1 ≡ suc at = omega arith in
    rw e

pub word_laid : (out : List ℕ) (at w : ℕ)
    → sets
    (sets
    (sets (sets out at (digits_of (w / 16777216 ∷ []))) (at + 2) (digits_of (w / 65536 % 256 ∷ [])))
    (at + 4)
    (digits_of (w / 256 % 256 ∷ [])))
    (at + 6)
    (digits_of (w % 256 ∷ []))
    ≡ sets out at (digits_of (word_bytes w))
unfolding word_bytes
word_laid out at w =
    let a = w / 16777216 in
    let b = w / 65536 % 256 in
    let c = w / 256 % 256 in
    let d = w % 256 in
    rw (
      digits_on out at (at + 2) (a ∷ []) refl (b ∷ []),
      digits_on out at (at + 4) (a ∷ b ∷ []) refl (c ∷ []),
      digits_on out at (at + 6) (a ∷ b ∷ c ∷ []) refl (d ∷ []),
    )
