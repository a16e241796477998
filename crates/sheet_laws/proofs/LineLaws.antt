-- The first line of some bytes, and the lines behind it.
use Prim.Native.Nat.{ℕ, zero, suc, ◌+◌, ◌≤◌, ◌<◌}
use mathlib.Core.List.{List, [], ◌∷◌}
use mathlib.Core.Path.{◌≡◌, refl, sym, ap, ◌∙◌}
use native.Mathlib.Numerals.{add-one}
use native.Mathlib.Omega.{arith}
use lib.Dec.{ltb, leb-suc-suc}
use lib.ListN.{length, take, drop, get_or, drop_of_length-le}
use lib.Seq.{drop-cons, drop-length}
use borrow.Author.Tests.{eq-eqb, ne_eqb, lt-ltb}
use Rattle.model_sheet.specs.Lines.{Line, line_feed, line_of, lines_of, into}
use Rattle.sheet_laws.proofs.Cases.{by_eq}

-- A line is the front of the bytes.
pub line_front : (s : List ℕ) → take (length (line_of s)) s ≡ line_of s
unfolding line_of
line_front [] = refl
line_front (b ∷ bs) = by_eq b line_feed (λ e. rw (eq-eqb _ _ e)) (λ e. rw (ne_eqb _ _ e) (ap (λ l. b ∷ l) (line_front bs)))

pub line_within : (s : List ℕ) → length (line_of s) ≤ length s
unfolding line_of
line_within [] = omega arith
line_within (b ∷ bs) = by_eq b line_feed (λ e. rw (eq-eqb _ _ e) (omega arith)) (λ e. rw (ne_eqb _ _ e) (omega (arith, line_within bs)))

-- The line from place i of the bytes on: at an LF, before another byte, at the end, past it.
module _ (s : List ℕ) (i : ℕ) where
  pub line_at_feed : i < length s → get_or s i 0 ≡ line_feed → length (line_of (drop i s)) ≡ 0
  unfolding line_of
  line_at_feed h e = rw (drop-cons s i 0 h, eq-eqb _ _ e)

  pub line_goes_on : i < length s → (get_or s i 0 ≡ line_feed → ⊥) → length (line_of (drop i s)) ≡ suc (length (line_of (drop (i + 1) s)))
  unfolding line_of
  line_goes_on h e = rw (add-one, drop-cons s i 0 h, ne_eqb _ _ e)

  pub line_at_end : i ≡ length s → length (line_of (drop i s)) ≡ 0
  unfolding line_of
  line_at_end e = rw (e, drop-length)

  pub line_past_end : length s < i → line_of (drop i s) ≡ []
  unfolding line_of
  line_past_end h = rw (drop_of_length-le s {i = i} (omega arith))

-- The first line, which has its LF if it is not all of the bytes, and the lines behind that LF.
abbrev pub first_line : List ℕ → Line
first_line s = record { chars = line_of s; ended = ltb (length (line_of s)) (length s) }

abbrev Splits : List ℕ → Type 0
Splits s = lines_of s ≡ first_line s ∷ lines_of (drop (suc (length (line_of s))) s)

splits : (b : ℕ) (bs : List ℕ) → Splits (b ∷ bs)
unfolding lines_of line_of
splits b [] = by_eq b line_feed (λ e. rw (eq-eqb _ _ e)) (λ e. rw (ne_eqb _ _ e))
splits b (x ∷ xs) =
    let rest = x ∷ xs in
    by_eq b line_feed
    (λ e. rw (eq-eqb _ _ e, lt-ltb zero (length (b ∷ rest)) (omega arith)))
    (λ e. rw (ne_eqb _ _ e)
    (ap (into b) (splits x xs)
    ∙ ap (λ t. record { chars = b ∷ line_of rest; ended = t } ∷ lines_of (drop (suc (length (line_of rest))) rest))
    (sym (leb-suc-suc (suc (length (line_of rest))) (length rest)))))

pub first_line_lem : (s : List ℕ) → 0 < length s → lines_of s ≡ first_line s ∷ lines_of (drop (suc (length (line_of s))) s)
first_line_lem [] h = absurd (omega arith)
first_line_lem (b ∷ bs) h = splits b bs
