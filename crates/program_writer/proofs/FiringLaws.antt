-- The lines of firings, one behind the other.
use Prim.Native.Nat.{ℕ, zero, suc, ◌+◌, ◌-◌, ◌*◌, ◌≤◌, ◌<◌}
use mathlib.Core.List.{List, [], ◌∷◌, ◌++◌, flat_map}
use mathlib.Core.Path.{◌≡◌, refl, ◌∙◌}
use native.Mathlib.Numerals.{add-one}
use native.Mathlib.Omega.{arith}
use lib.ListN.{length, take, drop, get_or, set, length-append, length-drop, drop_of_length-le}
use lib.Seq.{sets, drop-cons, drop-drop, get_or-take, get_or-drop, length-take-le}
use Rattle.model_sheet.specs.Frames.{digits_of, framed}
use Rattle.model_sheet.specs.Lines.{line_feed}
use Rattle.model_sheet.specs.Numbers.{word_bytes}
use Rattle.model_program.specs.Programs.{firing_line, firings_text}
use Rattle.program_writer.specs.Texts.{firing_chars}
use Rattle.sheet_laws.proofs.SheetLength.{framed_length}
use Rattle.program_writer.proofs.DigitLaws.{sets_join, digits_on, line_end}

-- The words of a firing among all words.
abbrev pub words_at : List ℕ → (from size : ℕ) → List ℕ
words_at words from size = take size (drop from words)

abbrev pub word_digits : List ℕ → List ℕ
word_digits words = digits_of (flat_map word_bytes words)

bytes_length : (words : List ℕ) → length (flat_map word_bytes words) ≡ 4 * length words
unfolding flat_map word_bytes
bytes_length [] = refl
bytes_length (w ∷ ws) = omega (arith, bytes_length ws)

firing_chars_lem : (index : ℕ) (words : List ℕ) → length (framed (firing_line index words)) ≡ firing_chars (length words)
unfolding firing_line word_bytes
firing_chars_lem index words = framed_length (firing_line index words) ∙ omega (arith, bytes_length words)

module _ (words : List ℕ) (from size : ℕ) (whole : from + size ≤ length words) where
  words_length : length (words_at words from size) ≡ size
  words_length = length-take-le size (drop from words) (simp length-drop (omega arith))

  -- One word more, and none.
  pub word_on : (out : List ℕ) (p i : ℕ) → i < size
      → sets (sets out p (digits_of (word_bytes (get_or words (from + i) 0)))) (p + 8) (word_digits (drop (i + 1) (words_at words from size)))
      ≡ sets out p (word_digits (drop i (words_at words from size)))
  unfolding flat_map word_bytes
  word_on out p i h =
      let q : i < length (words_at words from size) = omega (arith, words_length) in
      let w = get_or words (from + i) 0 in
      let rest = drop (suc i) (words_at words from size) in
      rw (add-one, drop-cons (words_at words from size) i 0 q, get_or-take size (drop from words) i 0 h, get_or-drop from words i 0)
      (digits_on out p (p + 8) (word_bytes w) refl (flat_map word_bytes rest))

  pub words_end : (out : List ℕ) (p i : ℕ) → size ≤ i → out ≡ sets out p (word_digits (drop i (words_at words from size)))
  unfolding flat_map digits_of
  words_end out p i h = rw (drop_of_length-le (words_at words from size) {i = i} (omega (arith, words_length)))

  -- The line of a firing.
  pub firing_laid : (out : List ℕ) (at p index : ℕ) → p ≡ at + 10 + 8 * size
      → set
      (sets (sets (sets out at (digits_of (16 ∷ []))) (at + 2) (digits_of (word_bytes index))) (at + 10) (word_digits (words_at words from size)))
      p
      line_feed
      ≡ sets out at (framed (firing_line index (words_at words from size)))
  unfolding firing_line word_bytes
  firing_laid out at p index e =
      let bs = flat_map word_bytes (words_at words from size) in
      rw (
        digits_on out at (at + 2) (16 ∷ []) refl (word_bytes index),
        digits_on out at (at + 10) (16 ∷ word_bytes index) refl bs,
      )
      (line_end out at p (16 ∷ (word_bytes index ++ bs)) (omega (arith, words_length, bytes_length (words_at words from size))))

-- How many characters the lines have.
pub lines_chars : (n size index : ℕ) (words : List ℕ) → n * size ≤ length words → length (firings_text size index n words) ≡ n * firing_chars size
unfolding firings_text
lines_chars zero size index words h = omega arith
lines_chars (suc n) size index words h =
    length-append (framed (firing_line index (words_at words 0 size))) _
    ∙ omega (
      arith,
      firing_chars_lem index (words_at words 0 size),
      words_length words 0 size (omega arith),
      lines_chars n size (suc index) (drop size words) (rw length-drop (omega arith)),
    )

-- The lines that remain.
module _ (words : List ℕ) (size index i lines : ℕ) where
  pub no_lines : lines ≤ i → firings_text size index (lines - i) words ≡ []
  unfolding firings_text
  no_lines h =
      let e : lines - i ≡ 0 = omega arith in
      rw e

  pub line_on : (out : List ℕ) (at from : ℕ) → i < lines → from + size ≤ length words
      → sets (sets out at (framed (firing_line index (words_at words from size)))) (at + firing_chars size)
      (firings_text size (index + 1) (lines - (i + 1)) (drop (from + size) words))
      ≡ sets out at (firings_text size index (lines - i) (drop from words))
  unfolding firings_text
  line_on out at from h whole =
      let line = framed (firing_line index (words_at words from size)) in
      let e : lines - i ≡ suc (lines - (i + 1)) = omega arith in
      let f : at + firing_chars size ≡ at + length line = omega (arith, words_length words from size whole, firing_chars_lem index (words_at words from size)) in
      rw (e, f, add-one index, drop-drop size from words) (sets_join line (firings_text size (suc index) (lines - (i + 1)) (drop (from + size) words)) out at)
