-- The ways of each call.
use Prim.Native.Nat.{ℕ, ◌+◌, ◌-◌, ◌*◌, ◌/◌, ◌≤◌, ◌<◌, min}
use mathlib.Core.List.{List, [], ◌∷◌, ◌++◌}
use mathlib.Core.Path.{◌≡◌, refl, sym, ap, ◌∙◌}
use native.Mathlib.Omega.{arith}
use lib.ListN.{length, drop, set}
use lib.Seq.{sets, sets-eq}
use borrow.Author.Tests.{eq-eqb, ne_eqb, lt-ltb, le-ltb}
use Rattle.model.specs.declared.Refusal.{Refusal}
use Rattle.model.specs.Answers.{number_of}
use Rattle.model_sheet.specs.Frames.{digits_of, framed}
use Rattle.model_sheet.specs.Lines.{line_feed}
use Rattle.model_sheet.specs.Numbers.{word_bytes}
use Rattle.model_program.specs.Programs.{end_line, refusal_line, firings_text}
use Rattle.program_writer.specs.Texts.{laid, laid_over, laid_if_fits, firing_chars, room_for, fitting, firings_laid}
use Rattle.program_writer.proofs.DigitLaws.{digits_on, line_end}
use Rattle.program_writer.proofs.FiringLaws.{no_lines, lines_chars}
use Rattle.program_writer.proofs.RoomLaws.{fit}

-- A text from the first place on.
module _ (text out : List ℕ) where
  over : (chars : ℕ) (end : List ℕ) → length text ≤ length out → chars ≡ length text → end ≡ sets out 0 text → laid chars end ≡ laid_over text out
  unfolding laid_over
  over chars end h e q =
      let z : 0 + length text ≡ length text = omega arith in
      rw (e, q) (ap (λ t. laid (length text) t) (sets-eq text out 0 (omega arith) ∙ ap (λ n. text ++ drop n out) z))

  no_room : length out < length text → laid 0 out ≡ laid_if_fits text out
  unfolding laid_if_fits
  no_room h = rw (lt-ltb _ _ h)

  fits : (chars : ℕ) (end : List ℕ) → length text ≤ length out → chars ≡ length text → end ≡ sets out 0 text → laid chars end ≡ laid_if_fits text out
  unfolding laid_if_fits
  fits chars end h e q = rw (le-ltb _ _ h) (over chars end h e q)

-- The `11` line.
module _ (way clocks : ℕ) (out : List ℕ) where
  end_chars : length (framed (end_line way clocks)) ≡ 13
  unfolding framed end_line word_bytes digits_of
  end_chars = refl

  pub end_short : length out < 13 → laid 0 out ≡ laid_if_fits (framed (end_line way clocks)) out
  end_short h = no_room _ out (omega (arith, end_chars))

  pub end_laid : 13 ≤ length out
      → laid 13 (set (sets (sets (sets out 0 (digits_of (17 ∷ []))) 2 (digits_of (way ∷ []))) 4 (digits_of (word_bytes clocks))) 12 line_feed)
      ≡ laid_if_fits (framed (end_line way clocks)) out
  unfolding end_line word_bytes
  end_laid h =
      fits _ out 13 _ (omega (arith, end_chars)) (sym end_chars)
      (rw (
        digits_on out 0 2 (17 ∷ []) refl (way ∷ []),
        digits_on out 0 4 (17 ∷ way ∷ []) refl (word_bytes clocks),
      )
      (line_end out 0 12 (17 ∷ way ∷ word_bytes clocks) refl))

-- The `1F` line.
module _ (x : Refusal) (out : List ℕ) where
  refusal_chars : length (framed (refusal_line x)) ≡ 5
  unfolding framed refusal_line digits_of
  refusal_chars = refl

  pub refusal_short : length out < 5 → laid 0 out ≡ laid_if_fits (framed (refusal_line x)) out
  refusal_short h = no_room _ out (omega (arith, refusal_chars))

  pub refusal_laid : 5 ≤ length out
      → laid 5 (set (sets (sets out 0 (digits_of (31 ∷ []))) 2 (digits_of (number_of x ∷ []))) 4 line_feed) ≡ laid_if_fits (framed (refusal_line x)) out
  unfolding refusal_line
  refusal_laid h =
      fits _ out 5 _ (omega (arith, refusal_chars)) (sym refusal_chars)
      (rw (digits_on out 0 2 (31 ∷ []) refl (number_of x ∷ [])) (line_end out 0 4 (31 ∷ number_of x ∷ []) refl))

-- How many words have room.
module _ (size room : ℕ) where
  pub too_wide : 32 < size → 0 ≡ room_for size room
  unfolding room_for
  too_wide h = rw (lt-ltb _ _ h)

  pub room_words : size ≤ 32 → room / firing_chars size * size ≡ room_for size room
  unfolding room_for
  room_words h = rw (le-ltb _ _ h)

-- How many firings fit.
module _ (size index n words room : ℕ) where
  pub no_width : size ≡ 0 → 0 ≡ fitting size index n words room
  unfolding fitting
  no_width h = rw (eq-eqb _ _ h)

  pub great_width : (size ≡ 0 → ⊥) → 32 < size → 0 ≡ fitting size index n words room
  unfolding fitting
  great_width s h = rw (ne_eqb _ _ s, lt-ltb _ _ h)

  pub some_fit : (size ≡ 0 → ⊥) → size ≤ 32 → min n (min (words / size) (min (room / firing_chars size) (4294967295 - index))) ≡ fitting size index n words room
  unfolding fitting
  some_fit s h = rw (ne_eqb _ _ s, le-ltb _ _ h)

-- All lines of the firings are laid where none remains.
pub all_laid : (size index n : ℕ) (words start out : List ℕ) (lines i at from j : ℕ)
    → lines ≡ fitting size index n (length words) (length start)
    → i ≤ lines
    → lines ≤ i
    → at ≡ i * firing_chars size
    → sets out at (firings_text size j (lines - i) (drop from words)) ≡ sets start 0 (firings_text size index lines words)
    → laid at out ≡ firings_laid size index n words start
unfolding firings_laid
all_laid size index n words start out lines i at from j e h g p q =
    let f = fit size index n (length words) (length start) lines e in
    let chars = lines_chars lines size index words f.has_words in
    let same : i ≡ lines = omega arith in
    let whole : at ≡ length (firings_text size index lines words) = p ∙ ap (λ k. k * firing_chars size) same ∙ sym chars in
    rw (← e)
    (over (firings_text size index lines words) start at out (omega (arith, f.has_room, chars)) whole
    (ap (λ t. sets out at t) (sym (no_lines (drop from words) size j i lines g)) ∙ q))
