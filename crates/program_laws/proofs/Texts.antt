-- The text of firings in parts, and text laid into an output.
use Prim.Native.Nat.{ℕ, zero, suc, ◌+◌, ◌*◌, ◌/◌, ◌≤◌, ◌<◌}
use mathlib.Core.List.{List, [], ◌∷◌, ◌++◌, append_assoc}
use mathlib.Core.Path.{◌≡◌, refl, sym, ◌∙◌, ap, ap₂}
use native.Mathlib.Nat.{zero-add, add-zero, suc-add, suc-mul, zero-mul, min-eq_left, le-min, mul-le-mul_right, le-div_iff_mul-le, le_of_mul-le-mul_right}
use native.Mathlib.Omega.{arith}
use lib.ListN.{length, take, drop, length-append, length-drop}
use lib.Seq.{take-take, take-append-le, drop-append-le, take-append_seam, take-nil}
use borrow.Author.Tests.{ne_eqb, le-ltb}
use Rattle.model.specs.declared.Refusal.{Refusal}
use Rattle.model_sheet.specs.Frames.{framed, digits_of}
use Rattle.model_sheet.specs.Numbers.{word_bytes}
use Rattle.model_program.specs.Programs.{firing_line, end_line, refusal_line, refusal_text, firings_text, most_words, longest_firing}
use Rattle.program_writer.specs.Texts.{laid_over, laid_if_fits, firing_chars, room_for, fitting, firings_laid}

pub drop_take : (n m : ℕ) (xs : List ℕ) → drop n (take (n + m) xs) ≡ take m (drop n xs)
drop_take zero m xs = ap (λ (k : ℕ). take k xs) (zero-add m)
drop_take (suc n) m [] = ap (λ (ys : List ℕ). drop (suc n) ys) (take-nil (suc n + m)) ∙ sym (take-nil m)
drop_take (suc n) m (x ∷ xs) = ap (λ (k : ℕ). drop (suc n) (take k (x ∷ xs))) (suc-add n m) ∙ drop_take n m xs

module _ (size : ℕ) where
  -- Of n firings only their words play a part.
  pub words_only : (index n : ℕ) (ws : List ℕ) → firings_text size index n (take (n * size) ws) ≡ firings_text size index n ws
  unfolding firings_text
  words_only index zero ws = refl
  words_only index (suc n) ws =
      let e : suc n * size ≡ size + n * size = omega (arith, suc-mul n size) in
      ap₂ (λ (x y : List ℕ). framed (firing_line index x) ++ y)
      (ap (λ (k : ℕ). take size (take k ws)) e ∙ take-take size (size + n * size) ws (omega arith))
      (ap (λ (k : ℕ). firings_text size (suc index) n (drop size (take k ws))) e
      ∙ ap (λ (y : List ℕ). firings_text size (suc index) n y) (drop_take size (n * size) ws)
      ∙ words_only (suc index) n (drop size ws))

  -- Firings, and further ones.
  pub text_joined : (index n m : ℕ) (ws vs : List ℕ) → length ws ≡ n * size
      → firings_text size index n ws ++ firings_text size (index + n) m vs ≡ firings_text size index (n + m) (ws ++ vs)
  unfolding firings_text
  text_joined index zero m ws vs e =
      ap₂ (λ (i : ℕ) (y : List ℕ). firings_text size i m (y ++ vs)) (add-zero index) (none ws (e ∙ zero-mul size)) ∙ ap (λ (k : ℕ). firings_text size index k (ws ++ vs)) (sym (zero-add m))
    where
      none : (xs : List ℕ) → length xs ≡ 0 → [] ≡ xs
      none [] z = refl
      none (x ∷ xs) z = absurd (omega arith)
  text_joined index (suc n) m ws vs e =
      let s : size ≤ length ws = omega (arith, suc-mul n size) in
      append_assoc (framed (firing_line index (take size ws))) (firings_text size (suc index) n (drop size ws)) (firings_text size (index + suc n) m vs)
      ∙ ap₂ (λ (x y : List ℕ). framed (firing_line index x) ++ y) (sym (take-append-le size ws vs s))
      (ap (λ (i : ℕ). firings_text size (suc index) n (drop size ws) ++ firings_text size i m vs) (omega arith)
      ∙ text_joined (suc index) n m (drop size ws) vs (omega (arith, length-drop size ws, suc-mul n size))
      ∙ ap (λ (y : List ℕ). firings_text size (suc index) (n + m) y) (sym (drop-append-le size ws vs s)))
      ∙ ap (λ (k : ℕ). firings_text size index k (ws ++ vs)) (sym (suc-add n m))

-- What is laid over an output: the text, and no fewer places.
pub laid_over_lem : (text out : List ℕ) → (take (laid_over text out).chars (laid_over text out).output ≡ text) × (length out ≤ length (laid_over text out).output)
unfolding laid_over
laid_over_lem text out =
    (take-append_seam text (drop (length text) out), omega (arith, length-append text (drop (length text) out), length-drop (length text) out))

pub laid_fitting : (text out : List ℕ) → length text ≤ length out
    → (take (laid_if_fits text out).chars (laid_if_fits text out).output ≡ text) × (length out ≤ length (laid_if_fits text out).output)
unfolding laid_if_fits
laid_fitting text out h = rw (le-ltb _ _ h) (laid_over_lem text out)

-- The last lines fit.
pub end_length : (way clocks : ℕ) → length (framed (end_line way clocks)) ≡ 13
unfolding framed digits_of end_line word_bytes
end_length way clocks = refl

pub refusal_length : (x : Refusal) → length (refusal_text x) ≡ 5
unfolding framed digits_of refusal_line
refusal_length x = refl

-- Firings that found room in the words lent, which are no more than there is room for their lines, all have their lines.
pub all_fit : (size index n words room : ℕ) → 0 < size → size ≤ 32 → n * size ≤ words → n * size ≤ room_for size room → index + n ≤ 4294967295
    → fitting size index n words room ≡ n
unfolding fitting room_for
all_fit size index n words room some few fits lines small =
    let z : size ≡ 0 → ⊥ = λ e. omega arith in
    let r : n * size ≤ room / firing_chars size * size = rw (le-ltb 32 size few) at lines in
    rw (ne_eqb _ _ z, le-ltb 32 size few)
    (min-eq_left (le-min ((le-div_iff_mul-le some).1 fits) (le-min (le_of_mul-le-mul_right r some) (omega arith))))

pub firings_laid_lem : (size index n : ℕ) (words text : List ℕ) → 0 < size → size ≤ 32 → n * size ≤ length words → n * size ≤ room_for size (length text) → index + n ≤ 4294967295
    → (take (firings_laid size index n words text).chars (firings_laid size index n words text).output ≡ firings_text size index n words)
    × (length text ≤ length (firings_laid size index n words text).output)
unfolding firings_laid
firings_laid_lem size index n words text some few fits lines small =
    rw (all_fit size index n (length words) (length text) some few fits lines small) (laid_over_lem (firings_text size index n words) text)

-- Room for the line of a firing is room for its words.
pub room_enough : (size room : ℕ) → size ≤ most_words → longest_firing ≤ room → size ≤ room_for size room
unfolding room_for
room_enough size room few h =
    let f : 0 < firing_chars size = omega arith in
    let q : 1 ≤ room / firing_chars size = (le-div_iff_mul-le f).1 (omega arith) in
    rw (le-ltb 32 size few) (omega (arith, mul-le-mul_right size q))
