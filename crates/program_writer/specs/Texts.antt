-- Text laid into a lent output.
use Rattle.std.specs.Prelude.{ℕ, ◌+◌, ◌-◌, ◌*◌, ◌/◌, ◌≤◌, min, cond, ◌||◌, List, ◌++◌, ◌≡◌, eqb, ltb, length, take, drop}
use Rattle.model_program.specs.Programs.{firings_text}

-- How many characters were written, and the output as it is left.
pub record Laid : Type 0 where
  pub chars : ℕ
  pub output : List ℕ

abbrev pub laid : ℕ → List ℕ → Laid
laid chars output = record { chars = chars; output = output }

-- The text from the first place on; later places stay as they were.
unfoldable pub laid_over : (text output : List ℕ) → Laid
laid_over text output = laid (length text) (text ++ drop (length text) output)

-- The same where the text fits; else nothing is written.
unfoldable pub laid_if_fits : (text output : List ℕ) → Laid
laid_if_fits text output = cond (ltb (length output) (length text)) (laid 0 output) (laid_over text output)

-- How many characters the line of a firing with `size` words has.
abbrev pub firing_chars : ℕ → ℕ
firing_chars size = 8 * size + 11

-- How many words of firings of up to 32 words have lines that fit.
unfoldable pub room_for : (size room : ℕ) → ℕ
room_for size room = cond (ltb 32 size) 0 (room / firing_chars size * size)

-- How many of n firings of 1 to 32 words have all their words, an index below 4294967295 and room for their lines.
unfoldable pub fitting : (size index n words room : ℕ) → ℕ
fitting size index n words room =
    cond (eqb size 0 || ltb 32 size) 0 (min n (min (words / size) (min (room / firing_chars size) (4294967295 - index))))

-- Their lines.
unfoldable pub firings_laid : (size index n : ℕ) → (words output : List ℕ) → Laid
firings_laid size index n words output = laid_over
    (firings_text size index (fitting size index n (length words) (length output)) words) output

-- The first n characters of a text are there: what lending them as a part of it asks.
abbrev pub Within : ℕ → (text : List ℕ) → Type 0
Within n text = (n ≤ length text) × (n ≡ length (take n text))
