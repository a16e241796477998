-- "Each line is one frame: uppercase hexadecimal, two digits a byte, then LF."
use Rattle.std.specs.Prelude.{ℕ, ◌+◌, ◌-◌, ◌*◌, ◌/◌, ◌%◌, Bool, true, false, cond, not, ◌&&◌, List, [], ◌∷◌, ◌++◌, eqb, leb, ltb, length, take, get_or, set, replicate}
use Rattle.std.specs.Prelude.{Option, None, Some}
use Rattle.std.specs.Option.{is_some}
use Rattle.model.specs.declared.Frame.{Frame}
use Rattle.model_sheet.specs.Lines.{line_feed}

-- The digits 0 to 9 and A to F.
unfoldable pub is_digit : ℕ → Bool
is_digit d = cond (leb d 57) (leb 48 d) (cond (leb d 70) (leb 65 d) false)

unfoldable pub value_of : ℕ → ℕ
value_of d = cond (leb d 57) (d - 48) (d - 55)

unfoldable pub digit_of : ℕ → ℕ
digit_of v = cond (ltb v 10) (v + 48) (v + 55)

-- All characters are digits, and their number is even.
unfoldable pub whole : List ℕ → Bool
whole [] = true
whole (a ∷ []) = false
whole (a ∷ b ∷ ds) = is_digit a && (is_digit b && whole ds)

unfoldable pub bytes_of : List ℕ → List ℕ
bytes_of [] = []
bytes_of (a ∷ []) = []
bytes_of (a ∷ b ∷ ds) = (value_of a * 16 + value_of b) ∷ bytes_of ds

unfoldable pub digits_of : List ℕ → List ℕ
digits_of [] = []
digits_of (b ∷ bs) = digit_of (b / 16) ∷ digit_of (b % 16) ∷ digits_of bs

-- The line that holds these bytes, with its LF.
unfoldable pub framed : List ℕ → List ℕ
framed bs = digits_of bs ++ (line_feed ∷ [])

-- How many bytes of a line are kept: of the lines that are accepted only an `09` line has as many.
abbrev pub kept : ℕ
kept = 40

-- How many are counted: no line that is accepted has as many.
abbrev pub counted : ℕ
counted = 2052

-- The first bytes of a line, 0 past its end.
unfoldable pub padded : List ℕ → List ℕ
padded bs = take kept (bs ++ replicate kept 0)

-- A line as a step sees it: whether it is one frame, with its LF; how many bytes it has; its first bytes, 0 past its end.
pub record Seen : Type 0 where
  pub sound : Bool
  pub len : ℕ
  pub first : List ℕ

abbrev pub seen_of : Bool → List ℕ → Seen
seen_of ended chars = record { sound = ended && whole chars; len = length (bytes_of chars); first = padded (bytes_of chars) }

-- The same in fixed memory, as the characters arrive: before the first.
abbrev pub empty_frame : Frame
empty_frame = record { first = replicate kept 0; len = 0; sound = true; upper = None }

-- One byte more.
unfoldable pub pushed : Frame → ℕ → Frame
pushed f b = record {
  first = cond (ltb f.len kept) (set f.first f.len b) f.first;
  len = cond (ltb f.len counted) (f.len + 1) f.len;
  sound = f.sound;
  upper = None;
}

-- One digit more: the first of a byte, or the second.
abbrev pub with_digit : Frame → (upper : Option ℕ) → (v : ℕ) → Frame
with_digit f None v = record { first = f.first; len = f.len; sound = f.sound; upper = Some v }
with_digit f (Some high) v = pushed f (high % 16 * 16 + v)

-- One character more.
unfoldable pub fed : Frame → ℕ → Frame
fed f d =
    cond (is_digit d) (with_digit f f.upper (value_of d))
    (record { first = f.first; len = f.len; sound = false; upper = f.upper })

unfoldable pub feeds : Frame → List ℕ → Frame
feeds f [] = f
feeds f (d ∷ ds) = feeds (fed f d) ds

-- How many numbers of 2 bytes each are kept of the sheet's first line, behind its row count: a start and a length of each of
-- 512 rows.
abbrev pub row_numbers : ℕ
row_numbers = 1024

-- One byte more, the one numbered i behind the row count: the upper or the lower half of a number.
unfoldable pub with_half : (numbers : List ℕ) → (i b : ℕ) → List ℕ
with_half numbers i b =
    let at = i / 2 in
    cond (eqb (i % 2) 0) (set numbers at (b * 256)) (set numbers at (get_or numbers at 0 / 256 * 256 + b))

-- One character more of a line of `len` bytes whose last byte is open or whole; and of one that stands as f, one more, and all
-- characters of a piece of it.
abbrev pub with_character : (numbers : List ℕ) → (len : ℕ) → (upper : Option ℕ) → (d : ℕ) → List ℕ
with_character numbers len None d = numbers
with_character numbers len (Some high) d =
    let longer = with_half numbers (len - 3) (high % 16 * 16 + value_of d) in
    cond (is_digit d && leb 3 len) longer numbers

unfoldable pub numbers_fed : (numbers : List ℕ) → Frame → ℕ → List ℕ
numbers_fed numbers f d = with_character numbers f.len f.upper d

unfoldable pub numbers_feeds : (numbers : List ℕ) → Frame → List ℕ → List ℕ
numbers_feeds numbers f [] = numbers
numbers_feeds numbers f (d ∷ ds) = numbers_feeds (numbers_fed numbers f d) (fed f d) ds

-- What a step sees of a frame at its LF.
abbrev pub shown : Frame → Seen
shown f = record { sound = f.sound && not (is_some f.upper); len = f.len; first = f.first }
