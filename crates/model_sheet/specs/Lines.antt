-- The lines of a sheet, as bytes (document 01, "Lines of the sheet").
use Rattle.std.specs.Prelude.{ℕ, Bool, true, false, cond, List, [], ◌∷◌, eqb}

abbrev pub line_feed : ℕ
line_feed = 10

-- A line's characters, without its LF, and whether it has its LF.
pub record Line : Type 0 where
  pub chars : List ℕ
  pub ended : Bool

-- "a line, without its LF, as a part of the lent sheet": from its start to before the first LF, or to the sheet's end where
-- there is none.
unfoldable pub line_of : List ℕ → List ℕ
line_of [] = []
line_of (b ∷ bs) = cond (eqb b line_feed) [] (b ∷ line_of bs)

-- One more character at the start of the first line.
abbrev pub into : ℕ → List Line → List Line
into b [] = record { chars = b ∷ []; ended = false } ∷ []
into b (l ∷ ls) = record { chars = b ∷ l.chars; ended = l.ended } ∷ ls

-- "Lines are read from the top." An LF as the last byte opens no further line.
unfoldable pub lines_of : List ℕ → List Line
lines_of [] = []
lines_of (b ∷ bs) = cond (eqb b line_feed) (record { chars = []; ended = true } ∷ lines_of bs) (into b (lines_of bs))
