-- Rows as they are lent: the numbers of each in turn.
use Rattle.std.specs.Prelude.{ℕ, ◌+◌, ◌*◌, List, get_or}
use Rattle.model.specs.Grounds.{Row}

-- Row i's start is number 2 i, its length number 2 i + 1.
abbrev pub row_of : List ℕ → ℕ → Row
row_of rows i = record { start = get_or rows (2 * i) 0; length = get_or rows (2 * i + 1) 0 }
