-- Offsets as arrays of four entries: compared and added in the first entries of them.
use Rattle.std.specs.Prelude.{ℕ, Bool, cond, List, ltb, ℤ, pos, get_or, replicate}
use Rattle.std.specs.Int.Signed.{mag}
use Rattle.model.specs.Lists.{tabulate, all}
use Rattle.model.specs.Vectors.{plus}
use Rattle.geometry.specs.Parts.{offset_at}
use Rattle.windows.specs.declared.Added.{Added}

-- Reference k's offset, its four entries; 0 past the last reference.
unfoldable pub offset_in : List ℤ → (k : ℕ) → List ℤ
offset_in offsets k = cond (ltb k 32) (offset_at 4 offsets k) (replicate 4 (pos 0))

-- The first entries of an offset.
abbrev pub front : (dims : ℕ) → List ℤ → List ℤ
front dims o = tabulate dims (λ d. get_or o d (pos 0))

-- A number that 16 bits hold: -32,768 to 32,767.
unfoldable pub held16 : ℤ → Bool
held16 x = ltb (mag x) 32768

-- A number; 0 where 16 bits cannot hold it.
unfoldable pub kept16 : ℤ → ℤ
kept16 x = cond (held16 x) x (pos 0)

-- The sum of two offsets, in so many dimensions: whether 16 bits hold each entry, and the entries, 0 where they do not and
-- past the dimensions.
unfoldable pub added_of : (dims : ℕ) (a b : List ℤ) → Added
added_of dims a b =
    let sums = plus (front dims a) (front dims b) in
    record { fits = all held16 sums; entries = tabulate 4 (λ d. kept16 (get_or sums d (pos 0))) }
