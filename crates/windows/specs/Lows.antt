-- A window's lows, and heights above them, in its array.
use Rattle.std.specs.Prelude.{ℕ, Bool, cond, ◌&&◌, List, map, ltb, leb, ℤ, pos, neg_ℤ}
use Rattle.std.specs.Int.Signed.{le_z}
use Rattle.model.specs.Lists.{tabulate, greatest}
use Rattle.model.specs.Vectors.{above}
use Rattle.model.specs.Geometry.{least}
use Rattle.geometry.specs.Parts.{entry_at, entries_in}

-- The array holds so many references, and each of them has an entry of dimension d. Where it does not, lows and heights are 0.
unfoldable pub held_in : (count d : ℕ) → Bool
held_in count d = leb count 32 && ltb d 4

-- The least entry of dimension d.
unfoldable pub low_in : (count : ℕ) → List ℤ → (d : ℕ) → ℤ
low_in count offsets d = cond (held_in count d) (least (entries_in count offsets d)) (pos 0)

-- The least entry of each dimension, 0 past the last.
unfoldable pub lows_in : (dims count : ℕ) → List ℤ → List ℤ
lows_in dims count offsets = tabulate 4 (λ d. cond (ltb d dims) (low_in count offsets d) (pos 0))

-- How far the greatest entry of dimension d lies above low.
unfoldable pub span_in : (count : ℕ) → List ℤ → (d : ℕ) → (low : ℤ) → ℕ
span_in count offsets d low = cond (held_in count d) (greatest (map (λ e. above e low) (entries_in count offsets d))) 0

-- How far each reference's entry of dimension d lies above low, 0 past the last.
unfoldable pub heights_in : (count : ℕ) → List ℤ → (d : ℕ) → (low : ℤ) → List ℕ
heights_in count offsets d low = tabulate 32 (λ k. cond (held_in count d && ltb k count) (above (entry_at offsets k d) low) 0)

-- An index counted from the first iteration, which lies at the negated low; the extent where it is none of the indices below it.
unfoldable pub index_in : (x low : ℤ) (extent : ℕ) → ℕ
index_in x low extent = cond (le_z (neg_ℤ low) x && ltb (above x (neg_ℤ low)) extent) (above x (neg_ℤ low)) extent
