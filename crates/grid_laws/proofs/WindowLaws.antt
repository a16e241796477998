-- Laws of a window's lows and extents, dimension by dimension.
use Prim.Native.Nat.{ℕ, suc, ◌+◌, ◌-◌, ◌≤◌, ◌<◌}
use mathlib.Core.List.{List, [], ◌∷◌, map}
use mathlib.Core.Path.{◌≡◌, refl, ◌∙◌, ap}
use native.Mathlib.Nat.{suc_inj, mul-le-mul}
use native.Mathlib.Omega.{arith}
use lib.ListN.{length, get_or, length-map, get_or-map}
use lib.IntN.{ℤ, pos}
use Rattle.model.specs.Lists.{product}
use Rattle.model.specs.Vectors.{above}
use Rattle.model.specs.Geometry.{first_entry, other_entries, least, lows, extent, extents}
use Rattle.model.specs.Windows.{relative, Among}
use Rattle.grid_laws.proofs.ListLaws.{greatest_above, greatest_stands, greatest_same, among_map}
use Rattle.grid_laws.proofs.IntegerLaws.{least_below, least_same}
use Rattle.grid_laws.proofs.PlaceLaws.{Below, add, AtLeast}
use Rattle.grid_laws.proofs.PlaceLaws.AtLeast.{none, next}

pub length_lows : (sizes : List ℕ) (offsets : List (List ℤ)) → length (lows sizes offsets) ≡ length sizes
unfolding lows
length_lows [] offsets = refl
length_lows (s ∷ ss) offsets = ap suc (length_lows ss (map other_entries offsets))

pub length_extents : (sizes : List ℕ) (offsets : List (List ℤ)) → length (extents sizes offsets) ≡ length sizes
unfolding extents
length_extents [] offsets = refl
length_extents (s ∷ ss) offsets = ap suc (length_extents ss (map other_entries offsets))

-- Extents are at most the grid's sizes.
pub product_extents : (sizes : List ℕ) (offsets : List (List ℤ)) → product (extents sizes offsets) ≤ product sizes
unfolding product extents extent
product_extents [] offsets = omega arith
product_extents (s ∷ ss) offsets = mul-le-mul (omega arith) (product_extents ss (map other_entries offsets))

pub extents_within : (sizes : List ℕ) (offsets : List (List ℤ)) (us : List ℕ) → Below (extents sizes offsets) us → Below sizes us
unfolding extents extent
extents_within [] offsets us b = b
extents_within (s ∷ ss) offsets [] b = b
extents_within (s ∷ ss) offsets (u ∷ us) b = (omega arith, extents_within ss (map other_entries offsets) us b.1)

-- Reference k's first entry, and its others.
pub first_of_lem : (offsets : List (List ℤ)) (k : ℕ) → get_or (map first_entry offsets) k (pos 0) ≡ first_entry (get_or offsets k [])
unfolding first_entry
first_of_lem offsets k = get_or-map first_entry offsets k []

pub others_of : (offsets : List (List ℤ)) (k : ℕ) → get_or (map other_entries offsets) k [] ≡ other_entries (get_or offsets k [])
unfolding other_entries
others_of offsets k = get_or-map other_entries offsets k []

-- The lows are at most the entries of each offset.
pub at_least_lows : (sizes : List ℕ) (offsets : List (List ℤ)) (k : ℕ) (o : List ℤ) → k < length offsets → get_or offsets k [] ≡ o → length o ≡ length sizes
    → AtLeast (lows sizes offsets) o
unfolding lows first_entry other_entries
at_least_lows [] offsets k [] h e n = none
at_least_lows [] offsets k (x ∷ xs) h e n = absurd (omega arith)
at_least_lows (s ∷ ss) offsets k [] h e n = absurd (omega arith)
at_least_lows (s ∷ ss) offsets k (x ∷ xs) h e n =
    next (rw (first_of_lem offsets k ∙ ap first_entry e) at (least_below (map first_entry offsets) k (pos 0) (rw length-map h)))
    (at_least_lows ss (map other_entries offsets) k xs (rw length-map h) (others_of offsets k ∙ ap other_entries e) (suc_inj n))

-- In one dimension an index below the extent keeps each entry inside the grid, and only such an index does.
extent_keeps : (s : ℕ) (es : List ℤ) (k u : ℕ) → k < length es → u < extent s es → above (get_or es k (pos 0)) (least es) + u < s
unfolding extent
extent_keeps s es k u h b =
    let height : ℤ → ℕ = λ e. above e (least es) in
    omega (arith, greatest_above (map height es) k (height (pos 0)) (rw length-map h), get_or-map height es k (pos 0))

pub extent_all : (s : ℕ) (es : List ℤ) (u : ℕ) → 0 < length es → ((k : ℕ) → k < length es → u + above (get_or es k (pos 0)) (least es) < s) → u < extent s es
unfolding extent
extent_all s es u h f =
    let height : ℤ → ℕ = λ e. above e (least es) in
    let (k, b, e) = greatest_stands (map height es) (height (pos 0)) (rw length-map h) in
    omega (arith, e, get_or-map height es k (pos 0), f k (rw length-map at b))

-- An offset counted from the lows lies in the grid, also with an iteration's indices added.
pub stays_inside : (sizes : List ℕ) (offsets : List (List ℤ)) (k : ℕ) (o : List ℤ) (us : List ℕ) → k < length offsets → get_or offsets k [] ≡ o → length o ≡ length sizes
    → Below (extents sizes offsets) us → Below sizes (relative o (lows sizes offsets)) × Below sizes (add (relative o (lows sizes offsets)) us)
unfolding lows extents relative add first_entry other_entries
stays_inside [] offsets k [] us h e n b = (tt, tt)
stays_inside [] offsets k (x ∷ xs) us h e n b = absurd (omega arith)
stays_inside (s ∷ ss) offsets k [] us h e n b = absurd (omega arith)
stays_inside (s ∷ ss) offsets k (x ∷ xs) [] h e n b = absurd b
stays_inside (s ∷ ss) offsets k (x ∷ xs) (u ∷ us) h e n b =
    let r = stays_inside ss (map other_entries offsets) k xs us (rw length-map h) (others_of offsets k ∙ ap other_entries e) (suc_inj n) b.1 in
    let l = rw (first_of_lem offsets k ∙ ap first_entry e) at (extent_keeps s (map first_entry offsets) k u (rw length-map h) b.0) in
    ((omega arith, r.0), (l, r.1))

-- In one dimension two windows with the same entries have the same extent.
pub same_extent : (s : ℕ) (a b : List ℤ) → Among (pos 0) a b → Among (pos 0) b a → extent s a ≡ extent s b
unfolding extent
same_extent s a b m n =
    let height : ℤ → ℕ = λ e. above e (least b) in
    rw (least_same a b (pos 0) m n)
    (ap (◌-◌ s) (greatest_same (map height a) (map height b) (height (pos 0)) (among_map height (pos 0) a b m) (among_map height (pos 0) b a n)))
