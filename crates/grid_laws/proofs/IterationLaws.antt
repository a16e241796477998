-- Laws of iterations, and of the positions that they read.
use Prim.Native.Nat.{ℕ, suc, ◌+◌, ◌%◌, ◌<◌}
use mathlib.Core.Bool.{true, ◌&&◌, and-eq-true_iff}
use mathlib.Core.List.{List, [], ◌∷◌, map}
use mathlib.Core.Path.{◌≡◌, refl, sym, ◌∙◌, ap, ap₂}
use native.Mathlib.Nat.{suc_inj}
use native.Mathlib.Omega.{arith}
use lib.Dec.{ltb}
use lib.ListN.{length, get_or, length-map}
use lib.IntN.{ℤ, pos, neg_ℤ, ◌+ℤ◌, ◌-ℤ◌, +ℤ-neg_ℤ_cancel}
use lib.Signed.{lt_z, le_z}
use borrow.Author.Tests.{ltb-true, lt-ltb, le-leb}
use Rattle.model.specs.Lists.{product}
use Rattle.model.specs.Vectors.{above, plus, before}
use Rattle.model.specs.Geometry.{
  natural,
  inside,
  first_entry,
  other_entries,
  least,
  lows,
  extent,
  extents,
  indices,
  counted_from,
  place,
}
use Rattle.model.specs.Sized.{Sized}
use Rattle.model.specs.Windows.{relative}
use Rattle.grid_laws.proofs.Rectangles.{position, iteration, iteration_count, reads}
use Rattle.grid_laws.proofs.IntegerLaws.{above_sum, sum_above, sum_at_least, natural_pos, least_below, least_stands}
use Rattle.grid_laws.proofs.PlaceLaws.{Below, add, AtLeast, indices_below, place_indices, before_place}
use Rattle.grid_laws.proofs.PlaceLaws.AtLeast.{none, next}
use Rattle.grid_laws.proofs.WindowLaws.{length_lows, length_extents, first_of_lem, others_of, at_least_lows, extent_all, extents_within, stays_inside}

-- The cell that the offset xs reads in the iteration of the indices us.
sum_of_entries : (us : List ℕ) {ls xs : List ℤ} → AtLeast ls xs → plus (counted_from (map neg_ℤ ls) us) xs ≡ map pos (add (relative xs ls) us)
unfolding plus add relative
sum_of_entries [] none = refl
sum_of_entries [] (next h m) = refl
sum_of_entries (u ∷ us) none = refl
sum_of_entries (u ∷ us) (next {l} {x} h m) = ap₂ ◌∷◌ (above_sum u x l h ∙ ap pos (omega arith)) (sum_of_entries us m)

pub natural_of_pos : (xs : List ℕ) → map natural (map pos xs) ≡ xs
unfolding natural
natural_of_pos [] = refl
natural_of_pos (x ∷ xs) = ap (◌∷◌ x) (natural_of_pos xs)

pub below_inside : (ss xs : List ℕ) → Below ss xs → inside ss (map pos xs) ≡ true
unfolding inside
below_inside [] [] b = refl
below_inside [] (x ∷ xs) b = absurd b
below_inside (s ∷ ss) [] b = absurd b
below_inside (s ∷ ss) (x ∷ xs) b = rw (le-leb 0 x (omega arith), lt-ltb x s b.0) (below_inside ss xs b.1)

-- In one dimension: an entry that keeps each of the window's inside the grid is an index below the extent, counted from the negated low.
index_of : (s : ℕ) (es : List ℤ) (x : ℤ) → 0 < length es
    → ((k : ℕ) → k < length es → (le_z (pos 0) (x +ℤ get_or es k (pos 0)) ≡ true) × (lt_z (x +ℤ get_or es k (pos 0)) (pos s) ≡ true))
    → (natural (x +ℤ least es) < extent s es) × (x ≡ pos (natural (x +ℤ least es)) -ℤ least es)
index_of s es x h f = (extent_all s es u h (λ k b. ltb-true (u + above (get_or es k (pos 0)) (least es)) s (rw (sum k b) at (f k b).1)), entry)
  where
    u : ℕ
    u = natural (x +ℤ least es)

    entry : x ≡ pos u -ℤ least es
    entry =
        let (k, b, e) = least_stands es (pos 0) h in
        sym (ap (λ (z : ℤ). z -ℤ least es) (natural_pos (x +ℤ least es) (rw e at (f k b).0)) ∙ +ℤ-neg_ℤ_cancel x (least es))

    sum : (k : ℕ) → k < length es → x +ℤ get_or es k (pos 0) ≡ pos (u + above (get_or es k (pos 0)) (least es))
    sum k b = ap (λ (z : ℤ). z +ℤ get_or es k (pos 0)) entry ∙ above_sum u (get_or es k (pos 0)) (least es) (least_below es k (pos 0) b)

-- The first dimension taken off.
length_others : (o : List ℤ) (n : ℕ) → length o ≡ suc n → length (other_entries o) ≡ n
unfolding other_entries
length_others [] n e = absurd (omega arith)
length_others (x ∷ xs) n e = suc_inj e

sized_others : (s : ℕ) (ss : List ℕ) (offsets : List (List ℤ)) → Sized (suc (length ss)) offsets → Sized (length ss) (map other_entries offsets)
sized_others s ss offsets sized k h = rw (others_of offsets k) (length_others (get_or offsets k []) (length ss) (sized k (rw length-map at h)))

inside_parts : (s : ℕ) (ss : List ℕ) (x : ℤ) (xs o : List ℤ) → length o ≡ suc (length ss) → inside (s ∷ ss) (plus (x ∷ xs) o) ≡ true
    → (le_z (pos 0) (x +ℤ first_entry o) ≡ true) × (lt_z (x +ℤ first_entry o) (pos s) ≡ true) × (inside ss (plus xs (other_entries o)) ≡ true)
unfolding inside plus first_entry other_entries
inside_parts s ss x xs [] n e = absurd (omega arith)
inside_parts s ss x xs (y ∷ ys) n e =
    let (low, rest) = (and-eq-true_iff (le_z (pos 0) (x +ℤ y)) (lt_z (x +ℤ y) (pos s) && inside ss (plus xs ys))).0 e in
    let (high, others) = (and-eq-true_iff (lt_z (x +ℤ y) (pos s)) (inside ss (plus xs ys))).0 rest in
    (low, high, others)

-- A vector that keeps each offset inside the grid has indices below the extents, counted from the negated lows.
pub found : (sizes : List ℕ) (offsets : List (List ℤ)) (v : List ℤ) → 0 < length offsets → Sized (length sizes) offsets → length v ≡ length sizes
    → ((k : ℕ) → k < length offsets → inside sizes (plus v (get_or offsets k [])) ≡ true)
    → (us : List ℕ) × Below (extents sizes offsets) us × (v ≡ counted_from (map neg_ℤ (lows sizes offsets)) us)
unfolding lows extents plus
found [] offsets [] h sized n f = ([], tt, refl)
found [] offsets (x ∷ xs) h sized n f = absurd (omega arith)
found (s ∷ ss) offsets [] h sized n f = absurd (omega arith)
found (s ∷ ss) offsets (x ∷ xs) h sized n f =
    let (us, b, e) = found ss (map other_entries offsets) xs (rw length-map h) (sized_others s ss offsets sized) (suc_inj n) others in
    let (i, d) = index_of s (map first_entry offsets) x (rw length-map h) first in
    (natural (x +ℤ least (map first_entry offsets)) ∷ us, (i, b), ap₂ ◌∷◌ d e)
  where
    first : (k : ℕ) → k < length (map first_entry offsets)
        → (le_z (pos 0) (x +ℤ get_or (map first_entry offsets) k (pos 0)) ≡ true) × (lt_z (x +ℤ get_or (map first_entry offsets) k (pos 0)) (pos s) ≡ true)
    first k l =
        let m = rw length-map at l in
        let (low, high, rest) = inside_parts s ss x xs (get_or offsets k []) (sized k m) (f k m) in
        rw (first_of_lem offsets k) (low, high)

    others : (k : ℕ) → k < length (map other_entries offsets) → inside ss (plus xs (get_or (map other_entries offsets) k [])) ≡ true
    others k l =
        let m = rw length-map at l in
        rw (others_of offsets k) (inside_parts s ss x xs (get_or offsets k []) (sized k m) (f k m)).2

-- What is counted from xs is at least xs, its indices are counted from there, and it has as many entries.
counted_at_least : (xs : List ℤ) (us : List ℕ) → length us ≡ length xs → AtLeast xs (counted_from xs us)
unfolding plus
counted_at_least [] [] n = none
counted_at_least (x ∷ xs) [] n = absurd (omega arith)
counted_at_least [] (u ∷ us) n = absurd (omega arith)
counted_at_least (x ∷ xs) (u ∷ us) n = next (sum_at_least u x) (counted_at_least xs us (suc_inj n))

pub counted_relative : (xs : List ℤ) (us : List ℕ) → length us ≡ length xs → relative (counted_from xs us) xs ≡ us
unfolding plus relative
counted_relative xs [] n = refl
counted_relative [] (u ∷ us) n = absurd (omega arith)
counted_relative (x ∷ xs) (u ∷ us) n = ap₂ ◌∷◌ (sum_above u x) (counted_relative xs us (suc_inj n))

pub length_counted : (xs : List ℤ) (us : List ℕ) → length us ≡ length xs → length (counted_from xs us) ≡ length us
unfolding plus
length_counted xs [] n = refl
length_counted [] (u ∷ us) n = absurd (omega arith)
length_counted (x ∷ xs) (u ∷ us) n = ap suc (length_counted xs us (suc_inj n))

pub length_indices : (es : List ℕ) (j : ℕ) → length (indices es j) ≡ length es
unfolding indices
length_indices [] j = refl
length_indices (e ∷ es) j = ap suc (length_indices es (j % product es))

-- The vectors of a box of these widths, counted from a first one that has an entry for each.
module _ (first : List ℤ) (ws : List ℕ) (n : length ws ≡ length first) where
  abbrev pub numbered : ℕ → List ℤ
  numbered j = counted_from first (indices ws j)

  length_indexed : (j : ℕ) → length (indices ws j) ≡ length first
  length_indexed j = length_indices ws j ∙ n

  pub length_numbered : (j : ℕ) → length (numbered j) ≡ length first
  length_numbered j = length_counted first (indices ws j) (length_indexed j) ∙ length_indexed j

  pub relative_numbered : (j : ℕ) → relative (numbered j) first ≡ indices ws j
  relative_numbered j = counted_relative first (indices ws j) (length_indexed j)

  pub numbered_at_least : (j : ℕ) → AtLeast first (numbered j)
  numbered_at_least j = counted_at_least first (indices ws j) (length_indexed j)

  -- Lexicographic order of its vectors is the order of their indices' places, in each grid that these lie in: the box itself, and the whole grid.
  order_in_lem : (ss : List ℕ) (i j : ℕ) → Below ss (indices ws i) → Below ss (indices ws j)
      → before (numbered i) (numbered j) ≡ ltb (place ss (indices ws i)) (place ss (indices ws j))
  order_in_lem ss i j a b =
      rw (relative_numbered i, relative_numbered j) at
      (before_place ss (numbered_at_least i) (numbered_at_least j) (rw (relative_numbered i) a) (rw (relative_numbered j) b))

  numbered_order : (i j : ℕ) → i < product ws → j < product ws → before (numbered i) (numbered j) ≡ ltb i j
  numbered_order i j a b = rw (place_indices ws i a, place_indices ws j b) at (order_in_lem ws i j (indices_below ws i a) (indices_below ws j b))

module _ (sizes : List ℕ) (offsets : List (List ℤ)) where
  -- Iteration j's indices, counted from the first iteration's.
  abbrev pub indices_of : ℕ → List ℕ
  indices_of j = indices (extents sizes offsets) j

  -- Reference k's offset, counted from the lows: the indices of the cell that it reads in the first iteration.
  abbrev pub first_cell : ℕ → List ℕ
  first_cell k = relative (get_or offsets k []) (lows sizes offsets)

  pub entry_each : length (extents sizes offsets) ≡ length (map neg_ℤ (lows sizes offsets))
  entry_each = length_extents sizes offsets ∙ sym (length_lows sizes offsets) ∙ sym (length-map (lows sizes offsets) neg_ℤ)

  -- The first iteration of all.
  abbrev first_of_all : List ℤ
  first_of_all = map neg_ℤ (lows sizes offsets)

  pub length_iteration : (j : ℕ) → length (iteration sizes offsets j) ≡ length sizes
  unfolding iteration
  length_iteration j = length_numbered first_of_all (extents sizes offsets) entry_each j ∙ length-map (lows sizes offsets) neg_ℤ ∙ length_lows sizes offsets

  pub relative_iteration : (j : ℕ) → relative (iteration sizes offsets j) (map neg_ℤ (lows sizes offsets)) ≡ indices_of j
  unfolding iteration
  relative_iteration j = relative_numbered first_of_all (extents sizes offsets) entry_each j

  pub iteration_at_least : (j : ℕ) → AtLeast (map neg_ℤ (lows sizes offsets)) (iteration sizes offsets j)
  unfolding iteration
  iteration_at_least j = numbered_at_least first_of_all (extents sizes offsets) entry_each j

  pub indices_rise : (i j : ℕ) → i < j → j < iteration_count sizes offsets → place sizes (indices_of i) < place sizes (indices_of j)
  unfolding iteration_count
  indices_rise i j l b =
      let es = extents sizes offsets in
      let a : i < product es = omega arith in
      ltb-true (place sizes (indices_of i)) (place sizes (indices_of j))
      (sym (order_in_lem first_of_all es entry_each sizes i j (extents_within sizes offsets (indices_of i) (indices_below es i a)) (extents_within sizes offsets (indices_of j) (indices_below es j b)))
      ∙ numbered_order first_of_all es entry_each i j a b ∙ lt-ltb i j l)

  module _ (sized : Sized (length sizes) offsets) (k : ℕ) (h : k < length offsets) where
    pub offset_at_least : AtLeast (lows sizes offsets) (get_or offsets k [])
    offset_at_least = at_least_lows sizes offsets k (get_or offsets k []) h refl (sized k h)

    -- The cell read is the offset counted from the lows and the iteration's indices, added up.
    pub cell_read : (j : ℕ) → plus (iteration sizes offsets j) (get_or offsets k []) ≡ map pos (add (first_cell k) (indices_of j))
    unfolding iteration
    cell_read j = sum_of_entries (indices_of j) offset_at_least

    pub position_read : (j : ℕ) → reads sizes offsets j k ≡ place sizes (add (first_cell k) (indices_of j))
    unfolding reads position
    position_read j = rw (cell_read j, natural_of_pos)

    pub first_below : (j : ℕ) → j < iteration_count sizes offsets → Below sizes (first_cell k)
    unfolding iteration_count
    first_below j b = (stays_inside sizes offsets k (get_or offsets k []) (indices_of j) h refl (sized k h) (indices_below (extents sizes offsets) j b)).0

    pub read_below : (j : ℕ) → j < iteration_count sizes offsets → Below sizes (add (first_cell k) (indices_of j))
    unfolding iteration_count
    read_below j b = (stays_inside sizes offsets k (get_or offsets k []) (indices_of j) h refl (sized k h) (indices_below (extents sizes offsets) j b)).1
