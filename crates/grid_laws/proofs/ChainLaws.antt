-- A chain that is made of what plays a part has that part.
use Prim.Native.Nat.{ℕ, ◌+◌, ◌-◌, ◌*◌, ◌/◌, ◌%◌, ◌≤◌, ◌<◌}
use mathlib.Core.Bool.{Bool, true, false, cond}
use mathlib.Core.List.{List, []}
use mathlib.Core.Path.{◌≡◌, refl, sym, ◌∙◌, ap, ap₂, subst}
use native.Mathlib.Nat.{mul-add-div, mul-add-mod_self_left, div-eq_of_lt, mod-eq_of_lt}
use native.Mathlib.Omega.{arith}
use lib.ListN.{length, get_or}
use lib.IntN.{ℤ, pos}
use Rattle.model.specs.Lists.{tabulate}
use Rattle.model.specs.Grounds.{Row, Ground, dims}
use Rattle.model.specs.Grounds.Ground.{rectangle, skewed}
use Rattle.model.specs.Boxes.{Part}
use Rattle.model.specs.Boxes.Part.{whole, box}
use Rattle.model.specs.Sized.{Sized, Bounded}
use Rattle.model.specs.Values.{Trimmed, sizes_of, rows_of, ground_of, dims_of, entry_of, offset_of, offsets_of, capacities_of, order_of, part_of, trimmed, Same, on_grid, on_rectangle, on_rows, window_of, capacity_array, index_array, bounds_of, size_array, grid_of, normal_grid, chain_of}
use Rattle.model.specs.declared.Bounds.{Bounds}
use Rattle.model.specs.declared.Chain.{Chain}
use Rattle.model.specs.declared.Grid.{Grid}
use Rattle.model.specs.declared.Order.{Order}
use Rattle.model.specs.declared.Window.{Window}
use Rattle.grid_laws.proofs.ListLaws.{length_tabulate, get_d_tabulate, tabulate_back}

-- Entry d of reference k's offset stands at 4 k + d.
reference_of : (k d : ℕ) → d < 4 → (4 * k + d) / 4 ≡ k
reference_of k d h = omega (arith, mul-add-div {m = 4} (omega arith) k d, div-eq_of_lt h)

entry_of_lem : (k d : ℕ) → d < 4 → (4 * k + d) % 4 ≡ d
entry_of_lem k d h = mul-add-mod_self_left 4 k d ∙ mod-eq_of_lt h

-- Offsets and capacities in their arrays stand there as they were.
pub offsets_back : (dims n : ℕ) (os : List (List ℤ)) → length os ≡ n → ((k : ℕ) → k < n → length (get_or os k []) ≡ dims) → dims ≤ 4 → n ≤ 32 → offsets_of dims (window_of n os) ≡ os
unfolding offsets_of offset_of
offsets_back dims n os count sized few most =
    tabulate_back [] os n _ count (λ k h. tabulate_back (pos 0) (get_or os k []) dims _ (sized k h) (entry k h))
  where
    entry : (k : ℕ) → k < n → (d : ℕ) → d < dims → entry_of (window_of n os) k d ≡ get_or (get_or os k []) d (pos 0)
    entry k h d b =
        get_d_tabulate 128 _ (4 * k + d) (pos 0) (omega arith)
        ∙ ap₂ (λ (k d : ℕ). get_or (get_or os k []) d (pos 0)) (reference_of k d (omega arith)) (entry_of_lem k d (omega arith))

pub capacities_back : (n : ℕ) (xs : List ℕ) → length xs ≡ n → n ≤ 31 → tabulate n (λ k. get_or (capacity_array xs) k 0) ≡ xs
capacities_back n xs count most = tabulate_back 0 xs n _ count (λ k h. get_d_tabulate 31 _ k 0 (omega arith))

pub sizes_count : (g : Grid) → length (sizes_of g) ≡ g.dims
unfolding sizes_of
sizes_count g = length_tabulate g.dims _

pub rows_count : (n : ℕ) (rows : List ℕ) → length (rows_of n rows) ≡ n
unfolding rows_of
rows_count n rows = length_tabulate n _

-- A grid's cells have as many dimensions as the grid.
pub ground_dims : (g : Grid) (rows : List ℕ) → dims (ground_of g rows) ≡ dims_of g
unfolding ground_of dims_of
ground_dims g rows = go g.skewed
  where
    go : (s : Bool) → dims (cond s (skewed (rows_of g.rows rows)) (rectangle (sizes_of g))) ≡ cond s 2 g.dims
    go true = refl
    go false = sizes_count g

-- A grid's normal form is that of its cells,
pub grid_normal : (g : Grid) (rows : List ℕ) → grid_of (dims_of g) (ground_of g rows) ≡ normal_grid g
unfolding grid_of ground_of dims_of
grid_normal g rows = go g.skewed
  where
    go : (s : Bool) → grid_of (cond s 2 g.dims) (cond s (skewed (rows_of g.rows rows)) (rectangle (sizes_of g)))
        ≡ record { skewed = s; rows = cond s g.rows 0; dims = cond s 2 g.dims; sizes = size_array (cond s [] (sizes_of g)) }
    go true = λ i. record { skewed = true; rows = rows_count g.rows rows i; dims = 2; sizes = size_array [] }
    go false = refl

-- and its rows are read again where they were.
abbrev rows_in : Ground → List Row
rows_in (rectangle sizes) = []
rows_in (skewed rs) = rs

abbrev pub Again : (rows : List ℕ) → Ground → Type 0
Again rows g = (rs : List Row) → g ≡ skewed rs → rows_of (length rs) rows ≡ rs

pub ground_again : (g : Grid) (rows : List ℕ) → Again rows (ground_of g rows)
unfolding ground_of rows_of tabulate
ground_again g rows rs e = go g.skewed (ap rows_in e)
  where
    go : (s : Bool) → rows_in (cond s (skewed (rows_of g.rows rows)) (rectangle (sizes_of g))) ≡ rs → rows_of (length rs) rows ≡ rs
    go true h = subst (λ (rs : List Row). rows_of (length rs) rows ≡ rs) h (ap (λ (n : ℕ). rows_of n rows) (rows_count g.rows rows))
    go false h = subst (λ (rs : List Row). rows_of (length rs) rows ≡ rs) h refl

module _ (t : Trimmed) (rows : List ℕ) where
  chain_ground : Again rows t.the_ground → dims t.the_ground ≡ t.dims → t.dims ≤ 4 → ground_of (chain_of t).grid rows ≡ t.the_ground
  unfolding sizes_of chain_of grid_of ground_of
  chain_ground again same few = go t.the_ground again same
    where
      go : (g : Ground) → Again rows g → dims g ≡ t.dims → ground_of (grid_of t.dims g) rows ≡ g
      go (rectangle sizes) again same = ap rectangle (tabulate_back 0 sizes t.dims _ same (λ d h. get_d_tabulate 4 _ d 0 (omega arith)))
      go (skewed rs) again same = ap skewed (again rs refl)

  chain_dims : dims t.the_ground ≡ t.dims → dims_of (chain_of t).grid ≡ t.dims
  unfolding chain_of grid_of dims_of
  chain_dims same = go t.the_ground same
    where
      go : (g : Ground) → dims g ≡ t.dims → dims_of (grid_of t.dims g) ≡ t.dims
      go (rectangle sizes) same = refl
      go (skewed rs) same = same

  chain_offsets : dims t.the_ground ≡ t.dims → length t.offsets ≡ t.count → Sized (dims t.the_ground) t.offsets → t.dims ≤ 4 → t.count ≤ 32
      → offsets_of t.dims (chain_of t).window ≡ t.offsets
  unfolding chain_of
  chain_offsets same count sized few most = offsets_back t.dims t.count t.offsets count (λ k h. sized k (omega arith) ∙ same) few most

  chain_capacities : length t.capacities ≡ t.count - 1 → t.count ≤ 32 → capacities_of (chain_of t) ≡ t.capacities
  unfolding capacities_of chain_of
  chain_capacities fifos most = capacities_back (t.count - 1) t.capacities fifos (omega arith)

  chain_order : length t.order ≡ cond t.ordered t.count 0 → t.count ≤ 32 → order_of t.count (chain_of t).order ≡ t.order
  unfolding order_of chain_of tabulate
  chain_order terms most = go t.ordered terms
    where
      go : (b : Bool) → length t.order ≡ cond b t.count 0 → cond b (tabulate t.count (λ i. get_or (tabulate 32 (λ i. get_or t.order i 0)) i 0)) [] ≡ t.order
      go true e = tabulate_back 0 t.order t.count (λ i. get_or (tabulate 32 (λ i. get_or t.order i 0)) i 0) e (λ k h. get_d_tabulate 32 (λ i. get_or t.order i 0) k 0 (omega arith))
      go false e = tabulate_back 0 t.order 0 (λ k. k) e (λ k h. absurd (omega arith))

  chain_part : dims t.the_ground ≡ t.dims → Bounded (dims t.the_ground) t.part → t.dims ≤ 4 → part_of t.dims (chain_of t).bounds ≡ t.part
  unfolding chain_of part_of bounds_of
  chain_part same bounded few = go t.part bounded
    where
      back : (xs : List ℤ) → length xs ≡ dims t.the_ground → tabulate t.dims (λ d. get_or (index_array xs) d (pos 0)) ≡ xs
      back xs n = tabulate_back (pos 0) xs t.dims _ (n ∙ same) (λ d h. get_d_tabulate 4 _ d (pos 0) (omega arith))

      go : (p : Part) → Bounded (dims t.the_ground) p → part_of t.dims (bounds_of p) ≡ p
      go whole b = refl
      go (box lowest highest) b = ap₂ box (back lowest b.0) (back highest b.1)

  -- Of the chain that is made of it the value plays a part again, where its lists are of the lengths that the counts say and no longer than a chain's.
  pub trimmed_chain : Again rows t.the_ground → dims t.the_ground ≡ t.dims → length t.offsets ≡ t.count → Sized (dims t.the_ground) t.offsets → Bounded (dims t.the_ground) t.part
      → length t.capacities ≡ t.count - 1 → length t.order ≡ cond t.ordered t.count 0 → t.dims ≤ 4 → t.count ≤ 32 → trimmed (chain_of t) rows ≡ t
  unfolding trimmed chain_of
  trimmed_chain again same count sized bounded fifos terms few most = λ i. record {
    dims = chain_dims same i;
    the_ground = chain_ground again same few i;
    count = t.count;
    offsets = (ap (λ (d : ℕ). offsets_of d (chain_of t).window) (chain_dims same) ∙ chain_offsets same count sized few most) i;
    part = (ap (λ (d : ℕ). part_of d (chain_of t).bounds) (chain_dims same) ∙ chain_part same bounded few) i;
    capacities = chain_capacities fifos most i;
    ordered = t.ordered;
    order = chain_order terms most i;
    kernel = t.kernel;
  }

-- An order has a filter for each term where it stood, and none where it did not.
pub length_order : (n : ℕ) (o : Order) → length (order_of n o) ≡ cond o.stood n 0
unfolding order_of
length_order n o = go o.stood
  where
    go : (b : Bool) → length (cond b (tabulate n (λ t. get_or o.filters t 0)) []) ≡ cond b n 0
    go true = length_tabulate n _
    go false = refl

-- A window has as many offsets as it counts, and each has an entry for every dimension of the grid.
pub offsets_count : (dims : ℕ) (w : Window) → length (offsets_of dims w) ≡ w.count
unfolding offsets_of
offsets_count dims w = length_tabulate w.count (offset_of dims w)

pub offsets_entries : (dims : ℕ) (w : Window) → Sized dims (offsets_of dims w)
unfolding offset_of offsets_of
offsets_entries dims w k h = let b = rw length_tabulate at h in rw (get_d_tabulate w.count (offset_of dims w) k [] b) (length_tabulate dims _)

pub offsets_sized : (g : Grid) (rows : List ℕ) (w : Window) → Sized (dims (ground_of g rows)) (offsets_of (dims_of g) w)
offsets_sized g rows w = subst (λ (d : ℕ). Sized d (offsets_of (dims_of g) w)) (sym (ground_dims g rows)) (offsets_entries (dims_of g) w)

-- A box has a lowest and a highest index for each.
pub part_entries : (dims : ℕ) (b : Bounds) → Bounded dims (part_of dims b)
unfolding part_of
part_entries dims b = go b.stood
  where
    go : (stood : Bool) → Bounded dims (cond stood (box (tabulate dims (λ d. get_or b.lowest d (pos 0))) (tabulate dims (λ d. get_or b.highest d (pos 0)))) whole)
    go true = (length_tabulate dims _, length_tabulate dims _)
    go false = tt

pub part_bounded : (g : Grid) (rows : List ℕ) (b : Bounds) → Bounded (dims (ground_of g rows)) (part_of (dims_of g) b)
part_bounded g rows b = subst (λ (d : ℕ). Bounded d (part_of (dims_of g) b)) (sym (ground_dims g rows)) (part_entries (dims_of g) b)

-- The same of a rectangle, by its sizes.
pub sizes_sized : (g : Grid) (w : Window) → Sized (length (sizes_of g)) (offsets_of g.dims w)
sizes_sized g w = subst (λ (d : ℕ). Sized d (offsets_of g.dims w)) (sym (sizes_count g)) (offsets_entries g.dims w)

pub sizes_bounded : (g : Grid) (b : Bounds) → Bounded (length (sizes_of g)) (part_of g.dims b)
sizes_bounded g b = subst (λ (d : ℕ). Bounded d (part_of g.dims b)) (sym (sizes_count g)) (part_entries g.dims b)

-- A grid that is not skewed is a rectangle, whatever is lent beside it; one that is has two dimensions and its rows.
module _ (g : Grid) (flat : g.skewed ≡ false) where
  pub dims_flat : dims_of g ≡ g.dims
  unfolding dims_of
  dims_flat = rw flat

  pub ground_flat : (rows : List ℕ) → ground_of g rows ≡ rectangle (sizes_of g)
  unfolding ground_of
  ground_flat rows = rw flat

  pub on_flat : (rows : List ℕ) (w : Window) (b : Bounds) → on_grid g rows w b ≡ on_rectangle g w b
  unfolding ground_of dims_of
  on_flat rows w b = rw flat

module _ (g : Grid) (is : g.skewed ≡ true) where
  pub dims_skewed : dims_of g ≡ 2
  unfolding dims_of
  dims_skewed = rw is

  pub ground_skewed : (rows : List ℕ) → ground_of g rows ≡ skewed (rows_of g.rows rows)
  unfolding ground_of
  ground_skewed rows = rw is

  pub on_skewed : (rows : List ℕ) (w : Window) (b : Bounds) → on_grid g rows w b ≡ on_rows g.rows rows w b
  unfolding ground_of dims_of
  on_skewed rows w b = rw is

-- A chain's normal form is the same chain.
pub same_normal : (c : Chain) (rows : List ℕ) → dims_of c.grid ≤ 4 → c.window.count ≤ 32 → Same (chain_of (trimmed c rows)) rows c rows
unfolding trimmed capacities_of
same_normal c rows few most =
    trimmed_chain (trimmed c rows) rows (ground_again c.grid rows) (ground_dims c.grid rows) (offsets_count (dims_of c.grid) c.window) (offsets_sized c.grid rows c.window)
    (part_bounded c.grid rows c.bounds) (length_tabulate (c.window.count - 1) _) (length_order c.window.count c.order) few most
