-- What reading the sheet of a chain gives back: the same chain, with 0 past its counts.
use Prim.Native.Nat.{ℕ, zero, suc, ◌+◌, ◌-◌, ◌*◌, ◌/◌, ◌%◌, ◌≤◌, ◌<◌}
use mathlib.Core.Bool.{Bool, true, false, cond}
use mathlib.Core.List.{List, []}
use mathlib.Core.Path.{◌≡◌, refl, sym, ap, ◌∙◌}
use native.Mathlib.Omega.{arith}
use lib.Dec.{ltb}
use lib.IntN.{ℤ, pos}
use lib.ListN.{length, get_or, set, replicate, length-set, get_or-eq_default}
use lib.Seq.{sets, length-sets, get_or-set_same, get_or-set_other, ext_get_or}
use borrow.Author.Tests.{lt-ltb, le-ltb}
use Rattle.model.specs.declared.Chain.{Chain}
use Rattle.model.specs.declared.Grid.{Grid}
use Rattle.model.specs.declared.Order.{Order}
use Rattle.model.specs.declared.Window.{Window}
use Rattle.model.specs.Lists.{tabulate}
use Rattle.model.specs.Values.{sizes_of, ground_of, dims_of, entry_of, offset_of, offsets_of, capacity_of, capacities_of, order_of, part_of, trimmed, bounds_of, size_array, normal_grid, chain_of}
use Rattle.grid_laws.proofs.ListLaws.{length_tabulate, get_d_tabulate, tabulate_same}
use Rattle.grid_laws.proofs.ChainLaws.{grid_normal, same_normal}
use Rattle.sheet_laws.proofs.Cases.{by_lt}
use Rattle.sheet_laws.proofs.AcceptedChains.{Accepted}
use Rattle.sheet_trips.proofs.Bytes.{blank_at}
use Rattle.sheet_trips.proofs.Values.{sets_before, sets_at, sets_behind}

-- 0 past a count.
abbrev pub up_to : {A : Type 0} → A → ℕ → ℕ → A → A
up_to z count i v = cond (ltb i count) v z

unfoldable pub read_sizes : Grid → List ℕ
read_sizes g = tabulate 4 (λ d. up_to 0 g.dims d (get_or g.sizes d 0))

unfoldable pub read_entries : ℕ → Window → ℕ → List ℤ
read_entries dims w k = tabulate 4 (λ d. up_to (pos 0) dims d (entry_of w k d))

unfoldable pub read_offsets : ℕ → Window → ℕ → List ℤ
read_offsets dims w zero = replicate 128 (pos 0)
read_offsets dims w (suc k) = sets (read_offsets dims w k) (4 * k) (read_entries dims w k)

unfoldable pub read_capacities : List ℕ → ℕ → List ℕ
read_capacities a zero = replicate 31 0
read_capacities a (suc k) = set (read_capacities a k) k (get_or a k 0)

unfoldable pub read_order : ℕ → (stood : Bool) (filters : List ℕ) → Order
read_order n stood filters = record { stood = stood; filters = tabulate 32 (λ t. get_or (cond stood (tabulate n (λ i. get_or filters i 0)) []) t 0) }

unfoldable pub read_back : Chain → Chain
read_back c = record {
  grid = normal_grid c.grid;
  window = record { count = c.window.count; offsets = read_offsets (dims_of c.grid) c.window c.window.count };
  bounds = bounds_of (part_of (dims_of c.grid) c.bounds);
  capacities = read_capacities c.capacities (c.window.count - 1);
  order = read_order c.window.count c.order.stood c.order.filters;
  kernel = c.kernel;
}

module _ (dims : ℕ) (w : Window) where
  length_offsets : (n : ℕ) → length (read_offsets dims w n) ≡ 128
  unfolding read_offsets
  length_offsets zero = refl
  length_offsets (suc n) = simp length-sets (length_offsets n)

  four_entries : (k : ℕ) → length (read_entries dims w k) ≡ 4
  unfolding read_entries
  four_entries k = length_tabulate 4 _

  entry_of_four : (k d : ℕ) → d < 4 → get_or (read_entries dims w k) d (pos 0) ≡ up_to (pos 0) dims d (entry_of w k d)
  unfolding read_entries
  entry_of_four k d h = get_d_tabulate 4 _ d (pos 0) h

  entry_read : (n k d : ℕ) → n ≤ 32 → k < n → d < 4 → get_or (read_offsets dims w n) (4 * k + d) (pos 0) ≡ up_to (pos 0) dims d (entry_of w k d)
  unfolding read_offsets
  entry_read zero k d few less h = absurd (omega arith)
  entry_read (suc n) k d few less h =
      let es = read_entries dims w n in
      by_lt k n
      (λ l. sets_before es (read_offsets dims w n) (4 * n) (4 * k + d) (pos 0) (omega arith) ∙ entry_read n k d (omega arith) l h)
      (λ l. let e : k ≡ n = omega arith in
      rw e
      (sets_at es (read_offsets dims w n) (4 * n) d (pos 0) (omega (arith, length_offsets n, four_entries n)) (omega (arith, four_entries n))
      ∙ entry_of_four n d h))

module _ (a : List ℕ) where
  length_capacities : (n : ℕ) → length (read_capacities a n) ≡ 31
  unfolding read_capacities
  length_capacities zero = refl
  length_capacities (suc n) = simp length-set (length_capacities n)

  capacity_read : (n k : ℕ) → n ≤ 31 → k < n → get_or (read_capacities a n) k 0 ≡ get_or a k 0
  unfolding read_capacities
  capacity_read zero k few less = absurd (omega arith)
  capacity_read (suc n) k few less =
      by_lt k n
      (λ l. get_or-set_other (read_capacities a n) n k (get_or a n 0) 0 (λ e. omega arith) ∙ capacity_read n k (omega arith) l)
      (λ l. let e : k ≡ n = omega arith in rw e (get_or-set_same (read_capacities a n) n (get_or a n 0) 0 (omega (arith, length_capacities n))))

-- It is the chain's normal form.
table_at : {A : Type 0} (n i : ℕ) (f : ℕ → A) (d : A) → get_or (tabulate n f) i d ≡ up_to d n i (f i)
table_at n i f d =
    by_lt i n
    (λ h. get_d_tabulate n f i d h ∙ rw (lt-ltb _ _ h))
    (λ h. get_or-eq_default (tabulate n f) d {n = i} (rw length_tabulate h) ∙ rw (le-ltb _ _ h))

normal_sizes : (g : Grid) → read_sizes g ≡ tabulate 4 (λ d. get_or (sizes_of g) d 0)
unfolding read_sizes sizes_of
normal_sizes g = tabulate_same 4 _ _ (λ d _. sym (table_at g.dims d (λ i. get_or g.sizes i 0) 0))

module _ (dims : ℕ) (w : Window) where
  past_offsets : (n k d : ℕ) → n ≤ k → get_or (read_offsets dims w n) (4 * k + d) (pos 0) ≡ pos 0
  unfolding read_offsets
  past_offsets zero k d h = blank_at 128 (4 * k + d) (pos 0)
  past_offsets (suc n) k d h =
      sets_behind (read_entries dims w n) (read_offsets dims w n) (4 * n) (4 * k + d) (pos 0) (omega (arith, four_entries dims w n)) ∙ past_offsets n k d (omega arith)

  normal_entry : (n k d : ℕ) → n ≤ 32 → d < 4 → get_or (read_offsets dims w n) (4 * k + d) (pos 0) ≡ get_or (get_or (tabulate n (λ j. offset_of dims w j)) k []) d (pos 0)
  unfolding offset_of
  normal_entry n k d few h =
      by_lt k n
      (λ l. entry_read dims w n k d few l h ∙ sym (table_at dims d (λ i. entry_of w k i) (pos 0)) ∙ ap (λ o. get_or o d (pos 0)) (sym (get_d_tabulate n _ k [] l)))
      (λ l. past_offsets n k d l ∙ ap (λ o. get_or o d (pos 0)) (sym (get_or-eq_default (tabulate n _) [] {n = k} (rw length_tabulate l))))

  normal_offsets : w.count ≤ 32 → read_offsets dims w w.count ≡ tabulate 128 (λ i. get_or (get_or (offsets_of dims w) (i / 4) []) (i % 4) (pos 0))
  unfolding offsets_of
  normal_offsets few =
      ext_get_or (pos 0) _ _ (length_offsets dims w w.count ∙ sym (length_tabulate 128 _))
      (λ i h. let e : i ≡ 4 * (i / 4) + i % 4 = omega arith in
      ap (λ j. get_or (read_offsets dims w w.count) j (pos 0)) e
      ∙ normal_entry w.count (i / 4) (i % 4) few (omega arith)
      ∙ sym (get_d_tabulate 128 _ i (pos 0) (omega (arith, length_offsets dims w w.count))))

past_capacities : (a : List ℕ) (n k : ℕ) → n ≤ k → get_or (read_capacities a n) k 0 ≡ 0
unfolding read_capacities
past_capacities a zero k h = blank_at 31 k 0
past_capacities a (suc n) k h = get_or-set_other (read_capacities a n) n k (get_or a n 0) 0 (λ e. omega arith) ∙ past_capacities a n k (omega arith)

normal_capacities : (c : Chain) → c.window.count ≤ 32 → read_capacities c.capacities (c.window.count - 1) ≡ tabulate 31 (λ k. get_or (capacities_of c) k 0)
unfolding capacities_of
normal_capacities c few =
    let n = c.window.count - 1 in
    let a = c.capacities in
    ext_get_or 0 _ _ (length_capacities a n ∙ sym (length_tabulate 31 _))
    (λ k h. by_lt k n
    (λ l. capacity_read a n k (omega arith) l ∙ sym (get_d_tabulate n (λ i. capacity_of c i) k 0 l))
    (λ l. past_capacities a n k l ∙ sym (get_or-eq_default (tabulate n (λ i. capacity_of c i)) 0 {n = k} (rw length_tabulate l)))
    ∙ sym (get_d_tabulate 31 _ k 0 (omega (arith, length_capacities a n))))

-- A grid in its normal form, by its kind; it has as many dimensions.
abbrev normal_as : Grid → (skewed : Bool) → Grid
normal_as g skewed = record { skewed = skewed; rows = cond skewed g.rows 0; dims = cond skewed 2 g.dims; sizes = size_array (cond skewed [] (sizes_of g)) }

pub normal_flat : (g : Grid) → g.skewed ≡ false → record { skewed = false; rows = 0; dims = g.dims; sizes = read_sizes g } ≡ normal_grid g
unfolding dims_of
normal_flat g flat = (λ i. record { skewed = false; rows = 0; dims = g.dims; sizes = normal_sizes g i }) ∙ ap (normal_as g) (sym flat)

pub normal_skewed : (g : Grid) → g.skewed ≡ true → record { skewed = true; rows = g.rows; dims = 2; sizes = replicate 4 0 } ≡ normal_grid g
unfolding dims_of tabulate
normal_skewed g skewed = ap (normal_as g) (sym skewed)

pub normal_dims : (g : Grid) → dims_of (normal_grid g) ≡ dims_of g
unfolding dims_of
normal_dims g = go g.skewed
  where
    go : (skewed : Bool) → cond skewed 2 (cond skewed 2 g.dims) ≡ cond skewed 2 g.dims
    go true = refl
    go false = refl

pub normal_chain : (c : Chain) (rows : List ℕ) → c.window.count ≤ 32 → read_back c ≡ chain_of (trimmed c rows)
unfolding read_back chain_of trimmed read_order order_of
normal_chain c rows few = λ i. record {
  grid = sym (grid_normal c.grid rows) i;
  window = record { count = c.window.count; offsets = normal_offsets (dims_of c.grid) c.window few i };
  bounds = bounds_of (part_of (dims_of c.grid) c.bounds);
  capacities = normal_capacities c few i;
  order = record { stood = c.order.stood; filters = tabulate 32 (λ t. get_or (cond c.order.stood (tabulate c.window.count (λ i. get_or c.order.filters i 0)) []) t 0) };
  kernel = c.kernel;
}

-- And so the same chain, with rows that are the same.
same_rows : (c : Chain) (one other : List ℕ) → ground_of c.grid one ≡ ground_of c.grid other → trimmed c one ≡ trimmed c other
unfolding trimmed
same_rows c one other e = λ i. record {
  dims = dims_of c.grid;
  the_ground = e i;
  count = c.window.count;
  offsets = offsets_of (dims_of c.grid) c.window;
  part = part_of (dims_of c.grid) c.bounds;
  capacities = capacities_of c;
  ordered = c.order.stood;
  order = order_of c.window.count c.order;
  kernel = c.kernel;
}

pub same_chain : (c : Chain) (rows told : List ℕ) → Accepted c rows → ground_of c.grid told ≡ ground_of c.grid rows → trimmed (read_back c) told ≡ trimmed c rows
same_chain c rows told ok e =
    ap (λ (d : Chain). trimmed d told) (normal_chain c told ok.few) ∙ same_normal c told ok.few_dims ok.few ∙ same_rows c told rows e
