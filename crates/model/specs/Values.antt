-- What of a grid, a window, a request and a chain handed over as a value plays a part: "entries past its counts play no part,
-- and chains that differ only there are the same".
use Rattle.std.specs.Prelude.{ℕ, ◌+◌, ◌-◌, ◌*◌, ◌/◌, ◌%◌, Bool, true, false, cond, List, [], ◌≡◌, ℤ, pos, length, get_or, replicate}
use Rattle.std.proofs.lemmas.List.Edits.{sets}
use Rattle.model.specs.Lists.{tabulate}
use Rattle.model.specs.Grounds.{Row, Ground}
use Rattle.model.specs.Grounds.Ground.{rectangle, skewed}
use Rattle.model.specs.Boxes.{Part}
use Rattle.model.specs.Boxes.Part.{whole, box}
use Rattle.model.specs.declared.Grid.{Grid}
use Rattle.model.specs.declared.Window.{Window}
use Rattle.model.specs.declared.Kernel.{Kernel}
use Rattle.model.specs.declared.Kernel.TheVariants as kernel
use Rattle.model.specs.declared.Bounds.{Bounds}
use Rattle.model.specs.declared.Order.{Order}
use Rattle.model.specs.declared.Request.{Request}
use Rattle.model.specs.declared.Chain.{Chain}

unfoldable pub sizes_of : Grid → List ℕ
sizes_of g = tabulate g.dims (λ d. get_or g.sizes d 0)

-- Rows that are lent beside a value, so many of them: row i's start is number 2 i and its length number 2 i + 1; where there
-- are too few numbers, a row has no cells.
unfoldable pub rows_of : (count : ℕ) → List ℕ → List Row
rows_of count rows = tabulate count (λ i. record { start = get_or rows (2 * i) 0; length = get_or rows (2 * i + 1) 0 })

-- The cells of a grid, whose rows, where it is skewed, are lent beside it; and how many dimensions it has.
unfoldable pub ground_of : Grid → (rows : List ℕ) → Ground
ground_of g rows = cond g.skewed (skewed (rows_of g.rows rows)) (rectangle (sizes_of g))

unfoldable pub dims_of : Grid → ℕ
dims_of g = cond g.skewed 2 g.dims

-- Entry d of reference k's offset.
abbrev pub entry_of : Window → ℕ → ℕ → ℤ
entry_of w k d = get_or w.offsets (4 * k + d) (pos 0)

unfoldable pub offset_of : ℕ → Window → ℕ → List ℤ
offset_of dims w k = tabulate dims (λ d. entry_of w k d)

unfoldable pub offsets_of : ℕ → Window → List (List ℤ)
offsets_of dims w = tabulate w.count (λ k. offset_of dims w k)

-- FIFO k's capacity.
abbrev pub capacity_of : Chain → ℕ → ℕ
capacity_of c k = get_or c.capacities k 0

unfoldable pub capacities_of : Chain → List ℕ
capacities_of c = tabulate (c.window.count - 1) (λ k. capacity_of c k)

-- The author's order where there are n filters: the filter of each term in turn; none where its line did not stand: "A part
-- of the record whose line is absent plays no part."
unfoldable pub order_of : ℕ → Order → List ℕ
order_of n o = cond o.stood (tabulate n (λ t. get_or o.filters t 0)) []

-- Which iterations a run covers, in so many dimensions: those of the box; all, where its line did not stand.
unfoldable pub part_of : ℕ → Bounds → Part
part_of dims b = cond b.stood
    (box (tabulate dims (λ d. get_or b.lowest d (pos 0))) (tabulate dims (λ d. get_or b.highest d (pos 0)))) whole

-- A request or a chain without the entries past its counts and without an absent part: all of it that plays a part.
pub record Trimmed : Type 0 where
  pub dims : ℕ
  pub the_ground : Ground
  pub count : ℕ
  pub offsets : List (List ℤ)
  pub part : Part
  pub capacities : List ℕ
  pub ordered : Bool
  pub order : List ℕ
  pub kernel : Kernel

-- A grid, a window, bounds, capacities, an order, which stood or did not, and a kernel: what of them plays a part.
abbrev pub trimmed_of : Grid → (rows : List ℕ) → Window → Bounds → (capacities : List ℕ) → (ordered : Bool) (order : List ℕ)
    → Kernel → Trimmed
trimmed_of g rows w b capacities ordered order k = record {
  dims = dims_of g;
  the_ground = ground_of g rows;
  count = w.count;
  offsets = offsets_of (dims_of g) w;
  part = part_of (dims_of g) b;
  capacities = capacities;
  ordered = ordered;
  order = order;
  kernel = k;
}

unfoldable pub trimmed : Chain → (rows : List ℕ) → Trimmed
trimmed c rows = trimmed_of c.grid rows c.window c.bounds (capacities_of c) c.order.stood
    (order_of c.window.count c.order) c.kernel

-- Two chains, each with its rows, are the same.
abbrev pub Same : Chain → (rows : List ℕ) → Chain → (rows : List ℕ) → Type 0
Same c rows d rows' = trimmed c rows ≡ trimmed d rows'

-- A window on a grid as a value, with no capacities and no order, and raw.
abbrev pub on_grid : Grid → (rows : List ℕ) → Window → Bounds → Trimmed
on_grid g rows w b = trimmed_of g rows w b [] false [] kernel.Raw

-- The same on a rectangle, and on rows.
abbrev pub on_rectangle : Grid → Window → Bounds → Trimmed
on_rectangle g w b = record {
  dims = g.dims;
  the_ground = rectangle (sizes_of g);
  count = w.count;
  offsets = offsets_of g.dims w;
  part = part_of g.dims b;
  capacities = [];
  ordered = false;
  order = [];
  kernel = kernel.Raw;
}

abbrev pub on_rows : (count : ℕ) → (rows : List ℕ) → Window → Bounds → Trimmed
on_rows count rows w b = record {
  dims = 2;
  the_ground = skewed (rows_of count rows);
  count = w.count;
  offsets = offsets_of 2 w;
  part = part_of 2 b;
  capacities = [];
  ordered = false;
  order = [];
  kernel = kernel.Raw;
}

-- Offsets, capacities and an order's filters in their arrays, with 0 past the last.
abbrev pub window_of : (n : ℕ) → List (List ℤ) → Window
window_of n offsets = record { count = n; offsets = tabulate 128 (λ i. get_or (get_or offsets (i / 4) []) (i % 4) (pos 0)) }

abbrev pub capacity_array : List ℕ → List ℕ
capacity_array capacities = tabulate 31 (λ k. get_or capacities k 0)

abbrev pub filter_array : List ℕ → List ℕ
filter_array order = tabulate 32 (λ t. get_or order t 0)

-- Bounds whose line did not stand, and those of the iterations that a run covers.
abbrev pub no_bounds : Bounds
no_bounds = record { stood = false; lowest = replicate 4 (pos 0); highest = replicate 4 (pos 0) }

abbrev pub index_array : List ℤ → List ℤ
index_array xs = tabulate 4 (λ d. get_or xs d (pos 0))

unfoldable pub bounds_of : Part → Bounds
bounds_of whole = no_bounds
bounds_of (box lowest highest) = record { stood = true; lowest = index_array lowest; highest = index_array highest }

-- A grid's normal form: of a rectangle the sizes, with 0 past the last; of rows how many there are, and two dimensions.
abbrev pub size_array : List ℕ → List ℕ
size_array sizes = tabulate 4 (λ d. get_or sizes d 0)

unfoldable pub grid_of : (dims : ℕ) → Ground → Grid
grid_of dims (rectangle sizes) = record { skewed = false; rows = 0; dims = dims; sizes = size_array sizes }
grid_of dims (skewed rs) = record { skewed = true; rows = length rs; dims = dims; sizes = size_array [] }

abbrev pub normal_grid : Grid → Grid
normal_grid g = record {
  skewed = g.skewed;
  rows = cond g.skewed g.rows 0;
  dims = dims_of g;
  sizes = size_array (cond g.skewed [] (sizes_of g));
}

-- The chain of which this plays a part, with 0 past its counts: a chain's normal form. Its rows are lent beside it.
unfoldable pub chain_of : Trimmed → Chain
chain_of t = record {
  grid = grid_of t.dims t.the_ground;
  window = window_of t.count t.offsets;
  bounds = bounds_of t.part;
  capacities = capacity_array t.capacities;
  order = record { stood = t.ordered; filters = filter_array t.order };
  kernel = t.kernel;
}

-- A window without references, and a window with one reference more, whose offset has these entries.
abbrev pub blank_window : Window
blank_window = record { count = 0; offsets = replicate 128 (pos 0) }

abbrev pub with_reference : Window → List ℤ → Window
with_reference w entries = record { count = w.count + 1; offsets = sets w.offsets (4 * w.count) entries }

-- An order whose line did not stand.
abbrev pub no_order : Order
no_order = record { stood = false; filters = replicate 32 0 }

-- A rectangle without dimensions.
abbrev pub blank_grid : Grid
blank_grid = record { skewed = false; rows = 0; dims = 0; sizes = replicate 4 0 }

-- What a refusal hands back in place of a chain: all counts and entries 0, no box, no order, and raw.
abbrev pub blank_chain : Chain
blank_chain = record {
  grid = blank_grid;
  window = blank_window;
  bounds = no_bounds;
  capacities = replicate 31 0;
  order = no_order;
  kernel = kernel.Raw;
}

-- The request that a chain without its capacities and its order is.
abbrev pub request_of : Chain → Request
request_of c = record { grid = c.grid; window = c.window; bounds = c.bounds; kernel = c.kernel }

-- A chain with one field set.
abbrev pub set_grid : Grid → Chain → Chain
set_grid g c = record {
  grid = g;
  window = c.window;
  bounds = c.bounds;
  capacities = c.capacities;
  order = c.order;
  kernel = c.kernel;
}

abbrev pub set_window : Window → Chain → Chain
set_window w c = record {
  grid = c.grid;
  window = w;
  bounds = c.bounds;
  capacities = c.capacities;
  order = c.order;
  kernel = c.kernel;
}

abbrev pub set_bounds : Bounds → Chain → Chain
set_bounds b c = record {
  grid = c.grid;
  window = c.window;
  bounds = b;
  capacities = c.capacities;
  order = c.order;
  kernel = c.kernel;
}

abbrev pub set_capacities : List ℕ → Chain → Chain
set_capacities xs c = record {
  grid = c.grid;
  window = c.window;
  bounds = c.bounds;
  capacities = xs;
  order = c.order;
  kernel = c.kernel;
}

abbrev pub set_order : Order → Chain → Chain
set_order o c = record {
  grid = c.grid;
  window = c.window;
  bounds = c.bounds;
  capacities = c.capacities;
  order = o;
  kernel = c.kernel;
}

abbrev pub set_kernel : Kernel → Chain → Chain
set_kernel k c = record {
  grid = c.grid;
  window = c.window;
  bounds = c.bounds;
  capacities = c.capacities;
  order = c.order;
  kernel = k;
}
