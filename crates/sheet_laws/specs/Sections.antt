-- The sheet of a chain by the numbers of its lines: line 0 is the grid's; behind it come sections of lines, the offsets', the
-- box's, the capacities', the order's, and last the kernel's.
use Rattle.std.specs.Prelude.{ℕ, zero, suc, ◌+◌, ◌-◌, ◌*◌, Bool, cond, ◌&&◌, ltb, length, take, get_or}
use mathlib.Core.List.{List, [], ◌∷◌, ◌++◌, flat_map}
use Rattle.model.specs.declared.Bounds.{Bounds}
use Rattle.model.specs.declared.Chain.{Chain}
use Rattle.model.specs.declared.Grid.{Grid}
use Rattle.model.specs.declared.Order.{Order}
use Rattle.model.specs.declared.Window.{Window}
use Rattle.model.specs.Lists.{tabulate}
use Rattle.model.specs.Values.{dims_of, entry_of, capacity_of}
use Rattle.model_sheet.specs.Frames.{framed}
use Rattle.model_sheet.specs.Numbers.{half_bytes, word_bytes, pattern}
use Rattle.model_sheet.specs.Writing.{grid_line, index_pair, capacity_line, kernel_line}
use Rattle.sheet_laws.specs.declared.Part.{Part}
use Rattle.sheet_laws.specs.declared.Part.TheVariants as part

-- Rows: lines with all four sizes, entries or pairs of indices, whatever the dimension count, and with all 32 filter numbers,
-- however many references there are.
unfoldable pub grid_row : Grid → List ℕ
grid_row g =
    1 ∷ g.dims
    ∷ (word_bytes (get_or g.sizes 0 0)
    ++ (word_bytes (get_or g.sizes 1 0) ++ (word_bytes (get_or g.sizes 2 0) ++ word_bytes (get_or g.sizes 3 0))))

-- An `09` line of n rows goes by its numbers, of which each row has two.
unfoldable pub rows_line : (n : ℕ) → (rows : List ℕ) → List ℕ
rows_line n rows = 9 ∷ (half_bytes n ++ flat_map half_bytes (tabulate (2 * n) (λ i. get_or rows i 0)))

-- How many bytes the grid's line has.
unfoldable pub grid_len : Grid → ℕ
grid_len g = cond g.skewed (3 + 4 * g.rows) (2 + 4 * g.dims)

unfoldable pub offset_row : Window → ℕ → List ℕ
offset_row w k =
    2
    ∷ (half_bytes (pattern (entry_of w k 0))
    ++ (half_bytes (pattern (entry_of w k 1)) ++ (half_bytes (pattern (entry_of w k 2))
    ++ half_bytes (pattern (entry_of w k 3)))))

unfoldable pub box_row : Bounds → List ℕ
box_row b = 8 ∷ (index_pair b 0 ++ (index_pair b 1 ++ (index_pair b 2 ++ index_pair b 3)))

unfoldable pub order_row : Order → List ℕ
order_row o = 6 ∷ tabulate 32 (λ t. get_or o.filters t 0)

unfoldable pub row_of : Chain → Part → List ℕ
row_of c (part.Offset k) = offset_row c.window k
row_of c part.Box = box_row c.bounds
row_of c (part.Capacity k) = capacity_line (capacity_of c k)
row_of c part.Order = order_row c.order
row_of c part.Kernel = kernel_line c.kernel

-- How much of its row a line is.
unfoldable pub len_of : Chain → Part → ℕ
len_of c (part.Offset k) = 1 + 2 * dims_of c.grid
len_of c part.Box = 1 + 8 * dims_of c.grid
len_of c (part.Capacity k) = 5
len_of c part.Order = 1 + c.window.count
len_of c part.Kernel = length (kernel_line c.kernel)

-- The lines between the grid's and the capacities', of a sheet with n offsets: theirs, and the box's where one stands.
abbrev pub to_capacities : (boxed : Bool) (n : ℕ) → ℕ
to_capacities boxed n = n + cond boxed 1 0

-- Line `behind` from the capacities' on, counted from 0; and line m behind the grid's: the sections have n, 1 (0 where no box
-- stands), n - 1, 1 (0 where no order stands) and 1 lines;
unfoldable pub part_behind : (ordered : Bool) (n behind : ℕ) → Part
part_behind ordered n behind =
    cond (ltb (behind + 1) n) (part.Capacity behind)
    (cond (ltb behind n && ordered) part.Order
    part.Kernel)

unfoldable pub part_at : (boxed ordered : Bool) (n m : ℕ) → Part
part_at boxed ordered n m =
    cond (ltb m n) (part.Offset m)
    (cond (ltb m (to_capacities boxed n)) part.Box
    (part_behind ordered n (m - to_capacities boxed n)))

-- and how many lines there are in all.
unfoldable pub lines_behind : (boxed ordered : Bool) (n : ℕ) → ℕ
lines_behind boxed ordered n = to_capacities boxed n + n + cond ordered 1 0

-- `rows`: those of the grid's rows, where it is skewed.
unfoldable pub line_at : Chain → (rows : List ℕ) → ℕ → List ℕ
line_at c rows zero = grid_line c.grid rows
line_at c rows (suc m) = let p = part_at c.bounds.stood c.order.stood c.window.count m in take (len_of c p) (row_of c p)

-- So many lines from line m on.
unfoldable pub lines_from : Chain → (rows : List ℕ) → ℕ → ℕ → List ℕ
lines_from c rows m zero = []
lines_from c rows m (suc left) = framed (line_at c rows m) ++ lines_from c rows (m + 1) left
