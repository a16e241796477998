-- What the plain nested loop's functions leave.
use Rattle.std.specs.Prelude.{ℕ, zero, suc, ◌+◌, ◌-◌, ◌*◌, ◌/◌, ◌%◌, Bool, true, false, cond, ◌&&◌, List, [], ◌∷◌, Option, Some, None, unwrap_or, eqb, ltb, leb, Float, ℤ, pos, negsuc, length, get_or, set, replicate}
use Rattle.std.specs.Float.{binary32}
use Rattle.std.specs.Float.Ieee.{add, mul}
use Rattle.model_run.specs.Kernels.{float, word, squared}
use Rattle.model.specs.declared.Bounds.{Bounds}
use Rattle.model.specs.declared.Grid.{Grid}
use Rattle.model.specs.declared.Window.{Window}
use Rattle.model.specs.declared.Request.{Request}
use Rattle.model.specs.declared.Kernel.{Kernel}
use Rattle.model.specs.declared.Kernel.TheVariants as kernel
use Rattle.nested.specs.declared.windows.Loops.{Loops}

-- A sum so far, which begins with its first term, and a term more.
abbrev pub added : Option Float → Float → Option Float
added None t = Some t
added (Some s) t = Some (add binary32 s t)

-- The terms of references 0 to n - 1 but one, in their order.
unfoldable pub sum_but : (term : ℕ → Float) (but n : ℕ) → Option Float
sum_but term but zero = None
sum_but term but (suc k) = cond (eqb k but) (sum_but term but k) (added (sum_but term but k) (term k))

-- Reference k's word, of 32.
unfoldable pub word_in : (words : List ℕ) (k : ℕ) → ℕ
word_in ws k = cond (ltb k 32) (get_or ws k 0) 0

-- 0 of no term. The sum of the references' values but one, and that of the squares of the centre less each other reference.
unfoldable pub values : (words : List ℕ) (n but : ℕ) → Float
values ws n but = unwrap_or (sum_but (λ k. float (word_in ws k)) but n) (float 0)

unfoldable pub squares : (words : List ℕ) (n centre : ℕ) → Float
squares ws n c = unwrap_or (sum_but (λ k. squared (word_in ws c) (word_in ws k)) c n) (float 0)

-- The words of n references as a firing leaves them: raw all, the others one word at the first place.
unfoldable pub fired : Kernel → (n centre : ℕ) → List ℕ → List ℕ
fired kernel.Raw n c ws = ws
fired kernel.Difference n c ws = set ws 0 (word (squares ws n c))
fired (kernel.Scaled f) n c ws = set ws 0 (word (mul binary32 (values ws n n) f))
fired (kernel.Blend g) n c ws = set ws 0
    (word (add binary32 (mul binary32 g.a (float (word_in ws c))) (mul binary32 g.b (values ws n c))))

-- An index moved by an entry of an offset, which is written as the character `0`, `+` or `-`; outside of every grid where
-- that cannot be.
unfoldable pub moved_by : (i entry : ℕ) → ℕ
moved_by i e =
    cond (eqb e 48) i
    (cond (eqb e 43) (cond (ltb i 1048576) (i + 1) 1048576)
    (cond (eqb e 45) (cond (ltb 0 i) (i - 1) 1048576)
    1048576))

-- Index b of row a, where rows have `size` entries.
unfoldable pub index_in : (a size b : ℕ) → ℕ
index_in a size b = cond (ltb a 1048576)
    (cond (ltb size 1048576) (cond (ltb b 1048576) (a * size + b) 1099511627776) 1099511627776) 1099511627776

-- The cell at [z][y][x]; a word that no firing should show where there is none.
abbrev pub no_cell : ℕ
no_cell = 0x0BAD0BAD

unfoldable pub cell_of : Loops → (cells : List ℕ) (z y x : ℕ) → ℕ
cell_of l cells z y x =
    let p = index_in (index_in z l.rows y) l.columns x in
    cond (ltb z l.planes)
    (cond (ltb y l.rows) (cond (ltb x l.columns) (cond (ltb p (length cells)) (get_or cells p 0) no_cell) no_cell)
    no_cell) no_cell

-- What reference k reads in iteration [z][y][x]: its offset is written from character 4 * k on.
unfoldable pub read_by : Loops → (window cells : List ℕ) (z y x k : ℕ) → ℕ
read_by l window cells z y x k =
    cell_of l cells (moved_by z (get_or window (4 * k) 0)) (moved_by y (get_or window (4 * k + 1) 0))
    (moved_by x (get_or window (4 * k + 2) 0))

-- The words with those of n references from k on, as many as the window has.
unfoldable pub gathered : Loops → (window cells : List ℕ) (z y x k n : ℕ) → List ℕ → List ℕ
gathered l window cells z y x k zero ws = ws
gathered l window cells z y x k (suc n) ws =
    cond (leb (length window) (4 * k + 2)) ws (gathered l window cells z y x
    (suc k) n (set ws k (read_by l window cells z y x k)))

-- Word i, one of 32, stands in `out`, where the words stand from place `at` to before `end`.
unfoldable pub stands : (words out : List ℕ) (at end i : ℕ) → Bool
stands words out at end i = ltb i 32 && (ltb (at + i) end && eqb (get_or out (at + i) 0) (get_or words i 0))

-- How many of n words from number i on stand there, up to the first that does not.
unfoldable pub standing : (words out : List ℕ) (at end i n : ℕ) → ℕ
standing words out at end i zero = 0
standing words out at end i (suc n) = cond (stands words out at end i) (suc (standing words out at end (suc i) n)) 0

-- Of the first `count`; none where `out` is shorter than `end`.
unfoldable pub agreed : (words out : List ℕ) (count at end : ℕ) → ℕ
agreed words out count at end = cond (ltb (length out) end) 0 (standing words out at end 0 count)

-- A grid of 768 by 1024, one of 40 by 32 by 32, and one of 4 by 5: each index from its first to before its end.
abbrev pub flat_loops : (centre : ℕ) → Loops
flat_loops centre = record {
  dims = 2;
  planes = 1;
  rows = 768;
  columns = 1024;
  z_first = 0;
  z_end = 1;
  y_first = 1;
  y_end = 767;
  x_first = 1;
  x_end = 1023;
  boxed = false;
  centre = centre;
}

abbrev pub solid_loops : (centre : ℕ) → Loops
solid_loops centre = record {
  dims = 3;
  planes = 40;
  rows = 32;
  columns = 32;
  z_first = 1;
  z_end = 39;
  y_first = 1;
  y_end = 31;
  x_first = 1;
  x_end = 31;
  boxed = false;
  centre = centre;
}

abbrev pub small_loops : (centre : ℕ) → Loops
small_loops centre = record {
  dims = 2;
  planes = 1;
  rows = 4;
  columns = 5;
  z_first = 0;
  z_end = 1;
  y_first = 1;
  y_end = 3;
  x_first = 1;
  x_end = 4;
  boxed = false;
  centre = centre;
}

-- The rectangle around a skewed grid, gone over whole.
abbrev pub around_loops : (rows columns centre : ℕ) → Loops
around_loops rows columns centre = record {
  dims = 2;
  planes = 1;
  rows = rows;
  columns = columns;
  z_first = 0;
  z_end = 1;
  y_first = 0;
  y_end = rows;
  x_first = 0;
  x_end = columns;
  boxed = false;
  centre = centre;
}

-- The same grid and window, over a box.
abbrev pub box_loops : Loops → (z_first z_end y_first y_end x_first x_end : ℕ) → Loops
box_loops l z_first z_end y_first y_end x_first x_end = record {
  dims = l.dims;
  planes = l.planes;
  rows = l.rows;
  columns = l.columns;
  z_first = z_first;
  z_end = z_end;
  y_first = y_first;
  y_end = y_end;
  x_first = x_first;
  x_end = x_end;
  boxed = true;
  centre = l.centre;
}

-- The grid of these loops.
abbrev pub size_of : ℕ → ℕ
size_of x = x % 4294967296

unfoldable pub grid_of : Loops → Grid
grid_of l =
    cond (eqb l.dims 2)
    (record { skewed = false; rows = 0; dims = 2; sizes = size_of l.rows ∷ size_of l.columns ∷ 0 ∷ 0 ∷ [] })
    (record { skewed = false; rows = 0; dims = 3; sizes = size_of l.planes ∷ size_of l.rows ∷ size_of l.columns ∷ 0 ∷ [] })

-- An entry of an offset by its character, and the entries with those of reference k, where z is no entry of a grid of two
-- dimensions.
unfoldable pub entry_of : ℕ → ℤ
entry_of c = cond (eqb c 43) (pos 1) (cond (eqb c 45) (negsuc 0) (pos 0))

unfoldable pub placed : (dims k z y x : ℕ) → List ℤ → List ℤ
placed dims k z y x es =
    cond (leb 32 k) es
    (cond (eqb dims 2)
    (set (set es (4 * k) (entry_of y)) (4 * k + 1) (entry_of x))
    (set (set (set es (4 * k) (entry_of z)) (4 * k + 1) (entry_of y)) (4 * k + 2) (entry_of x)))

-- The entries with those of k references more, which the window has from character `at` on.
unfoldable pub listed_from : (dims : ℕ) (window : List ℕ) (k at : ℕ) → List ℤ → List ℤ
listed_from dims window zero at es = es
listed_from dims window (suc k) at es =
    listed_from dims window k (at + 4)
    (cond (ltb (at + 2) (length window))
    (placed dims (at / 4) (get_or window at 0) (get_or window (at + 1) 0) (get_or window (at + 2) 0) es) es)

abbrev pub references_in : (window : List ℕ) → ℕ
references_in window = length window / 4 + 1

-- The window with its references as they are written.
unfoldable pub listed : (dims : ℕ) (window : List ℕ) → Window
listed dims window = record
    { count = references_in window % 256; offsets = listed_from dims window (references_in window) 0 (replicate 128 (pos 0)) }

-- An index as a signed number, and the last before the end of a loop, which is -1 where that is 0.
abbrev pub index_of : ℕ → ℤ
index_of x = pos (x % 2147483648)

unfoldable pub last_before : (end : ℕ) → ℤ
last_before end = cond (eqb end 0) (negsuc 0) (index_of (end - 1))

-- An index for each dimension of the grid, where z is none of a grid of two.
unfoldable pub along_dims : (dims : ℕ) (z y x : ℤ) → List ℤ
along_dims dims z y x = cond (eqb dims 2) (y ∷ x ∷ pos 0 ∷ pos 0 ∷ []) (z ∷ y ∷ x ∷ pos 0 ∷ [])

-- The box that the loops go over, by the lowest and the highest index of each; none where they go over all iterations.
unfoldable pub lowest_of : Loops → List ℤ
lowest_of l = along_dims l.dims (index_of l.z_first) (index_of l.y_first) (index_of l.x_first)

unfoldable pub highest_of : Loops → List ℤ
highest_of l = along_dims l.dims (last_before l.z_end) (last_before l.y_end) (last_before l.x_end)

unfoldable pub bounds_of : Loops → Bounds
bounds_of l =
    cond l.boxed
    (record { stood = true; lowest = lowest_of l; highest = highest_of l })
    (record { stood = false; lowest = replicate 4 (pos 0); highest = replicate 4 (pos 0) })

unfoldable pub request_of : Loops → (window : List ℕ) → Kernel → Request
request_of l window k = record { grid = grid_of l; window = listed l.dims window; bounds = bounds_of l; kernel = k }

-- The same on a skewed grid of so many rows.
abbrev pub on_rows : Request → (rows : ℕ) → Request
on_rows r rows = record {
  grid = record { skewed = true; rows = rows; dims = 2; sizes = replicate 4 0 };
  window = r.window;
  bounds = r.bounds;
  kernel = r.kernel;
}
