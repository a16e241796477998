-- Judging a request or a chain as a value (document 01, "Turned back on account of the input", 3 to 9; document 02, requests
-- 2, 4 and 5, 14 to 16).
use Rattle.std.specs.Prelude.{ℕ, Bool, true, false, not, ◌&&◌, ◌||◌, List, [], ◌∷◌, ◌++◌, eqb, leb, ltb, ℤ, length, Float}
use Rattle.std.specs.Float.{nan, inf, fin}
use Rattle.model.specs.Lists.{sum, any}
use Rattle.model.specs.Vectors.{equal, is_zero}
use Rattle.model.specs.Geometry.{cell_count}
use Rattle.model.specs.Grounds.{Row, Ground}
use Rattle.model.specs.Grounds.Ground.{rectangle, skewed}
use Rattle.model.specs.Courses.{count, all_iterations}
use Rattle.model.specs.Boxes.{bad_box}
use Rattle.model.specs.Values.{Trimmed, trimmed, on_grid, on_rectangle, on_rows}
use Rattle.model.specs.Answers.{Verdict, Check, check, first_of}
use Rattle.model.specs.declared.Bounds.{Bounds}
use Rattle.model.specs.declared.Chain.{Chain}
use Rattle.model.specs.declared.Grid.{Grid}
use Rattle.model.specs.declared.Kernel.{Kernel}
use Rattle.model.specs.declared.Kernel.TheVariants as kernel
use Rattle.model.specs.declared.Refusal.{Refusal}
use Rattle.model.specs.declared.Refusal.TheVariants as refusal
use Rattle.model.specs.declared.Window.{Window}

abbrev pub most_cells : ℕ
most_cells = 1048576

abbrev pub most_places : ℕ
most_places = 16384

-- 3: "dimension count outside 1 to 4, a size 0, or too many cells"
unfoldable pub bad_dims : ℕ → Bool
bad_dims dims = eqb dims 0 || ltb 4 dims

unfoldable pub bad_sizes : List ℕ → Bool
bad_sizes sizes = any (λ s. eqb s 0) sizes || ltb most_cells (cell_count sizes)

unfoldable pub bad_grid : (dims : ℕ) (sizes : List ℕ) → Bool
bad_grid dims sizes = bad_dims dims || bad_sizes sizes

-- 16: "a row count, start or length outside its range"
unfoldable pub bad_row : Row → Bool
bad_row r = ltb 4095 r.start || (eqb r.length 0 || ltb 1024 r.length)

unfoldable pub bad_row_count : ℕ → Bool
bad_row_count n = eqb n 0 || ltb 512 n

unfoldable pub bad_rows : List Row → Bool
bad_rows rs = bad_row_count (length rs) || any bad_row rs

-- "in a value 16 stands where 3 does": what is looked at of a grid, and which number says it.
abbrev pub bad_ground : (dims : ℕ) → Ground → Bool
bad_ground dims (rectangle sizes) = bad_grid dims sizes
bad_ground dims (skewed rs) = bad_rows rs

abbrev pub ground_refusal : Ground → Refusal
ground_refusal (rectangle sizes) = refusal.BadGrid
ground_refusal (skewed rs) = refusal.BadRows

-- 4: n outside 1 to 32
unfoldable pub bad_count : ℕ → Bool
bad_count n = eqb n 0 || ltb 32 n

-- 5: two equal offsets
unfoldable pub repeats : List (List ℤ) → Bool
repeats [] = false
repeats (o ∷ os) = any (λ p. equal o p) os || repeats os

-- 6: no iteration
unfoldable pub no_iteration : Ground → (offsets : List (List ℤ)) → Bool
no_iteration g offsets = eqb (count (all_iterations g offsets)) 0

-- 7: difference or blend without a centre. "The centre is the zero offset."
unfoldable pub needs_centre : Kernel → Bool
needs_centre kernel.Raw = false
needs_centre kernel.Difference = true
needs_centre (kernel.Scaled f) = false
needs_centre (kernel.Blend g) = true

-- Whether a window has a centre.
abbrev pub centred : List (List ℤ) → Bool
centred offsets = any is_zero offsets

unfoldable pub lacks_centre : Kernel → (centred : Bool) → Bool
lacks_centre k centred = needs_centre k && not centred

-- 8: a factor that is infinite or not a number
unfoldable pub not_finite : Float → Bool
not_finite nan = true
not_finite (inf s) = true
not_finite (fin s m e) = false

unfoldable pub bad_factor : Kernel → Bool
bad_factor kernel.Raw = false
bad_factor kernel.Difference = false
bad_factor (kernel.Scaled f) = not_finite f
bad_factor (kernel.Blend g) = not_finite g.a || not_finite g.b

-- 9: "capacities, given or planned, summing above 16,384"
unfoldable pub too_large : List ℕ → Bool
too_large capacities = ltb most_places (sum capacities)

-- 14: "the bytes of `06` are not each filter number once": one of them is n or above, or stands twice.
unfoldable pub twice : List ℕ → Bool
twice [] = false
twice (k ∷ ks) = any (λ l. eqb k l) ks || twice ks

unfoldable pub bad_order : (n : ℕ) (order : List ℕ) → Bool
bad_order n order = any (λ k. leb n k) order || twice order

-- The checks of a value, in groups: 3, or 16 in its place, to 6, of a window on a grid, and "15 .. after 6", of its box,
unfoldable pub window_checks : Trimmed → List Check
window_checks t =
    check (bad_ground t.dims t.the_ground) (ground_refusal t.the_ground)
    ∷ check (bad_count t.count) refusal.BadCount
    ∷ check (repeats t.offsets) refusal.EqualOffsets
    ∷ check (no_iteration t.the_ground t.offsets) refusal.NoIteration
    ∷ check (bad_box t.the_ground t.offsets t.part) refusal.BadBox
    ∷ []

-- (what they answer by themselves)
abbrev pub judge_window : Grid → (rows : List ℕ) → Window → Bounds → Verdict
judge_window g rows w b = first_of (window_checks (on_grid g rows w b))

-- (on a rectangle, and on rows)
abbrev pub judge_rectangle : Grid → Window → Bounds → Verdict
judge_rectangle g w b = first_of (window_checks (on_rectangle g w b))

abbrev pub judge_rows : (count : ℕ) (rows : List ℕ) → Window → Bounds → Verdict
judge_rows count rows w b = first_of (window_checks (on_rows count rows w b))

-- 7 and 8, of a kernel, where the window has a centre or has none,
unfoldable pub kernel_checks : Kernel → (centred : Bool) → List Check
kernel_checks k centred = check (lacks_centre k centred) refusal.NoCentre ∷ check (bad_factor k) refusal.BadFactor ∷ []

-- 9, of capacities, and "14 .. after 9", of the author's order;
unfoldable pub chain_checks : (capacities : List ℕ) (n : ℕ) (order : List ℕ) → List Check
chain_checks capacities n order = check (too_large capacities) refusal.TooLarge ∷ check (bad_order n order) refusal.BadOrder ∷ []

-- all of them, in their order.
unfoldable pub value_checks : Trimmed → List Check
value_checks t = window_checks t
    ++ (kernel_checks t.kernel (centred t.offsets) ++ chain_checks t.capacities t.count t.order)

-- The first of these numbers whose condition holds.
unfoldable pub judged : Trimmed → Verdict
judged t = first_of (value_checks t)

-- The first of 7, 8 and 9, where 3 to 6 and 15 let pass and the sum of the capacities is known.
unfoldable pub judge_behind : Kernel → (centred : Bool) → (total : ℕ) → Verdict
judge_behind k centred total = first_of (kernel_checks k centred ++ (check (ltb most_places total) refusal.TooLarge ∷ []))

unfoldable pub judge_chain : Chain → (rows : List ℕ) → Verdict
judge_chain c rows = judged (trimmed c rows)
