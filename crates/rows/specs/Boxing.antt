-- A box among the iterations of a window on rows.
use Rattle.std.specs.Prelude.{ℕ, ◌+◌, ◌-◌, ◌≤◌, ◌<◌, cond, ◌&&◌, List, ltb, leb, ℤ, pos, get_or}
use Rattle.model.specs.Grounds.{Row}
use Rattle.windows.specs.Lows.{index_in}
use Rattle.rows.specs.Courses.{start_in, end_in}
use Rattle.rows.specs.declared.boxed.Span.{Span}
use Rattle.rows.specs.declared.boxed.Placed.{Placed}

-- The indices from the first to the last, which is below the extent; none where they are not so.
abbrev pub no_span : Span
no_span = record { first = 0; size = 0 }

unfoldable pub span_in : (first last extent : ℕ) → Span
span_in first last extent = cond (ltb last extent && leb first last) (record { first = first; size = last - first + 1 }) no_span

-- Each row of iterations from `from` up to before `to` has the columns from left to right.
abbrev pub Spans : List Row → (down on : List ℕ) (n from to left right : ℕ) → Type 0
Spans rs down on n from to left right = (u : ℕ) → from ≤ u → u < to
    → (start_in rs down on n u ≤ left) × (right < end_in rs down on n u)

-- In one dimension, by a box's lowest and highest index.
abbrev pub span_between : (l h low : ℤ) (extent : ℕ) → Span
span_between l h low extent = span_in (index_in l low extent) (index_in h low extent) extent

abbrev pub placed_by : (count : ℕ) (l k h i low_row low_column : ℤ) → Placed
placed_by count l k h i low_row low_column =
    let tall = span_between l h low_row count in
    let broad = span_between k i low_column 8192 in
    record { top = tall.first; height = tall.size; left = broad.first; width = broad.size }

abbrev pub placed_in : (count : ℕ) (lowest highest : List ℤ) (low_row low_column : ℤ) → Placed
placed_in count lowest highest low_row low_column =
    placed_by count (get_or lowest 0 (pos 0)) (get_or lowest 1 (pos 0)) (get_or highest 0 (pos 0))
    (get_or highest 1 (pos 0)) low_row
    low_column

-- The box lies among the iterations.
pub record BoxFits (rs : List Row) (down on : List ℕ) (n : ℕ) (p : Placed) : Type 0 where
  pub tall : 0 < p.height
  pub broad : 0 < p.width
  pub each : Spans rs down on n p.top (p.top + p.height) p.left (p.left + p.width - 1)
