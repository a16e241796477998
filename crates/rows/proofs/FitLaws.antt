-- 15 by the numbers of a box.
use Prim.Native.Nat.{ℕ, ◌≤◌}
use mathlib.Core.List.{List}
use mathlib.Core.Path.{◌≡◌, sym, ap, ap₂}
use native.Mathlib.Omega.{arith}
use lib.IntN.{ℤ, neg_ℤ}
use lib.ListN.{length}
use Rattle.model.specs.Vectors.{above}
use Rattle.model.specs.Sized.{Sized}
use Rattle.model.specs.Grounds.{Row}
use Rattle.model.specs.Courses.{low_row, low_column}
use Rattle.model.specs.Boxes.{index_count}
use Rattle.grid_laws.proofs.IntegerLaws.{above_chain}
use Rattle.grid_laws.proofs.BoxLaws.{index_count_lem}
use Rattle.rows.specs.Courses.{downs, ons}
use Rattle.rows.specs.Boxing.{span_between, placed_by, BoxFits}
use Rattle.rows.specs.declared.boxed.Span.{Span}
use Rattle.rows.specs.declared.boxed.Placed.{Placed}
use Rattle.rows.proofs.CommonLaws.{start_common, end_common}
use Rattle.rows.proofs.PlacedLaws.{Fits}
use Rattle.rows.proofs.SpanLaws.{span_inside, inside_span}

pub placed_from : (count : ℕ) (l k h i low0 low1 : ℤ) (s t : Span) → s ≡ span_between l h low0 count → t ≡ span_between k i low1 8192
    → record { top = s.first; height = s.size; left = t.first; width = t.size } ≡ placed_by count l k h i low0 low1
placed_from count l k h i low0 low1 s t e f = ap₂ (λ (s t : Span). record { top = s.first; height = s.size; left = t.first; width = t.size }) e f

module _ (rs : List Row) (offsets : List (List ℤ)) (sized : Sized 2 offsets) (few : length offsets ≤ 32) (l k h i : ℤ) where
  abbrev placed : Placed
  placed = placed_by (length rs) l k h i (low_row offsets) (low_column offsets)

  abbrev boxed : Placed
  boxed = record { top = above l (neg_ℤ (low_row offsets)); height = index_count l h; left = above k (neg_ℤ (low_column offsets)); width = index_count k i }

  pub placed_is : Fits rs offsets sized l k h i → placed ≡ boxed
  placed_is f =
      sym (placed_from (length rs) l k h i (low_row offsets) (low_column offsets) _ _
      (sym (span_inside l h (low_row offsets) (length rs) f.down f.tall f.last)) (sym (span_inside k i (low_column offsets) 8192 f.on f.broad f.end)))

  -- A box that lies among the iterations is one that fits by its numbers,
  pub fits_numbers : Fits rs offsets sized l k h i → BoxFits rs (downs offsets) (ons offsets) (length offsets) placed
  fits_numbers f =
      let e = placed_is f in
      let a = above_chain h l (neg_ℤ (low_row offsets)) f.down f.tall in
      let b = above_chain i k (neg_ℤ (low_column offsets)) f.on f.broad in
      let m = index_count_lem l h f.tall in
      let n = index_count_lem k i f.broad in
      rw e (record {
        tall = omega arith;
        broad = omega arith;
        each = λ u p q.
            let (from, to) = f.each u p (omega arith) in
            (omega (arith, start_common offsets few rs u), omega (arith, end_common offsets few rs u));
      })

  -- and the other way round.
  pub numbers_fit : BoxFits rs (downs offsets) (ons offsets) (length offsets) placed → Fits rs offsets sized l k h i
  numbers_fit p =
      let (down, tall, last) = inside_span l h (low_row offsets) (length rs) (λ z. omega (arith, p.tall)) in
      let (on, broad, end) = inside_span k i (low_column offsets) 8192 (λ z. omega (arith, p.broad)) in
      let s = span_inside l h (low_row offsets) (length rs) down tall last in
      let t = span_inside k i (low_column offsets) 8192 on broad end in
      let a = above_chain h l (neg_ℤ (low_row offsets)) down tall in
      let b = above_chain i k (neg_ℤ (low_column offsets)) on broad in
      let m = index_count_lem l h tall in
      let n = index_count_lem k i broad in
      let s1 = ap (λ (s : Span). s.first) s in
      let s2 = ap (λ (s : Span). s.size) s in
      let t1 = ap (λ (s : Span). s.first) t in
      let t2 = ap (λ (s : Span). s.size) t in
      record {
        down = down;
        tall = tall;
        last = last;
        on = on;
        broad = broad;
        end = end;
        each = λ u x y.
            let (from, to) = p.each u (omega arith) (omega arith) in
            (omega (arith, start_common offsets few rs u), omega (arith, end_common offsets few rs u));
      }

  -- So it has few rows and columns.
  pub box_small : Fits rs offsets sized l k h i → length rs ≤ 512 → (index_count l h ≤ 512) × (index_count k i ≤ 8192)
  box_small f most =
      let a = above_chain h l (neg_ℤ (low_row offsets)) f.down f.tall in
      let b = above_chain i k (neg_ℤ (low_column offsets)) f.on f.broad in
      (omega (arith, f.last, index_count_lem l h f.tall), omega (arith, f.end, index_count_lem k i f.broad))
