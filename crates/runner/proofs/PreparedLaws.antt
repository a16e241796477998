-- What the prepared tables of an accepted chain give the loops.
use Prim.Native.Nat.{ℕ, zero, suc, ◌+◌, ◌*◌, ◌-◌, ◌≤◌, ◌<◌}
use mathlib.Core.List.{List, [], ◌∷◌}
use mathlib.Core.Path.{◌≡◌, refl, sym, ◌∙◌, ap}
use native.Mathlib.Nat.{zero-add, zero-mul, suc-mul, pos_of_dvd_of_pos}
use native.Mathlib.Omega.{arith}
use native.Mathlib.Decide.{ℕ_discrete}
use lib.ListN.{length, get_or, drop}
use Rattle.model.specs.Lists.{up_to, sum, product}
use Rattle.model.specs.Geometry.{cell_count, place, indices}
use Rattle.model.specs.Grounds.{ground_sizes, dims}
use Rattle.model.specs.Grounds as the_ground
use Rattle.model_run.specs.Kernels.{written, terms}
use Rattle.model.specs.Values.{Trimmed}
use Rattle.model.specs.Iterations.{cells_of, extents_of}
use Rattle.model_run.specs.Store.{first_place}
use Rattle.model_run.specs.Running.{layout, filters_of, terms_of, writes_of, written_by}
use Rattle.grid_laws.proofs.Iterations.{iterations_product, extents_count, reads_from_first, at_most_cells}
use Rattle.model.specs.Sized.{Proper, Fitting}
use Rattle.run_laws.specs.Accepted.{Accepted}
use Rattle.run_laws.proofs.Accepts.{fitting_of}
use Rattle.run_laws.proofs.Held.{first_place_suc}
use Rattle.run_laws.proofs.Layouts.{wants_read, lawful, all_places}
use Rattle.loop_laws.specs.LoopTables.{walked, Tables, Stands, Rows}
use Rattle.loop_laws.proofs.RowLaws.{walked_place, last_of, last_is, divides, product_drop, place_next}
use Rattle.run_glide.specs.Glides.{Walks}
use Rattle.run_prepare.specs.Ready.{Prepared, Begins}
use Rattle.run_prepare.proofs.GridLaws.{GoodGrid, good_grid}

first_place_up : (capacity : ℕ → ℕ) (k n : ℕ) → k ≤ n → first_place capacity k ≤ first_place capacity n
first_place_up capacity k zero h = rw (let e : k ≡ 0 = omega arith in e) (omega arith)
first_place_up capacity k (suc n) h = go (ℕ_discrete k (suc n)) (first_place_up capacity k n)
  where
    go : Dec (k ≡ suc n) → (k ≤ n → first_place capacity k ≤ first_place capacity n) → first_place capacity k ≤ first_place capacity (suc n)
    go (yes e) ih = rw e (omega arith)
    go (no e) ih = omega (arith, ih (omega arith), first_place_suc capacity n)

-- Every FIFO's places lie below the sum of the capacities.
pub top : (t : Trimmed) → Proper t → Accepted t → (k : ℕ) → suc k < t.count → first_place (layout t).capacity k + get_or t.capacities k 0 ≤ sum t.capacities
unfolding layout
top t proper ok k h =
    omega (arith, first_place_suc (layout t).capacity k, first_place_up (layout t).capacity (suc k) (t.count - 1) (omega arith), all_places t proper ok)

factor_below : (a b : ℕ) → 0 < a * b → b ≤ a * b
factor_below zero b h = absurd (let z : ⊥ = omega (arith, zero-mul b) in z)
factor_below (suc a) b h = omega (arith, suc-mul a b)

-- A part of the dimensions has no more cells than all.
product_below : (ss : List ℕ) (k : ℕ) → 0 < product ss → product (drop k ss) ≤ product ss
unfolding product
product_below ss zero h = omega arith
product_below [] (suc k) h = omega arith
product_below (s ∷ ss) (suc k) h =
    omega (arith, product_below ss k (product_drop (s ∷ ss) 1 h), factor_below s (product ss) h)

module _ (t : Trimmed) (proper : Proper t) (row iterations cells centre : ℕ) (at caps bases tops spans strides : List ℕ)
    (P : Prepared t row iterations cells centre at caps bases tops spans strides) where
  abbrev sizes : List ℕ
  sizes = ground_sizes t.the_ground

  abbrev es : List ℕ
  es = extents_of t

  fit : Fitting t
  fit = fitting_of t proper P.accepted

  good : GoodGrid t
  good = good_grid t sizes P.rectangular P.accepted

  sized : length sizes ≡ t.dims
  sized = sym (ap dims P.rectangular) ∙ proper.dimensions

  all_cells : cells_of t ≡ product sizes
  unfolding cells_of the_ground.cell_count cell_count
  all_cells = ap the_ground.cell_count P.rectangular

  dimensions : length es ≡ t.dims
  dimensions = extents_count t fit sizes P.rectangular ∙ sized

  iterates : 0 < product es
  iterates = omega (arith, iterations_product t fit sizes P.rectangular, P.accepted.iterates)

  pub walk_is : (j : ℕ) → walked spans strides t.dims 0 j ≡ place sizes (indices es j)
  walk_is j =
      walked_place sizes es spans strides t.dims 0 j sized dimensions (λ i h. rw zero-add (P.spans_are i h)) (λ i h. rw zero-add (P.strides_are i h))

  pub walks : Walks t.dims spans strides
  unfolding cell_count
  walks = record {
    few = good.few;
    each = λ d g. (rw (P.spans_are d g) (product_drop es (suc d) iterates), strides_low d g);
  }
    where
      strides_low : (d : ℕ) → d < t.dims → get_or strides d 0 ≤ 1048576
      strides_low d g =
          omega (arith, P.strides_are d g, product_below sizes (suc d) (omega (arith, P.accepted.iterates, at_most_cells t fit, all_cells)), good.cells, all_cells)

  pub rows : Rows (walked spans strides t.dims 0) row iterations
  rows = record {
    some = rw row_last (last_some es (omega (arith, dimensions, good.some)) iterates);
    on = λ f _ h.
        walk_is (suc f)
        ∙ place_next sizes es f (sized ∙ sym dimensions) (omega (arith, dimensions, good.some)) iterates (rw row_last at h)
        ∙ ap suc (sym (walk_is f));
  }
    where
      row_last : row ≡ last_of es
      row_last = P.row_is ∙ ap (λ (d : ℕ). get_or es (d - 1) 0) (sym dimensions) ∙ last_is es

      last_some : (xs : List ℕ) → 0 < length xs → 0 < product xs → 0 < last_of xs
      last_some [] h p = absurd (omega arith)
      last_some (x ∷ xs) h p = pos_of_dvd_of_pos (divides x xs) p

  pub tables : Tables (layout t) (walked spans strides t.dims 0) t.count cells iterations at caps bases
  unfolding layout
  tables = record {
    filters_are = refl;
    cells_are = sym P.cells_are;
    iterations_are = sym P.iterations_are;
    some = P.accepted.some;
    few = P.accepted.few;
    most = omega (arith, P.cells_are, good.cells);
    lawful = lawful t proper P.accepted;
    reads = λ f k h g. reads f k h g;
    small = λ k h. omega (arith, P.caps_are k h, top t proper P.accepted k h, P.accepted.places);
    places = record { bases_are = P.bases_are; caps_are = P.caps_are };
  }
    where
      reads : (f k : ℕ) → f < iterations → k < t.count → (layout t).wants f k ≡ get_or at k 0 + walked spans strides t.dims 0 f
      reads f k h g =
          wants_read t proper P.accepted f k (omega (arith, P.iterations_are))
          ∙ reads_from_first t fit sizes P.rectangular f k (omega (arith, P.iterations_are)) g
          ∙ omega (arith, P.at_are k g, walk_is f)

  pub stands : (fired : ℕ) (wants passed store : List ℕ) → Begins t fired wants passed store → Stands (layout t) t.count fired caps bases passed store
  unfolding layout
  stands fired wants passed store B = record {
    there = B.there;
    within = λ k h. omega (arith, P.bases_are k h, P.caps_are k h, top t proper P.accepted k h, B.room);
    holds = B.holds;
  }

  pub writes_are : (ws : List ℕ) → written_by t ws ≡ written t.kernel centre (terms t.kernel centre (filters_of t)) (up_to t.count) ws
  unfolding written_by terms_of writes_of
  writes_are ws = rw P.centre_is
