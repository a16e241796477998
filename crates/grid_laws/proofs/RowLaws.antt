-- Laws of rows of cells.
use Prim.Native.Nat.{ℕ, zero, suc, ◌+◌, ◌-◌, ◌≤◌, ◌<◌}
use mathlib.Core.Bool.{Bool, true, false, cond, ◌&&◌, false≢true, and-eq-true_iff}
use mathlib.Core.List.{List, [], ◌∷◌, map}
use mathlib.Core.Path.{◌≡◌, refl, sym, ◌∙◌, ap, ap₂}
use native.Mathlib.Omega.{arith}
use native.Mathlib.Nat.{le_of_suc-le-suc}
use native.Mathlib.Decide.{ℕ_discrete, dec_lt}
use lib.Dec.{ltb, leb, eqb}
use lib.ListN.{length}
use lib.IntN.{ℤ, pos, negsuc}
use borrow.Author.Tests.{ltb-true, ltb-false, lt-ltb, le-ltb, le-leb, leb-true, eq-eqb, ne_eqb}
use Rattle.model.specs.Vectors.{same, before}
use Rattle.model.specs.Geometry.{natural}
use Rattle.grid_laws.proofs.IntegerLaws.{ltb_agrees}
use Rattle.model.specs.Grounds.{Row, row, end, cells_above, row_cells, has_column, inside_rows, row_place, row_at, column_at}

-- The row has the column.
pub record Holds (r : Row) (c : ℕ) : Type 0 where
  pub from : r.start ≤ c
  pub below : c < end r

-- The indices of a cell of the rows.
abbrev pub RowCell : List Row → List ℕ → Type 0
RowCell rs [] = ⊥
RowCell rs (i ∷ []) = ⊥
RowCell rs (i ∷ c ∷ []) = Holds (row rs i) c
RowCell rs (i ∷ c ∷ d ∷ u) = ⊥

-- A row's cells are among all, and come before those of the rows below it.
pub above_all : (rs : List Row) (i : ℕ) → cells_above rs i + (row rs i).length ≤ row_cells rs
unfolding cells_above row_cells
above_all [] zero = omega arith
above_all [] (suc i) = omega arith
above_all (r ∷ rs) zero = omega arith
above_all (r ∷ rs) (suc i) = omega (arith, above_all rs i)

pub above_later : (rs : List Row) (i j : ℕ) → i < j → cells_above rs i + (row rs i).length ≤ cells_above rs j
unfolding cells_above
above_later rs i zero h = absurd (omega arith)
above_later [] zero (suc j) h = omega arith
above_later [] (suc i) (suc j) h = omega arith
above_later (r ∷ rs) zero (suc j) h = omega arith
above_later (r ∷ rs) (suc i) (suc j) h = omega (arith, above_later rs i j (le_of_suc-le-suc h))

-- Only a row that there is has a column.
pub row_there : (rs : List Row) (i c : ℕ) → Holds (row rs i) c → i < length rs
row_there [] zero c h = absurd (omega arith)
row_there [] (suc i) c h = absurd (omega arith)
row_there (r ∷ rs) zero c h = omega arith
row_there (r ∷ rs) (suc i) c h = omega (arith, row_there rs i c h)

-- A vector inside has the indices of a cell, and the other way.
pub inside_holds : (rs : List Row) (i c : ℕ) → inside_rows rs (pos i ∷ pos c ∷ []) ≡ true → Holds (row rs i) c
unfolding inside_rows has_column natural
inside_holds rs i c e =
    let r = row rs i in
    let a = (and-eq-true_iff (leb 0 i) (leb r.start c && ltb c (end r))).0 e in
    let b = (and-eq-true_iff (leb r.start c) (ltb c (end r))).0 a.1 in
    record { from = leb-true r.start c b.0; below = ltb-true c (end r) b.1 }

pub inside_row_cell : (rs : List Row) (v : List ℤ) → inside_rows rs v ≡ true → (u : List ℕ) × (v ≡ map pos u) × RowCell rs u
unfolding inside_rows has_column natural
inside_row_cell rs [] e = absurd (false≢true e)
inside_row_cell rs (x ∷ []) e = absurd (false≢true e)
inside_row_cell rs (negsuc a ∷ y ∷ []) e = absurd (false≢true e)
inside_row_cell rs (pos i ∷ pos c ∷ []) e = (i ∷ c ∷ [], refl, inside_holds rs i c e)
inside_row_cell rs (pos i ∷ negsuc b ∷ []) e = absurd (false≢true ((and-eq-true_iff (leb 0 i) false).0 e).1)
inside_row_cell rs (x ∷ y ∷ z ∷ zs) e = absurd (false≢true e)

pub row_cell_inside : (rs : List Row) (u : List ℕ) → RowCell rs u → inside_rows rs (map pos u) ≡ true
unfolding inside_rows has_column natural
row_cell_inside rs [] h = absurd h
row_cell_inside rs (i ∷ []) h = absurd h
row_cell_inside rs (i ∷ c ∷ []) h = rw (le-leb 0 i (omega arith), le-leb (row rs i).start c h.from, lt-ltb c (end (row rs i)) h.below)
row_cell_inside rs (i ∷ c ∷ d ∷ u) h = absurd h

pub row_place_below : (rs : List Row) (u : List ℕ) → RowCell rs u → row_place rs u < row_cells rs
unfolding row_place
row_place_below rs [] h = absurd h
row_place_below rs (i ∷ []) h = absurd h
row_place_below rs (i ∷ c ∷ []) h = omega (arith, above_all rs i)
row_place_below rs (i ∷ c ∷ d ∷ u) h = absurd h

-- Lexicographic order of two cells is the order of their places.
pub row_order : (rs : List Row) (u w : List ℕ) → RowCell rs u → RowCell rs w → before (map pos u) (map pos w) ≡ ltb (row_place rs u) (row_place rs w)
unfolding row_place before same
row_order rs [] w h g = absurd h
row_order rs (i ∷ []) w h g = absurd h
row_order rs (i ∷ c ∷ d ∷ u) w h g = absurd h
row_order rs (i ∷ c ∷ []) [] h g = absurd g
row_order rs (i ∷ c ∷ []) (j ∷ []) h g = absurd g
row_order rs (i ∷ c ∷ []) (j ∷ b ∷ d ∷ w) h g = absurd g
row_order rs (i ∷ c ∷ []) (j ∷ b ∷ []) h g = go (dec_lt i j) (ℕ_discrete i j)
  where
    p : ℕ
    p = cells_above rs i + (c - (row rs i).start)

    q : ℕ
    q = cells_above rs j + (b - (row rs j).start)

    columns : Dec (c < b) → cond (ltb c b) true (eqb c b && false) ≡ ltb c b
    columns (yes d) = rw (lt-ltb c b d)
    columns (no d) = rw (le-ltb c b (omega arith)) (neither (eqb c b))
      where
        neither : (x : Bool) → x && false ≡ false
        neither true = refl
        neither false = refl

    go : Dec (i < j) → Dec (i ≡ j) → cond (ltb i j) true (eqb i j && cond (ltb c b) true (eqb c b && false)) ≡ ltb p q
    go (yes d) f = rw (lt-ltb i j d) (sym (lt-ltb p q (omega (arith, above_later rs i j d))))
    go (no d) (yes f) =
        rw (le-ltb i j (omega arith), eq-eqb i j f) (columns (dec_lt c b) ∙ ltb_agrees c b p q
        (let above = ap (cells_above rs) f in let start = ap (λ (i : ℕ). (row rs i).start) f in omega (arith, h.from, g.from)))
    go (no d) (no f) =
        rw (le-ltb i j (omega arith), ne_eqb i j f) (sym (le-ltb p q (omega (arith, above_later rs j i (omega arith)))))

-- The cell at position j.
pub record At (rs : List Row) (j : ℕ) : Type 0 where
  pub holds : Holds (row rs (row_at rs j)) (column_at rs j)
  pub place : cells_above rs (row_at rs j) + (column_at rs j - (row rs (row_at rs j)).start) ≡ j

pub row_cell_at : (rs : List Row) (j : ℕ) → j < row_cells rs → At rs j
unfolding row_cells row_at column_at cells_above
row_cell_at [] j h = absurd (omega arith)
row_cell_at (r ∷ rs) j h = go (ltb j r.length) refl (row_cell_at rs (j - r.length))
  where
    go : (b : Bool) → ltb j r.length ≡ b → (j - r.length < row_cells rs → At rs (j - r.length)) → At (r ∷ rs) j
    go true e _ = record { holds = rw e (record { from = omega arith; below = omega (arith, ltb-true) }); place = rw e (omega arith) }
    go false e further =
        let l = ltb-false j r.length e in
        let a = further (omega arith) in
        record { holds = rw e a.holds; place = rw e (omega (arith, a.place)) }

-- A place has one cell.
pub row_place_injective : (rs : List Row) (u w : List ℕ) → RowCell rs u → RowCell rs w → row_place rs u ≡ row_place rs w → u ≡ w
unfolding row_place
row_place_injective rs [] w h g e = absurd h
row_place_injective rs (i ∷ []) w h g e = absurd h
row_place_injective rs (i ∷ c ∷ d ∷ u) w h g e = absurd h
row_place_injective rs (i ∷ c ∷ []) [] h g e = absurd g
row_place_injective rs (i ∷ c ∷ []) (j ∷ []) h g e = absurd g
row_place_injective rs (i ∷ c ∷ []) (j ∷ b ∷ d ∷ w) h g e = absurd g
row_place_injective rs (i ∷ c ∷ []) (j ∷ b ∷ []) h g e = ap₂ (λ (i c : ℕ). i ∷ c ∷ []) same_row (columns same_row)
  where
    same_row : i ≡ j
    same_row = go (ℕ_discrete i j) (dec_lt i j)
      where
        go : Dec (i ≡ j) → Dec (i < j) → i ≡ j
        go (yes f) d = f
        go (no f) (yes d) = absurd (omega (arith, above_later rs i j d))
        go (no f) (no d) = absurd (omega (arith, above_later rs j i (omega arith)))

    columns : i ≡ j → c ≡ b
    columns f = let above = ap (cells_above rs) f in let start = ap (λ (i : ℕ). (row rs i).start) f in omega (arith, h.from, g.from)
