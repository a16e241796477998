-- Reuse distances on rows: the largest over the first iterations of the rows that have any.
use Prim.Native.Nat.{ℕ, ◌+◌, ◌-◌, ◌<◌, max}
use mathlib.Core.Bool.{Bool, true, false, cond}
use mathlib.Core.List.{List, [], ◌∷◌, map}
use mathlib.Core.Path.{◌≡◌, refl, sym, ◌∙◌, ap, ap₂}
use native.Mathlib.Omega.{arith}
use lib.Dec.{eqb}
use lib.ListN.{length, replicate}
use borrow.Author.Tests.{eq-eqb, ne_eqb}
use Rattle.model.specs.Lists.{tabulate, greatest}
use Rattle.model.specs.Grounds.{Row, row, cells_above}
use Rattle.model.specs.Iterations.{firsts_from}
use Rattle.grid_laws.proofs.ListLaws.{tabulate_same}
use Rattle.geometry.specs.Parts.{number_at, Filled}
use Rattle.geometry.proofs.FillLaws.{filled_none}
use Rattle.rows.specs.Courses.{looked, row_length}
use Rattle.rows.specs.declared.RowCourse.{RowCourse}
use Rattle.row_courses.specs.CourseTables.{read_at, distance_at}

-- A list that is filled with the same entries, and one of zeros.
module _ (size : ℕ) (f g : ℕ → ℕ) where
  pub filled_same : (n m : ℕ) (xs : List ℕ) → n ≡ m → ((i : ℕ) → i < n → f i ≡ g i) → Filled size 0 f n xs → Filled size 0 g m xs
  filled_same n m xs e d r = record {
    long = r.long;
    done = λ i h. r.done i (omega arith) ∙ d i (omega arith);
    left = λ i h. r.left i (omega arith);
  }

pub filled_zeros : (size : ℕ) (f : ℕ → ℕ) (n : ℕ) → ((i : ℕ) → f i ≡ 0) → Filled size 0 f n (replicate size 0)
filled_zeros size f n e =
    let r = filled_none size 0 f in
    record { long = r.long; done = λ i h. r.left i (omega arith) ∙ sym (e i); left = λ i h. r.left i (omega arith) }

-- The distance in one row.
module _ (rs : List Row) (above : List ℕ) (c : RowCourse) (v : ℕ) where
  pub distance_none : (k : ℕ) → row_length rs c v ≡ 0 → distance_at rs above c k v ≡ 0
  unfolding distance_at
  distance_none k e = rw (eq-eqb (row_length rs c v) 0 e)

  pub distance_some : (k : ℕ) → (row_length rs c v ≡ 0 → ⊥) → distance_at rs above c k v ≡ read_at rs above c v k - read_at rs above c v (k + 1)
  unfolding distance_at
  distance_some k e = rw (ne_eqb (row_length rs c v) 0 e)

  module _ (r : List ℕ) where
    pub widen_none : (m : ℕ) → row_length rs c v ≡ 0 → Filled 31 0 (number_at r) m r → Filled 31 0 (λ k. max (distance_at rs above c k v) (number_at r k)) m r
    widen_none m e f = filled_same 31 (number_at r) (λ k. max (distance_at rs above c k v) (number_at r k)) m m r refl (λ k h. omega (arith, distance_none k e)) f

    module _ (at : List ℕ) (a : Filled 32 0 (read_at rs above c v) (looked c) at) (n : ℕ) (e : n ≡ looked c) where
      pub widen_some : (xs : List ℕ) → (row_length rs c v ≡ 0 → ⊥) → Filled 31 0 (λ k. max (number_at at k - number_at at (k + 1)) (number_at r k)) (n - 1) xs
          → Filled 31 0 (λ k. max (distance_at rs above c k v) (number_at r k)) (looked c - 1) xs
      widen_some xs some f =
          filled_same 31 (λ k. max (number_at at k - number_at at (k + 1)) (number_at r k)) (λ k. max (distance_at rs above c k v) (number_at r k)) (n - 1) (looked c - 1) xs (omega arith)
          (λ k h. ap (λ (x : ℕ). max x (number_at r k)) (ap₂ ◌-◌ (a.done k (omega arith)) (a.done (k + 1) (omega arith)) ∙ sym (distance_some k some))) f

-- The greatest at the firsts, row by row.
pub firsts_greatest : (d : ℕ → ℕ) (from : ℕ) (ss : List Row)
    → greatest (map d (firsts_from from ss)) ≡ greatest (tabulate (length ss) (λ v. cond (eqb (row ss v).length 0) 0 (d (from + cells_above ss v))))
unfolding firsts_from greatest tabulate cells_above
firsts_greatest d from [] = refl
firsts_greatest d from (r ∷ ss) = go (eqb r.length 0) (firsts_greatest d (from + r.length) ss)
  where
    rest : ℕ → ℕ
    rest v = cond (eqb (row ss v).length 0) 0 (d (from + r.length + cells_above ss v))

    behind : tabulate (length ss) rest ≡ tabulate (length ss) (λ v. cond (eqb (row ss v).length 0) 0 (d (from + (r.length + cells_above ss v))))
    behind = tabulate_same (length ss) rest _ (λ v h. ap (λ (n : ℕ). cond (eqb (row ss v).length 0) 0 (d n)) (omega arith))

    go : (t : Bool) → greatest (map d (firsts_from (from + r.length) ss)) ≡ greatest (tabulate (length ss) rest)
        → greatest (map d (cond t (firsts_from (from + r.length) ss) (from ∷ firsts_from (from + r.length) ss)))
        ≡ max (cond t 0 (d (from + 0))) (greatest (tabulate (length ss) (λ v. cond (eqb (row ss v).length 0) 0 (d (from + (r.length + cells_above ss v))))))
    go true e = omega (arith, e, ap greatest behind)
    go false e = ap₂ max (ap d (omega arith)) (e ∙ ap greatest behind)
