-- What the firings of a batch leave in the output.
use Prim.Native.Nat.{ℕ, suc, ◌+◌, ◌-◌, ◌*◌, ◌/◌, ◌<◌, ◌≤◌}
use mathlib.Core.Bool.{Bool, true, false, ◌&&◌}
use mathlib.Core.List.{List, ◌++◌}
use mathlib.Core.Path.{◌≡◌, refl, sym, ap, ◌∙◌}
use native.Mathlib.Nat.{suc-mul, le-div_iff_mul-le}
use native.Mathlib.Numerals.{add-one}
use native.Mathlib.Omega.{arith}
use lib.ListN.{length, take, drop}
use lib.Seq.{sets, drop-drop, length-sets}
use lib.Dec.{leb, ltb}
use borrow.Author.Tests.{ltb-true, leb-true, le-leb, lt-ltb}
use Rattle.model.specs.declared.Kernel.{Kernel}
use Rattle.model_run.specs.Kernels.{written, width}
use Rattle.model_run.specs.PairRuns.{by_rows}
use Rattle.run_laws.proofs.Between.{written_width}
use Rattle.pair_laws.proofs.RowsLaws.{sets_join}
use Rattle.kernel_rows.specs.Given.{fits, given_to, Room}

-- ---- room

module _ (n wide count words at places : ℕ) where
  pub fits_there : 0 < n → 0 < wide → count * n ≤ words → at + count * wide ≤ places → fits n wide count words at places ≡ true
  unfolding fits
  fits_there hn hw there space = rw (
    lt-ltb 0 n hn,
    lt-ltb 0 wide hw,
    le-leb count (words / n) ((le-div_iff_mul-le hn).1 there),
    le-leb at places (omega arith),
    le-leb count ((places - at) / wide) ((le-div_iff_mul-le hw).1 (omega arith)),
  )

both : (a b : Bool) → (a && b) ≡ true → (a ≡ true) × (b ≡ true)
both true b e = (refl, e)
both false b e = absurd (let z : ◌≡◌ {A = ℕ} 0 1 = cc in omega arith)

pub room_of_lem : {k : Kernel} {us : List ℕ} {n count wide words at places : ℕ} {b : Bool} → wide ≡ width k (length us) → b ≡ fits n wide count words at places → b ≡ true
    → Room k us n count wide words at places
unfolding fits
room_of_lem {n = n} {count} {wide} {words} {at} {places} w f e =
    let a = both (ltb 0 n) _ (sym f ∙ e) in
    let b = both (ltb 0 wide) _ a.1 in
    let c = both (leb count (words / n)) _ b.1 in
    let d = both (leb at places) _ c.1 in
    let rows = (le-div_iff_mul-le (ltb-true 0 n a.0)).0 (leb-true count (words / n) c.0) in
    let parts = (le-div_iff_mul-le (ltb-true 0 wide b.0)).0 (leb-true count ((places - at) / wide) d.1) in
    record { is_width = w; there = rows; space = omega (arith, leb-true at places d.0) }

-- ---- all firings

module _ (k : Kernel) (c : ℕ) (ts us : List ℕ) (n count : ℕ) (batch : List ℕ) (at : ℕ) (out : List ℕ) where
  module _ {wide : ℕ} {b : Bool} (w : wide ≡ width k (length us)) (f : b ≡ fits n wide count (length batch) at (length out)) where
    pub given_all : {out' : List ℕ} → b ≡ true → out' ≡ sets out at (by_rows n (written k c ts us) count batch) → out' ≡ given_to k c ts us n count batch at out
    unfolding given_to
    given_all e o = o ∙ rw (rw w at (sym f ∙ e))

    pub given_none : b ≡ false → out ≡ given_to k c ts us n count batch at out
    unfolding given_to
    given_none e = rw (rw w at (sym f ∙ e))

  -- Where there is room, the output has what the kernel writes of each row.
  pub given_fits : 0 < n → 0 < width k (length us) → count * n ≤ length batch → at + count * width k (length us) ≤ length out
      → given_to k c ts us n count batch at out ≡ sets out at (by_rows n (written k c ts us) count batch)
  given_fits hn hw there space =
      sym (given_all refl refl (fits_there n (width k (length us)) count (length batch) at (length out) hn hw there space) refl)

-- ---- one row more

-- What the loop keeps before row i: the rows that are left give what all give.
pub record Going (k : Kernel) (c : ℕ) (ts us : List ℕ) (n count wide : ℕ) (batch : List ℕ) (at : ℕ) (out₀ : List ℕ) (i : ℕ) (out : List ℕ) : Type 0 where
  pub same : length out ≡ length out₀
  pub gives : sets out (at + i * wide) (by_rows n (written k c ts us) (count - i) (drop (i * n) batch)) ≡ sets out₀ at (by_rows n (written k c ts us) count batch)

module _ (k : Kernel) (c : ℕ) (ts us : List ℕ) (n : ℕ) (batch : List ℕ) where
  -- The row at `from`, and then m more.
  row_more : {wide : ℕ} (from to m : ℕ) (out out' : List ℕ) → wide ≡ width k (length us) → out' ≡ sets out to (written k c ts us (take n (drop from batch)))
      → sets out' (to + wide) (by_rows n (written k c ts us) m (drop (from + n) batch)) ≡ sets out to (by_rows n (written k c ts us) (suc m) (drop from batch))
  unfolding by_rows
  row_more {wide} from to m out out' width_is e =
      let w = written k c ts us in
      let row = w (take n (drop from batch)) in
      let rest = by_rows n w m (drop (from + n) batch) in
      let wide_is : wide ≡ length row = width_is ∙ sym (written_width k c ts us (take n (drop from batch))) in
      ap (λ (o : List ℕ). sets o (to + wide) rest) e
      ∙ ap (λ (j : ℕ). sets (sets out to row) (to + j) rest) wide_is
      ∙ sets_join row rest out to
      ∙ ap (λ (l : List ℕ). sets out to (row ++ by_rows n w m l)) (sym (drop-drop n from batch))

module _ {k : Kernel} {c : ℕ} {ts us : List ℕ} {n count wide : ℕ} {batch : List ℕ} {at : ℕ} {out₀ : List ℕ} where
  pub going_next : {i : ℕ} {out out' : List ℕ} → wide ≡ width k (length us) → i < count → Going k c ts us n count wide batch at out₀ i out
      → out' ≡ sets out (at + i * wide) (written k c ts us (take ((i + 1) * n - i * n) (drop (i * n) batch))) → Going k c ts us n count wide batch at out₀ (i + 1) out'
  going_next {i} {out} {out'} r h g e = record {
    same = ap length e ∙ length-sets out (at + i * wide) (written k c ts us (take ((i + 1) * n - i * n) (drop (i * n) batch))) ∙ g.same;
    gives =
        let to : at + (i + 1) * wide ≡ at + i * wide + wide = omega (arith, suc-mul i wide, ap (λ (j : ℕ). j * wide) (add-one i)) in
        let from : (i + 1) * n ≡ i * n + n = omega (arith, suc-mul i n, ap (λ (j : ℕ). j * n) (add-one i)) in
        let one : (i + 1) * n - i * n ≡ n = omega arith in
        let left : count - i ≡ suc (count - (i + 1)) = omega arith in
        rw (to, from) (row_more k c ts us n batch (i * n) (at + i * wide) (count - (i + 1)) out out' r (rw one at e) ∙ rw left at g.gives);
  }

  pub going_end : {i : ℕ} {out : List ℕ} → count ≤ i → Going k c ts us n count wide batch at out₀ i out → out ≡ sets out₀ at (by_rows n (written k c ts us) count batch)
  unfolding by_rows
  going_end {i} h g = let z : count - i ≡ 0 = omega arith in rw z at g.gives
