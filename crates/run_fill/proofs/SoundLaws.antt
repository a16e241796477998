-- Tables that pass the test are those of some layout, and those of every layout pass it.
use Prim.Native.Nat.{ℕ, zero, suc, ◌+◌, ◌-◌, ◌*◌, ◌^◌, ◌≤◌, ◌<◌}
use mathlib.Core.List.{List, [], ◌∷◌}
use mathlib.Core.Path.{◌≡◌, refl, sym, ◌∙◌}
use native.Mathlib.Nat.{zero-add}
use native.Mathlib.Numerals.{add-one}
use native.Mathlib.Omega.{arith}
use native.Mathlib.Decide.{ℕ_discrete, dec_lt}
use lib.ListN.{length, get_or, take, drop_of_length-le}
use lib.Seq.{slice, slice-cons, get_or-take, length-take-le}
use Rattle.model.specs.Lists.{sum, tabulate}
use Rattle.model_run.specs.Clock.{Layout}
use Rattle.model_run.specs.Store.{first_place}
use Rattle.flow.specs.Machine.{Holds, Fits}
use Rattle.run_laws.proofs.Held.{first_place_suc}
use Rattle.loop_laws.specs.Passes.{of, FullFifos}
use Rattle.loop_laws.specs.Sweeps.{source, Ringed}
use Rattle.loop_laws.specs.LoopTables.{Fills}
use Rattle.loop_laws.proofs.StoredLaws.{holds_below, holds_apart}
use Rattle.run_fill.specs.Fills.{Placing, GoodCounter, GoodRing, Sound, Handed, wants_once, once}

-- ---- one more entry

pub counters_more : (size w : ℕ) (at wants ps : List ℕ) (k s : ℕ) → s ≡ source size ps k
    → ((j : ℕ) → j < k → GoodCounter (source size ps j) size w (get_or at j 0) (get_or wants j 0) (get_or ps j 0))
    → GoodCounter s size w (get_or at k 0) (get_or wants k 0) (get_or ps k 0)
    → (j : ℕ) → j < k + 1 → GoodCounter (source size ps j) size w (get_or at j 0) (get_or wants j 0) (get_or ps j 0)
counters_more size w at wants ps k s e f g j h = go (ℕ_discrete j k)
  where
    go : Dec (j ≡ k) → GoodCounter (source size ps j) size w (get_or at j 0) (get_or wants j 0) (get_or ps j 0)
    go (yes d) = rw (d, ← e) g
    go (no d) = f j (omega arith)

pub source_next : (size : ℕ) (ps : List ℕ) (k : ℕ) → get_or ps k 0 ≡ source size ps (k + 1)
unfolding source
source_next size ps k = rw add-one refl

pub source_start : (size : ℕ) (ps : List ℕ) → size ≡ source size ps 0
unfolding source
source_start size ps = refl

pub housed_more : (room : ℕ) (caps bases tops ps : List ℕ) (k from : ℕ) → from ≡ first_place (of caps) k
    → ((j : ℕ) → j < k → GoodRing (first_place (of caps) j) room (get_or caps j 0) (get_or bases j 0) (get_or tops j 0) (get_or ps j 0) (get_or ps (j + 1) 0))
    → GoodRing from room (get_or caps k 0) (get_or bases k 0) (get_or tops k 0) (get_or ps k 0) (get_or ps (k + 1) 0)
    → (j : ℕ) → j < k + 1 → GoodRing (first_place (of caps) j) room (get_or caps j 0) (get_or bases j 0) (get_or tops j 0) (get_or ps j 0) (get_or ps (j + 1) 0)
housed_more room caps bases tops ps k from e f g j h = go (ℕ_discrete j k)
  where
    go : Dec (j ≡ k) → GoodRing (first_place (of caps) j) room (get_or caps j 0) (get_or bases j 0) (get_or tops j 0) (get_or ps j 0) (get_or ps (j + 1) 0)
    go (yes d) = rw (d, ← e) g
    go (no d) = f j (omega arith)

pub from_next : (room : ℕ) (caps bases tops ps : List ℕ) (k from p q : ℕ) → from ≡ first_place (of caps) k → GoodRing from room (get_or caps k 0) (get_or bases k 0) (get_or tops k 0) p q
    → get_or tops k 0 ≡ first_place (of caps) (k + 1)
from_next room caps bases tops ps k from p q e g = rw add-one (omega (arith, g.1, g.2, e, first_place_suc (of caps) k))

pub from_start : (capacity : ℕ → ℕ) → 0 ≡ first_place capacity 0
unfolding first_place sum tabulate
from_start capacity = refl

-- A FIFO that is not full.
pub not_full : (n k : ℕ) (caps passed : List ℕ) → k + 1 < n → (get_or passed k 0 ≡ get_or passed (k + 1) 0 + get_or caps k 0 → ⊥) → FullFifos n caps passed → ⊥
not_full n k caps passed h differs f = differs (rw add-one (f k (rw (← add-one k) h)))

-- ---- a layout of one iteration, whose tables they are

module _ (n size : ℕ) (at wants caps bases tops passed store : List ℕ) (S : Sound n size (length store) at wants caps bases tops passed) (there : length passed ≡ 32) where
  behind : (k : ℕ) → k < n → Dec (suc k < n) → Fits (once n size wants caps) k (get_or passed k 0) (slice (suc k) n passed)
  behind k h (yes g) = rw (slice-cons (suc k) n passed 0 g (omega (arith, there, S.counted.few))) (let x = (S.housed k (rw add-one g)).4 in rw add-one at x)
  behind k h (no g) =
      let e : slice (suc k) n passed ≡ [] = drop_of_length-le (take n passed) {i = suc k} (omega (arith, length-take-le n passed (omega (arith, there, S.counted.few)))) in
      rw e tt

  holds_from : (m k : ℕ) → k + m ≡ n → Holds (once n size wants caps) 0 k (source size passed k) (slice k n passed)
  unfolding source wants_once
  holds_from zero k e =
      let d : slice k n passed ≡ [] = drop_of_length-le (take n passed) {i = k} (omega (arith, length-take-le n passed (omega (arith, there, S.counted.few)))) in
      rw d (let z : k ≡ n = omega arith in z)
  holds_from (suc m) k e =
      let h : k < n = omega arith in
      let g = S.counted.each k h in
      rw (slice-cons k n passed 0 h (omega (arith, there, S.counted.few)))
      (record { filter = h; fired = omega arith; wanted = g.2; sourced = g.3; fits = behind k h (dec_lt (suc k) n) }, holds_from m (suc k) (omega arith))

  pub handed : Handed (once n size wants caps) (λ _. get_or wants 0 0 - get_or at 0 0) n size 1 0 at wants caps bases tops passed store
  unfolding wants_once source
  handed = record {
    tables = record {
      filters_are = refl;
      cells_are = refl;
      iterations_are = refl;
      some = S.counted.some;
      few = S.counted.few;
      most = S.counted.most;
      lawful = record { some = S.counted.some; rises = rises; within = within };
      reads = reads;
      small = λ k h. (S.housed k (rw add-one h)).0;
      places = record { bases_are = λ k h. (S.housed k (rw add-one h)).1; caps_are = λ k h. refl };
    };
    stands = record {
      there = there;
      within = λ k h. let g = S.housed k (rw add-one h) in omega (arith, g.2, g.3);
      holds = record { most = omega arith; all = holds_from n 0 (omega arith) };
    };
    more = omega arith;
    wants_are = λ k h. refl;
    tops_are = λ k h. (S.housed k (rw add-one h)).2;
  }
    where
      rises : (j k : ℕ) → j < 1 → k < n → wants_once wants size j k < wants_once wants size (suc j) k
      rises zero k h g = (S.counted.each k g).0
      rises (suc j) k h g = absurd (omega arith)

      within : (j k : ℕ) → j ≤ 1 → k < n → wants_once wants size j k ≤ size
      within zero k h g = omega (arith, (S.counted.each k g).0)
      within (suc j) k h g = omega arith

      reads : (f k : ℕ) → f < 1 → k < n → wants_once wants size f k ≡ get_or at k 0 + (get_or wants 0 0 - get_or at 0 0)
      reads zero k h g = (S.counted.each k g).1
      reads (suc f) k h g = absurd (omega arith)

  pub may_place : length store * 4 < 2 ^ 63 → (us gs : List ℕ) → length us ≡ 32 → length gs ≡ 32 → Placing n bases tops caps passed us gs
  unfolding source
  may_place l us gs lu lg = record {
    few = S.counted.few;
    puts_there = lu;
    gets_there = lg;
    fits = λ k h. ((S.counted.each (suc k) h).3, let x = (S.housed k (rw add-one h)).4 in rw add-one at x);
    tops_are = λ k h. (S.housed k (rw add-one h)).2;
    small = λ k h. let g = S.housed k (rw add-one h) in omega (arith, g.0, g.3);
  }

-- ---- every layout's tables pass

same_places : (f g : ℕ → ℕ) (k : ℕ) → ((i : ℕ) → i < k → f i ≡ g i) → first_place f k ≡ first_place g k
same_places f g zero h = omega (arith, from_start f, from_start g)
same_places f g (suc k) h = omega (arith, first_place_suc f k, first_place_suc g k, h k (omega arith), same_places f g k (λ i l. h i (omega arith)))

-- No filter is past its wanted cell.
holds_wanted : (L : Layout) (f k source i : ℕ) (ps : List ℕ) → i < length ps → Holds L f k source ps → get_or ps i 0 ≤ L.wants f (k + i)
holds_wanted L f k source i [] l h = absurd (omega arith)
holds_wanted L f k source zero (p ∷ ps) l h = let z : k + 0 ≡ k = omega arith in rw z h.0.wanted
holds_wanted L f k source (suc i) (p ∷ ps) l h = let z : k + suc i ≡ suc k + i = omega arith in rw z (holds_wanted L f (suc k) p i ps (omega arith) h.1)

module _ (L : Layout) (walk : ℕ → ℕ) (n size iterations fired : ℕ) (at wants caps bases tops passed store : List ℕ)
    (H : Handed L walk n size iterations fired at wants caps bases tops passed store) where
  long : length (take n passed) ≡ n
  long = length-take-le n passed (omega (arith, H.stands.there, H.tables.few))

  sourced : (k : ℕ) → k < n → get_or passed k 0 ≤ source size passed k
  unfolding source
  sourced zero h = omega (arith, get_or-take n passed 0 0 h, holds_below L fired 0 L.cells 0 (take n passed) H.stands.holds.all, H.tables.cells_are)
  sourced (suc k) h =
      omega (arith, get_or-take n passed (suc k) 0 h, get_or-take n passed k 0 (omega arith), (holds_apart L fired 0 L.cells k (take n passed) (omega (arith, long)) H.stands.holds.all).0)

  counter : (k : ℕ) → k < n → GoodCounter (source size passed k) size (get_or wants 0 0 - get_or at 0 0) (get_or at k 0) (get_or wants k 0) (get_or passed k 0)
  counter k h =
      let f : k < L.filters = omega (arith, H.tables.filters_are) in
      let m : fired < L.iterations = omega (arith, H.tables.iterations_are, H.more) in
      let x = H.wants_are k h in
      let r = H.tables.reads fired k H.more h in
      let x₀ = H.wants_are 0 H.tables.some in
      let r₀ = H.tables.reads fired 0 H.more H.tables.some in
      let p = rw zero-add at (holds_wanted L fired 0 L.cells k (take n passed) (omega (arith, long)) H.stands.holds.all) in
      let up = H.tables.lawful.rises fired k m f in
      let top = H.tables.lawful.within (suc fired) k (omega arith) f in
      let c = H.tables.cells_are in
      let g = get_or-take n passed k 0 h in
      (omega arith, omega arith, omega arith, sourced k h)

  ring : (k : ℕ) → k + 1 < n → GoodRing (first_place (of caps) k) (length store) (get_or caps k 0) (get_or bases k 0) (get_or tops k 0) (get_or passed k 0) (get_or passed (k + 1) 0)
  ring k l =
      let h : suc k < n = rw (← add-one k) l in
      let a = holds_apart L fired 0 L.cells k (take n passed) (omega (arith, long)) H.stands.holds.all in
      let b = rw (zero-add, get_or-take n passed k 0 (omega arith), get_or-take n passed (suc k) 0 h) at a in
      let t = H.tops_are k h in (
        H.tables.small k h,
        H.tables.places.bases_are k h ∙ same_places L.capacity (of caps) k (λ i g. sym (H.tables.places.caps_are i (omega arith))),
        t,
        omega (arith, H.stands.within k h),
        rw add-one (omega (arith, b.1, H.tables.places.caps_are k h)),
      )

  pub sound : Sound n size (length store) at wants caps bases tops passed
  sound = record { counted = record { some = H.tables.some; few = H.tables.few; most = H.tables.most; each = counter }; housed = ring }

-- What the clocks are handed, once the ring places are found.
pub fills : (L : Layout) (walk : ℕ → ℕ) (n size iterations fired : ℕ) (at wants caps bases tops passed store : List ℕ)
    → Handed L walk n size iterations fired at wants caps bases tops passed store → (us gs : List ℕ) → length us ≡ 32 → length gs ≡ 32 → Ringed n bases caps passed us gs
    → Fills L walk n size iterations fired at wants caps bases tops passed us gs store
fills L walk n size iterations fired at wants caps bases tops passed store H us gs lu lg r = record {
  tables = H.tables;
  stands = H.stands;
  more = H.more;
  wants_are = H.wants_are;
  tops_are = H.tops_are;
  puts_there = lu;
  gets_there = lg;
  rings = r;
}
