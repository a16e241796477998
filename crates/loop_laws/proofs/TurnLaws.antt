-- The splitters' turns of a clock without firing: counters, ring places and words, from the last filter to the first.
use Prim.Native.Nat.{ℕ, zero, suc, ◌+◌, ◌-◌, ◌%◌, ◌≤◌, ◌<◌}
use mathlib.Core.Bool.{Bool, true, false, false≢true}
use mathlib.Core.List.{List, [], ◌∷◌}
use mathlib.Core.Path.{◌≡◌, refl, sym, ◌∙◌, ap}
use native.Mathlib.Nat.{mod-lt}
use native.Mathlib.Numerals.{add-one}
use native.Mathlib.Decide.{ℕ_discrete}
use native.Mathlib.Omega.{arith}
use lib.Dec.{ltb}
use lib.ListN.{length, get_or, take, set, length-set}
use lib.Seq.{slice, get_or-set_same, get_or-set_other, take-set-lt, drop-set-lt, set-get_or, length-take-le, get_or-take}
use borrow.Author.Tests.{lt-ltb, le-ltb}
use Rattle.model.specs.Lists.{sum}
use Rattle.model_run.specs.Clock.{turn, limit}
use Rattle.model_run.specs.Store.{first_place, place_in, stored}
use Rattle.run_laws.proofs.Held.{first_place_suc, place_before, stored_before}
use Rattle.loop_laws.specs.Passes.{of, step}
use Rattle.loop_laws.specs.Sweeps.{source, Ringed, word_at, gets_on, PutOn, Turns, Turned}
use Rattle.loop_laws.proofs.FlowLaws.{step_is, place_is}
use Rattle.loop_laws.proofs.SweepLaws.{turn_went, limit_inner, Sweeping, sweeping_start, sweeping_step, sweeping_end}
use Rattle.loop_laws.proofs.StoredLaws.{stored_past, stored_at, stored_last}

-- ---- the word of a filter

pub word_first : (k word : ℕ) (gets store : List ℕ) → k ≡ 0 → word ≡ word_at k word gets store
unfolding word_at
word_first k word gets store e = rw e

pub word_later : (k word : ℕ) (gets store : List ℕ) → (k ≡ 0 → ⊥) → get_or store (get_or gets (k - 1) 0) 0 ≡ word_at k word gets store
unfolding word_at
word_later zero word gets store n = absurd (n refl)
word_later (suc k) word gets store n = rw (let e : suc k - 1 ≡ k = omega arith in e)

pub gets_first : (k : ℕ) (bases tops gets : List ℕ) → k ≡ 0 → gets ≡ gets_on k bases tops gets
unfolding gets_on
gets_first k bases tops gets e = rw e

pub gets_later : (k g : ℕ) (bases tops gets : List ℕ) → (k ≡ 0 → ⊥) → g ≡ step (get_or bases (k - 1) 0) (get_or tops (k - 1) 0) (get_or gets (k - 1) 0)
    → set gets (k - 1) g ≡ gets_on k bases tops gets
unfolding gets_on
gets_later zero g bases tops gets n e = absurd (n refl)
gets_later (suc k) g bases tops gets n e = let o : suc k - 1 ≡ k = omega arith in let d = rw o at e in rw (o, d)

length_gets : (k : ℕ) (bases tops gets : List ℕ) → length (gets_on k bases tops gets) ≡ length gets
unfolding gets_on
length_gets zero bases tops gets = refl
length_gets (suc k) bases tops gets = length-set gets k (step (get_or bases k 0) (get_or tops k 0) (get_or gets k 0))

gets_other : (k i : ℕ) (bases tops gets : List ℕ) → (suc i ≡ k → ⊥) → get_or (gets_on k bases tops gets) i 0 ≡ get_or gets i 0
unfolding gets_on
gets_other zero i bases tops gets n = refl
gets_other (suc k) i bases tops gets n = get_or-set_other gets k i (step (get_or bases k 0) (get_or tops k 0) (get_or gets k 0)) 0 (λ e. n (ap suc e))

gets_own : (i : ℕ) (bases tops gets : List ℕ) → i < length gets → get_or (gets_on (suc i) bases tops gets) i 0 ≡ step (get_or bases i 0) (get_or tops i 0) (get_or gets i 0)
unfolding gets_on
gets_own i bases tops gets h = get_or-set_same gets i (step (get_or bases i 0) (get_or tops i 0) (get_or gets i 0)) 0 h

-- ---- sums and slices

sum_set : (l : List ℕ) (j v : ℕ) → j < length l → sum (set l j v) + get_or l j 0 ≡ sum l + v
unfolding sum
sum_set [] j v h = absurd (omega arith)
sum_set (x ∷ l) zero v h = omega arith
sum_set (x ∷ l) (suc j) v h = omega (arith, sum_set l j v (omega arith))

sum_up : (ps : List ℕ) (n j : ℕ) → j < n → n ≤ length ps → sum (take n (set ps j (suc (get_or ps j 0)))) ≡ suc (sum (take n ps))
sum_up ps n j h l =
    ap sum (take-set-lt n ps j (suc (get_or ps j 0)) h)
    ∙ omega (arith, sum_set (take n ps) j (suc (get_or ps j 0)) (omega (arith, length-take-le n ps l)), get_or-take n ps j 0 h)

slice_behind : (ps : List ℕ) (n j v : ℕ) → j < n → slice (suc j) n (set ps j v) ≡ slice (suc j) n ps
slice_behind ps n j v h = rw (take-set-lt n ps j v h, drop-set-lt (suc j) (take n ps) j v (omega arith))

source_suc : (cells : ℕ) (ps : List ℕ) (i k : ℕ) → suc i ≡ k → source cells ps k ≡ get_or ps i 0
unfolding source
source_suc cells ps i k e = rw (← e)

no_fewer : {A : Type 0} → true ≡ false → A
no_fewer e = absurd (false≢true (sym e))

-- ---- the loop

module _ (c : ℕ → ℕ) (n cells word : ℕ) (wants bases tops caps ps₀ puts₀ gets₀ store₀ : List ℕ) where
  -- The word that filter k is presented at the clock's start.
  abbrev given : ℕ → ℕ
  given zero = word
  given (suc i) = get_or store₀ (place_in c i (get_or ps₀ (suc i) 0)) 0

  -- The turns of the filters from k on are made.
  pub record Turning (ps puts gets store : List ℕ) (moved : Bool) (k : ℕ) : Type 0 where
    pub sweeping : Sweeping wants caps ps₀ ps n cells k
    pub puts_there : length puts ≡ 32
    pub gets_there : length gets ≡ 32
    pub store_length : length store ≡ length store₀
    pub fits : (i : ℕ) → suc i < n → (get_or ps (suc i) 0 ≤ get_or ps i 0) × (get_or ps i 0 ≤ get_or ps (suc i) 0 + get_or caps i 0)
    pub rings : Ringed n bases caps ps puts gets
    pub words : store ≡ stored c k (given k) store₀ (slice k n ps₀) (slice k n ps) store₀
    pub still : moved ≡ false → (ps ≡ ps₀) × (store ≡ store₀)
    pub up : moved ≡ true → sum (slice 0 n ps₀) < sum (slice 0 n ps)

  module _ (T : Turns c n bases tops caps ps₀ puts₀ gets₀ store₀) where
    here : n ≤ length ps₀
    here = omega (arith, T.few, T.ps_there)

    pub turning_start : Turning ps₀ puts₀ gets₀ store₀ false n
    turning_start = record {
      sweeping = sweeping_start wants caps ps₀ n cells here;
      puts_there = T.puts_there;
      gets_there = T.gets_there;
      store_length = refl;
      fits = T.fits;
      rings = T.rings;
      words = sym (stored_last c n n (given n) store₀ ps₀ (slice n n ps₀) store₀ (omega arith) (omega arith) here);
      still = λ _. (refl, refl);
      up = λ e. absurd (false≢true e);
    }

    module _ (ps puts gets store : List ℕ) (moved : Bool) (j : ℕ) (s : Turning ps puts gets store moved (suc j)) where
      abbrev p : ℕ
      p = get_or ps j 0

      inside : j < n
      inside = s.sweeping.range

      there : n ≤ length ps
      there = omega (arith, s.sweeping.size, here)

      as_before : p ≡ get_or ps₀ j 0
      as_before = s.sweeping.front j (omega arith)

      abbrev src : ℕ
      src = source cells ps j

      abbrev b : ℕ
      b = limit (of caps) j p (slice (suc j) n ps)

      inner_limit : suc j < n → b ≡ get_or ps (suc j) 0 + get_or caps j 0
      inner_limit h = sym (rw add-one at (limit_inner (of caps) j p n ps (omega arith) there))

      -- ---- the filter stays

      module _ (st : turn src (get_or wants j 0) b p ≡ p) where
        sweeps_still : Sweeping wants caps ps₀ ps n cells j
        sweeps_still = rw (st, set-get_or ps j 0) at (sweeping_step wants caps ps₀ ps n cells j s.sweeping)

        words_still : store ≡ stored c j (given j) store₀ (slice j n ps₀) (slice j n ps) store₀
        words_still = go (ℕ_discrete (suc j) n)
          where
            go : Dec (suc j ≡ n) → store ≡ stored c j (given j) store₀ (slice j n ps₀) (slice j n ps) store₀
            go (yes e) =
                s.words
                ∙ stored_last c (suc j) n (given (suc j)) store₀ ps₀ (slice (suc j) n ps) store₀ (omega arith) (omega arith) here
                ∙ sym (stored_last c j n (given j) store₀ ps₀ (slice j n ps) store₀ (omega arith) (omega arith) here)
            go (no e) =
                let l : ltb (get_or ps₀ j 0) (get_or ps j 0) ≡ false = le-ltb (get_or ps₀ j 0) (get_or ps j 0) (omega (arith, as_before)) in
                s.words ∙ sym (rw l at (stored_at c j n (given j) store₀ ps₀ ps store₀ (omega arith) here there))

        pub turning_stays : Turning ps puts gets store moved j
        turning_stays = record {
          sweeping = sweeps_still;
          puts_there = s.puts_there;
          gets_there = s.gets_there;
          store_length = s.store_length;
          fits = s.fits;
          rings = s.rings;
          words = words_still;
          still = s.still;
          up = s.up;
        }

      -- ---- the filter goes on

      module _ (puts' gets' store' : List ℕ) (x : ℕ) (mv : turn src (get_or wants j 0) b p ≡ suc p) (pl : p < src) (pb : p < b) (ex : x ≡ word_at j word gets store)
          (eg : gets' ≡ gets_on j bases tops gets) (po : PutOn n j x bases tops puts puts' store store') where
        abbrev ps' : List ℕ
        ps' = set ps j (suc p)

        own : get_or ps' j 0 ≡ suc p
        own = get_or-set_same ps j (suc p) 0 (omega (arith, there, inside))

        other : (i : ℕ) → (i ≡ j → ⊥) → get_or ps' i 0 ≡ get_or ps i 0
        other i ne = get_or-set_other ps j i (suc p) 0 ne

        -- The FIFO behind filter j has places, and so has the one before it.
        has_next : suc j < n → 0 < get_or caps j 0
        has_next h = omega (arith, inner_limit h, pb, (s.fits j h).0)

        has_source : (i : ℕ) → suc i ≡ j → (p < get_or ps i 0) × (0 < get_or caps i 0)
        has_source i e =
            let y = source_suc cells ps i j e in
            let z : get_or ps (suc i) 0 ≡ p = ap (λ (k : ℕ). get_or ps k 0) e in
            (omega arith, omega (arith, (s.fits i (omega (arith, inside))).1))

        sweeps_on : Sweeping wants caps ps₀ ps' n cells j
        sweeps_on = rw mv at (sweeping_step wants caps ps₀ ps n cells j s.sweeping)

        fits_on : (i : ℕ) → suc i < n → (get_or ps' (suc i) 0 ≤ get_or ps' i 0) × (get_or ps' i 0 ≤ get_or ps' (suc i) 0 + get_or caps i 0)
        fits_on i h = go (ℕ_discrete i j) (ℕ_discrete (suc i) j)
          where
            go : Dec (i ≡ j) → Dec (suc i ≡ j) → (get_or ps' (suc i) 0 ≤ get_or ps' i 0) × (get_or ps' i 0 ≤ get_or ps' (suc i) 0 + get_or caps i 0)
            go (yes e) _ =
                let f = rw e at (s.fits i h) in
                let l = inner_limit (rw e at h) in
                rw (e, own, other (suc j) (λ d. omega arith)) (omega (arith, f.0), omega (arith, pb))
            go (no e) (yes d) =
                let f = rw d at (s.fits i h) in
                let q = has_source i d in
                rw (d, own, other i e) (omega (arith, q.0), omega (arith, f.1))
            go (no e) (no d) = rw (other i e, other (suc i) d) (s.fits i h)

        puts_on : (i : ℕ) → suc i < n → 0 < get_or caps i 0 → get_or puts' i 0 ≡ get_or bases i 0 + get_or ps' i 0 % get_or caps i 0
        puts_on i h cp = go (ℕ_discrete i j)
          where
            same_elsewhere : (i ≡ j → ⊥) → get_or puts' i 0 ≡ get_or puts i 0
            same_elsewhere e = pick (ℕ_discrete (suc j) n)
              where
                pick : Dec (suc j ≡ n) → get_or puts' i 0 ≡ get_or puts i 0
                pick (yes d) = ap (λ (l : List ℕ). get_or l i 0) (po.last (omega arith)).0
                pick (no d) = ap (λ (l : List ℕ). get_or l i 0) (po.inner (omega (arith, inside))).0 ∙ get_or-set_other puts j i (step (get_or bases j 0) (get_or tops j 0) (get_or puts j 0)) 0 e

            go : Dec (i ≡ j) → get_or puts' i 0 ≡ get_or bases i 0 + get_or ps' i 0 % get_or caps i 0
            go (yes e) =
                let h2 = rw e at h in
                let c2 = rw e at cp in
                rw (e, own)
                (ap (λ (l : List ℕ). get_or l j 0) (po.inner (omega arith)).0
                ∙ get_or-set_same puts j (step (get_or bases j 0) (get_or tops j 0) (get_or puts j 0)) 0 (omega (arith, s.puts_there, T.few))
                ∙ rw (T.tops_are j h2, (s.rings j h2 c2).0) (step_is (get_or bases j 0) (get_or caps j 0) p c2))
            go (no e) = rw (other i e) (same_elsewhere e ∙ (s.rings i h cp).0)

        gets_on_lem : (i : ℕ) → suc i < n → 0 < get_or caps i 0 → get_or gets' i 0 ≡ get_or bases i 0 + get_or ps' (suc i) 0 % get_or caps i 0
        gets_on_lem i h cp = rw eg (go (ℕ_discrete (suc i) j))
          where
            go : Dec (suc i ≡ j) → get_or (gets_on j bases tops gets) i 0 ≡ get_or bases i 0 + get_or ps' (suc i) 0 % get_or caps i 0
            go (yes e) =
                let r : get_or gets i 0 ≡ get_or bases i 0 + p % get_or caps i 0 = rw e at (s.rings i h cp).1 in
                rw (e, own)
                (ap (λ (k : ℕ). get_or (gets_on k bases tops gets) i 0) (sym e)
                ∙ gets_own i bases tops gets (omega (arith, s.gets_there, T.few))
                ∙ rw (T.tops_are i h, r) (step_is (get_or bases i 0) (get_or caps i 0) p cp))
            go (no e) = rw (other (suc i) e) (gets_other j i bases tops gets e ∙ (s.rings i h cp).1)

        -- The word is the one presented at the clock's start.
        word_is : x ≡ given j
        word_is = ex ∙ go j refl
          where
            go : (k : ℕ) → k ≡ j → word_at j word gets store ≡ given j
            go zero e = sym (word_first j word gets store (sym e)) ∙ ap given e
            go (suc i) e =
                let q = has_source i e in
                let h : suc i < n = omega (arith, inside) in
                let cc : c i ≡ get_or caps i 0 = sym (T.places.caps_are i h) in
                let r : get_or gets i 0 ≡ place_in c i p = (rw e at (s.rings i h q.1).1) ∙ sym (place_is c n (of bases) (of caps) T.places i p h) in
                let before : place_in c i p < first_place c (suc j) = omega (arith, place_before c i p (omega (arith, q.1)), first_place_suc c (suc i), ap (λ (k : ℕ). first_place c (suc k)) e) in
                let w : word_at (suc i) word gets store ≡ get_or store (get_or gets i 0) 0 = unfold word_at in refl in
                ap (λ (k : ℕ). word_at k word gets store) (sym e)
                ∙ w
                ∙ ap (λ (u : ℕ). get_or store u 0) r
                ∙ ap (λ (l : List ℕ). get_or l (place_in c i p) 0) s.words
                ∙ stored_before c (suc j) (given (suc j)) store₀ (slice (suc j) n ps₀) (slice (suc j) n ps) store₀ (place_in c i p) before
                ∙ ap (λ (y : ℕ). get_or store₀ (place_in c i y) 0) (as_before ∙ ap (λ (k : ℕ). get_or ps₀ k 0) (sym e))
                ∙ ap given e

        words_on : store' ≡ stored c j (given j) store₀ (slice j n ps₀) (slice j n ps') store₀
        words_on = go (ℕ_discrete (suc j) n)
          where
            long : n ≤ length ps'
            long = omega (arith, length-set ps j (suc p), there)

            go : Dec (suc j ≡ n) → store' ≡ stored c j (given j) store₀ (slice j n ps₀) (slice j n ps') store₀
            go (yes e) =
                (po.last (omega arith)).1
                ∙ s.words
                ∙ stored_last c (suc j) n (given (suc j)) store₀ ps₀ (slice (suc j) n ps) store₀ (omega arith) (omega arith) here
                ∙ sym (stored_last c j n (given j) store₀ ps₀ (slice j n ps') store₀ (omega arith) (omega arith) here)
            go (no e) =
                let h : suc j < n = omega (arith, inside) in
                let cp = has_next h in
                let u : get_or puts j 0 ≡ place_in c j p = (s.rings j h cp).0 ∙ sym (place_is c n (of bases) (of caps) T.places j p h) in
                let l : ltb (get_or ps₀ j 0) (get_or ps' j 0) ≡ true = lt-ltb (get_or ps₀ j 0) (get_or ps' j 0) (omega (arith, as_before, own)) in
                let cc : c j ≡ get_or caps j 0 = sym (T.places.caps_are j h) in
                (po.inner (omega arith)).1
                ∙ rw (u, word_is, s.words)
                (sym (stored_past c (suc j) (given (suc j)) (place_in c j p) (given j) store₀ (slice (suc j) n ps₀) (slice (suc j) n ps) store₀ (place_before c j p (omega (arith, cp)))))
                ∙ sym (rw (l, slice_behind ps n j (suc p) inside, sym as_before) at (stored_at c j n (given j) store₀ ps₀ ps' store₀ h here long))

        sums : sum (slice 0 n ps₀) < sum (slice 0 n ps')
        sums = rw (sum_up ps n j inside there) (go moved refl)
          where
            go : (m : Bool) → moved ≡ m → sum (take n ps₀) < suc (sum (take n ps))
            go true e = omega (arith, s.up e)
            go false e = rw (s.still e).0 (omega arith)

        pub turning_moves : Turning ps' puts' gets' store' true j
        turning_moves = record {
          sweeping = sweeps_on;
          puts_there = (lengths (ℕ_discrete (suc j) n)).0;
          gets_there = ap length eg ∙ length_gets j bases tops gets ∙ s.gets_there;
          store_length = (lengths (ℕ_discrete (suc j) n)).1;
          fits = fits_on;
          rings = λ i h cp. (puts_on i h cp, gets_on_lem i h cp);
          words = words_on;
          still = λ e. no_fewer e;
          up = λ _. sums;
        }
          where
            lengths : Dec (suc j ≡ n) → (length puts' ≡ 32) × (length store' ≡ length store₀)
            lengths (yes e) = (ap length (po.last (omega arith)).0 ∙ s.puts_there, ap length (po.last (omega arith)).1 ∙ s.store_length)
            lengths (no e) = (
              ap length (po.inner (omega (arith, inside))).0 ∙ length-set puts j (step (get_or bases j 0) (get_or tops j 0) (get_or puts j 0)) ∙ s.puts_there,
              ap length (po.inner (omega (arith, inside))).1 ∙ length-set store (get_or puts j 0) x ∙ s.store_length,
            )

    pub turning_end : (ps puts gets store : List ℕ) (moved : Bool) → Turning ps puts gets store moved 0 → Turned c n cells word wants bases caps ps₀ ps puts gets store₀ store moved
    turning_end ps puts gets store moved s = record {
      counters = sweeping_end wants caps ps₀ ps n cells s.sweeping;
      words = s.words;
      puts_there = s.puts_there;
      gets_there = s.gets_there;
      rings = s.rings;
      still = s.still;
      up = s.up;
    }

    -- The same, as the loop's body meets it: filter k - 1 goes g cells on.
    module _ (ps puts gets store : List ℕ) (moved : Bool) (k g : ℕ) (some : 0 < k) (s : Turning ps puts gets store moved k)
        (own : turn (source cells ps (k - 1)) (get_or wants (k - 1) 0) (limit (of caps) (k - 1) (get_or ps (k - 1) 0) (slice (suc (k - 1)) n ps)) (get_or ps (k - 1) 0) ≡ get_or ps (k - 1) 0 + g) where
      one : k ≡ suc (k - 1)
      one = omega arith

      s' : Turning ps puts gets store moved (suc (k - 1))
      s' = rw one at s

      pub turning_rests : g ≡ 0 → Turning ps puts gets store moved (k - 1)
      turning_rests z = turning_stays ps puts gets store moved (k - 1) s' (own ∙ omega arith)

      module _ (up : g ≡ 0 → ⊥) where
        went : (turn (source cells ps (k - 1)) (get_or wants (k - 1) 0) (limit (of caps) (k - 1) (get_or ps (k - 1) 0) (slice (suc (k - 1)) n ps)) (get_or ps (k - 1) 0) ≡ suc (get_or ps (k - 1) 0))
            × (get_or ps (k - 1) 0 < source cells ps (k - 1)) × (get_or ps (k - 1) 0 < limit (of caps) (k - 1) (get_or ps (k - 1) 0) (slice (suc (k - 1)) n ps))
        went =
            let more : 0 < g = positive g up in
            turn_went (source cells ps (k - 1)) (get_or wants (k - 1) 0) (limit (of caps) (k - 1) (get_or ps (k - 1) 0) (slice (suc (k - 1)) n ps)) (get_or ps (k - 1) 0) (omega (arith, own))
          where
            positive : (x : ℕ) → (x ≡ 0 → ⊥) → 0 < x
            positive zero h = absurd (h refl)
            positive (suc x) h = omega arith

        -- Where its word is read, and where it goes, are places of the store.
        pub reads_within : (k - 1 ≡ 0 → ⊥) → get_or gets (k - 1 - 1) 0 < length store
        reads_within z =
            let i : suc (k - 1 - 1) ≡ k - 1 = omega arith in
            let h : suc (k - 1 - 1) < n = omega (arith, s'.sweeping.range) in
            let y = source_suc cells ps (k - 1 - 1) (k - 1) i in
            let x = went in
            let q : get_or ps (suc (k - 1 - 1)) 0 ≡ get_or ps (k - 1) 0 = ap (λ (m : ℕ). get_or ps m 0) i in
            let cp : 0 < get_or caps (k - 1 - 1) 0 = omega (arith, x.1, (s.fits (k - 1 - 1) h).1) in
            omega (arith, (s.rings (k - 1 - 1) h cp).1, mod-lt (get_or ps (suc (k - 1 - 1)) 0) cp, T.within (k - 1 - 1) h, s.store_length)

        pub goes_within : k - 1 + 1 < n → get_or puts (k - 1) 0 < length store
        goes_within l =
            let h : suc (k - 1) < n = omega arith in
            let x = went in
            let lim = inner_limit ps puts gets store moved (k - 1) s' h in
            let cp : 0 < get_or caps (k - 1) 0 = omega (arith, x.2, (s.fits (k - 1) h).0) in
            omega (arith, (s.rings (k - 1) h cp).0, mod-lt (get_or ps (k - 1) 0) cp, T.within (k - 1) h, s.store_length)

        pub turning_goes : (puts' gets' store' : List ℕ) (x : ℕ) → x ≡ word_at (k - 1) word gets store → gets' ≡ gets_on (k - 1) bases tops gets
            → PutOn n (k - 1) x bases tops puts puts' store store' → Turning (set ps (k - 1) (get_or ps (k - 1) 0 + 1)) puts' gets' store' true (k - 1)
        turning_goes puts' gets' store' x ex eg po =
            let w = went in
            rw add-one (turning_moves ps puts gets store moved (k - 1) s' puts' gets' store' x w.0 w.1 w.2 ex eg po)
