-- The clocks of a call before its filters are aligned: the loop's invariant, and one law for each way that a turn goes.
use Prim.Native.Nat.{ℕ, zero, suc, ◌+◌, ◌-◌, ◌≤◌, ◌<◌}
use mathlib.Core.Bool.{Bool, true, false, false≢true}
use mathlib.Core.List.{List, [], ◌∷◌}
use mathlib.Core.Path.{◌≡◌, refl, sym, ◌∙◌, ap}
use native.Mathlib.Nat.{sub-zero, zero-add}
use native.Mathlib.Numerals.{add-one}
use native.Mathlib.Omega.{arith}
use native.Mathlib.Decide.{ℕ_discrete}
use lib.ListN.{length, get_or, take, drop, length-append, length-drop}
use lib.Seq.{length-take-le, take_at, drop_at, get_or-take}
use borrow.Author.Tests.{lt-ltb, le-ltb}
use Rattle.model.specs.Lists.{sum}
use Rattle.model_run.specs.Clock.{Layout, first, turns, fires, next, moves}
use Rattle.model_run.specs.Running.{Spent, Starved, Stalled, call}
use Rattle.flow.specs.Machine.{Invariant, Ready}
use Rattle.flow.proofs.Tests.{fires_yes}
use Rattle.flow.proofs.Invariant.{next_invariant}
use Rattle.run_laws.proofs.Held.{Steps, next_steps}
use Rattle.run_laws.proofs.Lengths.{length_turns}
use Rattle.loop_laws.specs.Passes.{of, Aligned}
use Rattle.loop_laws.specs.Sweeps.{before, swept, Lined, Ringed, Turns, Turned, InPlace, Goes, Gone}
use Rattle.loop_laws.specs.Standings.{counting, stand, ended_at}
use Rattle.loop_laws.specs.LoopTables.{Fills}
use Rattle.loop_laws.proofs.AlignedLaws.{ready_aligned}
use Rattle.loop_laws.proofs.SweepLaws.{turns_same}
use Rattle.loop_laws.proofs.AgainLaws.{goes_unwanted}
use Rattle.loop_laws.proofs.StoredLaws.{length_stored, holds_below, holds_wanted, holds_apart}
use Rattle.loop_laws.proofs.CallLaws.{call_spent, call_starved, call_stalled, call_shifts}

-- ---- the test for alignment

abbrev pub Pair : (at ps : List ℕ) (k : ℕ) → Type 0
Pair at ps k = (get_or ps (k + 1) 0 < get_or ps k 0) × (get_or ps k 0 + get_or at (k + 1) 0 ≡ get_or ps (k + 1) 0 + get_or at k 0)

pub lined_more : (at ps : List ℕ) (k : ℕ) → ((j : ℕ) → j < k → Pair at ps j) → Pair at ps k → (j : ℕ) → j < k + 1 → Pair at ps j
lined_more at ps k f x j h = go (ℕ_discrete j k)
  where
    go : Dec (j ≡ k) → Pair at ps j
    go (yes e) = rw e x
    go (no e) = f j (omega arith)

pub not-false : {A : Type 0} → false ≡ true → A
not-false e = absurd (false≢true e)

pub not-true : {A : Type 0} → true ≡ false → A
not-true e = absurd (false≢true (sym e))

-- ---- lists

pub first_take : (n : ℕ) (l : List ℕ) → 0 < n → n ≤ length l → first (take n l) ≡ get_or l 0 0
first_take zero l h g = absurd (omega arith)
first_take (suc n) [] h g = refl
first_take (suc n) (x ∷ l) h g = refl

first_steps : (source : ℕ) (ps ps' : List ℕ) → Steps source ps ps' → (first ps ≤ first ps') × (first ps' ≤ suc (first ps))
first_steps source [] [] s = (omega arith, omega arith)
first_steps source [] (p' ∷ ps') s = absurd s
first_steps source (p ∷ ps) [] s = absurd s
first_steps source (p ∷ ps) (p' ∷ ps') s = (s.0, s.1)

aligned_at : (w cap : ℕ → ℕ) (k i : ℕ) (ps : List ℕ) → suc i < length ps → Aligned w cap k ps
    → (get_or ps (suc i) 0 < get_or ps i 0) × (get_or ps i 0 + w (suc (k + i)) ≡ get_or ps (suc i) 0 + w (k + i))
aligned_at w cap k i [] h a = absurd (omega arith)
aligned_at w cap k i (p ∷ []) h a = absurd (omega arith)
aligned_at w cap k zero (p ∷ q ∷ qs) h a = let z : k + 0 ≡ k = omega arith in rw z (a.0, a.2)
aligned_at w cap k (suc i) (p ∷ q ∷ qs) h a =
    let z : k + suc i ≡ suc k + i = omega arith in
    rw z (aligned_at w cap (suc k) i (q ∷ qs) (omega arith) a.3)

ready_at_lem : (L : Layout) (f k source i : ℕ) (ps : List ℕ) → i < length ps → Ready L f k source ps → get_or ps i 0 ≡ L.wants f (k + i)
ready_at_lem L f k source i [] h r = absurd (omega arith)
ready_at_lem L f k source zero (p ∷ ps) h r = let z : k + 0 ≡ k = omega arith in rw z r.1
ready_at_lem L f k source (suc i) (p ∷ ps) h r = let z : k + suc i ≡ suc k + i = omega arith in rw z (ready_at_lem L f (suc k) p i ps (omega arith) r.2)

-- ---- the loop

module _ (L : Layout) (walk : ℕ → ℕ) (n cells iterations fired : ℕ) (at wants caps bases tops passed₀ puts₀ gets₀ store₀ lent : List ℕ) (allowance : ℕ) where
  -- The loop has made `clocks` clocks: what remains from here is what the whole gives.
  pub record Filling (passed puts gets store : List ℕ) (taken clocks : ℕ) : Type 0 where
    pub holds : Invariant L (counting fired (take n passed))
    pub rest : drop n passed ≡ drop n passed₀
    pub there : length passed ≡ 32
    pub puts_there : length puts ≡ 32
    pub gets_there : length gets ≡ 32
    pub rings : Ringed n bases caps passed puts gets
    pub store_length : length store ≡ length store₀
    pub had : taken ≤ length lent
    pub allowed : clocks ≤ allowance
    pub fewer : taken ≤ clocks
    pub goes : (write : List ℕ → List ℕ) (size : ℕ) (out : List ℕ) → call L write size lent (allowance - clocks) (stand fired (take n passed) store out taken clocks 0)
        ≡ call L write size lent allowance (stand fired (take n passed₀) store₀ out 0 0 0)

  module _ (F : Fills L walk n cells iterations fired at wants caps bases tops passed₀ puts₀ gets₀ store₀) where
    left : fired < L.iterations
    left = omega (arith, F.more, F.tables.iterations_are)

    pub filling_start : Filling passed₀ puts₀ gets₀ store₀ 0 0
    filling_start = record {
      holds = F.stands.holds;
      rest = refl;
      there = F.stands.there;
      puts_there = F.puts_there;
      gets_there = F.gets_there;
      rings = F.rings;
      store_length = refl;
      had = omega arith;
      allowed = omega arith;
      fewer = omega arith;
      goes = λ write size out. rw sub-zero;
    }

    -- No reference reads past the cells in iteration 0.
    pub at_small : (k : ℕ) → k < n → get_or at k 0 ≤ 1048576
    at_small k h =
        let zeroth : 0 < iterations = omega (arith, F.more) in
        omega (arith, F.tables.reads 0 k zeroth h, F.tables.lawful.within 0 k (omega arith) (omega (arith, F.tables.filters_are)), F.tables.cells_are, F.tables.most)

    module _ (passed puts gets store : List ℕ) (taken clocks : ℕ) (s : Filling passed puts gets store taken clocks) where
      long : length (take n passed) ≡ n
      long = length-take-le n passed (omega (arith, s.there, F.tables.few))

      pub small : (k : ℕ) → k < n → get_or passed k 0 ≤ 1048576
      small k h =
          omega (arith, get_or-take n passed k 0 h, holds_below L fired 0 L.cells k (take n passed) s.holds.all, F.tables.most, F.tables.cells_are)

      -- Filters that are not aligned do not fire,
      pub idle : (Lined n at passed → ⊥) → fires L (counting fired (take n passed)) ≡ false
      idle f = go (fires L (counting fired (take n passed))) refl
        where
          lines : Aligned (L.wants fired) L.capacity 0 (take n passed) → Lined n at passed
          lines a k h =
              let x = aligned_at (L.wants fired) L.capacity 0 k (take n passed) (omega (arith, long)) a in
              let g₁ = get_or-take n passed k 0 (omega arith) in
              let g₂ = get_or-take n passed (suc k) 0 (omega arith) in
              let r₁ = F.tables.reads fired k F.more (omega arith) in
              let r₂ = F.tables.reads fired (suc k) F.more (omega arith) in
              rw add-one (let z : 0 + k ≡ k = omega arith in let y = rw (z, g₁, g₂, r₁, r₂) at x in (y.0, omega arith))

          go : (b : Bool) → fires L (counting fired (take n passed)) ≡ b → b ≡ false
          go true e = absurd (f (lines (ready_aligned L fired 0 L.cells (take n passed) s.holds.all (fires_yes L (counting fired (take n passed)) e))))
          go false e = refl

      -- nor does a chain of which a filter is not where it is wanted.
      pub waiting : (k : ℕ) → k < n → (get_or passed k 0 ≡ get_or wants k 0 → ⊥) → fires L (counting fired (take n passed)) ≡ false
      waiting k h ne = go (fires L (counting fired (take n passed))) refl
        where
          go : (b : Bool) → fires L (counting fired (take n passed)) ≡ b → b ≡ false
          go true e =
              let r = ready_at_lem L fired 0 L.cells k (take n passed) (omega (arith, long)) (fires_yes L (counting fired (take n passed)) e) in
              absurd (ne (omega (arith, r, get_or-take n passed k 0 h, F.wants_are k h, ap (L.wants fired) (zero-add k))))
          go false e = refl

      pub may_turn : Turns L.capacity n bases tops caps passed puts gets store
      may_turn = record {
        few = F.tables.few;
        ps_there = s.there;
        puts_there = s.puts_there;
        gets_there = s.gets_there;
        low = small;
        small = F.tables.small;
        places = F.tables.places;
        tops_are = F.tops_are;
        within = λ k h. omega (arith, F.stands.within k h, s.store_length);
        fits = λ k h.
            let x = holds_apart L fired 0 L.cells k (take n passed) (omega (arith, long)) s.holds.all in
            let y = rw (zero-add, get_or-take n passed k 0 (omega arith), get_or-take n passed (suc k) 0 h) at x in
            (y.0, omega (arith, y.1, F.tables.places.caps_are k h));
        rings = s.rings;
      }

      pub in_place : InPlace n cells (of wants) (of caps) (of passed)
      in_place = record {
        wanted = λ k h.
            let x = holds_wanted L fired 0 L.cells k (take n passed) (omega (arith, long)) s.holds.all in
            omega (arith, x, get_or-take n passed k 0 h, F.wants_are k h, ap (L.wants fired) (zero-add k));
        sourced = sourced;
        fits = λ k h. (may_turn.fits k h).1;
      }
        where
          sourced : (k : ℕ) → k < n → get_or passed k 0 ≤ before cells (of passed) k
          sourced zero h = omega (arith, get_or-take n passed 0 0 h, holds_below L fired 0 L.cells 0 (take n passed) s.holds.all, F.tables.cells_are)
          sourced (suc k) h = (may_turn.fits k h).0

      -- The counters after the turns.
      module _ (passed' : List ℕ) (e : passed' ≡ swept wants caps passed n cells) where
        same_turns : turns (of wants) (of caps) 0 cells (take n passed) ≡ turns (L.wants fired) L.capacity 0 L.cells (take n passed)
        same_turns =
            ap (λ (c : ℕ). turns (of wants) (of caps) 0 c (take n passed)) (sym F.tables.cells_are)
            ∙ turns_same (of wants) (L.wants fired) (of caps) L.capacity n 0 L.cells (take n passed) (omega (arith, long))
            (λ j h. F.wants_are j h) (λ j h. F.tables.places.caps_are j h)

        taken_turns : take n passed' ≡ turns (L.wants fired) L.capacity 0 L.cells (take n passed)
        unfolding swept
        taken_turns =
            ap (λ (l : List ℕ). take n l) e
            ∙ take_at (turns (of wants) (of caps) 0 cells (take n passed)) (drop n passed) n (length_turns (of wants) (of caps) 0 cells (take n passed) ∙ long)
            ∙ same_turns

        rest_same : drop n passed' ≡ drop n passed
        unfolding swept
        rest_same =
            ap (λ (l : List ℕ). drop n l) e
            ∙ drop_at (turns (of wants) (of caps) 0 cells (take n passed)) (drop n passed) n (length_turns (of wants) (of caps) 0 cells (take n passed) ∙ long)

        pub there_now : length passed' ≡ 32
        unfolding swept
        there_now =
            ap length e
            ∙ length-append (turns (of wants) (of caps) 0 cells (take n passed)) (drop n passed)
            ∙ omega (arith, length_turns (of wants) (of caps) 0 cells (take n passed), long, length-drop n passed, s.there, F.tables.few)

        module _ (quiet : fires L (counting fired (take n passed)) ≡ false) where
          -- The clock is the next of the definition.
          next_is : next L (counting fired (take n passed)) ≡ counting fired (take n passed')
          unfolding next
          next_is = rw (quiet, taken_turns)

          holds_now : Invariant L (counting fired (take n passed'))
          holds_now = rw next_is at (next_invariant L F.tables.lawful (counting fired (take n passed)) left s.holds)

          steps_now : Steps L.cells (take n passed) (take n passed')
          steps_now = rw next_is at (next_steps L (counting fired (take n passed)) s.holds)

          first_before : first (take n passed) ≡ get_or passed 0 0
          first_before = first_take n passed F.tables.some (omega (arith, s.there, F.tables.few))

          first_after : first (take n passed') ≡ get_or passed' 0 0
          first_after = first_take n passed' F.tables.some (omega (arith, there_now, F.tables.few))

          first_on_lem : (get_or passed 0 0 ≤ get_or passed' 0 0) × (get_or passed' 0 0 ≤ get_or passed 0 0 + 1)
          first_on_lem =
              let x = first_steps L.cells (take n passed) (take n passed') steps_now in
              let a = first_before in
              let b = first_after in
              (omega arith, omega arith)

          moves_is : (b : Bool) → lib.Dec.ltb (sum (take n passed)) (sum (take n passed')) ≡ b → moves L (counting fired (take n passed)) ≡ b
          unfolding moves
          moves_is b h = rw next_is h

          module _ (al : clocks < allowance) (tl : taken < length lent) where
            more_left : allowance - clocks ≡ suc (allowance - suc clocks)
            more_left = omega arith

            filling_on : (goes puts' gets' store' : List ℕ) (x who : ℕ) → x ≡ get_or lent taken 0 → who < n → 0 < get_or goes who 0
                → Gone L.capacity n cells x wants bases caps goes passed passed' puts' gets' store store' → Filling passed' puts' gets' store' (taken + get_or goes 0 0) (clocks + 1)
            filling_on goes puts' gets' store' x who ex h some r =
                let t = r.turned in
                let em : r.moved ≡ true = moved r.moved t in
                let mo = moves_is true (lt-ltb (sum (take n passed)) (sum (take n passed')) (t.up em)) in
                let first_goes : get_or passed' 0 0 - get_or passed 0 0 ≡ get_or goes 0 0 = omega (arith, r.on 0 F.tables.some) in
                rw add-one record {
                  holds = holds_now;
                  rest = rest_same ∙ s.rest;
                  there = there_now;
                  puts_there = t.puts_there;
                  gets_there = t.gets_there;
                  rings = t.rings;
                  store_length = ap length t.words ∙ length_stored L.capacity 0 x store (take n passed) (take n passed') store ∙ s.store_length;
                  had = omega (arith, first_on_lem);
                  allowed = al;
                  fewer = omega (arith, first_on_lem, s.fewer);
                  goes = λ write size out.
                      let g = rw more_left at (s.goes write size out) in
                      let l = call_shifts L write size lent fired (take n passed) store out taken clocks 0 left tl quiet (allowance - suc clocks) mo in
                      sym (rw (next_is, ← ex, ← t.words, first_before, first_after, first_goes) at l) ∙ g;
                }
              where
                moved : (m : Bool) → Turned L.capacity n cells x wants bases caps passed passed' puts' gets' store store' m → m ≡ true
                moved true t = refl
                moved false t = absurd (let y : ⊥ = omega (arith, r.on who h, ap (λ (l : List ℕ). get_or l who 0) (t.still refl).0) in y)

            -- No filter moves.
            pub stops_stalled : passed' ≡ passed → (write : List ℕ → List ℕ) (size : ℕ) (out : List ℕ)
                → ended_at Stalled (stand fired (take n passed) store out taken clocks 0) ≡ call L write size lent allowance (stand fired (take n passed₀) store₀ out 0 0 0)
            stops_stalled same write size out =
                let le : sum (take n passed') ≤ sum (take n passed) = omega (arith, ap (λ (l : List ℕ). sum (take n l)) same) in
                let mo = moves_is false (le-ltb (sum (take n passed)) (sum (take n passed')) le) in
                sym (call_stalled L write size lent (allowance - suc clocks) (stand fired (take n passed) store out taken clocks 0) left tl mo)
                ∙ (rw more_left at (s.goes write size out))

      -- The filters of `goes` moved.
      pub filling_again : (goes passed' puts' gets' store' : List ℕ) (x who : ℕ) → Goes n cells (of wants) (of caps) (of goes) (of passed) → clocks < allowance → taken < length lent → x ≡ get_or lent taken 0
          → who < n → 0 < get_or goes who 0 → Gone L.capacity n cells x wants bases caps goes passed passed' puts' gets' store store'
          → Filling passed' puts' gets' store' (taken + get_or goes 0 0) (clocks + 1)
      filling_again goes passed' puts' gets' store' x who G al tl ex h some r =
          filling_on passed' r.turned.counters (waiting who h (goes_unwanted n cells (of wants) (of caps) (of goes) (of passed) G who h some)) al tl goes puts' gets' store' x who ex h some r

      -- ---- the other ways out

      pub stops_spent : allowance ≤ clocks → (write : List ℕ → List ℕ) (size : ℕ) (out : List ℕ)
          → ended_at Spent (stand fired (take n passed) store out taken clocks 0) ≡ call L write size lent allowance (stand fired (take n passed₀) store₀ out 0 0 0)
      stops_spent h write size out =
          sym (call_spent L write size lent (allowance - clocks) (stand fired (take n passed) store out taken clocks 0) (omega arith) left) ∙ s.goes write size out

      pub stops_starved : clocks < allowance → length lent ≤ taken → (write : List ℕ → List ℕ) (size : ℕ) (out : List ℕ)
          → ended_at Starved (stand fired (take n passed) store out taken clocks 0) ≡ call L write size lent allowance (stand fired (take n passed₀) store₀ out 0 0 0)
      stops_starved h l write size out =
          let c : allowance - clocks ≡ suc (allowance - suc clocks) = omega arith in
          sym (call_starved L write size lent (allowance - suc clocks) (stand fired (take n passed) store out taken clocks 0) left l) ∙ (rw c at (s.goes write size out))
