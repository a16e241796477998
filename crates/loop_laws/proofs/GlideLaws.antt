-- The clocks of a call whose filters are aligned: the loop's invariant, and one law for each way that a turn goes.
use Prim.Native.Nat.{ℕ, zero, suc, ◌+◌, ◌*◌, ◌-◌, ◌%◌, ◌≤◌, ◌<◌}
use mathlib.Core.Bool.{Bool, true, false}
use mathlib.Core.List.{List, [], ◌∷◌, ◌++◌, map}
use mathlib.Core.Path.{◌≡◌, refl, sym, ◌∙◌, ap, ap₂}
use native.Mathlib.Nat.{mod-lt, suc-mod, mod_self, mod-eq_of_lt, sub-zero, add-zero, zero-add, suc-mul}
use native.Mathlib.Numerals.{add-one}
use native.Mathlib.Omega.{arith}
use native.Mathlib.Decide.{ℕ_discrete}
use lib.ListN.{length, get_or, take, length-map}
use lib.Seq.{slice, sets, length-sets, take-suc, take-suc-set, length-take-le, get_or-take}
use Rattle.model_run.specs.Clock.{Layout, first}
use Rattle.model_run.specs.Running.{Done, Spent, Starved, Full, call}
use Rattle.loop_laws.specs.Passes.{of, Aligned, ahead, step, flow, flowed, gets, puts, steps, stepped, passing, heads, FullFifos, InStore}
use Rattle.loop_laws.specs.Standings.{stand, ended_at}
use Rattle.loop_laws.specs.LoopTables.{Tables, Stands, Rows, Rings}
use Rattle.loop_laws.proofs.AlignedLaws.{aligned_on, aligned_same}
use Rattle.loop_laws.proofs.FlowLaws.{gets_on_lem, puts_on, full_places, length_flow}
use Rattle.loop_laws.proofs.PassLaws.{length_stepped}
use Rattle.loop_laws.proofs.StoredLaws.{holds_below}
use Rattle.loop_laws.proofs.FillLaws.{first_take}
use Rattle.loop_laws.proofs.CallLaws.{call_done, call_spent, call_starved, aligned_waits, aligned_full, aligned_fires}

-- ---- ring places

module _ (base cap : ℕ → ℕ) where
  steps_snoc : (k : ℕ) (us : List ℕ) (u : ℕ)
      → steps base cap k (us ++ u ∷ []) ≡ steps base cap k us ++ step (base (k + length us)) (base (k + length us) + cap (k + length us)) u ∷ []
  unfolding steps
  steps_snoc k [] u = rw add-zero
  steps_snoc k (v ∷ us) u =
      let e : k + suc (length us) ≡ suc k + length us = omega arith in
      rw e (ap (λ (l : List ℕ). step (base k) (base k + cap k) v ∷ l) (steps_snoc (suc k) us u))

stepped_steps : (bases tops caps us : List ℕ) (m : ℕ) → m ≤ length us → ((k : ℕ) → k < m → get_or tops k 0 ≡ get_or bases k 0 + get_or caps k 0)
    → take m (stepped bases tops m us) ≡ steps (of bases) (of caps) 0 (take m us)
unfolding stepped steps
stepped_steps bases tops caps us zero l e = refl
stepped_steps bases tops caps us (suc m) l e =
    let v = step (get_or bases m 0) (get_or tops m 0) (get_or us m 0) in
    let h : m < length (stepped bases tops m us) = omega (arith, length_stepped bases tops m us) in
    let t : length (take m us) ≡ m = length-take-le m us (omega arith) in
    take-suc-set (stepped bases tops m us) m v h
    ∙ rw (
      stepped_steps bases tops caps us m (omega arith) (λ k g. e k (omega arith)),
      take-suc us m 0 (omega arith),
      steps_snoc (of bases) (of caps) 0 (take m us) (get_or us m 0),
      t,
      zero-add,
      e m (omega arith),
    )

-- The places of counters lie where their FIFOs do.
module _ (w base cap : ℕ → ℕ) (len n : ℕ) (within : (k : ℕ) → suc k < n → base k + cap k ≤ len) where
  puts_below : (k i : ℕ) (ps : List ℕ) → k + length ps ≤ n → Aligned w cap k ps → suc i < length ps → get_or (puts base cap k ps) i 0 < len
  unfolding puts
  puts_below k i [] l a h = absurd (omega arith)
  puts_below k i (p ∷ []) l a h = absurd (omega arith)
  puts_below k zero (p ∷ q ∷ qs) l a h = omega (arith, mod-lt p (let z : 0 < cap k = omega arith in z), within k (omega arith))
  puts_below k (suc i) (p ∷ q ∷ qs) l a h = puts_below (suc k) i (q ∷ qs) (omega arith) a.3 (omega arith)

  gets_below : (k i : ℕ) (ps : List ℕ) → k + length ps ≤ n → Aligned w cap k ps → suc i < length ps → get_or (gets base cap k ps) i 0 < len
  unfolding gets
  gets_below k i [] l a h = absurd (omega arith)
  gets_below k i (p ∷ []) l a h = absurd (omega arith)
  gets_below k zero (p ∷ q ∷ qs) l a h = omega (arith, mod-lt q (let z : 0 < cap k = omega arith in z), within k (omega arith))
  gets_below k (suc i) (p ∷ q ∷ qs) l a h = gets_below (suc k) i (q ∷ qs) (omega arith) a.3 (omega arith)

-- ---- full FIFOs

pub full_none : (caps passed : List ℕ) → FullFifos 1 caps passed
full_none caps passed k h = absurd (omega arith)

pub full_more : (caps passed : List ℕ) (k : ℕ) → FullFifos (k + 1) caps passed → get_or passed k 0 ≡ get_or passed (k + 1) 0 + get_or caps k 0 → FullFifos (k + 1 + 1) caps passed
full_more caps passed k f x j h = go (ℕ_discrete j k)
  where
    go : Dec (j ≡ k) → get_or passed j 0 ≡ get_or passed (suc j) 0 + get_or caps j 0
    go (yes e) = rw e (rw add-one at x)
    go (no e) = f j (omega arith)

pub full_below : (caps passed : List ℕ) (n k : ℕ) → n ≤ k + 1 → FullFifos (k + 1) caps passed → FullFifos n caps passed
full_below caps passed n k l f j h = f j (omega arith)

-- One table is enough where every FIFO is full.
pub rings_heads : (full : Bool) (n : ℕ) (at caps bases tops passed us gs : List ℕ) → n ≤ length passed → (full ≡ true → FullFifos n caps passed)
    → Rings n at caps bases tops passed us gs → Rings n at caps bases tops passed us (heads full us gs)
rings_heads false n at caps bases tops passed us gs l f R = R
rings_heads true n at caps bases tops passed us gs l f R =
    let t = length-take-le n passed l in
    record {
      tops_are = R.tops_are;
      aligned = R.aligned;
      puts_there = R.puts_there;
      gets_there = R.puts_there;
      at_puts = R.at_puts;
      at_gets = R.at_puts
          ∙ full_places (of bases) (of caps) 0 (take n passed)
          (λ i h. rw (zero-add, get_or-take n passed i 0 (omega arith), get_or-take n passed (suc i) 0 (omega arith)) (f refl i (omega arith)));
    }

-- ---- counters some cells on

pub length_ahead : (t : ℕ) (ps : List ℕ) → length (ahead t ps) ≡ length ps
unfolding ahead
length_ahead zero ps = refl
length_ahead (suc t) ps = length-map (ahead t ps) suc ∙ length_ahead t ps

aligned_ahead : (w cap : ℕ → ℕ) (t : ℕ) (ps : List ℕ) → Aligned w cap 0 ps → Aligned w cap 0 (ahead t ps)
unfolding ahead
aligned_ahead w cap zero ps a = a
aligned_ahead w cap (suc t) ps a = aligned_on w cap 0 (ahead t ps) (aligned_ahead w cap t ps a)

first_map : (ps : List ℕ) → 0 < length ps → first (map suc ps) ≡ suc (first ps)
first_map [] h = absurd (omega arith)
first_map (p ∷ ps) h = refl

first_ahead : (t : ℕ) (ps : List ℕ) → 0 < length ps → first (ahead t ps) ≡ first ps + t
unfolding ahead
first_ahead zero ps h = omega arith
first_ahead (suc t) ps h = omega (arith, first_map (ahead t ps) (omega (arith, length_ahead t ps)), first_ahead t ps h)

-- ---- rows

row_goes : (row f : ℕ) → suc (f % row) < row → suc f % row ≡ suc (f % row)
row_goes row f h = suc-mod f row ∙ mod-eq_of_lt h

row_ends : (row f : ℕ) → suc (f % row) ≡ row → suc f % row ≡ 0
row_ends row f h = suc-mod f row ∙ ap (λ (y : ℕ). y % row) h ∙ mod_self row

-- ---- the loop

module _ (L : Layout) (walk : ℕ → ℕ) (write : List ℕ → List ℕ) (size n cells iterations row : ℕ) (at caps bases tops passed lent : List ℕ) (fired₀ allowance : ℕ)
    (us₀ gs₀ store₀ out₀ : List ℕ) where
  abbrev now_at : ℕ → List ℕ
  now_at t = ahead t (take n passed)

  -- The loop has made `taken` clocks: what remains from here is what the whole gives.
  pub record Gliding (us gs store out : List ℕ) (fired wait left taken o : ℕ) : Type 0 where
    pub begun : fired₀ ≤ fired
    pub made : fired ≤ iterations
    pub allowed : taken ≤ allowance
    pub fewer : fired - fired₀ ≤ taken
    pub had : taken ≤ length lent
    pub puts_there : n ≤ length us
    pub gets_there : n ≤ length gs
    pub at_puts : take (n - 1) us ≡ puts (of bases) (of caps) 0 (now_at taken)
    pub at_gets : take (n - 1) gs ≡ gets (of bases) (of caps) 0 (now_at taken)
    pub inside : get_or passed 0 0 + taken ≤ cells
    pub waits : fired < iterations → get_or passed 0 0 + taken + wait ≡ get_or at 0 0 + walk fired
    pub lefts : left ≡ row - fired % row
    pub outs : o ≡ (fired - fired₀) * size
    pub room : o ≤ length out
    pub store_length : length store ≡ length store₀
    pub out_length : length out ≡ length out₀
    pub goes : call L write size lent (allowance - taken) (stand fired (now_at taken) store out taken taken (fired - fired₀))
        ≡ call L write size lent allowance (stand fired₀ (take n passed) store₀ out₀ 0 0 0)

  module _ (T : Tables L walk n cells iterations at caps bases) (S : Stands L n fired₀ caps bases passed store₀) (W : Rows walk row iterations)
      (R : Rings n at caps bases tops passed us₀ gs₀) where
    within_cells : get_or passed 0 0 ≤ cells
    within_cells =
        omega (arith, holds_below L fired₀ 0 L.cells 0 (take n passed) S.holds.all, get_or-take n passed 0 0 T.some, T.cells_are)

    pub gliding_start : (full : Bool) → (full ≡ true → FullFifos n caps passed) → (wait left : ℕ) → left ≡ row - fired₀ % row
        → (fired₀ < iterations → get_or passed 0 0 + wait ≡ get_or at 0 0 + walk fired₀) → Gliding us₀ (heads full us₀ gs₀) store₀ out₀ fired₀ wait left 0 0
    unfolding ahead
    gliding_start full f wait left e d = let H = rings_heads full n at caps bases tops passed us₀ gs₀ (omega (arith, S.there, T.few)) f R in record {
      begun = omega arith;
      made = omega (arith, S.holds.most, T.iterations_are);
      allowed = omega arith;
      fewer = omega arith;
      had = omega arith;
      puts_there = H.puts_there;
      gets_there = H.gets_there;
      at_puts = H.at_puts;
      at_gets = H.at_gets;
      inside = omega (arith, within_cells);
      waits = λ h. omega (arith, d h);
      lefts = e;
      outs = rw (let z : fired₀ - fired₀ ≡ 0 = omega arith in z) (omega arith);
      room = omega arith;
      store_length = refl;
      out_length = refl;
      goes = rw (sub-zero, let z : fired₀ - fired₀ ≡ 0 = omega arith in z);
    }

    length_now : (t : ℕ) → length (now_at t) ≡ n
    length_now t = length_ahead t (take n passed) ∙ length-take-le n passed (omega (arith, S.there, T.few))

    first_now : (t : ℕ) → first (now_at t) ≡ get_or passed 0 0 + t
    first_now t =
        let l = length-take-le n passed (omega (arith, S.there, T.few)) in
        omega (arith, first_ahead t (take n passed) (omega (arith, T.some)), first_take n passed T.some (omega (arith, S.there, T.few)))

    aligned_now : (t : ℕ) → Aligned (of at) (of caps) 0 (now_at t)
    aligned_now t = aligned_ahead (of at) (of caps) t (take n passed) R.aligned

    -- As iteration f reads.
    known : (f : ℕ) (ps : List ℕ) → f < iterations → length ps ≡ n → Aligned (of at) (of caps) 0 ps → Aligned (L.wants f) (of caps) 0 ps
    known f ps h l a =
        aligned_same (of at) (L.wants f) (of caps) (of caps) (walk f) 0 0 n ps (omega arith) (λ j g. let r = T.reads f j h g in omega arith) (λ j _. refl) a

    in_layout_lem : (f : ℕ) (ps : List ℕ) → f < iterations → length ps ≡ n → Aligned (of at) (of caps) 0 ps → Aligned (L.wants f) L.capacity 0 ps
    in_layout_lem f ps h l a =
        aligned_same (of at) (L.wants f) (of caps) L.capacity (walk f) 0 0 n ps (omega arith) (λ j g. let r = T.reads f j h g in omega arith) T.places.caps_are a

    places_of : Rattle.loop_laws.specs.Passes.Places L.capacity L.filters (of bases) (of caps)
    places_of = rw T.filters_are T.places

    -- The laws of a clock for a list that is not taken apart.
    module _ (t f : ℕ) (ps store out : List ℕ) (taken made : ℕ) (l : length ps ≡ n) (a : Aligned (of at) (of caps) 0 ps) (h : first ps < cells) (fl : f < iterations)
        (tl : taken < length lent) where
      waiting : (first ps ≡ get_or at 0 0 + walk f → ⊥) → call L write size lent (suc t) (stand f ps store out taken taken made)
          ≡ call L write size lent t (stand f (map suc ps) (flow (get_or lent taken 0) (gets (of bases) (of caps) 0 ps) (puts (of bases) (of caps) 0 ps) store) out
          (suc taken) (suc taken) made)
      waiting w = go ps l a h w
        where
          go : (ps : List ℕ) → length ps ≡ n → Aligned (of at) (of caps) 0 ps → first ps < cells → (first ps ≡ get_or at 0 0 + walk f → ⊥)
              → call L write size lent (suc t) (stand f ps store out taken taken made)
              ≡ call L write size lent t (stand f (map suc ps) (flow (get_or lent taken 0) (gets (of bases) (of caps) 0 ps) (puts (of bases) (of caps) 0 ps) store) out
              (suc taken) (suc taken) made)
          go [] l a h w = absurd (omega (arith, T.some))
          go (p ∷ ps) l a h w =
              aligned_waits L write size lent (of bases) (of caps) places_of f p ps store out taken taken made (omega (arith, T.cells_are))
              (in_layout_lem f (p ∷ ps) fl l a) (known f (p ∷ ps) fl l a) (omega (arith, T.iterations_are)) tl (omega (arith, T.filters_are)) t
              (λ e. w (e ∙ T.reads f 0 fl T.some))

      firing : first ps ≡ get_or at 0 0 + walk f → made * size + size ≤ length out → call L write size lent (suc t) (stand f ps store out taken taken made)
          ≡ call L write size lent t (stand (suc f) (map suc ps) (flow (get_or lent taken 0) (gets (of bases) (of caps) 0 ps) (puts (of bases) (of caps) 0 ps) store)
          (sets out (made * size) (write (flowed (get_or lent taken 0) (gets (of bases) (of caps) 0 ps) (puts (of bases) (of caps) 0 ps) store)))
          (suc taken) (suc taken) (suc made))
      firing w r = go ps l a h w
        where
          go : (ps : List ℕ) → length ps ≡ n → Aligned (of at) (of caps) 0 ps → first ps < cells → first ps ≡ get_or at 0 0 + walk f
              → call L write size lent (suc t) (stand f ps store out taken taken made)
              ≡ call L write size lent t (stand (suc f) (map suc ps) (flow (get_or lent taken 0) (gets (of bases) (of caps) 0 ps) (puts (of bases) (of caps) 0 ps) store)
              (sets out (made * size) (write (flowed (get_or lent taken 0) (gets (of bases) (of caps) 0 ps) (puts (of bases) (of caps) 0 ps) store)))
              (suc taken) (suc taken) (suc made))
          go [] l a h w = absurd (omega (arith, T.some))
          go (p ∷ ps) l a h w =
              aligned_fires L write size lent (of bases) (of caps) places_of f p ps store out taken taken made (omega (arith, T.cells_are))
              (in_layout_lem f (p ∷ ps) fl l a) (known f (p ∷ ps) fl l a) (omega (arith, T.iterations_are)) tl (omega (arith, T.filters_are)) t
              (w ∙ sym (T.reads f 0 fl T.some)) r

      fulling : first ps ≡ get_or at 0 0 + walk f → length out < made * size + size
          → call L write size lent (suc t) (stand f ps store out taken taken made) ≡ ended_at Full (stand f ps store out taken taken made)
      fulling w r = go ps l a h w
        where
          go : (ps : List ℕ) → length ps ≡ n → Aligned (of at) (of caps) 0 ps → first ps < cells → first ps ≡ get_or at 0 0 + walk f
              → call L write size lent (suc t) (stand f ps store out taken taken made) ≡ ended_at Full (stand f ps store out taken taken made)
          go [] l a h w = absurd (omega (arith, T.some))
          go (p ∷ ps) l a h w =
              aligned_full L write size lent (of bases) (of caps) places_of f p ps store out taken taken made (omega (arith, T.cells_are))
              (in_layout_lem f (p ∷ ps) fl l a) (known f (p ∷ ps) fl l a) (omega (arith, T.iterations_are)) tl (omega (arith, T.filters_are)) t
              (w ∙ sym (T.reads f 0 fl T.some)) r

    -- The next iteration is further on.
    walk_below : (f : ℕ) → f < iterations → get_or at 0 0 + walk f < cells
    walk_below f h =
        omega (
          arith,
          T.reads f 0 h T.some,
          T.lawful.rises f 0 (omega (arith, T.iterations_are)) T.lawful.some,
          T.lawful.within (suc f) 0 (omega (arith, T.iterations_are)) T.lawful.some,
          T.cells_are,
        )

    pub walk_up : (f : ℕ) → suc f < iterations → walk f < walk (suc f)
    walk_up f h =
        let g : f < iterations = omega arith in
        omega (arith, T.reads f 0 g T.some, T.reads (suc f) 0 h T.some, T.lawful.rises f 0 (omega (arith, T.iterations_are)) T.lawful.some)

    module _ (us gs store out : List ℕ) (fired wait left taken o : ℕ) (s : Gliding us gs store out fired wait left taken o) where
      here : fired < iterations → first (now_at taken) < cells
      here h = omega (arith, s.waits h, walk_below fired h, first_now taken)

      pub in_store : InStore (n - 1) us gs store
      in_store = record {
        puts_there = omega (arith, s.puts_there);
        gets_there = omega (arith, s.gets_there);
        in_puts = λ i h. rw (← get_or-take (n - 1) us i 0 h, s.at_puts, s.store_length)
            (puts_below (of at) (of bases) (of caps) (length store₀) n S.within 0 i (now_at taken) (omega (arith, length_now taken)) (aligned_now taken)
            (omega (arith, length_now taken)));
        in_gets = λ i h. rw (← get_or-take (n - 1) gs i 0 h, s.at_gets, s.store_length)
            (gets_below (of at) (of bases) (of caps) (length store₀) n S.within 0 i (now_at taken) (omega (arith, length_now taken)) (aligned_now taken)
            (omega (arith, length_now taken)));
      }

      -- What a pass leaves of the places and the store.
      module _ (us' gs' store' : List ℕ) (x : ℕ) (eu : us' ≡ stepped bases tops (n - 1) us) (eg : gs' ≡ stepped bases tops (n - 1) gs)
          (es : store' ≡ flow x (slice 0 (n - 1) gs) (slice 0 (n - 1) us) store) where
        puts_next : take (n - 1) us' ≡ puts (of bases) (of caps) 0 (now_at (suc taken))
        unfolding ahead
        puts_next =
            ap (λ (l : List ℕ). take (n - 1) l) eu
            ∙ stepped_steps bases tops caps us (n - 1) (omega (arith, s.puts_there)) (λ k h. R.tops_are k (omega arith))
            ∙ ap (λ (l : List ℕ). steps (of bases) (of caps) 0 l) s.at_puts
            ∙ sym (puts_on (of bases) (of caps) (of at) 0 (now_at taken) (aligned_now taken))

        gets_next : take (n - 1) gs' ≡ gets (of bases) (of caps) 0 (now_at (suc taken))
        unfolding ahead
        gets_next =
            ap (λ (l : List ℕ). take (n - 1) l) eg
            ∙ stepped_steps bases tops caps gs (n - 1) (omega (arith, s.gets_there)) (λ k h. R.tops_are k (omega arith))
            ∙ ap (λ (l : List ℕ). steps (of bases) (of caps) 0 l) s.at_gets
            ∙ sym (gets_on_lem (of bases) (of caps) (of at) 0 (now_at taken) (aligned_now taken))

        store_next : store' ≡ flow x (gets (of bases) (of caps) 0 (now_at taken)) (puts (of bases) (of caps) 0 (now_at taken)) store
        store_next = es ∙ ap₂ (λ (g u : List ℕ). flow x g u store) s.at_gets s.at_puts

        us_long : n ≤ length us'
        us_long = omega (arith, ap length eu, length_stepped bases tops (n - 1) us, s.puts_there)

        gs_long : n ≤ length gs'
        gs_long = omega (arith, ap length eg, length_stepped bases tops (n - 1) gs, s.gets_there)

        store_long : length store' ≡ length store₀
        store_long = ap length store_next ∙ length_flow x (gets (of bases) (of caps) 0 (now_at taken)) (puts (of bases) (of caps) 0 (now_at taken)) store ∙ s.store_length

        module _ (ex : x ≡ get_or lent taken 0) (fl : fired < iterations) (al : taken ≡ allowance → ⊥) (tl : taken < length lent) where
          some_left : allowance - taken ≡ suc (allowance - suc taken)
          some_left = omega (arith, s.allowed)

          waits_go : 0 < wait
              → call L write size lent (allowance - suc taken) (stand fired (now_at (suc taken)) store' out (suc taken) (suc taken) (fired - fired₀))
              ≡ call L write size lent allowance (stand fired₀ (take n passed) store₀ out₀ 0 0 0)
          unfolding ahead
          waits_go wl =
              let g = rw some_left at s.goes in
              rw (store_next, ex)
              (sym (waiting (allowance - suc taken) fired (now_at taken) store out taken (fired - fired₀) (length_now taken) (aligned_now taken) (here fl) fl tl
              (λ q. omega (arith, s.waits fl, first_now taken)))
              ∙ g)

          -- A clock without firing.
          pub gliding_waits : 0 < wait → Gliding us' gs' store' out fired (wait - 1) left (taken + 1) o
          gliding_waits wl = rw add-one record {
            begun = s.begun;
            made = s.made;
            allowed = omega (arith, s.allowed);
            fewer = omega (arith, s.fewer);
            had = omega arith;
            puts_there = us_long;
            gets_there = gs_long;
            at_puts = puts_next;
            at_gets = gets_next;
            inside = omega (arith, s.waits fl, walk_below fired fl);
            waits = λ h. omega (arith, s.waits h);
            lefts = s.lefts;
            outs = s.outs;
            room = s.room;
            store_length = store_long;
            out_length = s.out_length;
            goes = waits_go wl;
          }

          fires_go : wait ≤ 0 → size ≤ length out - o
              → call L write size lent (allowance - suc taken)
              (stand (suc fired) (now_at (suc taken)) store' (sets out o (write (flowed x (gets (of bases) (of caps) 0 (now_at taken)) (puts (of bases) (of caps) 0 (now_at taken)) store)))
              (suc taken) (suc taken) (suc (fired - fired₀)))
              ≡ call L write size lent allowance (stand fired₀ (take n passed) store₀ out₀ 0 0 0)
          unfolding ahead
          fires_go wl r =
              let g = rw some_left at s.goes in
              rw (store_next, ex, s.outs)
              (sym (firing (allowance - suc taken) fired (now_at taken) store out taken (fired - fired₀) (length_now taken) (aligned_now taken) (here fl) fl tl
              (omega (arith, s.waits fl, first_now taken)) (omega (arith, s.outs, s.room)))
              ∙ g)

          -- A firing, whose words went to the output from o on.
          module _ (out' : List ℕ) (wl : wait ≤ 0) (r : size ≤ length out - o) (eo : out' ≡ sets out o (write (passing (n - 1) x us gs store))) where
            fired_on : (w' l' : ℕ) → (suc fired < iterations → get_or passed 0 0 + suc taken + w' ≡ get_or at 0 0 + walk (suc fired)) → l' ≡ row - suc fired % row
                → Gliding us' gs' store' out' (suc fired) w' l' (suc taken) (o + size)
            fired_on w' l' ew el =
                let vs = flowed x (gets (of bases) (of caps) 0 (now_at taken)) (puts (of bases) (of caps) 0 (now_at taken)) store in
                let e₁ : out' ≡ sets out o (write vs) = eo ∙ ap₂ (λ (g u : List ℕ). sets out o (write (flowed x g u store))) s.at_gets s.at_puts in
                let le : length out' ≡ length out = ap length e₁ ∙ length-sets out o (write vs) in
                let sm : suc fired - fired₀ ≡ suc (fired - fired₀) = omega (arith, s.begun) in
                record {
                  begun = omega (arith, s.begun);
                  made = fl;
                  allowed = omega (arith, s.allowed);
                  fewer = omega (arith, s.fewer);
                  had = omega arith;
                  puts_there = us_long;
                  gets_there = gs_long;
                  at_puts = puts_next;
                  at_gets = gets_next;
                  inside = omega (arith, s.waits fl, walk_below fired fl);
                  waits = ew;
                  lefts = el;
                  outs = rw sm (omega (arith, s.outs, suc-mul (fired - fired₀) size));
                  room = omega (arith, le, s.room);
                  store_length = store_long;
                  out_length = le ∙ s.out_length;
                  goes = rw (sm, e₁) (fires_go wl r);
                }

            -- Within a row,
            pub gliding_fires : 0 < left - 1 → Gliding us' gs' store' out' (fired + 1) wait (left - 1) (taken + 1) (o + size)
            gliding_fires g =
                let m = mod-lt fired W.some in
                let h : suc (fired % row) < row = omega (arith, s.lefts) in
                rw (add-one, add-one)
                (fired_on wait (left - 1) (λ q. let k = W.on fired q h in omega (arith, s.waits fl)) (rw (row_goes row fired h) (omega (arith, s.lefts))))

            -- and at its end, where the wait is looked up.
            pub gliding_turns : (w' : ℕ) → left - 1 ≤ 0 → (fired + 1 < iterations → get_or passed 0 0 + (taken + 1) + w' ≡ get_or at 0 0 + walk (fired + 1))
                → Gliding us' gs' store' out' (fired + 1) w' row (taken + 1) (o + size)
            gliding_turns w' g ew =
                let m = mod-lt fired W.some in
                rw (add-one, add-one)
                (fired_on w' row (rw (add-one, add-one) at ew) (rw (row_ends row fired (omega (arith, s.lefts)), sub-zero)))

      -- The next iteration lies ahead.
      pub due_next : fired < iterations → wait ≤ 0 → fired + 1 < iterations → get_or passed 0 0 + (taken + 1) ≤ get_or at 0 0 + walk (fired + 1)
      due_next fl wl h = rw (add-one, add-one) (omega (arith, s.waits fl, walk_up fired (omega arith)))

      -- ---- the ways out

      back : fired₀ + (fired - fired₀) ≡ fired
      back = omega (arith, s.begun)

      pub ends_spent : fired < iterations → taken ≡ allowance
          → ended_at Spent (stand (fired₀ + (fired - fired₀)) (now_at taken) store out taken taken (fired - fired₀))
          ≡ call L write size lent allowance (stand fired₀ (take n passed) store₀ out₀ 0 0 0)
      ends_spent h e =
          rw back
          (sym (call_spent L write size lent (allowance - taken) (stand fired (now_at taken) store out taken taken (fired - fired₀)) (omega arith) (omega (arith, T.iterations_are))) ∙ s.goes)

      pub ends_starved : fired < iterations → (taken ≡ allowance → ⊥) → length lent ≤ taken
          → ended_at Starved (stand (fired₀ + (fired - fired₀)) (now_at taken) store out taken taken (fired - fired₀))
          ≡ call L write size lent allowance (stand fired₀ (take n passed) store₀ out₀ 0 0 0)
      ends_starved h e l =
          let a : allowance - taken ≡ suc (allowance - suc taken) = omega (arith, s.allowed) in
          rw back
          (sym (call_starved L write size lent (allowance - suc taken) (stand fired (now_at taken) store out taken taken (fired - fired₀)) (omega (arith, T.iterations_are)) l)
          ∙ (rw a at s.goes))

      pub ends_full : fired < iterations → (taken ≡ allowance → ⊥) → taken < length lent → wait ≤ 0 → length out - o < size
          → ended_at Full (stand (fired₀ + (fired - fired₀)) (now_at taken) store out taken taken (fired - fired₀))
          ≡ call L write size lent allowance (stand fired₀ (take n passed) store₀ out₀ 0 0 0)
      ends_full h e l w r =
          let a : allowance - taken ≡ suc (allowance - suc taken) = omega (arith, s.allowed) in
          rw back
          (sym (fulling (allowance - suc taken) fired (now_at taken) store out taken (fired - fired₀) (length_now taken) (aligned_now taken) (here h) h l
          (omega (arith, s.waits h, first_now taken)) (omega (arith, s.outs, s.room)))
          ∙ (rw a at s.goes))

      pub ends_done : iterations ≤ fired
          → ended_at Done (stand (fired₀ + (fired - fired₀)) (now_at taken) store out taken taken (fired - fired₀))
          ≡ call L write size lent allowance (stand fired₀ (take n passed) store₀ out₀ 0 0 0)
      ends_done h =
          rw back
          (sym (call_done L write size lent (allowance - taken) (stand fired (now_at taken) store out taken taken (fired - fired₀)) (omega (arith, T.iterations_are))) ∙ s.goes)
