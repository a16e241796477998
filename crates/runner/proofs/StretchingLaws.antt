-- The clocks of a stretch: what their parts are handed, and what their two ways out leave.
use Prim.Native.Nat.{ℕ, zero, suc, ◌+◌, ◌-◌, ◌*◌, ◌≤◌, ◌<◌}
use mathlib.Core.List.{List, [], ◌∷◌}
use mathlib.Core.Path.{◌≡◌, refl, sym, ◌∙◌, ap, subst}
use native.Mathlib.Nat.{zero-add, add-zero, zero-mul}
use native.Mathlib.Numerals.{add-one}
use native.Mathlib.Omega.{arith}
use lib.ListN.{length, get_or, take, drop, length-drop}
use lib.Seq.{get_or-take, length-take-le}
use types.Run.{OneOf}
use denote.Enum.Declared.{tag_of}
use Rattle.model_run.specs.Kernels.{width}
use Rattle.model_run.specs.Clock.{Layout}
use Rattle.model_run.specs.Running.{Spent, Starved, Stalled, Standing, Ended}
use Rattle.model.specs.declared.Kernel.{Kernel}
use Rattle.flow.specs.Machine.{Holds, Invariant}
use Rattle.loop_laws.specs.Passes.{of, Aligned}
use Rattle.loop_laws.specs.Standings.{counting, stand, ended_at}
use Rattle.loop_laws.specs.LoopTables.{walked, Tables}
use Rattle.loop_laws.proofs.StoredLaws.{holds_below}
use Rattle.loop_laws.proofs.CallLaws.{Roomy, call_room, ended_later, call_later}
use Rattle.run_fill.specs.Fills.{stop_of, FillsTo}
use Rattle.run_fill.specs.declared.Stop.{Stop}
use Rattle.run_fill.specs.declared.Stop.TheVariants as stop
use Rattle.run_fill.specs.declared.Filled.{Filled}
use Rattle.run_fill.specs.contracts.Stop.{the_type}
use Rattle.run_glide.specs.Glides.{Glides, GlidesTo, calls, way_of}
use Rattle.run_glide.specs.declared.Way.{Way}
use Rattle.run_glide.specs.declared.Way.TheVariants as way
use Rattle.run_glide.specs.declared.Slid.{Slid}
use Rattle.run_glide.proofs.FireLaws.{part_all, never_zero}
use Rattle.run_glide.proofs.RingLaws.{caps_at, ringed_puts, ringed_gets}
use Rattle.runner.specs.Loops.{Advanced}
use Rattle.runner.specs.Stretching.{Stretching, ending_of, stop_end, way_end, StretchedTo}
use Rattle.runner.specs.declared.End.{End}
use Rattle.runner.proofs.TableLaws.{advanced_ahead, advanced_rest}

-- No filter is before filter 0.
holds_first : (L : Layout) (f k source i : ℕ) (ps : List ℕ) → Holds L f k source ps → get_or ps i 0 ≤ get_or ps 0 0
holds_first L f k source i [] h = omega arith
holds_first L f k source zero (p ∷ ps) h = omega arith
holds_first L f k source (suc i) (p ∷ ps) h = holds_below L f (suc k) p i ps h.1

-- Counters that stand as far apart as the tables say.
aligned_from : (L : Layout) (cap : ℕ → ℕ) (at : List ℕ) (f k source n : ℕ) (ps : List ℕ) → k + length ps ≤ n → ((i : ℕ) → suc i < n → cap i ≡ L.capacity i)
    → ((i : ℕ) → suc i < length ps → (get_or ps (suc i) 0 < get_or ps i 0) × (get_or ps i 0 + get_or at (suc (k + i)) 0 ≡ get_or ps (suc i) 0 + get_or at (k + i) 0))
    → Holds L f k source ps → Aligned (of at) cap k ps
aligned_from L cap at f k source n [] l e g h = tt
aligned_from L cap at f k source n (p ∷ []) l e g h = tt
aligned_from L cap at f k source n (p ∷ q ∷ qs) l e g h =
    let z : k + 0 ≡ k = omega arith in
    let x = rw z at (g 0 (omega arith)) in (
      x.0,
      omega (arith, h.0.fits, e k (omega arith)),
      x.1,
      aligned_from L cap at f (suc k) p n (q ∷ qs) (omega arith) e (λ j b. let y : k + suc j ≡ suc k + j = omega arith in rw y at (g (suc j) (omega arith))) h.1,
    )

-- The firings' words had room in the output.
room_there : (L : Layout) (write : List ℕ → List ℕ) (size n fired f : ℕ) (passed store lent out : List ℕ) (allowance : ℕ) (e : Ended) → e ≡ calls L write size n fired passed store lent out allowance
    → e.standing.done.firings ≡ f → f * size ≤ length out
room_there L write size n fired f passed store lent out allowance e h g =
    let r = subst (Roomy L write size lent (stand fired (take n passed) store out 0 0 0)) (sym h) (call_room L write size lent allowance (stand fired (take n passed) store out 0 0 0)) in
    rw (← g) (r.room (omega (arith, zero-mul size)))

-- Clocks that stopped before the filters were aligned.
stops : (s : Stop) → OneOf (1 ∷ 2 ∷ 3 ∷ []) (tag_of the_type s) → (rest e : Ended) (x : Standing) → stop_of s rest (ended_at Spent x) (ended_at Starved x) (ended_at Stalled x) ≡ e → ended_at (ending_of (stop_end s)) x ≡ e
stops stop.Aligned o rest e x h = absurd (never_zero o)
stops stop.Spent o rest e x h = h
stops stop.Starved o rest e x h = h
stops stop.Stalled o rest e x h = h

way_ends : (w : Way) → ending_of (way_end w) ≡ way_of w
way_ends way.Done = refl
way_ends way.Spent = refl
way_ends way.Starved = refl
way_ends way.Full = refl

module _ (L : Layout) (write : List ℕ → List ℕ) (kernel : Kernel) (ts : List ℕ) (n row iterations cells centre fired dims : ℕ) (at wants caps bases tops spans strides passed store : List ℕ)
    (H : Stretching L write kernel ts n row iterations cells centre fired dims at wants caps bases tops spans strides passed store) where
  abbrev size : ℕ
  size = width kernel n

  T : Tables L (walked spans strides dims 0) n cells iterations at caps bases
  T = H.handed.tables

  pub few : n ≤ 32
  few = T.few

  counters_small : (ps : List ℕ) → Invariant L (counting fired (take n ps)) → (k : ℕ) → k < n → get_or ps k 0 ≤ cells
  counters_small ps i k h = omega (arith, get_or-take n ps k 0 h, holds_below L fired 0 L.cells k (take n ps) i.all, T.cells_are)

  module _ (lent out : List ℕ) (allowance : ℕ) (r : Filled) (passed' us gs store' : List ℕ) (F : FillsTo r.how r.taken r.clocks L n fired at caps bases passed passed' us gs store store' lent allowance) where
    pub stretched_stopped : OneOf (1 ∷ 2 ∷ 3 ∷ []) (tag_of the_type r.how) → (x : End) → x ≡ stop_end r.how
        → StretchedTo (record { end = x; taken = r.taken; clocks = r.clocks; firings = 0 }) L write size n iterations fired passed passed' store store' out out lent allowance
    stretched_stopped o x e = rw e record {
      ends = rw add-zero (stops r.how o _ _ _ (F.resumes write size out));
      there = F.there;
      rest = F.rest;
      small = λ k h. omega (arith, counters_small passed' F.holds k h, T.most);
      had = F.had;
      allowed = F.allowed;
      taken_fewer = F.fewer;
      firings_fewer = omega arith;
      most = omega (arith, H.handed.more);
      room = omega (arith, zero-mul size);
    }

    -- The filters are aligned.
    module _ (e : r.how ≡ stop.Aligned) where
      long : length (take n passed') ≡ n
      long = length-take-le n passed' (omega (arith, F.there, T.few))

      aligned_there : Aligned (of at) (of caps) 0 (take n passed')
      aligned_there =
          aligned_from L (of caps) at fired 0 L.cells n (take n passed') (omega (arith, long)) T.places.caps_are
          (λ i h. let x = rw add-one at (F.lines e i (omega (arith, long))) in
          rw (zero-add, get_or-take n passed' i 0 (omega (arith, long)), get_or-take n passed' (suc i) 0 (omega (arith, long))) x)
          F.holds.all

      caps_there : (k : ℕ) → suc k < n → 0 < get_or caps k 0
      caps_there k h = rw zero-add at (caps_at (of at) (of caps) 0 k (take n passed') (omega (arith, long)) aligned_there)

      pub may_glide : length store' ≡ length store → Glides L write kernel ts n row iterations cells centre size fired dims at wants caps bases tops spans strides passed' us gs store'
      may_glide l = record {
        tables = T;
        stands = record { there = F.there; within = λ k h. omega (arith, H.handed.stands.within k h); holds = F.holds };
        more = H.handed.more;
        most = H.most;
        wanted = H.handed.wants_are 0 T.some ∙ T.reads fired 0 H.handed.more T.some;
        rings = record {
          tops_are = H.handed.tops_are;
          aligned = aligned_there;
          puts_there = omega (arith, F.puts_there, T.few);
          gets_there = omega (arith, F.gets_there, T.few);
          at_puts = ringed_puts n bases caps passed' us gs T.some T.few (omega (arith, F.there, T.few)) F.puts_there caps_there F.rings;
          at_gets = ringed_gets n bases caps passed' us gs T.some T.few (omega (arith, F.there, T.few)) F.gets_there caps_there F.rings;
        };
        rows = H.rows;
        walks = H.walks;
        writes_are = H.writes_are;
      }

      module _ (s : Slid) (store'' out'' : List ℕ)
          (G : GlidesTo s L write size n iterations cells fired passed' store' store'' out out'' (take (length lent - r.taken) (drop r.taken lent)) (allowance - r.clocks)) where
        slid_small : (k : ℕ) → k < n → get_or passed' k 0 + s.clocks ≤ 1048576
        slid_small k h =
            omega (
              arith,
              G.inside,
              T.most,
              holds_first L fired 0 L.cells k (take n passed') F.holds.all,
              get_or-take n passed' k 0 h,
              get_or-take n passed' 0 0 T.some,
            )

        pub slid_fits : (k : ℕ) → k < n → get_or passed' k 0 + s.clocks < 18446744073709551616
        slid_fits k h = omega (arith, slid_small k h)

        pub stretched_slid : (passed'' : List ℕ) (x : End) → x ≡ way_end s.how → Advanced n s.clocks passed' passed''
            → StretchedTo (record { end = x; taken = r.taken + s.clocks; clocks = r.clocks + s.clocks; firings = s.firings }) L write size n iterations fired passed passed'' store store'' out out'' lent allowance
        stretched_slid passed'' x d a = record {
          ends = whole;
          there = a.there;
          rest = advanced_rest n s.clocks passed' passed'' F.there a ∙ F.rest;
          small = λ k h. omega (arith, a.on k h, slid_small k h);
          had = omega (arith, G.had, ap length (part_all lent r.taken), length-drop r.taken lent, F.had);
          allowed = omega (arith, G.allowed, F.allowed);
          taken_fewer = omega (arith, F.fewer);
          firings_fewer = omega (arith, G.fewer);
          most = G.most;
          room = room_there L write size n fired s.firings passed store lent out allowance _ whole refl;
        }
          where
            whole : ended_at (ending_of x) (stand (fired + s.firings) (take n passed'') store'' out'' (r.taken + s.clocks) (r.clocks + s.clocks) s.firings) ≡ calls L write size n fired passed store lent out allowance
            whole =
                let es = rw part_all at G.ends in
                let cl = rw (add-zero r.taken, add-zero r.clocks) at
                (call_later L write size lent [] r.taken r.clocks 0 F.had (sym (zero-mul size)) (allowance - r.clocks) (stand fired (take n passed') store' out 0 0 0)) in
                let re = rw e at (F.resumes write size out) in
                let slid = rw (zero-add s.firings) at (ap (λ (z : Ended). ended_later r.taken r.clocks 0 [] z) es) in
                rw (d, way_ends s.how, advanced_ahead n s.clocks passed' passed'' T.few F.there a) (slid ∙ sym cl ∙ re)
