-- Demand 3, in which clock an iteration fires: the proofs.
use Prim.Native.Nat.{ℕ, ◌<◌}
use mathlib.Core.Bool.{Bool}
use mathlib.Core.List.{List}
use mathlib.Core.Path.{◌≡◌, sym, ◌∙◌, ap}
use native.Mathlib.Omega.{arith}
use lib.ListN.{length}
use Rattle.model.specs.Grounds.Ground.{rectangle}
use Rattle.model.specs.Values.{Trimmed}
use Rattle.model.specs.Iterations.{iterations_of, clock_of}
use Rattle.model.specs.Sized.{Proper}
use Rattle.model_run.specs.Clock.{Counters, fires, fresh}
use Rattle.model_run.specs.Running.{layout}
use Rattle.model_run.specs.CallLists.{FiresIn}
use Rattle.grid_laws.proofs.ClockLaws.{newest_before, rectangle_clock}
use Rattle.grid_laws.proofs.SameWindows as windows
use Rattle.flow.specs.Machine.{Firing}
use Rattle.flow.specs.Pace.{clock_at}
use Rattle.flow.proofs.Laws.{live_yes}
use Rattle.flow.proofs.OneClock as layouts
use Rattle.demands.specs.Demand3.{ListOfCalls, events_of, Indexed, InItsClock, SameClocks, OnTime, NotEarlier, chain_in}
use Rattle.run_laws.specs.Accepted.{Accepted}
use Rattle.run_laws.proofs.Accepts.{fitting_of}
use Rattle.run_laws.proofs.Layouts.{lawful, clock_at_lem, right_flows, planned_right}
use Rattle.run_laws.proofs.Traces.{Traced, at}
use Rattle.demands.proofs.Finishing.{setting, reached, numbered}

module _ (t : Trimmed) (proper : Proper t) (ok : Accepted t) {es : List Bool} {s : Counters} (traced : Traced (layout t) (fresh (layout t)) es s) where
  -- The clock in which an iteration fires, by the counters, and the other way round.
  firing : (u j : ℕ) → FiresIn es u j → Firing (layout t) u j
  unfolding fresh
  firing u j f =
      let a = at (layout t) traced u f.made in
      record { now = a.now; ran = a.ran; live = a.live; fires = sym a.event ∙ f.fires; fired = omega (arith, a.fired, f.earlier) }

  fired_in : (u j : ℕ) → Firing (layout t) u j → u < length es → FiresIn es u j
  unfolding fresh
  fired_in u j x made =
      let a = at (layout t) traced u made in
      let same : a.now ≡ x.now = a.ran.state ∙ sym x.ran.state in
      record {
        made = made;
        fires = a.event ∙ ap (fires (layout t)) same ∙ x.fires;
        earlier = omega (arith, a.fired, ap (λ (s : Counters). s.fired) same, x.fired);
      }

  -- What fires is an iteration.
  left : (u j : ℕ) → FiresIn es u j → j < iterations_of t
  unfolding layout
  left u j f = let a = firing u j f in omega (arith, live_yes (layout t) a.now a.live, a.fired)

module _ (q : ListOfCalls) where
  pub indexed : Indexed q
  indexed j u f = left (chain_in q) (setting q).proper (setting q).accepted (reached q).traced u j f

  pub in_its_clock : InItsClock q
  unfolding layout
  in_its_clock =
      let t = chain_in q in
      let p = (setting q).proper in
      let ok = (setting q).accepted in
      let tr = (reached q).traced in
      let clock : (j u : ℕ) → FiresIn (events_of q) u j → u ≡ clock_of t j
      = λ j u f. layouts.in_its_clock (layout t) (lawful t p ok) u j (firing t p ok tr u j f) ∙ sym (clock_at_lem t p ok j (indexed j u f)) in
      record {
        clock = clock;
        fired = λ right j h. (
          λ f. omega (arith, clock j f.0 f.1, f.1.made, (numbered q).clocks),
          λ due.
              let c = clock_at (layout t) j in
              let made : c < length (events_of q) = omega (arith, (numbered q).clocks, clock_at_lem t p ok j h) in
              let a = at (layout t) tr c made in
              (c, fired_in t p ok tr c j (layouts.fires_then (layout t) (lawful t p ok) (right_flows t p ok right).before j h a.ran a.live) made),
        );
        newest = rectangle_clock t (fitting_of t p ok);
      }

  -- On a rectangle an iteration's clock is its newest cell's position.
  pub on_time : (sizes : List ℕ) (is : (chain_in q).the_ground ≡ rectangle sizes) → OnTime q sizes is
  on_time sizes is =
      let right = planned_right (chain_in q) (setting q).proper (setting q).accepted in
      record {
        fired = λ planned j h.
            let e = in_its_clock.newest sizes is j h in
            let f = in_its_clock.fired (right planned) j h in
            (λ x. omega (arith, f.0 x), λ due. f.1 (omega arith));
        clock = λ planned j u f. in_its_clock.clock j u f ∙ in_its_clock.newest sizes is j (indexed j u f);
      }

pub same_clocks : (p q : ListOfCalls) → SameClocks p q
same_clocks p q same = windows.same_clocks (chain_in p) (chain_in q) same.the_ground same.each same.no_other same.part

-- The other's clock is the planned chain's, and not before the newest cell's position.
pub not_earlier : (p q : ListOfCalls) → NotEarlier p q
not_earlier p q = record {
  same_count = λ same. windows.same_count t u same.the_ground same.each same.no_other same.part;
  same_iteration = λ same. windows.same_iteration t u same.the_ground same.each same.no_other same.part;
  newest_first = λ same j v g.
      omega (arith, newest_before t (fitting_of t (setting p).proper (setting p).accepted) j, same_clocks p q same j, (in_its_clock q).clock j v g);
  planned_first = λ same planned j a b f g. omega (arith, (in_its_clock p).clock j a f, same_clocks p q same j, (in_its_clock q).clock j b g);
  same_clock = λ same planned j v g made.
      let e : v ≡ clock_of t j = (in_its_clock q).clock j v g ∙ sym (same_clocks p q same j) in
      let right = planned_right t (setting p).proper (setting p).accepted planned in
      let h = indexed q j v g in
      let (a, f) = ((in_its_clock p).fired right j (omega (arith, windows.same_count t u same.the_ground same.each same.no_other same.part))).1 (omega arith) in
      let d : a ≡ v = (in_its_clock p).clock j a f ∙ sym e in
      rw d at f;
}
  where
    t : Trimmed
    t = chain_in p

    u : Trimmed
    u = chain_in q
