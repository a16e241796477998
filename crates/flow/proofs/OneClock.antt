-- Every chain fires an iteration in its clock or never, whatever its capacities and whatever it is lent; where no condition fails, it fires it once that clock is made.
use Prim.Native.Nat.{ℕ, zero, suc, ◌+◌, ◌-◌, ◌≤◌, ◌<◌}
use mathlib.Core.Bool.{true}
use mathlib.Core.Path.{◌≡◌, ◌∙◌, ap}
use native.Mathlib.Omega.{arith}
use native.Mathlib.Decide.{dec_lt, le_ind}
use Rattle.model.specs.Lists.{tabulate}
use Rattle.model_run.specs.Clock.{Layout, Counters, next, fresh}
use Rattle.grid_laws.proofs.ListLaws.{length_tabulate, get_d_tabulate, greatest_above, greatest_stands}
use Rattle.flow.specs.Machine.{live, Ran, Firing, Lawful, Flows, Invariant, Fires, past}
use Rattle.flow.specs.Pace.{clock_at, since}
use Rattle.flow.proofs.Tests.{live_yes, fires_yes, yes_fires, by_next}
use Rattle.flow.proofs.Runs.{along}
use Rattle.flow.proofs.Invariant.{fresh_invariant, next_invariant}
use Rattle.flow.proofs.Progress.{fires_flows}
use Rattle.flow.proofs.Pace.{Low, High, Was, low_fresh, low_turns, low_fires, low_ready, high_fresh, high_turns, high_fires, high_ready}

module _ (L : Layout) where
  open L use {wants, filters, cells, iterations}

  way : (f k : ℕ) → ℕ
  way f k = wants (suc f) k - wants f k

  -- No filter has further to go than there are clocks up to the iteration's, and one has as far.
  pub furthest_most : (f k : ℕ) → k < filters → since L f + wants f k ≤ clock_at L f + past L f k
  unfolding clock_at way
  furthest_most zero k filter =
      let g = rw (get_d_tabulate filters (λ k. wants 0 k) k 0 filter) at (greatest_above (tabulate filters (λ k. wants 0 k)) k 0 (rw length_tabulate filter)) in
      omega (arith, g)
  furthest_most (suc f) k filter =
      let g = rw (get_d_tabulate filters (way f) k 0 filter) at (greatest_above (tabulate filters (way f)) k 0 (rw length_tabulate filter)) in
      omega (arith, g)

  module _ (lawful : Lawful L) where
    pub furthest_stands : (f : ℕ) → f < iterations → (k : ℕ) × (k < filters) × (since L f + wants f k ≡ clock_at L f + past L f k)
    unfolding clock_at way
    furthest_stands zero left =
        let (k, b, e) = greatest_stands (tabulate filters (λ k. wants 0 k)) 0 (rw length_tabulate lawful.some) in
        let c = rw length_tabulate at b in
        (k, c, omega (arith, e, get_d_tabulate filters (λ k. wants 0 k) k 0 c))
    furthest_stands (suc f) left =
        let (k, b, e) = greatest_stands (tabulate filters (way f)) 0 (rw length_tabulate lawful.some) in
        let c = rw length_tabulate at b in
        (k, c, omega (arith, e, get_d_tabulate filters (way f) k 0 c, lawful.rises f k (omega arith) c))

    -- Filter 0 wants a cell that is there.
    there : (f : ℕ) → f < iterations → wants f 0 < cells
    there f left = omega (arith, lawful.rises f 0 left lawful.some, lawful.within (suc f) 0 left lawful.some)

    -- Clocks rise.
    pub rising : (f : ℕ) → f < iterations → clock_at L f < clock_at L (suc f)
    rising f left = omega (arith, furthest_most (suc f) 0 lawful.some, lawful.rises f 0 left lawful.some)

    pub clocks_climb : (i j : ℕ) → i ≤ j → j ≤ iterations → clock_at L i ≤ clock_at L j
    clocks_climb i j h = le_ind (λ m. m ≤ iterations → clock_at L i ≤ clock_at L m) (λ _. omega arith)
        (λ m _ before most. omega (arith, before (omega arith), rising m (omega arith))) j h

    -- What holds before clock u: an iteration whose condition holds is not overdue.
    record Paced (u : ℕ) (s : Counters) : Type 0 where
      from : since L s.fired ≤ u
      was : Was L s.fired
      low : Low L s.fired (since L s.fired) u 0 s.passed
      due : Flows L s.fired → u ≤ clock_at L s.fired
      high : Flows L s.fired → High L s.fired (since L s.fired) u 0 s.passed

    module _ (u : ℕ) (s : Counters) (inv : Invariant L s) (left : s.fired < iterations) (paced : Paced u s) where
      -- A firing comes no earlier than its clock, and one that is due comes.
      fires_late : Fires L s → clock_at L s.fired ≤ u
      fires_late ready =
          let (k, filter, e) = furthest_stands s.fired left in
          omega (arith, e, low_ready L s.fired (since L s.fired) u 0 cells s.passed inv.all paced.low ready k (omega arith) filter)

      due_fires : Flows L s.fired → clock_at L s.fired ≤ u → Fires L s
      due_fires flows late =
          high_ready L s.fired (since L s.fired) u cells s.passed flows inv.all (λ k filter. omega (arith, furthest_most s.fired k filter)) (there s.fired left) (paced.high flows)

      paced_next : Paced (suc u) (next L s)
      paced_next = by_next L (Paced (suc u)) s
          (λ ready.
          let flows = fires_flows L s inv ready in
          let late = fires_late ready in
          let on_time = paced.due flows in
          record {
            from = omega arith;
            was = flows;
            low = low_fires L s.fired (suc (clock_at L s.fired)) u 0 cells s.passed ready (omega arith);
            due = λ _. omega (arith, rising s.fired left);
            high = λ _. high_fires L s.fired (suc (clock_at L s.fired)) u 0 cells s.passed ready (omega arith);
          })
          (λ unready. record {
            from = omega (arith, paced.from);
            was = paced.was;
            low = low_turns L s.fired (since L s.fired) u 0 cells s.passed paced.low;
            due = λ flows. not_yet flows unready (dec_lt u (clock_at L s.fired));
            high = λ flows. high_turns L s.fired (since L s.fired) u cells s.passed paced.was flows inv.all (there s.fired left) (paced.high flows);
          })
        where
          not_yet : Flows L s.fired → ¬ Fires L s → Dec (u < clock_at L s.fired) → suc u ≤ clock_at L s.fired
          not_yet flows unready (yes h) = h
          not_yet flows unready (no h) = absurd (unready (due_fires flows (omega arith)))

    fresh_paced : Paced 0 (fresh L)
    unfolding fresh
    fresh_paced = record { from = omega arith; was = tt; low = low_fresh L 0 filters; due = λ _. omega arith; high = λ _. high_fresh L 0 filters }

    ran_paced : {u : ℕ} {s : Counters} → Ran L (fresh L) u s → Invariant L s × Paced u s
    ran_paced = along L (λ u s. Invariant L s × Paced u s) (fresh_invariant L, fresh_paced)
        (λ u s r alive h. let left = (live_yes L s alive).0 in (next_invariant L lawful s left h.0, paced_next u s h.0 left h.1))

    -- Every firing comes in its iteration's clock.
    pub in_its_clock : (u j : ℕ) → Firing L u j → u ≡ clock_at L j
    in_its_clock u j x =
        let s = x.now in
        let (inv, paced) = ran_paced x.ran in
        let ready = fires_yes L s x.fires in
        let left = (live_yes L s x.live).0 in
        let here : u ≡ clock_at L s.fired = omega (arith, fires_late u s inv left paced ready, paced.due (fires_flows L s inv ready)) in
        here ∙ ap (clock_at L) x.fired

    -- Where no condition fails, that clock fires it.
    pub fires_then : ((f : ℕ) → f < iterations → Flows L f) → (j : ℕ) → j < iterations → {s : Counters} → Ran L (fresh L) (clock_at L j) s → live L s ≡ true → Firing L (clock_at L j) j
    fires_then all j h {s} ran alive =
        let (inv, paced) = ran_paced ran in
        let left = (live_yes L s alive).0 in
        let flows = all s.fired left in
        let count = meets s.fired left paced.from (paced.due flows) in
        record {
          now = s;
          ran = ran;
          live = alive;
          fires = yes_fires L s (due_fires (clock_at L j) s inv left paced flows (omega (arith, ap (clock_at L) count)));
          fired = count;
        }
      where
        meets : (f : ℕ) → f < iterations → since L f ≤ clock_at L j → clock_at L j ≤ clock_at L f → f ≡ j
        meets f left from to = go f (dec_lt f j) (dec_lt j f) left from to
          where
            go : (f : ℕ) → Dec (f < j) → Dec (j < f) → f < iterations → since L f ≤ clock_at L j → clock_at L j ≤ clock_at L f → f ≡ j
            go f (yes d) e left from to = absurd (let z : ⊥ = omega (arith, rising f left, clocks_climb (suc f) j d (omega arith)) in z)
            go f (no d) (no e) left from to = omega arith
            go zero (no d) (yes e) left from to = omega arith
            go (suc g) (no d) (yes e) left from to = absurd (let z : ⊥ = omega (arith, clocks_climb j g (omega arith) (omega arith)) in z)
