-- What 10 and 11 leave: a store that is long enough, and counters with the invariant of the clocks.
use Prim.Native.Nat.{ℕ, zero, suc, ◌-◌, ◌≤◌, ◌<◌}
use mathlib.Core.Bool.{Bool, false}
use mathlib.Core.List.{List, [], ◌∷◌}
use mathlib.Core.Path.{◌≡◌, refl, sym, ◌∙◌, ap}
use native.Mathlib.Omega.{arith}
use lib.Dec.{ltb}
use lib.ListN.{length, get_or, take}
use Rattle.model.specs.Values.{Trimmed}
use Rattle.model_run.specs.Clock.{Layout, Counters}
use Rattle.model_run.specs.Store.{first_place}
use Rattle.model_run.specs.Running.{layout, counters_of, short_store, bad_state}
use Rattle.model.specs.declared.State.{State}
use Rattle.grid_laws.proofs.ListLaws.{length_tabulate}
use Rattle.flow.specs.Machine.{Holds, Invariant}
use Rattle.model.specs.Sized.{Proper}
use Rattle.run_laws.specs.Accepted.{Accepted}
use Rattle.run_laws.proofs.Guard.{good_invariant}
use Rattle.run_laws.proofs.Layouts.{all_places}
use Rattle.run_prepare.specs.Prepared.{number_at, blank, Filled, Counted, Capped, counter_at, Laid, TakenUp}
use Rattle.run_prepare.proofs.PrepareFills.{filled_as, filled_list}
use Rattle.run_prepare.proofs.PreparePlaces.{same_places}
use Rattle.run_prepare.proofs.PrepareWants.{few_filters}

-- The capacities in an array.
module _ {t : Trimmed} {n : ℕ} {caps : List ℕ} (capped : Capped t n caps) where
  pub capacity_is : (k : ℕ) → suc k < n → (layout t).capacity k ≡ number_at caps k
  unfolding layout
  capacity_is k h = sym (capped.capacities_are k h)

  pub places_are : (k : ℕ) → k < n → first_place (number_at caps) k ≡ first_place (layout t).capacity k
  places_are k h = same_places k (number_at caps) (layout t).capacity (λ i g. sym (capacity_is i (omega arith)))

  pub bases_are : (old bases : List ℕ) → Filled old (first_place (number_at caps)) (n - 1) bases → Filled old (first_place (layout t).capacity) (n - 1) bases
  bases_are old bases r = filled_as refl (λ k h. places_are k (omega arith)) r

  module _ (proper : Proper t) (ok : Accepted t) (store : List ℕ) where
    -- 10, by the number of places.
    pub short_is : (places : ℕ) → places ≡ first_place (number_at caps) (n - 1) → ltb (length store) places ≡ short_store t store
    unfolding short_store
    short_is places e =
        let last : n - 1 ≡ t.count - 1 = omega arith in
        ap (ltb (length store)) (e ∙ places_are (n - 1) (omega (arith, ok.some)) ∙ ap (first_place (layout t).capacity) last ∙ all_places t proper ok)

-- The layout that 11 looks at.
pub laid : {t : Trimmed} {n cells iterations : ℕ} {caps : List ℕ} → Counted t n cells iterations → Capped t n caps
    → (fired : ℕ) (old wants old' last : List ℕ) → Filled old (λ k. (layout t).wants fired k) n wants → Filled old' (λ k. (layout t).wants (fired - 1) k) n last
    → Laid (layout t) n cells iterations fired caps wants last
unfolding layout
laid {t} counted capped fired old wants old' last r q = record {
  cells_are = counted.cells_are;
  iterations_are = counted.iterations_are;
  capacity_is = λ k h. sym (capped.capacities_are k h);
  wanted = λ k h. sym (r.done k h);
  fired_last = λ f k e h. let before : f ≡ fired - 1 = omega arith in ap (λ (j : ℕ). (layout t).wants j k) before ∙ sym (q.done k h);
}

-- The counters of a state from its array.
pub counters_are : (n : ℕ) (s : State) (old xs : List ℕ) → n ≤ length old → Filled old (counter_at s.passed) n xs
    → ◌≡◌ {A = Counters} (record { fired = s.fired.0; passed = take n xs }) (counters_of n s)
unfolding counters_of
counters_are n s old xs h r = λ i. record { fired = s.fired.0; passed = filled_list old (counter_at s.passed) n xs h r i }

-- A state that 11 does not turn back has the invariant of the clocks.
pub good_counters : (t : Trimmed) (s : State) → bad_state (layout t) (counters_of t.count s) ≡ false → Invariant (layout t) (counters_of t.count s)
unfolding layout counters_of
good_counters t s e = good_invariant (layout t) (counters_of t.count s) (length_tabulate t.count _) e

-- No counter is above the cell count.
pub within_cells : (L : Layout) (s : Counters) → Invariant L s → (k : ℕ) → k < length s.passed → get_or s.passed k 0 ≤ L.cells
within_cells L s inv = go s.fired 0 L.cells s.passed (omega arith) inv.all
  where
    go : (f k source : ℕ) (ps : List ℕ) → source ≤ L.cells → Holds L f k source ps → (i : ℕ) → i < length ps → get_or ps i 0 ≤ L.cells
    go f k source [] h held i l = absurd (omega arith)
    go f k source (p ∷ ps) h held zero l = omega (arith, held.0.sourced)
    go f k source (p ∷ ps) h held (suc i) l = go f (suc k) p ps (omega (arith, held.0.sourced)) held.1 i (omega arith)

-- What the call that takes up a state has found.
pub taken_up : {t : Trimmed} {n cells iterations : ℕ} {caps : List ℕ} → Counted t n cells iterations → Capped t n caps
    → (s : State) (fired j : ℕ) (bad : Bool) (passed wants old last : List ℕ) → fired ≡ s.fired.0 → j ≡ fired - 1
    → Filled blank (counter_at s.passed) n passed → Filled blank (λ k. (layout t).wants fired k) n wants → Filled old (λ k. (layout t).wants j k) n last
    → ((L : Layout) → Laid L n cells iterations fired caps wants last → bad ≡ bad_state L (record { fired = fired; passed = take n passed }))
    → TakenUp t s n bad passed wants
taken_up {t} {n = n} counted capped s fired j bad passed wants old last e b p w l h = record {
  bad_is =
      h (layout t) (laid counted capped fired blank wants old last w (filled_as refl (λ k g. ap (λ (i : ℕ). (layout t).wants i k) b) l))
      ∙ ap (λ (f : ℕ). bad_state (layout t) (record { fired = f; passed = take n passed })) e
      ∙ ap (bad_state (layout t)) (counters_are n s blank passed (omega (arith, few_filters counted)) p);
  passed_are = p;
  wants_are = filled_as refl (λ k g. ap (λ (f : ℕ). (layout t).wants f k) e) w;
}
