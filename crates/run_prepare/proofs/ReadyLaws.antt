-- The verdict on a run call, and its tables: what each of the checks in their order leaves.
use Prim.Native.Nat.{ℕ, zero, suc, ◌+◌, ◌-◌, ◌*◌, ◌≤◌, ◌<◌}
use mathlib.Core.Bool.{Bool, true, false}
use mathlib.Core.List.{List, [], ◌∷◌}
use mathlib.Core.Path.{◌≡◌, refl, sym, ◌∙◌, ap, subst}
use native.Mathlib.Nat.{mul-le-mul_right}
use native.Mathlib.Omega.{arith}
use lib.ListN.{length, take, drop}
use borrow.Author.Tests.{ltb-false}
use Rattle.model.specs.Lists.{sum, product}
use Rattle.model.specs.Values.{sizes_of, ground_of, dims_of, trimmed, set_grid}
use Rattle.model.specs.Iterations.{iterations_of, extents_of}
use Rattle.model.specs.Answers.{first_of}
use Rattle.model.specs.Judging.{bad_grid, bad_count, value_checks, judged, judge_chain}
use Rattle.model_run.specs.Store.{first_place}
use Rattle.model_run.specs.Clock.{Counters}
use Rattle.model_run.specs.Running.{layout, counters_of, short_store, bad_state, judge_run}
use Rattle.model.specs.declared.Chain.{Chain}
use Rattle.model.specs.declared.State.{State}
use Rattle.model.specs.declared.Refusal.{Refusal}
use Rattle.model.specs.declared.Refusal.TheVariants as refusal
use Rattle.std.specs.Prelude.{Result, Ok, Err}
use Rattle.grid_laws.proofs.ListLaws.{tabulate_back}
use Rattle.grid_laws.proofs.Iterations.{at_most_cells, iterations_product, extents_count}
use Rattle.flow.specs.Machine.{Invariant}
use Rattle.grid_laws.proofs.CheckLaws.{then_checks, value_passes}
use Rattle.run_laws.specs.Accepted.{Accepted}
use Rattle.run_laws.proofs.Accepts.{first_append}
use Rattle.geometry.specs.Parts.{part, Small}
use Rattle.windows.specs.Windows.{centre_in}
use Rattle.geometry.proofs.PartLaws.{part_none, part_all, part_shift, part_same}
use Rattle.shape.proofs.Answers.{centre_is}
use Rattle.loop_laws.specs.Standings.{counting}
use Rattle.run_prepare.specs.Prepared.{number_at, blank, Filled, Shaped, Capped, TakenUp}
use Rattle.run_prepare.specs.Ready.{flattened, Prepared, Begins, Stored, Taken, Begun, Readied}
use Rattle.run_prepare.specs.declared.Ready.{Ready}
use Rattle.run_prepare.proofs.GridLaws.{good_grid}
use Rattle.run_prepare.proofs.PrepareGuards.{bases_are, counters_are, good_counters}

module _ (c : Chain) (rows : List ℕ) (s : State) (store : List ℕ) where
  -- 3 to 9 and 14 to 16.
  pub judged_refused : (x : Refusal) → judge_chain c rows ≡ Err x → judge_run (trimmed c rows) s store ≡ Err x
  unfolding judge_chain judged judge_run
  judged_refused x e = then_checks (value_checks (trimmed c rows)) _ ∙ rw e

  module _ (ok : Accepted (trimmed c rows)) where
    -- 10.
    pub judged_short : short_store (trimmed c rows) store ≡ true → judge_run (trimmed c rows) s store ≡ Err refusal.ShortStore
    unfolding judge_run first_of
    judged_short e = first_append (value_checks (trimmed c rows)) _ ok.checks ∙ rw e

    module _ (long : short_store (trimmed c rows) store ≡ false) where
      -- 11.
      pub judged_bad : bad_state (layout (trimmed c rows)) (counters_of c.window.count s) ≡ true → judge_run (trimmed c rows) s store ≡ Err refusal.BadState
      unfolding judge_run first_of trimmed
      judged_bad e = first_append (value_checks (trimmed c rows)) _ ok.checks ∙ rw (long, e)

      pub judged_fine : bad_state (layout (trimmed c rows)) (counters_of c.window.count s) ≡ false → judge_run (trimmed c rows) s store ≡ Ok tt
      unfolding judge_run first_of trimmed
      judged_fine good = first_append (value_checks (trimmed c rows)) _ ok.checks ∙ rw (long, good)

-- The places and a store that 10 does not turn back.
pub stored : (c : Chain) (rows caps bases tops store : List ℕ) → Accepted (trimmed c rows) → Capped (trimmed c rows) c.window.count caps → ((k : ℕ) → number_at caps k < 4294967296)
    → Filled blank (first_place (number_at caps)) (c.window.count - 1) bases
    → Filled blank (λ k. first_place (number_at caps) k + number_at caps k) (c.window.count - 1) tops
    → short_store (trimmed c rows) store ≡ false → Stored c rows caps bases tops store
unfolding layout
stored c rows caps bases tops store ok capped small b t long = record {
  capable = record { accepted = ok; capped = capped; small = small };
  bases_are = λ k h. (bases_are capped blank bases b).done k (omega arith);
  tops_are = λ k h. t.done k (omega arith) ∙ ap (λ (x : ℕ). x + number_at caps k) (sym (b.done k (omega arith)));
  long = long;
}

-- A state that 11 does not turn back.
pub taken : (c : Chain) (s : State) (cells iterations : ℕ) (es ss at caps bases tops store passed wants : List ℕ) (bad : Bool) → Stored (flattened c) [] caps bases tops store
    → Shaped (trimmed (flattened c) []) c.grid.dims c.window.count cells iterations es ss at → length at ≡ 32
    → TakenUp (trimmed (flattened c) []) s c.window.count bad passed wants → bad ≡ false → Taken c s cells iterations es ss at wants caps bases tops passed store
unfolding trimmed ground_of dims_of
taken c s cells iterations es ss at caps bases tops store passed wants bad st sh a u e = record {
  stored = st;
  shaped = sh;
  at_there = a;
  wants_are = u.wants_are.done;
  there = u.passed_are.long;
  counters = ap (λ (k : Counters). k.passed) (counters_are c.window.count s blank passed (omega (arith, st.capable.accepted.few)) u.passed_are);
  good = sym u.bad_is ∙ e;
}

-- The last numbers of a list.
part_drop : (xs : List ℕ) (d : ℕ) → part (number_at xs) d (length xs) ≡ drop d xs
part_drop xs zero = part_all (number_at xs) (length xs) ∙ tabulate_back 0 xs (length xs) (number_at xs) refl (λ k h. refl)
part_drop [] (suc d) = part_none (number_at []) (suc d) 0 (omega arith)
part_drop (x ∷ xs) (suc d) = part_shift (number_at (x ∷ xs)) d (length xs) ∙ part_drop xs d

-- Their product is at most that of all, where none is 0.
product_last : (xs : List ℕ) (d : ℕ) → 0 < product xs → product (drop d xs) ≤ product xs
unfolding product
product_last xs zero h = omega arith
product_last [] (suc d) h = omega arith
product_last (zero ∷ xs) (suc d) h = absurd (omega arith)
product_last (suc x ∷ xs) (suc d) h = omega (arith, product_last xs d (some (product xs) h), mul-le-mul_right (product xs) (let o : 1 ≤ suc x = omega arith in o))
  where
    some : (p : ℕ) → 0 < suc x * p → 0 < p
    some zero g = omega arith
    some (suc p) g = omega arith

module _ (c : Chain) {cells iterations : ℕ} {es ss at : List ℕ} (S : Shaped (trimmed (flattened c) []) c.grid.dims c.window.count cells iterations es ss at) where
  abbrev whole : List ℕ
  whole = extents_of (trimmed (flattened c) [])

  unturned : (bad_grid c.grid.dims (sizes_of (flattened c).grid) ≡ false) × (bad_count c.window.count ≡ false)
  unfolding trimmed ground_of dims_of
  unturned =
      let p = (value_passes (trimmed (flattened c) []) S.counted.accepted.checks).window in
      (p.grid, p.count)

  pub some_dimensions : (0 < c.grid.dims) × (c.grid.dims ≤ 4)
  unfolding trimmed ground_of dims_of
  some_dimensions = let g = good_grid (trimmed (flattened c) []) (sizes_of (flattened c).grid) refl S.counted.accepted in (g.some, g.few)

  pub few_references : c.window.count ≤ 32
  unfolding trimmed ground_of dims_of
  few_references = S.counted.accepted.few

  dimensions : length whole ≡ c.grid.dims
  unfolding trimmed ground_of dims_of
  dimensions = extents_count (trimmed (flattened c) []) S.spaced.fitting (sizes_of (flattened c).grid) refl ∙ S.spaced.dimensions

  counted : iterations_of (trimmed (flattened c) []) ≡ product whole
  unfolding trimmed ground_of dims_of
  counted = iterations_product (trimmed (flattened c) []) S.spaced.fitting (sizes_of (flattened c).grid) refl

  behind : (d : ℕ) → part (number_at es) d c.grid.dims ≡ drop d whole
  unfolding trimmed ground_of dims_of
  behind d =
      part_same (number_at es) (number_at whole) d c.grid.dims (λ i _ h. S.spaced.extents_are i h)
      ∙ ap (part (number_at whole) d) (sym dimensions) ∙ part_drop whole d

  iterates : 0 < product whole
  iterates = omega (arith, counted, S.counted.accepted.iterates)

  pub extents_small : Small es c.grid.dims
  extents_small d =
      omega (
        arith,
        ap product (behind d),
        product_last whole d iterates,
        counted,
        at_most_cells (trimmed (flattened c) []) S.spaced.fitting,
        S.spaced.cells,
      )

module _ {c : Chain} {s : State} {cells iterations : ℕ} {es ss at wants caps bases tops passed store : List ℕ} (T : Taken c s cells iterations es ss at wants caps bases tops passed store) where
  -- The tables that the clocks are handed.
  pub prepared : (spans : List ℕ) (row centre : ℕ) → ((d : ℕ) → d < c.grid.dims → number_at spans d ≡ product (part (number_at es) (d + 1) c.grid.dims))
      → row ≡ number_at es (c.grid.dims - 1) → centre ≡ centre_in c.grid.dims c.window → Prepared (trimmed (flattened c) []) row iterations cells centre at caps bases tops spans ss
  unfolding trimmed ground_of dims_of
  prepared spans row centre b r m = record {
    accepted = T.stored.capable.accepted;
    rectangular = T.shaped.spaced.rectangular;
    at_there = T.at_there;
    at_are = T.shaped.reads_are;
    caps_are = T.stored.capable.capped.capacities_are;
    bases_are = T.stored.bases_are;
    tops_are = T.stored.tops_are;
    spans_are = λ d h. let n : d + 1 ≡ suc d = omega arith in b d h ∙ ap product (ap (λ (i : ℕ). part (number_at es) i c.grid.dims) n ∙ behind c T.shaped (suc d));
    strides_are = T.shaped.spaced.strides_are;
    row_is = r ∙ T.shaped.spaced.extents_are (c.grid.dims - 1) (omega (arith, (some_dimensions c T.shaped).0));
    iterations_are = sym T.shaped.counted.iterations_are;
    cells_are = sym T.shaped.counted.cells_are;
    centre_is = m ∙ centre_is (flattened c).grid c.window (unturned c T.shaped).0 (unturned c T.shaped).1;
  }

  -- The counters of the state.
  counters_there : (fired : ℕ) → fired ≡ s.fired.0 → ◌≡◌ {A = Counters} (counting fired (take c.window.count passed)) (counters_of c.window.count s)
  unfolding counters_of
  counters_there fired e = λ i. record { fired = e i; passed = T.counters i }

  pub begins : (fired : ℕ) → fired ≡ s.fired.0 → Begins (trimmed (flattened c) []) fired wants passed store
  unfolding trimmed ground_of dims_of short_store
  begins fired e = record {
    wants_are = λ k h. T.wants_are k h ∙ ap (λ (f : ℕ). (layout (trimmed (flattened c) [])).wants f k) (sym e);
    there = T.there;
    room = ltb-false (length store) (sum (trimmed (flattened c) []).capacities) T.stored.long;
    holds = subst (Invariant (layout (trimmed (flattened c) []))) (sym (counters_there fired e)) (good_counters (trimmed (flattened c) []) s T.good);
  }

-- A refusal says nothing of the tables.
pub readied_refused : (c : Chain) (rows : List ℕ) (s : State) (x : Refusal) (at wants caps bases tops spans strides passed store : List ℕ)
    → judge_run (trimmed c rows) s store ≡ Err x → Readied c rows s (Err x) at wants caps bases tops spans strides passed store
readied_refused c rows s x at wants caps bases tops spans strides passed store j = record {
  verdict_is = sym j;
  begun = λ b a. absurd (let y : ◌≡◌ {A = ℕ} 0 1 = cc in omega arith);
}

-- A chain on a rectangle is as it was.
pub readied_flat : (c : Chain) → c.grid.skewed ≡ false → (s : State) (r : Result Ready Refusal) (at wants caps bases tops spans strides passed store : List ℕ)
    → Readied (flattened c) [] s r at wants caps bases tops spans strides passed store → Readied c [] s r at wants caps bases tops spans strides passed store
readied_flat c flat s r at wants caps bases tops spans strides passed store d = subst (λ (c : Chain). Readied c [] s r at wants caps bases tops spans strides passed store) same d
  where
    same : flattened c ≡ c
    same = λ i. set_grid (record { skewed = sym flat i; rows = c.grid.rows; dims = c.grid.dims; sizes = c.grid.sizes }) c

-- No refusal: the tables are there.
pub readied : {c : Chain} {s : State} {cells iterations : ℕ} {es ss at wants caps bases tops passed store : List ℕ} → Taken c s cells iterations es ss at wants caps bases tops passed store
    → (spans : List ℕ) (row centre fired : ℕ) → ((d : ℕ) → d < c.grid.dims → number_at spans d ≡ product (part (number_at es) (d + 1) c.grid.dims))
    → row ≡ number_at es (c.grid.dims - 1) → centre ≡ centre_in c.grid.dims c.window → fired ≡ s.fired.0
    → Readied (flattened c) [] s (Ok (record { row = row; iterations = iterations; cells = cells; centre = centre; fired = fired })) at wants caps bases tops spans ss passed store
readied {c} {s} {cells} {iterations} {es} {ss} {at} {wants} {caps} {bases} {tops} {passed} {store} T spans row centre fired b r m f = record {
  verdict_is = sym (judged_fine (flattened c) [] s store T.stored.capable.accepted T.stored.long T.good);
  begun = λ d e. subst (λ (r : Ready). Begun (flattened c) [] s r at wants caps bases tops spans ss passed store) (let y : made ≡ d = cc in y) there;
}
  where
    made : Ready
    made = record { row = row; iterations = iterations; cells = cells; centre = centre; fired = fired }

    there : Begun (flattened c) [] s made at wants caps bases tops spans ss passed store
    there = record { tables = prepared T spans row centre b r m; begins = begins T fired f; fired_is = f; counters = T.counters }
