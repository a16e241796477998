-- The layout of an accepted chain: it is lawful, its order and capacities are right exactly if every iteration flows, and its first blocked iteration is the first that needs more.
use Prim.Native.Nat.{ℕ, zero, suc, ◌+◌, ◌-◌, ◌≤◌, ◌<◌}
use mathlib.Core.List.{List}
use mathlib.Core.Path.{◌≡◌, refl, sym, ◌∙◌, ap, ap₂, fun_ext}
use native.Mathlib.Omega.{arith}
use native.Mathlib.Decide.{dec_lt}
use lib.ListN.{length, get_or}
use borrow.Author.Tests.{lt-ltb, le-ltb}
use Rattle.model.specs.Lists.{sum, tabulate, greatest}
use Rattle.model.specs.Grounds.Ground.{rectangle}
use Rattle.model.specs.Values.{Trimmed}
use Rattle.model.specs.Iterations.{cells_of, iterations_of, reads_of, distance_in, newest_of, clock_of}
use Rattle.model_run.specs.Store.{first_place}
use Rattle.model_run.specs.Running.{layout}
use Rattle.grid_laws.proofs.ListLaws.{tabulate_back}
use Rattle.grid_laws.proofs.Iterations.{rises, below_cells, falls, same_distance, right_reads, reads_right}
use Rattle.flow.specs.Machine.{Lawful, Spans, Flows, FlowsUpTo}
use Rattle.flow.specs.Machine as flow
use Rattle.flow.specs.Pace.{clock_at}
use Rattle.grid_laws.specs.Right.{Falls, RightPair, Right, Planned, HeldIn, FirstBlocked}
use Rattle.model.specs.Sized.{Proper, Fitting}
use Rattle.run_laws.specs.Accepted.{Accepted}
use Rattle.run_laws.proofs.Accepts.{fitting_of}

module _ (t : Trimmed) (proper : Proper t) (ok : Accepted t) where
  abbrev fit : Fitting t
  fit = fitting_of t proper ok

  -- A number of each reference, and of each filter.
  table : (f g : ℕ → ℕ) → ((k : ℕ) → f k ≡ g k) → greatest (tabulate (length t.offsets) f) ≡ greatest (tabulate t.count g)
  table f g e = ap (λ (n : ℕ). greatest (tabulate n f)) proper.references ∙ ap (λ (h : ℕ → ℕ). greatest (tabulate t.count h)) (fun_ext e)

  pub wants_read : (j k : ℕ) → j < iterations_of t → (layout t).wants j k ≡ reads_of t j k
  unfolding layout
  wants_read j k h = rw (lt-ltb j (iterations_of t) h)

  -- The clock of an iteration is that of its layout.
  pub clock_at_lem : (j : ℕ) → j < iterations_of t → clock_of t j ≡ clock_at (layout t) j
  unfolding clock_of clock_at newest_of layout
  clock_at_lem zero h = table (λ k. reads_of t 0 k) ((layout t).wants 0) (λ k. sym (wants_read 0 k h))
  clock_at_lem (suc j) h =
      ap₂ (λ (x y : ℕ). x + y) (clock_at_lem j (omega arith))
      (table (λ k. reads_of t (suc j) k - reads_of t j k) (λ k. (layout t).wants (suc j) k - (layout t).wants j k)
      (λ k. ap₂ (λ (x y : ℕ). x - y) (sym (wants_read (suc j) k h)) (sym (wants_read j k (omega arith)))))

  wants_end : (j k : ℕ) → iterations_of t ≤ j → (layout t).wants j k ≡ cells_of t
  unfolding layout
  wants_end j k h = rw (le-ltb j (iterations_of t) h)

  pub lawful : Lawful (layout t)
  unfolding layout
  lawful = record { some = ok.some; rises = λ j k h g. up j k h g (dec_lt (suc j) (iterations_of t)); within = λ j k h g. below j k g (dec_lt j (iterations_of t)) }
    where
      up : (j k : ℕ) → j < iterations_of t → k < t.count → Dec (suc j < iterations_of t) → (layout t).wants j k < (layout t).wants (suc j) k
      up j k h g (yes d) =
          omega (arith, wants_read j k h, wants_read (suc j) k d, rises t fit j (suc j) k (omega arith) d g)
      up j k h g (no d) =
          omega (arith, wants_read j k h, wants_end (suc j) k (omega arith), below_cells t fit j k h g)

      below : (j k : ℕ) → k < t.count → Dec (j < iterations_of t) → (layout t).wants j k ≤ cells_of t
      below j k g (yes d) = omega (arith, wants_read j k d, below_cells t fit j k d g)
      below j k g (no d) = omega (arith, wants_end j k (omega arith))

  -- Order and capacity of a pair, in any iteration.
  pub right_spans : (f k : ℕ) → f < iterations_of t → suc k < t.count → RightPair t k → Spans (layout t) f k
  unfolding layout
  right_spans f k h g r =
      let (fall, fits) = right_reads t fit f k h g r in
      let a = wants_read f k h in
      let b = wants_read f (suc k) h in
      record { falls = omega (arith, a, b); fits = omega (arith, a, b) }

  spans_falls : (f k : ℕ) → f < iterations_of t → suc k < t.count → Spans (layout t) f k → reads_of t f (suc k) < reads_of t f k
  unfolding layout
  spans_falls f k h g s = omega (arith, s.falls, wants_read f k h, wants_read f (suc k) h)

  spans_fits : (f k : ℕ) → f < iterations_of t → suc k < t.count → Spans (layout t) f k → reads_of t f k ≤ reads_of t f (suc k) + get_or t.capacities k 0
  unfolding layout
  spans_fits f k h g s = omega (arith, s.fits, wants_read f k h, wants_read f (suc k) h)

  -- An iteration that flows shows that the offsets fall; where they do, it flows exactly if it needs no more than the chain has.
  pub flows_falls : (f : ℕ) → f < iterations_of t → Flows (layout t) f → Falls t
  unfolding layout
  flows_falls f h fl k g = (falls t fit f k (suc k) h (omega arith) g).1 (spans_falls f k h g (fl k g))

  flows_held : (f : ℕ) → f < iterations_of t → Flows (layout t) f → HeldIn t f
  unfolding layout distance_in
  flows_held f h fl k g = omega (arith, spans_fits f k h g (fl k g))

  held_flows : Falls t → (f : ℕ) → f < iterations_of t → HeldIn t f → Flows (layout t) f
  unfolding layout distance_in
  held_flows order f h held k g =
      let below = (falls t fit f k (suc k) h (omega arith) g).0 (order k g) in
      let a = wants_read f k h in
      let b = wants_read f (suc k) h in
      record { falls = omega (arith, a, b); fits = omega (arith, held k g, a, b) }

  -- So a chain that is right flows to its end, and one that flows to its end is right.
  pub right_flows : Right t → FlowsUpTo (layout t) (iterations_of t)
  unfolding layout
  right_flows r = record { most = omega arith; before = λ f h k g. right_spans f k h g (r k g); ends = λ h. absurd (omega arith) }

  pub flows_right : FlowsUpTo (layout t) (iterations_of t) → Right t
  unfolding layout
  flows_right fl k g = reads_right t fit k ok.iterates g (λ j h. (spans_falls j k h g (fl.before j h k g), spans_fits j k h g (fl.before j h k g)))

  -- Where the offsets fall, the first blocked iteration is the first that needs more;
  pub blocked_flows : Falls t → {B : ℕ} → FirstBlocked t B → FlowsUpTo (layout t) B
  unfolding layout
  blocked_flows order b = record {
    most = b.most;
    before = λ f h. held_flows order f (omega (arith, b.most)) (b.before f h);
    ends = λ h fl. b.needs h (flows_held _ h fl);
  }

  pub flows_blocked : Falls t → {B : ℕ} → FlowsUpTo (layout t) B → FirstBlocked t B
  unfolding layout
  flows_blocked order b = record {
    most = b.most;
    before = λ j h. flows_held j (omega (arith, b.most)) (b.before j h);
    needs = λ h held. b.ends h (held_flows order _ h held);
  }

  -- where they do not, the first iteration is.
  pub disorder_blocks : (Falls t → ⊥) → FlowsUpTo (layout t) 0
  unfolding layout
  disorder_blocks n = record { most = omega arith; before = λ f h. absurd (omega arith); ends = λ h fl. n (flows_falls 0 h fl) }

  -- A planned chain is right.
  pub planned_right : Planned t → Right t
  planned_right p k g = record { falls = (p k g).falls; holds = omega (arith, (p k g).exact) }

  -- On a rectangle:
  module _ (sizes : List ℕ) (e : t.the_ground ≡ rectangle sizes) where
    -- One iteration that flows shows that the chain is right, so one that is not does not flow at all.
    pub flow_right : (f : ℕ) → f < iterations_of t → Flows (layout t) f → Right t
    unfolding layout
    flow_right f h fl k g = record {
      falls = flows_falls f h fl k g;
      holds = omega (arith, same_distance t fit sizes e f k h g, spans_fits f k h g (fl k g));
    }

    pub wrong_blocks : (Right t → ⊥) → FlowsUpTo (layout t) 0
    unfolding layout
    wrong_blocks n = record { most = omega arith; before = λ f h. absurd (omega arith); ends = λ h fl. n (flow_right 0 h fl) }

    -- The layout of a planned chain is a planned one.
    pub planned_layout : Planned t → flow.Planned (layout t)
    unfolding layout
    planned_layout p = record {
      room = λ k g. let s = spans 0 k ok.iterates g in let x = exact 0 k ok.iterates g in omega (arith, s.falls);
      exact = λ j k h g. exact j k h g;
    }
      where
        spans : (j k : ℕ) → j < iterations_of t → suc k < t.count → Spans (layout t) j k
        spans j k h g = right_spans j k h g (planned_right p k g)

        exact : (j k : ℕ) → j < iterations_of t → suc k < t.count → (layout t).wants j k ≡ (layout t).wants j (suc k) + get_or t.capacities k 0
        exact j k h g =
            let s = spans j k h g in
            let same = same_distance t fit sizes e j k h g in
            omega (arith, (p k g).exact, s.falls, wants_read j k h, wants_read j (suc k) h)

  -- The FIFOs' places are as many as the capacities' sum.
  pub all_places : first_place (layout t).capacity (t.count - 1) ≡ sum t.capacities
  unfolding layout first_place
  all_places = ap (λ (n : ℕ). sum (tabulate n (λ k. get_or t.capacities k 0))) (sym proper.fifos) ∙ ap sum (tabulate_back 0 t.capacities (length t.capacities) _ refl (λ _ _. refl))
