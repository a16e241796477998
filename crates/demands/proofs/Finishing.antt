-- Demand 3, when a chain finishes and where it stops: the proofs.
use Prim.Native.Nat.{ℕ, ◌+◌, ◌<◌}
use mathlib.Core.Bool.{Bool}
use mathlib.Core.List.{List, []}
use mathlib.Core.Path.{◌≡◌, sym, ◌∙◌}
use native.Mathlib.Decide.{dec_lt}
use native.Mathlib.Omega.{arith}
use Rattle.model.specs.Iterations.{iterations_of}
use Rattle.model_run.specs.Running.{layout}
use Rattle.model_run.specs.CallLists.{Lending, Between, LentEnough, call_run, firings_among}
use Rattle.model.specs.declared.Outcome.TheVariants as outcome
use Rattle.grid_laws.specs.Right.{Right}
use Rattle.model_run.specs.Reports.{Reports, firings_of}
use Rattle.flow.specs.Machine.{FlowsUpTo}
use Rattle.flow.proofs.Blocked.{first_blocked}
use Rattle.demands.specs.Demand3.{ListOfCalls, events_of, handed_on, Finishes, StopsAt, NeverFires, Stalls, Numbered, chain_in}
use Rattle.run_laws.proofs.Accepts.{trimmed_proper, accepted_chain}
use Rattle.run_laws.proofs.Layouts.{right_flows, flows_right, blocked_flows, flows_blocked, disorder_blocks, wrong_blocks}
use Rattle.run_laws.proofs.Between.{Setting, Reached, fresh_reached}
use Rattle.run_laws.proofs.CallSums.{list_reached, each_run, list_clocks, list_firings}
use Rattle.demands.proofs.Stops.{call_few, stalled_at, enough_at, enough_done, enough_stalled}

-- The chain and the stream of a list of calls.
abbrev pub setting : ListOfCalls → Setting
setting q = record {
  trimmed = chain_in q;
  proper = trimmed_proper q.chain q.rows;
  accepted = accepted_chain q.chain q.rows q.accepted;
  stream = q.stream;
}

module _ (q : ListOfCalls) where
  pub start : Reached (setting q) q.start []
  start = fresh_reached (setting q) q.start q.fresh

  pub reached : Reached (setting q) (handed_on q) (events_of q)
  reached = list_reached (setting q) q.calls q.start [] start

  pub numbered : Numbered q
  numbered = record {
    clocks = list_clocks (setting q) q.calls q.start [] start;
    firings = list_firings (setting q) q.calls q.start [] start;
  }

  -- A call of the list or the one more, on a chain that is right, and on one whose first iteration is blocked.
  right_runs_on : Right (chain_in q) → (l : Lending) (b : Between) (es : List Bool) → Reached (setting q) b es → Reports outcome.Stalled (call_run (chain_in q) q.stream l b) → ⊥
  unfolding layout
  right_runs_on right l b es r p =
      omega (arith, (stalled_at (setting q) (right_flows (chain_in q) (setting q).proper (setting q).accepted right) l b r p).1)

  fires_not : FlowsUpTo (layout (chain_in q)) 0 → (l : Lending) (b : Between) (es : List Bool) → Reached (setting q) b es → firings_of (call_run (chain_in q) q.stream l b) ≡ 0
  fires_not flows l b es r = omega (arith, call_few (setting q) flows l b es r)

  never_fires : FlowsUpTo (layout (chain_in q)) 0 → NeverFires q
  unfolding layout
  never_fires flows = record {
    no_firing = (
      each_run (setting q) (λ r. firings_of r ≡ 0) (fires_not flows) q.calls q.start [] start,
      λ l. fires_not flows l (handed_on q) (events_of q) reached,
    );
    stalled = λ l h. enough_stalled (setting q) flows l (handed_on q) reached h (setting q).accepted.iterates;
  }

  -- Lent enough, the firings made are as many as come before the first blocked iteration; so if they are all, the chain is right.
  finished_right : (l : Lending) → LentEnough (chain_in q) l (handed_on q)
      → firings_among (events_of q) + firings_of (call_run (chain_in q) q.stream l (handed_on q)) ≡ iterations_of (chain_in q) → Right (chain_in q)
  finished_right l h e =
      let (B, flows) = first_blocked (layout (chain_in q)) in
      let all : B ≡ iterations_of (chain_in q) = sym (enough_at (setting q) flows l (handed_on q) reached h) ∙ e in
      flows_right (chain_in q) (setting q).proper (setting q).accepted (rw all at flows)

  pub finishes : Finishes q
  unfolding layout
  finishes = record {
    exactly = λ l h. (
      λ right.
          let flows = right_flows (chain_in q) (setting q).proper (setting q).accepted right in
          (enough_done (setting q) flows l (handed_on q) reached h (omega arith), omega (arith, enough_at (setting q) flows l (handed_on q) reached h, numbered.firings)),
      λ p. finished_right l h (omega (arith, p.1, numbered.firings)),
    );
    no_stall = λ right. (
      each_run (setting q) (λ r. Reports outcome.Stalled r → ⊥) (right_runs_on right) q.calls q.start [] start,
      λ l. right_runs_on right l (handed_on q) (events_of q) reached,
    );
  }

  stops_at : {B : ℕ} → FlowsUpTo (layout (chain_in q)) B → StopsAt q B
  unfolding layout
  stops_at flows = record {
    at_most = λ l. omega (arith, call_few (setting q) flows l (handed_on q) (events_of q) reached, numbered.firings);
    exactly = λ l h. omega (arith, enough_at (setting q) flows l (handed_on q) reached h, numbered.firings);
    stalled = λ fewer l h. enough_stalled (setting q) flows l (handed_on q) reached h fewer;
    not_before = λ l p. let (e, f) = stalled_at (setting q) flows l (handed_on q) reached p in (omega (arith, numbered.firings), f);
  }

  -- Where the chain is not right, an iteration is blocked.
  some_blocked : (Right (chain_in q) → ⊥) → {B : ℕ} → FlowsUpTo (layout (chain_in q)) B → B < iterations_of (chain_in q)
  unfolding layout
  some_blocked wrong {B} flows = go (dec_lt B (iterations_of (chain_in q)))
    where
      go : Dec (B < iterations_of (chain_in q)) → B < iterations_of (chain_in q)
      go (yes h) = h
      go (no h) =
          let all : B ≡ iterations_of (chain_in q) = omega (arith, flows.most) in
          absurd (wrong (flows_right (chain_in q) (setting q).proper (setting q).accepted (rw all at flows)))

  pub stalls : Stalls q
  stalls = record {
    first = λ wrong order.
        let (B, flows) = first_blocked (layout (chain_in q)) in
        (B, flows_blocked (chain_in q) (setting q).proper (setting q).accepted order flows, some_blocked wrong flows);
    shorter = λ order B b. stops_at (blocked_flows (chain_in q) (setting q).proper (setting q).accepted order b);
    disordered = λ n. never_fires (disorder_blocks (chain_in q) (setting q).proper (setting q).accepted n);
    rectangular = λ sizes e wrong. never_fires (wrong_blocks (chain_in q) (setting q).proper (setting q).accepted sizes e wrong);
  }
