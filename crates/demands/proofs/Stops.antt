-- A list of calls stops at the first blocked iteration of its chain: the laws.
use Prim.Native.Nat.{ℕ, ◌+◌, ◌≤◌, ◌<◌}
use mathlib.Core.Bool.{Bool, true, false, ◌&&◌}
use mathlib.Core.List.{List}
use mathlib.Core.Logic.{inl, inr}
use mathlib.Core.Path.{◌≡◌, refl, ◌∙◌, ap}
use native.Mathlib.Omega.{arith}
use lib.Dec.{ltb}
use lib.ListN.{take}
use Rattle.model_run.specs.Clock.{Counters, moves}
use Rattle.model_run.specs.Running.{layout, Run, Ending, Done, Stalled, ends, outcome_of, short_store, begun, written_by, width_of}
use Rattle.model_run.specs.CallLists.{Lending, Between, LentEnough, lent_cells, call_run, call_events, firings_among}
use Rattle.model.specs.declared.Outcome.TheVariants as outcome
use Rattle.std.specs.Prelude.{Ok}
use Rattle.model_run.specs.Reports.{Reports, firings_of}
use Rattle.flow.specs.Machine.{live, FlowsUpTo}
use Rattle.flow.proofs.Laws.{no_more, stopped}
use Rattle.run_laws.proofs.Layouts.{lawful}
use Rattle.run_laws.proofs.Looks.{Looked, is_stalled}
use Rattle.run_laws.proofs.Traces.{traced_ran, traced_join, traced_fired}
use Rattle.run_laws.proofs.Between.{Setting, Reached, reached_fired, beginning, ending, ran, counted_call, after_reached}
use Rattle.run_laws.proofs.CallEnds.{call_firings, not_short, not_short_events, reported, Over, enough_ends}
use Rattle.run_laws.proofs.CallSums.{firings_append}

-- What a call that is lent enough reports, by how it ends.
module _ (S : Setting) (l : Lending) (b : Between) {es : List Bool} (r : Reached S b es) (h : LentEnough S.trimmed l b) where
  open S use {trimmed as t, stream}

  pub reports : (e : Ending) → (ending S l b).ending ≡ e → (call_run t stream l b).answer ≡ Ok (outcome_of e (ending S l b).standing.done)
  unfolding ran
  reports e x =
      ap (λ (y : Run). y.answer) (not_short S l b r h.store)
      ∙ ap (λ (y : Ending). Ok (outcome_of y (ending S l b).standing.done)) x

module _ (S : Setting) {B : ℕ} (flows : FlowsUpTo (layout S.trimmed) B) where
  open S use {trimmed as t, proper, accepted as ok, stream}

  few : {b : Between} {es : List Bool} → Reached S b es → firings_among es ≤ B
  few r = omega (arith, reached_fired S r, no_more (layout t) (lawful t proper ok) (traced_ran (layout t) r.traced) flows)

  -- A call adds no more than are left.
  pub call_few : (l : Lending) (b : Between) (es : List Bool) → Reached S b es → firings_among es + firings_of (call_run t stream l b) ≤ B
  call_few l b es r = omega (arith, few (after_reached S l b r), call_firings S l b r, firings_append es (call_events t stream l b))

  module _ (l : Lending) (b : Between) {es : List Bool} (r : Reached S b es) where
    -- The counters at the end of a call that is not refused.
    abbrev final : Counters
    final = (ending S l b).standing.counters

    still : moves (layout t) final ≡ false → live (layout t) final ≡ false
    unfolding live
    still e = rw e (neither (ltb final.fired (layout t).iterations))
      where
        neither : (x : Bool) → x && false ≡ false
        neither true = refl
        neither false = refl

    -- Where nothing moves there, B firings are made.
    at_b : moves (layout t) final ≡ false → final.fired ≡ B
    unfolding beginning begun
    at_b e = stopped (layout t) (lawful t proper ok) (traced_ran (layout t) (traced_join (layout t) r.traced (counted_call S l b).traced)) flows (still e)

    made : short_store t (take l.front b.store) ≡ false → firings_among es + firings_of (call_run t stream l b) ≡ final.fired
    unfolding beginning begun
    made e =
        omega (
          arith,
          traced_fired (layout t) (counted_call S l b).traced,
          reached_fired S r,
          call_firings S l b r,
          ap firings_among (not_short_events S l b r e),
        )

    -- A call that reports Stalled has made them, and they are not all.
    pub stalled_at : Reports outcome.Stalled (call_run t stream l b) → (firings_among es + firings_of (call_run t stream l b) ≡ B) × (B < (layout t).iterations)
    unfolding outcome_of
    stalled_at p = let w = reported S l b r Stalled p in go w.not_refused w.at_end_lem
      where
        go : {n : ℕ} → short_store t (take l.front b.store) ≡ false
            → Looked (layout t) (written_by t) (width_of t) (lent_cells t stream l b) n (ending S l b).standing (ends Stalled)
            → (firings_among es + firings_of (call_run t stream l b) ≡ B) × (B < (layout t).iterations)
        go e (is_stalled f _ _ m) = (omega (arith, made e, at_b m), omega (arith, at_b m))

    -- Lent enough, a call makes them, and reports Done where they are all and Stalled where they are not.
    module _ (h : LentEnough t l b) where
      pub enough_at : firings_among es + firings_of (call_run t stream l b) ≡ B
      enough_at = go (enough_ends S l b r h)
        where
          go : Over S l b r → firings_among es + firings_of (call_run t stream l b) ≡ B
          go (inl (x, most)) = omega (arith, made h.store, flows.most, call_few l b es r)
          go (inr (x, left, m)) = omega (arith, made h.store, at_b m)

      pub enough_done : B ≡ (layout t).iterations → Reports outcome.Done (call_run t stream l b)
      unfolding outcome_of
      enough_done all = go (enough_ends S l b r h)
        where
          go : Over S l b r → Reports outcome.Done (call_run t stream l b)
          go (inl (x, most)) = record { counts = (ending S l b).standing.done; answer = reports S l b r h Done x }
          go (inr (x, left, m)) = absurd (omega (arith, at_b m))

      pub enough_stalled : B < (layout t).iterations → Reports outcome.Stalled (call_run t stream l b)
      unfolding outcome_of
      enough_stalled fewer = go (enough_ends S l b r h)
        where
          go : Over S l b r → Reports outcome.Stalled (call_run t stream l b)
          go (inl (x, most)) = absurd (omega (arith, made h.store, call_few l b es r))
          go (inr (x, left, m)) = record { counts = (ending S l b).standing.done; answer = reports S l b r h Stalled x }
