-- Calls that make no clock: calling again after Done or Stalled, and a call that is lent a clock, a cell and places.
use Prim.Native.Nat.{ℕ, zero, suc, ◌≤◌, ◌<◌}
use mathlib.Core.Bool.{Bool, false, false≢true, and-false}
use mathlib.Core.List.{List}
use mathlib.Core.Logic.{◌⊎◌, inl, inr}
use mathlib.Core.Path.{◌≡◌, refl, sym, ◌∙◌, ap, subst₂}
use native.Mathlib.Nat.{zero-mul}
use native.Mathlib.Omega.{arith}
use lib.Dec.{ltb}
use lib.ListN.{length, take}
use borrow.Author.Tests.{le-ltb}
use Rattle.model.specs.Values.{Trimmed}
use Rattle.model.specs.Answers.{no_counts}
use Rattle.model_run.specs.Clock.{Counters, moves}
use Rattle.model_run.specs.Running.{layout, Standing, Ending, Done, Spent, Starved, Stalled, Full, ends, outcome_of, short_store, begun, written_by, width_of, Run}
use Rattle.model_run.specs.CallLists.{Lending, Between, LentEnough, lent_cells, call_run, after}
use Rattle.model.specs.declared.Outcome.TheVariants as outcome
use Rattle.std.specs.Prelude.{Ok}
use Rattle.flow.specs.Machine.{live}
use Rattle.model_run.specs.Reports.{Reports, clocks_of}
use Rattle.demands.specs.Demand3.{ListOfCalls, handed_on, one_more, chain_in}
use Rattle.demands.specs.Promises.{Piece, Over, MakesClock, Again, again, again_store}
use Rattle.run_laws.proofs.Looks.{Looked, is_done, is_spent, is_starved, is_stalled, is_full_lem}
use Rattle.run_laws.proofs.Traces.{still_traced}
use Rattle.run_laws.proofs.Ends.{no_clock}
use Rattle.run_laws.proofs.Between.{Setting, Reached, now, beginning, ending, clocks, ran, counted_call, lent_length, after_reached, now_after}
use Rattle.run_laws.proofs.CallEnds.{call_clocks, why, not_short, not_short_events, enough_ends, reported}
use Rattle.run_laws.proofs.CallEnds as call
use Rattle.demands.proofs.Stops.{reports}
use Rattle.demands.proofs.Finishing.{setting, reached}

module _ (S : Setting) (l : Lending) (b : Between) {es : List Bool} (r : Reached S b es) where
  open S use {trimmed as t, proper as p, accepted as a, stream}

  -- A call that makes no clock.
  module _ (s : short_store t (take l.front b.store) ≡ false) (none : length (clocks S l b) ≡ 0) where
    stays : (ending S l b).standing ≡ beginning S l b
    unfolding ending clocks
    stays = no_clock (layout t) (written_by t) (width_of t) (lent_cells t stream l b) l.allowance (beginning S l b) none

    -- It reports what the first look finds, with zeros.
    pub answers : (call_run t stream l b).answer ≡ Ok (outcome_of (ending S l b).ending no_counts)
    unfolding ran beginning begun
    answers =
        ap (λ (x : Run). x.answer) (not_short S l b r s)
        ∙ ap (λ (x : Standing). Ok (outcome_of (ending S l b).ending x.done)) stays

    pub first_look : Looked (layout t) (written_by t) (width_of t) (lent_cells t stream l b) l.allowance (beginning S l b) (ends (ending S l b).ending)
    first_look =
        let w = why S l b r in
        subst₂ (λ (n : ℕ) (x : Standing). Looked (layout t) (written_by t) (width_of t) (lent_cells t stream l b) n x (ends (ending S l b).ending))
        (omega (arith, w.allowed)) stays w.why

  -- A call lent a clock, a cell and places makes a clock unless it ends Done or Stalled.
  pub makes : Piece t l b → (0 < clocks_of (call_run t stream l b)) ⊎ Over (call_run t stream l b)
  unfolding outcome_of beginning begun
  makes lent = go (length (clocks S l b)) refl
    where
      stop : length (clocks S l b) ≡ 0 → (e : Ending) → (ending S l b).ending ≡ e
          → Looked (layout t) (written_by t) (width_of t) (lent_cells t stream l b) l.allowance (beginning S l b) (ends e) → Over (call_run t stream l b)
      stop z Done x v = inl (record { counts = no_counts; answer = answers lent.store z ∙ ap (λ (e : Ending). Ok (outcome_of e no_counts)) x })
      stop z Stalled x v = inr (record { counts = no_counts; answer = answers lent.store z ∙ ap (λ (e : Ending). Ok (outcome_of e no_counts)) x })
      stop z Spent x (is_spent _ n) = absurd (omega (arith, lent.clock))
      stop z Starved x (is_starved _ _ n) = absurd (omega (arith, lent.cell, lent_length S l b))
      stop z Full x (is_full_lem _ _ _ _ _ n) = absurd (omega (arith, lent.places, zero-mul (width_of t)))

      go : (n : ℕ) → length (clocks S l b) ≡ n → (0 < clocks_of (call_run t stream l b)) ⊎ Over (call_run t stream l b)
      go zero z = inr (stop z (ending S l b).ending refl (first_look lent.store z))
      go (suc n) z = inl (omega (arith, call_clocks S l b r, ap length (not_short_events S l b r lent.store)))

  -- A call where there is no clock to make.
  module _ (s : short_store t (take l.front b.store) ≡ false) (dead : live (layout t) (now S b) ≡ false) where
    quiet : length (clocks S l b) ≡ 0
    unfolding beginning begun
    quiet = ap length (still_traced (layout t) (counted_call S l b).traced dead)

    found : (e : Ending) → (ending S l b).ending ≡ e → (call_run t stream l b).answer ≡ Ok (outcome_of e no_counts)
    found e x = answers s quiet ∙ ap (λ (f : Ending). Ok (outcome_of f no_counts)) x

    pub again_done : (layout t).iterations ≤ (now S b).fired → (call_run t stream l b).answer ≡ Ok (outcome.Done no_counts)
    unfolding beginning begun outcome_of
    again_done h = go (ending S l b).ending refl (first_look s quiet)
      where
        go : (e : Ending) → (ending S l b).ending ≡ e
            → Looked (layout t) (written_by t) (width_of t) (lent_cells t stream l b) l.allowance (beginning S l b) (ends e)
            → (call_run t stream l b).answer ≡ Ok (outcome.Done no_counts)
        go Done x v = found Done x
        go Spent x (is_spent f _) = absurd (omega arith)
        go Starved x (is_starved f _ _) = absurd (omega arith)
        go Stalled x (is_stalled f _ _ _) = absurd (omega arith)
        go Full x (is_full_lem f _ _ _ _ _) = absurd (omega arith)

    pub again_stalled : (now S b).fired < (layout t).iterations → moves (layout t) (now S b) ≡ false
        → (0 < l.allowance → 0 < l.cells → (call_run t stream l b).answer ≡ Ok (outcome.Stalled no_counts))
        × (l.allowance ≡ 0 → (call_run t stream l b).answer ≡ Ok (outcome.Spent no_counts))
        × (0 < l.allowance → l.cells ≡ 0 → (call_run t stream l b).answer ≡ Ok (outcome.Starved no_counts))
    unfolding beginning begun outcome_of
    again_stalled h still = go (ending S l b).ending refl (first_look s quiet)
      where
        go : (e : Ending) → (ending S l b).ending ≡ e
            → Looked (layout t) (written_by t) (width_of t) (lent_cells t stream l b) l.allowance (beginning S l b) (ends e)
            → (0 < l.allowance → 0 < l.cells → (call_run t stream l b).answer ≡ Ok (outcome.Stalled no_counts))
            × (l.allowance ≡ 0 → (call_run t stream l b).answer ≡ Ok (outcome.Spent no_counts))
            × (0 < l.allowance → l.cells ≡ 0 → (call_run t stream l b).answer ≡ Ok (outcome.Starved no_counts))
        go Done x (is_done f) = absurd (omega arith)
        go Spent x (is_spent _ n) = (λ y _. absurd (omega arith), λ _. found Spent x, λ y _. absurd (omega arith))
        go Starved x (is_starved _ m n) = (λ _ y. absurd (omega (arith, lent_length S l b)), λ y. absurd (omega arith), λ _ _. found Starved x)
        go Stalled x (is_stalled _ m n _) = (λ _ _. found Stalled x, λ y. absurd (omega arith), λ _ y. absurd (omega (arith, lent_length S l b)))
        go Full x (is_full_lem _ _ _ m _ _) = absurd (false≢true (sym still ∙ m))

-- There is no clock to make where all firings are made, or nothing would move.
pub done_dead : (t : Trimmed) (s : Counters) → (layout t).iterations ≤ s.fired → live (layout t) s ≡ false
unfolding live
done_dead t s h = rw (le-ltb s.fired (layout t).iterations h)

pub stalled_dead : (t : Trimmed) (s : Counters) → moves (layout t) s ≡ false → live (layout t) s ≡ false
unfolding live
stalled_dead t s e = rw e (and-false (ltb s.fired (layout t).iterations))

module _ (S : Setting) (l : Lending) (b : Between) {es : List Bool} (r : Reached S b es) where
  open S use {trimmed as t, proper as p, accepted as a, stream}

  pub done_at : Reports outcome.Done (call_run t stream l b) → (layout t).iterations ≤ (now S (after t stream l b)).fired
  unfolding outcome_of
  done_at q = let w = reported S l b r Done q in go w.not_refused w.at_end_lem
    where
      go : {n : ℕ} → short_store t (take l.front b.store) ≡ false
          → Looked (layout t) (written_by t) (width_of t) (lent_cells t stream l b) n (ending S l b).standing (ends Done)
          → (layout t).iterations ≤ (now S (after t stream l b)).fired
      go s (is_done f) = omega (arith, ap (λ (c : Counters). c.fired) (now_after S l b r s))

  pub stalled_at : Reports outcome.Stalled (call_run t stream l b)
      → ((now S (after t stream l b)).fired < (layout t).iterations) × (moves (layout t) (now S (after t stream l b)) ≡ false)
  unfolding outcome_of
  stalled_at q = let w = reported S l b r Stalled q in go w.not_refused w.at_end_lem
    where
      go : {n : ℕ} → short_store t (take l.front b.store) ≡ false
          → Looked (layout t) (written_by t) (width_of t) (lent_cells t stream l b) n (ending S l b).standing (ends Stalled)
          → ((now S (after t stream l b)).fired < (layout t).iterations) × (moves (layout t) (now S (after t stream l b)) ≡ false)
      go s (is_stalled f _ _ m) = rw (now_after S l b r s) (f, m)

  -- A call that ends Done or Stalled leaves no clock to make, and one that is lent enough ends so.
  pub over_dead : Over (call_run t stream l b) → live (layout t) (now S (after t stream l b)) ≡ false
  over_dead (inl x) = done_dead t _ (done_at x)
  over_dead (inr x) = stalled_dead t _ (stalled_at x).1

  pub enough_over : LentEnough t l b → Over (call_run t stream l b)
  unfolding outcome_of
  enough_over h = go (enough_ends S l b r h)
    where
      go : call.Over S l b r → Over (call_run t stream l b)
      go (inl (x, _)) = inl (record { counts = (ending S l b).standing.done; answer = reports S l b r h Done x })
      go (inr (x, _, _)) = inr (record { counts = (ending S l b).standing.done; answer = reports S l b r h Stalled x })

module _ (q : ListOfCalls) where
  pub makes_clock : MakesClock q
  makes_clock l = makes (setting q) l (handed_on q) (reached q)

  module _ (l m : Lending) where
    after_done : Reports outcome.Done (one_more q l) → short_store (chain_in q) (again_store q l m) ≡ false → (again q l m).answer ≡ Ok (outcome.Done no_counts)
    after_done x s =
        let t = chain_in q in
        let d = done_at (setting q) l (handed_on q) (reached q) x in
        again_done (setting q) m _ (after_reached (setting q) l (handed_on q) (reached q)) s (done_dead t _ d) d

    after_stall : Reports outcome.Stalled (one_more q l) → short_store (chain_in q) (again_store q l m) ≡ false
        → (0 < m.allowance → 0 < m.cells → (again q l m).answer ≡ Ok (outcome.Stalled no_counts))
        × (m.allowance ≡ 0 → (again q l m).answer ≡ Ok (outcome.Spent no_counts))
        × (0 < m.allowance → m.cells ≡ 0 → (again q l m).answer ≡ Ok (outcome.Starved no_counts))
    after_stall x s =
        let t = chain_in q in
        let d = stalled_at (setting q) l (handed_on q) (reached q) x in
        again_stalled (setting q) m _ (after_reached (setting q) l (handed_on q) (reached q)) s (stalled_dead t _ d.1) d.0 d.1

    pub called_again : Again q l m
    called_again = record { done = after_done; stalled = λ x s. (after_stall x s).0; spent = λ x s. (after_stall x s).1; starved = λ x s. (after_stall x s).2 }
