-- How a call of a list ends, and what it counts.
use Prim.Native.Nat.{ℕ, suc, ◌*◌, ◌-◌, ◌≤◌, ◌<◌}
use mathlib.Core.Bool.{Bool, false, false≢true}
use mathlib.Core.List.{List, ◌++◌}
use mathlib.Core.Logic.{◌⊎◌, inl, inr}
use mathlib.Core.Path.{◌≡◌, refl, sym, ◌∙◌, ap, subst}
use native.Mathlib.Nat.{add-zero, suc-mul, mul-le-mul_right}
use native.Mathlib.Omega.{arith}
use lib.ListN.{length, take, length-append}
use Rattle.model.specs.Answers.{Answer, outcome_counts, answer_counts}
use Rattle.model_run.specs.Clock.{moves}
use Rattle.model_run.specs.Running.{layout, Ending, Done, Spent, Starved, Stalled, Full, ends, outcome_of, short_store, begun, written_by, width_of}
use Rattle.model_run.specs.CallLists.{Lending, Between, LentEnough, lent_cells, call_run, call_events, firings_among}
use Rattle.model.specs.declared.Counts.{Counts}
use Rattle.model.specs.declared.Outcome.{Outcome}
use Rattle.model.specs.declared.Outcome.TheVariants as outcome
use Rattle.std.specs.Prelude.{Ok, Err}
use Rattle.flow.proofs.Laws.{fewer_clocks, room_left}
use Rattle.model_run.specs.Reports.{Reports, firings_of, clocks_of}
use Rattle.run_laws.proofs.Layouts.{lawful}
use Rattle.run_laws.proofs.Looks.{Looked, is_done, is_spent, is_starved, is_stalled, is_full_lem}
use Rattle.run_laws.proofs.Traces.{traced_ran, traced_fired, traced_join}
use Rattle.run_laws.proofs.Ends.{EndsSo, ends_so}
use Rattle.run_laws.proofs.Calls.{wrote}
use Rattle.run_laws.proofs.Between.{Setting, Reached, now, beginning, ending, clocks, refused, ran, by_call, sound_start, sound_end, counted_call, lent_words, lent_length, width_right}

pub outcome_counts_lem : (e : Ending) (c : Counts) → outcome_counts (outcome_of e c) ≡ c
unfolding outcome_counts outcome_of
outcome_counts_lem Done c = refl
outcome_counts_lem Spent c = refl
outcome_counts_lem Starved c = refl
outcome_counts_lem Stalled c = refl
outcome_counts_lem Full c = refl

-- The ending that an answer reports.
ending_of : Outcome → Ending
ending_of (outcome.Done c) = Done
ending_of (outcome.Spent c) = Spent
ending_of (outcome.Starved c) = Starved
ending_of (outcome.Stalled c) = Stalled
ending_of (outcome.Full c) = Full

pub answered : Answer → Ending
answered (Ok o) = ending_of o
answered (Err x) = Done

pub answered_back : (e : Ending) (c : Counts) → answered (Ok (outcome_of e c)) ≡ e
unfolding answered ending_of outcome_of
answered_back Done c = refl
answered_back Spent c = refl
answered_back Starved c = refl
answered_back Stalled c = refl
answered_back Full c = refl

same_ending : (e f : Ending) (c d : Counts) → ◌≡◌ {A = Answer} (Ok (outcome_of e c)) (Ok (outcome_of f d)) → e ≡ f
same_ending e f c d x = sym (answered_back e c) ∙ ap answered x ∙ answered_back f d

module _ (S : Setting) (l : Lending) (b : Between) {es : List Bool} (r : Reached S b es) where
  open S use {trimmed as t, proper, accepted as ok, stream}

  -- Its clocks and firings are those of its events.
  pub call_clocks : clocks_of (call_run t stream l b) ≡ length (call_events t stream l b)
  unfolding answer_counts refused ran beginning begun
  call_clocks = by_call S l b r (λ x fs. clocks_of x ≡ length fs) (λ _. refl)
      (λ _. ap (λ (c : Counts). c.clocks) (outcome_counts_lem (ending S l b).ending _) ∙ (counted_call S l b).clocks ∙ add-zero _)

  pub call_firings : firings_of (call_run t stream l b) ≡ firings_among (call_events t stream l b)
  unfolding answer_counts refused ran beginning begun firings_among
  call_firings = by_call S l b r (λ x fs. firings_of x ≡ firings_among fs) (λ _. refl)
      (λ _. ap (λ (c : Counts). c.firings) (outcome_counts_lem (ending S l b).ending _) ∙ (counted_call S l b).firings ∙ add-zero _)

  -- Why the call ended.
  pub why : EndsSo (layout t) (written_by t) (width_of t) (lent_cells t stream l b) l.allowance (ending S l b) (clocks S l b)
  unfolding ending clocks
  why = ends_so (layout t) (written_by t) (width_of t) (lent_cells t stream l b) l.allowance (beginning S l b)

  -- A call that 10 does not turn back.
  pub not_short : short_store t (take l.front b.store) ≡ false → call_run t stream l b ≡ ran S l b
  not_short e = by_call S l b r (λ x _. x ≡ ran S l b) (λ d. absurd (false≢true (sym e ∙ d))) (λ _. refl)

  pub not_short_events : short_store t (take l.front b.store) ≡ false → call_events t stream l b ≡ clocks S l b
  not_short_events e = by_call S l b r (λ _ fs. fs ≡ clocks S l b) (λ d. absurd (false≢true (sym e ∙ d))) (λ _. refl)

  -- Why a call that reports an outcome ended so; it was not refused.
  pub record Why (e : Ending) : Type 0 where
    pub not_refused : short_store t (take l.front b.store) ≡ false
    pub rest : ℕ
    pub at_end_lem : Looked (layout t) (written_by t) (width_of t) (lent_cells t stream l b) rest (ending S l b).standing (ends e)

  pub reported : (e : Ending) → Reports (outcome_of e) (call_run t stream l b) → Why e
  unfolding refused ran
  reported e = by_call S l b r (λ x _. Reports (outcome_of e) x → Why e) (λ _ q. absurd (let d = q.answer in let z : ◌≡◌ {A = ℕ} 0 1 = cc in omega arith))
      (λ s q.
      let w = why in
      record {
        not_refused = s;
        rest = w.rest;
        at_end_lem = subst (λ (f : Ending). Looked (layout t) (written_by t) (width_of t) (lent_cells t stream l b) w.rest (ending S l b).standing (ends f))
            (same_ending (ending S l b).ending e (ending S l b).standing.done q.counts q.answer) w.why;
      })

  -- The call ended Done with all firings made, or Stalled.
  abbrev pub Over : Type 0
  Over = (((ending S l b).ending ≡ Done) × ((layout t).iterations ≤ (ending S l b).standing.counters.fired))
      ⊎ (((ending S l b).ending ≡ Stalled) × ((ending S l b).standing.counters.fired < (layout t).iterations)
      × (moves (layout t) (ending S l b).standing.counters ≡ false))

  -- Lent enough, it does so.
  pub enough_ends : LentEnough t l b → Over
  unfolding beginning begun layout ending
  enough_ends h = go (ending S l b).ending refl why.why
    where
      same_length : length (ending S l b).standing.output ≡ length l.output
      same_length = (wrote (layout t) (lawful t proper ok) (written_by t) (width_of t) (lent_cells t stream l b) stream _ (lent_words S l b) (width_right S)
          l.allowance (beginning S l b) (sound_start S l b r h.store)).same_length

      all_clocks : (ending S l b).standing.counters.fired < (layout t).iterations → length (es ++ clocks S l b) < t.count * (layout t).cells
      all_clocks f =
          fewer_clocks (layout t) (lawful t proper ok) (traced_ran (layout t) (traced_join (layout t) r.traced (counted_call S l b).traced)) f

      go : (e : Ending) → (ending S l b).ending ≡ e
          → Looked (layout t) (written_by t) (width_of t) (lent_cells t stream l b) why.rest (ending S l b).standing (ends e)
          → Over
      go Done x (is_done f) = inl (x, f)
      go Stalled x (is_stalled f _ _ m) = inr (x, f, m)
      go Spent x (is_spent f z) = absurd (omega (arith, all_clocks f, length-append es (clocks S l b), why.allowed, h.clocks))
      go Starved x (is_starved f _ c) =
          let snd = sound_end S l b r h.store in
          absurd (omega (arith, lent_length S l b, snd.taken, h.cells, (room_left (layout t) (lawful t proper ok) snd.invariant f).0))
      go Full x (is_full_lem f _ _ _ _ p) =
          let c = counted_call S l b in
          let n = firings_among (clocks S l b) in
          let fired = traced_fired (layout t) c.traced in
          let more : suc n ≤ (layout t).iterations - (now S b).fired = omega arith in
          absurd (omega (arith, mul-le-mul_right (width_of t) more, suc-mul n (width_of t), h.places, same_length, ap (λ (m : ℕ). m * width_of t) (c.firings ∙ add-zero n)))
