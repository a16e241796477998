-- One call of a run over a stream: what it adds.
use Prim.Native.Nat.{ℕ, ◌+◌, ◌*◌, ◌≤◌}
use mathlib.Core.Bool.{Bool, false}
use mathlib.Core.List.{List}
use mathlib.Core.Path.{◌≡◌, refl, sym, ◌∙◌, ap, subst}
use native.Mathlib.Nat.{add-zero, zero-mul}
use native.Mathlib.Omega.{arith}
use lib.ListN.{length, take}
use Rattle.model_run.specs.Clock.{Layout, first, next}
use Rattle.model_run.specs.Running.{layout, Standing, Run, call, clocked, short_store, begun, written_by, width_of}
use Rattle.model_run.specs.CallLists.{Lending, Between, lent_cells, call_run, firings_among}
use Rattle.model_run.specs.Words.{words_from}
use Rattle.model_run.specs.Reports.{firings_of}
use Rattle.run_laws.proofs.Layouts.{lawful}
use Rattle.run_laws.proofs.Looks.{along_call}
use Rattle.run_laws.proofs.Traces.{traced_fired}
use Rattle.run_laws.proofs.Held.{stored_length}
use Rattle.run_laws.proofs.Between.{Setting, Reached, now, beginning, ending, clocks, ran, sound_start, sound_end, counted_call, lent_words, lent_length, width_right}
use Rattle.run_laws.proofs.CallEnds.{call_firings, not_short, not_short_events}
use Rattle.run_laws.proofs.Words.{call_written, call_kept}
use Rattle.program_laws.proofs.Going.{Gone, call_gone, call_taken, call_fits}

-- A call keeps the length of the store.
store_kept : (L : Layout) (write : List ℕ → List ℕ) (size : ℕ) (lent : List ℕ) (left : ℕ) (s : Standing)
    → length (call L write size lent left s).standing.store ≡ length s.store
unfolding clocked
store_kept L write size lent = along_call L write size lent (λ _ s r _. length r.standing.store ≡ length s.store) (λ _ _ _ _. refl)
    (λ left s r es _ e. e ∙ stored_length L.capacity 0 _ s.store s.counters.passed (next L s.counters).passed s.store)

module _ (S : Setting) (l : Lending) (b : Between) {es : List Bool} (r : Reached S b es) (long : short_store S.trimmed (take l.front b.store) ≡ false) where
  open S use {trimmed as t, proper, accepted as ok, stream}

  abbrev end : Standing
  end = (ending S l b).standing

  pub end_clocks : end.done.clocks ≡ length (clocks S l b)
  unfolding beginning begun
  end_clocks = (counted_call S l b).clocks ∙ add-zero _

  pub end_firings : end.done.firings ≡ firings_among (clocks S l b)
  unfolding beginning begun
  end_firings = (counted_call S l b).firings ∙ add-zero _

  -- Its clocks are clocks of the run over the first `most` cells, if it is lent no others.
  pub end_gone : (most : ℕ) → first (now S b).passed + l.cells ≤ most → Gone (layout t) most (now S b) end.done.clocks end.counters
  unfolding ending clocks beginning begun
  end_gone most h =
      subst (λ (n : ℕ). Gone (layout t) most (now S b) n end.counters) (sym end_clocks)
      (call_gone (layout t) (lawful t proper ok) (written_by t) (width_of t) (lent_cells t stream l b) stream _ (lent_words S l b) (width_right S) most
      (omega (arith, lent_length S l b)) l.allowance (beginning S l b) (sound_start S l b r long))

  -- Cells.
  pub end_taken : first end.counters.passed ≡ first (now S b).passed + end.done.cells
  end_taken = (sound_end S l b r long).taken

  pub end_within : end.done.cells ≤ l.cells
  unfolding ending beginning begun
  end_within =
      omega (
        arith,
        lent_length S l b,
        call_taken (layout t) (lawful t proper ok) (written_by t) (width_of t) (lent_cells t stream l b) stream _ (lent_words S l b) (width_right S) l.allowance
            (beginning S l b) (sound_start S l b r long) (omega arith),
      )

  -- Firings and their words.
  pub end_fired : end.counters.fired ≡ (now S b).fired + end.done.firings
  unfolding beginning begun layout
  end_fired = omega (arith, traced_fired (layout t) (counted_call S l b).traced, end_firings)

  firings_of_lem : firings_of (call_run t stream l b) ≡ end.done.firings
  firings_of_lem = call_firings S l b r ∙ ap firings_among (not_short_events S l b r long) ∙ sym end_firings

  output_of_lem : (call_run t stream l b).output ≡ end.output
  unfolding ran
  output_of_lem = ap (λ (x : Run). x.output) (not_short S l b r long)

  pub end_words : take (end.done.firings * width_of t) end.output ≡ words_from t stream (now S b).fired end.done.firings
  end_words = rw (output_of_lem, firings_of_lem) at (call_written S l b r)

  pub end_length : length end.output ≡ length l.output
  end_length = rw output_of_lem at (call_kept S l b r).0

  pub end_fits : end.done.firings * width_of t ≤ length l.output
  unfolding ending beginning begun
  end_fits =
      omega (
        arith,
        end_length,
        call_fits (layout t) (lawful t proper ok) (written_by t) (width_of t) (lent_cells t stream l b) stream _ (lent_words S l b) (width_right S) l.allowance
            (beginning S l b) (omega (arith, zero-mul (width_of t))),
      )

  -- The store.
  pub end_store : length end.store ≡ length (take l.front b.store)
  unfolding ending beginning begun
  end_store = store_kept (layout t) (written_by t) (width_of t) (lent_cells t stream l b) l.allowance (beginning S l b)
