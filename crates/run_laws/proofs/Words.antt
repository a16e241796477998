-- What one call of a list writes: the words of the iterations that it fires.
use Prim.Native.Nat.{ℕ, zero, suc, ◌+◌, ◌*◌, ◌≤◌}
use mathlib.Core.Bool.{Bool, false}
use mathlib.Core.List.{List, ◌++◌}
use mathlib.Core.Path.{◌≡◌, refl, sym, ◌∙◌, ap, ap₂}
use native.Mathlib.Nat.{zero-add, zero-mul}
use native.Mathlib.Omega.{arith}
use lib.ListN.{length, take, drop}
use Rattle.model.specs.Iterations.{iterations_of}
use Rattle.model_run.specs.Clock.{first}
use Rattle.model_run.specs.Running.{layout, short_store, begun, written_by, width_of, Run}
use Rattle.model_run.specs.CallLists.{Lending, Between, lent_cells, call_run, call_events, after, firings_among}
use Rattle.model_run.specs.Reports.{firings_of}
use Rattle.model_run.specs.Words.{words_of, words_from}
use Rattle.grid_laws.proofs.ListLaws.{tabulate_same}
use Rattle.run_laws.proofs.Layouts.{lawful, wants_read}
use Rattle.run_laws.proofs.Traces.{traced_fired}
use Rattle.run_laws.proofs.Calls.{firing_words, Wrote, wrote}
use Rattle.run_laws.proofs.Calls as call
use Rattle.run_laws.proofs.Between.{Setting, Reached, now, beginning, ending, clocks, refused, ran, by_call, sound_start, sound_end, counted_call, lent_words, width_right, reached_fired, after_reached}
use Rattle.run_laws.proofs.CallEnds.{call_firings}
use Rattle.run_laws.proofs.CallSums.{firings_append}

module _ (S : Setting) where
  open S use {trimmed as t, proper as p, accepted as a, stream}

  module _ (l : Lending) (b : Between) {es : List Bool} (r : Reached S b es) where
    -- The words of the call's firings, by the chain's layout;
    abbrev layout_words : (j n : ℕ) → List ℕ
    layout_words j n =
        call.words_from (layout t) (lawful t p a) (written_by t) (width_of t) (lent_cells t stream l b) stream (first (now S b).passed) (lent_words S l b)
        (width_right S) j n

    -- they are those of the cells that the references read.
    same_words : (j n : ℕ) → j + n ≤ iterations_of t → layout_words j n ≡ words_from t stream j n
    unfolding call.words_from firing_words words_from words_of layout
    same_words j zero h = refl
    same_words j (suc n) h =
        ap₂ (λ (x y : List ℕ). x ++ y) (ap (written_by t) (tabulate_same t.count _ _ (λ k _. ap stream (wants_read t p a j k (omega arith))))) (same_words (suc j) n (omega arith))

    all_wrote : short_store t (take l.front b.store) ≡ false
        → Wrote (layout t) (lawful t p a) (written_by t) (width_of t) (lent_cells t stream l b) stream (first (now S b).passed) (lent_words S l b) (width_right S)
        (beginning S l b) (ending S l b) (clocks S l b)
    unfolding ending clocks
    all_wrote e = wrote (layout t) (lawful t p a) (written_by t) (width_of t) (lent_cells t stream l b) stream _ (lent_words S l b) (width_right S)
        l.allowance (beginning S l b) (sound_start S l b r e)

    -- What one call writes, by its events.
    CallWords : Run → List Bool → Type 0
    CallWords x fs =
        (take (firings_among fs * width_of t) x.output ≡ words_from t stream (now S b).fired (firings_among fs))
        × (length x.output ≡ length l.output)
        × (drop (firings_among fs * width_of t) x.output ≡ drop (firings_among fs * width_of t) l.output)

    call_words : CallWords (call_run t stream l b) (call_events t stream l b)
    unfolding CallWords refused ran beginning begun firings_among words_from layout
    call_words = by_call S l b r CallWords (λ _. (rw zero-mul refl, refl, refl)) go
      where
        go : short_store t (take l.front b.store) ≡ false → CallWords (ran S l b) (clocks S l b)
        go e =
            let w = all_wrote e in
            let m = firings_among (clocks S l b) in
            let most = (sound_end S l b r e).invariant.most in
            let fired = traced_fired (layout t) (counted_call S l b).traced in (
              ap (λ (n : ℕ). take (n * width_of t) (ending S l b).standing.output) (sym (zero-add m)) ∙ w.written
                  ∙ ap (λ (n : ℕ). take n l.output ++ layout_words (now S b).fired m) (zero-mul (width_of t)) ∙ same_words (now S b).fired m (omega arith),
              w.same_length,
              w.later (m * width_of t) (omega (arith, ap (λ (n : ℕ). n * width_of t) (zero-add m))),
            )

    pub call_written : take (firings_of (call_run t stream l b) * width_of t) (call_run t stream l b).output
        ≡ words_from t stream (now S b).fired (firings_of (call_run t stream l b))
    unfolding CallWords
    call_written = rw (call_firings S l b r) call_words.0

    pub call_kept : (length (call_run t stream l b).output ≡ length l.output)
        × (drop (firings_of (call_run t stream l b) * width_of t) (call_run t stream l b).output ≡ drop (firings_of (call_run t stream l b) * width_of t) l.output)
    unfolding CallWords
    call_kept = (call_words.1, rw (call_firings S l b r) call_words.2)

    -- A call adds its firings to those made.
    pub fired_after : (now S (after t stream l b)).fired ≡ (now S b).fired + firings_of (call_run t stream l b)
    fired_after =
        omega (
          arith,
          reached_fired S (after_reached S l b r),
          reached_fired S r,
          firings_append es (call_events t stream l b),
          call_firings S l b r,
        )
