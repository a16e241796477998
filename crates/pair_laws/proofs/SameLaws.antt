-- Two calls of the raw chain that are lent places for other numbers of firings.
use Prim.Native.Nat.{ℕ, suc, ◌+◌, ◌*◌, ◌≤◌, ◌<◌}
use mathlib.Core.List.{List, ◌++◌}
use mathlib.Core.Path.{◌≡◌, refl, sym, ◌∙◌, ap}
use lib.ListN.{length, replicate}
use lib.Seq.{sets}
use Rattle.model.specs.Values.{Trimmed}
use Rattle.model_run.specs.Clock.{Layout}
use Rattle.model_run.specs.Running.{layout, Standing, Full, Ended, call, begun, written_by, width_of, ended}
use Rattle.model.specs.declared.State.{State}
use Rattle.run_laws.proofs.Looks.{along_call}
use Rattle.model.specs.Pairs.{raw_of}
use Rattle.model_run.specs.PairRuns.{by_rows}
use Rattle.pair_laws.proofs.BesideLaws.{alike_unless_full, length_clocked}
use Rattle.pair_laws.proofs.RawLaws.{raw_counters, raw_width, raw_written}
use Rattle.pair_laws.proofs.RowsLaws.{rows_fire}

pub length_output : (L : Layout) (write : List ℕ → List ℕ) (size : ℕ) (lent : List ℕ) (left : ℕ) (s : Standing) → length (call L write size lent left s).standing.output ≡ length s.output
length_output L write size lent = along_call L write size lent (λ _ s r _. length r.standing.output ≡ length s.output) (λ _ _ _ _. refl)
    (λ left s r es _ e. e ∙ length_clocked L lent write write size size s)

-- ---- two pairs on one chain

module _ (t : Trimmed) (some : 0 < t.count) (s : State) (store lent : List ℕ) (allowance : ℕ) (R R' : ℕ) where
  abbrev raw : ℕ → Ended
  raw r = ended (raw_of t) s store lent (replicate (r * t.count) 0) allowance

  -- The same rows, whatever is written of them.
  unfoldable pub Same : ℕ → List ℕ → List ℕ → Type 0
  Same f o o' = (write : List ℕ → List ℕ) → by_rows t.count write f o ≡ by_rows t.count write f o'

  pub same_fire : (f : ℕ) (o o' ws : List ℕ) → length ws ≡ t.count → f * width_of (raw_of t) + width_of (raw_of t) ≤ length o → f * width_of (raw_of t) + width_of (raw_of t) ≤ length o' → Same f o o'
      → Same (suc f) (sets o (f * width_of (raw_of t)) (written_by (raw_of t) ws)) (sets o' (f * width_of (raw_of t)) (written_by (raw_of t) ws))
  unfolding Same
  same_fire f o o' ws e h h' q write =
      rw (raw_width t, raw_written t ws e)
      (rows_fire t.count write f o ws e (rw (raw_width t) at h) ∙ ap (λ (x : List ℕ). x ++ write ws) (q write) ∙ sym (rows_fire t.count write f o' ws e (rw (raw_width t) at h')))

  pub record BothRaw : Type 0 where
    pub ending : (raw R').ending ≡ (raw R).ending
    pub counters : (raw R').standing.counters ≡ (raw R).standing.counters
    pub words : (raw R').standing.store ≡ (raw R).standing.store
    pub done : (raw R').standing.done ≡ (raw R).standing.done
    pub rows : (write : List ℕ → List ℕ) → by_rows t.count write (raw R).standing.done.firings (raw R).standing.output ≡ by_rows t.count write (raw R).standing.done.firings (raw R').standing.output

  pub both_raw : ((raw R).ending ≡ Full → ⊥) → ((raw R').ending ≡ Full → ⊥) → BothRaw
  unfolding ended begun Same by_rows
  both_raw n n' =
      let L = layout (raw_of t) in
      let w = written_by (raw_of t) in
      let m = width_of (raw_of t) in
      let from = begun (raw_of t) s store (replicate (R * t.count) 0) in
      let a = alike_unless_full L lent w w m m t.count Same same_fire allowance from (replicate (R' * t.count) 0) (raw_counters t s store (replicate (R * t.count) 0)) (n, n') (λ write. refl) in
      let same = a.along.same in
      record {
        ending = a.ending;
        counters = ap (λ (x : Standing). x.counters) same;
        words = ap (λ (x : Standing). x.store) same;
        done = ap (λ (x : Standing). x.done) same;
        rows = λ write. a.along.related write ∙ ap (λ (x : Standing). by_rows t.count write (raw R).standing.done.firings x.output) (sym same);
      }
