-- A whole list of calls: its clocks are those of one run from the fresh counters.
use Prim.Native.Nat.{◌+◌}
use mathlib.Core.Bool.{Bool, true, false}
use mathlib.Core.List.{List, [], ◌∷◌, ◌++◌, append_assoc, append-nil}
use mathlib.Core.Path.{◌≡◌, refl, sym, ◌∙◌, ap₂}
use native.Mathlib.Nat.{zero-add}
use native.Mathlib.Omega.{arith}
use lib.ListN.{length, length-append}
use Rattle.model.specs.Lists.{sum}
use Rattle.model_run.specs.Running.{Run}
use Rattle.model_run.specs.CallLists.{Lending, Between, call_run, call_events, after, after_all, runs, all_events, clocks_made, firings_made, firings_among}
use Rattle.model_run.specs.Reports.{Each}
use Rattle.run_laws.proofs.Between.{Setting, Reached, after_reached}
use Rattle.run_laws.proofs.CallEnds.{call_clocks, call_firings}

pub firings_append : (es fs : List Bool) → firings_among (es ++ fs) ≡ firings_among es + firings_among fs
unfolding firings_among
firings_append [] fs = sym (zero-add _)
firings_append (true ∷ es) fs = omega (arith, firings_append es fs)
firings_append (false ∷ es) fs = firings_append es fs

module _ (S : Setting) where
  open S use {trimmed as t, proper, accepted as ok, stream}

  pub list_reached : (ls : List Lending) (b : Between) (es : List Bool) → Reached S b es
      → Reached S (after_all t stream ls b) (es ++ all_events t stream ls b)
  unfolding after_all all_events
  list_reached [] b es r = rw append-nil r
  list_reached (l ∷ ls) b es r =
      rw (← (append_assoc es (call_events t stream l b) (all_events t stream ls (after t stream l b))))
      (list_reached ls (after t stream l b) (es ++ call_events t stream l b) (after_reached S l b r))

  -- What holds of every call of a list.
  pub each_run : (P : Run → Type 0) → ((l : Lending) (b : Between) (es : List Bool) → Reached S b es → P (call_run t stream l b))
      → (ls : List Lending) (b : Between) (es : List Bool) → Reached S b es → Each P (runs t stream ls b)
  unfolding runs
  each_run P p [] b es r = tt
  each_run P p (l ∷ ls) b es r = (p l b es r, each_run P p ls (after t stream l b) (es ++ call_events t stream l b) (after_reached S l b r))

  -- The sums over the list are counted by its events.
  pub list_clocks : (ls : List Lending) (b : Between) (es : List Bool) → Reached S b es → length (all_events t stream ls b) ≡ clocks_made (runs t stream ls b)
  unfolding all_events runs clocks_made sum
  list_clocks [] b es r = refl
  list_clocks (l ∷ ls) b es r =
      length-append (call_events t stream l b) (all_events t stream ls (after t stream l b))
      ∙ ap₂ ◌+◌ (sym (call_clocks S l b r)) (list_clocks ls (after t stream l b) _ (after_reached S l b r))

  pub list_firings : (ls : List Lending) (b : Between) (es : List Bool) → Reached S b es
      → firings_among (all_events t stream ls b) ≡ firings_made (runs t stream ls b)
  unfolding all_events runs firings_made sum firings_among
  list_firings [] b es r = refl
  list_firings (l ∷ ls) b es r =
      firings_append (call_events t stream l b) (all_events t stream ls (after t stream l b))
      ∙ ap₂ ◌+◌ (sym (call_firings S l b r)) (list_firings ls (after t stream l b) _ (after_reached S l b r))
