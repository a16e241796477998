-- Demand 2, of the runs: the proofs.
use Prim.Native.Nat.{ℕ}
use mathlib.Core.Bool.{Bool}
use mathlib.Core.List.{List, [], ◌∷◌, ◌++◌}
use mathlib.Core.Path.{◌≡◌, refl, ◌∙◌, ap, ap₂}
use Rattle.model.specs.Lists.{sum}
use Rattle.model_run.specs.CallLists.{Lending, Between, call_run, after, runs, all_words, firings_made, firings_among}
use Rattle.model_run.specs.Reports.{firings_of}
use Rattle.demands.specs.Demand3.{ListOfCalls, runs_of, chain_in}
use Rattle.model_run.specs.Words.{words_from}
use Rattle.demands.specs.Demand2.{Kept, Demand2}
use Rattle.run_laws.proofs.Between.{Setting, Reached, now, reached_fired, after_reached}
use Rattle.model_run.proofs.WordLaws.{words_append}
use Rattle.run_laws.proofs.Words.{call_written, call_kept, fired_after}
use Rattle.demands.proofs.Finishing.{setting, start}

module _ (S : Setting) where
  open S use {trimmed as t, stream}

  pub list_words : (ls : List Lending) (b : Between) (es : List Bool) → Reached S b es
      → all_words t stream ls b ≡ words_from t stream (now S b).fired (firings_made (runs t stream ls b))
  unfolding all_words runs firings_made sum words_from
  list_words [] b es r = refl
  list_words (l ∷ ls) b es r =
      ap₂ (λ (x y : List ℕ). x ++ y) (call_written S l b r)
      (list_words ls (after t stream l b) _ (after_reached S l b r) ∙ ap (λ (j : ℕ). words_from t stream j (firings_made (runs t stream ls (after t stream l b)))) (fired_after S l b r))
      ∙ words_append t stream (now S b).fired (firings_of (call_run t stream l b)) (firings_made (runs t stream ls (after t stream l b)))

  pub list_kept : (ls : List Lending) (b : Between) (es : List Bool) → Reached S b es → Kept t stream ls b
  list_kept [] b es r = tt
  list_kept (l ∷ ls) b es r = let k = call_kept S l b r in (k.0, k.1, list_kept ls (after t stream l b) _ (after_reached S l b r))

pub demand_2 : (q : ListOfCalls) → Demand2 q
unfolding firings_among
demand_2 q =
    let t = chain_in q in
    record {
      words = list_words (setting q) q.calls q.start [] (start q)
          ∙ ap (λ (j : ℕ). words_from t q.stream j (firings_made (runs_of q))) (reached_fired (setting q) (start q));
      kept = list_kept (setting q) q.calls q.start [] (start q);
    }
