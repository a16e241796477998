-- Demand 2, of the runs: every firing gives each reference's own cell, iterations in order, bit for bit.
use Rattle.std.specs.Prelude.{ℕ, ◌*◌, List, [], ◌∷◌, ◌≡◌, length, drop}
use Rattle.model.specs.Values.{Trimmed}
use Rattle.model_run.specs.Running.{width_of}
use Rattle.model_run.specs.CallLists.{Lending, Between, call_run, after, all_words, firings_made}
use Rattle.model_run.specs.Reports.{firings_of}
use Rattle.model_run.specs.Words.{words_from}
use Rattle.demands.specs.Demand3.{ListOfCalls, runs_of, chain_in}

module _ (t : Trimmed) (stream : ℕ → ℕ) where
  -- Of each call: its output is as long as it was, and the places past its firings' words are as they were.
  abbrev pub Kept : List Lending → Between → Type 0
  Kept [] b = Unit {0}
  Kept (l ∷ ls) b =
      (length (call_run t stream l b).output ≡ length l.output)
      × (drop (firings_of (call_run t stream l b) * width_of t) (call_run t stream l b).output
      ≡ drop (firings_of (call_run t stream l b) * width_of t) l.output)
      × Kept ls (after t stream l b)

-- All outputs together are the words of iterations 0, 1, 2, .. in order, as many as there were firings; later output places
-- are unchanged.
pub record Demand2 (q : ListOfCalls) : Type 0 where
  pub words : all_words (chain_in q) q.stream q.calls q.start
      ≡ words_from (chain_in q) q.stream 0 (firings_made (runs_of q))
  pub kept : Kept (chain_in q) q.stream q.calls q.start
