-- Each way through the functions of a pair, by what the functions that they call answered.
use Prim.Native.Nat.{ℕ, ◌≤◌, ◌<◌}
use mathlib.Core.List.{List}
use mathlib.Core.Path.{◌≡◌}
use lib.ListN.{length}
use borrow.Author.Tests.{lt-ltb, le-ltb}
use Rattle.model.specs.Answers.{verdict_number, first_of}
use Rattle.model.specs.Pairs.{plan_pair_of}
use Rattle.model_run.specs.PairRuns.{run_pair_of}
use Rattle.std.specs.Prelude.{Result, Ok, Err}
use Rattle.model.specs.declared.Chain.{Chain}
use Rattle.model.specs.declared.Outcome.{Outcome}
use Rattle.model.specs.declared.Ran.{Ran}
use Rattle.model.specs.declared.Refusal.{Refusal}
use Rattle.model.specs.declared.Refusal.TheVariants as refusal
use Rattle.model.specs.declared.Side.{Side}
use Rattle.model.specs.declared.State.{State}
use Rattle.pair_run.specs.Calls.{pair_ran}
use Rattle.zohmirka_words.specs.Words.{state_in, state_into, chain_in, chain_into, side_in}
use Rattle.zohmirka_reports.specs.declared.Report.{Report}
use Rattle.zohmirka_reports.specs.Reports.{report_of}
use Rattle.zohmirka_runs.specs.Runs.{state_left}
use Rattle.zohmirka_pairs.specs.PairWords.{plan_verdict, plan_pair_words, run_pair_words}

-- Planning.
module _ (grid rows first second chain : List ℕ) (g : Chain) (x y : Side) (eg : g ≡ chain_in grid) (ex : x ≡ side_in first) (ey : y ≡ side_in second) where
  abbrev planned : Result Chain Refusal
  planned = plan_pair_of g.grid rows g.bounds x y

  pub plan_refused : (r : Refusal) → planned ≡ Err r → record { refusal = verdict_number (Err r); chain = chain } ≡ plan_pair_words grid rows first second chain
  unfolding plan_pair_words plan_verdict
  plan_refused r q = rw (← eg, ← ex, ← ey, q)

  pub plan_short : (c : Chain) → planned ≡ Ok c → length chain < 212
      → record { refusal = verdict_number (Err refusal.ShortOutput); chain = chain } ≡ plan_pair_words grid rows first second chain
  unfolding plan_pair_words plan_verdict first_of
  plan_short c q h = rw (← eg, ← ex, ← ey, q, lt-ltb _ _ h)

  pub plan_written : (c : Chain) (chain' : List ℕ) → planned ≡ Ok c → 212 ≤ length chain → chain' ≡ chain_into c chain
      → record { refusal = verdict_number (Ok tt); chain = chain' } ≡ plan_pair_words grid rows first second chain
  unfolding plan_pair_words plan_verdict first_of chain_into
  plan_written c chain' q h f = rw (← eg, ← ex, ← ey, q, f, le-ltb _ _ h)

-- A run call.
module _ (state store cells out_first out_second : List ℕ) (allowance : ℕ) (chain rows first second : List ℕ) (c : Chain) (x y : Side) (s : State) (ran : Ran) (store' out' other' : List ℕ)
    (es : s ≡ state_in state) (ec : c ≡ chain_in chain) (ex : x ≡ side_in first) (ey : y ≡ side_in second)
    (d : pair_ran ran store' out' other' ≡ run_pair_of c rows x y s store cells out_first out_second allowance) where
  pub run_refused : (z : Refusal) (r : Report) → ran.answer ≡ Err z → r ≡ report_of (Err z)
      → record { report = r; state = state; store = store'; first = out'; second = other' } ≡ run_pair_words state store cells out_first out_second allowance chain rows first second
  unfolding run_pair_words state_left
  run_refused z r q f = rw (← es, ← ec, ← ex, ← ey, ← d, q, f)

  pub run_ended : (o : Outcome) (r : Report) (state' : List ℕ) → ran.answer ≡ Ok o → state' ≡ state_into ran.state state → r ≡ report_of (Ok o)
      → record { report = r; state = state'; store = store'; first = out'; second = other' } ≡ run_pair_words state store cells out_first out_second allowance chain rows first second
  unfolding run_pair_words state_left
  run_ended o r state' q g f = rw (← es, ← ec, ← ex, ← ey, ← d, q, g, f)
