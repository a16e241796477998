-- What the functions for two kernels on one chain answer, and what they leave in the slices that they are lent.
use Rattle.std.specs.Result.{result_unwrap_or}
use Rattle.std.specs.Prelude.{ℕ, List, [], ◌∷◌, ltb, length, Result, Err}
use Rattle.model.specs.Answers.{Verdict, verdict_number, check, first_of, by_verdict, verdict_of, by_answer}
use Rattle.model.specs.Pairs.{plan_pair_of}
use Rattle.model_run.specs.PairRuns.{run_pair_of}
use Rattle.model.specs.Values.{blank_chain}
use Rattle.model.specs.declared.Chain.{Chain}
use Rattle.model.specs.declared.Refusal.{Refusal}
use Rattle.model.specs.declared.Refusal.TheVariants as refusal
use Rattle.zohmirka_words.specs.Words.{state_in, chain_in, chain_size, chain_words, side_in, laid}
use Rattle.zohmirka_reports.specs.declared.Report.{Report}
use Rattle.zohmirka_reports.specs.Reports.{report_of}
use Rattle.zohmirka_runs.specs.Runs.{state_left}

-- Planning: the number, and the words of the chain.
pub record PairPlan : Type 0 where
  pub refusal : ℕ
  pub chain : List ℕ

-- "12 last"
unfoldable pub plan_verdict : Result Chain Refusal → (room : ℕ) → Verdict
plan_verdict p room =
    let last = first_of (check (ltb room chain_size) refusal.ShortOutput ∷ []) in
    by_answer p (λ c. last) Err

-- Of the words of a grid, which are a chain's, grid and box play a part.
unfoldable pub plan_pair_words : (grid rows first second chain : List ℕ) → PairPlan
plan_pair_words grid rows first second chain =
    let p = plan_pair_of (chain_in grid).grid rows (chain_in grid).bounds (side_in first) (side_in second) in
    let v = plan_verdict p (length chain) in
    record { refusal = verdict_number v; chain = by_verdict v (laid (chain_words (result_unwrap_or p blank_chain)) chain) (λ x. chain) }

-- A run call: its report, and the state, the store and the outputs that it was lent.
pub record PairRuns : Type 0 where
  pub report : Report
  pub state : List ℕ
  pub store : List ℕ
  pub first : List ℕ
  pub second : List ℕ

module _ (state store cells out_first out_second : List ℕ) (allowance : ℕ) where
  unfoldable pub run_pair_words : (chain rows first second : List ℕ) → PairRuns
  run_pair_words chain rows first second =
      let ran = run_pair_of (chain_in chain) rows (side_in first) (side_in second) (state_in state)
      store cells out_first out_second
      allowance in
      record {
        report = report_of ran.answer;
        state = state_left ran.answer ran.state state;
        store = ran.store;
        first = ran.first;
        second = ran.second;
      }
