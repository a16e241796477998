-- States as words, and lists of run calls: a list of calls with these functions is a list that demands 2 and 3 speak of
-- (`model_run/specs/CallLists`).
use Rattle.std.specs.Prelude.{ℕ, ◌+◌, ◌≤◌, ◌<◌, List, [], ◌∷◌, ◌++◌, map, ◌≡◌, length, take, drop, Ok}
use Rattle.model.specs.Lists.{tabulate}
use Rattle.model.specs.Values.{trimmed}
use Rattle.model.specs.Judging.{judge_chain}
use Rattle.model_sheet.specs.Reading.{numbers_in, read_chain}
use Rattle.model_run.specs.CallLists.{Lending, Between, Fresh, call_run, after, after_all, runs}
use Rattle.model.specs.declared.Chain.{Chain}
use Rattle.model.specs.declared.State.{State}
use Rattle.zohmirka_words.specs.Words.{word_at, state_size, state_words, state_in, state_into, chain_in}
use Rattle.zohmirka_reports.specs.Reports.{report_of}
use Rattle.zohmirka_runs.specs.Runs.{Runs}
use Rattle.zohmirka.specs.Calls.{judge_call, judge_chain_call, run_sheet, run_chain}

-- A state, which has 32 input counters, comes back from its words; written into a slice that is long enough it comes back
-- too, and the later words stay.
pub record StateBack (s : State) : Type 0 where
  pub back : state_in (state_words s) ≡ s
  pub words : (ws : List ℕ) → state_size ≤ length ws → take state_size (state_into s ws) ≡ state_words s
  pub written : (ws : List ℕ) → state_size ≤ length ws → state_in (state_into s ws) ≡ s
  pub later : (ws : List ℕ) → state_size ≤ length ws → drop state_size (state_into s ws) ≡ drop state_size ws

abbrev pub StatesBack : Type 0
StatesBack = (s : State) → length s.passed ≡ 32 → StateBack s

-- Words come back from the state that they are.
abbrev pub WordsBack : Type 0
WordsBack = (ws : List ℕ) → state_size ≤ length ws → state_into (state_in ws) ws ≡ ws

-- A run call on one chain, which a sheet gives, or words and the rows lent beside them.
abbrev pub Call : Type 0
Call = (state store cells out : List ℕ) (allowance : ℕ) → Runs

abbrev pub on_sheet : (sheet : List ℕ) → Call
on_sheet sheet state store cells out allowance = run_sheet state store cells out allowance sheet

abbrev pub on_chain : (chain rows : List ℕ) → Call
on_chain chain rows state store cells out allowance = run_chain state store cells out allowance chain rows

-- What the caller keeps between two calls, and the state and the store that this is.
pub record Slices : Type 0 where
  pub state : List ℕ
  pub store : List ℕ

abbrev pub between : Slices → Between
between k = record { state = state_in k.state; store = k.store }

module _ (call : Call) (stream : ℕ → ℕ) where
  -- One call of a list: "the first one at the position that word 0 of the state says" (c/zohmirka.h).
  abbrev pub called : Lending → Slices → Runs
  called l k = call k.state (take l.front k.store) (tabulate l.cells (λ i. stream (word_at k.state 0 + i)))
      l.output l.allowance

  -- The slices after it, after a list, and the runs of the list.
  unfoldable pub left : Lending → Slices → Slices
  left l k = let r = called l k in record { state = r.state; store = r.store ++ drop l.front k.store }

  unfoldable pub left_all : List Lending → Slices → Slices
  left_all [] k = k
  left_all (l ∷ ls) k = left_all ls (left l k)

  unfoldable pub called_all : List Lending → Slices → List Runs
  called_all [] k = []
  called_all (l ∷ ls) k = called l k ∷ called_all ls (left l k)

module _ (call : Call) (c : Chain) (rows : List ℕ) (stream : ℕ → ℕ) where
  -- Each call is that of the list on the chain and its rows, with the state that the words are; it hands on what that call
  -- hands on, and the state's later words stay.
  pub record OneCall (l : Lending) (k : Slices) : Type 0 where
    pub report : (called call stream l k).report ≡ report_of (call_run (trimmed c rows) stream l (between k)).answer
    pub out : (called call stream l k).out ≡ (call_run (trimmed c rows) stream l (between k)).output
    pub hands_on : between (left call stream l k) ≡ after (trimmed c rows) stream l (between k)
    pub long : length (left call stream l k).state ≡ length k.state
    pub later : drop state_size (left call stream l k).state ≡ drop state_size k.state

  -- So is a list of calls: all reports, all outputs, and what it hands on at its end.
  pub record AllCalls (ls : List Lending) (k : Slices) : Type 0 where
    pub reports : map (λ r. r.report) (called_all call stream ls k)
        ≡ map (λ r. report_of r.answer) (runs (trimmed c rows) stream ls (between k))
    pub outs : map (λ r. r.out) (called_all call stream ls k) ≡ map (λ r. r.output) (runs (trimmed c rows) stream ls (between k))
    pub hands_on : between (left_all call stream ls k) ≡ after_all (trimmed c rows) stream ls (between k)

-- With 33 words or more, which "are 0 when fresh".
pub record Lists (call : Call) (c : Chain) (rows : List ℕ) : Type 0 where
  pub accepted : judge_chain c rows ≡ Ok tt
  pub fresh : (k : Slices) → state_size ≤ length k.state → ((i : ℕ) → i < state_size → word_at k.state i ≡ 0)
      → Fresh (trimmed c rows) (between k)
  pub one : (stream : ℕ → ℕ) (l : Lending) (k : Slices) → state_size ≤ length k.state → OneCall call c rows stream l k
  pub all : (stream : ℕ → ℕ) (ls : List Lending) (k : Slices) → state_size ≤ length k.state → AllCalls call c rows stream ls k

-- Of every chain, with any rows beside it, and of the chain that is read from every sheet that the judge calls accept.
abbrev pub ListsOnChains : Type 0
ListsOnChains = (chain rows : List ℕ) → judge_chain_call chain rows ≡ 0 → Lists (on_chain chain rows) (chain_in chain) rows

abbrev pub ListsOnSheets : Type 0
ListsOnSheets = (sheet : List ℕ) → judge_call sheet ≡ 0
    → (c : Chain) × (read_chain sheet ≡ Ok c) × Lists (on_sheet sheet) c (numbers_in sheet)
