-- What is due at each stage of the program `run`: what every step keeps.
use Prim.Native.Nat.{ℕ, suc, ◌≤◌, ◌<◌}
use mathlib.Core.Bool.{true, false}
use mathlib.Core.List.{List, [], ◌∷◌, ◌++◌, append-nil}
use mathlib.Core.Path.{◌≡◌, refl, sym, ◌∙◌, ap, ap₂, subst}
use native.Mathlib.Omega.{arith}
use lib.ListN.{length, take, drop, length-append}
use lib.Seq.{take-append_seam}
use borrow.Author.Tests.{lt-ltb}
use Rattle.model.specs.declared.Arriving.{Arriving}
use Rattle.model.specs.declared.CellLine.{CellLine}
use Rattle.model.specs.declared.Chain.{Chain}
use Rattle.model.specs.declared.State.{State}
use Rattle.model.specs.declared.Refusal.{Refusal}
use Rattle.std.specs.Prelude.{Ok, Err}
use Rattle.model.specs.Answers.{Verdict, by_verdict}
use Rattle.model.specs.Values.{trimmed}
use Rattle.model.specs.Judging.{most_places, judge_chain}
use Rattle.model_sheet.specs.Lines.{lines_of}
use Rattle.model_sheet.specs.Frames.{framed, feeds}
use Rattle.model_run.specs.Clock.{Counters, first}
use Rattle.model_run.specs.Clock as clock
use Rattle.model_run.specs.Running.{layout, counters_of, Starved, Ending, width_of}
use Rattle.model_sheet.specs.Reading.{complete, numbers_in}
use Rattle.model_sheet.specs.Arriving.{new_line}
use Rattle.model_program.specs.Programs.{Split, end_line, refusal_text, firings_text, end_text, cells_in, behind_cells, whole_run, run_text}
use Rattle.run_laws.proofs.Accepts.{accepted_chain}
use Rattle.run_laws.proofs.Between.{fresh_reached}
use Rattle.sheet_trips.proofs.AsItArrives.{infront, some}
use Rattle.program_jobs.specs.declared.Job.{Job}
use Rattle.program_stages.specs.declared.Stage.{Stage}
use Rattle.program_stages.specs.declared.Stage.TheVariants as stage
use Rattle.program_stages.specs.Stages.{sheet_stage, cells_stage}
use Rattle.program_jobs.specs.Jobs.{fresh}
use Rattle.program_laws.proofs.Sheets.{split_of, text_with, Midway, Read, further, back, whole, chain_back, chain_runs}
use Rattle.program_laws.proofs.CellLines.{Gives, is_open, is_back}
use Rattle.program_laws.proofs.Going.{Gone, still, goes_on, ending_at, starved_stops}
use Rattle.program_laws.proofs.WholeRun.{setting_of, fresh_counters, none_passed, whole_text, whole_ending}
use Rattle.program_laws.proofs.Runs.{Stands}

abbrev pub chain_of : Job → Chain
chain_of j = j.arriving.reading.chain

module _ (input : List ℕ) where
  -- Behind the sheet, with these cells at hand: all cells, the verdict behind them, and where the run over them stands.
  pub record Runs (j : Job) (rows rest store written hand : List ℕ) : Type 0 where
    pub ok : judge_chain (chain_of j) rows ≡ Ok tt
    pub told : numbers_in input ≡ rows
    pub all : List ℕ
    pub behind : Verdict
    pub later : List ℕ
    pub gives : Gives j.line rest later behind
    pub chain : (split_of input).step.reading.chain ≡ chain_of j
    pub cells : cells_in (split_of input).behind ≡ all
    pub stands : Stands (chain_of j) rows ok all j.state store j.clocks written hand later
    pub due : run_text input
        ≡ firings_text (width_of (trimmed (chain_of j) rows)) 0 (whole_run (trimmed (chain_of j) rows) all).standing.done.firings (whole_run (trimmed (chain_of j) rows) all).standing.output
        ++ end_text (whole_run (trimmed (chain_of j) rows) all).ending (whole_run (trimmed (chain_of j) rows) all).standing.done.clocks behind

  pub record InSheet (j : Job) (rows rest written : List ℕ) : Type 0 where
    pub midway : Midway input j.arriving rows rest
    pub state : j.state ≡ fresh
    pub clocks : j.clocks ≡ 0
    pub line : j.line ≡ new_line
    pub nothing : written ≡ []

  pub record InCells (j : Job) (rows rest store written : List ℕ) : Type 0 where
    pub run : Runs j rows rest store written []
    pub left : (counters_of (trimmed (chain_of j) rows).count j.state).fired < (layout (trimmed (chain_of j) rows)).iterations

  pub record InClocks (j : Job) (rows rest store cells written : List ℕ) : Type 0 where
    pub run : Runs j rows rest store written (drop j.from (take j.count cells))
    pub from : j.from ≤ j.count
    pub count : j.count ≤ length cells

  abbrev pub Due : Stage → Job → (rows rest store cells written : List ℕ) → Type 0
  Due stage.Sheet j rows rest store cells written = InSheet j rows rest written
  Due stage.Cells j rows rest store cells written = InCells j rows rest store written
  Due stage.Clocks j rows rest store cells written = InClocks j rows rest store cells written
  Due (stage.Ending way) j rows rest store cells written = written ++ framed (end_line way j.clocks) ≡ run_text input
  Due (stage.Refusing x) j rows rest store cells written = written ++ refusal_text x ≡ run_text input
  Due stage.Over j rows rest store cells written = written ≡ run_text input

  -- Where a run over all cells stops, its text is what was written and its last line.
  pub run_stops : (j : Job) (rows rest store written hand : List ℕ) (r : Runs j rows rest store written hand)
      → goes_on (layout (trimmed (chain_of j) rows)) (length r.all) (counters_of (trimmed (chain_of j) rows).count j.state) ≡ false
      → written ++ end_text (ending_at (layout (trimmed (chain_of j) rows)) (length r.all) (counters_of (trimmed (chain_of j) rows).count j.state)) j.clocks r.behind ≡ run_text input
  run_stops j rows rest store written hand r stop =
      ap (λ (x : List ℕ). x ++ end_text (ending_at (layout (trimmed (chain_of j) rows)) (length r.all) (counters_of (trimmed (chain_of j) rows).count j.state)) j.clocks r.behind) r.stands.text
      ∙ sym (whole_text (chain_of j) rows r.ok r.all j.clocks (counters_of (trimmed (chain_of j) rows).count j.state) r.behind r.stands.gone stop)
      ∙ sym r.due

-- Before the first call.
stands_fresh : (c : Chain) (rows : List ℕ) (ok : judge_chain c rows ≡ Ok tt) (all store : List ℕ) → most_places ≤ length store → Stands c rows ok all fresh store 0 [] [] all
unfolding counters_of firings_text
stands_fresh c rows ok all store long = record {
  es = [];
  reached = fresh_reached (setting_of c rows ok all) _ (record { counters = fresh_counters (trimmed c rows) });
  gone = subst (λ (s : Counters). Gone (layout (trimmed c rows)) (length all) (clock.fresh (layout (trimmed c rows))) 0 s) (sym (fresh_counters (trimmed c rows))) still;
  count = refl;
  text = refl;
  long = long;
  taken = [];
  split = refl;
  position = sym (none_passed (trimmed c rows));
}

-- Cells that come later may be at hand.
stands_regrouped : {c : Chain} {rows : List ℕ} {ok : judge_chain c rows ≡ Ok tt} {all : List ℕ} {state : State} {store : List ℕ} {clocks : ℕ} {written hand later hand' later' : List ℕ}
    → hand ++ later ≡ hand' ++ later' → Stands c rows ok all state store clocks written hand later → Stands c rows ok all state store clocks written hand' later'
stands_regrouped e a = record {
  es = a.es;
  reached = a.reached;
  gone = a.gone;
  count = a.count;
  text = a.text;
  long = a.long;
  taken = a.taken;
  split = a.split ∙ ap (λ (xs : List ℕ). a.taken ++ xs) e;
  position = a.position;
}

-- After a line of the sheet.
stage_further : (input : List ℕ) (a : Arriving) (rows rest : List ℕ) → Midway input a rows rest → sheet_stage a rows ≡ stage.Sheet
unfolding sheet_stage
stage_further input a rows rest m = rw (m.arriving, m.unended)

stage_back : (a : Arriving) (rows : List ℕ) (x : Refusal) → a.verdict ≡ Err x → sheet_stage a rows ≡ stage.Refusing x
unfolding sheet_stage
stage_back a rows x e = rw e

stage_whole : (a : Arriving) (rows : List ℕ) → a.verdict ≡ Ok tt → complete a.reading ≡ true
    → sheet_stage a rows ≡ by_verdict (judge_chain a.reading.chain rows) stage.Cells stage.Refusing
unfolding sheet_stage
stage_whole a rows e s = rw (e, s)

module _ (input : List ℕ) (j : Job) (rows rest store cells written : List ℕ) (long : most_places ≤ length store)
    (state : j.state ≡ fresh) (clocks : j.clocks ≡ 0) (line : j.line ≡ new_line) (nothing : written ≡ []) where
  run_begins : (ok : judge_chain (chain_of j) rows ≡ Ok tt) → complete j.arriving.reading ≡ true → numbers_in input ≡ rows
      → split_of input ≡ record { step = record { verdict = Ok tt; reading = j.arriving.reading }; behind = lines_of rest }
      → InCells input j rows rest store written
  unfolding feeds some infront layout counters_of
  run_begins ok s same due = record {
    run = record {
      ok = ok;
      told = same;
      all = cells_in (lines_of rest);
      behind = behind_cells (lines_of rest);
      later = cells_in (lines_of rest);
      gives = is_open [] line refl refl;
      chain = ap (λ (p : Split). p.step.reading.chain) due;
      cells = ap (λ (p : Split). cells_in p.behind) due;
      stands = rw (state, clocks, nothing) (stands_fresh (chain_of j) rows ok (cells_in (lines_of rest)) store long);
      due = text_with input rows _ same due ∙ chain_runs rows j.arriving.reading (lines_of rest) s ok;
    };
    left = rw state (accepted_chain (chain_of j) rows ok).iterates;
  }

  -- The stage that the sheet leaves.
  pub sheet_due : Read input j.arriving rows rest → Due input (sheet_stage j.arriving rows) j rows rest store cells written
  sheet_due (further m) =
      rw (stage_further input j.arriving rows rest m) (record { midway = m; state = state; clocks = clocks; line = line; nothing = nothing })
  sheet_due (back x e due) = rw (stage_back j.arriving rows x e, nothing) (sym due)
  sheet_due (whole e s same due) = rw (stage_whole j.arriving rows e s) (go (judge_chain (chain_of j) rows) refl)
    where
      go : (v : Verdict) → judge_chain (chain_of j) rows ≡ v → Due input (by_verdict v stage.Cells stage.Refusing) j rows rest store cells written
      go (Ok _) ok = run_begins ok s same due
      go (Err x) no-good = rw nothing (sym (text_with input rows _ same due ∙ chain_back rows j.arriving.reading (lines_of rest) x s no-good))

-- Where every cell is taken and none comes later, the run is starved.
module _ (input : List ℕ) (j : Job) (rows rest store written : List ℕ) (i : InCells input j rows rest store written) (none : i.run.later ≡ []) where
  stops : (goes_on (layout (trimmed (chain_of j) rows)) (length i.run.all) (counters_of (trimmed (chain_of j) rows).count j.state) ≡ false)
      × (ending_at (layout (trimmed (chain_of j) rows)) (length i.run.all) (counters_of (trimmed (chain_of j) rows).count j.state) ≡ Starved)
  stops =
      let r = i.run in
      let s = counters_of (trimmed (chain_of j) rows).count j.state in
      let all_taken_lem : length r.all ≤ first s.passed = omega (
        arith,
        ap length (r.stands.split ∙ ap (λ (xs : List ℕ). r.stands.taken ++ xs) none ∙ append-nil r.stands.taken),
        r.stands.position,
      ) in
      starved_stops (layout (trimmed (chain_of j) rows)) (length r.all) s i.left all_taken_lem

  pub starved_due : written ++ end_text Starved j.clocks i.run.behind ≡ run_text input
  starved_due =
      ap (λ (e : Ending). written ++ end_text e j.clocks i.run.behind) (sym stops.1) ∙ run_stops input j rows rest store written [] i.run stops.0

  pub starved_run : (whole_run (trimmed (split_of input).step.reading.chain (numbers_in input)) (cells_in (split_of input).behind)).ending ≡ Starved
  starved_run =
      let r = i.run in
      ap (λ (rows : List ℕ). (whole_run (trimmed (split_of input).step.reading.chain rows) (cells_in (split_of input).behind)).ending) r.told
      ∙ ap₂ (λ (c : Chain) (cs : List ℕ). (whole_run (trimmed c rows) cs).ending) r.chain r.cells
      ∙ whole_ending (chain_of j) rows r.ok r.all j.clocks (counters_of (trimmed (chain_of j) rows).count j.state) r.stands.gone stops.0 ∙ stops.1

-- The job after `05` lines: with the line and the cells that were read.
abbrev pub with_line : Job → Stage → CellLine → (from count : ℕ) → Job
with_line j s line from count = record { stage = s; arriving = j.arriving; state = j.state; clocks = j.clocks; line = line; from = from; count = count }

some_cells : (n : ℕ) (v : Verdict) → cells_stage (suc n) v ≡ stage.Clocks
unfolding cells_stage
some_cells n v = let z : 0 < suc n = omega arith in rw (lt-ltb 0 (suc n) z)

module _ (input : List ℕ) (j : Job) (rows rest store written : List ℕ) (i : InCells input j rows rest store written) where
  abbrev r : Runs input j rows rest store written []
  r = i.run

  runs_on : (s : Stage) (line : CellLine) (from count : ℕ) (rest' hand later' : List ℕ) → r.later ≡ hand ++ later' → Gives line rest' later' r.behind
      → Runs input (with_line j s line from count) rows rest' store written hand
  runs_on s line from count rest' hand later' e g = record {
    ok = r.ok;
    told = r.told;
    all = r.all;
    behind = r.behind;
    later = later';
    gives = g;
    chain = r.chain;
    cells = r.cells;
    stands = stands_regrouped e r.stands;
    due = r.due;
  }

  -- A line that was turned back, where no cell is left.
  back_due : (line : CellLine) (rest' later' : List ℕ) (x : Refusal) → r.later ≡ later' → Gives line rest' later' r.behind → line.verdict ≡ Err x
      → written ++ refusal_text x ≡ run_text input
  back_due line rest' later' x e (is_open p q _ _) v = absurd (let d = ap (λ (l : CellLine). l.verdict) q in let z : ◌≡◌ {A = ℕ} 0 1 = cc in omega arith)
  back_due line rest' later' x e (is_back y w none b) v =
      let same : r.behind ≡ Err x = b ∙ sym w ∙ v in
      ap (λ (u : Verdict). written ++ end_text Starved j.clocks u) (sym same) ∙ starved_due input j rows rest store written i (e ∙ none)

  -- The stage that they leave.
  pub cells_due : (line : CellLine) (cs rest' later' cells : List ℕ) → r.later ≡ cs ++ later' → Gives line rest' later' r.behind
      → Due input (cells_stage (length cs) line.verdict) (with_line j (cells_stage (length cs) line.verdict) line 0 (length cs)) rows rest' store (cs ++ cells) written
  unfolding cells_stage
  cells_due line [] rest' later' cells e g = go line.verdict refl
    where
      go : (v : Verdict) → line.verdict ≡ v
          → Due input (by_verdict v stage.Cells stage.Refusing) (with_line j (by_verdict v stage.Cells stage.Refusing) line 0 0) rows rest' store ([] ++ cells) written
      go (Ok _) v = record { run = runs_on stage.Cells line 0 0 rest' [] later' e g; left = i.left }
      go (Err x) v = back_due line rest' later' x e g v
  cells_due line (c ∷ cs) rest' later' cells e g = rw (some_cells (length cs) line.verdict) (record {
    run = subst (λ (h : List ℕ). Runs input (with_line j stage.Clocks line 0 (length (c ∷ cs))) rows rest' store written h) (sym (take-append_seam (c ∷ cs) cells))
        (runs_on stage.Clocks line 0 (length (c ∷ cs)) rest' (c ∷ cs) later' e g);
    from = omega arith;
    count = omega (arith, length-append (c ∷ cs) cells);
  })
