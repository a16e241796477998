-- One step of the program `run`, stage by stage: it keeps what is due, and brings the end nearer.
use Prim.Native.Nat.{ℕ, ◌+◌, ◌*◌, ◌-◌, ◌≤◌, ◌<◌}
use mathlib.Core.Bool.{Bool, true, false, cond}
use mathlib.Core.List.{List, ◌++◌, append-nil, flatten}
use mathlib.Core.Path.{◌≡◌, refl, sym, ◌∙◌, ap, subst}
use native.Mathlib.Omega.{arith}
use lib.Dec.{ltb}
use lib.ListN.{length, take, drop, length-append, length-drop}
use lib.Seq.{drop-drop}
use Rattle.model.specs.declared.Arriving.{Arriving}
use Rattle.model.specs.declared.Refusal.{Refusal}
use Rattle.std.specs.Prelude.{Ok, Err}
use Rattle.model.specs.Answers.{Verdict, by_verdict}
use Rattle.model.specs.Judging.{most_places, judge_chain}
use Rattle.model_run.specs.Running.{Ending}
use Rattle.model_sheet.specs.Reading.{complete}
use Rattle.model_sheet.specs.Arriving.{arrive, through_feed, CellsRead, read_cells}
use Rattle.model_program.specs.Programs.{run_text, most_words, longest_firing}
use Rattle.program_intake.specs.Taken.{line_taken}
use Rattle.program_cells.specs.Cells.{cells_taken}
use Rattle.program_jobs.specs.declared.Job.{Job}
use Rattle.program_stages.specs.declared.Stage.{Stage}
use Rattle.program_stages.specs.declared.Stage.TheVariants as stage
use Rattle.program_stages.specs.Stages.{sheet_stage, cells_stage}
use Rattle.program_driver.specs.RunSteps.{Left, sheet_read, cells_read, last_line}
use Rattle.program_laws.specs.Whole.{Loop, NonEmpty}
use Rattle.program_laws.proofs.Sheets.{line_read, piece_within, piece_some}
use Rattle.program_laws.proofs.CellLines.{cells_read_lem, one_at_least, none_behind}
use Rattle.program_laws.proofs.Texts.{laid_fitting}
use Rattle.program_laws.proofs.Due.{InSheet, InCells, Due, sheet_due, cells_due}

-- The rest of the input.
abbrev pub rest_of : Loop → List ℕ
rest_of l = drop l.at l.block ++ flatten l.blocks

-- What holds before every turn.
pub record Holds (input : List ℕ) (l : Loop) : Type 0 where
  pub due : Due input l.job.stage l.job l.rows (rest_of l) l.store l.cells l.written
  pub at : l.at ≤ length l.block
  pub blocks : NonEmpty l.blocks
  pub store : most_places ≤ length l.store
  pub cells : 1 ≤ length l.cells
  pub words : most_words ≤ length l.words
  pub text : longest_firing ≤ length l.text

-- How far the end is at most.
abbrev pub rank : Stage → ℕ
rank stage.Sheet = 2
rank stage.Cells = 2
rank stage.Clocks = 3
rank (stage.Ending way) = 1
rank (stage.Refusing x) = 1
rank stage.Over = 0

abbrev pub weight : Loop → ℕ
weight l = 3 * (length (rest_of l) + (33554432 - l.job.clocks)) + rank l.job.stage

-- The loop after a step.
abbrev pub onward : Loop → Left → Loop
onward l s = record {
  job = s.step.job;
  block = l.block;
  at = s.step.at;
  blocks = l.blocks;
  rows = s.rows;
  store = s.store;
  cells = s.cells;
  words = s.words;
  text = s.text;
  written = l.written ++ take s.step.bytes s.text;
}

pub record Advances (input : List ℕ) (l : Loop) (s : Left) : Type 0 where
  pub holds : Holds input (onward l s)
  pub nearer : weight (onward l s) < weight l

module _ (input : List ℕ) (l : Loop) (h : Holds input l) where
  abbrev j : Job
  j = l.job

  pub due_at : (s : Stage) → l.job.stage ≡ s → Due input s j l.rows (rest_of l) l.store l.cells l.written
  due_at s e = subst (λ (x : Stage). Due input x j l.rows (rest_of l) l.store l.cells l.written) e h.due

  -- A line of the sheet.
  abbrev piece : List ℕ
  piece = through_feed (drop l.at l.block)

  rest_after : (n : ℕ) → drop (l.at + n) l.block ++ flatten l.blocks ≡ drop n (drop l.at l.block) ++ flatten l.blocks
  rest_after n = ap (λ (xs : List ℕ). xs ++ flatten l.blocks) (sym (drop-drop n l.at l.block))

  rest_length : (n : ℕ) → n ≤ length (drop l.at l.block) → length (drop (l.at + n) l.block ++ flatten l.blocks) + n ≡ length (rest_of l)
  rest_length n g =
      omega (
        arith,
        length-append (drop (l.at + n) l.block) (flatten l.blocks),
        length-append (drop l.at l.block) (flatten l.blocks),
        length-drop (l.at + n) l.block,
        length-drop l.at l.block,
      )

  rank_sheet : (a : Arriving) (rows : List ℕ) → rank (sheet_stage a rows) ≤ 2
  unfolding sheet_stage
  rank_sheet a rows = go a.verdict (complete a.reading) (judge_chain a.reading.chain rows)
    where
      go : (v : Verdict) (b : Bool) (w : Verdict) → rank (by_verdict v (cond b (by_verdict w stage.Cells stage.Refusing) stage.Sheet) stage.Refusing) ≤ 2
      go (Err x) b w = omega arith
      go (Ok _) false w = omega arith
      go (Ok _) true (Ok _) = omega arith
      go (Ok _) true (Err x) = omega arith

  pub sheet_step : l.job.stage ≡ stage.Sheet → l.at < length l.block → Advances input l (sheet_read j l.block l.at l.rows l.store l.cells l.words l.text)
  unfolding sheet_read line_taken
  sheet_step e some =
      let i : InSheet input j l.rows (rest_of l) l.written = due_at stage.Sheet e in
      let a = arrive true (record { sheet = j.arriving; rows = l.rows }) piece in
      let n = length piece in
      let within = piece_within (drop l.at l.block) in
      let more = piece_some (drop l.at l.block) (omega (arith, length-drop l.at l.block)) in
      let read = line_read input (drop l.at l.block) (flatten l.blocks) j.arriving l.rows i.midway in
      let lengths = rest_length n within in
      record {
        holds = record {
          due = sheet_due input _ _ _ l.store l.cells _ h.store i.state i.clocks i.line (append-nil l.written ∙ i.nothing) (rw (rest_after n) read);
          at = omega (arith, length-drop l.at l.block);
          blocks = h.blocks;
          store = h.store;
          cells = h.cells;
          words = h.words;
          text = h.text;
        };
        nearer = omega (arith, rank_sheet a.sheet a.rows, ap rank e);
      }

  -- `05` lines: the characters of an open line, or a line that was turned back.
  abbrev read : CellsRead
  read = read_cells (length l.cells) j.line (drop l.at l.block)

  rank_cells : (n : ℕ) (v : Verdict) → rank (cells_stage n v) ≤ 3
  unfolding cells_stage
  rank_cells n v = go (ltb 0 n) v
    where
      go : (b : Bool) (v : Verdict) → rank (cond b stage.Clocks (by_verdict v stage.Cells stage.Refusing)) ≤ 3
      go true v = omega arith
      go false (Ok _) = omega arith
      go false (Err x) = omega arith

  rank_back : (x : Refusal) → rank (cells_stage 0 (Err x)) ≡ 1
  unfolding cells_stage
  rank_back x = refl

  cells_nearer : (v : Verdict) → j.line.verdict ≡ v → (v ≡ Ok tt → l.at < length l.block)
      → rank (cells_stage (length read.cells) read.line.verdict) < 3 * read.looked + 2
  cells_nearer (Ok _) e some =
      omega (
        arith,
        rank_cells (length read.cells) read.line.verdict,
        one_at_least (drop l.at l.block) (length l.cells) j.line e h.cells (omega (arith, some refl, length-drop l.at l.block)),
      )
  cells_nearer (Err x) e some =
      rw (none_behind (drop l.at l.block) (length l.cells) j.line x e, e) (omega (arith, rank_back x))

  pub cells_step : l.job.stage ≡ stage.Cells → (j.line.verdict ≡ Ok tt → l.at < length l.block)
      → Advances input l (cells_read j l.block l.at l.rows l.store l.cells l.words l.text)
  unfolding cells_read cells_taken
  cells_step e some =
      let i : InCells input j l.rows (rest_of l) l.store l.written = due_at stage.Cells e in
      let got = cells_read_lem (drop l.at l.block) (flatten l.blocks) (length l.cells) j.line i.run.later i.run.behind i.run.gives in
      let lengths = rest_length read.looked got.within in
      record {
        holds = record {
          due = rw (rest_after read.looked, append-nil l.written)
              (cells_due input j l.rows (rest_of l) l.store l.written i read.line read.cells
              (drop read.looked (drop l.at l.block) ++ flatten l.blocks) got.later (drop (length read.cells) l.cells) got.split got.gives);
          at = omega (arith, got.within, length-drop l.at l.block);
          blocks = h.blocks;
          store = h.store;
          cells = omega (arith, h.cells, length-append read.cells (drop (length read.cells) l.cells), length-drop (length read.cells) l.cells);
          words = h.words;
          text = h.text;
        };
        nearer = omega (arith, cells_nearer j.line.verdict refl some, ap rank e);
      }

  -- The last line.
  pub last_step : (line : List ℕ) → l.written ++ line ≡ run_text input → length line ≤ 13 → rank l.job.stage ≡ 1
      → Advances input l (last_line j line l.at l.rows l.store l.cells l.words l.text)
  unfolding last_line
  last_step line due short e =
      let laid = laid_fitting line l.text (omega (arith, h.text)) in
      record {
        holds = record {
          due = ap (λ (xs : List ℕ). l.written ++ xs) laid.0 ∙ due;
          at = h.at;
          blocks = h.blocks;
          store = h.store;
          cells = h.cells;
          words = h.words;
          text = omega (arith, laid.1, h.text);
        };
        nearer = omega arith;
      }
