-- Reading in fixed memory, as the characters arrive: a sheet, and the cells that follow a chain sheet.
use Rattle.std.specs.Prelude.{ℕ, zero, suc, Bool, true, false, cond, List, [], ◌∷◌, eqb, replicate, Ok, Err}
use Rattle.model.specs.declared.Arriving.{Arriving}
use Rattle.model.specs.declared.CellLine.{CellLine}
use Rattle.model.specs.declared.Last.{Last}
use Rattle.model.specs.declared.Last.TheVariants as stood
use Rattle.model.specs.declared.LineStep.{LineStep}
use Rattle.model.specs.declared.Refusal.TheVariants as refusal
use Rattle.model.specs.Answers.{Verdict, by_verdict}
use Rattle.model_sheet.specs.Lines.{line_feed}
use Rattle.model_sheet.specs.Frames.{empty_frame, fed, shown, row_numbers, numbers_fed}
use Rattle.model_sheet.specs.Reading.{step_of, start, cell_verdict, cell_in}

abbrev pub opened : Arriving
opened = record { verdict = Ok tt; reading = start; frame = empty_frame; begun = false }

-- At its LF the open line is read.
abbrev pub closed : LineStep → Arriving
closed s = record { verdict = s.verdict; reading = s.reading; frame = empty_frame; begun = false }

-- One character more. After a refusal nothing is looked at. `rows`: the numbers on the sheet's first line, as far as they
-- have arrived.
unfoldable pub arrives : (chained : Bool) → (rows : List ℕ) → Arriving → ℕ → Arriving
arrives chained rows a c =
    let line = closed (step_of chained rows a.reading (shown a.frame)) in
    let longer : Arriving = record { verdict = Ok tt; reading = a.reading; frame = fed a.frame c; begun = true } in
    by_verdict a.verdict (cond (eqb c line_feed) line longer) (λ x. a)

-- No line of the sheet was read yet.
unfoldable pub stood_first : Last → Bool
stood_first stood.Nothing = true
stood_first stood.Grid = false
stood_first stood.Offset = false
stood_first stood.Name = false
stood_first stood.Box = false
stood_first stood.Capacity = false
stood_first stood.Order = false
stood_first stood.Kernel = false

-- The numbers with one character more: those of the first line alone.
unfoldable pub numbers_arrive : (rows : List ℕ) → Arriving → ℕ → List ℕ
numbers_arrive rows a c =
    let longer = cond (stood_first a.reading.last) (numbers_fed rows a.frame c) rows in
    by_verdict a.verdict longer (λ x. rows)

-- A sheet as it arrives, with the numbers on its first line.
pub record Arrived : Type 0 where
  pub sheet : Arriving
  pub rows : List ℕ

abbrev pub opening : Arrived
opening = record { sheet = opened; rows = replicate row_numbers 0 }

unfoldable pub arrive : (chained : Bool) → Arrived → List ℕ → Arrived
arrive chained a [] = a
arrive chained a (c ∷ cs) =
    arrive chained (record { sheet = arrives chained a.rows a.sheet c; rows = numbers_arrive a.rows a.sheet c }) cs

-- At the end of the input a line that is open lacks its LF.
unfoldable pub finished : Arriving → LineStep
finished a =
    let answered : Verdict → LineStep = λ v. record { verdict = v; reading = a.reading } in
    by_verdict a.verdict (answered (cond a.begun (Err refusal.Malformed) (Ok tt)))
    (λ x. answered (Err x))

-- Up to the first LF and with it; all where there is none.
unfoldable pub through_feed : List ℕ → List ℕ
through_feed [] = []
through_feed (c ∷ cs) = let rest = through_feed cs in cond (eqb c line_feed) (c ∷ []) (c ∷ rest)

-- Where cells are read: before a line's first character, one character more of it, and at its LF.
abbrev pub new_line : CellLine
new_line = record { verdict = Ok tt; frame = empty_frame; begun = false }

abbrev pub longer_line : CellLine → ℕ → CellLine
longer_line l c = record { verdict = Ok tt; frame = fed l.frame c; begun = true }

abbrev pub ended_line : CellLine → CellLine
ended_line l = record { verdict = cell_verdict (shown l.frame); frame = empty_frame; begun = false }

-- Cells read, the line that is open behind them or the one that was turned back, and how many characters were looked at.
pub record CellsRead : Type 0 where
  pub cells : List ℕ
  pub line : CellLine
  pub looked : ℕ

abbrev pub none : CellLine → CellsRead
none l = record { cells = []; line = l; looked = 0 }

abbrev pub one_more : CellsRead → CellsRead
one_more r = record { cells = r.cells; line = r.line; looked = suc r.looked }

abbrev pub with_cell : ℕ → CellsRead → CellsRead
with_cell w r = record { cells = w ∷ r.cells; line = r.line; looked = r.looked }

-- As many cells as there is room for, up to the first line that is turned back. Where no room is left, or a line was turned
-- back, no character is looked at.
unfoldable pub read_cells : (room : ℕ) → CellLine → List ℕ → CellsRead
read_cells zero l cs = none l
read_cells (suc room) l [] = none l
read_cells (suc room) l (c ∷ cs) =
    let cell = with_cell (cell_in (shown l.frame)) (read_cells room new_line cs) in
    let ended = by_verdict (cell_verdict (shown l.frame)) cell (λ x. none (ended_line l)) in
    let longer = read_cells (suc room) (longer_line l c) cs in
    by_verdict l.verdict (one_more (cond (eqb c line_feed) ended longer)) (λ x. none l)
