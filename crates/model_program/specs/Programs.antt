-- What the two programs write (document 01, "Lines of the sheet").
use Rattle.std.specs.Prelude.{ℕ, zero, suc, ◌*◌, true, cond, take, drop, replicate, Ok, Err}
use mathlib.Core.List.{List, [], ◌∷◌, ◌++◌, flat_map}
use Rattle.model.specs.Lists.{sum}
use Rattle.model.specs.Values.{Trimmed, trimmed}
use Rattle.model.specs.Answers.{Verdict, number_of, done_byte, stalled_byte, starved_byte, by_verdict, by_answer}
use Rattle.model.specs.Judging.{judge_chain}
use Rattle.model.specs.Planning.{planned_chain}
use Rattle.model_run.specs.Clock.{fresh}
use Rattle.model_run.specs.Running.{Ending, Done, Spent, Starved, Stalled, Full, Ended, layout, written_by, width_of, call}
use Rattle.model_sheet.specs.Lines.{Line, lines_of}
use Rattle.model_sheet.specs.Frames.{framed, seen_of}
use Rattle.model_sheet.specs.Numbers.{word_bytes}
use Rattle.model_sheet.specs.Reading.{step_of, start, complete, read_request, end_verdict, cell_verdict, cell_in, numbers_in}
use Rattle.model_sheet.specs.Writing.{sheet_of}
use Rattle.model.specs.declared.LineStep.{LineStep}
use Rattle.model.specs.declared.Reading.{Reading}
use Rattle.model.specs.declared.Refusal.{Refusal}

-- "for each firing, `10`, the firing's index from 0 (4 bytes) and the written words"
unfoldable pub firing_line : (index : ℕ) → List ℕ → List ℕ
firing_line index words = 16 ∷ (word_bytes index ++ flat_map word_bytes words)

-- "then `11`, a byte (..) and the clocks (4 bytes)"
unfoldable pub end_line : (way clocks : ℕ) → List ℕ
end_line way clocks = 17 ∷ way ∷ word_bytes clocks

-- "A refusal in either program writes `1F` and its number (1 byte) as the last line"
unfoldable pub refusal_line : Refusal → List ℕ
refusal_line x = 31 ∷ number_of x ∷ []

abbrev pub refusal_text : Refusal → List ℕ
refusal_text x = framed (refusal_line x)

-- The lines of n firings, the first of which has this index, of `size` words each.
unfoldable pub firings_text : (size index n : ℕ) → List ℕ → List ℕ
firings_text size index zero words = []
firings_text size index (suc n) words = framed (firing_line index (take size words))
    ++ firings_text size (suc index) n (drop size words)

-- "`plan` turns a request sheet on standard input into a chain sheet."
unfoldable pub plan_text : (input : List ℕ) → List ℕ
plan_text input =
    let rows = numbers_in input in
    by_answer (read_request input) (λ r. sheet_of (planned_chain r rows) rows) refusal_text

-- "`run` reads a chain sheet followed by `05` lines": the lines of the sheet, to its `04`, and the lines behind it.
pub record Split : Type 0 where
  pub step : LineStep
  pub behind : List Line

unfoldable pub sheet_and_behind : (rows : List ℕ) → Reading → List Line → Split
sheet_and_behind rows r [] = record { step = record { verdict = Ok tt; reading = r }; behind = [] }
sheet_and_behind rows r (l ∷ ls) =
    let s = step_of true rows r (seen_of l.ended l.chars) in
    let here : Split = record { step = s; behind = ls } in
    let further = sheet_and_behind rows s.reading ls in
    by_verdict s.verdict (cond (complete s.reading) here further) (λ x. here)

-- The cells of `05` lines, up to the first line that is turned back; and that line's verdict, or `Ok` where the input ends.
unfoldable pub cells_in : List Line → List ℕ
cells_in [] = []
cells_in (l ∷ ls) =
    let seen = seen_of l.ended l.chars in
    let further = cells_in ls in
    by_verdict (cell_verdict seen) (cell_in seen ∷ further) (λ x. [])

unfoldable pub behind_cells : List Line → Verdict
behind_cells [] = Ok tt
behind_cells (l ∷ ls) =
    let further = behind_cells ls in
    by_verdict (cell_verdict (seen_of l.ended l.chars)) further Err

-- How a run ends. "It reads a `05` line only when starved, and stops reading at done or stalled": so a line that is turned
-- back answers only where the run took every cell before it.
abbrev pub end_text : Ending → (clocks : ℕ) → (behind : Verdict) → List ℕ
end_text Done clocks behind = framed (end_line done_byte clocks)
end_text Stalled clocks behind = framed (end_line stalled_byte clocks)
end_text Starved clocks behind = by_verdict behind (framed (end_line starved_byte clocks)) refusal_text
end_text Spent clocks behind = []
end_text Full clocks behind = []

-- A fresh run of an accepted chain over these cells, with places for all firings and as many clocks as a whole run can make,
-- so that it ends neither Spent nor Full.
unfoldable pub whole_run : Trimmed → List ℕ → Ended
whole_run t cells =
    let L = layout t in
    call L (written_by t) (width_of t) cells (t.count * L.cells)
    (record {
      counters = fresh L;
      store = replicate (sum t.capacities) 0;
      output = replicate (L.iterations * width_of t) 0;
      done = record { cells = 0; firings = 0; clocks = 0 };
    })

unfoldable pub run_text : (input : List ℕ) → List ℕ
run_text input =
    let rows = numbers_in input in
    let p = sheet_and_behind rows start (lines_of input) in
    let chain = p.step.reading.chain in
    let t = trimmed chain rows in
    let e = whole_run t (cells_in p.behind) in
    let done = e.standing.done in
    let text = firings_text (width_of t) 0 done.firings e.standing.output
    ++ end_text e.ending done.clocks (behind_cells p.behind) in
    by_verdict (end_verdict p.step (judge_chain chain rows)) text refusal_text

-- No firing writes more words, and no `10` line has more characters.
abbrev pub most_words : ℕ
most_words = 32

abbrev pub longest_firing : ℕ
longest_firing = 267

-- Places of the buffers of the programs: of each the block of input, of `plan` its text, of `run` the store, cells, output
-- words and text.
abbrev pub block_places : ℕ
block_places = 65536

abbrev pub plan_text_places : ℕ
plan_text_places = 8192

abbrev pub store_places : ℕ
store_places = 16384

abbrev pub cell_places : ℕ
cell_places = 6144

abbrev pub word_places : ℕ
word_places = 8192

abbrev pub run_text_places : ℕ
run_text_places = 155648
