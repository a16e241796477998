-- What the program `plan` writes at the end of its input.
use Rattle.std.specs.Prelude.{ℕ, List, Result, Ok, Err}
use Rattle.model.specs.declared.Arriving.{Arriving}
use Rattle.model.specs.declared.Chain.{Chain}
use Rattle.model.specs.declared.Refusal.{Refusal}
use Rattle.model.specs.Answers.{by_verdict}
use Rattle.model.specs.Planning.{judge_request, planned_chain}
use Rattle.model.specs.Values.{request_of}
use Rattle.model_sheet.specs.Reading.{end_verdict}
use Rattle.model_sheet.specs.Writing.{sheet_of}
use Rattle.model_sheet.specs.Arriving.{finished}
use Rattle.model_program.specs.Programs.{refusal_text}

-- The chain that is planned of what arrived, with the rows' numbers beside it.
unfoldable pub planned_of : Arriving → (rows : List ℕ) → Result Chain Refusal
planned_of a rows =
    let s = finished a in
    let request = request_of s.reading.chain in
    by_verdict (end_verdict s (judge_request request rows)) (Ok (planned_chain request rows)) Err

-- What `plan` writes of what arrived, with the rows' numbers beside it, at the end of its input.
unfoldable pub plan_answer : Arriving → (rows : List ℕ) → List ℕ
plan_answer a rows =
    let s = finished a in
    let request = request_of s.reading.chain in
    let sheet = sheet_of (planned_chain request rows) rows in
    by_verdict (end_verdict s (judge_request request rows)) sheet refusal_text
