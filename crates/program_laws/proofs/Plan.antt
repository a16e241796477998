-- What `plan` writes of a request sheet that arrives block by block.
use Prim.Native.Nat.{ℕ, ◌≤◌}
use mathlib.Core.Bool.{Bool, true, false, cond}
use mathlib.Core.List.{List, [], ◌∷◌, ◌++◌, flatten}
use mathlib.Core.Path.{◌≡◌, refl, sym, ◌∙◌, ap}
use native.Mathlib.Omega.{arith}
use lib.ListN.{length}
use Rattle.model.specs.declared.Arriving.{Arriving}
use Rattle.model.specs.declared.Chain.{Chain}
use Rattle.model.specs.declared.LineStep.{LineStep}
use Rattle.model.specs.declared.Refusal.{Refusal}
use Rattle.model.specs.declared.Refusal.TheVariants as refusal
use Rattle.model.specs.declared.Request.{Request}
use Rattle.std.specs.Prelude.{Result, Ok, Err}
use Rattle.model.specs.Answers.{Verdict, by_verdict, by_answer}
use Rattle.model.specs.Values.{request_of}
use Rattle.model_sheet.specs.Lines.{lines_of}
use Rattle.model.specs.Judging.{judge_chain}
use Rattle.model.specs.Planning.{judge_request, planned_chain}
use Rattle.model_sheet.specs.Reading.{start, complete, read_lines, end_verdict, numbers_in, read_request}
use Rattle.model_sheet.specs.Writing.{sheet_of, longest_sheet}
use Rattle.model_sheet.specs.Arriving.{Arrived, opening, arrive, finished}
use Rattle.model_program.specs.Programs.{refusal_text, plan_text}
use Rattle.sheet_laws.proofs.SheetLength.{sheet_length}
use Rattle.sheet_laws.proofs.AcceptedChains.{accepted_chain}
use Rattle.run_laws.proofs.Plans.{plan_accepted}
use Rattle.sheet_trips.proofs.AsItArrives.{as_it_arrives, in_pieces, stays}
use Rattle.program_answer.specs.Answer.{plan_answer}
use Rattle.program_laws.specs.Whole.{plan_taken, PlanWrites}
use Rattle.program_laws.proofs.Texts.{laid_fitting, refusal_length}

-- After a refusal no further block matters.
all_taken_lem : (a : Arrived) (blocks : List (List ℕ)) → plan_taken a blocks ≡ arrive false a (flatten blocks)
unfolding plan_taken arrive flatten
all_taken_lem a [] = refl
all_taken_lem a (b ∷ bs) = go (arrive false a b).sheet.verdict refl (all_taken_lem (arrive false a b) bs)
  where
    go : (v : Verdict) → (arrive false a b).sheet.verdict ≡ v → plan_taken (arrive false a b) bs ≡ arrive false (arrive false a b) (flatten bs)
        → plan_taken a (b ∷ bs) ≡ arrive false a (b ++ flatten bs)
    go (Ok _) e ih = rw e (ih ∙ in_pieces false a b (flatten bs))
    go (Err x) e ih = rw e (sym (stays false (arrive false a b) x (flatten bs) e) ∙ in_pieces false a b (flatten bs))

-- What is written of a sheet's reading, with these rows beside it.
abbrev answer_of : LineStep → (rows : List ℕ) → List ℕ
answer_of s rows =
    let request = request_of s.reading.chain in
    by_verdict (end_verdict s (judge_request request rows)) (sheet_of (planned_chain request rows) rows) refusal_text

-- Where a line was turned back, they play no part.
answer_alike : (s : LineStep) (rows other : List ℕ) → (s.verdict ≡ Ok tt → rows ≡ other) → answer_of s rows ≡ answer_of s other
unfolding end_verdict
answer_alike s rows other h = go s.verdict refl
  where
    go : (v : Verdict) → s.verdict ≡ v → answer_of s rows ≡ answer_of s other
    go (Ok _) e = ap (answer_of s) (h e)
    go (Err x) e = rw e

-- The answer is a function of the whole sheet's reading.
answered : (input : List ℕ) → let a = arrive false opening input in plan_answer a.sheet a.rows ≡ plan_text input
unfolding plan_answer plan_text read_request
answered input =
    let a = as_it_arrives false input in
    ap (λ (s : LineStep). answer_of s (arrive false opening input).rows) a.read
    ∙ answer_alike s (arrive false opening input).rows (numbers_in input) a.rows
    ∙ go (end_verdict s (judge_request asked (numbers_in input)))
  where
    s : LineStep
    s = read_lines false (numbers_in input) start (lines_of input)

    asked : Request
    asked = request_of s.reading.chain

    sheet : Request → List ℕ
    sheet r = sheet_of (planned_chain r (numbers_in input)) (numbers_in input)

    go : (v : Verdict) → by_verdict v (sheet asked) refusal_text ≡ by_answer (by_verdict {A = Result Request Refusal} v (Ok asked) Err) sheet refusal_text
    go (Ok _) = refl
    go (Err x) = refl

-- It fits.
chain_fits : (c : Chain) (rows : List ℕ) → judge_chain c rows ≡ Ok tt → length (sheet_of c rows) ≤ longest_sheet
chain_fits c rows e = sheet_length c rows (accepted_chain c rows e)

planned_fits : (r : Request) (rows : List ℕ) → judge_request r rows ≡ Ok tt → length (sheet_of (planned_chain r rows) rows) ≤ longest_sheet
planned_fits r rows e = chain_fits (planned_chain r rows) rows (plan_accepted r rows e)

text_fits : (s : LineStep) (r : Request) (rows : List ℕ) → length (by_verdict (end_verdict s (judge_request r rows)) (sheet_of (planned_chain r rows) rows) refusal_text) ≤ longest_sheet
unfolding end_verdict
text_fits s r rows = go s.verdict (complete s.reading) (judge_request r rows) refl
  where
    go : (v : Verdict) (b : Bool) (w : Verdict) → judge_request r rows ≡ w
        → length (by_verdict (by_verdict v (cond b w (Err refusal.Misplaced)) Err) (sheet_of (planned_chain r rows) rows) refusal_text) ≤ longest_sheet
    go (Err x) b w e = omega (arith, refusal_length x)
    go (Ok _) false w e = omega (arith, refusal_length refusal.Misplaced)
    go (Ok _) true (Err x) e = omega (arith, refusal_length x)
    go (Ok _) true (Ok _) e = planned_fits r rows e

answer_fits : (a : Arriving) (rows : List ℕ) → length (plan_answer a rows) ≤ longest_sheet
unfolding plan_answer
answer_fits a rows = text_fits (finished a) (request_of (finished a).reading.chain) rows

pub plan_writes : PlanWrites
plan_writes blocks text room =
    let a = plan_taken opening blocks in
    (laid_fitting (plan_answer a.sheet a.rows) text (omega (arith, answer_fits a.sheet a.rows))).0
    ∙ ap (λ (x : Arrived). plan_answer x.sheet x.rows) (all_taken_lem opening blocks) ∙ answered (flatten blocks)
