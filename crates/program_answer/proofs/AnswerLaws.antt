-- What `plan` writes at the end of its input, by the verdict there.
use Prim.Native.Nat.{ℕ}
use mathlib.Core.Bool.{Bool, true, false, cond}
use mathlib.Core.List.{List}
use mathlib.Core.Path.{◌≡◌, refl, sym, ap, ◌∙◌}
use native.Mathlib.Omega.{arith}
use lib.Dec.{ltb}
use lib.ListN.{length}
use Rattle.std.specs.Prelude.{Result, Ok, Err}
use Rattle.std.specs.Result.{result_unwrap_or}
use Rattle.model.specs.declared.Arriving.{Arriving}
use Rattle.model.specs.declared.Chain.{Chain}
use Rattle.model.specs.declared.LineStep.{LineStep}
use Rattle.model.specs.declared.Refusal.{Refusal}
use Rattle.model.specs.declared.Refusal.TheVariants as refusal
use Rattle.model.specs.declared.Request.{Request}
use Rattle.model.specs.Answers.{Verdict, by_verdict, by_answer, first_of}
use Rattle.model_sheet.specs.Arriving.{finished}
use Rattle.model.specs.Judging.{judge_chain}
use Rattle.model.specs.Planning.{judge_request, planned_chain, plan_of}
use Rattle.model_program.specs.Programs.{refusal_text}
use Rattle.model_sheet.specs.Reading.{complete, end_verdict}
use Rattle.model.specs.Values.{request_of}
use Rattle.model_sheet.specs.Writing.{Written, sheet_of, write_verdict, write_of}
use Rattle.sheet_writer.specs.Laying.{written}
use Rattle.program_writer.specs.Texts.{laid, laid_over, laid_if_fits}
use Rattle.run_laws.proofs.Plans.{plan_accepted}
use Rattle.program_answer.specs.Answer.{planned_of, plan_answer}

module _ (a : Arriving) (rows : List ℕ) where
  module _ (s : LineStep) (f : s ≡ finished a) where
    pub lines_refused : (x : Refusal) → s.verdict ≡ Err x → Err x ≡ planned_of a rows
    unfolding planned_of end_verdict
    lines_refused x e = rw (sym f, e)

    module _ (e : s.verdict ≡ Ok tt) where
      pub lines_missing : complete s.reading ≡ false → Err refusal.Misplaced ≡ planned_of a rows
      unfolding planned_of end_verdict
      lines_missing n = rw (sym f, e, n)

      pub lines_planned : complete s.reading ≡ true → (r : Request) → r ≡ request_of s.reading.chain → plan_of r rows ≡ planned_of a rows
      unfolding planned_of plan_of end_verdict
      lines_planned l r q = rw (sym f, e, l, q)

  -- The text is that of what was planned.
  text_planned : (p : Result Chain Refusal) → planned_of a rows ≡ p → by_answer p (λ c. sheet_of c rows) refusal_text ≡ plan_answer a rows
  unfolding planned_of plan_answer
  text_planned p d = rw (← d) (go (end_verdict (finished a) (judge_request (request_of (finished a).reading.chain) rows)))
    where
      chain : Chain
      chain = planned_chain (request_of (finished a).reading.chain) rows

      go : (v : Verdict) → by_answer (by_verdict {A = Result Chain Refusal} v (Ok chain) Err) (λ c. sheet_of c rows) refusal_text ≡ by_verdict v (sheet_of chain rows) refusal_text
      go (Ok _) = refl
      go (Err x) = refl

  -- A chain that is planned is accepted.
  planned_accepted : (c : Chain) → planned_of a rows ≡ Ok c → judge_chain c rows ≡ Ok tt
  unfolding planned_of end_verdict
  planned_accepted c h = go (finished a).verdict (complete (finished a).reading) (judge_request asked rows) refl h
    where
      asked : Request
      asked = request_of (finished a).reading.chain

      go : (v : Verdict) (b : Bool) (w : Verdict) → judge_request asked rows ≡ w
          → by_verdict {A = Result Chain Refusal} (by_verdict v (cond b w (Err refusal.Misplaced)) Err) (Ok (planned_chain asked rows)) Err ≡ Ok c → judge_chain c rows ≡ Ok tt
      go (Err x) b w e q = absurd (let z : ◌≡◌ {A = ℕ} 0 1 = cc in omega arith)
      go (Ok _) false w e q = absurd (let z : ◌≡◌ {A = ℕ} 0 1 = cc in omega arith)
      go (Ok _) true (Err x) e q = absurd (let z : ◌≡◌ {A = ℕ} 0 1 = cc in omega arith)
      go (Ok _) true (Ok _) e q = let same : c ≡ planned_chain asked rows = cc in rw same (plan_accepted asked rows e)

-- An accepted chain written, where there is room.
fits_or_not : (c : Chain) (rows text after : List ℕ) (w : Result ℕ Refusal) → judge_chain c rows ≡ Ok tt → written w after ≡ write_of c rows text
    → laid (result_unwrap_or w 0) after ≡ laid_if_fits (sheet_of c rows) text
unfolding write_of write_verdict first_of laid_if_fits laid_over
fits_or_not c rows text after w e d =
    ap (λ (x : Written). laid (result_unwrap_or x.answer 0) x.output) d ∙ go (ltb (length text) (length (sheet_of c rows))) refl
  where
    go : (b : Bool) → ltb (length text) (length (sheet_of c rows)) ≡ b
        → laid (result_unwrap_or (write_of c rows text).answer 0) (write_of c rows text).output ≡ laid_if_fits (sheet_of c rows) text
    go true d = rw (e, d)
    go false d = rw (e, d)

module _ (a : Arriving) (rows text after : List ℕ) (bytes : ℕ) where
  -- What was laid is the answer.
  abbrev Answers : Type 0
  Answers = laid bytes after ≡ laid_if_fits (plan_answer a rows) text

  pub plan_refused : (x : Refusal) → planned_of a rows ≡ Err x → laid bytes after ≡ laid_if_fits (refusal_text x) text → Answers
  plan_refused x d e = e ∙ ap (λ (t : List ℕ). laid_if_fits t text) (text_planned a rows (Err x) d)

  pub plan_written : (c : Chain) → planned_of a rows ≡ Ok c → (w : Result ℕ Refusal) → written w after ≡ write_of c rows text → bytes ≡ result_unwrap_or w 0 → Answers
  plan_written c d w e n =
      rw n (fits_or_not c rows text after w (planned_accepted a rows c d) e ∙ ap (λ (t : List ℕ). laid_if_fits t text) (text_planned a rows (Ok c) d))
