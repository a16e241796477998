-- What is known of a chain sheet that is accepted: every line is, none is missing, and the chain that was read is.
use Prim.Native.Nat.{ℕ}
use mathlib.Core.Bool.{true, false, cond}
use mathlib.Core.List.{List}
use mathlib.Core.Path.{◌≡◌, refl, sym, ◌∙◌, ap}
use Rattle.model.specs.declared.Chain.{Chain}
use Rattle.model.specs.declared.LineStep.{LineStep}
use Rattle.model.specs.declared.Refusal.TheVariants as refusal
use Rattle.model.specs.declared.Request.{Request}
use Rattle.std.specs.Prelude.{Ok, Err}
use Rattle.model.specs.Answers.{Verdict, verdict_of, by_verdict}
use Rattle.grid_laws.proofs.CheckLaws.{verdict_back, answer_back}
use Rattle.model.specs.Values.{request_of}
use Rattle.model.specs.Judging.{judge_chain}
use Rattle.model.specs.Planning.{judge_request}
use Rattle.model_sheet.specs.Lines.{lines_of}
use Rattle.model_sheet.specs.Reading.{start, complete, read_lines, end_verdict, numbers_in, read_chain, read_request}
use Rattle.sheet_laws.proofs.Cases.{by_bool}
use Rattle.sheet_laws.proofs.AcceptedLines.{refused_accepted}

accepted_end : (s : LineStep) (v : Verdict) → end_verdict s v ≡ Ok tt
    → (s.verdict ≡ Ok tt) × ((complete s.reading ≡ true) × (v ≡ Ok tt))
unfolding end_verdict
accepted_end s v h = go s.verdict refl
  where
    last : by_verdict s.verdict (cond (complete s.reading) v (Err refusal.Misplaced)) Err ≡ Ok tt
        → s.verdict ≡ Ok tt → (complete s.reading ≡ true) × (v ≡ Ok tt)
    last q e =
        by_bool (complete s.reading)
        (λ t. (t, rw (e, t) at q))
        (λ t. absurd (refused_accepted (rw (e, t) at q)))

    go : (w : Verdict) → s.verdict ≡ w → (s.verdict ≡ Ok tt) × ((complete s.reading ≡ true) × (v ≡ Ok tt))
    go (Ok _) e = (e, last h e)
    go (Err x) e = absurd (refused_accepted (rw e at h))

module _ (sheet : List ℕ) where
  abbrev pub read : LineStep
  read = read_lines true (numbers_in sheet) start (lines_of sheet)

  pub accepted_sheet : (c : Chain) → read_chain sheet ≡ Ok c
      → (read.verdict ≡ Ok tt) × ((complete read.reading ≡ true) × (judge_chain read.reading.chain (numbers_in sheet) ≡ Ok tt))
  unfolding read_chain
  accepted_sheet c h = accepted_end read (judge_chain read.reading.chain (numbers_in sheet)) (sym (verdict_back _ read.reading.chain) ∙ ap verdict_of h)

  pub accepted_read : (c : Chain) → read_chain sheet ≡ Ok c → c ≡ read.reading.chain
  unfolding read_chain
  accepted_read c h = answer_back _ _ _ h

-- And of a request sheet: the request that was read is accepted.
pub accepted_request : (sheet : List ℕ) (r : Request) → read_request sheet ≡ Ok r → judge_request r (numbers_in sheet) ≡ Ok tt
unfolding read_request
accepted_request sheet r h =
    let s = read_lines false (numbers_in sheet) start (lines_of sheet) in
    let q = request_of s.reading.chain in
    rw (answer_back _ q r h) (accepted_end s (judge_request q (numbers_in sheet)) (sym (verdict_back _ q) ∙ ap verdict_of h)).1.1
