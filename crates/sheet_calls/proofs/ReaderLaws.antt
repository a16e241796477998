-- The numbers on a sheet's first line; what a whole sheet gives, by the verdict at its end; and what a write call does, by the chain's verdict.
use Prim.Native.Nat.{ℕ}
use mathlib.Core.Bool.{true, false}
use mathlib.Core.List.{List, [], ◌∷◌}
use mathlib.Core.Path.{◌≡◌, refl, sym, ap}
use native.Mathlib.Omega.{arith}
use Rattle.model.specs.declared.Chain.{Chain}
use Rattle.model.specs.declared.LineStep.{LineStep}
use Rattle.model.specs.declared.Refusal.{Refusal}
use Rattle.model.specs.declared.Refusal.TheVariants as refusal
use Rattle.std.specs.Prelude.{Ok, Err}
use Rattle.model.specs.Values.{request_of}
use Rattle.model.specs.Answers.{Verdict, by_verdict}
use Rattle.model.specs.Judging.{judge_chain}
use Rattle.model.specs.Planning.{judge_request}
use Rattle.model_sheet.specs.Lines.{line_of, lines_of}
use Rattle.model_sheet.specs.Frames.{bytes_of}
use Rattle.model_sheet.specs.Reading.{numbers_on, first_numbers, numbers_in, start, complete, read_lines, end_verdict, read_chain, read_request}
use Rattle.model_sheet.specs.Writing.{write_verdict, write_of}
use Rattle.sheet_laws.proofs.LineLaws.{first_line_lem}
use Rattle.sheet_writer.specs.Laying.{written}

pub first_numbers_lem : (sheet : List ℕ) → numbers_on (bytes_of (line_of sheet)) ≡ numbers_in sheet
unfolding numbers_in lines_of line_of bytes_of
first_numbers_lem [] = refl
first_numbers_lem (b ∷ bs) = ap first_numbers (sym (first_line_lem (b ∷ bs) (omega arith)))

module _ (s : LineStep) (judged : Verdict) where
  pub end_refused : (x : Refusal) → s.verdict ≡ Err x → end_verdict s judged ≡ Err x
  unfolding end_verdict
  end_refused x e = rw e

  module _ (lines : s.verdict ≡ Ok tt) where
    pub end_missing : complete s.reading ≡ false → end_verdict s judged ≡ Err refusal.Misplaced
    unfolding end_verdict
    end_missing n = rw (lines, n)

    pub end_judged : complete s.reading ≡ true → (v : Verdict) → v ≡ judged → end_verdict s judged ≡ v
    unfolding end_verdict
    end_judged e v q = rw (lines, e) (sym q)

module _ (sheet rows : List ℕ) (s : LineStep) (v : Verdict) (told : rows ≡ numbers_in sheet) where
  pub chain_read : s ≡ read_lines true rows start (lines_of sheet) → end_verdict s (judge_chain s.reading.chain rows) ≡ v
      → by_verdict v (Ok s.reading.chain) Err ≡ read_chain sheet
  unfolding read_chain
  chain_read e q = rw (← told, ← e, q)

  pub request_read : s ≡ read_lines false rows start (lines_of sheet) → end_verdict s (judge_request (request_of s.reading.chain) rows) ≡ v
      → by_verdict v (Ok (request_of s.reading.chain)) Err ≡ read_request sheet
  unfolding read_request
  request_read e q = rw (← told, ← e, q)

module _ (c : Chain) (rows out : List ℕ) where
  pub write_refused : (x : Refusal) → judge_chain c rows ≡ Err x → written (Err x) out ≡ write_of c rows out
  unfolding write_of write_verdict
  write_refused x e = rw e
