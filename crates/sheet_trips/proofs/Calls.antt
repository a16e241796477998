-- Round trips of the calls (specs/RoundTrips).
use Prim.Native.Nat.{ℕ}
use mathlib.Core.List.{List, ◌++◌}
use mathlib.Core.Path.{◌≡◌, refl, sym, ◌∙◌, ap, ap₂, subst}
use lib.ListN.{length, take, drop}
use lib.Seq.{take_at}
use borrow.Author.Tests.{le-ltb}
use Rattle.model.specs.Answers.{Verdict, verdict_of, first_of}
use Rattle.model.specs.Judging.{judge_chain}
use Rattle.model_sheet.specs.Reading.{numbers_in, read_chain}
use Rattle.model_sheet.specs.Writing.{sheet_of, write_verdict, Written, write_of}
use Rattle.model.specs.declared.Chain.{Chain}
use Rattle.std.specs.Prelude.{Ok, Err}
use Rattle.sheet_laws.proofs.AcceptedLines.{refused_accepted}
use Rattle.sheet_trips.specs.RoundTrips.{Tells, WriteReadCalls, ReadWriteCalls}
use Rattle.sheet_trips.proofs.AcceptedSheets.{accepted_sheet, accepted_read}
use Rattle.sheet_trips.proofs.ReadWrite.{read_write}
use Rattle.sheet_trips.proofs.WriteRead.{write_read}

-- The chain of an accepted sheet is accepted.
pub read_judged : (sheet : List ℕ) (c : Chain) → read_chain sheet ≡ Ok c → judge_chain c (numbers_in sheet) ≡ Ok tt
read_judged sheet c h = ap (λ (d : Chain). judge_chain d (numbers_in sheet)) (accepted_read sheet c h) ∙ (accepted_sheet sheet c h).1.1

module _ (c : Chain) (rows out : List ℕ) where
  -- What a write call leaves that is not refused.
  abbrev laid : List ℕ → Written
  laid sheet = record { answer = Ok (length sheet); output = sheet ++ drop (length sheet) out }

  wrote : write_verdict c rows (length out) ≡ Ok tt → write_of c rows out ≡ laid (sheet_of c rows)
  unfolding write_of
  wrote e = rw e

  was_accepted : (bytes : ℕ) → (write_of c rows out).answer ≡ Ok bytes → write_verdict c rows (length out) ≡ Ok tt
  unfolding write_of
  was_accepted bytes h = go (write_verdict c rows (length out)) refl
    where
      go : (v : Verdict) → write_verdict c rows (length out) ≡ v → write_verdict c rows (length out) ≡ Ok tt
      go (Ok _) e = e
      go (Err x) e = absurd (refused_accepted (ap verdict_of (rw e at h)))

  was_judged : write_verdict c rows (length out) ≡ Ok tt → judge_chain c rows ≡ Ok tt
  unfolding write_verdict
  was_judged h = go (judge_chain c rows) refl
    where
      go : (v : Verdict) → judge_chain c rows ≡ v → judge_chain c rows ≡ Ok tt
      go (Ok _) e = e
      go (Err x) e = absurd (refused_accepted (rw e at h))

pub write_read_calls : WriteReadCalls
write_read_calls c rows range out bytes h =
    let v = was_accepted c rows out bytes h in
    let sheet = sheet_of c rows in
    let n : bytes ≡ length sheet = cc (h, ap (λ (w : Written). w.answer) (wrote c rows out v)) in
    let e = ap₂ take n (ap (λ (w : Written). w.output) (wrote c rows out v)) ∙ take_at sheet (drop (length sheet) out) (length sheet) refl in
    subst (λ (s : List ℕ). Tells s c rows) (sym e) (write_read c rows range (was_judged c rows out v))

pub read_write_calls : ReadWriteCalls
unfolding write_verdict first_of
read_write_calls sheet out c h room =
    let rows = numbers_in sheet in
    let e = read_write sheet c h in
    let v : write_verdict c rows (length out) ≡ Ok tt = rw (read_judged sheet c h, e, le-ltb (length out) (length sheet) room) in
    wrote c rows out v ∙ ap (laid c rows out) e
