use mathlib.Core.Bool.{true}
use mathlib.Core.Path.{◌≡◌, sym, ◌∙◌}
use lib.ListN.{get_or}
use Rattle.model_sheet.specs.Frames.{is_digit}
use Rattle.sheet_frames.proofs.NumberLaws.{bare, bare_numbers, past_other, past_upper, past_counted, past_uncounted, numbers_end}
use Rattle.sheet_frames.proofs.more_numbers.Goals as goal
use Rattle.sheet_frames.proofs.more_numbers.Goals.{Else-not-is_digit, then-len-lt-COUNTED, else-len-lt-COUNTED}

digit : (c : Else-not-is_digit) → (is_digit (get_or c.args.piece.now c.loop-c.c-index 0) ≡ true)
digit c = sym c.is_digit.ensures ∙ c.if-not-is_digit.false

pub loop-c-preserved-then-not-is_digit : goal.loop-c-preserved-then-not-is_digit
loop-c-preserved-then-not-is_digit c =
    past_other c.loop-c.numbers c.args.piece.now c.loop-c.c-index c.loop-c-test.true (sym c.is_digit.ensures ∙ c.if-not-is_digit.true) _ _ ∙ c.loop-c.invariant

pub loop-c-preserved-in_default : goal.loop-c-preserved-in_default
loop-c-preserved-in_default c =
    past_upper c.loop-c.numbers c.args.piece.now c.loop-c.c-index c.loop-c-test.true (digit (goal.at.loop-c-preserved-in_default c).Else-not-is_digit) c.value_of-v.result c.value_of-v.ensures.0 _ _ (c.in_default.is)
    ∙ c.loop-c.invariant

pub loop-c-preserved : goal.loop-c-preserved
loop-c-preserved c =
    let piece = c.args.piece.now in
    let is = digit (goal.at.loop-c-preserved c).Else-not-is_digit in
    let v = c.value_of-v in
    let some = c.in-Some.is in
    elim c.if-len-lt-COUNTED.branch [
      | then-len-lt-COUNTED w ↦ rw w.len-is
          (past_counted c.loop-c.numbers piece c.loop-c.c-index c.loop-c-test.true is v.result v.ensures.0 _ _ _ some _ c.byte_of.ensures _ c.put_byte.ensures w.if-len-lt-COUNTED.true)
      | else-len-lt-COUNTED w ↦ rw w.len-is
          (past_uncounted c.loop-c.numbers piece c.loop-c.c-index c.loop-c-test.true is v.result v.ensures.0 _ _ _ some _ c.byte_of.ensures _ c.put_byte.ensures w.if-len-lt-COUNTED.false)
    ] ∙ c.loop-c.invariant

pub returns : goal.returns
returns c =
    numbers_end c.loop-c.numbers (bare c.loop-c.len c.loop-c.half) c.args.piece.now c.loop-c.c-index c.loop-c-test.false
    ∙ c.loop-c.invariant
    ∙ bare_numbers _ c.args.f c.args.piece.now
