use Prim.Native.Nat.{◌+◌}
use mathlib.Core.Bool.{true}
use mathlib.Core.Path.{◌≡◌, sym, ◌∙◌}
use lib.ListN.{drop, get_or}
use Rattle.model.specs.declared.Frame.{Frame}
use Rattle.model_sheet.specs.Frames.{is_digit, fed, feeds}
use Rattle.sheet_frames.proofs.FeedLaws.{fed_other, fed_high, fed_kept, fed_counted, fed_past, feeds_on, feeds_end}
use Rattle.sheet_frames.proofs.more.Invariants.{made}
use Rattle.sheet_frames.proofs.more.Goals as goal
use Rattle.sheet_frames.proofs.more.Goals.{After-is_digit, Else-not-is_digit, then-len-lt-KEPT, else-len-lt-KEPT+then-len-lt-COUNTED, else-len-lt-KEPT+else-len-lt-COUNTED}

-- What one more character leaves, where it gives the frame g.
goes_on : (c : After-is_digit) (g : Frame)
    → (g ≡ fed (made c.loop-c.first c.loop-c.len c.loop-c.sound c.loop-c.upper) (get_or c.args.piece.now c.loop-c.c-index 0))
    → (feeds g (drop (c.loop-c.c-index + 1) c.args.piece.now) ≡ feeds c.args.f c.args.piece.now)
goes_on c g e =
    feeds_on (made c.loop-c.first c.loop-c.len c.loop-c.sound c.loop-c.upper) g _ c.loop-c.c-index c.loop-c-test.true e ∙ c.loop-c.invariant

digit : (c : Else-not-is_digit) → (is_digit (get_or c.args.piece.now c.loop-c.c-index 0) ≡ true)
digit c = sym c.is_digit.ensures ∙ c.if-not-is_digit.false

pub loop-c-preserved-then-not-is_digit : goal.loop-c-preserved-then-not-is_digit
loop-c-preserved-then-not-is_digit c =
    goes_on (goal.at.loop-c-preserved-then-not-is_digit c).After-is_digit _ (fed_other _ _ (sym c.is_digit.ensures ∙ c.if-not-is_digit.true))

pub loop-c-preserved-in_default : goal.loop-c-preserved-in_default
loop-c-preserved-in_default c =
    goes_on (goal.at.loop-c-preserved-in_default c).After-is_digit _ (fed_high _ _ (digit (goal.at.loop-c-preserved-in_default c).Else-not-is_digit) _ c.value_of-v.ensures.0 (c.in_default.is))

pub loop-c-preserved : goal.loop-c-preserved
loop-c-preserved c =
    let on = goes_on (goal.at.loop-c-preserved c).After-is_digit in
    let is = digit (goal.at.loop-c-preserved c).Else-not-is_digit in
    let v = c.value_of-v.ensures.0 in
    let some = c.in-Some.is in
    elim c.if-len-lt-KEPT.branch [
      | then-len-lt-KEPT w ↦ rw (w.first-is, w.len-is) (on _ (fed_kept _ _ is _ v _ _ w.byte_of.ensures some w.if-len-lt-KEPT.true))
      | else-len-lt-KEPT+then-len-lt-COUNTED w ↦ rw (w.first-is, w.len-is) (on _ (fed_counted _ _ is _ v _ some w.if-len-lt-KEPT.false w.if-len-lt-COUNTED.true))
      | else-len-lt-KEPT+else-len-lt-COUNTED w ↦ rw (w.first-is, w.len-is) (on _ (fed_past _ _ is _ v _ some w.if-len-lt-COUNTED.false))
    ]

pub returns : goal.returns
returns c = feeds_end (made c.loop-c.first c.loop-c.len c.loop-c.sound c.loop-c.upper) _ c.loop-c.c-index c.loop-c-test.false ∙ c.loop-c.invariant
