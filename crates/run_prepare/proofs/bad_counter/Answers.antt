use Prim.Native.Nat.{ℕ}
use mathlib.Core.Path.{◌∙◌, sym, ap}
use lib.Dec.{ltb}
use Rattle.run_prepare.proofs.PrepareStates.{counter_wanted, counter_fired, counter_unfired, counter_past}
use Rattle.run_prepare.proofs.bad_counter.Goals as goal
use Rattle.run_prepare.proofs.bad_counter.Goals.{else-fired-gt0-via-then-fired-gt0+else-passed-last, else-fired-gt0-via-else-fired-gt0}

pub returns-then-wanted-passed : goal.returns-then-wanted-passed
returns-then-wanted-passed c = λ L k cells e d. counter_wanted L k c.args.passed c.args.wanted c.args.fired e c.if-wanted-passed.true

pub returns-then-passed-last : goal.returns-then-passed-last
returns-then-passed-last c = λ L k cells e d.
    counter_fired L k c.args.passed c.args.wanted c.args.fired c.args.last e d c.if-wanted-passed.false c.if-fired-gt0.true c.if-passed-last.true

pub returns : goal.returns
returns c = λ L k cells e d.
    elim c.else-fired-gt0.branch [
      | else-fired-gt0-via-then-fired-gt0+else-passed-last w ↦ ap (λ (x : ℕ). ltb x c.args.passed) (sym cells) ∙ counter_past L k c.args.passed c.args.wanted c.args.fired c.args.last e d c.if-wanted-passed.false w.if-fired-gt0.true w.if-passed-last.false
      | else-fired-gt0-via-else-fired-gt0 w ↦ ap (λ (x : ℕ). ltb x c.args.passed) (sym cells) ∙ counter_unfired L k c.args.passed c.args.wanted c.args.fired e c.if-wanted-passed.false w.if-fired-gt0.false
    ]
