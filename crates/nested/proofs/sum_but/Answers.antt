use Prim.Native.Nat.{ℕ}
use Rattle.nested.proofs.sum_but.Goals.{then-k-but, else-k-but}
use mathlib.Core.Path.{refl, ap, ◌∙◌}
use native.Mathlib.Omega.{arith}
use lib.Ieee.{Float}
use Rattle.model_run.specs.Kernels.{float}
use Rattle.nested.specs.Nested.{word_in, sum_but, values}
use Rattle.nested.proofs.SumLaws.{skipped, one_added, all_added_lem}
use Rattle.nested.proofs.sum_but.Goals as goal

pub loop-k-init : goal.loop-k-init
unfolding sum_but
loop-k-init c = refl

pub loop-k-preserved : goal.loop-k-preserved
loop-k-preserved c =
    let t : ℕ → Float = λ i. float (word_in c.args.words.now i) in
    elim c.if-k-but.branch [
      | then-k-but w ↦
          one_added t c.args.but c.loop-k.k c.loop-k.sum c.loop-k.invariant _ _ w.if-k-but.true (w.value.ensures ∙ ap float w.word.ensures) (w.sum-is ∙ w.add-sum.ensures)
      | else-k-but w ↦ skipped t c.args.but c.loop-k.k c.loop-k.sum c.loop-k.invariant _ w.if-k-but.false w.sum-is
    ]

pub returns : goal.returns
unfolding values
returns c =
    let t : ℕ → Float = λ i. float (word_in c.args.words.now i) in
    c.unwrap_or.ensures ∙ all_added_lem t c.args.but c.loop-k.k c.loop-k.sum c.loop-k.invariant c.args.n (omega arith) (omega arith)
