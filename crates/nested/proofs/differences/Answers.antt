use Prim.Native.Nat.{ℕ}
use Rattle.nested.proofs.differences.Goals.{then-k-centre, else-k-centre}
use mathlib.Core.Path.{refl, ap, ◌∙◌}
use native.Mathlib.Omega.{arith}
use lib.Ieee.{Float}
use Rattle.model_run.specs.Kernels.{float, squared}
use Rattle.nested.specs.Nested.{word_in, sum_but, squares}
use Rattle.nested.proofs.SumLaws.{square, skipped, one_added, all_added_lem}
use Rattle.nested.proofs.differences.Goals as goal

pub loop-k-init : goal.loop-k-init
unfolding sum_but
loop-k-init c =
    (c.value-c.ensures ∙ ap float c.word.ensures, refl)

pub loop-k-preserved : goal.loop-k-preserved
loop-k-preserved c =
    let ws = c.args.words.now in
    let t : ℕ → Float = λ i. squared (word_in ws c.args.centre) (word_in ws i) in (
      c.loop-k.invariant.0,
      elim c.if-k-centre.branch [
        | then-k-centre w ↦
            one_added t c.args.centre c.loop-k.k c.loop-k.sum c.loop-k.invariant.1 _ _ w.if-k-centre.true
            (square _ _ _ _ c.loop-k.invariant.0 (w.value.ensures ∙ ap float w.word-then-k-centre.ensures))
            (w.sum-is ∙ w.add-sum.ensures)
        | else-k-centre w ↦ skipped t c.args.centre c.loop-k.k c.loop-k.sum c.loop-k.invariant.1 _ w.if-k-centre.false w.sum-is
      ],
    )

pub returns : goal.returns
unfolding squares
returns c =
    let ws = c.args.words.now in
    let t : ℕ → Float = λ i. squared (word_in ws c.args.centre) (word_in ws i) in
    c.unwrap_or.ensures ∙ all_added_lem t c.args.centre c.loop-k.k c.loop-k.sum c.loop-k.invariant.1 c.args.n (omega arith) (omega arith)
