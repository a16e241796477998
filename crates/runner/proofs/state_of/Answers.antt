use Prim.Native.Nat.{ℕ}
use mathlib.Core.Path.{◌≡◌, ◌∙◌, ap, refl}
use native.Mathlib.Omega.{arith}
use Rattle.runner.proofs.PrepareCounters.{put_back, put_more, put_all}
use Rattle.runner.proofs.state_of.Goals as goal

pub loop-k-preserved : goal.loop-k-preserved
loop-k-preserved c = (
  put_more c.loop-k.k c.args.passed.now c.args.state.passed c.loop-k.to _ (omega (arith, c.requires.1)) (omega (arith, c.loop-k.invariant.1))
      refl c.loop-k.invariant.0,
  c.loop-k.invariant.1,
)

pub returns : goal.returns
returns c =
    let all : c.loop-k.k ≡ c.args.n = omega arith in
    put_all c.args.n c.args.fired c.args.passed.now c.args.state c.loop-k.to c.requires.1
    (c.loop-k.invariant.0 ∙ ap (λ (i : ℕ). put_back i c.args.passed.now c.args.state.passed) all)
