use Prim.Native.Nat.{ℕ}
use mathlib.Core.Path.{◌∙◌, ap, ap₂}
use Rattle.model.specs.Answers.{first_of}
use Rattle.model.specs.Judging.{judge_chain}
use Rattle.model.specs.declared.Chain.{Chain}
use Rattle.pair_judging.specs.Verdicts.{earlier_of, side_checks}
use Rattle.pair_judging.proofs.JudgeLaws.{judged_pair}
use Rattle.pair_judging.proofs.judge_pair.Goals as goal

pub returns : goal.returns
returns c =
    c.earlier.ensures
    ∙ ap₂ earlier_of (c.judge_chain-found.ensures ∙ ap (λ (x : Chain). judge_chain x c.args.rows.now) c.raw_of.ensures)
    (c.judge_sides-added.ensures ∙ ap (λ (n : ℕ). first_of (side_checks n c.args.chain.window c.args.first c.args.second)) c.dims_of.ensures)
    ∙ judged_pair c.args.chain c.args.rows.now c.args.first c.args.second
