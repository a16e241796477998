use mathlib.Core.Path.{◌∙◌, ap}
use Rattle.model.specs.Answers.{verdict_number}
use Rattle.model.specs.Judging.{judge_chain}
use Rattle.model.specs.declared.Chain.{Chain}
use Rattle.zohmirka.proofs.zohmirka_judge_chain.Goals as goal

pub returns : goal.returns
returns c =
    let rows = c.args.rows.now in
    c.number.ensures ∙ ap verdict_number (c.judge_chain.ensures ∙ ap (λ (x : Chain). judge_chain x rows) c.chain_in.ensures)
