use mathlib.Core.Path.{sym, ◌∙◌}
use Rattle.pair_run.proofs.CallLaws.{refused_first}
use Rattle.pair_run.proofs.run_pair.Goals as goal

pub returns-in-Err : goal.returns-in-Err
returns-in-Err c =
    refused_first c.args.chain c.args.rows.now c.args.first c.args.second c.args.state c.args.store.now c.args.cells.now c.args.out.now c.args.other.now c.args.allowance _ (sym c.judge_pair.ensures ∙ c.in-Err.is)
