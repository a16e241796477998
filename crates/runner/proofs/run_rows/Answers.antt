-- A number turns the call back, or it goes on. Assumes nothing.
use mathlib.Core.Path.{sym, ◌∙◌, ap}
use Rattle.model.specs.Answers.{verdict_of}
use Rattle.runner.proofs.RunLaws.{by_refusal}
use Rattle.run_prepare.proofs.RowsLaws.{readied_skewed}
use Rattle.runner.proofs.run_rows.Goals as goal

pub rows_ready-requires : goal.rows_ready-requires
rows_ready-requires c =
    let r = readied_skewed _ c.requires _ _ _ _ _ _ _ _ _ _ c.prepare_rows-prepared.ensures in
    (sym r.verdict_is ∙ ap verdict_of c.in-Ok.is, r.begun _ c.in-Ok.is)

pub returns-in-Err : goal.returns-in-Err
returns-in-Err c =
    let r = readied_skewed _ c.requires _ _ _ _ _ _ _ _ _ _ c.prepare_rows-prepared.ensures in
    by_refusal c.args.chain c.args.rows.now _ _ _ _ _ _ (sym r.verdict_is ∙ ap verdict_of c.in-Err.is)
