use mathlib.Core.Path.{sym, ◌∙◌, ap}
use Rattle.std.proofs.lemmas.Result.{err_from_is_err_and}
use Rattle.judging.specs.Checks.{told}
use Rattle.judging.proofs.JudgeLaws.{examined_verdict, rows_examined}
use Rattle.judging.proofs.judge_chain.Goals as goal

pub returns-in_err-examine_rows : goal.returns-in_err-examine_rows
returns-in_err-examine_rows c =
    let p = err_from_is_err_and c.from_residual.result c.from_residual.ensures.1 in
    rw (p.1, p.2) (ap told (sym c.in_err-examine_rows.was ∙ c.examine_rows.ensures) ∙ rows_examined c.args.c c.args.rows.now c.if-c.true)

pub returns-in_ok-examine_rows : goal.returns-in_ok-examine_rows
returns-in_ok-examine_rows c = ap told (sym c.in_ok-examine_rows.was ∙ c.examine_rows.ensures) ∙ rows_examined c.args.c c.args.rows.now c.if-c.true

pub returns-in_err-examine : goal.returns-in_err-examine
returns-in_err-examine c =
    let p = err_from_is_err_and c.from_residual-in_err-examine.result c.from_residual-in_err-examine.ensures.1 in
    rw (p.1, p.2) (ap told (sym c.in_err-examine.was ∙ c.examine.ensures) ∙ examined_verdict c.args.c c.if-c.false c.args.rows.now)

pub returns-in_ok-examine : goal.returns-in_ok-examine
returns-in_ok-examine c = ap told (sym c.in_ok-examine.was ∙ c.examine.ensures) ∙ examined_verdict c.args.c c.if-c.false c.args.rows.now
