-- 16, 4 to 9, 14 and 15 turn the chain back, or the call is looked at further. Assumes nothing.
use mathlib.Core.Path.{sym, ◌∙◌}
use Rattle.std.proofs.lemmas.Result.{err_from_is_err_and}
use Rattle.run_prepare.specs.RowsReady.{in_rows}
use Rattle.run_prepare.proofs.ReadyLaws.{judged_refused}
use Rattle.run_prepare.proofs.RowsLaws.{found_verdict, rows_found, rows_refused}
use Rattle.run_prepare.proofs.skewed.prepare_rows.Goals as goal

pub with_chain-requires : goal.with_chain-requires
with_chain-requires c =
    let e = sym c.in_ok-found.was ∙ c.examine_rows.ensures in
    (found_verdict c.args.chain _ _ e ∙ c.in_ok-found-2.was, rows_found c.args.chain _ _ e)

pub returns-in_err-found : goal.returns-in_err-found
returns-in_err-found c =
    let chain = c.args.chain in
    let p = err_from_is_err_and c.from_residual.result c.from_residual.ensures.1 in
    rw (p.1, p.2) (rows_refused (in_rows chain) _ _ _ _ _ _ _ _ _ _
    (judged_refused (in_rows chain) _ _ _ _ (found_verdict chain _ _ (sym c.in_err-found.was ∙ c.examine_rows.ensures))))

pub returns-in_err-found-2 : goal.returns-in_err-found-2
returns-in_err-found-2 c =
    let chain = c.args.chain in
    let e = sym c.in_ok-found.was ∙ c.examine_rows.ensures in
    let p = err_from_is_err_and c.from_residual-in_err-found-2.result c.from_residual-in_err-found-2.ensures.1 in
    rw (p.1, p.2) (rows_refused (in_rows chain) _ _ _ _ _ _ _ _ _ _ (judged_refused (in_rows chain) _ _ _ _ (found_verdict chain _ _ e ∙ c.in_err-found-2.was)))
