use Rattle.std.proofs.Common.{sym, arith, length-take-le}
use Rattle.case_runs.proofs.CaseCalls.{lent_part}
use Rattle.case_runs.proofs.lend.Goals as goal

pub slice_bounds-run-end-3 : goal.slice_bounds-run-end-3
slice_bounds-run-end-3 c = sym (length-take-le _ _ (omega (arith, c.min-end.ensures)))

pub returns : goal.returns
returns c =
    lent_part c.run.result c.run.new.store c.run.new.out c.args.chain c.args.rows.now c.args.state c.args.share c.args.cells.now c.args.store.now c.args.out.now
    _ _ _ c.min-from.ensures c.min-count.ensures c.min-end.ensures c.run.ensures
