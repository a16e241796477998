-- `maps` lends parts that are there. Assumes nothing.
use Prim.{tt}
use Rattle.std.proofs.Common.{sym, le_trans, lit≤, length-take-le}
use Rattle.cases.proofs.report.maps.Goals as goal

pub slice_bounds-torn_case-end : goal.slice_bounds-torn_case-end
slice_bounds-torn_case-end g c =
    sym (length-take-le 1000 c.args.cells.now (le_trans (lit≤ tt) c.if-cells-lt20000.false))
