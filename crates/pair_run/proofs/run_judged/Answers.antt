use mathlib.Core.Path.{refl}
use Rattle.pair_run.proofs.CallLaws.{pair_buffered, pair_leaves}
use Rattle.pair_run.proofs.run_judged.Goals as goal

pub in_buffer-requires : goal.in_buffer-requires
in_buffer-requires c =
    pair_buffered c.args.chain c.args.rows.now c.args.first c.args.second c.args.state c.args.store.now c.args.cells.now c.args.out.now c.args.other.now c.args.allowance _ c.raw_of-raw.ensures c.requires _ _
    c.dims_of-dims.ensures refl _ _ c.port_of-g.ensures c.port_of-h.ensures

pub returns : goal.returns
returns c =
    pair_leaves c.args.chain c.args.rows.now c.args.first c.args.second c.args.state c.args.store.now c.args.cells.now c.args.out.now c.args.other.now c.args.allowance _ c.raw_of-raw.ensures c.requires _ _
    c.dims_of-dims.ensures refl _ _ c.port_of-g.ensures c.port_of-h.ensures c.in_buffer.ensures
