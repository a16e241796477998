use mathlib.Core.Path.{◌∙◌}
use native.Mathlib.Omega.{arith}
use lib.IntN.{pos}
use Rattle.geometry.proofs.FillLaws.{filled_none, filled_more}
use Rattle.geometry.proofs.EntryLaws.{entry_back}
use Rattle.windows.specs.Lows.{low_in}
use Rattle.windows.proofs.LowLaws.{lows_all}
use Rattle.windows.proofs.lows.lows_of.Goals as goal

pub loop-d-init : goal.loop-d-init
loop-d-init c = filled_none 4 (pos 0) (low_in c.args.count c.args.offsets.now)

pub loop-d-preserved : goal.loop-d-preserved
loop-d-preserved c =
    filled_more 4 (pos 0) (low_in c.args.count c.args.offsets.now) c.loop-d.d c.loop-d.lows _ (omega arith)
    (entry_back c.low_in.result c.low_in.type_inv ∙ c.low_in.ensures) c.loop-d.invariant

pub returns : goal.returns
returns c =
    lows_all c.args.dims c.args.count c.args.offsets.now c.loop-d.d c.loop-d.lows (omega arith) c.loop-d.invariant
