use native.Mathlib.Omega.{arith}
use lib.ListN.{get_or}
use Rattle.geometry.proofs.FillLaws.{filled_none, filled_up_to}
use Rattle.pair_run.specs.Ports.{entry_of}
use Rattle.pair_run.proofs.PortLaws.{through_all}
use Rattle.pair_run.proofs.ports.through.Goals as goal

pub loop-i-init : goal.loop-i-init
loop-i-init c = filled_none 32 0 _

pub returns : goal.returns
returns c =
    through_all c.args.held.now c.args.references.now c.args.m c.min-i-end.result c.loop-i.filters c.min-i-end.ensures
    (filled_up_to 32 0 (λ k. entry_of c.args.held.now (get_or c.args.references.now k 0)) c.loop-i.i c.min-i-end.result c.loop-i.filters (omega arith) c.loop-i.invariant)
