-- The call ends as its clocks do. Assumes nothing.
use mathlib.Core.List.{[]}
use native.Mathlib.Omega.{arith}
use Rattle.model.specs.Values.{trimmed}
use Rattle.runner.proofs.RunLaws.{run_ended}
use Rattle.runner.proofs.run_ready.Goals as goal

pub state_of-requires : goal.state_of-requires
unfolding trimmed
state_of-requires c =
    let B = c.requires.2 in
    let e = c.clocks-stopped.ensures in
    (B.tables.accepted.few, omega (arith, B.tables.accepted.few, e.there), λ k h. omega (arith, e.small k h))

pub returns : goal.returns
returns c =
    let B = c.requires.2 in
    run_ended c.args.chain [] _ _ _ _ _ _ _ B.fired_is B.counters c.requires.1 _ _ _ _ _ c.clocks-stopped.ensures c.state_of.ensures
