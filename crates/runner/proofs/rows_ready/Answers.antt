-- The call ends as its clocks do. Assumes nothing.
use mathlib.Core.Path.{refl}
use native.Mathlib.Omega.{arith}
use Rattle.model.specs.Values.{trimmed}
use Rattle.runner.proofs.RowsBegunLaws.{row_call}
use Rattle.runner.proofs.RunLaws.{run_ended}
use Rattle.runner.proofs.rows_ready.Goals as goal

pub clocks_on_rows-stopped-requires : goal.clocks_on_rows-stopped-requires
clocks_on_rows-stopped-requires c =
    (trimmed c.args.chain c.args.rows.now, row_call c.args.chain c.args.rows.now c.args.state c.args.found _ _ _ _ _ _ _ c.requires.1)

pub state_of-requires : goal.state_of-requires
unfolding trimmed
state_of-requires c =
    let B = c.requires.1 in
    let e = c.clocks_on_rows-stopped.ensures (trimmed c.args.chain c.args.rows.now) (row_call c.args.chain c.args.rows.now c.args.state c.args.found _ _ _ _ _ _ _ B) in
    (B.tables.accepted.few, omega (arith, B.tables.accepted.few, e.there), λ k h. omega (arith, e.small k h))

pub returns : goal.returns
returns c =
    let B = c.requires.1 in
    let e = c.clocks_on_rows-stopped.ensures (trimmed c.args.chain c.args.rows.now) (row_call c.args.chain c.args.rows.now c.args.state c.args.found _ _ _ _ _ _ _ B) in
    run_ended c.args.chain c.args.rows.now _ _ _ _ _ _ _ refl B.counters c.requires.0 _ _ _ _ _ e c.state_of.ensures
