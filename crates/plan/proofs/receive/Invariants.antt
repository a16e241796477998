-- What arrived is what some blocks give, whatever further ones give.
use Rattle.program_laws.specs.Loops.{Taking}
use Rattle.plan.proofs.receive.Given as goal

abbrev pub invariant-loop : goal.invariant-loop
invariant-loop l = Taking (record { sheet = l.arriving; rows = l.rows })
