-- `outcome_of` names the way out. Assumes nothing.
use Rattle.model_run.specs.Running.{outcome_of}
use Rattle.runner.proofs.outcome_of.Goals as goal

pub returns-in-Done : goal.returns-in-Done
unfolding outcome_of
returns-in-Done c = rw c.in-Done.is

pub returns-in-Spent : goal.returns-in-Spent
unfolding outcome_of
returns-in-Spent c = rw c.in-Spent.is

pub returns-in-Starved : goal.returns-in-Starved
unfolding outcome_of
returns-in-Starved c = rw c.in-Starved.is

pub returns-in-Stalled : goal.returns-in-Stalled
unfolding outcome_of
returns-in-Stalled c = rw c.in-Stalled.is

pub returns-in-Full : goal.returns-in-Full
unfolding outcome_of
returns-in-Full c = rw c.in-Full.is
