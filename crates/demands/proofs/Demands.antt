-- The demands and the other promises hold.
use Rattle.demands.specs.Iterations.{Geometry}
use Rattle.demands.specs.Demand3.{ListOfCalls, Demand3}
use Rattle.demands.specs.Demand2.{Demand2}
use Rattle.demands.specs.Plan.{PlanDemand}
use Rattle.demands.specs.PlanSteps.{PaperSteps}
use Rattle.demands.specs.AuthorsOrder.{AuthorsOrder}
use Rattle.demands.specs.Promises.{Promises}
use Rattle.demands.specs.AnyState.{AnyStates}
use Rattle.demands.specs.PastCounts.{PastCounts}
use Rattle.demands.proofs.Iterations.{geometry}
use Rattle.demands.proofs.Finishing.{finishes, stalls, numbered}
use Rattle.demands.proofs.HandedOn.{hands_on}
use Rattle.demands.proofs.Timing.{indexed, in_its_clock, same_clocks, on_time, not_earlier}
use Rattle.demands.proofs.Words.{demand_2}
use Rattle.demands.proofs.Plans.{plan_demand}
use Rattle.demands.proofs.PlanSteps.{paper_steps}
use Rattle.demands.proofs.AuthorsOrder.{authors_order_lem}
use Rattle.demands.proofs.Again.{makes_clock, called_again}
use Rattle.demands.proofs.Pieces.{small_pieces}
use Rattle.demands.proofs.AnyState.{any_states}
use Rattle.demands.proofs.PastCounts as past
use Rattle.demands.proofs.InTwo.{in_two_calls}
use Rattle.demands.proofs.Promised.{clocks_few, never_stale, split, refused_keeps, no_part, past_count, alike}

pub grid_window_distances : Geometry
grid_window_distances = geometry

pub demand_2_plans : PlanDemand
demand_2_plans = plan_demand

pub planning_steps : PaperSteps
planning_steps = paper_steps

pub demand_2_runs : (q : ListOfCalls) → Demand2 q
demand_2_runs = demand_2

pub demand_2_in_order : AuthorsOrder
demand_2_in_order = authors_order_lem

pub demand_3 : Demand3
demand_3 = record {
  finishes = finishes;
  stalls = stalls;
  numbered = numbered;
  hands_on = hands_on;
  indexed = indexed;
  in_its_clock = in_its_clock;
  same_clocks = same_clocks;
  on_time = on_time;
  not_earlier = not_earlier;
}

pub promises : Promises
promises = record {
  few_clocks = clocks_few;
  never_stale = never_stale;
  makes_clock = makes_clock;
  again = called_again;
  split = split;
  in_two = in_two_calls;
  small_pieces = small_pieces;
  refused_keeps = refused_keeps;
  no_part = no_part;
  past_count = past_count;
  alike = alike;
}

pub on_any_state : AnyStates
on_any_state = any_states

pub past_the_counts : PastCounts
past_the_counts = past.past_counts
