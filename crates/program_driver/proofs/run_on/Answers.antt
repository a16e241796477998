use Rattle.std.proofs.Common.{min, ap, ◌∙◌, arith}
use Rattle.program_driver.proofs.RunLaws.{within, run_step}
use Rattle.program_driver.proofs.run_on.Goals as goal

pub ran_on-requires : goal.ran_on-requires
ran_on-requires c = within _ _ _ _ _ _ _ _ _ _ _ _ c.run_part-ran.ensures.places_after (omega (arith, c.min-from.ensures)) (omega (arith, c.min-to.ensures))

pub returns : goal.returns
returns c = run_step _ _ _ _ _ _ _ _ _ _ _ c.firing_size-size.ensures (c.min-places.ensures ∙ ap (min _) c.room_for.ensures) c.min-to.ensures c.min-from.ensures _ _ _ c.run_part-ran.ensures.places_after c.run_part-ran.ensures.kept_behind _ c.counts_of-c.ensures _ _ c.put_firings-bytes.ensures _ c.ran_on.ensures
