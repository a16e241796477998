use Rattle.std.proofs.Common.{sym, refl, length-take-le}
use Rattle.program_driver.proofs.RunLaws.{part_run_lem}
use Rattle.program_driver.proofs.run_part.Goals as goal

pub slice_bounds-run-end-3 : goal.slice_bounds-run-end-3
slice_bounds-run-end-3 c = sym (length-take-le c.args.places c.args.words.now c.requires.2)

pub returns : goal.returns
returns c =
    let k = part_run_lem c.run.result c.run.new.store c.run.new.out c.args.words.now _ c.args.places c.args.chain c.args.rows.now c.args.state
    c.args.store.now c.args.cells.now c.args.from c.args.to c.run.auto.out c.requires.2 c.requires.0 c.run.ensures refl in
    record { places_after = k.0; kept_behind = k.1 }
