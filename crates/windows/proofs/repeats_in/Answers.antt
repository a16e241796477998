use mathlib.Core.Path.{sym, ◌∙◌, ap}
use Rattle.model.specs.Judging.{repeats}
use Rattle.geometry.specs.Parts.{offset_at}
use Rattle.geometry.proofs.PartLaws.{part_all}
use Rattle.windows.proofs.OffsetLaws.{repeats_on, repeats_here, repeats_end}
use Rattle.windows.proofs.repeats_in.Goals as goal

pub loop-k-init : goal.loop-k-init
loop-k-init c = ap repeats (part_all (offset_at c.args.dims c.args.offsets.now) c.args.count)

pub returns-then-occurs_later : goal.returns-then-occurs_later
returns-then-occurs_later c =
    repeats_here (offset_at c.args.dims c.args.offsets.now) c.loop-k.k c.args.count c.loop-k-test.true
    (sym c.occurs_later.ensures ∙ c.if-occurs_later.true) ∙ c.loop-k.invariant

pub loop-k-preserved : goal.loop-k-preserved
loop-k-preserved c =
    repeats_on (offset_at c.args.dims c.args.offsets.now) c.loop-k.k c.args.count c.loop-k-test.true
    (sym c.occurs_later.ensures ∙ c.if-occurs_later.false) ∙ c.loop-k.invariant

pub returns : goal.returns
returns c =
    repeats_end (offset_at c.args.dims c.args.offsets.now) c.loop-k.k c.args.count c.loop-k-test.false ∙ c.loop-k.invariant
