-- `clocks` makes the clocks of the call's definition. Assumes nothing.
use mathlib.Core.Path.{◌∙◌, ap}
use native.Mathlib.Omega.{arith}
use Rattle.runner.proofs.ClocksLaws.{stopped_of, none_small, counts_small, ends_stretched, iterations_small, ends_done, ends_none, may_stretch, stretched_whole}
use Rattle.runner.proofs.clocks.Goals as goal

pub ended-requires : goal.ended-requires
ended-requires c = none_small c.args.chain c.requires.0 _ _ _ _ _ _ _ _ _ _ c.requires.1 _ _ _ _ c.requires.2 c.no_clocks.ensures

pub returns-then-iterations-fired : goal.returns-then-iterations-fired
returns-then-iterations-fired c =
    ends_done c.args.chain c.requires.0 _ _ _ _ _ _ _ _ _ _ c.requires.1 _ _ _ _ c.requires.2 _ _ _ _ c.if-iterations-fired.true (c.ended.ensures ∙ ap (stopped_of c.args.fired) c.no_clocks.ensures)

pub ended-requires-then-allowance-eq0 : goal.ended-requires-then-allowance-eq0
ended-requires-then-allowance-eq0 c =
    none_small c.args.chain c.requires.0 _ _ _ _ _ _ _ _ _ _ c.requires.1 _ _ _ _ c.requires.2 c.no_clocks-then-allowance-eq0.ensures

pub returns-then-allowance-eq0 : goal.returns-then-allowance-eq0
returns-then-allowance-eq0 c =
    ends_none c.args.chain c.requires.0 _ _ _ _ _ _ _ _ _ _ c.requires.1 _ _ _ _ c.requires.2 _ _ _ _ c.if-iterations-fired.false c.if-allowance-eq0.true (c.ended-then-allowance-eq0.ensures ∙ ap (stopped_of c.args.fired) c.no_clocks-then-allowance-eq0.ensures)

pub stretch_clocks-s-requires : goal.stretch_clocks-s-requires
stretch_clocks-s-requires c =
    record { layout = _; write = _; stretching = may_stretch c.args.chain c.requires.0 _ _ _ _ _ _ _ _ _ _ c.requires.1 _ _ _ _ c.requires.2 c.if-iterations-fired.false _ c.requires.3 }

pub ended-requires-2 : goal.ended-requires-2
ended-requires-2 c =
    let m = c.if-iterations-fired.false in
    let few = iterations_small c.args.chain c.requires.0 _ _ _ _ _ _ _ _ _ _ c.requires.1 _ _ _ _ c.requires.2 in
    let E = stretched_whole c.args.chain c.requires.0 _ _ _ _ _ _ _ _ _ _ c.requires.1 _ _ _ _ c.requires.2 m (c.stretch_clocks-s.ensures _ _ (may_stretch c.args.chain c.requires.0 _ _ _ _ _ _ _ _ _ _ c.requires.1 _ _ _ _ c.requires.2 m _ c.requires.3)) in
    counts_small _ few E (omega arith)

pub returns : goal.returns
returns c =
    let m = c.if-iterations-fired.false in
    let few = iterations_small c.args.chain c.requires.0 _ _ _ _ _ _ _ _ _ _ c.requires.1 _ _ _ _ c.requires.2 in
    let E = stretched_whole c.args.chain c.requires.0 _ _ _ _ _ _ _ _ _ _ c.requires.1 _ _ _ _ c.requires.2 m (c.stretch_clocks-s.ensures _ _ (may_stretch c.args.chain c.requires.0 _ _ _ _ _ _ _ _ _ _ c.requires.1 _ _ _ _ c.requires.2 m _ c.requires.3)) in
    ends_stretched _ few E c.ended-2.ensures
