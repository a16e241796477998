-- 11 turns the state back, or the tables are those of the call. Assumes nothing.
use mathlib.Core.List.{[]}
use mathlib.Core.Path.{refl, sym, ◌∙◌}
use native.Mathlib.Omega.{arith}
use Rattle.run_prepare.specs.Ready.{flattened}
use Rattle.run_prepare.proofs.PrepareChains.{chain_shaped}
use Rattle.run_prepare.proofs.ReadyLaws.{some_dimensions, extents_small, judged_bad, taken, readied_refused, readied}
use Rattle.run_prepare.proofs.with_store.Goals as goal

pub take_up-requires : goal.take_up-requires
take_up-requires c =
    (c.requires.capable.small, (_, chain_shaped c.args.chain c.requires.capable.accepted c.args.shape _ _ _ c.requires.shape_value.0 c.widen-extents.ensures c.widen.ensures c.widen-2.ensures))

pub returns-then-take_up : goal.returns-then-take_up
returns-then-take_up c =
    λ bases tops store T.
    readied_refused (flattened c.args.chain) [] _ _ _ _ _ _ _ _ _ _ _
    (judged_bad (flattened c.args.chain) [] _ _ T.capable.accepted T.long
    (sym (c.take_up.ensures _ (chain_shaped c.args.chain c.requires.capable.accepted c.args.shape _ _ _ c.requires.shape_value.0 c.widen-extents.ensures c.widen.ensures c.widen-2.ensures) T.capable.capped).bad_is ∙ c.if-take_up.true))

pub spans_of-requires : goal.spans_of-requires
spans_of-requires c =
    let S = (chain_shaped c.args.chain c.requires.capable.accepted c.args.shape _ _ _ c.requires.shape_value.0 c.widen-extents.ensures c.widen.ensures c.widen-2.ensures) in
    ((some_dimensions c.args.chain S).1, extents_small c.args.chain S)

pub overflow_sub-result : goal.overflow_sub-result
overflow_sub-result c =
    omega (arith, (some_dimensions c.args.chain (chain_shaped c.args.chain c.requires.capable.accepted c.args.shape _ _ _ c.requires.shape_value.0 c.widen-extents.ensures c.widen.ensures c.widen-2.ensures)).0)

pub offset_bounds-extents-dims : goal.offset_bounds-extents-dims
offset_bounds-extents-dims c =
    omega (arith, some_dimensions c.args.chain (chain_shaped c.args.chain c.requires.capable.accepted c.args.shape _ _ _ c.requires.shape_value.0 c.widen-extents.ensures c.widen.ensures c.widen-2.ensures))

pub bounds-extents-dims : goal.bounds-extents-dims
bounds-extents-dims c =
    omega (arith, some_dimensions c.args.chain (chain_shaped c.args.chain c.requires.capable.accepted c.args.shape _ _ _ c.requires.shape_value.0 c.widen-extents.ensures c.widen.ensures c.widen-2.ensures))

pub returns : goal.returns
returns c =
    let S = (chain_shaped c.args.chain c.requires.capable.accepted c.args.shape _ _ _ c.requires.shape_value.0 c.widen-extents.ensures c.widen.ensures c.widen-2.ensures) in
    λ bases tops store T.
    readied (taken c.args.chain _ _ _ _ _ _ _ _ _ _ _ _ _ T S c.widen-2.ensures.long (c.take_up.ensures _ S T.capable.capped) c.if-take_up.false) _ _ _ _
    c.spans_of.ensures refl c.requires.shape_value.1 refl
