use Prim.Native.Nat.{ℕ, ◌+◌}
use mathlib.Core.Path.{sym, ◌∙◌, ap, subst}
use native.Mathlib.Omega.{arith}
use lib.ListN.{set}
use Rattle.std.specs.Prelude.{Some}
use Rattle.kernel_terms.specs.FilterTables.{term_of, filters_for}
use Rattle.kernel_terms.proofs.TableLaws.{Listed, listed_none, listed_room, listed_centre, listed_other, listed_all, is_one, is_other}
use Rattle.kernel_terms.proofs.all_but.Goals as goal

pub loop-t-init : goal.loop-t-init
loop-t-init c = listed_none c.args.centre (term_of c.args.order.now.stood c.args.order.now.filters)

pub loop-t-preserved-then-eq : goal.loop-t-preserved-then-eq
loop-t-preserved-then-eq c =
    listed_centre _ _ _ _ _ c.loop-t.invariant (is_one _ _ _ c.eq.ensures c.if-eq.true ∙ ap Some c.term_at-k.ensures)

pub bounds-filters-count : goal.bounds-filters-count
bounds-filters-count c = listed_room _ _ _ _ _ c.loop-t.invariant (omega arith)

pub overflow_add-count : goal.overflow_add-count
overflow_add-count c = omega (arith, listed_room _ _ _ _ _ c.loop-t.invariant (omega arith))

pub loop-t-preserved : goal.loop-t-preserved
loop-t-preserved c =
    let f = term_of c.args.order.now.stood c.args.order.now.filters in
    let next =
    listed_other c.args.centre f c.loop-t.t c.loop-t.filters c.loop-t.count c.loop-t.invariant
    (λ d. is_other _ _ _ c.eq.ensures c.if-eq.false (d ∙ ap Some (sym c.term_at-k.ensures))) (omega arith) in
    subst (λ (x : ℕ). Listed c.args.centre f (c.loop-t.t + 1) (set c.loop-t.filters c.loop-t.count x) (c.loop-t.count + 1)) (sym c.term_at-k.ensures) next

pub returns : goal.returns
unfolding filters_for
returns c = listed_all _ _ _ _ _ c.loop-t.invariant _ (omega arith)
