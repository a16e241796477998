use Prim.Native.Nat.{suc}
use mathlib.Core.Path.{◌≡◌, sym, ◌∙◌}
use native.Mathlib.Omega.{arith}
use lib.Seq.{slice}
use Rattle.model_run.specs.Clock.{Layout}
use Rattle.model_run.specs.Running.{bad_counter, bad_fifo}
use Rattle.run_prepare.specs.Prepared.{number_at, Laid}
use Rattle.run_prepare.proofs.PrepareStates.{counter_bad, fifo_bad, next_filter, no_filter, too_many, by_filters}
use Rattle.run_prepare.proofs.bad_state.Goals as goal
use Rattle.run_prepare.proofs.bad_state.Goals.{After-bad_counter, After-bad_fifo}

pub returns-then-iterations-fired : goal.returns-then-iterations-fired
returns-then-iterations-fired c = λ L h. too_many L c.args.fired _ (omega (arith, h.iterations_are))

pub loop-k-init : goal.loop-k-init
loop-k-init c = λ L h. by_filters L c.args.fired _ (omega (arith, h.iterations_are))

-- What the two calls answer, of each layout that the arrays hold.
counter-is : (c : After-bad_counter) (L : Layout) →
    Laid L c.args.n c.args.cells c.args.iterations c.args.fired c.args.caps.now c.args.wants.now c.args.last.now
    → c.bad_counter.result ≡ bad_counter L c.args.fired c.loop-k.k (number_at c.args.passed.now c.loop-k.k)
counter-is c L h =
    let k = c.loop-k.k in
    let below = c.loop-k-test.true in
    c.bad_counter.ensures L k h.cells_are (h.wanted k below) (λ f e. h.fired_last f k e below)

fifo-is : (c : After-bad_fifo) (L : Layout) →
    Laid L c.args.n c.args.cells c.args.iterations c.args.fired c.args.caps.now c.args.wants.now c.args.last.now
    → c.bad_fifo.result ≡ bad_fifo L c.loop-k.k (number_at c.args.passed.now c.loop-k.k) (slice (suc c.loop-k.k) c.args.n c.args.passed.now)
fifo-is c L h = c.bad_fifo.ensures L (h.capacity_is c.loop-k.k)

pub returns-then-bad_counter : goal.returns-then-bad_counter
returns-then-bad_counter c = λ L h.
    counter_bad L c.args.n c.loop-k.k c.args.passed.now c.args.fired c.loop-k-test.true c.requires.1
    (sym c.if-bad_counter.true ∙ counter-is (goal.at.returns-then-bad_counter c).After-bad_counter L h)
    ∙ sym (c.loop-k.invariant L h)

pub returns-then-bad_fifo : goal.returns-then-bad_fifo
returns-then-bad_fifo c = λ L h.
    fifo_bad L c.args.n c.loop-k.k c.args.passed.now c.args.fired c.loop-k-test.true c.requires.1
    (sym c.if-bad_counter.false ∙ counter-is (goal.at.returns-then-bad_fifo c).After-bad_counter L h) (sym c.if-bad_fifo.true ∙ fifo-is (goal.at.returns-then-bad_fifo c).After-bad_fifo L h)
    ∙ sym (c.loop-k.invariant L h)

pub loop-k-preserved : goal.loop-k-preserved
loop-k-preserved c = λ L h.
    c.loop-k.invariant L h
    ∙ next_filter L c.args.n c.loop-k.k c.args.passed.now c.args.fired c.loop-k-test.true c.requires.1
    (sym c.if-bad_counter.false ∙ counter-is (goal.at.loop-k-preserved c).After-bad_counter L h) (sym c.if-bad_fifo.false ∙ fifo-is (goal.at.loop-k-preserved c).After-bad_fifo L h)

pub returns : goal.returns
returns c = λ L h.
    no_filter L c.args.n c.loop-k.k c.args.passed.now c.args.fired c.loop-k-test.false ∙ sym (c.loop-k.invariant L h)
