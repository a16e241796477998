use Prim.Native.Nat.{ℕ, ◌+◌, ◌-◌, min, max}
use mathlib.Core.Path.{sym, ◌∙◌, ap, ap₂}
use native.Mathlib.Omega.{arith}
use Rattle.model.specs.Lists.{tabulate, greatest}
use Rattle.model.specs.Courses.{smallest}
use Rattle.model.specs.Grounds.{row, end as end_of}
use Rattle.model.specs.Values.{rows_of}
use Rattle.geometry.specs.Parts.{number_at}
use Rattle.rows.specs.Courses.{start_in, end_in}
use Rattle.rows.proofs.BackLaws.{greatest_last, greatest_back, greatest_all, smallest_last, smallest_back, smallest_all}
use Rattle.rows.proofs.common.columns_in.Goals as goal

pub returns-then-n-eq0 : goal.returns-then-n-eq0
unfolding start_in end_in tabulate greatest smallest
returns-then-n-eq0 c = (
  sym (ap (λ (n : ℕ). start_in (rows_of c.args.count c.args.rows.now) c.args.down.now c.args.on.now n c.args.u) c.if-n-eq0.true),
  sym (ap (λ (n : ℕ). end_in (rows_of c.args.count c.args.rows.now) c.args.down.now c.args.on.now n c.args.u) c.if-n-eq0.true),
)

pub loop-k-init : goal.loop-k-init
loop-k-init c = (
  c.columns_of-last.ensures.0 ∙ greatest_last (λ i. (row (rows_of c.args.count c.args.rows.now) (number_at c.args.down.now i + c.args.u)).start - number_at c.args.on.now i) c.args.n (omega arith),
  c.columns_of-last.ensures.1 ∙ smallest_last (λ i. end_of (row (rows_of c.args.count c.args.rows.now) (number_at c.args.down.now i + c.args.u)) - number_at c.args.on.now i) c.args.n (omega arith),
)

pub loop-k-preserved : goal.loop-k-preserved
loop-k-preserved c = (
  c.max-start.ensures ∙ ap₂ max c.columns_of-here.ensures.0 c.loop-k.invariant.0 ∙ greatest_back (λ i. (row (rows_of c.args.count c.args.rows.now) (number_at c.args.down.now i + c.args.u)).start - number_at c.args.on.now i) c.loop-k.k c.args.n (omega arith) (omega arith),
  c.min-end.ensures ∙ ap₂ min c.columns_of-here.ensures.1 c.loop-k.invariant.1 ∙ smallest_back (λ i. end_of (row (rows_of c.args.count c.args.rows.now) (number_at c.args.down.now i + c.args.u)) - number_at c.args.on.now i) c.loop-k.k c.args.n (omega arith) (omega arith),
)

pub returns : goal.returns
unfolding start_in end_in
returns c = (
  c.loop-k.invariant.0 ∙ greatest_all (λ i. (row (rows_of c.args.count c.args.rows.now) (number_at c.args.down.now i + c.args.u)).start - number_at c.args.on.now i) c.loop-k.k c.args.n (omega arith),
  c.loop-k.invariant.1 ∙ smallest_all (λ i. end_of (row (rows_of c.args.count c.args.rows.now) (number_at c.args.down.now i + c.args.u)) - number_at c.args.on.now i) c.loop-k.k c.args.n (omega arith),
)
