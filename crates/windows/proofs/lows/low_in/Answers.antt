use Prim.Native.Nat.{ℕ}
use mir.Val.{to_z}
use mir.Syntax.{w16}
use mathlib.Core.Path.{sym, ◌∙◌, ap}
use native.Mathlib.Omega.{arith}
use native.Mathlib.Nat.{zero-add}
use lib.IntN.{ℤ, pos}
use lib.ListN.{get_or}
use borrow.Author.Rules.{rules}
use Rattle.model.specs.Geometry.{least_from}
use Rattle.geometry.specs.Parts.{part, entry_at}
use Rattle.geometry.proofs.EntryLaws.{entry_back}
use Rattle.windows.proofs.LowLaws.{least_start, least_on, least_end, low_none, low_many, low_past, low_there}
use Rattle.windows.proofs.lows.low_in.Goals as goal

pub returns-then-count-eq0 : goal.returns-then-count-eq0
returns-then-count-eq0 c = low_none c.args.count c.args.offsets.now c.args.d c.if-count-eq0.true

pub returns-then-count-gt32 : goal.returns-then-count-gt32
returns-then-count-gt32 c = low_many c.args.count c.args.offsets.now c.args.d c.if-count-gt32.true

pub returns-then-d-ge4 : goal.returns-then-d-ge4
returns-then-d-ge4 c = low_past c.args.count c.args.offsets.now c.args.d c.if-d-ge4.true

pub loop-k-init : goal.loop-k-init
loop-k-init c =
    let first = entry_back (get_or c.args.offsets.now c.args.d (pos 0)) (search rules) ∙ ap (λ (i : ℕ). get_or c.args.offsets.now i (pos 0)) (sym (zero-add c.args.d)) in
    ap (λ (z : ℤ). least_from z (part (λ i. entry_at c.args.offsets.now i c.args.d) 1 c.args.count)) first
    ∙ least_start (λ i. entry_at c.args.offsets.now i c.args.d) c.args.count (omega arith)

pub loop-k-preserved : goal.loop-k-preserved
loop-k-preserved c =
    let x = entry_at c.args.offsets.now c.loop-k.k c.args.d in
    least_on (λ i. entry_at c.args.offsets.now i c.args.d) (to_z w16 c.loop-k.low-bits) _ _ c.loop-k.k c.args.count c.loop-k-test.true (entry_back x (search rules)) (search rules)
    c.loop-k.invariant

pub returns : goal.returns
returns c =
    least_end (λ i. entry_at c.args.offsets.now i c.args.d) (to_z w16 c.loop-k.low-bits) c.loop-k.k c.args.count c.loop-k-test.false ∙ c.loop-k.invariant
    ∙ sym (low_there c.args.count c.args.offsets.now c.args.d (omega arith) (omega arith))
