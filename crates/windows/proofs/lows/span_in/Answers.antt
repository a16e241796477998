use borrow.Author.Rules.{rules}
use Prim.Native.Nat.{ℕ, ◌+◌, max}
use mathlib.Core.Path.{sym, ◌∙◌, ap}
use native.Mathlib.Omega.{arith}
use lib.IntN.{ℤ}
use mir.Syntax.{w16}
use mir.Val.{to_z, of_z}
use Rattle.model.specs.Vectors.{above}
use Rattle.geometry.specs.Parts.{part, entry_at, entries_in}
use Rattle.geometry.proofs.EntryLaws.{entry_back}
use Rattle.windows.proofs.LowLaws.{span_above, span_start, span_on, span_end, span_many, span_past, span_there}
use Rattle.windows.proofs.lows.span_in.Goals as goal

pub returns-then-count-gt32 : goal.returns-then-count-gt32
returns-then-count-gt32 c = span_many c.args.count c.args.offsets.now c.args.d c.args.low c.if-count-gt32.true

pub returns-then-d-ge4 : goal.returns-then-d-ge4
returns-then-d-ge4 c = span_past c.args.count c.args.offsets.now c.args.d c.args.low c.if-d-ge4.true

pub loop-k-init : goal.loop-k-init
loop-k-init c =
    span_start (λ i. entry_at c.args.offsets.now i c.args.d) (to_z w16 (of_z w16 c.args.low)) c.args.count

pub loop-k-preserved : goal.loop-k-preserved
loop-k-preserved c =
    let low = to_z w16 (of_z w16 c.args.low) in
    let x = entry_at c.args.offsets.now c.loop-k.k c.args.d in
    let span = c.max-span.ensures ∙ ap (max c.loop-k.span) (c.height.ensures ∙ ap (λ (z : ℤ). above z low) (entry_back x (search rules))) in
    ap (λ (s : ℕ). max s (span_above low (part (λ i. entry_at c.args.offsets.now i c.args.d) (c.loop-k.k + 1) c.args.count))) span
    ∙ span_on (λ i. entry_at c.args.offsets.now i c.args.d) low c.loop-k.span c.loop-k.k c.args.count c.loop-k-test.true ∙ c.loop-k.invariant

pub returns : goal.returns
returns c =
    span_end (λ i. entry_at c.args.offsets.now i c.args.d) (to_z w16 (of_z w16 c.args.low)) c.loop-k.span c.loop-k.k c.args.count c.loop-k-test.false ∙ c.loop-k.invariant
    ∙ ap (λ (z : ℤ). span_above z (entries_in c.args.count c.args.offsets.now c.args.d)) (entry_back c.args.low c.ranges.low.sfits)
    ∙ sym (span_there c.args.count c.args.offsets.now c.args.d c.args.low (omega arith) (omega arith))
