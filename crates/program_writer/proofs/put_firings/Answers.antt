use Prim.Native.Nat.{◌+◌, ◌*◌, ◌≤◌}
use mathlib.Core.Path.{◌≡◌, ◌∙◌}
use native.Mathlib.Nat.{add-zero, sub-zero, zero-mul}
use native.Mathlib.Omega.{arith}
use lib.ListN.{length}
use Rattle.program_writer.proofs.FiringLaws.{line_on}
use Rattle.program_writer.proofs.RoomLaws.{Fits, fit, next_fits}
use Rattle.program_writer.proofs.LineCalls.{all_laid}
use Rattle.program_writer.proofs.put_firings.Goals as goal
use Rattle.program_writer.proofs.put_firings.Goals.{At-loop-i, In-loop-i}

fit_at : (l : At-loop-i)
    → Fits l.args.size l.args.index (length l.args.words.now) (length l.args.out.now) l.how_many-lines.result
fit_at l = fit _ _ _ _ _ _ l.how_many-lines.ensures

next-at : (t : In-loop-i)
    →
    let a = t.args in
    (t.loop-i.at + (8 * a.size + 11) ≤ length t.loop-i.out) × (t.loop-i.i * a.size + a.size ≤ length a.words.now)
next-at t =
    let f = next_fits _ _ _ _ _ t.loop-i.i (fit _ _ _ _ _ _ t.how_many-lines.ensures) t.loop-i-test.true in
    (omega (arith, f.0), f.1)

pub loop-i-init : goal.loop-i-init
loop-i-init c = (omega arith, rw (add-zero, sub-zero, zero-mul))

pub overflow_cast-i : goal.overflow_cast-i
overflow_cast-i c = omega (arith, (fit_at (goal.at.overflow_cast-i c).At-loop-i).has_indices)

pub overflow_add-index : goal.overflow_add-index
overflow_add-index c = omega (arith, (fit_at (goal.at.overflow_add-index c).At-loop-i).has_indices)

pub overflow_mul-i : goal.overflow_mul-i
overflow_mul-i c = omega (arith, (next-at (goal.at.overflow_mul-i c).In-loop-i).1)

pub put_firing-at-requires : goal.put_firing-at-requires
put_firing-at-requires c = let f = next-at (goal.at.put_firing-at-requires c).In-loop-i in (f.0, omega (arith, f.1))

pub loop-i-preserved : goal.loop-i-preserved
loop-i-preserved c =
    let a = c.args in
    let i = c.loop-i.i in
    let e = c.put_firing-at.ensures in
    let j : a.index + (i + 1) ≡ a.index + i + 1 = omega arith in
    let from : (i + 1) * a.size ≡ i * a.size + a.size = omega arith in (
      omega arith,
      rw (e.0, e.1, j, from)
          (line_on a.words.now a.size (a.index + i) i c.how_many-lines.result c.loop-i.out c.loop-i.at (i * a.size)
          c.loop-i-test.true (next-at (goal.at.loop-i-preserved c).In-loop-i).1)
          ∙ c.loop-i.invariant.1,
    )

pub returns : goal.returns
returns c =
    let a = c.args in
    let i = c.loop-i.i in
    let v = c.loop-i.invariant in
    all_laid _ _ _ _ _ _ _ _ _ (i * a.size) (a.index + i) c.how_many-lines.ensures c.loop-i.auto.i-end c.loop-i-test.false v.0 v.1
