use Prim.Native.Nat.{ℕ, ◌+◌, ◌*◌, ◌≤◌, ◌<◌}
use mathlib.Core.Path.{◌≡◌, ap, ◌∙◌}
use native.Mathlib.Omega.{arith}
use lib.ListN.{length, length-set}
use lib.Seq.{sets}
use Rattle.sheet_laws.proofs.AcceptedChains.{few_rows, no_bad_row, number_fits}
use Rattle.sheet_writer.proofs.RowsLaws.{numbers_from, number_on, numbers_end, rows_laid}
use Rattle.sheet_writer.proofs.skewed.put_rows.Goals as goal
use Rattle.sheet_writer.proofs.skewed.put_rows.Goals.{After-loop-i, After-number_at, In-loop-i}

-- A number is within the rows while one remains, and there is room for it, and for the LF behind the last.
inside : (c : After-number_at) → c.loop-i.i < 2 * c.args.count
inside c = omega (arith, c.loop-i-test.true)

room : (t : In-loop-i) → t.loop-i.at + 4 ≤ length t.loop-i.out
room t =
    omega (arith, length-set {A = ℕ})

place-left : (c : After-loop-i) → c.loop-i.at + 1 ≡ 2 * (3 + 4 * c.args.count) + 1
place-left c =
    omega (arith, c.loop-i.auto.i-end, c.loop-i.invariant.0, c.loop-i-test.false)

room-left : (c : After-loop-i) → (c.loop-i.at < length c.loop-i.out) × (c.loop-i.at ≤ 4102)
room-left c =
    (omega (arith, place-left c, length-set {A = ℕ}), omega (arith, place-left c, few_rows c.args.count c.args.rows.now c.requires.0))

pub put_number-at-requires : goal.put_number-at-requires
put_number-at-requires c =
    (omega (arith, few_rows c.args.count c.args.rows.now c.requires.0), simp length-set (omega (arith, c.requires.1)))

pub loop-i-init : goal.loop-i-init
loop-i-init c =
    let e = c.put_number-at.ensures in
    (omega (arith, e.0), rw e.0)

pub put_number-at-requires-in-loop-i : goal.put_number-at-requires-in-loop-i
put_number-at-requires-in-loop-i c =
    let r = c.args.rows.now in
    (omega (arith, c.number_at.ensures, number_fits c.args.count r (no_bad_row c.args.count r c.requires.0) c.loop-i.i (inside (goal.at.put_number-at-requires-in-loop-i c).After-number_at)), room (goal.at.put_number-at-requires-in-loop-i c).In-loop-i)

pub loop-i-preserved : goal.loop-i-preserved
loop-i-preserved c =
    let e = c.put_number-at-in-loop-i.ensures in (
      omega (arith, e.0, c.loop-i.invariant.0),
      rw (e.0, e.1, c.number_at.ensures) (number_on c.args.rows.now c.loop-i.out (2 * c.args.count) c.loop-i.at c.loop-i.i c.loop-i-test.true) ∙ c.loop-i.invariant.1,
    )

pub bounds-out-at : goal.bounds-out-at
bounds-out-at c = (room-left c).0

pub overflow_add-result : goal.overflow_add-result
overflow_add-result c = omega (arith, (room-left c).1)

pub returns : goal.returns
returns c =
    let n = 2 * c.args.count in (
      omega (arith, place-left c),
      numbers_end c.args.rows.now c.loop-i.out n c.loop-i.at c.loop-i.i c.loop-i-test.false
          ∙ c.loop-i.invariant.1
          ∙ ap (λ t. sets t 6 (numbers_from n 0 c.args.rows.now)) c.put_number-at.ensures.1
          ∙ rows_laid c.args.count c.args.rows.now c.args.out.now,
    )
