use Prim.Native.Nat.{suc, ◌+◌}
use mathlib.Core.Path.{◌≡◌}
use native.Mathlib.Omega.{arith}
use lib.ListN.{length-set}
use borrow.Author.Rules.{rules}
use Rattle.model_sheet.specs.Frames.{digits_of}
use Rattle.model_sheet.specs.Numbers.{half_bytes}
use Rattle.sheet_writer.proofs.skewed.put_number.Goals as goal

pub bounds-out-at-2 : goal.bounds-out-at-2
bounds-out-at-2 c = simp length-set (omega arith)

pub bounds-out-at-3 : goal.bounds-out-at-3
bounds-out-at-3 c = simp length-set (omega arith)

pub bounds-out-at-4 : goal.bounds-out-at-4
bounds-out-at-4 c = simp length-set (omega arith)

pub returns : goal.returns
unfolding digits_of half_bytes
returns c =
    let at = c.args.at in
    let e : at + 1 ≡ suc at = omega arith in
    let f : at + 2 ≡ suc (suc at) = omega arith in
    let g : at + 3 ≡ suc (suc (suc at)) = omega arith in
    (search rules, rw (e, f, g, c.low_digit-2.ensures, c.high_digit-2.ensures, c.low_digit.ensures, c.high_digit.ensures))
