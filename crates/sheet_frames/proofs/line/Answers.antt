-- The line is the part from `at` to where it ends.
use Prim.Native.Nat.{◌-◌}
use mathlib.Core.Path.{◌≡◌}
use native.Mathlib.Nat.{sub_self}
use native.Mathlib.Omega.{arith}
use lib.ListN.{length, drop, length-drop}
use lib.Seq.{drop-length}
use Rattle.model_sheet.specs.Lines.{line_of}
use Rattle.sheet_laws.proofs.LineLaws.{line_front, line_within, line_past_end}
use Rattle.sheet_frames.proofs.line.Goals as goal

pub returns-then-size-at : goal.returns-then-size-at
returns-then-size-at c =
    rw (drop-length, sub_self, line_past_end c.args.sheet.now c.args.at (omega arith))

pub slice_bounds-result-end-2 : goal.slice_bounds-result-end-2
slice_bounds-result-end-2 c =
    omega (arith, c.line_end-end.ensures, line_within (drop c.args.at c.args.sheet.now), length-drop c.args.at c.args.sheet.now)

pub returns : goal.returns
returns c =
    let s = drop c.args.at c.args.sheet.now in
    let e : c.line_end-end.result - c.args.at ≡ length (line_of s) = omega (arith, c.line_end-end.ensures) in
    rw e (line_front s)
