use Prim.Native.Nat.{suc, ◌+◌}
use mathlib.Core.Path.{◌≡◌}
use native.Mathlib.Omega.{arith}
use Rattle.model_sheet.specs.Numbers.{word_bytes}
use Rattle.sheet_writer.proofs.put_word.Goals as goal

pub returns : goal.returns
unfolding word_bytes
returns c =
    let at = c.args.at in
    let e : at + 1 ≡ suc at = omega arith in
    let f : at + 2 ≡ suc (suc at) = omega arith in
    let g : at + 3 ≡ suc (suc (suc at)) = omega arith in
    rw (e, f, g)
