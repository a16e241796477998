use Prim.Native.Nat.{ℕ, ◌<◌}
use mathlib.Core.List.{List}
use mathlib.Core.Path.{◌≡◌}
use native.Mathlib.Omega.{arith}
use lib.IntN.{ℤ, pos}
use lib.ListN.{get_or}
use lib.Signed.{mag}
use mir.Facts.{to_z-of_z}
use mir.Syntax.{w16}
use mir.Val.{to_z, of_z}
use borrow.Author.Rules.{rules}
use Rattle.sheet_windows.proofs.NamedLaws.{four_set}
use Rattle.sheet_windows.proofs.set_offset.Goals as goal

entry_at : (xs : List ℤ) (i : ℕ) → mag (get_or xs i (pos 0)) < 32768 → to_z w16 (of_z w16 (get_or xs i (pos 0))) ≡ get_or xs i (pos 0)
entry_at xs i h = to_z-of_z {w = w16} (record { sfits = h })

pub returns : goal.returns
returns c =
    let xs = c.args.entries in
    rw (entry_at xs 0 (search rules), entry_at xs 1 (search rules), entry_at xs 2 (search rules), entry_at xs 3 (search rules)) (four_set _ xs _ _ (omega arith))
