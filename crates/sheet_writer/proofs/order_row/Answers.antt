use Prim.Native.Nat.{◌-◌}
use mathlib.Core.List.{List, ◌∷◌, ◌++◌}
use mathlib.Core.Path.{sym, ap, ◌∙◌}
use Prim.Native.Nat.{ℕ}
use lib.ListN.{length, replicate}
use Rattle.model_sheet.specs.Frames.{kept}
use Rattle.sheet_laws.specs.Sections.{order_row}
use Rattle.sheet_writer.proofs.LayLaws.{numbers_same, numbers_put}
use Rattle.sheet_writer.proofs.order_row.Goals as goal

pub returns : goal.returns
unfolding order_row
returns c =
    let filters = c.args.o.filters in
    let e = c.copy_from_slice.ensures in
    ap (λ (s : List ℕ). 6 ∷ (s ++ replicate (kept - 33) 0)) (e.after ∙ numbers_same filters (sym (ap length e.after) ∙ e.len)) ∙ numbers_put filters
