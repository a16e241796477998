use Prim.Native.Nat.{ℕ}
use mathlib.Core.Path.{◌∙◌, ap₂}
use lib.IntN.{ℤ}
use Rattle.geometry.proofs.EntryLaws.{entry_back}
use Rattle.windows.specs.Lows.{index_in}
use Rattle.windows.proofs.IndexLaws.{index_back}
use Rattle.rows.specs.Boxing.{span_in}
use Rattle.rows.proofs.boxed.span_between.Goals as goal

pub returns : goal.returns
returns c =
    let low = entry_back c.args.low c.ranges.low.sfits in
    c.span_of.ensures ∙ ap₂ (λ (i j : ℕ). span_in i j c.args.extent)
    (c.index_in.ensures ∙ ap₂ (λ (x l : ℤ). index_in x l c.args.extent) (index_back c.args.lowest c.ranges.lowest.sfits) low)
    (c.index_in-2.ensures ∙ ap₂ (λ (x l : ℤ). index_in x l c.args.extent) (index_back c.args.highest c.ranges.highest.sfits) low)
