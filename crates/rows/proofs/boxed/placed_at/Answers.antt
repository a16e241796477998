use Prim.Native.Nat.{ℕ}
use mathlib.Core.Path.{◌≡◌, ◌∙◌}
use lib.IntN.{ℤ, pos}
use lib.ListN.{get_or}
use Rattle.geometry.proofs.EntryLaws.{entry_back}
use Rattle.windows.proofs.IndexLaws.{index_back}
use Rattle.rows.specs.Boxing.{span_between}
use Rattle.rows.proofs.FitLaws.{placed_from}
use Rattle.rows.proofs.boxed.placed_at.Goals as goal

pub returns : goal.returns
returns c =
    let low0 = entry_back c.args.low0 c.ranges.low0.sfits in
    let low1 = entry_back c.args.low1 c.ranges.low1.sfits in
    placed_from c.args.count (get_or c.args.bounds.lowest 0 (pos 0)) (get_or c.args.bounds.lowest 1 (pos 0)) (get_or c.args.bounds.highest 0 (pos 0)) (get_or c.args.bounds.highest 1 (pos 0)) c.args.low0 c.args.low1 _ _
    (c.span_between-tall.ensures
    ∙ same (index_back _ c.span_between-arg-1.given) (index_back _ c.span_between-arg-2-1.given) low0 c.args.count)
    (c.span_between-broad.ensures ∙ same (index_back _ c.span_between-arg-3-1.given) (index_back _ c.span_between-arg-4-1.given) low1 8192)
  where
    same : {x y l h p q : ℤ} → x ≡ l → y ≡ h → p ≡ q → (e : ℕ) → span_between x y p e ≡ span_between l h q e
    same e f g n = λ i. span_between (e i) (f i) (g i) n
