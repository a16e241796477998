use Prim.Native.Nat.{ℕ, ◌+◌, ◌-◌, ◌<◌}
use mathlib.Core.Path.{◌≡◌, ◌∙◌, ap₂}
use native.Mathlib.Decide.{ℕ_discrete}
use native.Mathlib.Omega.{arith}
use lib.IntN.{ℤ, pos}
use lib.ListN.{get_or}
use mir.Syntax.{w16}
use mir.Val.{to_z, of_z}
use Rattle.geometry.specs.Parts.{number_at}
use Rattle.geometry.proofs.FillLaws.{filled_more}
use Rattle.geometry.proofs.EntryLaws.{entry_back}
use Rattle.shape.specs.Boxing.{first_at, last_at, LiesIn}
use Rattle.windows.proofs.IndexLaws.{index_back}
use Rattle.windows.specs.Lows.{index_in}
use Rattle.shape.proofs.boxed.place_box.Goals as goal
use Rattle.shape.proofs.boxed.place_box.Goals.{After-index_in-last}

-- What was found of dimension d.
module _ (t : After-index_in-last) where
  abbrev at : ℕ
  at = t.loop-d.d

  abbrev first : ℕ
  first = first_at t.args.bounds.lowest t.args.bounds.highest t.args.lows.now t.args.extents.now at

  abbrev last : ℕ
  last = last_at t.args.bounds.lowest t.args.bounds.highest t.args.lows.now t.args.extents.now at

  low-back : to_z w16 (of_z w16 (get_or t.args.lows.now at (pos 0))) ≡ get_or t.args.lows.now at (pos 0)
  low-back = entry_back (get_or t.args.lows.now at (pos 0)) t.before.before.before.before.before.low-1.given

  first-is : t.index_in-first.result ≡ first
  first-is =
      t.index_in-first.ensures
      ∙ ap₂ (λ (x l : ℤ). index_in x l (number_at t.args.extents.now at)) (index_back (get_or t.args.bounds.lowest at (pos 0)) t.index_in-arg-1.given) low-back

  last-is : t.index_in-last.result ≡ last
  last-is =
      t.index_in-last.ensures
      ∙ ap₂ (λ (x l : ℤ). index_in x l (number_at t.args.extents.now at)) (index_back (get_or t.args.bounds.highest at (pos 0)) t.index_in-arg-in-loop-d-1.given) low-back

-- Each dimension up to d.
each : (t : After-index_in-last)
    → LiesIn t.args.bounds.lowest t.args.bounds.highest t.args.lows.now t.args.extents.now t.loop-d.d
    → (i : ℕ) → i < t.loop-d.d + 1 → Dec (i ≡ t.loop-d.d)
    → LiesIn t.args.bounds.lowest t.args.bounds.highest t.args.lows.now t.args.extents.now i
each t r i h (yes e) = rw e r
each t r i h (no e) = t.loop-d.invariant.0 i (omega arith)

pub loop-d-preserved : goal.loop-d-preserved
loop-d-preserved c =
    let a = c.args in (
      λ i h. each (goal.at.loop-d-preserved c).After-index_in-last (record { first = omega (arith, first-is (goal.at.loop-d-preserved c).After-index_in-last, c.if-extent-first.false); last = omega (arith, last-is (goal.at.loop-d-preserved c).After-index_in-last, c.if-extent-last.false); rises = omega (arith, first-is (goal.at.loop-d-preserved c).After-index_in-last, last-is (goal.at.loop-d-preserved c).After-index_in-last, c.if-last-first.false) }) i h (ℕ_discrete i c.loop-d.d),
      filled_more 4 0 (first_at a.bounds.lowest a.bounds.highest a.lows.now a.extents.now) c.loop-d.d c.loop-d.firsts _ (omega arith) (first-is (goal.at.loop-d-preserved c).After-index_in-last) c.loop-d.invariant.1,
      filled_more 4 0 (λ i. last_at a.bounds.lowest a.bounds.highest a.lows.now a.extents.now i - first_at a.bounds.lowest a.bounds.highest a.lows.now a.extents.now i + 1)
          c.loop-d.d c.loop-d.widths _ (omega arith) (c.width.ensures ∙ ap₂ (λ (x y : ℕ). x - y + 1) (last-is (goal.at.loop-d-preserved c).After-index_in-last) (first-is (goal.at.loop-d-preserved c).After-index_in-last)) c.loop-d.invariant.2,
    )
