-- `stretch_clocks` makes the clocks of the stretch's layout. Assumes nothing.
use Rattle.runner.proofs.StretchingLaws.{may_glide, slid_fits, stretched_stopped, stretched_slid}
use mathlib.Core.List.{[], ◌∷◌}
use mathlib.Core.Logic.{inl, inr}
use mathlib.Core.Path.{◌≡◌, refl}
use types.Run.{OneOf}
use denote.Enum.Declared.{tag_of}
use Rattle.run_fill.specs.declared.Stop.{Stop}
use Rattle.run_fill.specs.declared.Stop.TheVariants as stop
use Rattle.run_fill.specs.contracts.Stop.{the_type}
use Rattle.runner.proofs.stretch_clocks.Goals as goal

pub advance-requires-clause-by_index : goal.advance-requires-clause-by_index
advance-requires-clause-by_index c =
    let W = c.requires in
    let F = c.fill-f.ensures.0 _ _ _ _ W.stretching.handed in
    let G = c.glide-g.ensures.0 _ _ _ _ c.fill-f.ensures.2 (may_glide _ _ _ _ _ _ _ _ _ _ _ _ _ _ _ _ _ _ _ _ W.stretching _ c.args.out.now _ c.fill-f.result _ _ _ _ F c.in-Aligned.is c.fill-f.auto.store) in
    slid_fits _ _ _ _ _ _ _ _ _ _ _ _ _ _ _ _ _ _ _ _ W.stretching _ c.args.out.now _ c.fill-f.result _ _ _ _ F c.in-Aligned.is _ _ _ G

pub returns-in-Aligned : goal.returns-in-Aligned
returns-in-Aligned c =
    λ L write H.
    let F = c.fill-f.ensures.0 _ _ _ _ H.handed in
    let G = c.glide-g.ensures.0 _ _ _ _ c.fill-f.ensures.2 (may_glide _ _ _ _ _ _ _ _ _ _ _ _ _ _ _ _ _ _ _ _ H _ c.args.out.now _ c.fill-f.result _ _ _ _ F c.in-Aligned.is c.fill-f.auto.store) in
    stretched_slid _ _ _ _ _ _ _ _ _ _ _ _ _ _ _ _ _ _ _ _ H _ _ _ c.fill-f.result _ _ _ _ F c.in-Aligned.is _ _ _ G _ _ c.way_end.ensures c.advance.ensures

-- A way to stop other than with aligned filters.
others : (s : Stop) → (s ≡ stop.Aligned → ⊥) → OneOf (1 ∷ 2 ∷ 3 ∷ []) (tag_of the_type s)
others stop.Aligned n = absurd (n refl)
others stop.Spent n = inl refl
others stop.Starved n = inr (inl refl)
others stop.Stalled n = inr (inr refl)

pub returns : goal.returns
returns c =
    λ L write H. stretched_stopped _ _ _ _ _ _ _ _ _ _ _ _ _ _ _ _ _ _ _ _ H _ _ _ c.fill-f.result _ _ _ _ (c.fill-f.ensures.0 _ _ _ _ H.handed) (others _ c.in_default.not-Aligned) _ c.stop_end.ensures
