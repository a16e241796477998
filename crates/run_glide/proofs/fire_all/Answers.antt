use Prim.Native.Nat.{◌+◌, ◌≤◌}
use mathlib.Core.List.{[], ◌∷◌}
use mathlib.Core.Logic.{inl, inr}
use mathlib.Core.Path.{◌≡◌, refl}
use types.Run.{OneOf}
use denote.Enum.Declared.{tag_of}
use Rattle.model.specs.declared.Kernel.{Kernel}
use Rattle.model.specs.declared.Kernel.TheVariants as kernels
use Rattle.model.specs.contracts.Kernel.{the_type}
use native.Mathlib.Omega.{arith}
use lib.ListN.{length}
use Rattle.run_glide.proofs.FireLaws.{fires_kernel}
use Rattle.run_glide.proofs.ManyLaws.{in_store, fired_none, fired_room, fired_more, raw_passes, raw_room}
use Rattle.run_glide.proofs.fire_all.Goals as goal
use Rattle.run_glide.proofs.fire_all.Goals.{In-loop-i}

pub pass_all-requires : goal.pass_all-requires
pass_all-requires c =
    let p = c.requires in
    record { rung = (p.rung.0, p.rung.2); step_le_n = (omega arith, raw_room _ _ _ _ _ _ c.in-Raw.is p.width_value.0 p.width_value.1) }

pub returns-in-Raw : goal.returns-in-Raw
returns-in-Raw c =
    let p = c.requires in
    let e = c.pass_all.ensures in
    (raw_passes _ _ _ _ _ _ _ _ _ _ _ _ _ c.in-Raw.is p.width_value.0 e.0, e.1, p.rung.1, e.2)

-- There is room for one more firing.
room : (i : In-loop-i) → i.loop-i.at + i.args.width ≤ length i.loop-i.out
room i =
    let i = i in
    omega (arith, fired_room _ _ _ _ _ _ _ _ _ _ _ _ _ _ _ _ _ _ _ _ _ i.loop-i.invariant.0 0 (omega (arith, i.requires.width_value.1)) i.loop-i-test.true)

pub loop-i-init : goal.loop-i-init
loop-i-init c = let p = c.requires.rung in (fired_none _ _ _ _ _ _ _ _ _ _ _ _ _ _ _ p.0, p.1)

-- A kernel that is not raw is one of the others.
others : (k : Kernel) → (k ≡ kernels.Raw → ⊥) → OneOf (1 ∷ 2 ∷ 3 ∷ []) (tag_of the_type k)
others kernels.Raw n = absurd (n refl)
others kernels.Difference n = inl refl
others (kernels.Scaled f) n = inr (inl refl)
others (kernels.Blend g) n = inr (inr refl)

pub loop-i-preserved : goal.loop-i-preserved
loop-i-preserved c =
    let v = c.loop-i.invariant in
    let r = v.0.rung in
    let f = fires_kernel _ _ _ _ _ _ _ _ _ r.rings.some (in_store _ _ _ _ _ _ _ r) _ _ _ _ _ _ _ _ _ _ v.1 r.rings.few c.requires.width_value.0 (room (goal.at.loop-i-preserved c).In-loop-i) c.pass.ensures (others _ c.in_default.not-Raw) c.apply.ensures in
    (fired_more _ _ _ _ _ _ _ _ _ _ _ _ _ _ _ _ _ _ _ _ _ v.0 _ _ _ _ _ c.loop-i-test.true refl f.0, f.1)
