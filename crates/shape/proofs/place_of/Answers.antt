use Prim.Native.Nat.{ℕ, ◌+◌, ◌*◌}
use mathlib.Core.Path.{◌≡◌, ◌∙◌, ap, ap₂}
use native.Mathlib.Omega.{arith}
use lib.IntN.{pos}
use lib.ListN.{get_or}
use Rattle.model.specs.Lists.{sum}
use Rattle.model.specs.Vectors.{above}
use Rattle.geometry.specs.Parts.{part, number_at, entry_at, place_by}
use Rattle.geometry.proofs.EntryLaws.{entry_back}
use Rattle.shape.proofs.PlacingLaws.{sum_start, sum_on, sum_end}
use Rattle.shape.proofs.place_of.Invariants.{steps}
use Rattle.shape.proofs.place_of.Goals as goal
use Rattle.shape.proofs.place_of.Goals.{After-at-1}

pub loop-d-init : goal.loop-d-init
loop-d-init c = sum_start (steps c.args.offsets.now c.args.lows.now c.args.strides.now c.args.k) c.args.dims

-- What is at hand and what is left make the whole.
whole : (c : After-at-1) →
    c.loop-d.at + c.height.result * number_at c.args.strides.now c.loop-d.d
    + sum (part (steps c.args.offsets.now c.args.lows.now c.args.strides.now c.args.k) (c.loop-d.d + 1) c.args.dims)
    ≡ place_by c.args.dims c.args.lows.now c.args.strides.now c.args.offsets.now c.args.k
whole c =
    let x = entry_back (entry_at c.args.offsets.now c.args.k c.loop-d.d) c.x-1.given in
    let low = entry_back (get_or c.args.lows.now c.loop-d.d (pos 0)) c.low-1.given in
    let left = sum (part (steps c.args.offsets.now c.args.lows.now c.args.strides.now c.args.k) (c.loop-d.d + 1) c.args.dims) in
    ap (λ (h : ℕ). c.loop-d.at + h * number_at c.args.strides.now c.loop-d.d + left)
    (c.height.ensures ∙ ap₂ above x low)
    ∙ sum_on (steps c.args.offsets.now c.args.lows.now c.args.strides.now c.args.k) c.loop-d.at c.loop-d.d c.args.dims (omega arith) ∙ c.loop-d.invariant

pub overflow_mul-at : goal.overflow_mul-at
overflow_mul-at c = omega (arith, whole c, c.requires.2)

pub overflow_add-at : goal.overflow_add-at
overflow_add-at c = omega (arith, whole c, c.requires.2)

pub loop-d-preserved : goal.loop-d-preserved
loop-d-preserved c = whole c

pub returns : goal.returns
returns c =
    sum_end (steps c.args.offsets.now c.args.lows.now c.args.strides.now c.args.k) c.loop-d.at c.loop-d.d c.args.dims (omega arith) ∙ c.loop-d.invariant
