use Prim.Native.Nat.{ℕ, ◌+◌, ◌-◌, ◌*◌, ◌≤◌, ◌<◌}
use mathlib.Core.List.{List}
use mathlib.Core.Path.{◌≡◌, refl, ◌∙◌, ap}
use native.Mathlib.Decide.{ℕ_discrete}
use native.Mathlib.Omega.{arith}
use lib.ListN.{length, set, length-set}
use lib.Seq.{get_or-set_same, get_or-set_other}
use Rattle.model.specs.Lists.{product}
use Rattle.geometry.specs.Parts.{part}
use Rattle.shape.proofs.PlacingLaws.{product_none, product_back}
use Rattle.run_prepare.specs.Prepared.{number_at}
use Rattle.run_prepare.proofs.spans_of.Goals as goal
use Rattle.run_prepare.proofs.spans_of.Goals.{After-behind-1}

pub loop-d-init : goal.loop-d-init
loop-d-init c = (refl, product_none (number_at c.args.extents.now) c.args.dims c.args.dims (omega arith), λ i h k. absurd (omega arith))

-- One dimension further to the front.
back : (c : After-behind-1) →
    c.loop-d.behind * number_at c.args.extents.now (c.loop-d.d - 1) ≡ product (part (number_at c.args.extents.now) (c.loop-d.d - 1) c.args.dims)
back c =
    product_back (number_at c.args.extents.now) c.loop-d.d c.args.dims c.loop-d.behind (omega arith) c.loop-d.auto.d c.loop-d.invariant.1

pub overflow_mul-behind : goal.overflow_mul-behind
overflow_mul-behind c = omega (arith, back (goal.at.overflow_mul-behind c).After-behind-1, c.requires.1 (c.loop-d.d - 1))

filled-back : (f : ℕ → ℕ) (xs : List ℕ) (d e x to : ℕ) → e ≡ d + 1 → d < length xs → x ≡ f d → ((i : ℕ) → e ≤ i → i < to → number_at xs i ≡ f i)
    → (i : ℕ) → d ≤ i → i < to → number_at (set xs d x) i ≡ f i
filled-back f xs d e x to n h q r i l k = at (ℕ_discrete i d)
  where
    at : Dec (i ≡ d) → number_at (set xs d x) i ≡ f i
    at (yes z) = rw z (get_or-set_same xs d x 0 h ∙ q)
    at (no z) = get_or-set_other xs d i x 0 z ∙ r i (omega arith) k

pub loop-d-preserved : goal.loop-d-preserved
loop-d-preserved c =
    let d = c.loop-d.d in
    let next : d ≡ d - 1 + 1 = omega arith in (
      length-set c.loop-d.spans (d - 1) c.loop-d.behind ∙ c.loop-d.invariant.0,
      back (goal.at.loop-d-preserved c).After-behind-1,
      filled-back (λ i. product (part (number_at c.args.extents.now) (i + 1) c.args.dims)) c.loop-d.spans (d - 1) d c.loop-d.behind c.args.dims next (omega arith)
          (c.loop-d.invariant.1 ∙ ap (λ (i : ℕ). product (part (number_at c.args.extents.now) i c.args.dims)) next) c.loop-d.invariant.2,
    )
