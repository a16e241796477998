use Prim.Native.Nat.{◌-◌}
use Prim.Native.Nat.{ℕ, min}
use mathlib.Core.Path.{◌∙◌, ap, ap₂}
use Rattle.rows.specs.Courses.{length_in}
use Rattle.rows.proofs.common.length_in.Goals as goal

pub returns : goal.returns
unfolding length_in
returns c = c.min.ensures ∙ ap (λ (x : ℕ). min x 1024) (c.saturating_sub.ensures ∙ ap₂ ◌-◌ c.columns_in-c.ensures.1 c.columns_in-c.ensures.0)
