-- Each way of a job after a read.
use Prim.Native.Nat.{zero, suc, ◌<◌}
use mathlib.Core.Bool.{true, false, false≢true}
use mathlib.Core.Path.{◌≡◌, refl, sym, ◌∙◌, ap}
use native.Mathlib.Omega.{arith}
use lib.IntN.{ℤ, pos, negsuc}
use lib.Signed.{lt_z}
use mir.Syntax.{w64}
use mir.Val.{to_z, of_z, SFits}
use mir.Facts.{to_z-of_z}
use borrow.Author.Tests.{ltb-true}
use Rattle.program_stages.specs.declared.Stage.TheVariants as stage
use Rattle.program_jobs.specs.declared.Job.{Job}
use Rattle.program_jobs.specs.Jobs.{staged, closed, after_read}

-- After a read. A test on its answer speaks of what is read back from the answer's bits.
module _ (got : ℤ) (j : Job) (fits : SFits w64 got) where
  back : to_z w64 (of_z w64 got) ≡ got
  back = to_z-of_z {w = w64} {z = got} fits

  pub read_failed : lt_z (to_z w64 (of_z w64 got)) (pos 0) ≡ true → staged j stage.Over ≡ after_read got j
  unfolding after_read
  read_failed e = go got (ap (λ (z : ℤ). lt_z z (pos 0)) (sym back) ∙ e)
    where
      go : (z : ℤ) → lt_z z (pos 0) ≡ true → staged j stage.Over ≡ after_read z j
      go (pos n) e = absurd (let z : n < 0 = ltb-true n 0 e in omega arith)
      go (negsuc n) e = refl

  pub read_ended : of_z w64 got ≡ 0 → closed j ≡ after_read got j
  unfolding after_read
  read_ended e = ap (λ (z : ℤ). after_read z j) (ap (to_z w64) (sym e) ∙ back)

  pub read_given : lt_z (to_z w64 (of_z w64 got)) (pos 0) ≡ false → (of_z w64 got ≡ 0 → ⊥) → j ≡ after_read got j
  unfolding after_read
  read_given e n = go got (ap (λ (z : ℤ). lt_z z (pos 0)) (sym back) ∙ e) n
    where
      go : (z : ℤ) → lt_z z (pos 0) ≡ false → (of_z w64 z ≡ 0 → ⊥) → j ≡ after_read z j
      go (pos zero) e n = absurd (n refl)
      go (pos (suc k)) e n = refl
      go (negsuc k) e n = absurd (false≢true (sym e))
