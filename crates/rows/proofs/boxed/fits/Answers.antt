use mathlib.Core.Bool.{false≢true}
use native.Mathlib.Omega.{arith}
use Rattle.rows.proofs.boxed.fits.Goals as goal

pub returns-then-height-eq0 : goal.returns-then-height-eq0
returns-then-height-eq0 c = (λ e. absurd (false≢true e), λ _ f. omega (arith, f.tall))

pub returns-then-width-eq0 : goal.returns-then-width-eq0
returns-then-width-eq0 c = (λ e. absurd (false≢true e), λ _ f. omega (arith, f.broad))

pub returns : goal.returns
returns c = (
  λ y. record {
    tall = omega (arith, c.if-height-eq0.false);
    broad = omega (arith, c.if-width-eq0.false);
    each = λ u h k. let (p, q) = c.rows_hold.ensures.0 y u (omega arith) (omega arith) in (omega arith, omega arith);
  },
  λ n f. c.rows_hold.ensures.1 n (λ u h k. let (p, q) = f.each u (omega arith) (omega arith) in (omega arith, omega arith)),
)
