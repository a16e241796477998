use Prim.Native.Nat.{◌+◌, ◌≤◌, ◌<◌}
use mathlib.Core.Path.{refl}
use lib.ListN.{length}
use native.Mathlib.Omega.{arith}
use Rattle.run_glide.proofs.ManyLaws.{blank_after, width_some}
use Rattle.run_glide.proofs.SlideLaws.{blank_start, slides_start, slides_waits, slides_fires, within}
use Rattle.run_glide.proofs.GlidingLaws.{glide_start, fired_most, glide_waited, glide_fired, glide_turned, glide_spent, glide_starved, glide_full, glide_done}
use Rattle.run_glide.proofs.slide.Goals as goal
use Rattle.run_glide.proofs.slide.Goals.{After-firings_in-firings, After-min-waits}

pub loop-fired-init : goal.loop-fired-init
loop-fired-init c =
    let p = c.requires in (
      slides_start _ _ _ _ _ _ _ _ _ _ _ _ _ c.args.full p.in_rows.1 p.puts_len.2 p.puts_len.0 p.puts_len.1,
      blank_start _ _ refl,
      λ L write size at wants caps passed S G. glide_start _ _ _ _ _ _ _ _ _ _ _ _ _ _ _ _ _ _ _ _ _ _ _ _ _ _ G _ _ _ _ _ S,
    )

pub returns-then-taken-allowance : goal.returns-then-taken-allowance
returns-then-taken-allowance c = (
  λ L write size at wants caps passed S G.
      let s = c.loop-fired.invariant.2 L write size at wants caps passed S G in
      record { ends = glide_spent _ _ _ _ _ _ _ _ _ _ _ _ _ _ _ _ _ _ _ _ _ _ _ _ _ _ G _ _ _ _ _ _ _ _ _ s c.loop-fired-test.true c.if-taken-allowance.true; had = s.had; allowed = s.allowed; fewer = s.fewer; inside = s.inside; most = fired_most _ _ _ _ _ _ _ _ _ _ _ _ _ _ _ _ _ _ _ _ _ _ _ _ _ _ G _ _ _ _ _ _ _ _ _ s },
  within _ _ _ _ _ _ _ _ _ _ _ _ _ _ _ _ _ _ c.loop-fired.invariant.0 _ refl refl c.if-taken-allowance.true,
)

pub returns-then-cells-taken : goal.returns-then-cells-taken
returns-then-cells-taken c = (
  λ L write size at wants caps passed S G.
      let s = c.loop-fired.invariant.2 L write size at wants caps passed S G in
      record { ends = glide_starved _ _ _ _ _ _ _ _ _ _ _ _ _ _ _ _ _ _ _ _ _ _ _ _ _ _ G _ _ _ _ _ _ _ _ _ s c.loop-fired-test.true c.if-taken-allowance.false c.if-cells-taken.true; had = s.had; allowed = s.allowed; fewer = s.fewer; inside = s.inside; most = fired_most _ _ _ _ _ _ _ _ _ _ _ _ _ _ _ _ _ _ _ _ _ _ _ _ _ _ G _ _ _ _ _ _ _ _ _ s },
  within _ _ _ _ _ _ _ _ _ _ _ _ _ _ _ _ _ _ c.loop-fired.invariant.0 _ refl refl (omega (arith, c.loop-fired.invariant.0.had, c.if-cells-taken.true)),
)

-- The waits are lent.
waits-lent : (k : After-min-waits) →
    (k.loop-fired.taken + k.min-waits.result ≤ k.args.allowance) × (k.loop-fired.taken + k.min-waits.result ≤ length k.args.cells.now)
waits-lent k = (
  omega (arith, k.min-waits.ensures, k.min.ensures, k.loop-fired.invariant.0.allowed, k.if-cells-taken.false),
  omega (arith, k.min-waits.ensures, k.min.ensures, k.loop-fired.invariant.0.allowed, k.if-cells-taken.false),
)

pub loop-fired-preserved-then-wait-gt0 : goal.loop-fired-preserved-then-wait-gt0
loop-fired-preserved-then-wait-gt0 c = (
  slides_waits _ _ _ _ _ _ _ _ _ _ _ _ _ _ _ _ _ _ c.loop-fired.invariant.0 _ _ _ _ _ _ c.pass_all.ensures.1 c.pass_all.ensures.0 (waits-lent (goal.at.loop-fired-preserved-then-wait-gt0 c).After-min-waits).1 (waits-lent (goal.at.loop-fired-preserved-then-wait-gt0 c).After-min-waits).0,
  blank_after _ _ _ _ _ _ _ _ c.loop-fired.invariant.0.rung.rings.few c.loop-fired.invariant.1 c.pass_all.ensures.0,
  λ L write size at wants caps passed S G.
      glide_waited _ _ _ _ _ _ _ _ _ _ _ _ _ _ _ _ _ _ _ _ _ _ _ _ _ _ G _ _ _ _ _ _ _ _ _ (c.loop-fired.invariant.2 L write size at wants caps passed S G) _ _ _ _ _ _ c.pass_all.ensures.0
      c.loop-fired-test.true (omega (arith, c.min-waits.ensures)) (waits-lent (goal.at.loop-fired-preserved-then-wait-gt0 c).After-min-waits).0 (waits-lent (goal.at.loop-fired-preserved-then-wait-gt0 c).After-min-waits).1,
)

pub returns-then-room-width : goal.returns-then-room-width
returns-then-room-width c = (
  λ L write size at wants caps passed S G.
      let s = c.loop-fired.invariant.2 L write size at wants caps passed S G in
      record { ends = glide_full _ _ _ _ _ _ _ _ _ _ _ _ _ _ _ _ _ _ _ _ _ _ _ _ _ _ G _ _ _ _ _ _ _ _ _ s c.loop-fired-test.true c.if-taken-allowance.false c.if-cells-taken.false (omega arith) c.if-room-width.true; had = s.had; allowed = s.allowed; fewer = s.fewer; inside = s.inside; most = fired_most _ _ _ _ _ _ _ _ _ _ _ _ _ _ _ _ _ _ _ _ _ _ _ _ _ _ G _ _ _ _ _ _ _ _ _ s },
  within _ _ _ _ _ _ _ _ _ _ _ _ _ _ _ _ _ _ c.loop-fired.invariant.0 _ refl refl (omega (arith, c.loop-fired.invariant.0.room, c.if-room-width.true)),
)

pub firings_in-firings-requires : goal.firings_in-firings-requires
firings_in-firings-requires c =
    width_some _ _ _ c.loop-fired.invariant.0.rung.rings.some c.requires.width_value

-- The firings are lent,
fires-lent : (g : After-firings_in-firings) →
    (g.loop-fired.taken + g.firings_in-firings.result ≤ g.args.allowance) × (g.loop-fired.taken + g.firings_in-firings.result ≤ length g.args.cells.now)
fires-lent g = (
  omega (arith, g.firings_in-firings.ensures.2, g.min.ensures, g.loop-fired.invariant.0.allowed, g.if-cells-taken.false),
  omega (arith, g.firings_in-firings.ensures.2, g.min.ensures, g.loop-fired.invariant.0.allowed, g.if-cells-taken.false),
)

-- some,
fires-some : (g : After-firings_in-firings) → 0 < g.firings_in-firings.result
fires-some g =
    g.firings_in-firings.ensures.4 g.loop-fired.invariant.0.left_some (omega (arith, g.loop-fired-test.true)) (omega (arith, g.min.ensures, g.loop-fired.invariant.0.allowed, g.if-taken-allowance.false, g.if-cells-taken.false)) g.if-room-width.false

-- of iterations that are left.
fires-left : (g : After-firings_in-firings) → g.loop-fired.fired + g.firings_in-firings.result ≤ g.args.iterations
fires-left g = omega (arith, g.firings_in-firings.ensures.1, g.loop-fired-test.true)

pub loop-fired-preserved-then-left-gt0 : goal.loop-fired-preserved-then-left-gt0
loop-fired-preserved-then-left-gt0 c = (
  slides_fires _ _ _ _ _ _ _ _ _ _ _ _ _ _ _ _ _ _ c.loop-fired.invariant.0 _ _ _ _ _ _ _ _ _ c.fire_all.ensures.1 c.fire_all.ensures.0 c.requires.width_value c.fire_all.ensures.3
      (fires-lent (goal.at.loop-fired-preserved-then-left-gt0 c).After-firings_in-firings).1 (fires-lent (goal.at.loop-fired-preserved-then-left-gt0 c).After-firings_in-firings).0 (fires-left (goal.at.loop-fired-preserved-then-left-gt0 c).After-firings_in-firings) c.firings_in-firings.ensures.3 c.if-left-gt0.true,
  c.fire_all.ensures.2,
  λ L write size at wants caps passed S G.
      glide_fired _ _ _ _ _ _ _ _ _ _ _ _ _ _ _ _ _ _ _ _ _ _ _ _ _ _ G _ _ _ _ _ _ _ _ _ (c.loop-fired.invariant.2 L write size at wants caps passed S G) c.loop-fired-test.true c.if-wait-gt0.false
      _ _ _ _ _ c.fire_all.ensures.0 (fires-left (goal.at.loop-fired-preserved-then-left-gt0 c).After-firings_in-firings) (fires-lent (goal.at.loop-fired-preserved-then-left-gt0 c).After-firings_in-firings).0 (fires-lent (goal.at.loop-fired-preserved-then-left-gt0 c).After-firings_in-firings).1 c.firings_in-firings.ensures.3 c.if-left-gt0.true,
)

pub loop-fired-preserved : goal.loop-fired-preserved
loop-fired-preserved c = (
  slides_fires _ _ _ _ _ _ _ _ _ _ _ _ _ _ _ _ _ _ c.loop-fired.invariant.0 _ _ _ _ _ _ _ _ _ c.fire_all.ensures.1 c.fire_all.ensures.0 c.requires.width_value c.fire_all.ensures.3
      (fires-lent (goal.at.loop-fired-preserved c).After-firings_in-firings).1 (fires-lent (goal.at.loop-fired-preserved c).After-firings_in-firings).0 (fires-left (goal.at.loop-fired-preserved c).After-firings_in-firings) c.firings_in-firings.ensures.3 c.requires.in_rows.0.some,
  c.fire_all.ensures.2,
  λ L write size at wants caps passed S G.
      glide_turned _ _ _ _ _ _ _ _ _ _ _ _ _ _ _ _ _ _ _ _ _ _ _ _ _ _ G _ _ _ _ _ _ _ _ _ (c.loop-fired.invariant.2 L write size at wants caps passed S G) c.loop-fired-test.true c.if-wait-gt0.false
      _ _ _ _ _ c.fire_all.ensures.0 (fires-left (goal.at.loop-fired-preserved c).After-firings_in-firings) (fires-lent (goal.at.loop-fired-preserved c).After-firings_in-firings).0 (fires-lent (goal.at.loop-fired-preserved c).After-firings_in-firings).1 c.firings_in-firings.ensures.3
      _ _ _ _ _ S (fires-some (goal.at.loop-fired-preserved c).After-firings_in-firings) c.firings_in-firings.ensures.0 c.if-left-gt0.false _ c.wait_for-wait.ensures,
)

pub returns : goal.returns
returns c = (
  λ L write size at wants caps passed S G.
      let s = c.loop-fired.invariant.2 L write size at wants caps passed S G in
      record { ends = glide_done _ _ _ _ _ _ _ _ _ _ _ _ _ _ _ _ _ _ _ _ _ _ _ _ _ _ G _ _ _ _ _ _ _ _ _ s c.loop-fired-test.false; had = s.had; allowed = s.allowed; fewer = s.fewer; inside = s.inside; most = fired_most _ _ _ _ _ _ _ _ _ _ _ _ _ _ _ _ _ _ _ _ _ _ _ _ _ _ G _ _ _ _ _ _ _ _ _ s },
  within _ _ _ _ _ _ _ _ _ _ _ _ _ _ _ _ _ _ c.loop-fired.invariant.0 _ refl refl (omega (arith, c.loop-fired.invariant.0.begun, c.loop-fired-test.false)),
)
