-- The test, the ring places, and the clocks. Assumes nothing.
use mathlib.Core.Bool.{false, false≢true}
use mathlib.Core.List.{List}
use mathlib.Core.Path.{◌≡◌, refl, sym, ap, ◌∙◌}
use Prim.Native.Nat.{ℕ}
use native.Mathlib.Omega.{arith}
use lib.ListN.{length}
use Rattle.run_fill.specs.Fills.{Sound, Left}
use Rattle.run_fill.specs.declared.Filled.{Filled}
use Rattle.run_fill.specs.declared.Stop.TheVariants as stop
use Rattle.run_fill.proofs.SoundLaws.{handed, may_place, sound, fills}
use Rattle.run_fill.proofs.fill.Goals as goal
use Rattle.run_fill.proofs.fill.Goals.{Else-bad_rings}

-- What is handed in is sound.
passes : (e : Else-bad_rings) →
    Sound e.args.n e.args.size (length e.args.store.now) e.args.at.now e.args.wants.now e.args.caps.now e.args.bases.now e.args.tops.now e.args.counters
passes e =
    record { counted = e.bad_counters.ensures.0 e.if-bad_counters.false; housed = e.bad_rings.ensures.0 e.if-bad_rings.false }

-- The array has its length.
there : (e : Else-bad_rings) → length e.args.counters ≡ 32
there e = omega (arith, e.well_formed.1.1.1.1.1.1.1.0)

-- Nothing was done.
left : {r : Filled} {passed puts gets store : List ℕ} → r ≡ record { how = stop.Stalled; taken = 0; clocks = 0; passed = passed; full = false } → Left r passed puts puts gets gets store store
left e = record {
  stopped = ap (λ (r : Filled). r.how) e;
  none_taken_lem = ap (λ (r : Filled). r.taken) e;
  no_clocks = ap (λ (r : Filled). r.clocks) e;
  counters = ap (λ (r : Filled). r.passed) e;
  not_full = ap (λ (r : Filled). r.full) e;
  puts_kept = refl;
  gets_kept = refl;
  store_kept = refl;
}

pub returns-then-bad_counters : goal.returns-then-bad_counters
returns-then-bad_counters c = (
  λ L walk iterations fired H. absurd (c.bad_counters.ensures.1 c.if-bad_counters.true (sound _ _ _ _ _ _ _ _ _ _ _ _ _ H).counted),
  (λ _. left c.unmoved.ensures, λ S. absurd (c.bad_counters.ensures.1 c.if-bad_counters.true S.counted)),
  λ f. absurd (false≢true (sym (ap (λ (r : Filled). r.full) c.unmoved.ensures) ∙ f)),
)

pub returns-then-bad_rings : goal.returns-then-bad_rings
returns-then-bad_rings c = (
  λ L walk iterations fired H. absurd (c.bad_rings.ensures.1 c.if-bad_rings.true (sound _ _ _ _ _ _ _ _ _ _ _ _ _ H).housed),
  (λ _. left c.unmoved-then-bad_rings.ensures, λ S. absurd (c.bad_rings.ensures.1 c.if-bad_rings.true S.housed)),
  λ f. absurd (false≢true (sym (ap (λ (r : Filled). r.full) c.unmoved-then-bad_rings.ensures) ∙ f)),
)

pub places-requires : goal.places-requires
places-requires c =
    may_place _ _ _ _ _ _ _ _ c.args.store.now (passes (goal.at.places-requires c).Else-bad_rings) (there (goal.at.places-requires c).Else-bad_rings) (omega arith) _ _ refl refl

pub until_aligned-s-requires : goal.until_aligned-s-requires
until_aligned-s-requires c =
    record {
      layout = _;
      walk = _;
      iterations = _;
      fired = _;
      fills = fills _ _ _ _ _ _ _ _ _ _ _ _ _ (handed _ _ _ _ _ _ _ _ c.args.store.now (passes (goal.at.until_aligned-s-requires c).Else-bad_rings) (there (goal.at.until_aligned-s-requires c).Else-bad_rings)) _ _ c.places.ensures.0 c.places.ensures.1 c.places.ensures.2;
    }

pub returns : goal.returns
returns c = (
  λ L walk iterations fired H. c.until_aligned-s.ensures L walk iterations fired (fills L walk _ _ iterations fired _ _ _ _ _ _ _ H _ _ c.places.ensures.0 c.places.ensures.1 c.places.ensures.2),
  (
    λ no. absurd (no (passes (goal.at.returns c).Else-bad_rings)),
    λ S. (
      c.until_aligned-s.ensures _ _ _ _ (fills _ _ _ _ _ _ _ _ _ _ _ _ _ (handed _ _ _ _ _ _ _ _ c.args.store.now S (there (goal.at.returns c).Else-bad_rings)) _ _ c.places.ensures.0 c.places.ensures.1 c.places.ensures.2),
      c.full_fifos-full.ensures.1 S.counted.few,
    ),
  ),
  c.full_fifos-full.ensures.0,
)
