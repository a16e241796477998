-- Values that are finite.
use mathlib.Core.Path.{◌≡◌, refl}
use mathlib.Core.Bool.{true, false}
use lib.Ieee.{Float, nan, inf, fin, of_bits, neg, lt, binary32}
use Rattle.model.specs.Judging.{not_finite}

abbrev infinity : Float
infinity = of_bits binary32 0x7F800000

infinite : infinity ≡ inf false
unfolding of_bits
infinite = refl

-- A value is finite if it lies between the infinities.
pub between : (x : Float) → lt x infinity ≡ true → lt (neg infinity) x ≡ true → false ≡ not_finite x
unfolding lt neg not_finite
between x h l = go x (rw infinite at h) (rw infinite at l)
  where
    go : (x : Float) → lt x (inf false) ≡ true → lt (neg (inf false)) x ≡ true → false ≡ not_finite x
    go nan h l = h
    go (inf true) h l = l
    go (inf false) h l = h
    go (fin s m e) h l = refl

pub not_above : (x : Float) → lt (neg infinity) x ≡ false → true ≡ not_finite x
unfolding lt neg not_finite
not_above x l = go x (rw infinite at l)
  where
    go : (x : Float) → lt (neg (inf false)) x ≡ false → true ≡ not_finite x
    go nan l = refl
    go (inf s) l = refl
    go (fin s m e) l = l

pub not_below : (x : Float) → lt x infinity ≡ false → true ≡ not_finite x
unfolding lt not_finite
not_below x h = go x (rw infinite at h)
  where
    go : (x : Float) → lt x (inf false) ≡ false → true ≡ not_finite x
    go nan h = refl
    go (inf s) h = refl
    go (fin s m e) h = h
