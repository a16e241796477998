-- What a chain and two windows that no number turns back are (document 02, request 6).
use Prim.Native.Nat.{ℕ}
use mathlib.Core.Bool.{Bool, false}
use mathlib.Core.List.{List, [], ◌∷◌, ◌++◌}
use mathlib.Core.Path.{◌≡◌, refl}
use Rattle.model.specs.Lists.{any}
use Rattle.model.specs.Boxes.{bad_box}
use Rattle.model.specs.Values.{Trimmed, trimmed, order_of, capacities_of}
use Rattle.model.specs.Answers.{first_of}
use Rattle.model.specs.Judging.{bad_ground, bad_count, repeats, no_iteration, centred, needs_centre, lacks_centre, bad_factor, too_large, twice, bad_order, window_checks, kernel_checks, chain_checks, value_checks}
use Rattle.model.specs.Pairs.{Own, not_union, raw_of, raw_chain, pair_checks}
use Rattle.model.specs.declared.Chain.{Chain}
use Rattle.std.specs.Prelude.{Ok}
use Rattle.grid_laws.proofs.CheckLaws.{passes}
use Rattle.grid_laws.proofs.Tests.{neither, both_false}

module _ (t : Trimmed) (a b : Own) where
  pub record PairPasses : Type 0 where
    pub grid : bad_ground t.dims t.the_ground ≡ false
    pub count : bad_count t.count ≡ false
    pub first_count : bad_count a.count ≡ false
    pub second_count : bad_count b.count ≡ false
    pub distinct : repeats t.offsets ≡ false
    pub first_distinct : repeats a.offsets ≡ false
    pub second_distinct : repeats b.offsets ≡ false
    pub iterates : no_iteration t.the_ground t.offsets ≡ false
    pub fits : bad_box t.the_ground t.offsets t.part ≡ false
    pub first_centre : lacks_centre a.kernel (centred a.offsets) ≡ false
    pub second_centre : lacks_centre b.kernel (centred b.offsets) ≡ false
    pub first_factors : bad_factor a.kernel ≡ false
    pub second_factors : bad_factor b.kernel ≡ false
    pub places : too_large t.capacities ≡ false
    pub is_union : not_union t.offsets a b ≡ false

  pub pair_passes : first_of (pair_checks t a b) ≡ Ok tt → PairPasses
  unfolding pair_checks any
  pair_passes e =
      let p3 = passes _ _ _ e in
      let p4 = passes _ _ _ p3.1 in
      let p5 = passes _ _ _ p4.1 in
      let p6 = passes _ _ _ p5.1 in
      let p15 = passes _ _ _ p6.1 in
      let p7 = passes _ _ _ p15.1 in
      let p8 = passes _ _ _ p7.1 in
      let p9 = passes _ _ _ p8.1 in
      let p14 = passes _ _ _ p9.1 in
      let n = neither (bad_count t.count) _ p4.0 in
      let na = neither (bad_count a.count) _ n.1 in
      let nb = neither (bad_count b.count) _ na.1 in
      let d = neither (repeats t.offsets) _ p5.0 in
      let da = neither (repeats a.offsets) _ d.1 in
      let db = neither (repeats b.offsets) _ da.1 in
      let c = neither (lacks_centre a.kernel (centred a.offsets)) _ p7.0 in
      let f = neither (bad_factor a.kernel) _ p8.0 in
      record {
        grid = p3.0;
        count = n.0;
        first_count = na.0;
        second_count = nb.0;
        distinct = d.0;
        first_distinct = da.0;
        second_distinct = db.0;
        iterates = p6.0;
        fits = p15.0;
        first_centre = c.0;
        second_centre = c.1;
        first_factors = f.0;
        second_factors = f.1;
        places = p9.0;
        is_union = p14.0;
      }

  -- The raw chain is not turned back either.
  pub raw_checks : PairPasses → first_of (value_checks (raw_of t)) ≡ Ok tt
  unfolding value_checks window_checks kernel_checks chain_checks first_of raw_of lacks_centre needs_centre bad_factor bad_order any twice
  raw_checks p = rw (p.grid, p.count, p.distinct, p.iterates, p.fits, p.places) refl

-- The raw chain is a raw value.
pub raw_trimmed : (c : Chain) (rows : List ℕ) → trimmed (raw_chain c) rows ≡ raw_of (trimmed c rows)
unfolding trimmed raw_of order_of capacities_of
raw_trimmed c rows = refl

pub any_both : {A : Type 0} (p : A → Bool) (xs ys : List A) → any p (xs ++ ys) ≡ false → (any p xs ≡ false) × (any p ys ≡ false)
unfolding any
any_both p [] ys e = (refl, e)
any_both p (x ∷ xs) ys e = let n = neither (p x) (any p (xs ++ ys)) e in let r = any_both p xs ys n.1 in (both_false n.0 r.0, r.1)
