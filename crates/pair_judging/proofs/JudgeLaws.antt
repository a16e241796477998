-- The verdict on a pair is the earlier one of that on the raw chain and that on the two windows and their kernels.
use Prim.Native.Nat.{ℕ, ◌≤◌, ◌<◌}
use mathlib.Core.Bool.{Bool, true, false, cond, ◌||◌}
use mathlib.Core.List.{List, [], ◌∷◌}
use mathlib.Core.Path.{◌≡◌, refl, ◌∙◌, ap, ap₂}
use native.Mathlib.Omega.{arith}
use lib.Dec.{leb-suc-zero}
use lib.IntN.{ℤ}
use lib.ListN.{length}
use borrow.Author.Tests.{lt-ltb, le-ltb}
use Rattle.model.specs.Lists.{any}
use Rattle.model.specs.Grounds.{Ground}
use Rattle.model.specs.Grounds.Ground.{rectangle, skewed}
use Rattle.model.specs.Boxes.{bad_box}
use Rattle.model.specs.Values.{Trimmed, trimmed, trimmed_of, dims_of, offsets_of, capacities_of, order_of}
use Rattle.model.specs.Answers.{Verdict, Check, check, first_of}
use Rattle.model.specs.Judging.{bad_ground, ground_refusal, bad_count, repeats, no_iteration, centred, lacks_centre, needs_centre, bad_factor, too_large, twice, bad_order, window_checks, kernel_checks, chain_checks, value_checks, judged, judge_chain}
use Rattle.model.specs.Pairs.{Own, own_of, union, not_union, pair_checks, raw_chain}
use Rattle.model.specs.declared.Bounds.{Bounds}
use Rattle.model.specs.declared.Chain.{Chain}
use Rattle.model.specs.declared.Grid.{Grid}
use Rattle.model.specs.declared.Kernel.TheVariants as kernel
use Rattle.model.specs.declared.Refusal.{Refusal}
use Rattle.model.specs.declared.Refusal.TheVariants as refusal
use Rattle.model.specs.declared.Side.{Side}
use Rattle.std.specs.Prelude.{Ok, Err}
use Rattle.model.specs.declared.Window.{Window}
use Rattle.grid_laws.proofs.Tests.{neither}
use Rattle.grid_laws.proofs.CheckLaws.{few_dims, few_references}
use Rattle.grid_laws.proofs.ChainLaws.{ground_dims}
use Rattle.windows.specs.Windows.{repeats_in}
use Rattle.windows.proofs.OffsetLaws.{is_held, has_centre_is}
use Rattle.pair_windows.specs.Unions.{union_in}
use Rattle.pair_windows.proofs.UnionLaws.{union_is, not_union_is}
use Rattle.pair_judging.specs.Verdicts.{place_in, place_of, earlier_of, side_checks}

-- ---- two lists of checks in one order

-- A check of the first list, of the second, and of both, where neither list answers an earlier one behind it.
module _ (x : Refusal) where
  first_only : (b : Bool) (v w : Verdict) → place_in x ≤ place_of w → earlier_of (cond b (Err x) v) w ≡ cond b (Err x) (earlier_of v w)
  first_only true v w h = rw (le-ltb (place_of w) (place_in x) h)
  first_only false v w h = refl

  second_only : (b : Bool) (v w : Verdict) → place_in x < place_of v → earlier_of v (cond b (Err x) w) ≡ cond b (Err x) (earlier_of v w)
  second_only true v w h = rw (lt-ltb (place_in x) (place_of v) h)
  second_only false v w h = refl

  in_both : (b d : Bool) (v w : Verdict) → place_in x < place_of v → place_in x < place_of w
      → earlier_of (cond b (Err x) v) (cond d (Err x) w) ≡ cond (b || d) (Err x) (earlier_of v w)
  in_both true true v w h k = rw (le-ltb (place_in x) (place_in x) (omega arith))
  in_both true false v w h k = first_only true v w (omega arith)
  in_both false d v w h k = second_only d v w h

  -- What is answered is answered no earlier.
  behind : (p : ℕ) (b : Bool) (v : Verdict) → p < place_in x → p < place_of v → p < place_of (cond b (Err x) v)
  behind p true v h k = h
  behind p false v h k = k

-- What is looked at of a raw value behind its grid, and of two windows and their kernels on it.
abbrev raw_rest : (n e i b l : Bool) → List Check
raw_rest n e i b l =
    check n refusal.BadCount ∷ check e refusal.EqualOffsets ∷ check i refusal.NoIteration ∷ check b refusal.BadBox ∷ check l refusal.TooLarge ∷ []

abbrev added : (n e c f o : Bool) → List Check
added n e c f o =
    check n refusal.BadCount ∷ check e refusal.EqualOffsets ∷ check c refusal.NoCentre ∷ check f refusal.BadFactor ∷ check o refusal.BadOrder ∷ []

module _ (n e i b l n' e' c f o : Bool) where
  abbrev refusing : Bool → Refusal → Verdict → Verdict
  refusing t x v = cond t (Err x) v

  abbrev v9 : Verdict
  v9 = refusing l refusal.TooLarge (Ok tt)

  abbrev v15 : Verdict
  v15 = refusing b refusal.BadBox v9

  abbrev v6 : Verdict
  v6 = refusing i refusal.NoIteration v15

  abbrev v5 : Verdict
  v5 = refusing e refusal.EqualOffsets v6

  abbrev w14 : Verdict
  w14 = refusing o refusal.BadOrder (Ok tt)

  abbrev w8 : Verdict
  w8 = refusing f refusal.BadFactor w14

  abbrev w7 : Verdict
  w7 = refusing c refusal.NoCentre w8

  abbrev w5 : Verdict
  w5 = refusing e' refusal.EqualOffsets w7

  from_9 : (p : ℕ) → p < 7 → p < place_of v9
  from_9 p h = behind refusal.TooLarge p l (Ok tt) h (omega arith)

  from_6 : (p : ℕ) → p < 3 → p < place_of v6
  from_6 p h = behind refusal.NoIteration p i v15 h (behind refusal.BadBox p b v9 (omega arith) (from_9 p (omega arith)))

  from_14 : (p : ℕ) → p < 8 → p < place_of w14
  from_14 p h = behind refusal.BadOrder p o (Ok tt) h (omega arith)

  from_7 : (p : ℕ) → p < 5 → p < place_of w7
  from_7 p h = behind refusal.NoCentre p c w8 h (behind refusal.BadFactor p f w14 (omega arith) (from_14 p (omega arith)))

  again : (x y : Bool) → x || (x || y) ≡ x || y
  again true y = refl
  again false y = refl

  merged : earlier_of (first_of (raw_rest n e i b l)) (first_of (added (n || n') e' c f o))
      ≡ first_of
      (check (n || n') refusal.BadCount ∷ check (e || e') refusal.EqualOffsets ∷ check i refusal.NoIteration ∷ check b refusal.BadBox ∷ check c refusal.NoCentre
      ∷ check f refusal.BadFactor ∷ check l refusal.TooLarge ∷ check o refusal.BadOrder ∷ [])
  unfolding first_of
  merged =
      in_both refusal.BadCount n (n || n') v5 w5 (behind refusal.EqualOffsets 1 e v6 (omega arith) (from_6 1 (omega arith)))
      (behind refusal.EqualOffsets 1 e' w7 (omega arith) (from_7 1 (omega arith)))
      ∙ ap₂ (λ (t : Bool) (v : Verdict). refusing t refusal.BadCount v) (again n n')
      (in_both refusal.EqualOffsets e e' v6 w7 (from_6 2 (omega arith)) (from_7 2 (omega arith))
      ∙ ap (refusing (e || e') refusal.EqualOffsets)
      (first_only refusal.NoIteration i v15 w7 (omega (arith, from_7 3 (omega arith)))
      ∙ ap (refusing i refusal.NoIteration)
      (first_only refusal.BadBox b v9 w7 (omega (arith, from_7 4 (omega arith)))
      ∙ ap (refusing b refusal.BadBox)
      (second_only refusal.NoCentre c v9 w8 (from_9 5 (omega arith))
      ∙ ap (refusing c refusal.NoCentre)
      (second_only refusal.BadFactor f v9 w14 (from_9 6 (omega arith))
      ∙ ap (refusing f refusal.BadFactor)
      (first_only refusal.TooLarge l (Ok tt) w14 (omega (arith, from_14 7 (omega arith)))
      ∙ ap (refusing l refusal.TooLarge) (second_only refusal.BadOrder o (Ok tt) (Ok tt) (omega arith))))))))

-- ---- what the code looks at

-- The windows and kernels of two sides, as `pair_checks` looks at them.
module _ (dims : ℕ) (c : Window) (x y : Side) where
  abbrev first : Own
  first = own_of dims x

  abbrev second : Own
  second = own_of dims y

  abbrev counts : Bool
  counts = any bad_count (c.count ∷ first.count ∷ second.count ∷ length (union first second) ∷ [])

  abbrev own_checks : List Check
  own_checks =
      check counts refusal.BadCount ∷ check (any repeats (first.offsets ∷ second.offsets ∷ [])) refusal.EqualOffsets
      ∷ check (lacks_centre x.kernel (centred first.offsets) || lacks_centre y.kernel (centred second.offsets)) refusal.NoCentre
      ∷ check (bad_factor x.kernel || bad_factor y.kernel) refusal.BadFactor ∷ check (not_union (offsets_of dims c) first second) refusal.BadOrder ∷ []

  module _ (few : dims ≤ 4) where
    counts_are : any bad_count (c.count ∷ x.window.count ∷ y.window.count ∷ length (union_in dims x.window y.window) ∷ []) ≡ counts
    unfolding any own_of
    counts_are = go (bad_count x.window.count) (bad_count y.window.count) refl refl
      where
        go : (p q : Bool) → bad_count x.window.count ≡ p → bad_count y.window.count ≡ q
            → any bad_count (c.count ∷ x.window.count ∷ y.window.count ∷ length (union_in dims x.window y.window) ∷ []) ≡ counts
        go true q e f = rw e
        go false true e f = rw (e, f)
        go false false e f =
            ap (λ (os : List (List ℤ)). any bad_count (c.count ∷ x.window.count ∷ y.window.count ∷ length os ∷ []))
            (union_is dims x y few (few_references x.window.count e) (few_references y.window.count f))

    repeats_are : (w : Window) → w.count ≤ 32 → repeats_in dims w ≡ repeats (offsets_of dims w)
    unfolding repeats_in
    repeats_are w h = rw (is_held dims w few h)

    sides_are : first_of (side_checks dims c x y) ≡ first_of own_checks
    unfolding side_checks first_of any own_of
    sides_are = go counts refl
      where
        go : (b : Bool) → counts ≡ b → first_of (side_checks dims c x y) ≡ first_of own_checks
        go true e = rw (counts_are, e)
        go false e =
            let n = neither (bad_count c.count) _ e in
            let p = neither (bad_count x.window.count) _ n.1 in
            let q = neither (bad_count y.window.count) _ p.1 in
            let h = few_references c.count n.0 in
            let hx = few_references x.window.count p.0 in
            let hy = few_references y.window.count q.0 in
            rw (counts_are, repeats_are x.window hx, repeats_are y.window hy, has_centre_is dims x.window few hx, has_centre_is dims y.window few hy, not_union_is dims x y few hx hy c h)

-- ---- the pair

ground_first : (g : Ground) → place_in (ground_refusal g) ≡ 0
ground_first (rectangle sizes) = refl
ground_first (skewed rs) = refl

-- What is turned back by 3, or by 16 in its place, is turned back first.
turned : (x : Refusal) (w : Verdict) → place_in x ≡ 0 → earlier_of (Err x) w ≡ Err x
turned x w e = rw (e, leb-suc-zero)

module _ (g : Grid) (rows : List ℕ) (c : Window) (bounds : Bounds) (capacities : List ℕ) (x y : Side) where
  -- A raw value.
  abbrev raw : Trimmed
  raw = trimmed_of g rows c bounds capacities false [] kernel.Raw

  abbrev bad : Bool
  bad = bad_ground raw.dims raw.the_ground

  abbrev refused : Verdict
  refused = Err (ground_refusal raw.the_ground)

  -- What is looked at behind its grid.
  abbrev rest : Verdict
  rest = first_of (raw_rest (bad_count c.count) (repeats raw.offsets) (no_iteration raw.the_ground raw.offsets) (bad_box raw.the_ground raw.offsets raw.part) (too_large capacities))

  raw_verdict : judged raw ≡ cond bad refused rest
  unfolding judged value_checks window_checks kernel_checks chain_checks first_of lacks_centre needs_centre bad_factor bad_order any twice
  raw_verdict = refl

  abbrev a : Own
  a = own_of (dims_of g) x

  abbrev b : Own
  b = own_of (dims_of g) y

  abbrev sides : Verdict
  sides = first_of (side_checks (dims_of g) c x y)

  abbrev pair : Verdict
  pair = first_of (pair_checks raw a b)

  pub pair_verdict : earlier_of (judged raw) sides ≡ pair
  unfolding pair_checks first_of any own_of
  pair_verdict = ap (λ (v : Verdict). earlier_of v sides) raw_verdict ∙ go bad refl
    where
      go : (t : Bool) → bad ≡ t → earlier_of (cond t refused rest) sides ≡ pair
      go true e = turned (ground_refusal raw.the_ground) sides (ground_first raw.the_ground) ∙ rw e
      go false e =
          ap (earlier_of rest) (sides_are (dims_of g) c x y (few_dims (dims_of g) raw.the_ground (ground_dims g rows) e))
          ∙ merged (bad_count c.count) (repeats raw.offsets) (no_iteration raw.the_ground raw.offsets) (bad_box raw.the_ground raw.offsets raw.part) (too_large capacities)
          (any bad_count (a.count ∷ b.count ∷ length (union a b) ∷ [])) (any repeats (a.offsets ∷ b.offsets ∷ []))
          (lacks_centre x.kernel (centred a.offsets) || lacks_centre y.kernel (centred b.offsets)) (bad_factor x.kernel || bad_factor y.kernel) (not_union raw.offsets a b)
          ∙ rw e

pub judged_pair : (c : Chain) (rows : List ℕ) (x y : Side)
    → earlier_of (judge_chain (raw_chain c) rows) (first_of (side_checks (dims_of c.grid) c.window x y)) ≡ first_of (pair_checks (trimmed c rows) (own_of (dims_of c.grid) x) (own_of (dims_of c.grid) y))
unfolding judge_chain trimmed order_of capacities_of pair_checks
judged_pair c rows x y = pair_verdict c.grid rows c.window c.bounds (capacities_of c) x y
