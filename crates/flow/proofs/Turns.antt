-- A splitter's turn in a clock without firing.
use Prim.Native.Nat.{ℕ, suc, ◌≤◌, ◌<◌}
use mathlib.Core.Bool.{Bool, true, false, not, cond, ◌&&◌}
use mathlib.Core.List.{List, [], ◌∷◌}
use mathlib.Core.Logic.{◌≢◌}
use mathlib.Core.Path.{◌≡◌, refl}
use native.Mathlib.Omega.{arith}
use lib.Dec.{ltb, eqb}
use borrow.Author.Tests.{ltb-true, eqb-false, lt-ltb, ne_eqb}
use Rattle.model.specs.Lists.{sum}
use Rattle.model_run.specs.Clock.{Layout, turn, limit, turns}

-- A splitter that is presented an unwanted cell and has a place goes on.
pub goes : (source wanted limit p : ℕ) → p < source → p ≢ wanted → p < limit → turn source wanted limit p ≡ suc p
unfolding turn
goes source wanted limit p presented unwanted place = rw (lt-ltb p source presented, ne_eqb p wanted unwanted, lt-ltb p limit place)

-- Whatever its turn, a splitter at p that comes to p' goes no cell back and at most one on, and keeps its bounds.
pub record Turned (source wanted limit p p' : ℕ) : Type 0 where
  pub grows : p ≤ p'
  pub slow : p' ≤ suc p
  pub keeps : p ≤ source → p ≤ wanted → p ≤ limit → (p' ≤ source) × (p' ≤ wanted) × (p' ≤ limit)

turned : (source wanted limit p : ℕ) → Turned source wanted limit p (turn source wanted limit p)
unfolding turn
turned source wanted limit p = go (ltb p source) (eqb p wanted) (ltb p limit) refl refl refl
  where
    go : (x y z : Bool) → ltb p source ≡ x → eqb p wanted ≡ y → ltb p limit ≡ z → Turned source wanted limit p (cond (x && (not y && z)) (suc p) p)
    go true false true presented unwanted place = omega (arith, ltb-true, eqb-false p wanted unwanted)
    go true false false _ _ _ = omega arith
    go true true z _ _ _ = omega arith
    go false y z _ _ _ = omega arith

module _ (L : Layout) (f : ℕ) where
  open L use {wants, capacity}

  -- The turns of the filters behind filter k, which stands at p.
  abbrev pub behind : (k p : ℕ) → List ℕ → List ℕ
  behind k p ps = turns (wants f) capacity (suc k) p ps

  -- Where filter k itself stands after its turn.
  abbrev pub moved : (k source p : ℕ) → List ℕ → ℕ
  moved k source p ps = turn source (wants f k) (limit capacity k p (behind k p ps)) p

  pub moved_turned : (k source p : ℕ) (ps : List ℕ) → Turned source (wants f k) (limit capacity k p (behind k p ps)) p (moved k source p ps)
  moved_turned k source p ps = turned source (wants f k) (limit capacity k p (behind k p ps)) p

  pub sum_turns : (k source : ℕ) (ps : List ℕ) → sum ps ≤ sum (turns (wants f) capacity k source ps)
  unfolding sum turns
  sum_turns k source [] = omega arith
  sum_turns k source (p ∷ ps) = omega (arith, (moved_turned k source p ps).grows, sum_turns (suc k) p ps)
