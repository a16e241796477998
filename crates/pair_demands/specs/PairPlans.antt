-- The planned chain of a pair (document 02, request 6).
use Rattle.std.specs.Prelude.{ℕ, List, ◌≡◌, Ok}
use Rattle.model.specs.Values.{trimmed, dims_of}
use Rattle.model.specs.Answers.{first_of}
use Rattle.model.specs.Pairs.{Own, own_of, union_request, planned_union, pair_checks, plan_pair_of}
use Rattle.grid_laws.specs.Right.{Planned}
use Rattle.model.specs.declared.Bounds.{Bounds}
use Rattle.model.specs.declared.Chain.{Chain}
use Rattle.model.specs.declared.Grid.{Grid}
use Rattle.model.specs.declared.Side.{Side}

module _ (g : Grid) (rows : List ℕ) (bounds : Bounds) (x y : Side) (c : Chain) where
  abbrev a : Own
  a = own_of (dims_of g) x

  abbrev b : Own
  b = own_of (dims_of g) y

  -- What of the chain plays a part is the union's plan; it is planned, and no number turns it back with the two windows.
  pub record PlannedPair : Type 0 where
    pub lists : trimmed c rows ≡ planned_union (union_request g bounds a b) rows
    pub planned : Planned (trimmed c rows)
    pub accepted : first_of (pair_checks (trimmed c rows) a b) ≡ Ok tt

abbrev pub PairPlans : Type 0
PairPlans = (g : Grid) (rows : List ℕ) (bounds : Bounds) (x y : Side) (c : Chain)
    → plan_pair_of g rows bounds x y ≡ Ok c → PlannedPair g rows bounds x y c
