use mathlib.Core.Bool.{true}
use mathlib.Core.Path.{◌∙◌, ap, ap₂}
use Prim.Native.Nat.{ℕ}
use native.Mathlib.Omega.{arith}
use Rattle.model.specs.Values.{part_of, bounds_of}
use Rattle.model.specs.declared.Bounds.{Bounds}
use Rattle.model.specs.declared.Grid.{Grid}
use Rattle.planner.proofs.chain_by.Goals as goal

pub trimmed_bounds-requires : goal.trimmed_bounds-requires
trimmed_bounds-requires c = omega (arith, c.dims_of.ensures, c.requires)

pub returns : goal.returns
returns c =
    ap₂ (λ (grid : Grid) (bounds : Bounds). record {
      grid = grid;
      window = c.args.steps.window;
      bounds = bounds;
      capacities = c.args.steps.distances;
      order = record { stood = true; filters = c.args.steps.filters };
      kernel = c.args.kernel;
    }) c.trimmed_grid.ensures (c.trimmed_bounds.ensures ∙ ap (λ (n : ℕ). bounds_of (part_of n c.args.bounds)) c.dims_of.ensures)
