-- A rectangle that 3 does not turn back.
use Prim.Native.Nat.{ℕ, ◌≤◌, ◌<◌}
use mathlib.Core.Bool.{◌||◌}
use mathlib.Core.List.{List}
use mathlib.Core.Path.{◌≡◌, sym, ◌∙◌, ap}
use native.Mathlib.Omega.{arith}
use lib.Dec.{eqb, ltb}
use borrow.Author.Tests.{eqb-false, ltb-false}
use Rattle.model.specs.Grounds.Ground.{rectangle}
use Rattle.model.specs.Judging.{bad_dims, bad_sizes, bad_grid, bad_ground}
use Rattle.model.specs.Values.{Trimmed}
use Rattle.model.specs.Iterations.{cells_of}
use Rattle.grid_laws.proofs.Tests.{neither}
use Rattle.grid_laws.proofs.CheckLaws.{value_passes}
use Rattle.run_laws.specs.Accepted.{Accepted}

pub record GoodGrid (t : Trimmed) : Type 0 where
  pub some : 0 < t.dims
  pub few : t.dims ≤ 4
  pub cells : cells_of t ≤ 1048576

pub good_grid : (t : Trimmed) (sizes : List ℕ) → t.the_ground ≡ rectangle sizes → Accepted t → GoodGrid t
unfolding bad_grid bad_dims
good_grid t sizes e a =
    let g = neither (eqb t.dims 0 || ltb 4 t.dims) (bad_sizes sizes) (sym (ap (bad_ground t.dims) e) ∙ (value_passes t a.checks).window.grid) in
    let d = neither (eqb t.dims 0) (ltb 4 t.dims) g.0 in
    let z = eqb-false t.dims 0 d.0 in
    record { some = omega arith; few = ltb-false 4 t.dims d.1; cells = a.cells }
