-- A value that no number turns back: what the laws use of 3 to 9, 15 and 16.
use Rattle.std.specs.Prelude.{◌≤◌, ◌<◌, false, ◌≡◌, Ok}
use Rattle.model.specs.Lists.{sum}
use Rattle.model.specs.Boxes.{bad_box}
use Rattle.model.specs.Values.{Trimmed}
use Rattle.model.specs.Iterations.{cells_of, iterations_of}
use Rattle.model.specs.Answers.{first_of}
use Rattle.model.specs.Judging.{most_cells, most_places, value_checks}

pub record Accepted (t : Trimmed) : Type 0 where
  pub checks : first_of (value_checks t) ≡ Ok tt
  pub cells : cells_of t ≤ most_cells
  pub some : 0 < t.count
  pub few : t.count ≤ 32
  pub iterates : 0 < iterations_of t
  pub fits : bad_box t.the_ground t.offsets t.part ≡ false
  pub places : sum t.capacities ≤ most_places
