-- The sum of the sizes of FIFOs, in an array of them.
use Rattle.std.specs.Prelude.{ℕ, ◌-◌, cond, List}
use Rattle.model.specs.Lists.{tabulate, sum}
use Rattle.model.specs.Judging.{bad_count}
use Rattle.geometry.specs.Parts.{number_at}

-- Those between `count` filters; where 4 turns the count back there are none.
unfoldable pub total_in : (count : ℕ) (sizes : List ℕ) → ℕ
total_in count sizes = cond (bad_count count) 0 (sum (tabulate (count - 1) (number_at sizes)))
