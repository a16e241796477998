-- The sums that difference, scaled and blend make.
use Rattle.std.specs.Prelude.{ℕ, List, map, Float, get_or}
use Rattle.model_run.specs.Kernels.{float, sum_of, words_at, squared}

-- The sum of the terms.
unfoldable pub sum_of_terms : (terms : List ℕ) → List ℕ → Float
sum_of_terms ks ws = sum_of (map float (words_at ks ws))

-- The sum of the squares of the centre less each term.
unfoldable pub sum_of_squares : (centre : ℕ) (terms : List ℕ) → List ℕ → Float
sum_of_squares c ks ws = sum_of (map (λ w. squared (get_or ws c 0) w) (words_at ks ws))
