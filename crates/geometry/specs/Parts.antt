-- The arrays of a grid and of a window, part by part: what functions that look at some of their entries answer.
use Rattle.std.specs.Prelude.{ℕ, ◌+◌, ◌-◌, ◌*◌, ◌≤◌, ◌<◌, List, ◌≡◌, ℤ, pos, length, get_or}
use Rattle.model.specs.Lists.{tabulate, sum, product}
use Rattle.model.specs.Vectors.{above}
use Rattle.model.specs.Geometry.{least}
use Rattle.model.specs.Judging.{most_cells}

-- f from, f (from + 1), .. f (to - 1)
unfoldable pub part : {A : Type 0} → (ℕ → A) → (from to : ℕ) → List A
part f from to = tabulate (to - from) (λ i. f (from + i))

-- A list of `size` entries: f's in its first n places, `rest` in the others.
pub record Filled {A : Type 0} (size : ℕ) (rest : A) (f : ℕ → A) (n : ℕ) (xs : List A) : Type 0 where
  pub long : length xs ≡ size
  pub done : (i : ℕ) → i < n → get_or xs i rest ≡ f i
  pub left : (i : ℕ) → n ≤ i → get_or xs i rest ≡ rest

-- The entry at a place of an array of numbers.
abbrev pub number_at : List ℕ → ℕ → ℕ
number_at xs i = get_or xs i 0

-- Entry d of reference k's offset.
abbrev pub entry_at : List ℤ → (k d : ℕ) → ℤ
entry_at offsets k d = get_or offsets (4 * k + d) (pos 0)

-- Reference k's offset, and all entries of dimension d.
abbrev pub offset_at : (dims : ℕ) → List ℤ → (k : ℕ) → List ℤ
offset_at dims offsets k = tabulate dims (λ d. entry_at offsets k d)

abbrev pub entries_in : (count : ℕ) → List ℤ → (d : ℕ) → List ℤ
entries_in count offsets d = tabulate count (λ k. entry_at offsets k d)

-- The window's least entry in each dimension.
abbrev pub Lows : (dims count : ℕ) (offsets : List ℤ) → List ℤ → Type 0
Lows dims count offsets lows = Filled 4 (pos 0) (λ d. least (entries_in count offsets d)) dims lows

-- The position of reference k, its entries counted from the lows, each times its stride.
abbrev pub place_by : (dims : ℕ) (lows : List ℤ) (strides : List ℕ) (offsets : List ℤ) (k : ℕ) → ℕ
place_by dims lows strides offsets k = sum
    (tabulate dims (λ d. above (entry_at offsets k d) (get_or lows d (pos 0)) * number_at strides d))

-- No product of the last numbers, those before place `to`, is above the most cells.
abbrev pub Small : List ℕ → (to : ℕ) → Type 0
Small xs to = (d : ℕ) → product (part (number_at xs) d to) ≤ most_cells

-- Each of n numbers is above the next.
abbrev pub Falls : (f : ℕ → ℕ) (n : ℕ) → Type 0
Falls f n = (k : ℕ) → k + 1 < n → f (k + 1) < f k
