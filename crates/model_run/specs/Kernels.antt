-- The kernels on words (document 01, "Kernels"). "Arithmetic is f32, each operation rounded once"; `to_bits` writes what is
-- not a number as 7FC00000.
use Rattle.std.specs.Prelude.{ℕ, List, [], ◌∷◌, map, ◌≡◌, refl, Float, get_or}
use Rattle.std.specs.Float.{nan, binary32}
use Rattle.std.specs.Float.Ieee.{of_bits, to_bits, add, sub, mul}
use Rattle.model.specs.Lists.{without}
use Rattle.model.specs.declared.Factors.{Factors}
use Rattle.model.specs.declared.Kernel.{Kernel}
use Rattle.model.specs.declared.Kernel.TheVariants as kernel

abbrev pub float : ℕ → Float
float w = of_bits binary32 w

abbrev pub word : Float → ℕ
word x = to_bits binary32 x

-- "terms added .. starting from the first term; a sum of no terms is +0"
unfoldable pub sum_from : Float → List Float → Float
sum_from x [] = x
sum_from x (y ∷ ys) = sum_from (add binary32 x y) ys

unfoldable pub sum_of : List Float → Float
sum_of [] = float 0
sum_of (x ∷ xs) = sum_from x xs

-- The words of these filters, in their order; `ws` has the words in chain order.
unfoldable pub words_at : (filters : List ℕ) → List ℕ → List ℕ
words_at ks ws = map (λ k. get_or ws k 0) ks

-- The filters whose words a kernel adds, of filters that stand in some order: difference and blend add "the others", scaled
-- "all references"; raw adds nothing.
unfoldable pub terms : Kernel → (centre : ℕ) → List ℕ → List ℕ
terms kernel.Raw c ks = []
terms kernel.Difference c ks = without c ks
terms (kernel.Scaled f) c ks = ks
terms (kernel.Blend g) c ks = without c ks

-- The square of the centre less another reference.
unfoldable pub squared : (centre other : ℕ) → Float
squared c w = let d = sub binary32 (float c) (float w) in mul binary32 d d

-- What a firing writes: `centre` is the centre's number, `terms` are the filters whose words are added, in their order, `ws`
-- the cells' words in chain order.
unfoldable pub difference : (centre : ℕ) (terms : List ℕ) → List ℕ → ℕ
difference c ks ws = word (sum_of (map (λ w. squared (get_or ws c 0) w) (words_at ks ws)))

unfoldable pub scaled : Float → (terms : List ℕ) → List ℕ → ℕ
scaled f ks ws = word (mul binary32 (sum_of (map float (words_at ks ws))) f)

unfoldable pub blend : Factors → (centre : ℕ) (terms : List ℕ) → List ℕ → ℕ
blend g c ks ws = word
    (add binary32 (mul binary32 g.a (float (get_or ws c 0))) (mul binary32 g.b (sum_of (map float (words_at ks ws)))))

-- `writes`: the filters whose words raw writes.
unfoldable pub written : Kernel → (centre : ℕ) (terms writes : List ℕ) → List ℕ → List ℕ
written kernel.Raw c ks us ws = words_at us ws
written kernel.Difference c ks us ws = difference c ks ws ∷ []
written (kernel.Scaled f) c ks us ws = scaled f ks ws ∷ []
written (kernel.Blend g) c ks us ws = blend g c ks ws ∷ []

-- How many words a firing writes, where raw writes those of n filters.
unfoldable pub width : Kernel → ℕ → ℕ
width kernel.Raw n = n
width kernel.Difference n = 1
width (kernel.Scaled f) n = 1
width (kernel.Blend g) n = 1

-- "A result that is not a number is written as 7FC00000 (hexadecimal)."
pub not_a_number : word nan ≡ 0x7FC00000
unfolding to_bits
not_a_number = refl
