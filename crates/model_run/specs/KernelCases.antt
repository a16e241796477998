-- What a firing writes, on words whose sums and products round (document 01, "Kernels"): one table, computed. Words are f32
-- bits, in hexadecimal.
use Rattle.std.specs.Prelude.{ℕ, Bool, true, false, List, [], ◌∷◌, map, ◌≡◌, refl, ℤ, pos, negsuc, length}
use Rattle.std.specs.Float.Ieee.{of_bits, to_bits, add, sub, mul}
use Rattle.model.specs.Lists.{tabulate, up_to, without}
use Rattle.model.specs.Vectors.{same, is_zero}
use Rattle.model.specs.Grounds.Ground.{rectangle}
use Rattle.model.specs.Boxes.Part.{whole}
use Rattle.model.specs.Values.{Trimmed}
use Rattle.model_run.specs.Kernels.{float, sum_from, sum_of, words_at, terms, squared, difference, scaled, blend, written}
use Rattle.model_run.specs.Kernels.{width}
use Rattle.model.specs.Windows.{centre_of}
use Rattle.model_run.specs.Running.{filters_of, terms_of, writes_of, written_by, width_of}
use Rattle.model.specs.declared.Kernel.{Kernel}
use Rattle.model.specs.declared.Kernel.TheVariants as kernel

-- A kernel and a window; the author's order, where its line stood; the words that the filters are
-- presented, and what the firing writes.
pub record Case : Type 0 where
  pub kernel : Kernel
  pub offsets : List (List ℤ)
  pub ordered : Bool
  pub order : List ℕ
  pub words : List ℕ
  pub writes : List ℕ

abbrev case : Kernel → List (List ℤ) → (words writes : List ℕ) → Case
case k offsets words writes = record
    { kernel = k; offsets = offsets; ordered = false; order = []; words = words; writes = writes }

abbrev in_order : (order : List ℕ) → Kernel → List (List ℤ) → (words writes : List ℕ) → Case
in_order order k offsets words writes = record
    { kernel = k; offsets = offsets; ordered = true; order = order; words = words; writes = writes }

abbrev scaled_by : ℕ → Kernel
scaled_by f = kernel.Scaled (float f)

abbrev blend_by : (a b : ℕ) → Kernel
blend_by a b = kernel.Blend (record { a = float a; b = float b })

abbrev chain : Case → Trimmed
chain c = record {
  dims = 1;
  the_ground = rectangle (8 ∷ []);
  count = length c.offsets;
  offsets = c.offsets;
  part = whole;
  capacities = [];
  ordered = c.ordered;
  order = c.order;
  kernel = c.kernel;
}

unfoldable pub answered : Case → List ℕ
answered c = written_by (chain c) c.words

unfoldable pub expected : Case → List ℕ
expected c = c.writes

-- Windows of one, two, three and four references whose centre is number 0, 1, 1 and 1.
abbrev one : List (List ℤ)
one = (pos 0 ∷ []) ∷ []

abbrev two : List (List ℤ)
two = (pos 1 ∷ []) ∷ (pos 0 ∷ []) ∷ []

abbrev three : List (List ℤ)
three = (pos 1 ∷ []) ∷ (pos 0 ∷ []) ∷ (negsuc 0 ∷ []) ∷ []

abbrev four : List (List ℤ)
four = (pos 1 ∷ []) ∷ (pos 0 ∷ []) ∷ (negsuc 0 ∷ []) ∷ (negsuc 1 ∷ []) ∷ []

-- One in four dimensions, whose centre is number 2.
abbrev deep : List (List ℤ)
deep =
    (pos 0 ∷ pos 0 ∷ pos 1 ∷ pos 0 ∷ []) ∷ (pos 0 ∷ pos 0 ∷ pos 0 ∷ pos 1 ∷ []) ∷ (pos 0 ∷ pos 0 ∷ pos 0 ∷ pos 0 ∷ []) ∷ []

unfoldable pub cases : List Case
cases =
    -- "*raw* writes all n words": also those that are no number, as they came
    case kernel.Raw two (0x7F800001 ∷ 0xFFFFFFFF ∷ []) (0x7F800001 ∷ 0xFFFFFFFF ∷ [])
    -- "starting from the first term": −0 alone stays −0, which +0 before it would not leave
    ∷ case (scaled_by 0x3F800000) one (0x80000000 ∷ []) (0x80000000 ∷ [])
    -- "added in chain order", where there is no other: 2^24 and twice 1 lose both 1s, 1 and 1 before 2^24 lose none
    ∷ case (scaled_by 0x3F800000) three (0x4B800000 ∷ 0x3F800000 ∷ 0x3F800000 ∷ []) (0x4B800000 ∷ [])
    ∷ case (scaled_by 0x3F800000) three (0x3F800000 ∷ 0x3F800000 ∷ 0x4B800000 ∷ []) (0x4B800001 ∷ [])
    -- "kernels add in it": the same words with the 1s first, and with them last
    ∷ in_order (2 ∷ 1 ∷ 0 ∷ []) (scaled_by 0x3F800000) three (0x4B800000 ∷ 0x3F800000 ∷ 0x3F800000 ∷ []) (0x4B800001 ∷ [])
    ∷ in_order (2 ∷ 0 ∷ 1 ∷ []) (scaled_by 0x3F800000) three (0x3F800000 ∷ 0x3F800000 ∷ 0x4B800000 ∷ []) (0x4B800000 ∷ [])
    -- "raw outputs keep chain order"
    ∷ in_order (2 ∷ 0 ∷ 1 ∷ []) kernel.Raw three (0x3F800000 ∷ 0x40400000 ∷ 0x40800000 ∷ [])
    (0x3F800000 ∷ 0x40400000 ∷ 0x40800000 ∷ [])
    -- the centre, first, last or between, is passed over: 2^24 and twice 1, as squares and as words
    ∷ in_order (1 ∷ 0 ∷ 2 ∷ 3 ∷ []) kernel.Difference four (0x45800000 ∷ 0x00000000 ∷ 0x3F800000 ∷ 0x3F800000 ∷ [])
    (0x4B800000 ∷ [])
    ∷ in_order (2 ∷ 3 ∷ 0 ∷ 1 ∷ []) kernel.Difference four (0x45800000 ∷ 0x00000000 ∷ 0x3F800000 ∷ 0x3F800000 ∷ [])
    (0x4B800001 ∷ [])
    ∷ in_order (3 ∷ 1 ∷ 2 ∷ 0 ∷ []) (blend_by 0x3F800000 0x3F800000) four
    (0x4B800000 ∷ 0x00000000 ∷ 0x3F800000 ∷ 0x3F800000 ∷ []) (0x4B800001 ∷ [])
    ∷ in_order (0 ∷ 3 ∷ 2 ∷ 1 ∷ []) (blend_by 0x3F800000 0x3F800000) four
    (0x4B800000 ∷ 0x00000000 ∷ 0x3F800000 ∷ 0x3F800000 ∷ []) (0x4B800000 ∷ [])
    -- "the sum of all references times a factor": half of the least subnormal is 0, half of twice it is not
    ∷ case (scaled_by 0x3F000000) two (0x00000001 ∷ 0x00000001 ∷ []) (0x00000001 ∷ [])
    -- "A result that is not a number is written as 7FC00000": the greatest number twice is infinite, and 0 times that is none
    ∷ case (scaled_by 0x00000000) two (0x7F7FFFFF ∷ 0x7F7FFFFF ∷ []) (0x7FC00000 ∷ [])
    -- "a sum of no terms is +0": b times it is still added to a times −0
    ∷ case (blend_by 0x3F800000 0x3F800000) one (0x80000000 ∷ []) (0x00000000 ∷ [])
    ∷ case (blend_by 0x3F800000 0xBF800000) one (0x80000000 ∷ []) (0x80000000 ∷ [])
    -- "each operation rounded once": the square of 1 + 2^-12 is rounded to 1 + 2^-11 before 1 + 2^-11 is taken from it
    ∷ case (blend_by 0x3F800800 0x3F800000) two (0xBF801000 ∷ 0x3F800800 ∷ []) (0x00000000 ∷ [])
    -- "a times the centre plus b times the sum of the others": 2 × 3 + 10 × (1 + 4)
    ∷ case (blend_by 0x40000000 0x41200000) three (0x3F800000 ∷ 0x40400000 ∷ 0x40800000 ∷ []) (0x42600000 ∷ [])
    -- 2 × 4 + 10 × (1 + 3)
    ∷ case (blend_by 0x40000000 0x41200000) deep (0x3F800000 ∷ 0x40400000 ∷ 0x40800000 ∷ []) (0x42400000 ∷ [])
    -- "the squares of centre less each other reference": the centre's own term, infinity less itself, is left out; (3 − 1)² +
    -- (3 − 4)²
    ∷ case kernel.Difference two (0x3F800000 ∷ 0x7F800000 ∷ []) (0x7F800000 ∷ [])
    ∷ case kernel.Difference three (0x3F800000 ∷ 0x40400000 ∷ 0x40800000 ∷ []) (0x40A00000 ∷ [])
    -- of a centre alone, whatever it is
    ∷ case kernel.Difference one (0x7FC00000 ∷ []) (0x00000000 ∷ [])
    ∷ []

-- As many words as the width says.
pub table : (map answered cases ≡ map expected cases)
    × (map (λ c. width_of (chain c)) cases ≡ map (λ c. length c.writes) cases)
unfolding answered expected cases of_bits to_bits add sub mul
    tabulate up_to without same is_zero sum_from sum_of centre_of words_at terms squared difference scaled blend written filters_of
    terms_of writes_of written_by width width_of
table = (refl, refl)
