-- The words of chains and states, each at its place in c/zohmirka.h: written and read back; one table, computed.
use Rattle.std.specs.Prelude.{ℕ, ◌+◌, ◌-◌, Bool, true, false, List, [], ◌∷◌, ◌++◌, map, ◌≡◌, refl, pos, negsuc, replicate}
use Rattle.std.specs.Float.{nan}
use Rattle.std.specs.Float.Ieee.{of_bits, to_bits}
use Rattle.model.specs.Lists.{tabulate}
use Rattle.model.specs.Values.{blank_chain}
use Rattle.model_run.specs.Kernels.{float}
use Rattle.model_sheet.specs.Numbers.{signed, pattern, signed_word, word_pattern}
use Rattle.model.specs.declared.Chain.{Chain}
use Rattle.model.specs.declared.Kernel.{Kernel}
use Rattle.model.specs.declared.Kernel.TheVariants as kernel
use Rattle.model.specs.declared.Side.{Side}
use Rattle.model.specs.declared.State.{State}
use Rattle.zohmirka_words.specs.Words.{counter, state_word, state_words, state_in, kernel_words, box_word, chain_word}
use Rattle.zohmirka_words.specs.Words.{chain_words, count_in, kernel_in, order_in, indices_in, bounds_in, chain_in, blank_side, side_in}

-- A chain whose numbers differ; whether its order stood, its box stood, and its grid is skewed, and its kernel.
abbrev chain : (ordered boxed skewed : Bool) → Kernel → Chain
chain ordered boxed skewed k = record {
  grid = record { skewed = skewed; rows = 300; dims = 3; sizes = 11 ∷ 12 ∷ 13 ∷ 14 ∷ [] };
  window = record { count = 31; offsets = pos 7 ∷ pos 32767 ∷ tabulate 126 negsuc };
  bounds = record {
    stood = boxed;
    lowest = negsuc 0 ∷ negsuc 1 ∷ negsuc 2 ∷ negsuc 2147483647 ∷ [];
    highest = pos 21 ∷ pos 22 ∷ pos 23 ∷ pos 2147483647 ∷ [];
  };
  capacities = tabulate 31 (λ i. 5000 + i);
  order = record { stood = ordered; filters = tabulate 32 (λ i. 100 + i) };
  kernel = k;
}

-- Its words; those of the four are given.
abbrev words : (ordered boxed skewed : ℕ) → (kernel : List ℕ) → List ℕ
words ordered boxed skewed k =
    -- 0: the dimension count; 1 to 4: the sizes; 5: the number of references
    3 ∷ 11 ∷ 12 ∷ 13 ∷ 14 ∷ 31
    -- 6 to 133: the offsets, 16 bits in two's complement
    ∷ 7 ∷ 32767 ∷ (tabulate 126 (λ i. 65535 - i)
    -- 134 to 164: the capacities
    ++ (tabulate 31 (λ i. 5000 + i)
    -- 165: the kernel; 166, 167: its factors
    ++ (k
    -- 168: 1 if the author's order stood; 169 to 200: the order
    ++ (ordered ∷ (tabulate 32 (λ i. 100 + i)
    -- 201: 1 if a box stood; 202 to 205: the lowest indices, 32 bits in two's complement; 206 to 209: the highest
    ++ (boxed ∷ 4294967295 ∷ 4294967294 ∷ 4294967293 ∷ 2147483648 ∷ 21 ∷ 22 ∷ 23 ∷ 2147483647
    -- 210: 1 if the grid is skewed; 211: the number of rows
    ∷ skewed ∷ 300 ∷ []))))))

pub record Case : Type 0 where
  pub chain : Chain
  pub words : List ℕ

unfoldable pub cases : List Case
cases =
    record { chain = chain true false false kernel.Raw; words = words 1 0 0 (0 ∷ 0 ∷ 0 ∷ []) }
    ∷ record { chain = chain false true false kernel.Difference; words = words 0 1 0 (1 ∷ 0 ∷ 0 ∷ []) }
    ∷ record { chain = chain false false true (kernel.Scaled (float 0x3F800000)); words = words 0 0 1 (2 ∷ 0x3F800000 ∷ 0 ∷ []) }
    ∷ record {
      chain = chain true true true (kernel.Blend (record { a = float 0x3F800000; b = float 0xC0000000 }));
      words = words 1 1 1 (3 ∷ 0x3F800000 ∷ 0xC0000000 ∷ []);
    }
    ∷ []

-- "counts and filter numbers above 255 count as 255; of an entry the low 16 bits count; a kernel above 3 is refused by 8; an
-- order stood if word 168 is not 0, and a box if word 201 is not 0"; so is the grid skewed; "later words play no part".
abbrev odd : List ℕ
odd =
    256 ∷ 11 ∷ 12 ∷ 13 ∷ 14 ∷ 4294967295
    ∷ (replicate 128 131071 ++ (replicate 31 5
    ++ (4 ∷ 0 ∷ 0 ∷ 9 ∷ (replicate 32 256 ++ (8 ∷ (replicate 8 0 ++ (7 ∷ 6 ∷ 99 ∷ [])))))))

abbrev taken : Chain
taken = record {
  grid = record { skewed = true; rows = 6; dims = 255; sizes = 11 ∷ 12 ∷ 13 ∷ 14 ∷ [] };
  window = record { count = 255; offsets = replicate 128 (negsuc 0) };
  bounds = record { stood = true; lowest = replicate 4 (pos 0); highest = replicate 4 (pos 0) };
  capacities = replicate 31 5;
  order = record { stood = true; filters = replicate 32 255 };
  kernel = kernel.Scaled nan;
}

-- A window of a pair: 0 its number of references, 1 to 128 the offsets, 129 the kernel, 130 and 131 its factors; later words
-- play no part.
abbrev side_words : (count : ℕ) → (offsets kernel : List ℕ) → List ℕ
side_words count offsets k = count ∷ (offsets ++ (k ++ (99 ∷ [])))

abbrev blended : Side
blended = record {
  window = record { count = 31; offsets = pos 7 ∷ pos 32767 ∷ tabulate 126 negsuc };
  kernel = kernel.Blend (record { a = float 0x3F800000; b = float 0xC0000000 });
}

abbrev odd_side : Side
odd_side = record { window = record { count = 255; offsets = replicate 128 (negsuc 0) }; kernel = kernel.Scaled nan }

-- A state: 0 to 31 the input counters, 32 the firings made.
abbrev state : State
state = record { passed = tabulate 32 (λ k. counter (40 + k)); fired = record { 0 = 9 } }

abbrev counters : List ℕ
counters = tabulate 32 (λ k. 40 + k) ++ (9 ∷ [])

pub table : (map (λ c. chain_words c.chain) cases ≡ map (λ c. c.words) cases)
    × (map (λ c. chain_in c.words) cases ≡ map (λ c. c.chain) cases)
    × (chain_in odd ≡ taken)
    × (chain_in (replicate 211 1) ≡ blank_chain)
    × (side_in (side_words 31 (7 ∷ 32767 ∷ tabulate 126 (λ i. 65535 - i)) (3 ∷ 0x3F800000 ∷ 0xC0000000 ∷ [])) ≡ blended)
    × (side_in (side_words 256 (replicate 128 131071) (4 ∷ 0 ∷ 0 ∷ [])) ≡ odd_side)
    × (side_in (replicate 131 1) ≡ blank_side)
    × (state_words state ≡ counters)
    × (state_in counters ≡ state)
unfolding cases of_bits to_bits tabulate signed pattern signed_word word_pattern
    state_word state_words state_in kernel_words box_word chain_word chain_words count_in kernel_in order_in indices_in bounds_in chain_in side_in
table = (refl, refl, refl, refl, refl, refl, refl, refl, refl)
