-- What stands on a line, by its numbers.
use Rattle.std.proofs.Common.{take, length-append, length-drop}
use Rattle.std.proofs.lemmas.List.{length-take-le, length-replicate, get_or_append_left, get_or-append_right, get_or-take, get_or-drop, get_or-replicate}
use Rattle.std.proofs.lemmas.Grind.{get_or_after_one}
use Prim.Native.Nat.{ℕ, ◌+◌, ◌-◌, ◌≤◌, ◌<◌, min}
use mathlib.Core.Bool.{cond}
use mathlib.Core.List.{List, [], ◌∷◌, ◌++◌}
use mathlib.Core.Path.{◌≡◌, sym, ◌∙◌}
use native.Mathlib.Decide.{dec_lt}
use native.Mathlib.Omega.{arith}
use lib.Dec.{ltb}
use lib.Ieee.{Float, of_bits, binary32}
use lib.IntN.{ℤ}
use lib.ListN.{length, drop, get_or, replicate}
use lib.Seq.{ext_get_or}
use borrow.Author.Tests.{ne_eqb, lt-ltb, le-ltb}
use Rattle.model.specs.declared.Kernel.TheVariants as kernel
use Rattle.model.specs.Lists.{tabulate}
use Rattle.model_sheet.specs.Numbers.{byte_at, half_at, word_at, signed, signed_word}
use Rattle.model_sheet.specs.Reading.{sizes_in, entries_in, lowest_in, highest_in, filters_in, kernel_in}
use Rattle.grid_laws.proofs.ListLaws.{length_tabulate, get_d_tabulate}

module _ (x : List ℕ) where
  pub four_sizes : (a b c d : ℕ) → a ≡ word_at x 2 → b ≡ word_at x 6 → c ≡ word_at x 10 → d ≡ word_at x 14 → a ∷ b ∷ c ∷ d ∷ [] ≡ sizes_in x
  unfolding sizes_in
  four_sizes a b c d e f g h = rw (e, f, g, h)

  pub four_entries : (a b c d : ℤ) → a ≡ signed (half_at x 1) → b ≡ signed (half_at x 3) → c ≡ signed (half_at x 5) → d ≡ signed (half_at x 7)
      → a ∷ b ∷ c ∷ d ∷ [] ≡ entries_in x
  unfolding entries_in
  four_entries a b c d e f g h = rw (e, f, g, h)

  pub four_lowest : (a b c d : ℤ) → a ≡ signed_word (word_at x 1) → b ≡ signed_word (word_at x 9) → c ≡ signed_word (word_at x 17) → d ≡ signed_word (word_at x 25)
      → a ∷ b ∷ c ∷ d ∷ [] ≡ lowest_in x
  unfolding lowest_in
  four_lowest a b c d e f g h = rw (e, f, g, h)

  pub four_highest : (a b c d : ℤ) → a ≡ signed_word (word_at x 5) → b ≡ signed_word (word_at x 13) → c ≡ signed_word (word_at x 21) → d ≡ signed_word (word_at x 29)
      → a ∷ b ∷ c ∷ d ∷ [] ≡ highest_in x
  unfolding highest_in
  four_highest a b c d e f g h = rw (e, f, g, h)

  pub kernel_raw : byte_at x 1 ≡ 0 → kernel.Raw ≡ kernel_in x
  unfolding kernel_in
  kernel_raw e = rw e

  module _ (n0 : byte_at x 1 ≡ 0 → ⊥) where
    pub kernel_difference : byte_at x 1 ≡ 1 → kernel.Difference ≡ kernel_in x
    unfolding kernel_in
    kernel_difference e = rw e

    module _ (n1 : byte_at x 1 ≡ 1 → ⊥) (a : Float) (first : a ≡ of_bits binary32 (word_at x 2)) where
      pub kernel_scaled : byte_at x 1 ≡ 2 → kernel.Scaled a ≡ kernel_in x
      unfolding kernel_in
      kernel_scaled e = rw (first, e)

      pub kernel_blend : (byte_at x 1 ≡ 2 → ⊥) → (b : Float) → b ≡ of_bits binary32 (word_at x 6) → kernel.Blend (record { a = a; b = b }) ≡ kernel_in x
      unfolding kernel_in
      kernel_blend n2 b second = rw (first, second, ne_eqb _ _ n0, ne_eqb _ _ n1, ne_eqb _ _ n2)

-- So many filter numbers, and 0 past those.
module _ (n : ℕ) (x : List ℕ) (t : ℕ) (many : t ≡ min n 32) (room : 1 + t ≤ length x) where
  abbrev entered : List ℕ
  entered = take t (drop 1 x)

  long : length entered ≡ t
  long = length-take-le t (drop 1 x) (omega (arith, length-drop 1 x))

  at : (i : ℕ) → i < 32 → Dec (i < n) → get_or (entered ++ drop t (replicate 32 0)) i 0 ≡ cond (ltb i n) (byte_at x (1 + i)) 0
  at i b (yes h) =
      let in_t : i < t = omega arith in
      rw (lt-ltb i n h, get_or_append_left entered (drop t (replicate 32 0)) 0 i (omega (arith, long)), get_or-take t (drop 1 x) i 0 in_t, get_or_after_one x i 0)
  at i b (no h) =
      let past : t ≤ i = omega arith in
      rw (le-ltb i n (omega arith), get_or-append_right entered (drop t (replicate 32 0)) t i 0 long past, get_or-drop {A = ℕ} t (replicate 32 0) (i - t) 0)
      (get_or-replicate 32 (t + (i - t)) 0 0 (omega arith))

  pub filters_entered : (f : List ℕ) → f ≡ entered → f ++ drop t (replicate 32 0) ≡ filters_in n x
  unfolding filters_in
  filters_entered f is =
      let g = λ (i : ℕ). cond (ltb i n) (byte_at x (1 + i)) 0 in
      let all : length (entered ++ drop t (replicate 32 0)) ≡ 32 =
      length-append entered (drop t (replicate 32 0)) ∙ omega (arith, long, length-drop {A = ℕ} t (replicate 32 0), length-replicate {A = ℕ} 32 0) in
      rw is
      (ext_get_or 0 (entered ++ drop t (replicate 32 0)) (tabulate 32 g) (all ∙ sym (length_tabulate 32 _))
      (λ i b. let c : i < 32 = omega (arith, all) in at i c (dec_lt i n) ∙ sym (get_d_tabulate 32 g i 0 c)))
