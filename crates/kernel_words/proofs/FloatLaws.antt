-- Words and values.
use Prim.Native.Nat.{ℕ, ◌%◌, ◌<◌, ◌≤◌}
use mathlib.Core.Path.{◌≡◌, refl, sym, subst, ◌∙◌}
use mathlib.Core.Bool.{true, false, not}
use lib.Dec.{T}
use borrow.Author.Tests.{lt-ltb, le-ltb}
use lib.Ieee.{Float, nan, inf, fin, of_bits, to_bits, nan_bits, is_nan, div, ne, binary32}
use lib.Ieee.Bits.{nan_bits_is, nan_bits_above}
use lib.Ieee.Compare.{differs_from_itself, nan_differs}

zero_by_zero : div binary32 (of_bits binary32 0) (of_bits binary32 0) ≡ nan
unfolding div of_bits
zero_by_zero = refl

is_nan_lem : (x : Float) → is_nan x ≡ true → x ≡ nan
unfolding is_nan
is_nan_lem nan e = refl
is_nan_lem (inf s) e = cc
is_nan_lem (fin s m x) e = cc

-- The value of a word that is no number.
pub nan_word : (w : ℕ) → 0x7F800000 < w % 0x80000000 → div binary32 (of_bits binary32 0) (of_bits binary32 0) ≡ of_bits binary32 w
nan_word w h = zero_by_zero ∙ sym (is_nan_lem _ (sym (nan_bits_is binary32 w) ∙ nan_bits_above binary32 w ∙ lt-ltb _ _ h))

pub number_word : (w : ℕ) → w % 0x80000000 ≤ 0x7F800000 → T (not (nan_bits binary32 w))
number_word w h = rw (nan_bits_above, le-ltb 0x7F800000 (w % 0x80000000) h) tt

-- The word of a value that is no number.
pub nan_bits_lem : (x : Float) → ne x x ≡ true → 0x7FC00000 ≡ to_bits binary32 x
unfolding to_bits
nan_bits_lem x e = rw (differs_from_itself x (subst T (sym e) tt))

pub no_nan : (x : Float) → ne x x ≡ false → T (not (is_nan x))
unfolding is_nan
no_nan nan e = let z : true ≡ false = sym nan_differs ∙ e in subst T z tt
no_nan (inf s) e = tt
no_nan (fin s m x) e = tt
