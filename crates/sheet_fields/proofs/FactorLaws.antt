-- The patterns that are not a number, and the float that stands for them.
use Prim.Native.Nat.{ℕ, ◌%◌, ◌≤◌, ◌<◌}
use mathlib.Core.Bool.{true, false, not}
use mathlib.Core.Path.{◌≡◌, refl, sym, subst, ◌∙◌}
use lib.Dec.{T}
use lib.Ieee.{Float, nan, inf, fin, of_bits, to_bits, nan_bits, is_nan, div, ne, binary32}
use lib.Ieee.Bits.{nan_bits_is, nan_bits_above}
use lib.Ieee.Compare.{differs_from_itself, nan_differs}
use borrow.Author.Tests.{lt-ltb, le-ltb}

zero_by_zero : div binary32 (of_bits binary32 0) (of_bits binary32 0) ≡ nan
unfolding div of_bits
zero_by_zero = refl

is_nan_lem : (x : Float) → is_nan x ≡ true → x ≡ nan
unfolding is_nan
is_nan_lem nan e = refl
is_nan_lem (inf s) e = cc
is_nan_lem (fin s m x) e = cc

pub nan_word : (w : ℕ) → 2139095040 < w % 2147483648 → div binary32 (of_bits binary32 0) (of_bits binary32 0) ≡ of_bits binary32 w
nan_word w h = zero_by_zero ∙ sym (is_nan_lem _ (sym (nan_bits_is binary32 w) ∙ nan_bits_above binary32 w ∙ lt-ltb _ _ h))

pub number_word : (w : ℕ) → w % 2147483648 ≤ 2139095040 → T (not (nan_bits binary32 w))
number_word w h = rw (nan_bits_above, le-ltb 2139095040 (w % 2147483648) h) tt

pub nan_bits_lem : (x : Float) → ne x x ≡ true → 2143289344 ≡ to_bits binary32 x
unfolding to_bits
nan_bits_lem x e = rw (differs_from_itself x (subst T (sym e) tt))

pub no_nan : (x : Float) → ne x x ≡ false → T (not (is_nan x))
unfolding is_nan
no_nan nan e = let z : true ≡ false = sym nan_differs ∙ e in subst T z tt
no_nan (inf s) e = tt
no_nan (fin s m x) e = tt
