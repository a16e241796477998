-- Vectors of whole numbers.
use Rattle.std.specs.Prelude.{ℕ, suc, ◌+◌, ◌-◌, Bool, true, false, cond, ◌&&◌, List, [], ◌∷◌, eqb, ℤ, pos, negsuc, ◌+ℤ◌}
use Rattle.std.specs.Int.Signed.{lt_z}

abbrev pub −1 : ℤ
−1 = negsuc 0

unfoldable pub same : ℤ → ℤ → Bool
same (pos a) (pos b) = eqb a b
same (pos a) (negsuc b) = false
same (negsuc a) (pos b) = false
same (negsuc a) (negsuc b) = eqb a b

-- how far x lies above y: x - y, and 0 where x is below y
unfoldable pub above : ℤ → ℤ → ℕ
above (pos a) (pos b) = a - b
above (pos a) (negsuc b) = a + suc b
above (negsuc a) (pos b) = 0
above (negsuc a) (negsuc b) = b - a

-- the sum of two vectors
unfoldable pub plus : List ℤ → List ℤ → List ℤ
plus [] ys = []
plus (x ∷ xs) [] = []
plus (x ∷ xs) (y ∷ ys) = (x +ℤ y) ∷ plus xs ys

unfoldable pub equal : List ℤ → List ℤ → Bool
equal [] [] = true
equal [] (y ∷ ys) = false
equal (x ∷ xs) [] = false
equal (x ∷ xs) (y ∷ ys) = same x y && equal xs ys

-- Lexicographic order: xs comes before ys.
unfoldable pub before : List ℤ → List ℤ → Bool
before [] ys = false
before (x ∷ xs) [] = false
before (x ∷ xs) (y ∷ ys) = cond (lt_z x y) true (same x y && before xs ys)

-- every entry is 0
unfoldable pub is_zero : List ℤ → Bool
is_zero [] = true
is_zero (x ∷ xs) = same x (pos 0) && is_zero xs
