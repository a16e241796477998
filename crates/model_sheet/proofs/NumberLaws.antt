-- The numbers on a line one by one.
use Prim.Native.Nat.{ℕ, zero, suc, ◌+◌, ◌*◌, ◌≤◌}
use mathlib.Core.List.{List, [], ◌∷◌, ◌++◌}
use mathlib.Core.Path.{◌≡◌, refl, sym, ◌∙◌, ap, ap₂}
use native.Mathlib.Omega.{arith}
use lib.ListN.{get_or, take, drop, replicate}
use Rattle.model.specs.Lists.{tabulate}
use Rattle.model_sheet.specs.Frames.{row_numbers}
use Rattle.model_sheet.specs.Numbers.{half_at, halves_of}
use Rattle.model_sheet.specs.Reading.{numbers_on}
use Rattle.grid_laws.proofs.ListLaws.{tabulate_same}

-- Behind two bytes the numbers are those of the rest, and behind one alone there are none.
half_rest : (a b : ℕ) (y : List ℕ) (i : ℕ) → half_at (a ∷ b ∷ y) (2 * suc i) ≡ half_at y (2 * i)
unfolding half_at
half_rest a b y i =
    let p : 2 * suc i ≡ suc (suc (2 * i)) = omega arith in
    let q : suc (suc (2 * i)) + 1 ≡ suc (suc (2 * i + 1)) = omega arith in
    rw (p, q)

half_last : (a i : ℕ) → half_at (a ∷ []) (2 * suc i) ≡ 0
unfolding half_at
half_last a i =
    let p : 2 * suc i ≡ suc (suc (2 * i)) = omega arith in
    let q : suc (suc (2 * i)) + 1 ≡ suc (suc (2 * i + 1)) = omega arith in
    rw (p, q)

half_alone : (a : ℕ) → a * 256 ≡ half_at (a ∷ []) (2 * 0)
unfolding half_at
half_alone a = omega arith

zeros : (n m : ℕ) → n ≤ m → take {A = ℕ} n (replicate m 0) ≡ tabulate n (λ i. 0)
unfolding tabulate
zeros zero m h = refl
zeros (suc n) zero h = absurd (omega (arith, h))
zeros (suc n) (suc m) h = ap (λ l. 0 ∷ l) (zeros n m (omega (arith, h)))

halves_table : (n m : ℕ) (y : List ℕ) → n ≤ m → take n (halves_of y ++ replicate m 0) ≡ tabulate n (λ i. half_at y (2 * i))
unfolding halves_of tabulate half_at
halves_table zero m y h = refl
halves_table (suc n) zero y h = absurd (omega (arith, h))
halves_table (suc n) (suc m) [] h = zeros (suc n) (suc m) h
halves_table (suc n) (suc m) (a ∷ []) h =
    ap₂ ◌∷◌ (half_alone a) (zeros n (suc m) (omega (arith, h)) ∙ tabulate_same n (λ i. 0) (λ i. half_at (a ∷ []) (2 * suc i)) (λ i _. sym (half_last a i)))
halves_table (suc n) (suc m) (a ∷ b ∷ y) h =
    ap (λ l. (a * 256 + b) ∷ l)
    (halves_table n (suc m) y (omega (arith, h)) ∙ tabulate_same n (λ i. half_at y (2 * i)) (λ i. half_at (a ∷ b ∷ y) (2 * suc i)) (λ i _. sym (half_rest a b y i)))

-- Behind the first three bytes.
behind : (x : List ℕ) (i : ℕ) → get_or (drop 3 x) i 0 ≡ get_or x (3 + i) 0
behind [] i = refl
behind (a ∷ []) i = let p : 3 + i ≡ suc (suc (suc i)) = omega arith in rw p
behind (a ∷ b ∷ []) i = let p : 3 + i ≡ suc (suc (suc i)) = omega arith in rw p
behind (a ∷ b ∷ c ∷ x) i = let p : 3 + i ≡ suc (suc (suc i)) = omega arith in rw p

half_behind : (x : List ℕ) (i : ℕ) → half_at (drop 3 x) i ≡ half_at x (3 + i)
unfolding half_at
half_behind x i =
    let p : 3 + i + 1 ≡ 3 + (i + 1) = omega arith in
    rw (p, behind x i, behind x (i + 1))

pub numbers_table : (x : List ℕ) → numbers_on x ≡ tabulate row_numbers (λ i. half_at x (3 + 2 * i))
unfolding numbers_on
numbers_table x =
    halves_table row_numbers row_numbers (drop 3 x) (omega arith)
    ∙ tabulate_same row_numbers (λ i. half_at (drop 3 x) (2 * i)) (λ i. half_at x (3 + 2 * i)) (λ i _. half_behind x (2 * i))
