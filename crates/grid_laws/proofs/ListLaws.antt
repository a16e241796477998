-- Laws of lists.
use Prim.Native.Nat.{ℕ, zero, suc, ◌≤◌, ◌<◌, max}
use mathlib.Core.Bool.{Bool, true, and-eq-true_iff}
use mathlib.Core.List.{List, [], ◌∷◌, map}
use mathlib.Core.Path.{◌≡◌, refl, sym, ◌∙◌, ap, ap₂}
use native.Mathlib.Decide.{dec_le}
use native.Mathlib.Nat.{le_of_suc-le-suc, le_antisymm}
use native.Mathlib.Omega.{arith}
use lib.ListN.{length, get_or, length-map, get_or-map}
use lib.Seq.{ext_get_or}
use Rattle.model.specs.Lists.{tabulate, greatest, all}
use Rattle.model.specs.Windows.{Among}

module _ {A : Type 0} where
  pub length_tabulate : (n : ℕ) (f : ℕ → A) → length (tabulate n f) ≡ n
  unfolding tabulate
  length_tabulate zero f = refl
  length_tabulate (suc n) f = ap suc (length_tabulate n (λ i. f (suc i)))

  pub get_d_tabulate : (n : ℕ) (f : ℕ → A) (k : ℕ) (d : A) → k < n → get_or (tabulate n f) k d ≡ f k
  unfolding tabulate
  get_d_tabulate zero f k d h = absurd (omega arith)
  get_d_tabulate (suc n) f zero d h = refl
  get_d_tabulate (suc n) f (suc k) d h = get_d_tabulate n (λ i. f (suc i)) k d (le_of_suc-le-suc h)

  -- Tables with the same entries are the same.
  pub tabulate_same : (n : ℕ) (f g : ℕ → A) → ((i : ℕ) → i < n → f i ≡ g i) → tabulate n f ≡ tabulate n g
  unfolding tabulate
  tabulate_same zero f g e = refl
  tabulate_same (suc n) f g e = ap₂ ◌∷◌ (e 0 (omega arith)) (tabulate_same n (λ i. f (suc i)) (λ i. g (suc i)) (λ i h. e (suc i) (omega arith)))

  pub map_tabulate : {B : Type 0} (h : A → B) (n : ℕ) (f : ℕ → A) → map h (tabulate n f) ≡ tabulate n (λ i. h (f i))
  unfolding tabulate
  map_tabulate h zero f = refl
  map_tabulate h (suc n) f = ap (◌∷◌ (h (f 0))) (map_tabulate h n (λ i. f (suc i)))

  -- A list is what stands in it, place by place.
  pub tabulate_back : (d : A) (xs : List A) (n : ℕ) (f : ℕ → A) → length xs ≡ n → ((k : ℕ) → k < n → f k ≡ get_or xs k d) → tabulate n f ≡ xs
  tabulate_back d xs n f e same =
      ext_get_or d (tabulate n f) xs (length_tabulate n f ∙ sym e) (λ k h. let b = rw length_tabulate at h in get_d_tabulate n f k d b ∙ same k b)

  -- A test that all entries pass is passed by each, and the other way.
  pub all_each : (p : A → Bool) (xs : List A) (d : A) → all p xs ≡ true → (k : ℕ) → k < length xs → p (get_or xs k d) ≡ true
  unfolding all
  all_each p [] d e k h = absurd (omega arith)
  all_each p (x ∷ xs) d e zero h = ((and-eq-true_iff (p x) (all p xs)).0 e).0
  all_each p (x ∷ xs) d e (suc k) h = all_each p xs d ((and-eq-true_iff (p x) (all p xs)).0 e).1 k (le_of_suc-le-suc h)

  pub each_all : (p : A → Bool) (xs : List A) (d : A) → ((k : ℕ) → k < length xs → p (get_or xs k d) ≡ true) → all p xs ≡ true
  unfolding all
  each_all p [] d e = refl
  each_all p (x ∷ xs) d e = (and-eq-true_iff (p x) (all p xs)).1 (e 0 (omega arith), each_all p xs d (λ k h. e (suc k) (omega arith)))

  -- Entries that stand in another list stand there after a map too.
  pub among_map : {B : Type 0} (f : A → B) (d : A) (xs ys : List A) → Among d xs ys → Among (f d) (map f xs) (map f ys)
  among_map f d xs ys m k h =
      let (l, below, e) = m k (rw length-map at h) in
      (l, rw length-map below, get_or-map f ys l d ∙ ap f e ∙ sym (get_or-map f xs k d))

-- The greatest of some numbers is at least each of them, at most what all of them are at most, and one of them.
pub greatest_above : (xs : List ℕ) (k d : ℕ) → k < length xs → get_or xs k d ≤ greatest xs
unfolding greatest
greatest_above [] k d h = absurd (omega arith)
greatest_above (x ∷ xs) zero d h = omega arith
greatest_above (x ∷ xs) (suc k) d h = omega (arith, greatest_above xs k d (le_of_suc-le-suc h))

greatest_below : (xs : List ℕ) (d m : ℕ) → ((k : ℕ) → k < length xs → get_or xs k d ≤ m) → greatest xs ≤ m
unfolding greatest
greatest_below [] d m f = omega arith
greatest_below (x ∷ xs) d m f = omega (arith, f 0 (omega arith), greatest_below xs d m (λ k h. f (suc k) (omega arith)))

pub greatest_stands : (xs : List ℕ) (d : ℕ) → 0 < length xs → (k : ℕ) × (k < length xs) × (get_or xs k d ≡ greatest xs)
unfolding greatest
greatest_stands [] d h = absurd (omega arith)
greatest_stands (x ∷ []) d h = (0, omega arith, omega arith)
greatest_stands (x ∷ y ∷ ys) d h = go (greatest_stands (y ∷ ys) d (omega arith)) (dec_le (greatest (y ∷ ys)) x)
  where
    go : (k : ℕ) × (k < length (y ∷ ys)) × (get_or (y ∷ ys) k d ≡ greatest (y ∷ ys)) → Dec (greatest (y ∷ ys) ≤ x)
        → (k : ℕ) × (k < length (x ∷ y ∷ ys)) × (get_or (x ∷ y ∷ ys) k d ≡ max x (greatest (y ∷ ys)))
    go (k, b, e) (yes l) = (0, omega arith, omega arith)
    go (k, b, e) (no l) = (suc k, omega arith, omega arith)

pub greatest_same : (xs ys : List ℕ) (d : ℕ) → Among d xs ys → Among d ys xs → greatest xs ≡ greatest ys
greatest_same xs ys d m n = le_antisymm (side xs ys m) (side ys xs n)
  where
    side : (xs ys : List ℕ) → Among d xs ys → greatest xs ≤ greatest ys
    side xs ys m = greatest_below xs d (greatest ys) (λ k h. let (l, b, e) = m k h in omega (arith, greatest_above ys l d b))
