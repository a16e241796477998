-- Laws of a window's offsets, reference by reference and entry by entry.
use Prim.Native.Nat.{ℕ, zero, suc, ◌+◌, ◌*◌, ◌<◌, ◌≤◌, min}
use mathlib.Core.Bool.{Bool, true, false, cond, ◌&&◌, ◌||◌, and-false}
use mathlib.Core.List.{List, [], ◌∷◌}
use mathlib.Core.Path.{◌≡◌, refl, sym, ◌∙◌, ap}
use native.Mathlib.Decide.{dec_lt}
use native.Mathlib.Omega.{arith}
use lib.Dec.{eqb, ltb, leb-suc-suc}
use lib.Pointwise.{pointwise}
use lib.IntN.{ℤ, pos, negsuc}
use lib.ListN.{length, get_or, take, replicate, length-replicate, get_or-replicate, get_or-eq_default}
use lib.Signed.{lt_z}
use borrow.Author.Tests.{lt-ltb, le-ltb, le-leb, lt-leb}
use Rattle.std.specs.Prelude.{Option, Some}
use Rattle.std.specs.Ordering.{int_cmp, int_eq, is_eq, is_lt, is_some_and, partial_ordering_then}
use Rattle.std.specs.Cmp.Lexicographic.{slice_partial_cmp}
use Rattle.std.specs.declared.cmp.Ordering.{Ordering}
use Rattle.std.specs.declared.cmp.Ordering.TheVariants.{Less, Equal, Greater}
use Rattle.std.proofs.lemmas.Bool.Decides.{nat_tests}
use Rattle.std.proofs.lemmas.List.{take_min}
use Rattle.model.specs.Lists.{tabulate, any}
use Rattle.model.specs.Vectors.{same, equal, before, is_zero}
use Rattle.model.specs.Values.{offset_of, offsets_of}
use Rattle.model.specs.Judging.{repeats}
use Rattle.model.specs.Windows.{centre_of}
use Rattle.model.specs.declared.Window.{Window}
use Rattle.grid_laws.proofs.IntegerLaws.{le_z_refl, le_z_lt_z}
use Rattle.grid_laws.proofs.ListLaws.{length_tabulate, get_d_tabulate, tabulate_same}
use Rattle.grid_laws.proofs.OrderLaws.{equal_itself}
use Rattle.geometry.specs.Parts.{part, entry_at, offset_at}
use Rattle.windows.specs.Offsets.{offset_in, front}
use Rattle.windows.specs.Windows.{held, repeats_in, centre_in, has_centre}
use Rattle.geometry.proofs.PartLaws.{part_none, part_more, part_same}

-- No offset comes before itself.
before_itself : (xs : List ℤ) → before xs xs ≡ false
unfolding before
before_itself [] = refl
before_itself (x ∷ xs) = rw (le_z_lt_z x x (le_z_refl x), before_itself xs, and-false)

-- Two entries are the same if they compare as equal.
nat_same : (a b : ℕ) → eqb a b ≡ is_eq (cond (ltb a b) Less (cond (ltb b a) Greater Equal))
nat_same a b = grind (arith, nat_tests)

nat_same_down : (a b : ℕ) → eqb a b ≡ is_eq (cond (ltb b a) Less (cond (ltb a b) Greater Equal))
nat_same_down a b = grind (arith, nat_tests)

same_is : (x y : ℤ) → same x y ≡ int_eq x y
unfolding same
same_is (pos a) (pos b) = nat_same a b
same_is (pos a) (negsuc b) = refl
same_is (negsuc a) (pos b) = refl
same_is (negsuc a) (negsuc b) = nat_same_down a b

-- Two offsets: the entries from d on.
module _ (f g : ℕ → ℤ) (d n : ℕ) where
  pub equal_on : d < n → same (f d) (g d) ≡ true → equal (part f (d + 1) n) (part g (d + 1) n) ≡ equal (part f d n) (part g d n)
  unfolding equal
  equal_on h e = rw (part_more f d n h, part_more g d n h, e)

  pub equal_not : d < n → same (f d) (g d) ≡ false → false ≡ equal (part f d n) (part g d n)
  unfolding equal
  equal_not h e = rw (part_more f d n h, part_more g d n h, e)

  pub equal_end : ((i : ℕ) → d ≤ i → i < n → f i ≡ g i) → true ≡ equal (part f d n) (part g d n)
  equal_end e = rw (part_same f g d n e) (sym (equal_itself (part g d n)))

-- Two offsets of four entries have the same past these.
pub past_four : (a b : List ℤ) (dims n : ℕ) → length a ≡ 4 → length b ≡ 4 → min dims 4 ≤ n → (i : ℕ) → n ≤ i → i < dims → get_or a i (pos 0) ≡ get_or b i (pos 0)
past_four a b dims n h k m i from to =
    get_or-eq_default a (pos 0) (omega arith) ∙ sym (get_or-eq_default b (pos 0) (omega arith))

-- The first entries of two offsets, compared as slices.
pub equal_slices : (n : ℕ) (a b : List ℤ) → length a ≡ length b → pointwise int_eq (take n a) (take n b) ≡ equal (front n a) (front n b)
unfolding equal tabulate
equal_slices zero a b h = refl
equal_slices (suc n) [] [] h = sym (equal_itself (front (suc n) []))
equal_slices (suc n) [] (y ∷ ys) h = absurd (omega arith)
equal_slices (suc n) (x ∷ xs) [] h = absurd (omega arith)
equal_slices (suc n) (x ∷ xs) (y ∷ ys) h = rw (same_is x y) (ap (λ (t : Bool). int_eq x y && t) (equal_slices n xs ys (omega arith)))

-- One entry of each, and the order of the rest.
then_rest : (less greater : Bool) (rest : Option Ordering) (t : Bool) → is_some_and is_lt rest ≡ t
    → is_some_and is_lt (partial_ordering_then (Some (cond less Less (cond greater Greater Equal))) rest) ≡ cond less true (is_eq (cond less Less (cond greater Greater Equal)) && t)
then_rest true greater rest t e = refl
then_rest false true rest t e = refl
then_rest false false rest t e = e

pub before_slices : (n : ℕ) (a b : List ℤ) → length a ≡ length b → is_some_and is_lt (slice_partial_cmp (λ x y. Some (int_cmp x y)) (take n a) (take n b)) ≡ before (front n a) (front n b)
unfolding before tabulate
before_slices zero a b h = refl
before_slices (suc n) [] [] h = sym (before_itself (front (suc n) []))
before_slices (suc n) [] (y ∷ ys) h = absurd (omega arith)
before_slices (suc n) (x ∷ xs) [] h = absurd (omega arith)
before_slices (suc n) (x ∷ xs) (y ∷ ys) h = rw (same_is x y) (then_rest (lt_z x y) (lt_z y x) _ _ (before_slices n xs ys (omega arith)))

-- An offset has no more than four entries.
pub first_four : (n dims : ℕ) (o : List ℤ) → n ≡ min dims 4 → length o ≡ 4 → take n o ≡ take dims o
first_four n dims o e h = rw (e, ← h) (take_min dims o)

-- A reference's offset, taken out of the window.
module _ (offsets : List ℤ) (k : ℕ) where
  pub no_offset : 32 ≤ k → replicate 4 (pos 0) ≡ offset_in offsets k
  unfolding offset_in
  no_offset h = rw (le-ltb k 32 h)

  offset_is : k < 32 → offset_in offsets k ≡ offset_at 4 offsets k
  unfolding offset_in
  offset_is h = rw (lt-ltb k 32 h)

  pub offset_there : (w x y z : ℤ) → k < 32 → w ≡ get_or offsets (4 * k) (pos 0) → x ≡ entry_at offsets k 1 → y ≡ entry_at offsets k 2 → z ≡ entry_at offsets k 3
      → w ∷ x ∷ y ∷ z ∷ [] ≡ offset_in offsets k
  unfolding tabulate
  offset_there w x y z h p q r s = rw (offset_is h, p ∙ first, q, r, s)
    where
      first : get_or offsets (4 * k) (pos 0) ≡ entry_at offsets k 0
      first = ap (λ (i : ℕ). get_or offsets i (pos 0)) (omega arith)

  pub front_offset : (dims : ℕ) (o : List ℤ) → o ≡ offset_in offsets k → k < 32 → dims ≤ 4 → front dims o ≡ offset_at dims offsets k
  front_offset dims o e h n =
      ap (front dims) (e ∙ offset_is h)
      ∙ tabulate_same dims (λ d. get_or (offset_at 4 offsets k) d (pos 0)) (entry_at offsets k) (λ d b. get_d_tabulate 4 (entry_at offsets k) d (pos 0) (omega arith))

-- An offset is zero if it is equal to one whose entries are all 0.
equal_zero : (n : ℕ) (f g : ℕ → ℤ) → ((d : ℕ) → g d ≡ pos 0) → equal (tabulate n f) (tabulate n g) ≡ is_zero (tabulate n f)
unfolding tabulate equal is_zero
equal_zero zero f g z = refl
equal_zero (suc n) f g z = rw (z 0, equal_zero n (λ i. f (suc i)) (λ i. g (suc i)) (λ d. z (suc d)))

all_zero : (d : ℕ) → get_or (replicate 4 (pos 0)) d (pos 0) ≡ pos 0
all_zero d = go (dec_lt d 4)
  where
    go : Dec (d < 4) → get_or (replicate 4 (pos 0)) d (pos 0) ≡ pos 0
    go (yes b) = get_or-replicate 4 d (pos 0) (pos 0) b
    go (no b) = get_or-eq_default (replicate 4 (pos 0)) (pos 0) {n = d} (rw (length-replicate 4 (pos 0)) (omega arith))

pub zero_offset : (dims : ℕ) (o : List ℤ) → equal (front dims o) (front dims (replicate 4 (pos 0))) ≡ is_zero (front dims o)
zero_offset dims o = equal_zero dims (λ d. get_or o d (pos 0)) (λ d. get_or (replicate 4 (pos 0)) d (pos 0)) all_zero

-- The offsets from reference k on.
module _ (f : ℕ → List ℤ) (k n : ℕ) where
  pub any_on : (p : List ℤ → Bool) → k < n → p (f k) ≡ false → any p (part f (k + 1) n) ≡ any p (part f k n)
  unfolding any
  any_on p h e = rw (part_more f k n h, e)

  pub any_here : (p : List ℤ → Bool) → k < n → p (f k) ≡ true → true ≡ any p (part f k n)
  unfolding any
  any_here p h e = rw (part_more f k n h, e)

  pub any_end : (p : List ℤ → Bool) → n ≤ k → false ≡ any p (part f k n)
  unfolding any
  any_end p h = rw (part_none f k n h)

  pub repeats_on : k < n → any (λ p. equal (f k) p) (part f (k + 1) n) ≡ false → repeats (part f (k + 1) n) ≡ repeats (part f k n)
  unfolding repeats
  repeats_on h e = rw (part_more f k n h, e)

  pub repeats_here : k < n → any (λ p. equal (f k) p) (part f (k + 1) n) ≡ true → true ≡ repeats (part f k n)
  unfolding repeats
  repeats_here h e = rw (part_more f k n h, e)

  pub repeats_end : n ≤ k → false ≡ repeats (part f k n)
  unfolding repeats
  repeats_end h = rw (part_none f k n h)

  pub centre_on : k < n → is_zero (f k) ≡ false → k + 1 + centre_of (part f (k + 1) n) ≡ k + centre_of (part f k n)
  unfolding centre_of
  centre_on h e = rw (part_more f k n h, e) (omega arith)

  pub centre_here : k < n → is_zero (f k) ≡ true → k ≡ k + centre_of (part f k n)
  unfolding centre_of
  centre_here h e = rw (part_more f k n h, e) (omega arith)

  pub centre_end : n ≤ k → k ≡ k + centre_of (part f k n)
  unfolding centre_of
  centre_end h = rw (part_none f k n h) (omega arith)

-- The centre's number is below the count exactly if there is a centre.
pub below_count : (os : List (List ℤ)) → ltb (centre_of os) (length os) ≡ any is_zero os
unfolding centre_of any
below_count [] = refl
below_count (o ∷ os) = go (is_zero o) (below_count os)
  where
    go : (t : Bool) → ltb (centre_of os) (length os) ≡ any is_zero os → ltb (cond t 0 (suc (centre_of os))) (suc (length os)) ≡ t || any is_zero os
    go true e = lt-ltb 0 (suc (length os)) (omega arith)
    go false e = leb-suc-suc (suc (centre_of os)) (length os) ∙ e

-- The answers, from what the arrays hold.
module _ (dims : ℕ) (w : Window) where
  pub is_held : dims ≤ 4 → w.count ≤ 32 → held dims w ≡ true
  unfolding held
  is_held h k = rw (le-leb dims 4 h, le-leb w.count 32 k)

  pub has_centre_is : dims ≤ 4 → w.count ≤ 32 → has_centre dims w ≡ any is_zero (offsets_of dims w)
  unfolding has_centre
  has_centre_is h k = rw (is_held h k)

  many_dimensions : 4 < dims → held dims w ≡ false
  unfolding held
  many_dimensions h = rw (lt-leb dims 4 h)

  many_references : 32 < w.count → held dims w ≡ false
  unfolding held
  many_references h = rw (lt-leb w.count 32 h, and-false)

  pub no_repeats_dims : 4 < dims → false ≡ repeats_in dims w
  unfolding repeats_in
  no_repeats_dims h = rw (many_dimensions h)

  pub no_repeats_count : 32 < w.count → false ≡ repeats_in dims w
  unfolding repeats_in
  no_repeats_count h = rw (many_references h)

  pub no_centre_dims : 4 < dims → w.count ≡ centre_in dims w
  unfolding centre_in
  no_centre_dims h = rw (many_dimensions h)

  pub no_centre_count : 32 < w.count → w.count ≡ centre_in dims w
  unfolding centre_in
  no_centre_count h = rw (many_references h)

  pub repeats_held : dims ≤ 4 → w.count ≤ 32 → repeats (tabulate w.count (offset_at dims w.offsets)) ≡ repeats_in dims w
  unfolding repeats_in offsets_of offset_of
  repeats_held h k = rw (is_held h k)

  pub centre_held : dims ≤ 4 → w.count ≤ 32 → centre_of (tabulate w.count (offset_at dims w.offsets)) ≡ centre_in dims w
  unfolding centre_in offsets_of offset_of
  centre_held h k = rw (is_held h k)

  pub centre_below : ltb (centre_in dims w) w.count ≡ has_centre dims w
  unfolding centre_in has_centre offsets_of
  centre_below = go (held dims w)
    where
      go : (t : Bool) → ltb (cond t (centre_of (offsets_of dims w)) w.count) w.count ≡ t && any is_zero (offsets_of dims w)
      go true = ap (ltb (centre_of (offsets_of dims w))) (sym (length_tabulate w.count (offset_of dims w))) ∙ below_count (offsets_of dims w)
      go false = le-ltb w.count w.count (omega arith)
