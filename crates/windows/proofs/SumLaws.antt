-- Laws of sums of entries, and of offsets entry by entry.
use Prim.Native.Nat.{ℕ, zero, suc, ◌+◌, ◌-◌, ◌≤◌, ◌<◌, min}
use mathlib.Core.Bool.{Bool, true, false, ◌&&◌, and-false}
use mathlib.Core.List.{List, ◌∷◌}
use mathlib.Core.Path.{◌≡◌, refl, sym, ◌∙◌, ap, ap₂}
use native.Mathlib.Decide.{ℕ_discrete, dec_lt}
use native.Mathlib.Omega.{arith}
use lib.IntN.{ℤ, pos, ◌+ℤ◌}
use lib.ListN.{length, get_or, set, replicate, get_or-eq_default}
use lib.Signed.{mag}
use borrow.Author.Tests.{lt-ltb, le-ltb}
use Rattle.model.specs.Lists.{tabulate, all}
use Rattle.model.specs.Vectors.{plus}
use Rattle.grid_laws.proofs.ListLaws.{length_tabulate, get_d_tabulate, each_all}
use Rattle.geometry.specs.Parts.{part, Filled}
use Rattle.geometry.proofs.PartLaws.{part_more, part_all}
use Rattle.geometry.proofs.FillLaws.{filled_none, filled_more, filled_all}
use Rattle.windows.specs.Offsets.{held16, kept16, added_of}

-- Offsets that are given entry by entry.
plus_by : (n : ℕ) (f g : ℕ → ℤ) → plus (tabulate n f) (tabulate n g) ≡ tabulate n (λ d. f d +ℤ g d)
unfolding plus tabulate
plus_by zero f g = refl
plus_by (suc n) f g = ap (◌∷◌ (f 0 +ℤ g 0)) (plus_by n (λ i. f (suc i)) (λ i. g (suc i)))

-- Two offsets of four entries.
module _ (dims : ℕ) (a b : List ℤ) where
  abbrev pub sum_at : ℕ → ℤ
  sum_at d = get_or a d (pos 0) +ℤ get_or b d (pos 0)

  -- The first d sums are made: 16 bits hold them and the rest if they hold all.
  pub record AddedTo (d : ℕ) (fits : Bool) (entries : List ℤ) : Type 0 where
    pub held : fits && all held16 (part sum_at d dims) ≡ all held16 (tabulate dims sum_at)
    pub filled : Filled 4 (pos 0) (λ i. kept16 (sum_at i)) d entries

  pub added_none : AddedTo 0 true (replicate 4 (pos 0))
  added_none = record { held = ap (all held16) (part_all sum_at dims); filled = filled_none 4 (pos 0) (λ i. kept16 (sum_at i)) }

  module _ (d : ℕ) (fits : Bool) (entries : List ℤ) (h : d < dims) (r : AddedTo d fits entries) where
    held_next : (t : Bool) → held16 (sum_at d) ≡ t → fits && (t && all held16 (part sum_at (d + 1) dims)) ≡ all held16 (tabulate dims sum_at)
    unfolding all
    held_next t e = ap (λ (u : Bool). fits && (u && all held16 (part sum_at (d + 1) dims))) (sym e) ∙ ap (λ (xs : List ℤ). fits && all held16 xs) (sym (part_more sum_at d dims h)) ∙ r.held

    -- 16 bits hold the next sum; or not, and its entry stays 0.
    pub added_more : (entry : ℤ) → d < 4 → mag (sum_at d) < 32768 → sum_at d ≡ entry → AddedTo (d + 1) fits (set entries d entry)
    unfolding kept16 held16
    added_more entry k f e =
        let t = lt-ltb (mag (sum_at d)) 32768 f in
        record { held = held_next true t; filled = filled_more 4 (pos 0) (λ i. kept16 (sum_at i)) d entries entry k (rw t (sym e)) r.filled }

    pub added_skip : (mag (sum_at d) < 32768 → ⊥) → AddedTo (d + 1) false entries
    unfolding kept16 held16
    added_skip f =
        let t = le-ltb (mag (sum_at d)) 32768 (omega arith) in
        record {
          held = sym (and-false fits) ∙ held_next false t;
          filled = record {
            long = r.filled.long;
            done = λ i k. at i k (ℕ_discrete i d);
            left = λ i k. r.filled.left i (omega arith);
          };
        }
      where
        at : (i : ℕ) → i < d + 1 → Dec (i ≡ d) → get_or entries i (pos 0) ≡ kept16 (sum_at i)
        at i k (yes e) = rw e (r.filled.left d (omega arith) ∙ rw (le-ltb (mag (sum_at d)) 32768 (omega arith)) refl)
        at i k (no n) = r.filled.done i (omega arith)

  module _ (p : length a ≡ 4) (q : length b ≡ 4) where
    past_zero : (d : ℕ) → 4 ≤ d → sum_at d ≡ pos 0
    past_zero d h = rw (get_or-eq_default a (pos 0) {n = d} (omega arith), get_or-eq_default b (pos 0) {n = d} (omega arith))

    -- The sums past the fourth are 0.
    held_past : (n : ℕ) → min dims 4 ≤ n → all held16 (part sum_at n dims) ≡ true
    unfolding part held16
    held_past n h =
        each_all held16 (part sum_at n dims) (pos 0)
        (λ k b. let c : k < dims - n = rw (length_tabulate (dims - n) (λ i. sum_at (n + i))) at b in
        ap held16 (get_d_tabulate (dims - n) (λ i. sum_at (n + i)) k (pos 0) c ∙ past_zero (n + k) (omega arith)))

    pub added_all : (n : ℕ) (fits : Bool) (entries : List ℤ) → n ≡ min dims 4 → AddedTo n fits entries → record { fits = fits; entries = entries } ≡ added_of dims a b
    unfolding added_of kept16 held16
    added_all n fits entries e r =
        rw (plus_by dims (λ d. get_or a d (pos 0)) (λ d. get_or b d (pos 0)))
        (ap₂ (λ (t : Bool) (xs : List ℤ). record { fits = t; entries = xs }) (all_held fits r.held) (filled_all 4 (pos 0) (λ d. kept16 (sum_at d)) sum_there n entries there past r.filled))
      where
        sum_there : ℕ → ℤ
        sum_there d = kept16 (get_or (tabulate dims sum_at) d (pos 0))

        all_held : (t : Bool) → t && all held16 (part sum_at n dims) ≡ all held16 (tabulate dims sum_at) → t ≡ all held16 (tabulate dims sum_at)
        all_held true f = sym (held_past n (omega arith)) ∙ f
        all_held false f = f

        there : (d : ℕ) → d < n → kept16 (sum_at d) ≡ sum_there d
        there d h = ap kept16 (sym (get_d_tabulate dims sum_at d (pos 0) (omega arith)))

        past : (d : ℕ) → n ≤ d → sum_there d ≡ pos 0
        past d h = go (dec_lt d dims)
          where
            go : Dec (d < dims) → sum_there d ≡ pos 0
            go (yes l) = ap kept16 (get_d_tabulate dims sum_at d (pos 0) l ∙ past_zero d (omega arith))
            go (no l) = ap kept16 (get_or-eq_default (tabulate dims sum_at) (pos 0) {n = d} (rw (length_tabulate dims sum_at) (omega arith)))
