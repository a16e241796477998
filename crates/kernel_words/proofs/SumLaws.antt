-- Sums, one term after the other.
use Prim.Native.Nat.{ℕ, zero, suc, ◌+◌, ◌<◌, ◌≤◌}
use mathlib.Core.Path.{◌≡◌, refl, sym, ap, ◌∙◌}
use mathlib.Core.List.{List, [], ◌∷◌, map}
use native.Mathlib.Nat.{le_of_suc-le-suc}
use native.Mathlib.Numerals.{add-one}
use native.Mathlib.Omega.{arith}
use lib.Ieee.{Float, add, binary32}
use lib.ListN.{length, drop, get_or, drop_of_length-le, length-map, get_or-eq_default}
use lib.Seq.{drop-cons}
use Rattle.model_run.specs.Kernels.{float, sum_from, sum_of, words_at}

none : (ws : List ℕ) → length ws ≡ 0 → ws ≡ []
none [] e = refl
none (w ∷ ws) e = absurd (omega arith)

-- The words of filters: as many, and each its filter's.
pub words_count : (ks vs : List ℕ) → length (words_at ks vs) ≡ length ks
unfolding words_at
words_count ks vs = length-map ks (λ k. get_or vs k 0)

pub word_there : (ks vs : List ℕ) (i : ℕ) → i < length ks → get_or (words_at ks vs) i 0 ≡ get_or vs (get_or ks i 0) 0
unfolding words_at
word_there [] vs i h = absurd (omega arith)
word_there (k ∷ ks) vs zero h = refl
word_there (k ∷ ks) vs (suc i) h = word_there ks vs i (le_of_suc-le-suc h)

pub word_past : (ks vs : List ℕ) (i : ℕ) → length ks ≤ i → get_or (words_at ks vs) i 0 ≡ 0
word_past ks vs i h = get_or-eq_default (words_at ks vs) 0 (omega (arith, words_count ks vs))

-- The terms before number i are added, and what remains gives what the whole does.
module _ (t : ℕ → Float) (ks vs : List ℕ) where
  abbrev pub Adding : (sum : Float) (i : ℕ) → Type 0
  Adding sum i = sum_from sum (map t (drop i (words_at ks vs))) ≡ sum_of (map t (words_at ks vs))

  pub add_none : length ks ≡ 0 → float 0 ≡ sum_of (map t (words_at ks vs))
  unfolding sum_of
  add_none e = rw (none (words_at ks vs) (words_count ks vs ∙ e))

  pub add_first : (length ks ≡ 0 → ⊥) → Adding (t (get_or (words_at ks vs) 0 0)) 1
  unfolding sum_of
  add_first n = ap (λ (l : List ℕ). sum_of (map t l)) (sym (drop-cons (words_at ks vs) 0 0 (omega (arith, words_count ks vs))))

  pub add_next : (sum : Float) (i : ℕ) → Adding sum i → i < length ks → Adding (add binary32 sum (t (get_or (words_at ks vs) i 0))) (i + 1)
  unfolding sum_from
  add_next sum i s h = rw add-one (rw (drop-cons (words_at ks vs) i 0 (omega (arith, words_count ks vs))) at s)

  -- The first term, and those after it.
  module _ (k : ℕ) (rest : List ℕ) (split : ks ≡ k ∷ rest) where
    pub add_split : Adding (t (get_or vs k 0)) 1
    unfolding sum_of words_at
    add_split = rw split

    pub add_rest : (sum : Float) (i : ℕ) → Adding sum (i + 1) → i < length rest → Adding (add binary32 sum (t (get_or vs (get_or rest i 0) 0))) (i + 1 + 1)
    unfolding words_at
    add_rest sum i s h =
        let e : get_or (words_at ks vs) (i + 1) 0 ≡ get_or vs (get_or rest i 0) 0 = rw (split, add-one) (word_there rest vs i h) in
        rw (← e) (add_next sum (i + 1) s (omega (arith, ap length split)))

  pub add_end : (sum : Float) (i : ℕ) → Adding sum i → length ks ≤ i → sum ≡ sum_of (map t (words_at ks vs))
  unfolding sum_from
  add_end sum i s h = rw (drop_of_length-le (words_at ks vs) {i = i} (omega (arith, words_count ks vs))) at s
