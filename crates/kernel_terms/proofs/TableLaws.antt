-- Filters entered into a table one after the other, the centre left out.
use Prim.Native.Nat.{ℕ, zero, suc, ◌+◌, ◌<◌, ◌≤◌, min}
use mathlib.Core.Bool.{Bool, true, false, cond}
use mathlib.Core.List.{List, [], ◌∷◌, ◌++◌, append-nil}
use mathlib.Core.Path.{◌≡◌, refl, sym, ap, ap₂, ◌∙◌}
use native.Mathlib.Decide.{ℕ_discrete, dec_lt}
use native.Mathlib.Numerals.{add-one}
use native.Mathlib.Omega.{arith}
use lib.Dec.{eqb}
use lib.ListN.{length, get_or, take, set, replicate, length-append, length-set, get_or-append, get_or-eq_default}
use lib.Seq.{ext_get_or, get_or-set_same, get_or-set_other, get_or-append_seam, get_or-take, length-take-le}
use borrow.Author.Tests.{eqb-true, eqb-false, eq-eqb, ne_eqb}
use Rattle.std.specs.Prelude.{Option, Some, None}
use Rattle.std.specs.Option.{option_eq}
use Rattle.model.specs.Lists.{tabulate, up_to, without}
use Rattle.model.specs.Values.{order_of}
use Rattle.model_run.specs.Kernels.{terms}
use Rattle.model.specs.declared.Kernel.{Kernel}
use Rattle.model.specs.declared.Kernel.TheVariants as kernel
use Rattle.model.specs.declared.Order.{Order}
use Rattle.grid_laws.proofs.ListLaws.{length_tabulate, get_d_tabulate}
use Rattle.kernel_terms.specs.declared.Terms.{Terms}
use Rattle.kernel_terms.specs.FilterTables.{table_of, term_of, filters_for, all_but}

-- One number more.
tabulate_snoc : (n : ℕ) (f : ℕ → ℕ) → tabulate (suc n) f ≡ tabulate n f ++ (f n ∷ [])
unfolding tabulate
tabulate_snoc zero f = refl
tabulate_snoc (suc n) f = ap (λ (l : List ℕ). f 0 ∷ l) (tabulate_snoc n (λ i. f (suc i)))

without_append : (c : ℕ) (xs ys : List ℕ) → without c (xs ++ ys) ≡ without c xs ++ without c ys
unfolding without
without_append c [] ys = refl
without_append c (x ∷ xs) ys = go (eqb x c) refl (without_append c xs ys)
  where
    go : (b : Bool) → eqb x c ≡ b → without c (xs ++ ys) ≡ without c xs ++ without c ys → without c ((x ∷ xs) ++ ys) ≡ without c (x ∷ xs) ++ without c ys
    go true t r = rw (t, r)
    go false t r = rw (t, r)

module _ (c : ℕ) (f : ℕ → ℕ) (k : ℕ) where
  more : without c (tabulate (suc k) f) ≡ without c (tabulate k f) ++ without c (f k ∷ [])
  more = ap (without c) (tabulate_snoc k f) ∙ without_append c (tabulate k f) (f k ∷ [])

  with_other : (f k ≡ c → ⊥) → without c (tabulate (suc k) f) ≡ without c (tabulate k f) ++ (f k ∷ [])
  unfolding without
  with_other n = more ∙ rw (ne_eqb (f k) c n)

  with_centre : f k ≡ c → without c (tabulate (suc k) f) ≡ without c (tabulate k f)
  unfolding without
  with_centre e = more ∙ rw (eq-eqb (f k) c e, append-nil)

  few_more : length (without c (tabulate k f)) ≤ k → length (without c (tabulate (suc k) f)) ≤ suc k
  few_more l = go (ℕ_discrete (f k) c)
    where
      go : Dec (f k ≡ c) → length (without c (tabulate (suc k) f)) ≤ suc k
      go (yes e) = omega (arith, ap length (with_centre e))
      go (no n) = omega (arith, ap length (with_other n), length-append (without c (tabulate k f)) (f k ∷ []))

-- No more than there are filters.
few : (c : ℕ) (f : ℕ → ℕ) (k : ℕ) → length (without c (tabulate k f)) ≤ k
unfolding tabulate without
few c f zero = omega arith
few c f (suc k) = few_more c f k (few c f k)

-- The same where a filter need not be left out.
module _ (f : ℕ → ℕ) (k : ℕ) where
  but_one : (c : Option ℕ) → c ≡ Some (f k) → all_but c (tabulate (suc k) f) ≡ all_but c (tabulate k f)
  unfolding all_but
  but_one None e = absurd (cc)
  but_one (Some c) e = with_centre c f k (cc)

  but_other : (c : Option ℕ) → (c ≡ Some (f k) → ⊥) → all_but c (tabulate (suc k) f) ≡ all_but c (tabulate k f) ++ (f k ∷ [])
  unfolding all_but
  but_other None n = tabulate_snoc k f
  but_other (Some c) n = with_other c f k (λ e. n (ap Some (sym e)))

  but_few : (c : Option ℕ) → length (all_but c (tabulate k f)) ≤ k
  unfolding all_but
  but_few None = omega (arith, length_tabulate k f)
  but_few (Some c) = few c f k

-- A centre that is none of them.
pub absent : (c : ℕ) (f : ℕ → ℕ) (k : ℕ) → ((i : ℕ) → i < k → f i < c) → without c (tabulate k f) ≡ tabulate k f
unfolding tabulate without
absent c f zero h = refl
absent c f (suc k) h =
    with_other c f k (λ (e : f k ≡ c). omega (arith, h k (omega arith))) ∙ ap (λ (l : List ℕ). l ++ (f k ∷ [])) (absent c f k (λ i b. h i (omega arith))) ∙ sym (tabulate_snoc k f)

-- The table with one entry more.
module _ (ks : List ℕ) (v : ℕ) (h : length ks < 32) where
  abbrev old : List ℕ
  old = tabulate 32 (λ i. get_or ks i 0)

  old_length : length old ≡ 32
  old_length = length_tabulate 32 (λ i. get_or ks i 0)

  entry : (i : ℕ) → i < 32 → get_or (set old (length ks) v) i 0 ≡ get_or (ks ++ (v ∷ [])) i 0
  entry i l = go (ℕ_discrete i (length ks)) (dec_lt i (length ks))
    where
      go : Dec (i ≡ length ks) → Dec (i < length ks) → get_or (set old (length ks) v) i 0 ≡ get_or (ks ++ (v ∷ [])) i 0
      go (yes e) d = rw e (get_or-set_same old (length ks) v 0 (omega (arith, old_length)) ∙ sym (get_or-append_seam ks v [] 0))
      go (no n) (yes b) = get_or-set_other old (length ks) i v 0 n ∙ get_d_tabulate 32 (λ i. get_or ks i 0) i 0 l ∙ sym (get_or-append ks (v ∷ []) 0 i b)
      go (no n) (no b) =
          get_or-set_other old (length ks) i v 0 n ∙ get_d_tabulate 32 (λ i. get_or ks i 0) i 0 l
          ∙ get_or-eq_default ks 0 (omega arith) ∙ sym (get_or-eq_default (ks ++ (v ∷ [])) 0 (omega (arith, length-append ks (v ∷ []))))

  pub set_table : set old (length ks) v ≡ tabulate 32 (λ i. get_or (ks ++ (v ∷ [])) i 0)
  set_table =
      ext_get_or 0 (set old (length ks) v) (tabulate 32 (λ i. get_or (ks ++ (v ∷ [])) i 0)) (length-set old (length ks) v ∙ old_length ∙ sym (length_tabulate 32 _))
      (λ i l. let b : i < 32 = omega (arith, length-set old (length ks) v, old_length) in
      entry i b ∙ sym (get_d_tabulate 32 (λ j. get_or (ks ++ (v ∷ [])) j 0) i 0 b))

-- What the test says of a filter.
pub is_one : (c : Option ℕ) (k : ℕ) (b : Bool) → b ≡ option_eq eqb c (Some k) → b ≡ true → c ≡ Some k
is_one None k b e t = absurd (cc)
is_one (Some c) k b e t = ap Some (eqb-true c k (sym e ∙ t))

pub is_other : (c : Option ℕ) (k : ℕ) (b : Bool) → b ≡ option_eq eqb c (Some k) → b ≡ false → c ≡ Some k → ⊥
is_other None k b e t d = cc
is_other (Some c) k b e t d = eqb-false c k (sym e ∙ t) (cc)

-- The first k filters, the centre left out, are entered.
module _ (c : Option ℕ) (f : ℕ → ℕ) where
  pub record Listed (k : ℕ) (filters : List ℕ) (count : ℕ) : Type 0 where
    pub entered : filters ≡ tabulate 32 (λ i. get_or (all_but c (tabulate k f)) i 0)
    pub counted : count ≡ length (all_but c (tabulate k f))

  none : all_but c (tabulate 0 f) ≡ []
  unfolding tabulate without all_but
  none = go c
    where
      go : (c : Option ℕ) → all_but c (tabulate 0 f) ≡ []
      go None = refl
      go (Some c) = refl

  pub listed_none : Listed 0 (replicate 32 0) 0
  unfolding tabulate
  listed_none = record { entered = rw none; counted = rw none }

  module _ (k : ℕ) (filters : List ℕ) (count : ℕ) (l : Listed k filters count) where
    pub listed_room : k < 32 → count < 32
    listed_room h = omega (arith, l.counted, but_few f k c)

    pub listed_centre : c ≡ Some (f k) → Listed (k + 1) filters count
    listed_centre e = record { entered = rw (add-one, but_one f k c e) l.entered; counted = rw (add-one, but_one f k c e) l.counted }

    pub listed_other : (c ≡ Some (f k) → ⊥) → k < 32 → Listed (k + 1) (set filters count (f k)) (count + 1)
    listed_other n h =
        let r : length (all_but c (tabulate k f)) < 32 = omega (arith, but_few f k c) in
        record {
          entered = rw (l.entered, l.counted, add-one, but_other f k c n) (set_table (all_but c (tabulate k f)) (f k) r);
          counted = rw (add-one k, but_other f k c n, length-append, l.counted);
        }

    pub listed_all : (n : ℕ) → k ≡ n → record { filters = filters; count = count } ≡ table_of (all_but c (tabulate n f))
    unfolding table_of
    listed_all n e = rw (← e) (ap₂ (λ (fs : List ℕ) (m : ℕ). let t : Terms = record { filters = fs; count = m } in t) l.entered l.counted)

-- A list of at most 32, back from its table.
pub table_back : (ks : List ℕ) → length ks ≤ 32 → take (length ks) (tabulate 32 (λ i. get_or ks i 0)) ≡ ks
table_back ks h =
    let l : length (take (length ks) (tabulate 32 (λ i. get_or ks i 0))) ≡ length ks = length-take-le _ _ (omega (arith, length_tabulate 32 (λ i. get_or ks i 0))) in
    ext_get_or 0 _ ks l
    (λ i b. let d : i < length ks = omega (arith, l) in
    get_or-take (length ks) (tabulate 32 (λ j. get_or ks j 0)) i 0 d ∙ get_d_tabulate 32 (λ j. get_or ks j 0) i 0 (omega arith))

terms_few : (k : Kernel) (c : ℕ) (f : ℕ → ℕ) (n : ℕ) → length (terms k c (tabulate n f)) ≤ n
unfolding terms
terms_few kernel.Raw c f n = omega arith
terms_few kernel.Difference c f n = few c f n
terms_few (kernel.Scaled x) c f n = omega (arith, length_tabulate n f)
terms_few (kernel.Blend g) c f n = few c f n

-- The terms of n filters, from their table.
module _ (k : Kernel) (c n : ℕ) (o : Order) (h : n ≤ 32) (t : Terms) (e : t ≡ table_of (terms k c (filters_for (min n 32) o))) where
  same : t ≡ table_of (terms k c (filters_for n o))
  same = let m : min n 32 ≡ n = omega arith in rw m at e

  few_terms : length (terms k c (filters_for n o)) ≤ n
  unfolding filters_for
  few_terms = terms_few k c (term_of o.stood o.filters) n

  pub table_fits : t.count ≤ length t.filters
  unfolding table_of
  table_fits = omega (arith, ap (λ (x : Terms). x.count) same, few_terms, ap (λ (x : Terms). length x.filters) same ∙ length_tabulate 32 _)

  pub table_terms : take t.count t.filters ≡ terms k c (filters_for n o)
  unfolding table_of
  table_terms = ap (λ (x : Terms). take x.count x.filters) same ∙ table_back (terms k c (filters_for n o)) (omega (arith, few_terms))

-- The filters of a chain.
pub filters_are : (n : ℕ) (o : Order) → filters_for n o ≡ cond o.stood (order_of n o) (up_to n)
unfolding filters_for order_of up_to
filters_are n o = go o.stood
  where
    go : (b : Bool) → tabulate n (term_of b o.filters) ≡ cond b (cond b (tabulate n (λ t. get_or o.filters t 0)) []) (tabulate n (λ k. k))
    go true = refl
    go false = refl
