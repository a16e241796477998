-- Laws of the references of one window in another, and of their tables.
use Prim.Native.Nat.{ℕ, suc, ◌+◌, ◌≤◌, ◌<◌}
use mathlib.Core.Bool.{Bool, true, false, cond, ◌||◌}
use mathlib.Core.List.{List, [], ◌∷◌, ◌++◌, map, append-nil, append_assoc}
use mathlib.Core.Path.{◌≡◌, refl, sym, ◌∙◌, ap, ap₂}
use native.Mathlib.Omega.{arith}
use lib.Dec.{ltb, leb-suc-suc}
use lib.IntN.{ℤ}
use lib.ListN.{length, take, get_or, set, replicate, length-append, length-map, get_or-eq_default}
use borrow.Author.Tests.{lt-ltb, le-ltb}
use Rattle.std.specs.Prelude.{Some, None, unwrap_or}
use Rattle.model.specs.Lists.{tabulate, any}
use Rattle.model.specs.Vectors.{equal}
use Rattle.model.specs.Steps.{which_of}
use Rattle.model.specs.Values.{Trimmed, offset_of, offsets_of, filter_array}
use Rattle.model.specs.Pairs.{Own, member}
use Rattle.model.specs.declared.Window.{Window}
use Rattle.model_run.specs.PairRuns.{kept, held_by, in_chain_order}
use Rattle.grid_laws.proofs.ListLaws.{length_tabulate, get_d_tabulate, map_tabulate}
use Rattle.grid_laws.proofs.ChainLaws.{offsets_count}
use Rattle.kernel_terms.specs.declared.Terms.{Terms}
use Rattle.kernel_terms.specs.FilterTables.{table_of}
use Rattle.kernel_terms.proofs.TableLaws.{set_table, table_back}
use Rattle.geometry.specs.Parts.{part, offset_at, Filled}
use Rattle.geometry.proofs.PartLaws.{part_none, part_more, part_all}
use Rattle.geometry.proofs.FillLaws.{filled_all}
use Rattle.pair_windows.specs.Unions.{both_held}
use Rattle.pair_windows.proofs.UnionLaws.{held_so}
use Rattle.pair_tables.specs.Tables.{place_in, filters_of, terms_in, held_in, chain_order_in}

-- Which of the offsets from reference k on.
module _ (f : ℕ → List ℤ) (o : List ℤ) (k n : ℕ) where
  pub which_on : k < n → equal o (f k) ≡ false → k + 1 + which_of (part f (k + 1) n) o ≡ k + which_of (part f k n) o
  unfolding which_of
  which_on h e = rw (part_more f k n h, e) (omega arith)

  pub which_here : k < n → equal o (f k) ≡ true → k ≡ k + which_of (part f k n) o
  unfolding which_of
  which_here h e = rw (part_more f k n h, e) (omega arith)

  pub which_end : n ≤ k → k ≡ k + which_of (part f k n) o
  unfolding which_of
  which_end h = rw (part_none f k n h) (omega arith)

-- Its number is below the count exactly if the offset is one of them.
pub which_below : (os : List (List ℤ)) (o : List ℤ) → ltb (which_of os o) (length os) ≡ member os o
unfolding which_of member any
which_below [] o = refl
which_below (p ∷ ps) o = go (equal o p) (which_below ps o)
  where
    go : (t : Bool) → ltb (which_of ps o) (length ps) ≡ any (λ p. equal o p) ps → ltb (cond t 0 (suc (which_of ps o))) (suc (length ps)) ≡ t || any (λ p. equal o p) ps
    go true e = lt-ltb 0 (suc (length ps)) (omega arith)
    go false e = leb-suc-suc (suc (which_of ps o)) (length ps) ∙ e

module _ (f : ℕ → List ℤ) (n : ℕ) (o : List ℤ) (j : ℕ) (e : j ≡ which_of (tabulate n f) o) where
  which_one : j < n → member (tabulate n f) o ≡ true
  which_one h = sym (which_below (tabulate n f) o) ∙ lt-ltb (which_of (tabulate n f) o) (length (tabulate n f)) (omega (arith, length_tabulate n f))

  which_none : n ≤ j → member (tabulate n f) o ≡ false
  which_none h = sym (which_below (tabulate n f) o) ∙ le-ltb (which_of (tabulate n f) o) (length (tabulate n f)) (omega (arith, length_tabulate n f))

  pub place_here : j < n → Some j ≡ place_in (tabulate n f) o
  place_here h = rw (which_one h) (ap Some e)

  pub place_none : n ≤ j → None ≡ place_in (tabulate n f) o
  place_none h = rw (which_none h)

-- What a place says of the offset.
module _ (os : List (List ℤ)) (o : List ℤ) where
  pub place_member : (j : ℕ) → Some j ≡ place_in os o → member os o ≡ true
  place_member j e = go (member os o) e
    where
      go : (b : Bool) → Some j ≡ cond b (Some (which_of os o)) None → b ≡ true
      go true e = refl
      go false e = absurd (cc)

  pub place_is : (j : ℕ) → Some j ≡ place_in os o → j ≡ which_of os o
  place_is j e = go (member os o) e
    where
      go : (b : Bool) → Some j ≡ cond b (Some (which_of os o)) None → j ≡ which_of os o
      go true e = cc
      go false e = absurd (cc)

  pub no_place : None ≡ place_in os o → member os o ≡ false
  no_place e = go (member os o) e
    where
      go : (b : Bool) → None ≡ cond b (Some (which_of os o)) None → b ≡ false
      go true e = absurd (cc)
      go false e = refl

-- Where it is none of them, its number is theirs.
which_all : (os : List (List ℤ)) (o : List ℤ) → member os o ≡ false → length os ≡ which_of os o
unfolding which_of member any
which_all [] o e = refl
which_all (p ∷ ps) o e = go (equal o p) (which_all ps o) e
  where
    go : (t : Bool) → (any (λ p. equal o p) ps ≡ false → length ps ≡ which_of ps o) → t || any (λ p. equal o p) ps ≡ false → suc (length ps) ≡ cond t 0 (suc (which_of ps o))
    go true r e = absurd (cc)
    go false r e = ap (λ (k : ℕ). suc k) (r e)

pub place_or : (n : ℕ) (f : ℕ → List ℤ) (o : List ℤ) → unwrap_or (place_in (tabulate n f) o) n ≡ which_of (tabulate n f) o
place_or n f o = go (member (tabulate n f) o) refl
  where
    go : (b : Bool) → member (tabulate n f) o ≡ b → unwrap_or (cond b (Some (which_of (tabulate n f) o)) None) n ≡ which_of (tabulate n f) o
    go true e = refl
    go false e = sym (length_tabulate n f) ∙ which_all (tabulate n f) o e

-- The filters that hold n references.
pub held_all : (os : List (List ℤ)) (f : ℕ → List ℤ) (n : ℕ) (fs : List ℕ) → Filled 32 0 (λ k. which_of os (f k)) n fs → fs ≡ filter_array (filters_of os (tabulate n f))
held_all os f n fs r = filled_all 32 0 w (λ t. get_or (map (which_of os) (tabulate n f)) t 0) n fs (λ i h. sym (there i h)) past r
  where
    w : ℕ → ℕ
    w k = which_of os (f k)

    there : (i : ℕ) → i < n → get_or (map (which_of os) (tabulate n f)) i 0 ≡ which_of os (f i)
    there i h = ap (λ (xs : List ℕ). get_or xs i 0) (map_tabulate (which_of os) n f) ∙ get_d_tabulate n (λ k. which_of os (f k)) i 0 h

    past : (i : ℕ) → n ≤ i → get_or (map (which_of os) (tabulate n f)) i 0 ≡ 0
    past i h = get_or-eq_default (map (which_of os) (tabulate n f)) 0 (rw (length-map, length_tabulate) h)

-- The references that the filters hold: those of `rest` are still to be entered.
pub record Entered (all ps rest : List (List ℤ)) (count : ℕ) (filters : List ℕ) : Type 0 where
  pub front : List ℕ
  pub counted : count ≡ length front
  pub entered : filters ≡ filter_array front
  pub is : front ++ terms_in rest ps ≡ terms_in all ps

pub entered_none : (ps : List (List ℤ)) (f : ℕ → List ℤ) (n : ℕ) → Entered (tabulate n f) ps (part f 0 n) 0 (replicate 32 0)
unfolding tabulate
entered_none ps f n = record { front = []; counted = refl; entered = refl; is = ap (λ (os : List (List ℤ)). terms_in os ps) (part_all f n) }

module _ {all : List (List ℤ)} (ps : List (List ℤ)) (f : ℕ → List ℤ) (k n count : ℕ) (filters : List ℕ) (g : Entered all ps (part f k n) count filters) where
  module _ (h : k < n) where
    goes : (b : Bool) → member ps (f k) ≡ b → terms_in (part f k n) ps ≡ cond b (which_of ps (f k) ∷ terms_in (part f (k + 1) n) ps) (terms_in (part f (k + 1) n) ps)
    unfolding kept
    goes true e = rw (part_more f k n h, e)
    goes false e = rw (part_more f k n h, e)

    pub entered_skip : member ps (f k) ≡ false → Entered all ps (part f (k + 1) n) count filters
    entered_skip e = record {
      front = g.front;
      counted = g.counted;
      entered = g.entered;
      is = ap (λ (xs : List ℕ). g.front ++ xs) (sym (goes false e)) ∙ g.is;
    }

    pub entered_more : (j : ℕ) → j ≡ which_of ps (f k) → member ps (f k) ≡ true → count < 32 → Entered all ps (part f (k + 1) n) (count + 1) (set filters count j)
    entered_more j q e l = record {
      front = g.front ++ (j ∷ []);
      counted = omega (arith, g.counted, length-append g.front (j ∷ []));
      entered = ap₂ (λ (xs : List ℕ) (m : ℕ). set xs m j) g.entered g.counted ∙ set_table g.front j (omega (arith, g.counted));
      is =
          append_assoc g.front (j ∷ []) (terms_in (part f (k + 1) n) ps) ∙ ap (λ (i : ℕ). g.front ++ (i ∷ terms_in (part f (k + 1) n) ps)) q
          ∙ ap (λ (xs : List ℕ). g.front ++ xs) (sym (goes true e)) ∙ g.is;
    }

  pub entered_all : n ≤ k → record { filters = filters; count = count } ≡ table_of (terms_in all ps)
  unfolding kept table_of
  entered_all h =
      let is : g.front ≡ terms_in all ps = sym (append-nil g.front) ∙ ap (λ (xs : List (List ℤ)). g.front ++ terms_in xs ps) (sym (part_none f k n h)) ∙ g.is in
      ap₂ (λ (fs : List ℕ) (m : ℕ). let t : Terms = record { filters = fs; count = m } in t) g.entered g.counted ∙ ap table_of is

-- The answers, from what the arrays hold.
module _ (dims : ℕ) (c w : Window) where
  abbrev chain : List (List ℤ)
  chain = tabulate c.count (offset_at dims c.offsets)

  abbrev own : List (List ℤ)
  own = tabulate w.count (offset_at dims w.offsets)

  pub held_not : both_held dims c.count w.count ≡ false → replicate 32 0 ≡ held_in dims c w
  unfolding held_in tabulate
  held_not e = rw e

  pub held_is : both_held dims c.count w.count ≡ true → filter_array (filters_of chain own) ≡ held_in dims c w
  unfolding held_in offsets_of offset_of
  held_is e = rw e

  pub order_not : both_held dims c.count w.count ≡ false → record { filters = replicate 32 0; count = 0 } ≡ chain_order_in dims c w
  unfolding chain_order_in table_of tabulate
  order_not e = rw e

  pub order_is : both_held dims c.count w.count ≡ true → table_of (terms_in chain own) ≡ chain_order_in dims c w
  unfolding chain_order_in offsets_of offset_of
  order_is e = rw e

-- What is answered of a chain and a window, by what the arrays hold.
pub ruleset answers = (held_so, held_not, held_is, order_not, order_is)

-- The lists, back from their tables.
kept_few : (p : List ℤ → Bool) (os : List (List ℤ)) → length (kept p os) ≤ length os
unfolding kept
kept_few p [] = omega arith
kept_few p (o ∷ os) = go (p o) (kept_few p os)
  where
    go : (b : Bool) → length (kept p os) ≤ length os → length (cond b (o ∷ kept p os) (kept p os)) ≤ suc (length os)
    go true h = omega arith
    go false h = omega arith

module _ (dims : ℕ) (c w : Window) (h : both_held dims c.count w.count ≡ true) (t : Trimmed) (a : Own) (e : t.offsets ≡ offsets_of dims c) (d : a.offsets ≡ offsets_of dims w) where
  held_table : held_in dims c w ≡ filter_array (held_by t a)
  unfolding held_in held_by
  held_table = rw (h, e, d)

  order_table : chain_order_in dims c w ≡ table_of (in_chain_order t a)
  unfolding chain_order_in in_chain_order
  order_table = rw (h, e, d)

  held_count : length (held_by t a) ≡ w.count
  unfolding held_by
  held_count = rw (d, length-map) (offsets_count dims w)

  order_count : length (in_chain_order t a) ≤ c.count
  unfolding in_chain_order
  order_count = rw (e, length-map) (omega (arith, kept_few (member a.offsets) (offsets_of dims c), offsets_count dims c))

  pub held_back : take w.count (held_in dims c w) ≡ held_by t a
  held_back = rw (held_table, ← held_count) (table_back (held_by t a) (omega (arith, held_count, (held_so dims c.count w.count h).second)))

  pub order_back : take (chain_order_in dims c w).count (chain_order_in dims c w).filters ≡ in_chain_order t a
  unfolding table_of
  order_back = rw order_table (table_back (in_chain_order t a) (omega (arith, order_count, (held_so dims c.count w.count h).first)))

  pub order_few : (chain_order_in dims c w).count ≤ 32
  unfolding table_of
  order_few = rw order_table (omega (arith, order_count, (held_so dims c.count w.count h).first))

pub held_long : (dims : ℕ) (c w : Window) → length (held_in dims c w) ≡ 32
unfolding held_in
held_long dims c w = length_tabulate 32 _

pub order_long : (dims : ℕ) (c w : Window) → length (chain_order_in dims c w).filters ≡ 32
unfolding chain_order_in table_of
order_long dims c w = length_tabulate 32 _
