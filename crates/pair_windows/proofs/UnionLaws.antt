-- Laws of two windows whose references follow each other, and of their offsets gathered.
use Prim.Native.Nat.{ℕ, ◌+◌, ◌-◌, ◌*◌, ◌/◌, ◌%◌, ◌≤◌, ◌<◌}
use mathlib.Core.Bool.{Bool, true, false, cond, not, ◌&&◌, ◌||◌, and-eq-true_iff}
use mathlib.Core.List.{List, [], ◌∷◌, ◌++◌, append-nil, append_assoc}
use mathlib.Core.Path.{◌≡◌, refl, sym, ◌∙◌, ap, ap₂}
use native.Mathlib.Decide.{dec_lt}
use native.Mathlib.Omega.{arith}
use lib.Dec.{leb}
use lib.IntN.{ℤ, pos}
use lib.ListN.{length, get_or, take, drop, replicate, length-append, length-take, length-drop, get_or-append, get_or-eq_default}
use lib.Seq.{paste, get_or-append_seam, get_or-take, get_or-drop}
use borrow.Rule.Slice.PartMut.{put_mid}
use Rattle.std.proofs.lemmas.List.{get_or-append_right}
use Rattle.std.proofs.lemmas.Slice.{put_mid-paste}
use borrow.Author.Tests.{leb-true, lt-ltb, le-ltb, le-leb, lt-leb}
use Rattle.model.specs.Lists.{tabulate, any}
use Rattle.model.specs.Vectors.{equal}
use Rattle.model.specs.Values.{offset_of, offsets_of}
use Rattle.model.specs.Pairs.{own_of, member, distinct, union, not_union}
use Rattle.model.specs.declared.Side.{Side}
use Rattle.model.specs.declared.Window.{Window}
use Rattle.grid_laws.proofs.ListLaws.{length_tabulate, get_d_tabulate, tabulate_same}
use Rattle.geometry.specs.Parts.{part, offset_at, Filled}
use Rattle.geometry.proofs.PartLaws.{part_none, part_more, part_all, part_same, part_split}
use Rattle.geometry.proofs.FillLaws.{filled_all}
use Rattle.windows.specs.Offsets.{offset_in, front}
use Rattle.windows.proofs.OffsetLaws.{front_offset}
use Rattle.pair_windows.specs.Unions.{both_held, union_in, not_union_in, joined, offsets_in, entry_of, entries_of, Appended, gathered_of}

-- ---- what the arrays hold

pub record Held (dims n m : ℕ) : Type 0 where
  pub dimensions : dims ≤ 4
  pub first : n ≤ 32
  pub second : m ≤ 32

module _ (dims n m : ℕ) where
  is_held : dims ≤ 4 → n ≤ 32 → m ≤ 32 → both_held dims n m ≡ true
  unfolding both_held
  is_held d a b = rw (le-leb dims 4 d, le-leb n 32 a, le-leb m 32 b)

  pub held_so : both_held dims n m ≡ true → Held dims n m
  unfolding both_held
  held_so e =
      let p = (and-eq-true_iff (leb dims 4) (leb n 32 && leb m 32)).0 e in
      let q = (and-eq-true_iff (leb n 32) (leb m 32)).0 p.1 in
      record { dimensions = leb-true dims 4 p.0; first = leb-true n 32 q.0; second = leb-true m 32 q.1 }

-- ---- one behind the other

module _ {A : Type 0} (n : ℕ) (f g : ℕ → A) where
  pub joined_first : (i : ℕ) → i < n → joined n f g i ≡ f i
  joined_first i h = rw (lt-ltb i n h)

  pub joined_second : (i : ℕ) → n ≤ i → joined n f g i ≡ g (i - n)
  joined_second i h = rw (le-ltb i n h)

  behind : (m from : ℕ) → n ≤ from → part (joined n f g) from (n + m) ≡ part g (from - n) m
  unfolding part
  behind m from h =
      tabulate_same (n + m - from) _ (λ i. g (from - n + i)) (λ i l. joined_second (from + i) (omega arith) ∙ ap g (omega arith))
      ∙ ap (λ (k : ℕ). tabulate k (λ i. g (from - n + i))) (omega arith)

  joined_part : (m from : ℕ) → part (joined n f g) from (n + m) ≡ part f from n ++ part g (from - n) m
  joined_part m from = go (dec_lt from n)
    where
      go : Dec (from < n) → part (joined n f g) from (n + m) ≡ part f from n ++ part g (from - n) m
      go (yes h) =
          part_split (joined n f g) from n (n + m) (omega arith) (omega arith)
          ∙ ap₂ ◌++◌ (part_same (joined n f g) f from n (λ i a b. joined_first i b)) (behind m n (omega arith) ∙ ap (λ (k : ℕ). part g k m) (omega arith))
      go (no h) = behind m from (omega arith) ∙ ap (λ (xs : List A). xs ++ part g (from - n) m) (sym (part_none f from n (omega arith)))

  joined_all : (m : ℕ) → part (joined n f g) 0 (n + m) ≡ tabulate n f ++ tabulate m g
  joined_all m = joined_part m 0 ∙ ap₂ ◌++◌ (part_all f n) (ap (λ (k : ℕ). part g k m) (omega arith) ∙ part_all g m)

-- The offset that is read of two windows.
module _ (dims n m : ℕ) (first second : List ℤ) (few : dims ≤ 4) (a : n ≤ 32) (b : m ≤ 32) where
  pub front_joined : (i : ℕ) (o : List ℤ) → i < n + m → o ≡ joined n (offset_in first) (offset_in second) i → front dims o ≡ offsets_in dims n first second i
  front_joined i o h e = go (dec_lt i n)
    where
      go : Dec (i < n) → front dims o ≡ offsets_in dims n first second i
      go (yes l) = front_offset first i dims o (e ∙ joined_first n (offset_in first) (offset_in second) i l) (omega arith) few ∙ sym (joined_first n (offset_at dims first) (offset_at dims second) i l)
      go (no l) =
          front_offset second (i - n) dims o (e ∙ joined_second n (offset_in first) (offset_in second) i (omega arith)) (omega arith) few
          ∙ sym (joined_second n (offset_at dims first) (offset_at dims second) i (omega arith))

-- ---- members

any_append : (p : List ℤ → Bool) (xs ys : List (List ℤ)) → any p (xs ++ ys) ≡ any p xs || any p ys
unfolding any
any_append p [] ys = refl
any_append p (x ∷ xs) ys = go (p x) (any_append p xs ys)
  where
    go : (b : Bool) → any p (xs ++ ys) ≡ any p xs || any p ys → b || any p (xs ++ ys) ≡ (b || any p xs) || any p ys
    go true e = refl
    go false e = e

-- A member of two windows is one of the first or of the second.
module _ (dims n m from : ℕ) (first second : List ℤ) (o : List ℤ) where
  pub either : member (part (offsets_in dims n first second) from (n + m)) o ≡ member (part (offset_at dims first) from n) o || member (part (offset_at dims second) (from - n) m) o
  unfolding member
  either = ap (any (equal o)) (joined_part n (offset_at dims first) (offset_at dims second) m from) ∙ any_append (equal o) (part (offset_at dims first) from n) (part (offset_at dims second) (from - n) m)

-- ---- an offset more

module _ (os : List (List ℤ)) (o : List ℤ) where
  abbrev more : List (List ℤ)
  more = os ++ (o ∷ [])

  abbrev k : ℕ
  k = length os

  before : (i : ℕ) → i < 4 * k → entry_of os i ≡ entry_of more i
  before i h = ap (λ (p : List ℤ). get_or p (i % 4) (pos 0)) (sym (get_or-append os (o ∷ []) [] (i / 4) (omega arith)))

  at : (d : ℕ) → d < 4 → get_or o d (pos 0) ≡ entry_of more (4 * k + d)
  at d h =
      ap₂ (λ (p : List ℤ) (j : ℕ). get_or p j (pos 0)) (sym (get_or-append_seam os o [] []) ∙ ap (λ (j : ℕ). get_or more j []) (omega arith)) (omega arith)

  past : (i : ℕ) → 4 * k ≤ i → entry_of os i ≡ pos 0
  past i h = ap (λ (p : List ℤ). get_or p (i % 4) (pos 0)) (get_or-eq_default os [] (omega arith))

  past_more : (i : ℕ) → 4 * k + length o ≤ i → entry_of more i ≡ pos 0
  past_more i h = go (dec_lt i (4 * k + 4))
    where
      go : Dec (i < 4 * k + 4) → entry_of more i ≡ pos 0
      go (yes l) =
          ap (λ (j : ℕ). entry_of more j) (omega arith) ∙ sym (at (i - 4 * k) (omega arith)) ∙ get_or-eq_default o (pos 0) (omega arith)
      go (no l) = ap (λ (p : List ℤ). get_or p (i % 4) (pos 0)) (get_or-eq_default more [] (omega (arith, length-append os (o ∷ []))))

  no_room : 32 ≤ k → entries_of os ≡ entries_of more
  no_room h = tabulate_same 128 (entry_of os) (entry_of more) (λ i l. before i (omega arith))

  entered_none : k < 32 → Filled 128 (pos 0) (entry_of more) (4 * k) (entries_of os)
  entered_none h = record {
    long = length_tabulate 128 (entry_of os);
    done = λ i l. get_d_tabulate 128 (entry_of os) i (pos 0) (omega arith) ∙ before i l;
    left = λ i l. go i l (dec_lt i 128);
  }
    where
      go : (i : ℕ) → 4 * k ≤ i → Dec (i < 128) → get_or (entries_of os) i (pos 0) ≡ pos 0
      go i l (yes b) = get_d_tabulate 128 (entry_of os) i (pos 0) b ∙ past i l
      go i l (no b) = get_or-eq_default (entries_of os) (pos 0) (omega (arith, length_tabulate 128 (entry_of os)))

  entered_all : (r : List ℤ) → Filled 128 (pos 0) (entry_of more) (4 * k + length o) r → r ≡ entries_of more
  entered_all r f = filled_all 128 (pos 0) (entry_of more) (entry_of more) (4 * k + length o) r (λ i l. refl) past_more f

-- A part written behind what is filled, which has f's entries there.
filled_part : {A : Type 0} (size : ℕ) (rest : A) (f : ℕ → A) (n m : ℕ) (xs ys : List A) → n + m ≤ size → length ys ≡ m → ((d : ℕ) → d < m → get_or ys d rest ≡ f (n + d))
    → Filled size rest f n xs → Filled size rest f (n + m) (paste xs n ys m)
filled_part size rest f n m xs ys h e g r = record {
  long = simp (length-append, length-take, length-drop) (omega (arith, r.long));
  done = λ i l. front_is i l ∙ go i l (dec_lt i n);
  left = λ i l.
      get_or-append_right (take n xs ++ take m ys) (drop (n + m) xs) (n + m) i rest long l ∙ get_or-drop (n + m) xs (i - (n + m)) rest
      ∙ r.left (n + m + (i - (n + m))) (omega arith);
}
  where
    long : length (take n xs ++ take m ys) ≡ n + m
    long = simp (length-append, length-take) (omega (arith, r.long))

    first_long : length (take n xs) ≡ n
    first_long = simp length-take (omega (arith, r.long))

    front_is : (i : ℕ) → i < n + m → get_or (paste xs n ys m) i rest ≡ get_or (take n xs ++ take m ys) i rest
    front_is i l = get_or-append (take n xs ++ take m ys) (drop (n + m) xs) rest i (omega (arith, long))

    go : (i : ℕ) → i < n + m → Dec (i < n) → get_or (take n xs ++ take m ys) i rest ≡ f i
    go i l (yes b) = get_or-append (take n xs) (take m ys) rest i (omega (arith, first_long)) ∙ get_or-take n xs i rest b ∙ r.done i b
    go i l (no b) =
        get_or-append_right (take n xs) (take m ys) n i rest first_long (omega arith) ∙ get_or-take m ys (i - n) rest (omega arith) ∙ g (i - n) (omega arith)
        ∙ ap f (omega arith)

module _ (to : List ℤ) (k : ℕ) where
  pub appended_none : (o : List ℤ) → 32 ≤ k → Appended to to k o
  appended_none o h os n e = e ∙ no_room os o (omega arith)

  -- The first entries of an offset p are written behind k others.
  pub appended_one : (dims n : ℕ) (p ys : List ℤ) → k < 32 → dims ≤ 4 → n ≡ dims → length ys ≡ dims → ys ≡ take dims p → Appended (put_mid (4 * k) n to ys) to k (front dims p)
  appended_one dims n p ys h few d long is os e q =
      entered_all os o (put_mid (4 * k) n to ys)
      (rw (length_tabulate dims (λ i. get_or p i (pos 0)), put_mid-paste (4 * k) n to ys ys dims refl (sym d) (sym long), e, q)
      (filled_part 128 (pos 0) (entry_of (os ++ (o ∷ []))) (4 * length os) dims (entries_of os) ys (omega arith) long there (entered_none os o (omega arith))))
    where
      o : List ℤ
      o = front dims p

      there : (i : ℕ) → i < dims → get_or ys i (pos 0) ≡ entry_of (os ++ (o ∷ [])) (4 * length os + i)
      there i l =
          ap (λ (zs : List ℤ). get_or zs i (pos 0)) is ∙ get_or-take dims p i (pos 0) l ∙ sym (get_d_tabulate dims (λ i. get_or p i (pos 0)) i (pos 0) l)
          ∙ at os o i (omega arith)

-- ---- the offsets gathered

-- So far `count` offsets stand in the array; `rest` is still to be gone through.
pub record Gathering (all rest : List (List ℤ)) (count : ℕ) (offsets : List ℤ) : Type 0 where
  pub taken : List (List ℤ)
  pub counted : count ≡ length taken
  pub entered : offsets ≡ entries_of taken
  pub is : taken ++ distinct rest ≡ all

pub gather_none : (all : List (List ℤ)) → Gathering (distinct all) all 0 (replicate 128 (pos 0))
unfolding tabulate
gather_none all = record { taken = []; counted = refl; entered = refl; is = refl }

module _ {all : List (List ℤ)} (f : ℕ → List ℤ) (i n count : ℕ) (offsets : List ℤ) (g : Gathering all (part f i n) count offsets) where
  module _ (h : i < n) where
    goes : (b : Bool) → member (part f (i + 1) n) (f i) ≡ b → distinct (part f i n) ≡ cond b (distinct (part f (i + 1) n)) (f i ∷ distinct (part f (i + 1) n))
    unfolding distinct
    goes b e = rw (part_more f i n h, e)

    pub gather_skip : member (part f (i + 1) n) (f i) ≡ true → Gathering all (part f (i + 1) n) count offsets
    gather_skip e = record {
      taken = g.taken;
      counted = g.counted;
      entered = g.entered;
      is = ap (λ (xs : List (List ℤ)). g.taken ++ xs) (sym (goes true e)) ∙ g.is;
    }

    pub gather_more : (r : List ℤ) → member (part f (i + 1) n) (f i) ≡ false → Appended r offsets count (f i) → Gathering all (part f (i + 1) n) (count + 1) r
    gather_more r e a = record {
      taken = g.taken ++ (f i ∷ []);
      counted = omega (arith, g.counted, length-append g.taken (f i ∷ []));
      entered = a g.taken g.counted g.entered;
      is = append_assoc g.taken (f i ∷ []) (distinct (part f (i + 1) n)) ∙ ap (λ (xs : List (List ℤ)). g.taken ++ xs) (sym (goes false e)) ∙ g.is;
    }

  pub gather_all : n ≤ i → record { count = count; offsets = offsets } ≡ gathered_of all
  unfolding distinct
  gather_all h =
      let is : g.taken ≡ all = sym (append-nil g.taken) ∙ ap (λ (xs : List (List ℤ)). g.taken ++ distinct xs) (sym (part_none f i n h)) ∙ g.is in
      ap₂ (λ (m : ℕ) (xs : List ℤ). let r : Window = record { count = m; offsets = xs } in r) g.counted g.entered ∙ ap gathered_of is

-- ---- the answers

module _ (dims : ℕ) (a b : Window) where
  abbrev both : ℕ → List ℤ
  both = offsets_in dims a.count a.offsets b.offsets

  offsets_are : part both 0 (a.count + b.count) ≡ offsets_of dims a ++ offsets_of dims b
  unfolding offsets_of offset_of
  offsets_are = joined_all a.count (offset_at dims a.offsets) (offset_at dims b.offsets) b.count

  pub union_not_held : both_held dims a.count b.count ≡ false → record { count = 0; offsets = replicate 128 (pos 0) } ≡ gathered_of (union_in dims a b)
  unfolding union_in tabulate
  union_not_held e = rw e

  pub union_held : both_held dims a.count b.count ≡ true → distinct (part both 0 (a.count + b.count)) ≡ union_in dims a b
  unfolding union_in union own_of
  union_held e = ap distinct offsets_are ∙ rw e

  module _ (c : Window) where
    pub not_union_count : 32 < c.count → false ≡ not_union_in dims c a b
    unfolding not_union_in
    not_union_count h = rw (lt-leb c.count 32 h)

    pub not_union_not_held : c.count ≤ 32 → both_held dims a.count b.count ≡ false → false ≡ not_union_in dims c a b
    unfolding not_union_in
    not_union_not_held h e = rw (le-leb c.count 32 h, e)

    module _ (h : c.count ≤ 32) (e : both_held dims a.count b.count ≡ true) where
      abbrev chain : ℕ → List ℤ
      chain = offset_at dims c.offsets

      abbrev lacking : Bool
      lacking = any (λ o. not (member (part chain 0 c.count) o)) (part both 0 (a.count + b.count))

      abbrev exceeding : Bool
      exceeding = any (λ o. not (member (part both 0 (a.count + b.count)) o)) (part chain 0 c.count)

      is : lacking || exceeding ≡ not_union_in dims c a b
      unfolding not_union_in not_union own_of offsets_of offset_of
      is = rw (part_all chain c.count, offsets_are, le-leb c.count 32 h, e)

      pub lacks_so : lacking ≡ true → true ≡ not_union_in dims c a b
      lacks_so l = ap (λ (x : Bool). x || exceeding) (sym l) ∙ is

      pub exceeds_so : (x : Bool) → lacking ≡ false → x ≡ exceeding → x ≡ not_union_in dims c a b
      exceeds_so x l r = r ∙ ap (λ (y : Bool). y || exceeding) (sym l) ∙ is

-- The answers where the arrays hold the windows of two sides.
module _ (dims : ℕ) (x y : Side) (few : dims ≤ 4) (h : x.window.count ≤ 32) (k : y.window.count ≤ 32) where
  pub union_is : union_in dims x.window y.window ≡ union (own_of dims x) (own_of dims y)
  unfolding union_in union own_of
  union_is = rw (is_held dims x.window.count y.window.count few h k)

  pub not_union_is : (c : Window) → c.count ≤ 32 → not_union_in dims c x.window y.window ≡ not_union (offsets_of dims c) (own_of dims x) (own_of dims y)
  unfolding not_union_in not_union own_of
  not_union_is c l = rw (le-leb c.count 32 l, is_held dims x.window.count y.window.count few h k)

-- What is answered of two windows, by what the arrays hold.
pub ruleset answers = (held_so, union_not_held, union_held, not_union_count, not_union_not_held, lacks_so, exceeds_so)
