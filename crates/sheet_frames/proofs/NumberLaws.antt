-- The numbers behind a line's row count: as its characters arrive, one law for each way; and of a whole line, number by number.
use Prim.Native.Nat.{ℕ, zero, suc, ◌+◌, ◌-◌, ◌*◌, ◌/◌, ◌%◌, ◌≤◌, ◌<◌}
use mathlib.Core.Bool.{Bool, true, false, cond}
use mathlib.Core.List.{List, [], ◌∷◌}
use mathlib.Core.Path.{◌≡◌, refl, sym, ap, ◌∙◌}
use native.Mathlib.Numerals.{add-one}
use native.Mathlib.Omega.{arith}
use lib.Dec.{leb, ltb}
use lib.ListN.{length, drop, get_or, set, replicate, drop_of_length-le}
use lib.Seq.{drop-cons, set_out}
use borrow.Author.Tests.{le-leb, lt-leb, lt-ltb, le-ltb, eq-eqb, ne_eqb}
use Rattle.model.specs.declared.Frame.{Frame}
use Rattle.model.specs.Lists.{tabulate}
use Rattle.model_sheet.specs.Frames.{is_digit, value_of, bytes_of, counted, pushed, fed, row_numbers, with_half, numbers_fed, numbers_feeds}
use Rattle.model_sheet.specs.Numbers.{byte_at, half_at}
use Rattle.model_sheet.specs.Reading.{numbers_on}
use Rattle.grid_laws.proofs.ListLaws.{tabulate_same}
use Rattle.model_sheet.proofs.NumberLaws.{numbers_table}
use Rattle.sheet_laws.proofs.Cases.{by_bool, by_eq, by_lt}
use Rattle.sheet_laws.proofs.NumbersLaws.{set_table, zero_table}
use Rattle.sheet_frames.proofs.FeedLaws.{joined}
use Rattle.std.specs.Prelude.{Option, None, Some}

-- One byte more.
abbrev pub with_byte : List ℕ → (len b : ℕ) → List ℕ
with_byte numbers len b = cond (leb 3 len) (with_half numbers (len - 3) b) numbers

module _ (numbers : List ℕ) (len b : ℕ) where
  pub byte_ahead : len < 3 → numbers ≡ with_byte numbers len b
  byte_ahead h = rw (lt-leb _ _ h)

  module _ (behind : 3 ≤ len) where
    pub byte_past : length numbers ≤ (len - 3) / 2 → numbers ≡ with_byte numbers len b
    unfolding with_half
    byte_past h =
        rw (le-leb _ _ behind)
        (by_eq ((len - 3) % 2) 0
        (λ e. rw (eq-eqb _ _ e) (sym (set_out numbers ((len - 3) / 2) (b * 256) h)))
        (λ e. rw (ne_eqb _ _ e) (sym (set_out numbers ((len - 3) / 2) (get_or numbers ((len - 3) / 2) 0 / 256 * 256 + b) h))))

    pub byte_upper : (len - 3) % 2 ≡ 0 → set numbers ((len - 3) / 2) (b * 256) ≡ with_byte numbers len b
    unfolding with_half
    byte_upper e = rw (le-leb _ _ behind, eq-eqb _ _ e)

    pub byte_lower : ((len - 3) % 2 ≡ 0 → ⊥) → (v : ℕ) → v ≡ get_or numbers ((len - 3) / 2) 0 / 256 * 256 + b → set numbers ((len - 3) / 2) v ≡ with_byte numbers len b
    unfolding with_half
    byte_lower e v is = rw (le-leb _ _ behind, ne_eqb _ _ e, is)

-- What of a frame the numbers hang on.
abbrev made : List ℕ → (len : ℕ) → (sound : Bool) → (upper : Option ℕ) → Frame
made first len sound upper = record { first = first; len = len; sound = sound; upper = upper }

abbrev pub bare : (len : ℕ) → (upper : Option ℕ) → Frame
bare len upper = made [] len true upper

same_numbers : (ds numbers x y : List ℕ) (len : ℕ) (s t : Bool) (upper : Option ℕ) → numbers_feeds numbers (made x len s upper) ds ≡ numbers_feeds numbers (made y len t upper) ds
unfolding numbers_feeds numbers_fed fed pushed
same_numbers [] numbers x y len s t upper = refl
same_numbers (d ∷ ds) numbers x y len s t (Some high) =
    by_bool (is_digit d)
    (λ e. rw e (same_numbers ds _ _ _ _ s t None))
    (λ e. rw e (same_numbers ds _ x y len false false (Some high)))
same_numbers (d ∷ ds) numbers x y len s t None =
    by_bool (is_digit d)
    (λ e. rw e (same_numbers ds numbers x y len s t (Some (value_of d))))
    (λ e. rw e (same_numbers ds numbers x y len false false None))

pub bare_numbers : (numbers : List ℕ) (f : Frame) (ds : List ℕ) → numbers_feeds numbers (bare f.len f.upper) ds ≡ numbers_feeds numbers f ds
bare_numbers numbers f ds = same_numbers ds numbers [] f.first f.len true f.sound f.upper

-- One character more.
module _ (numbers : List ℕ) (c : ℕ) (cs : List ℕ) where
  other_more : is_digit c ≡ false → (len : ℕ) (upper : Option ℕ) → numbers_feeds numbers (bare len upper) cs ≡ numbers_feeds numbers (bare len upper) (c ∷ cs)
  unfolding numbers_feeds numbers_fed fed
  other_more e len (Some high) = rw e (same_numbers cs numbers [] [] len true false (Some high))
  other_more e len None = rw e (same_numbers cs numbers [] [] len true false None)

  upper_more : is_digit c ≡ true → (v : ℕ) → v ≡ value_of c → (len : ℕ) → numbers_feeds numbers (bare len (Some v)) cs ≡ numbers_feeds numbers (bare len None) (c ∷ cs)
  unfolding numbers_feeds numbers_fed fed
  upper_more e v value len = rw (e, value)

  byte_more : is_digit c ≡ true → (v : ℕ) → v ≡ value_of c → (len high b : ℕ) → b ≡ high % 16 * 16 + v % 16
      → (after : List ℕ) → after ≡ with_byte numbers len b → (next : ℕ) → next ≡ cond (ltb len counted) (len + 1) len
      → numbers_feeds after (bare next None) cs ≡ numbers_feeds numbers (bare len (Some high)) (c ∷ cs)
  unfolding numbers_feeds numbers_fed fed pushed
  byte_more e v value len high b join after is next step =
      rw (e, is, joined high c e v value b join, step) (same_numbers cs _ [] _ _ true true None)

module _ (numbers s : List ℕ) (i : ℕ) (more : i < length s) where
  abbrev c : ℕ
  c = get_or s i 0

  at_character : (f : Frame) → numbers_feeds numbers f (c ∷ drop (i + 1) s) ≡ numbers_feeds numbers f (drop i s)
  at_character f = ap (numbers_feeds numbers f) (rw add-one (sym (drop-cons s i 0 more)))

  pub past_other : is_digit c ≡ false → (len : ℕ) (upper : Option ℕ) → numbers_feeds numbers (bare len upper) (drop (i + 1) s) ≡ numbers_feeds numbers (bare len upper) (drop i s)
  past_other e len upper = other_more numbers c (drop (i + 1) s) e len upper ∙ at_character (bare len upper)

  module _ (digit : is_digit c ≡ true) (v : ℕ) (value : v ≡ value_of c) (len : ℕ) (upper : Option ℕ) where
    pub past_upper : upper ≡ None → numbers_feeds numbers (bare len (Some v)) (drop (i + 1) s) ≡ numbers_feeds numbers (bare len upper) (drop i s)
    past_upper e = rw e (upper_more numbers c (drop (i + 1) s) digit v value len ∙ at_character (bare len None))

    module _ (high : ℕ) (e : upper ≡ Some high) (b : ℕ) (join : b ≡ high % 16 * 16 + v % 16) (after : List ℕ) (is : after ≡ with_byte numbers len b) where
      pub past_counted : len < counted → numbers_feeds after (bare (len + 1) None) (drop (i + 1) s) ≡ numbers_feeds numbers (bare len upper) (drop i s)
      past_counted h =
          rw e (byte_more numbers c (drop (i + 1) s) digit v value len high b join after is (len + 1) (rw (lt-ltb _ _ h)) ∙ at_character (bare len (Some high)))

      pub past_uncounted : counted ≤ len → numbers_feeds after (bare len None) (drop (i + 1) s) ≡ numbers_feeds numbers (bare len upper) (drop i s)
      past_uncounted h =
          rw e (byte_more numbers c (drop (i + 1) s) digit v value len high b join after is len (rw (le-ltb _ _ h)) ∙ at_character (bare len (Some high)))

pub numbers_end : (numbers : List ℕ) (f : Frame) (s : List ℕ) (i : ℕ) → length s ≤ i → numbers ≡ numbers_feeds numbers f (drop i s)
unfolding numbers_feeds
numbers_end numbers f s i h = rw (drop_of_length-le s {i = i} h)

-- Byte i of a whole line.
pub byte_none : (ds : List ℕ) (i : ℕ) → length ds ≤ 2 * i + 1 → byte_at (bytes_of ds) i ≡ 0
unfolding bytes_of
byte_none [] i h = refl
byte_none (a ∷ []) i h = refl
byte_none (a ∷ b ∷ ds) zero h = absurd (omega arith)
byte_none (a ∷ b ∷ ds) (suc i) h = byte_none ds i (omega arith)

pub byte_some : (ds : List ℕ) (i : ℕ) → 2 * i + 1 < length ds → byte_at (bytes_of ds) i ≡ value_of (get_or ds (2 * i) 0) * 16 + value_of (get_or ds (2 * i + 1) 0)
unfolding bytes_of
byte_some [] i h = absurd (omega arith)
byte_some (a ∷ []) i h = absurd (omega arith)
byte_some (a ∷ b ∷ ds) zero h = refl
byte_some (a ∷ b ∷ ds) (suc i) h =
    let e : 2 * suc i ≡ suc (suc (2 * i)) = omega arith in
    let f : 2 * suc i + 1 ≡ suc (suc (2 * i + 1)) = omega arith in
    rw (f, e) (byte_some ds i (omega arith))

-- The first k numbers of a whole line, with 0 in place of the others.
unfoldable pub first_on : (k : ℕ) → List ℕ → List ℕ
first_on k x = tabulate row_numbers (λ j. cond (ltb j k) (half_at x (3 + 2 * j)) 0)

pub first_none : (x : List ℕ) → replicate row_numbers 0 ≡ first_on 0 x
unfolding first_on
first_none x = zero_table row_numbers _ (λ k h. rw (le-ltb k 0 (omega arith)))

pub first_more : (x : List ℕ) (k high low : ℕ) → high ≡ byte_at x (3 + 2 * k) → low ≡ byte_at x (3 + 2 * k + 1)
    → set (first_on k x) k (high * 256 + low) ≡ first_on (k + 1) x
unfolding first_on half_at
first_more x k high low h l =
    set_table row_numbers k (high * 256 + low) (λ j. cond (ltb j k) (half_at x (3 + 2 * j)) 0) (λ j. cond (ltb j (k + 1)) (half_at x (3 + 2 * j)) 0)
    (λ m. rw (lt-ltb k (k + 1) (omega arith), h, l))
    (λ j m n. ap (λ t. cond t (half_at x (3 + 2 * j)) 0) (before j n))
  where
    before : (j : ℕ) → (j ≡ k → ⊥) → ltb j (k + 1) ≡ ltb j k
    before j n =
        by_lt j k
        (λ l. let m : j < k + 1 = omega arith in rw (lt-ltb _ _ l, lt-ltb _ _ m))
        (λ l. let m : k + 1 ≤ j = omega arith in rw (le-ltb _ _ l, le-ltb _ _ m))

pub first_all : (x : List ℕ) (k : ℕ) → row_numbers ≤ k → first_on k x ≡ numbers_on x
unfolding first_on
first_all x k h = tabulate_same row_numbers _ _ (λ j m. let l : j < k = omega arith in rw (lt-ltb j k l)) ∙ sym (numbers_table x)

-- No byte stands from the upper half of number k on.
pub first_short : (ds : List ℕ) (k : ℕ) → length ds ≤ 2 * (3 + 2 * k) + 1 → first_on k (bytes_of ds) ≡ numbers_on (bytes_of ds)
unfolding first_on half_at
first_short ds k h =
    tabulate_same row_numbers _ (λ i. half_at (bytes_of ds) (3 + 2 * i))
    (λ j m. by_lt j k
    (λ l. rw (lt-ltb _ _ l))
    (λ l. rw (le-ltb _ _ l, byte_none ds (3 + 2 * j) (omega arith), byte_none ds (3 + 2 * j + 1) (omega arith))))
    ∙ sym (numbers_table (bytes_of ds))
