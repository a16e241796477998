-- Digits and bytes, numbers and bytes, there and back.
use Prim.Native.Nat.{ℕ, zero, suc, ◌+◌, ◌-◌, ◌*◌, ◌/◌, ◌%◌, ◌≤◌, ◌<◌}
use mathlib.Core.Bool.{Bool, true, false, cond}
use mathlib.Core.List.{List, [], ◌∷◌, ◌++◌}
use mathlib.Core.Path.{◌≡◌, refl, sym, ap, ◌∙◌}
use native.Mathlib.Omega.{arith}
use lib.Dec.{leb, ltb}
use lib.ListN.{length, take, drop, get_or, replicate, length-append, get_or-append, get_or-eq_default}
use lib.Seq.{drop-cons, take-take, take-append-le, take-length, length-take-le, get_or-take, get_or-append-add}
use borrow.Author.Tests.{lt-ltb, le-ltb, le-leb, lt-leb, leb-true, ne_eqb}
use Rattle.model.specs.Lists.{tabulate}
use Rattle.model_sheet.specs.Lines.{line_feed, lines_of, into}
use Rattle.model_sheet.specs.Frames.{is_digit, value_of, digit_of, whole, bytes_of, digits_of, framed, kept, padded, Seen, seen_of}
use Rattle.model_sheet.specs.Numbers.{byte_at, half_at, word_at, half_bytes, word_bytes}
use Rattle.model_sheet.specs.Reading.{filters_in}
use Rattle.grid_laws.proofs.ListLaws.{length_tabulate, get_d_tabulate, tabulate_back}
use Rattle.sheet_laws.proofs.Cases.{by_lt, never, and_true}
use Rattle.sheet_laws.proofs.FrameLaws.{value_small}

-- What a digit is, and the digit of a value.
second : (t b : Bool) → cond t b false ≡ true → (t ≡ true) × (b ≡ true)
second true b h = (refl, h)
second false b h = absurd (never (sym h))

by_digit : {A : Type 0} (a : ℕ) → is_digit a ≡ true → (48 ≤ a → a ≤ 57 → A) → (65 ≤ a → a ≤ 70 → A) → A
unfolding is_digit
by_digit a h low high =
    by_lt 57 a
    (λ l. let z = second (leb a 70) _ (simp (lt-leb _ _ l) at h) in high (leb-true 65 a z.1) (leb-true a 70 z.0))
    (λ l. low (leb-true 48 a (simp (le-leb _ _ l) at h)) l)

digit_back : (a : ℕ) → is_digit a ≡ true → digit_of (value_of a) ≡ a
unfolding value_of digit_of
digit_back a h =
    by_digit a h
    (λ l u. let q : a - 48 < 10 = omega arith in let e : a - 48 + 48 ≡ a = omega arith in rw (le-leb _ _ u, lt-ltb _ _ q, e))
    (λ l u. let w : 57 < a = omega arith in
    let q : 10 ≤ a - 55 = omega arith in
    let e : a - 55 + 55 ≡ a = omega arith in
    rw (lt-leb _ _ w, le-ltb _ _ q, e))

value_back : (v : ℕ) → v < 16 → (is_digit (digit_of v) ≡ true) × (value_of (digit_of v) ≡ v)
unfolding digit_of is_digit value_of
value_back v h =
    by_lt v 10
    (λ l. let a : v + 48 ≤ 57 = omega arith in
    let b : 48 ≤ v + 48 = omega arith in
    let e : v + 48 - 48 ≡ v = omega arith in
    (rw (lt-ltb _ _ l, le-leb _ _ a, le-leb _ _ b), rw (lt-ltb _ _ l, le-leb _ _ a, e)))
    (λ l. let a : 57 < v + 55 = omega arith in
    let b : v + 55 ≤ 70 = omega arith in
    let d : 65 ≤ v + 55 = omega arith in
    let e : v + 55 - 55 ≡ v = omega arith in
    (rw (le-ltb _ _ l, lt-leb _ _ a, le-leb _ _ b, le-leb _ _ d), rw (le-ltb _ _ l, lt-leb _ _ a, e)))

pub digits_back : (ds : List ℕ) → whole ds ≡ true → digits_of (bytes_of ds) ≡ ds
unfolding whole bytes_of digits_of
digits_back [] h = refl
digits_back (a ∷ []) h = absurd (never (sym h))
digits_back (a ∷ b ∷ ds) h =
    let p = and_true (is_digit a) _ h in
    let q = and_true (is_digit b) _ p.1 in
    let s = value_small b q.0 in
    let e : (value_of a * 16 + value_of b) / 16 ≡ value_of a = omega arith in
    let f : (value_of a * 16 + value_of b) % 16 ≡ value_of b = omega arith in
    rw (e, f, digit_back a p.0, digit_back b q.0, digits_back ds q.1)

-- All entries are bytes.
pub data Small : List ℕ → Type 0 where
  none : Small []
  more : {b : ℕ} {bs : List ℕ} → b < 256 → Small bs → Small (b ∷ bs)

pub small_bytes : (ds : List ℕ) → whole ds ≡ true → Small (bytes_of ds)
unfolding whole bytes_of
small_bytes [] h = none
small_bytes (a ∷ []) h = none
small_bytes (a ∷ b ∷ ds) h =
    let p = and_true (is_digit a) _ h in
    let q = and_true (is_digit b) _ p.1 in
    let r = value_small a p.0 in
    let s = value_small b q.0 in
    more {b = value_of a * 16 + value_of b} (omega arith) (small_bytes ds q.1)

pub small_at : {bs : List ℕ} → Small bs → (i : ℕ) → byte_at bs i < 256
small_at none i = omega arith
small_at (more h s) zero = h
small_at (more h s) (suc i) = small_at s i

pub small_each : (xs : List ℕ) → ((i : ℕ) → i < length xs → byte_at xs i < 256) → Small xs
small_each [] h = none
small_each (x ∷ xs) h = more (h 0 (omega arith)) (small_each xs (λ i l. h (suc i) (omega arith)))

pub small_append : {xs ys : List ℕ} → Small xs → Small ys → Small (xs ++ ys)
small_append none t = t
small_append (more h s) t = more h (small_append s t)

pub small_take : (n : ℕ) {xs : List ℕ} → Small xs → Small (take n xs)
small_take zero s = none
small_take (suc n) none = none
small_take (suc n) (more h s) = more h (small_take n s)

small_zeros : (n : ℕ) → Small (replicate n 0)
small_zeros zero = none
small_zeros (suc n) = more {b = 0} (omega arith) (small_zeros n)

pub small_padded : {bs : List ℕ} → Small bs → Small (padded bs)
unfolding padded
small_padded s = small_take kept (small_append s (small_zeros kept))

pub small_half : (w : ℕ) → w < 65536 → Small (half_bytes w)
unfolding half_bytes
small_half w h = more {b = w / 256} (omega arith) (more {b = w % 256} (omega arith) none)

pub small_word : (w : ℕ) → w < 4294967296 → Small (word_bytes w)
unfolding word_bytes
small_word w h =
    more {b = w / 16777216} (omega arith)
    (more {b = w / 65536 % 256} (omega arith)
    (more {b = w / 256 % 256} (omega arith)
    (more {b = w % 256} (omega arith) none)))

-- A frame of bytes is one whole line, which shows them.
pub frame_back : {bs : List ℕ} → Small bs → (whole (digits_of bs) ≡ true) × (bytes_of (digits_of bs) ≡ bs)
unfolding whole bytes_of digits_of
frame_back none = (refl, refl)
frame_back (more {b} {bs} h s) =
    let p = value_back (b / 16) (omega arith) in
    let q = value_back (b % 16) (omega arith) in
    let e : b / 16 * 16 + b % 16 ≡ b = omega arith in
    let r = frame_back s in
    (rw (p.0, q.0) r.0, rw (p.1, q.1, e, r.1))

abbrev pub line_seen : List ℕ → Seen
line_seen bs = record { sound = true; len = length bs; first = padded bs }

pub seen_back : {bs : List ℕ} → Small bs → seen_of true (digits_of bs) ≡ line_seen bs
seen_back s = let f = frame_back s in rw (f.0, f.1)

no_feed : (v : ℕ) → digit_of v ≡ line_feed → ⊥
unfolding digit_of
no_feed v = by_lt v 10 (λ l. rw (lt-ltb _ _ l) (λ e. omega arith)) (λ l. rw (le-ltb _ _ l) (λ e. omega arith))

pub frame_line : (bs rest : List ℕ) → lines_of (framed bs ++ rest) ≡ record { chars = digits_of bs; ended = true } ∷ lines_of rest
unfolding lines_of framed digits_of
frame_line [] rest = refl
frame_line (b ∷ bs) rest =
    rw (ne_eqb _ _ (no_feed (b / 16)), ne_eqb _ _ (no_feed (b % 16)))
    (ap (λ ls. into (digit_of (b / 16)) (into (digit_of (b % 16)) ls)) (frame_line bs rest))

-- The first bytes of a line that is short.
pub length_padded : (bs : List ℕ) → length (padded bs) ≡ kept
unfolding padded
length_padded bs = length-take-le kept (bs ++ replicate kept 0) (omega (arith, length-append bs (replicate kept 0)))

pub take_padded : (n : ℕ) (bs : List ℕ) → n ≡ length bs → n ≤ kept → take n (padded bs) ≡ bs
unfolding padded
take_padded n bs e h = take-take n kept _ h ∙ take-append-le n bs _ (omega arith) ∙ ap (λ k. take k bs) e ∙ take-length bs

-- Past its bytes a line has 0.
pub blank_at : {A : Type 0} (n i : ℕ) (z : A) → get_or (replicate n z) i z ≡ z
blank_at zero i z = refl
blank_at (suc n) zero z = refl
blank_at (suc n) (suc i) z = blank_at n i z

pub past : (xs : List ℕ) (i : ℕ) → length xs ≤ i → byte_at (xs ++ replicate kept 0) i ≡ 0
past xs i h =
    let e : i ≡ length xs + (i - length xs) = omega arith in
    ap (λ j. byte_at (xs ++ replicate kept 0) j) e ∙ get_or-append-add xs (replicate kept 0) (i - length xs) 0 ∙ blank_at kept (i - length xs) 0

-- The filter numbers on a line are its bytes behind the first.
filter_at : (b : ℕ) (xs : List ℕ) (t : ℕ) → t < 32 → byte_at (padded (b ∷ xs)) (1 + t) ≡ get_or xs t 0
unfolding padded
filter_at b xs t h =
    let e : 1 + t ≡ suc t = omega arith in
    get_or-take kept ((b ∷ xs) ++ replicate kept 0) (1 + t) 0 (omega arith)
    ∙ ap (λ i. byte_at ((b ∷ xs) ++ replicate kept 0) i) e
    ∙ by_lt t (length xs)
    (λ l. get_or-append xs (replicate kept 0) 0 t l)
    (λ l. past xs t l ∙ sym (get_or-eq_default xs 0 {n = t} l))

pub filters_read : (n b : ℕ) (xs : List ℕ) → length xs ≡ n → filters_in n (padded (b ∷ xs)) ≡ tabulate 32 (λ t. get_or xs t 0)
unfolding filters_in
filters_read n b xs e =
    tabulate_back 0 (tabulate 32 (λ t. get_or xs t 0)) 32 (λ t. cond (ltb t n) (byte_at (padded (b ∷ xs)) (1 + t)) 0) (length_tabulate 32 (λ t. get_or xs t 0))
    (λ t h. by_lt t n
    (λ l. rw (lt-ltb t n l) (filter_at b xs t h))
    (λ l. rw (le-ltb t n l) (sym (get_or-eq_default xs 0 {n = t} (omega arith))))
    ∙ sym (get_d_tabulate 32 (λ t. get_or xs t 0) t 0 h))

-- Numbers of bytes, back to the bytes.
pub half_back : (x : List ℕ) (i : ℕ) → byte_at x (i + 1) < 256 → half_bytes (half_at x i) ≡ byte_at x i ∷ byte_at x (i + 1) ∷ []
unfolding half_bytes half_at
half_back x i h =
    let a = byte_at x i in
    let b = byte_at x (i + 1) in
    let e : (a * 256 + b) / 256 ≡ a = omega arith in
    let f : (a * 256 + b) % 256 ≡ b = omega arith in
    rw (e, f)

word_parts : (a b c d : ℕ) → b < 256 → c < 256 → d < 256 → word_bytes (a * 16777216 + b * 65536 + c * 256 + d) ≡ a ∷ b ∷ c ∷ d ∷ []
unfolding word_bytes
word_parts a b c d p q r =
    let w = a * 16777216 + b * 65536 + c * 256 + d in
    let e : w / 16777216 ≡ a = omega arith in
    let f : w / 65536 % 256 ≡ b = omega arith in
    let g : w / 256 % 256 ≡ c = omega arith in
    let h : w % 256 ≡ d = omega arith in
    rw (e, f, g, h)

pub word_back : (x : List ℕ) (i : ℕ) → Small x → word_bytes (word_at x i) ≡ byte_at x i ∷ byte_at x (i + 1) ∷ byte_at x (i + 2) ∷ byte_at x (i + 3) ∷ []
unfolding word_at
word_back x i s = word_parts _ _ _ _ (small_at s (i + 1)) (small_at s (i + 2)) (small_at s (i + 3))

pub half_small : (x : List ℕ) (i : ℕ) → Small x → half_at x i < 65536
unfolding half_at
half_small x i s = omega (arith, small_at s i, small_at s (i + 1))

pub word_small : (x : List ℕ) (i : ℕ) → Small x → word_at x i < 4294967296
unfolding word_at
word_small x i s = omega (arith, small_at s i, small_at s (i + 1), small_at s (i + 2), small_at s (i + 3))

-- A part of a list by its entries.
unfoldable pub upto : List ℕ → ℕ → ℕ → List ℕ
upto x i zero = []
upto x i (suc n) = byte_at x i ∷ upto x (suc i) n

pub by_entries : (n i : ℕ) (x : List ℕ) → i + n ≤ length x → take n (drop i x) ≡ upto x i n
unfolding upto
by_entries zero i x h = refl
by_entries (suc n) i x h = rw (drop-cons x i 0 (omega arith), by_entries n (suc i) x (omega arith))
