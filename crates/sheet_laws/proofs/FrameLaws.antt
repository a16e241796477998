-- Characters that arrive one by one give a line's bytes: the first of them, and their number up to those that are counted.
use Prim.Native.Nat.{ℕ, suc, ◌+◌, ◌-◌, ◌*◌, ◌≤◌, ◌<◌}
use mathlib.Core.Bool.{Bool, true, false, cond, ◌&&◌}
use mathlib.Core.List.{List, [], ◌∷◌, ◌++◌, append_assoc, append-nil}
use mathlib.Core.Path.{◌≡◌, refl, sym, ap, ◌∙◌}
use native.Mathlib.Nat.{mod-eq_of_lt}
use native.Mathlib.Omega.{arith}
use lib.Dec.{ltb}
use lib.ListN.{length, take, set, replicate, length-append}
use lib.Seq.{take-set-lt, set_at, take-append-add, take-append-le}
use borrow.Author.Tests.{lt-ltb, le-ltb, le-leb, lt-leb}
use Rattle.model.specs.declared.Frame.{Frame}
use Rattle.model_sheet.specs.Frames.{with_digit, is_digit, value_of, whole, bytes_of, kept, counted, padded, Seen, seen_of, empty_frame, pushed, fed, feeds, shown}
use Rattle.sheet_laws.proofs.Cases.{by_bool, by_lt, never, and_true}
use Rattle.std.specs.Prelude.{Option, None, Some}

-- A number of bytes, counted no further than a frame does.
unfoldable pub capped : ℕ → ℕ
capped n = cond (ltb n counted) n counted

pub capped_few : (n : ℕ) → n < counted → capped n ≡ n
unfolding capped
capped_few n h = rw (lt-ltb _ _ h)

pub capped_many : (n : ℕ) → counted ≤ n → capped n ≡ counted
unfolding capped
capped_many n h = rw (le-ltb _ _ h)

-- The frame that has taken these bytes.
abbrev pub standing : List ℕ → Frame
standing bs = record { first = padded bs; len = capped (length bs); sound = true; upper = None }

pub none_taken_lem : standing [] ≡ empty_frame
unfolding padded capped
none_taken_lem = refl

zeros : ℕ → List ℕ
zeros n = replicate n 0

-- Places behind the first.
abbrev behind : ℕ
behind = kept - 1

-- One byte more: in its place, or past those that are kept.
pad_push : (bs : List ℕ) (b : ℕ) → length bs < kept → set (padded bs) (length bs) b ≡ padded (bs ++ (b ∷ []))
unfolding padded zeros
pad_push bs b h =
    let m : kept ≡ length bs + suc (behind - length bs) = omega arith in
    sym (take-set-lt kept (bs ++ zeros kept) (length bs) b h)
    ∙ ap (take kept) (set_at bs 0 (zeros behind) b (length bs) refl)
    ∙ ap (λ k. take k (bs ++ b ∷ zeros behind)) m
    ∙ take-append-add bs (b ∷ zeros behind) (suc (behind - length bs))
    ∙ ap (λ t. bs ++ b ∷ t) (sym (take-append-le (behind - length bs) (zeros behind) (0 ∷ []) (omega arith)))
    ∙ sym (take-append-add bs (b ∷ zeros kept) (suc (behind - length bs)))
    ∙ ap (λ k. take k (bs ++ b ∷ zeros kept)) (sym m)
    ∙ ap (take kept) (sym (append_assoc bs (b ∷ []) (zeros kept)))

pad_full : (bs : List ℕ) (b : ℕ) → kept ≤ length bs → padded bs ≡ padded (bs ++ (b ∷ []))
unfolding padded zeros
pad_full bs b h =
    take-append-le kept bs (zeros kept) h
    ∙ sym (take-append-le kept bs ((b ∷ []) ++ zeros kept) h)
    ∙ ap (take kept) (sym (append_assoc bs (b ∷ []) (zeros kept)))

push : (bs : List ℕ) (b : ℕ) (upper : Option ℕ) → pushed (record { first = padded bs; len = capped (length bs); sound = true; upper = upper }) b ≡ standing (bs ++ (b ∷ []))
unfolding pushed
push bs b upper =
    let more : length (bs ++ (b ∷ [])) ≡ length bs + 1 = length-append bs (b ∷ []) in
    by_lt (length bs) kept
    (λ s. let f : length bs < counted = omega arith in
    let t : length bs + 1 < counted = omega arith in
    rw (capped_few _ f, lt-ltb _ _ s, lt-ltb _ _ f, more, capped_few _ t, pad_push bs b s))
    (λ s. by_lt (length bs) counted
    (λ f. by_lt (length bs + 1) counted
    (λ t. rw (capped_few _ f, le-ltb _ _ s, lt-ltb _ _ f, more, capped_few _ t, pad_full bs b s))
    (λ t. let e : length bs + 1 ≡ counted = omega arith in rw (capped_few _ f, le-ltb _ _ s, lt-ltb _ _ f, more, capped_many _ t, pad_full bs b s, e)))
    (λ f. let t : counted ≤ length bs + 1 = omega arith in rw (capped_many _ f, more, capped_many _ t, pad_full bs b s)))

pub value_small : (d : ℕ) → is_digit d ≡ true → value_of d < 16
unfolding is_digit value_of
value_small d h =
    by_lt 57 d
    (λ l. by_lt 70 d
    (λ q. absurd (never (sym (simp (lt-leb _ _ l, lt-leb _ _ q) at h))))
    (λ q. rw (lt-leb _ _ l) (omega arith)))
    (λ l. rw (le-leb _ _ l) (omega arith))

-- Two digits are a byte.
pub two_digits : (bs : List ℕ) (a b : ℕ) → is_digit a ≡ true → is_digit b ≡ true → fed (fed (standing bs) a) b ≡ standing (bs ++ ((value_of a * 16 + value_of b) ∷ []))
unfolding fed
two_digits bs a b p q = rw (p, q, mod-eq_of_lt (value_small a p)) (push bs _ (Some (value_of a)))

-- A frame that is not sound stays so, and another character makes it so.
either : (t : Bool) (f g : Frame) → f.sound ≡ false → g.sound ≡ false → (cond t f g).sound ≡ false
either true f g p q = p
either false f g p q = q

stays_unsound : (f : Frame) (d : ℕ) → f.sound ≡ false → (fed f d).sound ≡ false
unfolding fed pushed
stays_unsound f d h = either (is_digit d) _ _ (digit f.upper) refl
  where
    digit : (upper : Option ℕ) → (with_digit f upper (value_of d)).sound ≡ false
    digit None = h
    digit (Some high) = h

unsound : (f : Frame) (ds : List ℕ) → f.sound ≡ false → (feeds f ds).sound ≡ false
unfolding feeds
unsound f [] h = h
unsound f (d ∷ ds) h = unsound (fed f d) ds (stays_unsound f d h)

other_character : (f : Frame) (d : ℕ) → is_digit d ≡ false → (fed f d).sound ≡ false
unfolding fed
other_character f d h = rw h

-- A whole line.
whole_frame : (bs ds : List ℕ) → whole ds ≡ true → feeds (standing bs) ds ≡ standing (bs ++ bytes_of ds)
unfolding whole bytes_of feeds
whole_frame bs [] h = ap standing (sym (append-nil bs))
whole_frame bs (a ∷ []) h = absurd (never (sym h))
whole_frame bs (a ∷ b ∷ ds) h =
    let p = and_true (is_digit a) _ h in
    let q = and_true (is_digit b) _ p.1 in
    let byte = value_of a * 16 + value_of b in
    ap (λ f. feeds f ds) (two_digits bs a b p.0 q.0)
    ∙ whole_frame (bs ++ (byte ∷ [])) ds q.1
    ∙ ap standing (append_assoc bs (byte ∷ []) (bytes_of ds))

-- A line that is not whole.
Unwhole : Frame → Type 0
Unwhole f = (shown f).sound ≡ false

unsound_unwhole : (f : Frame) → f.sound ≡ false → Unwhole f
unfolding Unwhole
unsound_unwhole f h = rw h

half_unwhole : (f : Frame) (d : ℕ) → is_digit d ≡ true → f.upper ≡ None → Unwhole (fed f d)
unfolding fed Unwhole
half_unwhole f d p h = rw (p, h) (and-false f.sound)
  where
    and-false : (a : Bool) → (a && false) ≡ false
    and-false true = refl
    and-false false = refl

broken_frame : (bs ds : List ℕ) → whole ds ≡ false → Unwhole (feeds (standing bs) ds)
unfolding whole feeds
broken_frame bs [] h = absurd (never h)
broken_frame bs (a ∷ []) h =
    by_bool (is_digit a)
    (λ p. half_unwhole (standing bs) a p refl)
    (λ p. unsound_unwhole (fed (standing bs) a) (other_character (standing bs) a p))
broken_frame bs (a ∷ b ∷ ds) h =
    let f = fed (standing bs) a in
    let g = fed f b in
    by_bool (is_digit a)
    (λ p. by_bool (is_digit b)
    (λ q. rw (two_digits bs a b p q) (broken_frame (bs ++ ((value_of a * 16 + value_of b) ∷ [])) ds (rw (p, q) at h)))
    (λ q. unsound_unwhole (feeds g ds) (unsound g ds (other_character f b q))))
    (λ p. unsound_unwhole (feeds g ds) (unsound g ds (stays_unsound f b (other_character (standing bs) a p))))

pub unwhole_frame : (ds : List ℕ) → whole ds ≡ false → (shown (feeds empty_frame ds)).sound ≡ false
unfolding Unwhole
unwhole_frame ds h = ap (λ f. (shown (feeds f ds)).sound) (sym none_taken_lem) ∙ broken_frame [] ds h

-- What hangs on a line only by its soundness and, where it is sound, by its first bytes and its capped length, does not see whether the line was decoded whole
-- or as its characters arrived.
pub seen_alike : {A : Type 0} (v : Seen → A) (ds : List ℕ)
    → ((s t : Seen) → s.sound ≡ false → t.sound ≡ false → v s ≡ v t)
    → ((n : ℕ) (x : List ℕ) → v (record { sound = true; len = capped n; first = x }) ≡ v (record { sound = true; len = n; first = x }))
    → v (shown (feeds empty_frame ds)) ≡ v (seen_of true ds)
seen_alike v ds unsounds caps =
    by_bool (whole ds)
    (λ h. ap (λ f. v (shown f)) (ap (λ f. feeds f ds) (sym none_taken_lem) ∙ whole_frame [] ds h)
    ∙ caps (length (bytes_of ds)) (padded (bytes_of ds))
    ∙ ap (λ t. v (record { sound = t; len = length (bytes_of ds); first = padded (bytes_of ds) })) (sym h))
    (λ h. unsounds (shown (feeds empty_frame ds)) (seen_of true ds) (unwhole_frame ds h) h)
