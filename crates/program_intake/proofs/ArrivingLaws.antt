-- Characters through the first LF, as they arrive.
use Prim.Native.Nat.{ℕ, suc, ◌≤◌, ◌<◌}
use mathlib.Core.Bool.{Bool, true, false, cond}
use mathlib.Core.List.{List, [], ◌∷◌}
use mathlib.Core.Path.{◌≡◌, refl, sym, ap, ◌∙◌}
use native.Mathlib.Omega.{arith}
use lib.ListN.{length, drop}
use borrow.Author.Tests.{eq-eqb, ne_eqb}
use Rattle.model.specs.declared.Arriving.{Arriving}
use Rattle.model.specs.declared.Frame.{Frame}
use Rattle.model.specs.declared.Last.{Last}
use Rattle.model.specs.declared.Reading.{Reading}
use Rattle.std.specs.Prelude.{Ok}
use Rattle.model_sheet.specs.Lines.{line_feed, line_of}
use Rattle.model_sheet.specs.Frames.{with_character, is_digit, fed, feeds, shown, numbers_fed, numbers_feeds}
use Rattle.model_sheet.specs.Reading.{step_of}
use Rattle.model_sheet.specs.Arriving.{closed, stood_first, Arrived, arrives, numbers_arrive, arrive, through_feed}
use Rattle.sheet_laws.proofs.Cases.{by_eq}
use Rattle.program_intake.specs.Taken.{started, numbers_taken, beside}
use Rattle.program_intake.proofs.PieceLaws.{ends_behind, open_behind, ends_here, started_none, started_some}
use Rattle.std.specs.Prelude.{Option, None, Some}

-- In the middle of a line.
abbrev pub midway : Reading → Frame → Bool → Arriving
midway r f begun = record { verdict = Ok tt; reading = r; frame = f; begun = begun }

-- The numbers: an LF is no digit, and no character leaves them.
feed_none : (rows : List ℕ) (f : Frame) (c : ℕ) → c ≡ line_feed → numbers_fed rows f c ≡ rows
unfolding numbers_fed is_digit
feed_none rows f c e = rw e (go f.upper)
  where
    go : (upper : Option ℕ) → with_character rows f.len upper line_feed ≡ rows
    go None = refl
    go (Some high) = refl

same_either : (b : Bool) (xs ys : List ℕ) → xs ≡ ys → cond b xs ys ≡ ys
same_either true xs ys e = e
same_either false xs ys e = refl

numbers_feed : (rows : List ℕ) (r : Reading) (f : Frame) (begun : Bool) (c : ℕ) → c ≡ line_feed → numbers_arrive rows (midway r f begun) c ≡ rows
unfolding numbers_arrive
numbers_feed rows r f begun c e = same_either (stood_first r.last) _ _ (feed_none rows f c e)

-- Of a piece: on the first line its numbers, on a later one none.
module _ (last : Last) (rows : List ℕ) (f : Frame) (piece : List ℕ) where
  pub on_first : stood_first last ≡ true → numbers_feeds rows f piece ≡ numbers_taken last rows f piece
  unfolding numbers_taken
  on_first e = rw e

  pub on_later : stood_first last ≡ false → rows ≡ numbers_taken last rows f piece
  unfolding numbers_taken
  on_later e = rw e

numbers_none : (last : Last) (rows : List ℕ) (f : Frame) → rows ≡ numbers_taken last rows f []
unfolding numbers_taken numbers_feeds
numbers_none last rows f = sym (same_either (stood_first last) _ _ refl)

numbers_more : (r : Reading) (rows : List ℕ) (f : Frame) (begun : Bool) (c : ℕ) (cs : List ℕ)
    → numbers_taken r.last (numbers_arrive rows (midway r f begun) c) (fed f c) cs ≡ numbers_taken r.last rows f (c ∷ cs)
unfolding numbers_taken numbers_feeds numbers_arrive
numbers_more r rows f begun c cs = go (stood_first r.last)
  where
    go : (b : Bool)
        → cond b (numbers_feeds (cond b (numbers_fed rows f c) rows) (fed f c) cs) (cond b (numbers_fed rows f c) rows)
        ≡ cond b (numbers_feeds (numbers_fed rows f c) (fed f c) cs) rows
    go true = refl
    go false = refl

module _ (chained : Bool) (r : Reading) where
  at_feed : (rows : List ℕ) (f : Frame) (begun : Bool) (c : ℕ) → c ≡ line_feed
      → arrives chained rows (midway r f begun) c ≡ closed (step_of chained rows r (shown f))
  unfolding arrives
  at_feed rows f begun c e = rw e

  at_other : (rows : List ℕ) (f : Frame) (begun : Bool) (c : ℕ) → (c ≡ line_feed → ⊥) → arrives chained rows (midway r f begun) c ≡ midway r (fed f c) true
  unfolding arrives
  at_other rows f begun c n = rw (ne_eqb _ _ n)

  -- The line at its LF, with the numbers that it leaves.
  abbrev ended : (rows : List ℕ) → Frame → Arrived
  ended rows f = beside (closed (step_of chained rows r (shown f))) rows

  pub line_ends : (s rows : List ℕ) (f : Frame) (begun : Bool) → length (line_of s) < length s
      → arrive chained (beside (midway r f begun) rows) (through_feed s) ≡ ended (numbers_taken r.last rows f (line_of s)) (feeds f (line_of s))
  unfolding arrive through_feed line_of feeds
  line_ends [] rows f begun h = absurd (omega arith)
  line_ends (c ∷ cs) rows f begun h =
      by_eq c line_feed
      (λ e. rw (eq-eqb _ _ e)
      (ap (λ a. beside a (numbers_arrive rows (midway r f begun) c)) (at_feed rows f begun c e)
      ∙ ap (beside (closed (step_of chained rows r (shown f)))) (numbers_feed rows r f begun c e)
      ∙ ap (λ rows. ended rows f) (numbers_none r.last rows f)))
      (λ n. rw (ne_eqb _ _ n)
      (ap (λ a. arrive chained (beside a (numbers_arrive rows (midway r f begun) c)) (through_feed cs)) (at_other rows f begun c n)
      ∙ line_ends cs (numbers_arrive rows (midway r f begun) c) (fed f c) true (ends_behind c cs n h)
      ∙ ap (λ rows. ended rows (feeds (fed f c) (line_of cs))) (numbers_more r rows f begun c (line_of cs))))

  pub line_stays_open : (s rows : List ℕ) (f : Frame) (begun : Bool) → length s ≤ length (line_of s)
      → arrive chained (beside (midway r f begun) rows) (through_feed s)
      ≡ beside (midway r (feeds f (line_of s)) (started begun (length (line_of s)))) (numbers_taken r.last rows f (line_of s))
  unfolding arrive through_feed line_of feeds
  line_stays_open [] rows f begun h =
      ap (λ b. beside (midway r f b) rows) (started_none begun)
      ∙ ap (beside (midway r f (started begun 0))) (numbers_none r.last rows f)
  line_stays_open (c ∷ cs) rows f begun h =
      by_eq c line_feed
      (λ e. absurd (ends_here c cs e h))
      (λ n. rw (ne_eqb _ _ n)
      (ap (λ a. arrive chained (beside a (numbers_arrive rows (midway r f begun) c)) (through_feed cs)) (at_other rows f begun c n)
      ∙ line_stays_open cs (numbers_arrive rows (midway r f begun) c) (fed f c) true (open_behind c cs n h)
      ∙ ap (λ b. beside (midway r (feeds (fed f c) (line_of cs)) b) (numbers_taken r.last (numbers_arrive rows (midway r f begun) c) (fed f c) (line_of cs)))
      (started_some begun (length (line_of cs)))
      ∙ ap (beside (midway r (feeds (fed f c) (line_of cs)) (started begun (suc (length (line_of cs)))))) (numbers_more r rows f begun c (line_of cs))))

-- The rest arrives after the characters through the first LF.
pub arrive_on : (chained : Bool) (s : List ℕ) (a : Arrived) → arrive chained (arrive chained a (through_feed s)) (drop (length (through_feed s)) s) ≡ arrive chained a s
unfolding arrive through_feed
arrive_on chained [] a = refl
arrive_on chained (c ∷ cs) a =
    by_eq c line_feed
    (λ e. rw (eq-eqb _ _ e))
    (λ n. rw (ne_eqb _ _ n) (arrive_on chained cs (record { sheet = arrives chained a.rows a.sheet c; rows = numbers_arrive a.rows a.sheet c })))
