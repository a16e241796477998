-- Reading a sheet as its characters arrive is reading it line by line.
use Prim.Native.Nat.{ℕ}
use mathlib.Core.Bool.{Bool, true, false, cond, ◌&&◌}
use mathlib.Core.List.{List, [], ◌∷◌, ◌++◌, append-nil}
use mathlib.Core.Path.{◌≡◌, refl, sym, ap, ◌∙◌}
use lib.ListN.{replicate}
use borrow.Author.Tests.{eq-eqb, ne_eqb}
use Rattle.model.specs.declared.Arriving.{Arriving}
use Rattle.model.specs.declared.Frame.{Frame}
use Rattle.model.specs.declared.LineStep.{LineStep}
use Rattle.model.specs.declared.Reading.{Reading}
use Rattle.model.specs.declared.Refusal.{Refusal}
use Rattle.model.specs.declared.Refusal.TheVariants as refusal
use Rattle.std.specs.Prelude.{Ok, Err}
use Rattle.model.specs.Answers.{Verdict, by_verdict}
use Rattle.model_sheet.specs.Lines.{Line, line_feed, lines_of, into}
use Rattle.model_sheet.specs.Frames.{with_character, is_digit, whole, bytes_of, Seen, seen_of, empty_frame, fed, feeds, shown, row_numbers, numbers_fed, numbers_feeds}
use Rattle.model_sheet.specs.Reading.{numbers_on, taken, with_grid, with_rows, with_offset, with_name, with_box, with_capacity, with_order, with_kernel, step_of, start, read_lines, first_numbers, numbers_in}
use Rattle.model_sheet.specs.Arriving.{closed, arrives, stood_first, numbers_arrive, Arrived, arrive, finished}
use Rattle.sheet_laws.proofs.Cases.{by_bool, by_eq, never}
use Rattle.sheet_laws.proofs.AcceptedLines.{Admitted, admitted, refused_accepted, taken_grid, taken_rows, taken_offset, taken_name, taken_box, taken_capacity, taken_order, taken_kernel}
use Rattle.sheet_laws.proofs.AcceptedLines.Admitted.{grid, skewed_grid, offset, box, capacity, order, kernel, name}
use Rattle.sheet_laws.proofs.FixedMemory.{Bounded, start_bounded, unsound_verdict, fixed_memory, no_line_feed, keeps_bounded}
use Rattle.sheet_laws.proofs.NumbersLaws.{numbers_whole, numbers_pieces, numbers_step}
use Rattle.sheet_laws.proofs.ReadingLaws.{line_stops, line_goes}
use Rattle.sheet_trips.specs.Arriving.{AsItArrives, InPieces}
use Rattle.std.specs.Prelude.{Option, None, Some}

-- One character more.
abbrev pub more : Bool → Arrived → ℕ → Arrived
more chained a c = record { sheet = arrives chained a.rows a.sheet c; rows = numbers_arrive a.rows a.sheet c }

pub in_pieces : InPieces
unfolding arrive
in_pieces chained a [] ys = refl
in_pieces chained a (x ∷ xs) ys = in_pieces chained (more chained a x) xs ys

-- After a refusal all stays as it is.
by_refused : {A : Type 0} (v : Verdict) (a : A) (f : Refusal → A) (x : Refusal) → v ≡ Err x → by_verdict v a f ≡ f x
by_refused v a f x e = rw e

sheet_unmoved : (chained : Bool) (rows : List ℕ) (a : Arriving) (x : Refusal) (b : ℕ) → a.verdict ≡ Err x → arrives chained rows a b ≡ a
unfolding arrives
sheet_unmoved chained rows a x b e = by_refused a.verdict _ (λ y. a) x e

numbers_unmoved : (rows : List ℕ) (a : Arriving) (x : Refusal) (b : ℕ) → a.verdict ≡ Err x → numbers_arrive rows a b ≡ rows
unfolding numbers_arrive
numbers_unmoved rows a x b e = by_refused a.verdict _ (λ y. rows) x e

unmoved : (chained : Bool) (a : Arrived) (x : Refusal) (b : ℕ) → a.sheet.verdict ≡ Err x → more chained a b ≡ a
unmoved chained a x b e = λ i. record { sheet = sheet_unmoved chained a.rows a.sheet x b e i; rows = numbers_unmoved a.rows a.sheet x b e i }

pub stays : (chained : Bool) (a : Arrived) (x : Refusal) (bs : List ℕ) → a.sheet.verdict ≡ Err x → arrive chained a bs ≡ a
unfolding arrive
stays chained a x [] e = refl
stays chained a x (b ∷ bs) e = ap (λ t. arrive chained t bs) (unmoved chained a x b e) ∙ stays chained a x bs e

-- Characters in front of the first line.
unfoldable pub infront : List ℕ → List Line → List Line
infront [] ls = ls
infront (b ∷ p) ls = into b (infront p ls)

pub one_more_lem : (p : List ℕ) (b : ℕ) (ls : List Line) → infront (p ++ (b ∷ [])) ls ≡ infront p (into b ls)
unfolding infront
one_more_lem [] b ls = refl
one_more_lem (x ∷ p) b ls = ap (into x) (one_more_lem p b ls)

pub whole_line : (p cs : List ℕ) (e : Bool) (ls : List Line) → infront p (record { chars = cs; ended = e } ∷ ls) ≡ record { chars = p ++ cs; ended = e } ∷ ls
unfolding infront
whole_line [] cs e ls = refl
whole_line (b ∷ p) cs e ls = ap (into b) (whole_line p cs e ls)

pub last_line_lem : (b : ℕ) (p : List ℕ) → infront (b ∷ p) [] ≡ record { chars = b ∷ p; ended = false } ∷ []
unfolding infront
last_line_lem b [] = refl
last_line_lem b (x ∷ p) = ap (into b) (last_line_lem x p)

pub feeds_more : (f : Frame) (p : List ℕ) (b : ℕ) → feeds f (p ++ (b ∷ [])) ≡ fed (feeds f p) b
unfolding feeds
feeds_more f [] b = refl
feeds_more f (x ∷ p) b = feeds_more (fed f x) p b

unfoldable pub some : List ℕ → Bool
some [] = false
some (b ∷ p) = true

pub some_more : (p : List ℕ) (b : ℕ) → some (p ++ (b ∷ [])) ≡ true
unfolding some
some_more [] b = refl
some_more (x ∷ p) b = refl

-- In the middle of a line, of which the characters p have arrived.
abbrev pub midway : Reading → List ℕ → Arriving
midway r p = record { verdict = Ok tt; reading = r; frame = feeds empty_frame p; begun = some p }

-- With the numbers that are held there: on the first line those of p; behind it `all`, those of that line.
abbrev pub held : (all : List ℕ) → Reading → List ℕ → List ℕ
held all r p = cond (stood_first r.last) (numbers_feeds (replicate row_numbers 0) empty_frame p) all

abbrev pub standing : (all : List ℕ) → Reading → List ℕ → Arrived
standing all r p = record { sheet = midway r p; rows = held all r p }

-- A character that is no LF.
pub arrives_other : (chained : Bool) (rows : List ℕ) (r : Reading) (p : List ℕ) (b : ℕ) → (b ≡ line_feed → ⊥) → arrives chained rows (midway r p) b ≡ midway r (p ++ (b ∷ []))
unfolding arrives
arrives_other chained rows r p b n = rw (ne_eqb _ _ n, feeds_more empty_frame p b, some_more p b)

numbers_other : (all : List ℕ) (r : Reading) (p : List ℕ) (b : ℕ) → numbers_arrive (held all r p) (midway r p) b ≡ held all r (p ++ (b ∷ []))
unfolding numbers_arrive numbers_feeds
numbers_other all r p b =
    by_bool (stood_first r.last)
    (λ e. rw e (sym (numbers_pieces (replicate row_numbers 0) empty_frame p (b ∷ []))))
    (λ e. rw e)

pub more_other : (chained : Bool) (all : List ℕ) (r : Reading) (p : List ℕ) (b : ℕ) → (b ≡ line_feed → ⊥) → more chained (standing all r p) b ≡ standing all r (p ++ (b ∷ []))
more_other chained all r p b n = λ i. record { sheet = arrives_other chained (held all r p) r p b n i; rows = numbers_other all r p b i }

-- The LF, where the numbers on the first line are `all`.
abbrev pub Own : (all : List ℕ) → Reading → List ℕ → Type 0
Own all r p = stood_first r.last ≡ true → all ≡ numbers_on (bytes_of p)

pub arrives_feed : (chained : Bool) (rows : List ℕ) (r : Reading) (p : List ℕ) (b : ℕ) → b ≡ line_feed
    → arrives chained rows (midway r p) b ≡ closed (step_of chained rows r (shown (feeds empty_frame p)))
unfolding arrives
arrives_feed chained rows r p b e = rw e

numbers_feed : (rows : List ℕ) (r : Reading) (p : List ℕ) (b : ℕ) → b ≡ line_feed → numbers_arrive rows (midway r p) b ≡ rows
unfolding numbers_arrive numbers_fed is_digit
numbers_feed rows r p b e = rw e (either (stood_first r.last) (feeds empty_frame p).upper)
  where
    either : (first : Bool) (upper : Option ℕ) → cond first (with_character rows (feeds empty_frame p).len upper line_feed) rows ≡ rows
    either true None = refl
    either true (Some high) = refl
    either false upper = refl

step_own : (chained : Bool) (all : List ℕ) (r : Reading) (p : List ℕ) → Bounded r → Own all r p
    → step_of chained (held all r p) r (shown (feeds empty_frame p)) ≡ step_of chained all r (seen_of true p)
step_own chained all r p few own =
    by_bool (stood_first r.last)
    (λ e. rw e (numbers_step chained r p few ∙ ap (λ rows. step_of chained rows r (seen_of true p)) (sym (own e))))
    (λ e. rw e (fixed_memory chained all r p few))

pub more_feed : (chained : Bool) (all : List ℕ) (r : Reading) (p : List ℕ) (b : ℕ) → b ≡ line_feed → Bounded r → Own all r p
    → more chained (standing all r p) b ≡ record { sheet = closed (step_of chained all r (seen_of true p)); rows = held all r p }
more_feed chained all r p b e few own =
    let s = arrives_feed chained (held all r p) r p b e ∙ ap closed (step_own chained all r p few own) in
    λ i. record { sheet = s i; rows = numbers_feed (held all r p) r p b e i }

-- Behind a line that is accepted the first line was read, and the numbers are its own.
pub behind_first : (chained : Bool) (all : List ℕ) (r : Reading) (l : Seen) → (step_of chained all r l).verdict ≡ Ok tt
    → stood_first (step_of chained all r l).reading.last ≡ false
unfolding step_of stood_first with_grid with_rows with_offset with_name with_box with_capacity with_order with_kernel
behind_first chained all r l h = rw h (by (admitted chained all r l h).1)
  where
    by : Admitted chained all r l → stood_first (taken r l.first).last ≡ false
    by (grid e last some few len sizes) = rw (taken_grid _ _ e)
    by (skewed_grid e last some few len cells) = rw (taken_rows _ _ e)
    by (offset e last len count) = rw (taken_offset _ _ e)
    by (box e last len) = rw (taken_box _ _ e)
    by (capacity e last chain given len) = rw (taken_capacity _ _ e)
    by (order e last chain given len) = rw (taken_order _ _ e)
    by (kernel e last given form) = rw (taken_kernel _ _ e)
    by (name e last request len ok) = rw (taken_name _ _ e)

held_own : (chained : Bool) (all : List ℕ) (r : Reading) (p : List ℕ) → Own all r p → (step_of chained all r (seen_of true p)).verdict ≡ Ok tt → held all r p ≡ all
unfolding step_of
held_own chained all r p own h =
    by_bool (stood_first r.last)
    (λ e. rw e (by_bool (whole p)
    (λ w. numbers_whole p w ∙ sym (own e))
    (λ w. absurd (refused_accepted (sym (unsound_verdict chained all r (seen_of true p) w) ∙ h)))))
    (λ e. rw e)

pub more_accepted : (chained : Bool) (all : List ℕ) (r : Reading) (p : List ℕ) (b : ℕ) → b ≡ line_feed → Bounded r → Own all r p
    → (step_of chained all r (seen_of true p)).verdict ≡ Ok tt
    → more chained (standing all r p) b ≡ standing all (step_of chained all r (seen_of true p)).reading []
unfolding feeds some
more_accepted chained all r p b e few own h =
    let t = (step_of chained all r (seen_of true p)).reading in
    more_feed chained all r p b e few own
    ∙ (λ i. record {
      sheet = record { verdict = h i; reading = t; frame = empty_frame; begun = false };
      rows = (held_own chained all r p own h ∙ sym (ap (λ (first : Bool). cond first (numbers_feeds (replicate row_numbers 0) empty_frame []) all) (behind_first chained all r (seen_of true p) h))) i;
    })

-- At the end of the characters.
refused : (s : LineStep) (x : Refusal) → s.verdict ≡ Err x → finished (closed s) ≡ s
unfolding finished
refused s x e = rw e

-- The numbers on the first of these lines, where no line was read yet.
abbrev pub Begins : (all : List ℕ) → Reading → List Line → Type 0
Begins all r ls = stood_first r.last ≡ true → all ≡ first_numbers ls

pub behind_begins : (chained : Bool) (all : List ℕ) (r : Reading) (l : Seen) (ls : List Line) → (step_of chained all r l).verdict ≡ Ok tt
    → Begins all (step_of chained all r l).reading ls
behind_begins chained all r l ls h = λ e. absurd (never (sym e ∙ behind_first chained all r l h))

record Ends (chained : Bool) (all : List ℕ) (a : Arrived) (bs : List ℕ) (s : LineStep) : Type 0 where
  read : finished (arrive chained a bs).sheet ≡ s
  rows : s.verdict ≡ Ok tt → (arrive chained a bs).rows ≡ all

-- One character more, and the rest behind it.
ends_on : (chained : Bool) (all : List ℕ) (a c : Arrived) (b : ℕ) (bs : List ℕ) (s t : LineStep) → more chained a b ≡ c → s ≡ t → Ends chained all c bs s → Ends chained all a (b ∷ bs) t
unfolding arrive
ends_on chained all a c b bs s t p q e = record {
  read = ap (λ (x : Arrived). finished (arrive chained x bs).sheet) p ∙ e.read ∙ q;
  rows = λ h. ap (λ (x : Arrived). (arrive chained x bs).rows) p ∙ e.rows (ap (λ (x : LineStep). x.verdict) q ∙ h);
}

at_feed : (chained : Bool) (all : List ℕ) (r : Reading) (p : List ℕ) (b : ℕ) (bs : List ℕ) → b ≡ line_feed → Bounded r → Own all r p
    → ((t : Reading) → Bounded t → Begins all t (lines_of bs) → Ends chained all (standing all t []) bs (read_lines chained all t (lines_of bs)))
    → Ends chained all (standing all r p) (b ∷ bs) (read_lines chained all r (record { chars = p; ended = true } ∷ lines_of bs))
at_feed chained all r p b bs e few own behind = go s.verdict refl
  where
    l : Line
    l = record { chars = p; ended = true }

    s : LineStep
    s = step_of chained all r (seen_of true p)

    back : (x : Refusal) → s.verdict ≡ Err x → Ends chained all (record { sheet = closed s; rows = held all r p }) bs s
    back x h = record {
      read = ap (λ (a : Arrived). finished a.sheet) (stays chained (record { sheet = closed s; rows = held all r p }) x bs h) ∙ refused s x h;
      rows = λ q. absurd (refused_accepted (sym h ∙ q));
    }

    go : (v : Verdict) → s.verdict ≡ v → Ends chained all (standing all r p) (b ∷ bs) (read_lines chained all r (l ∷ lines_of bs))
    go (Ok _) h =
        ends_on chained all (standing all r p) (standing all s.reading []) b bs _ _ (more_accepted chained all r p b e few own h) (line_goes chained all r l (lines_of bs) h)
        (behind s.reading (keeps_bounded chained all r (seen_of true p) few) (behind_begins chained all r (seen_of true p) (lines_of bs) h))
    go (Err x) h =
        ends_on chained all (standing all r p) _ b bs _ _ (more_feed chained all r p b e few own) (line_stops chained all r l (lines_of bs) x h) (back x h)

pub lines_feed : (b : ℕ) (bs : List ℕ) → b ≡ line_feed → lines_of (b ∷ bs) ≡ record { chars = []; ended = true } ∷ lines_of bs
unfolding lines_of
lines_feed b bs e = rw (eq-eqb _ _ e)

pub lines_other : (b : ℕ) (bs : List ℕ) → (b ≡ line_feed → ⊥) → lines_of (b ∷ bs) ≡ into b (lines_of bs)
unfolding lines_of
lines_other b bs n = rw (ne_eqb _ _ n)

-- The lines of what is left behind p, at an LF and at another character.
pub front_feed : (p : List ℕ) (b : ℕ) (bs : List ℕ) → b ≡ line_feed → infront p (lines_of (b ∷ bs)) ≡ record { chars = p; ended = true } ∷ lines_of bs
front_feed p b bs e =
    ap (infront p) (lines_feed b bs e)
    ∙ whole_line p [] true (lines_of bs)
    ∙ ap (λ q. record { chars = q; ended = true } ∷ lines_of bs) (append-nil p)

pub front_other : (p : List ℕ) (b : ℕ) (bs : List ℕ) → (b ≡ line_feed → ⊥) → infront p (lines_of (b ∷ bs)) ≡ infront (p ++ (b ∷ [])) (lines_of bs)
front_other p b bs n = ap (infront p) (lines_other b bs n) ∙ sym (one_more_lem p b (lines_of bs))

none_left : (all : List ℕ) (r : Reading) → Begins all r [] → held all r [] ≡ all
unfolding bytes_of whole
none_left all r begins =
    by_bool (stood_first r.last)
    (λ e. rw e (numbers_whole [] refl ∙ sym (begins e)))
    (λ e. rw e)

by_characters : (chained : Bool) (all bs : List ℕ) (r : Reading) (p : List ℕ) → Bounded r → Begins all r (infront p (lines_of bs))
    → Ends chained all (standing all r p) bs (read_lines chained all r (infront p (lines_of bs)))
unfolding arrive finished lines_of infront some read_lines
by_characters chained all [] r [] few begins = record { read = refl; rows = λ h. none_left all r begins }
by_characters chained all [] r (b ∷ p) few begins =
    let l : Line = record { chars = b ∷ p; ended = false } in
    let e = no_line_feed chained all r (b ∷ p) in
    let s = sym e ∙ line_stops chained all r l [] refusal.Malformed (ap (λ t. t.verdict) e) ∙ ap (read_lines chained all r) (sym (last_line_lem b p)) in
    record { read = s; rows = λ h. absurd (refused_accepted (ap (λ t. t.verdict) s ∙ h)) }
by_characters chained all (b ∷ bs) r p few begins =
    by_eq b line_feed
    (λ e. rw (front_feed p b bs e)
    (at_feed chained all r p b bs e few (λ q. begins q ∙ ap first_numbers (front_feed p b bs e)) (λ t d g. by_characters chained all bs t [] d g)))
    (λ n. ends_on chained all (standing all r p) (standing all r (p ++ (b ∷ []))) b bs _ _ (more_other chained all r p b n) (ap (read_lines chained all r) (sym (front_other p b bs n)))
    (by_characters chained all bs r (p ++ (b ∷ [])) few (λ q. begins q ∙ ap first_numbers (front_other p b bs n))))

pub as_it_arrives : AsItArrives
unfolding feeds some infront numbers_in stood_first numbers_feeds
as_it_arrives chained sheet =
    let e = by_characters chained (numbers_in sheet) sheet start [] start_bounded (λ q. refl) in
    record { read = e.read; rows = e.rows }
