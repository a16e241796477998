-- Windows by name (specs/Names): a name's line leaves the window that the lines of its offsets leave, and the lines behind them are read alike.
use Prim.Native.Nat.{ℕ, suc, ◌+◌, ◌≤◌}
use mathlib.Core.Bool.{Bool, true, false, cond, ◌&&◌, ◌||◌}
use mathlib.Core.List.{List, [], ◌∷◌, ◌++◌, map, flat_map, append_assoc}
use mathlib.Core.Logic.{◌⊎◌, inl, inr}
use mathlib.Core.Path.{◌≡◌, refl, sym, ap, ◌∙◌}
use native.Mathlib.Omega.{arith}
use lib.Dec.{eqb, leb}
use lib.IntN.{ℤ}
use lib.ListN.{length, take, drop}
use lib.Seq.{take-take}
use borrow.Author.Tests.{eq-eqb, ne_eqb, eqb-true, leb-true, not-false}
use Rattle.model.specs.declared.Chain.{Chain}
use Rattle.model.specs.declared.Last.{Last}
use Rattle.model.specs.declared.Last.TheVariants as stood
use Rattle.model.specs.declared.LineStep.{LineStep}
use Rattle.model.specs.declared.Reading.{Reading}
use Rattle.model.specs.declared.Refusal.{Refusal}
use Rattle.model.specs.declared.Refusal.TheVariants as refusal
use Rattle.model.specs.declared.Request.{Request}
use Rattle.std.specs.Prelude.{Result, Ok, Err}
use Rattle.model.specs.declared.Window.{Window}
use Rattle.model.specs.Lists.{all, any}
use Rattle.model.specs.Values.{dims_of, blank_window, request_of, set_window}
use Rattle.model.specs.Answers.{Verdict, by_verdict, by_answer}
use Rattle.model.specs.Planning.{judge_request, planned_chain, plan_of}
use Rattle.model_sheet.specs.Lines.{Line, line_of, lines_of}
use Rattle.model_sheet.specs.Frames.{value_of, digit_of, whole, bytes_of, digits_of, framed, padded, Seen, seen_of}
use Rattle.model_sheet.specs.Numbers.{byte_at}
use Rattle.model_sheet.specs.NamedWindows.{windows, is_name, named_of, bad_name, entries_of, offsets_named, with_references, window_named}
use Rattle.model_sheet.specs.Reading.{kind_of, bad_form, malformed, next_in_request, among, misplaced, bad_length, line_checks, line_verdict}
use Rattle.model_sheet.specs.Reading.{numbers_on, taken, with_grid, with_rows, with_name, with_box, with_kernel, step_of, start, closes, complete, read_lines, end_verdict, numbers_in, read_request}
use Rattle.model_sheet.specs.Writing.{offset_line, sheet_of}
use Rattle.model_program.specs.Programs.{refusal_text, plan_text}
use Rattle.model_sheet.proofs.NameLaws.{by_name_lem}
use Rattle.sheet_laws.proofs.Cases.{by_bool, never, and_true}
use Rattle.sheet_laws.proofs.AcceptedLines.{clear, taken_grid, taken_rows, taken_kernel, taken_name, taken_box}
use Rattle.sheet_laws.proofs.FixedMemory.{unsound_verdict}
use Rattle.sheet_laws.proofs.LineLaws.{line_front, first_line, first_line_lem}
use Rattle.sheet_trips.specs.Names.{FirstLine, by_name, written_out, BeginsWithOffset, ByName}
use Rattle.sheet_trips.specs.Names.FirstLine.{sized, rowed}
use Rattle.sheet_trips.proofs.Bytes.{Small, digits_back, line_seen, frame_line}
use Rattle.sheet_trips.proofs.Bytes.Small.{none, more}
use Rattle.sheet_trips.proofs.RowLines.{first_numbers_lem}
use Rattle.sheet_trips.proofs.LineGoes.{all_clear, Goes, line_goes, four, small_entries, small_fits, small_offset, added, offset_goes}

-- The lines of any offsets that fit a grid of so many dimensions.
unfoldable fitting : (dims : ℕ) → List ℤ → Bool
fitting dims o = eqb (length o) dims && small_entries o

unfoldable all_added : Reading → List (List ℤ) → Reading
all_added r [] = r
all_added r (o ∷ os) = all_added (added r (four o)) os

offsets_read : (chain_sheet : Bool) (rows : List ℕ) (os : List (List ℤ)) (r : Reading) (rest : List ℕ) → (r.last ≡ stood.Grid) ⊎ (r.last ≡ stood.Offset)
    → dims_of r.chain.grid ≤ 4 → all (fitting (dims_of r.chain.grid)) os ≡ true → r.chain.window.count + length os ≤ 32
    → read_lines chain_sheet rows r (lines_of (flat_map framed (map offset_line os) ++ rest)) ≡ read_lines chain_sheet rows (all_added r os) (lines_of rest)
unfolding all_added flat_map all fitting
offsets_read chain_sheet rows [] r rest last few h room = refl
offsets_read chain_sheet rows (o ∷ os) r rest last few h room =
    let dims = dims_of r.chain.grid in
    let f = and_true (fitting dims o) (all (fitting dims) os) h in
    let g = and_true (eqb (length o) dims) (small_entries o) f.0 in
    let sized : length o ≡ dims_of r.chain.grid = eqb-true _ _ g.0 in
    ap (λ t. read_lines chain_sheet rows r (lines_of t)) (append_assoc (framed (offset_line o)) (flat_map framed (map offset_line os)) rest)
    ∙ line_goes chain_sheet rows r (added r (four o)) (offset_line o) _ (small_offset o (small_fits o g.1))
    (offset_goes chain_sheet rows r o last sized (omega (arith, sized)) (small_fits o g.1) (omega arith))
    ∙ offsets_read chain_sheet rows os (added r (four o)) rest (inr refl) few f.1 (omega arith)

-- The list, entry by entry.
abbrev named : (ℕ → Type 0) → ℕ → Type 0
named P name = is_name name ≡ true → P name

in_list : (name : ℕ) → is_name name ≡ true → (1 ≤ name) × (name ≤ 5)
unfolding is_name
in_list name h = let b = and_true (leb 1 name) (leb name 5) h in (leb-true 1 name b.0, leb-true name 5 b.1)

for_names : (P : ℕ → Type 0) → P 1 → P 2 → P 3 → P 4 → P 5 → (name : ℕ) → is_name name ≡ true → P name
for_names P p1 p2 p3 p4 p5 =
    by_name_lem (named P)
    (λ h. absurd (omega (arith, (in_list 0 h).0)))
    (λ h. p1) (λ h. p2) (λ h. p3) (λ h. p4) (λ h. p5)
    (λ n h. absurd (omega (arith, (in_list (suc (suc (suc (suc (suc (suc n)))))) h).1)))

named_fit : (name : ℕ) → is_name name ≡ true → (all (fitting (named_of name).dims) (offsets_named name) ≡ true) × (length (offsets_named name) ≤ 32) × ((named_of name).dims ≤ 4)
unfolding named_of windows offsets_named all fitting small_entries
named_fit =
    for_names (λ name. (all (fitting (named_of name).dims) (offsets_named name) ≡ true) × (length (offsets_named name) ≤ 32) × ((named_of name).dims ≤ 4))
    (refl, omega arith, omega arith)
    (refl, omega arith, omega arith)
    (refl, omega arith, omega arith)
    (refl, omega arith, omega arith)
    (refl, omega arith, omega arith)

-- Where a reading stands behind the window, by what stood last.
abbrev behind : Last → Reading → ℕ → Reading
behind last r name = record { last = last; given = r.given; chain = set_window (with_references r.chain.window (map entries_of (named_of name).triples)) r.chain }

named_added : (name : ℕ) → is_name name ≡ true → (r : Reading) → all_added r (offsets_named name) ≡ behind stood.Offset r name
unfolding named_of windows offsets_named all_added with_references
named_added =
    for_names (λ name. (r : Reading) → all_added r (offsets_named name) ≡ behind stood.Offset r name)
    (λ r. refl) (λ r. refl) (λ r. refl) (λ r. refl) (λ r. refl)

-- The first line, as it is seen.
abbrev line_with : List ℕ → Line
line_with first = record { chars = digits_of first; ended = true }

abbrev first_bytes : List ℕ → List ℕ
first_bytes first = padded (bytes_of (digits_of first))

sized_heads : (name : ℕ) → is_name name ≡ true → (bytes : List ℕ)
    → (byte_at (first_bytes (1 ∷ (named_of name).dims ∷ bytes)) 0 ≡ 1) × (byte_at (first_bytes (1 ∷ (named_of name).dims ∷ bytes)) 1 ≡ (named_of name).dims)
unfolding named_of windows padded bytes_of digits_of digit_of value_of
sized_heads =
    for_names (λ name. (bytes : List ℕ) → (byte_at (first_bytes (1 ∷ (named_of name).dims ∷ bytes)) 0 ≡ 1) × (byte_at (first_bytes (1 ∷ (named_of name).dims ∷ bytes)) 1 ≡ (named_of name).dims))
    (λ s. (refl, refl)) (λ s. (refl, refl)) (λ s. (refl, refl)) (λ s. (refl, refl)) (λ s. (refl, refl))

rowed_head : (bytes : List ℕ) → byte_at (first_bytes (9 ∷ bytes)) 0 ≡ 9
unfolding padded bytes_of digits_of digit_of value_of
rowed_head bytes = refl

-- Behind it the grid stands alone, and has as many dimensions as the name's window.
record OnGrid (name : ℕ) (r : Reading) : Type 0 where
  last : r.last ≡ stood.Grid
  blank : r.chain.window ≡ blank_window
  dims : dims_of r.chain.grid ≡ (named_of name).dims

first_taken : (name : ℕ) → is_name name ≡ true → (first : List ℕ) → FirstLine (named_of name).dims first → OnGrid name (taken start (first_bytes first))
unfolding with_grid with_rows dims_of
first_taken name h first (sized bytes) =
    let heads = sized_heads name h bytes in
    rw (taken_grid start (first_bytes first) heads.0) (record { last = refl; blank = refl; dims = heads.1 })
first_taken name h first (rowed two bytes) = rw (taken_rows start (first_bytes first) (rowed_head bytes)) (record { last = refl; blank = refl; dims = sym two })

-- A name's line behind it.
name_goes : (rows : List ℕ) (name : ℕ) → is_name name ≡ true → (r : Reading) → OnGrid name r → Goes false rows r (7 ∷ name ∷ []) (behind stood.Name r name)
unfolding malformed bad_form misplaced among any next_in_request bad_length bad_name padded with_name window_named
name_goes rows name h r on = (
  all_clear false rows r (line_seen (7 ∷ name ∷ []))
      refl
      (rw on.last)
      refl
      refl
      refl
      refl
      refl
      refl
      (rw (h, on.dims, eq-eqb (named_of name).dims (named_of name).dims refl)),
  taken_name r (padded (7 ∷ name ∷ [])) refl ∙ rw on.blank,
)

name_small : (name : ℕ) → is_name name ≡ true → Small (7 ∷ name ∷ [])
name_small name h = more {b = 7} (omega arith) (more {b = name} (omega (arith, (in_list name h).1)) none)

-- Two ends of a sheet's lines of which reading a request says the same.
record Alike (one other : LineStep) : Type 0 where
  verdict : one.verdict ≡ other.verdict
  complete : complete one.reading ≡ complete other.reading
  chain : one.reading.chain ≡ other.reading.chain

same_ends : {one other : LineStep} → one ≡ other → Alike one other
same_ends e = record { verdict = ap (λ s. s.verdict) e; complete = ap (λ s. complete s.reading) e; chain = ap (λ s. s.reading.chain) e }

-- A line behind the window that is no `02` line: it is judged alike, and where it is not turned back it is the box's or the kernel's.
module _ (rows : List ℕ) (r : Reading) (name : ℕ) (l : Seen) (other : kind_of l ≡ 2 → ⊥) where
  abbrev after_name : Reading
  after_name = behind stood.Name r name

  abbrev after_offset : Reading
  after_offset = behind stood.Offset r name

  judged_alike : line_verdict false rows after_name l ≡ line_verdict false rows after_offset l
  unfolding line_verdict line_checks misplaced among any next_in_request
  judged_alike = rw (ne_eqb _ _ other)

  box_or_kernel : line_verdict false rows after_name l ≡ Ok tt → (kind_of l ≡ 8) ⊎ (kind_of l ≡ 4)
  unfolding line_verdict line_checks misplaced among any next_in_request
  box_or_kernel h = either (not-false _ (clear _ _ _ (clear _ _ _ h).1).0)
    where
      either : (eqb (kind_of l) 8 || (eqb (kind_of l) 4 || false)) ≡ true → (kind_of l ≡ 8) ⊎ (kind_of l ≡ 4)
      either e = by_bool (eqb (kind_of l) 8)
          (λ q. inl (eqb-true _ _ q))
          (λ q. by_bool (eqb (kind_of l) 4) (λ u. inr (eqb-true _ _ u)) (λ u. absurd (never (sym (rw (q, u) at e)))))

  taken_alike : (kind_of l ≡ 8) ⊎ (kind_of l ≡ 4) → taken after_name l.first ≡ taken after_offset l.first
  unfolding with_box with_kernel
  taken_alike (inl e) = taken_box after_name l.first e ∙ sym (taken_box after_offset l.first e)
  taken_alike (inr e) = taken_kernel after_name l.first e ∙ sym (taken_kernel after_offset l.first e)

-- A sound line whose first byte is 2 begins with an `02`.
begins : (chars : List ℕ) → whole chars ≡ true → byte_at (padded (bytes_of chars)) 0 ≡ 2 → (t : List ℕ) × (chars ≡ digits_of (2 ∷ t))
unfolding padded
begins chars w e = go (bytes_of chars) refl e
  where
    go : (bs : List ℕ) → bytes_of chars ≡ bs → byte_at (padded bs) 0 ≡ 2 → (t : List ℕ) × (chars ≡ digits_of (2 ∷ t))
    go [] q z = absurd (omega arith)
    go (b ∷ bs) q z = (bs, sym (digits_back chars w) ∙ ap digits_of (q ∙ ap (λ c. c ∷ bs) z))

offset_first : (rest : List ℕ) → whole (line_of rest) ≡ true → byte_at (padded (bytes_of (line_of rest))) 0 ≡ 2 → BeginsWithOffset rest
unfolding digits_of digit_of
offset_first rest w e =
    let (t, q) = begins (line_of rest) w e in
    sym (take-take 2 (length (line_of rest)) rest (omega (arith, ap length q))) ∙ ap (take 2) (line_front rest ∙ q)

-- The lines behind the window are read alike.
module _ (rows : List ℕ) (r : Reading) (name : ℕ) where
  line_alike : (l : Line) (ls : List Line) → (whole l.chars ≡ true → byte_at (padded (bytes_of l.chars)) 0 ≡ 2 → ⊥)
      → Alike (read_lines false rows (behind stood.Name r name) (l ∷ ls)) (read_lines false rows (behind stood.Offset r name) (l ∷ ls))
  unfolding read_lines step_of complete closes
  line_alike l ls other =
      by_bool seen.sound
      (λ s. let no_offset = other (and_true l.ended (whole l.chars) s).1 in by_verdict_lem no_offset (line_verdict false rows (behind stood.Name r name) seen) refl)
      (λ s. rw (unsound_verdict false rows (behind stood.Name r name) seen s, unsound_verdict false rows (behind stood.Offset r name) seen s)
      (record { verdict = refl; complete = refl; chain = refl }))
    where
      seen : Seen
      seen = seen_of l.ended l.chars

      by_verdict_lem : (kind_of seen ≡ 2 → ⊥) → (v : Verdict) → line_verdict false rows (behind stood.Name r name) seen ≡ v
          → Alike (read_lines false rows (behind stood.Name r name) (l ∷ ls)) (read_lines false rows (behind stood.Offset r name) (l ∷ ls))
      by_verdict_lem n (Ok _) e =
          rw (e, sym (judged_alike rows r name seen n) ∙ e) (same_ends (ap (λ t. read_lines false rows t ls) (taken_alike rows r name seen n (box_or_kernel rows r name seen n e))))
      by_verdict_lem n (Err x) e = rw (e, sym (judged_alike rows r name seen n) ∙ e) (record { verdict = refl; complete = refl; chain = refl })

  lines_alike : (rest : List ℕ) → (BeginsWithOffset rest → ⊥)
      → Alike (read_lines false rows (behind stood.Name r name) (lines_of rest)) (read_lines false rows (behind stood.Offset r name) (lines_of rest))
  unfolding lines_of read_lines complete closes
  lines_alike [] h = record { verdict = refl; complete = refl; chain = refl }
  lines_alike (b ∷ bs) h =
      let s = b ∷ bs in
      rw (first_line_lem s (omega arith)) (line_alike (first_line s) (lines_of (drop (suc (length (line_of s))) s)) (λ w e. h (offset_first s w e)))

-- From the first line on.
alike_by : {a b c d : LineStep} → a ≡ b → c ≡ d → Alike b d → Alike a c
alike_by p q h = rw (p, q) h

module _ (name : ℕ) (first rest : List ℕ) (h : is_name name ≡ true) (on : FirstLine (named_of name).dims first) (None-first : BeginsWithOffset rest → ⊥) where
  abbrev seen : Seen
  seen = seen_of true (digits_of first)

  abbrev r : Reading
  r = taken start (first_bytes first)

  abbrev rows : List ℕ
  rows = numbers_on (bytes_of (digits_of first))

  behind_grid : Alike (read_lines false rows r (lines_of (framed (7 ∷ name ∷ []) ++ rest)))
      (read_lines false rows r (lines_of (flat_map framed (map offset_line (offsets_named name)) ++ rest)))
  behind_grid =
      let grid = first_taken name h first on in
      let dims : dims_of r.chain.grid ≡ (named_of name).dims = grid.dims in
      let none : r.chain.window.count ≡ 0 = ap (λ (w : Window). w.count) grid.blank in
      let (fit, few, most) = named_fit name h in
      alike_by
      (line_goes false rows r (behind stood.Name r name) (7 ∷ name ∷ []) rest (name_small name h) (name_goes rows name h r grid))
      (offsets_read false rows (offsets_named name) r rest (inl grid.last) (omega (arith, dims, most)) (rw dims fit) (omega (arith, none, few))
      ∙ ap (λ t. read_lines false rows t (lines_of rest)) (named_added name h r))
      (lines_alike rows r name rest None-first)

  read_alike : Alike (read_lines false rows start (lines_of (by_name name first rest))) (read_lines false rows start (lines_of (written_out name first rest)))
  unfolding read_lines step_of
  read_alike =
      alike_by
      (ap (read_lines false rows start) (frame_line first _))
      (ap (read_lines false rows start) (frame_line first _))
      (go (line_verdict false rows start seen) refl)
    where
      go : (v : Verdict) → line_verdict false rows start seen ≡ v
          → Alike (read_lines false rows start (line_with first ∷ lines_of (framed (7 ∷ name ∷ []) ++ rest)))
          (read_lines false rows start (line_with first ∷ lines_of (flat_map framed (map offset_line (offsets_named name)) ++ rest)))
      go (Ok _) e = rw e behind_grid
      go (Err x) e = rw e (same_ends refl)

-- What reading a request says of the end of its lines.
answered : List ℕ → Verdict → Bool → Chain → Result Request Refusal
answered rows v whole c =
    by_verdict (by_verdict v (cond whole (judge_request (request_of c) rows) (Err refusal.Misplaced)) Err) (Ok (request_of c)) Err

module _ (one other rows : List ℕ) (p : numbers_in one ≡ rows) (q : numbers_in other ≡ rows) where
  read_by : (sheet : List ℕ) → numbers_in sheet ≡ rows
      → (let s = read_lines false rows start (lines_of sheet) in read_request sheet ≡ answered rows s.verdict (complete s.reading) s.reading.chain)
  unfolding answered read_request end_verdict
  read_by sheet e =
      ap (λ (rows : List ℕ). let s = read_lines false rows start (lines_of sheet) in answered rows s.verdict (complete s.reading) s.reading.chain) e

  requests_alike : Alike (read_lines false rows start (lines_of one)) (read_lines false rows start (lines_of other)) → read_request one ≡ read_request other
  requests_alike a = read_by one p ∙ (λ i. answered rows (a.verdict i) (a.complete i) (a.chain i)) ∙ sym (read_by other q)

planned : Result Request Refusal → List ℕ → List ℕ
planned r rows = by_answer r (λ q. sheet_of (planned_chain q rows) rows) refusal_text

pub by_its_name : ByName
unfolding plan_text planned
by_its_name name first rest h on n =
    let one = by_name name first rest in
    let other = written_out name first rest in
    let p = first_numbers_lem first (framed (7 ∷ name ∷ []) ++ rest) in
    let q = first_numbers_lem first (flat_map framed (map offset_line (offsets_named name)) ++ rest) in
    let e = requests_alike one other (numbers_on (bytes_of (digits_of first))) p q (read_alike name first rest h on n) in
    let rows = p ∙ sym q in
    record {
      read = e;
      rows = rows;
      plan = λ i. by_answer (e i) (λ r. plan_of r (rows i)) Err;
      text = λ i. planned (e i) (rows i);
    }
