-- An accepted chain sheet, read and written, gives back its bytes: after each line, what was read is written as the lines so far.
use Prim.Native.Nat.{ℕ, zero, suc, ◌+◌, ◌-◌, ◌*◌, ◌≤◌, ◌<◌}
use mathlib.Core.Bool.{Bool, true, false, cond}
use mathlib.Core.List.{List, [], ◌∷◌, ◌++◌, append_assoc, append-nil}
use mathlib.Core.Logic.{◌⊎◌, inl, inr}
use mathlib.Core.Path.{◌≡◌, refl, sym, ap, subst, ◌∙◌}
use native.Mathlib.Omega.{arith}
use lib.IntN.{pos}
use lib.ListN.{length, get_or, length-set}
use lib.Seq.{sets, length-sets, get_or-set_same, get_or-set_other}
use borrow.Author.Tests.{eq-eqb, ne_eqb}
use Rattle.model.specs.declared.Chain.{Chain}
use Rattle.model.specs.declared.Grid.{Grid}
use Rattle.model.specs.declared.Kernel.{Kernel}
use Rattle.model.specs.declared.Last.{Last}
use Rattle.model.specs.declared.Last.TheVariants as stood
use Rattle.model.specs.declared.Order.{Order}
use Rattle.model.specs.declared.Reading.{Reading}
use Rattle.model.specs.declared.Refusal.{Refusal}
use Rattle.std.specs.Prelude.{Ok, Err}
use Rattle.model.specs.Answers.{Verdict}
use Rattle.model_sheet.specs.Arriving.{stood_first}
use Rattle.model.specs.Values.{dims_of}
use Rattle.model.specs.Judging.{bad_factor}
use Rattle.model_sheet.specs.Lines.{Line, line_feed, lines_of, into}
use Rattle.model_sheet.specs.Frames.{framed, whole, bytes_of, padded, seen_of}
use Rattle.model_sheet.specs.Numbers.{byte_at, half_at, word_at}
use Rattle.model_sheet.specs.Reading.{bad_kernel, numbers_on, entries_in, kernel_in, line_verdict}
use Rattle.model_sheet.specs.Reading.{taken, with_grid, with_rows, with_offset, with_box, with_capacity, with_order, with_kernel, step_of, start, closes, complete, read_lines, numbers_in}
use Rattle.model_sheet.specs.Writing.{grid_line, capacity_line, sheet_of}
use Rattle.sheet_laws.specs.Sections.{rows_line, offset_row, to_capacities, lines_behind, line_at, lines_from}
use Rattle.sheet_laws.proofs.Cases.{by_bool, by_eq, by_lt, never, and_true}
use Rattle.sheet_laws.proofs.AcceptedLines.{BehindOffsets, BehindWindow, Admitted, admitted, refused_accepted, not_complete, taken_grid, taken_rows, taken_offset, taken_box, taken_capacity, taken_order, taken_kernel}
use Rattle.sheet_laws.proofs.AcceptedLines.BehindOffsets.{offsets, bounds, capacities}
use Rattle.sheet_laws.proofs.AcceptedLines.BehindWindow.{filters, terms, named}
use Rattle.sheet_laws.proofs.AcceptedLines.Admitted.{grid, skewed_grid, offset, box, capacity, order, kernel, name}
use Rattle.sheet_laws.proofs.AcceptedChains.{accepted_chain}
use Rattle.sheet_laws.proofs.SheetSections.{box_front, line_grid, line_rows, line_offset, line_box, line_capacity, line_order, line_kernel, lines_join, sheet_rows}
use Rattle.sheet_trips.specs.RoundTrips.{ReadWrite}
use Rattle.sheet_trips.proofs.Bytes.{Small, small_bytes, digits_back, take_padded, line_seen}
use Rattle.sheet_trips.proofs.Values.{sets_before, sets_at}
use Rattle.sheet_trips.proofs.RowLines.{rows_row}
use Rattle.sheet_trips.proofs.AcceptedSheets.{accepted_sheet, accepted_read}
use Rattle.sheet_trips.proofs.AsItArrives.{Begins, behind_begins}
use Rattle.sheet_trips.proofs.LinesRead.{front, grid_row_lem, offset_row_lem, box_row_lem, capacity_row, order_row_lem, kernel_row}

-- The text of a sheet's lines is the sheet.
unfoldable text : List Line → List ℕ
text [] = []
text (l ∷ ls) = (l.chars ++ cond l.ended (line_feed ∷ []) []) ++ text ls

into_text : (b : ℕ) (ls : List Line) → text (into b ls) ≡ b ∷ text ls
unfolding text
into_text b [] = refl
into_text b (l ∷ ls) = refl

text_back : (s : List ℕ) → text (lines_of s) ≡ s
unfolding lines_of text
text_back [] = refl
text_back (b ∷ bs) =
    by_eq b line_feed
    (λ e. rw (eq-eqb _ _ e) (ap (λ t. line_feed ∷ t) (text_back bs) ∙ ap (λ c. c ∷ bs) (sym e)))
    (λ n. rw (ne_eqb _ _ n) (into_text b (lines_of bs) ∙ ap (λ t. b ∷ t) (text_back bs)))

-- The first lines of two chains that agree there, and one line more; of either `rows` stand beside it.
module _ (rows : List ℕ) where
  lines_same : (c d : Chain) (m k : ℕ) → ((j : ℕ) → j < m + k → line_at c rows j ≡ line_at d rows j) → lines_from c rows m k ≡ lines_from d rows m k
  unfolding lines_from
  lines_same c d m zero h = refl
  lines_same c d m (suc k) h = rw (h m (omega arith), lines_same c d (m + 1) k (λ j l. h j (omega arith)))

  one_line : (c : Chain) (m : ℕ) → lines_from c rows m 1 ≡ framed (line_at c rows m)
  unfolding lines_from
  one_line c m = append-nil (framed (line_at c rows m))

  grown : (c d : Chain) (k : ℕ) (bs : List ℕ) → ((j : ℕ) → j < k → line_at d rows j ≡ line_at c rows j) → line_at d rows k ≡ bs
      → lines_from d rows 0 (k + 1) ≡ lines_from c rows 0 k ++ framed bs
  grown c d k bs h e =
      let z : 0 + k ≡ k = omega arith in
      sym (lines_join d rows 0 k 1)
      ∙ ap (λ t. t ++ lines_from d rows (0 + k) 1) (lines_same d c 0 k (λ j l. h j (omega arith)))
      ∙ ap (λ t. lines_from c rows 0 k ++ t) (ap (λ m. lines_from d rows m 1) z ∙ one_line d k ∙ ap framed e)

-- How many lines were read, and what was read, written.
unfoldable lines_to : Last → (boxed ordered : Bool) (count given : ℕ) → ℕ
lines_to stood.Nothing boxed ordered count given = 0
lines_to stood.Grid boxed ordered count given = 1 + to_capacities boxed count + given
lines_to stood.Offset boxed ordered count given = 1 + to_capacities boxed count + given
lines_to stood.Name boxed ordered count given = 1 + to_capacities boxed count + given
lines_to stood.Box boxed ordered count given = 1 + to_capacities boxed count + given
lines_to stood.Capacity boxed ordered count given = 1 + to_capacities boxed count + given
lines_to stood.Order boxed ordered count given = 1 + to_capacities boxed count + given + 1
lines_to stood.Kernel boxed ordered count given = lines_behind boxed ordered count + 1

unfoldable lines_read : Reading → ℕ
lines_read r = lines_to r.last r.chain.bounds.stood r.chain.order.stood r.chain.window.count r.given

unfoldable written : (rows : List ℕ) → Reading → List ℕ
written rows r = lines_from r.chain rows 0 (lines_read r)

Adds : (rows : List ℕ) → Reading → Reading → List ℕ → Type 0
Adds rows r t bs = written rows t ≡ written rows r ++ framed bs

adds : (rows : List ℕ) (r t : Reading) (bs : List ℕ) (k : ℕ) → lines_read r ≡ k → lines_read t ≡ k + 1
    → ((j : ℕ) → j < k → line_at t.chain rows j ≡ line_at r.chain rows j) → line_at t.chain rows k ≡ bs → Adds rows r t bs
unfolding written Adds
adds rows r t bs k e f before new = rw (e, f) (grown rows r.chain t.chain k bs before new)

-- What is known of the counts, by what stood last.
unfoldable Counted : Last → (count given : ℕ) → Type 0
Counted stood.Nothing count given = (count ≡ 0) × (given ≡ 0)
Counted stood.Grid count given = given ≡ 0
Counted stood.Offset count given = given ≡ 0
Counted stood.Name count given = given ≡ 0
Counted stood.Box count given = given ≡ 0
Counted stood.Capacity count given = Unit {0}
Counted stood.Order count given = Unit {0}
Counted stood.Kernel count given = 0 < count

-- Whether a box stood.
unfoldable Boxed : Last → Bool → Type 0
Boxed stood.Nothing b = b ≡ false
Boxed stood.Grid b = b ≡ false
Boxed stood.Offset b = b ≡ false
Boxed stood.Name b = b ≡ false
Boxed stood.Box b = Unit {0}
Boxed stood.Capacity b = Unit {0}
Boxed stood.Order b = Unit {0}
Boxed stood.Kernel b = Unit {0}

-- And whether an order stood.
unfoldable Ordered : Last → Bool → Type 0
Ordered stood.Nothing b = b ≡ false
Ordered stood.Grid b = b ≡ false
Ordered stood.Offset b = b ≡ false
Ordered stood.Name b = b ≡ false
Ordered stood.Box b = b ≡ false
Ordered stood.Capacity b = b ≡ false
Ordered stood.Order b = b ≡ true
Ordered stood.Kernel b = Unit {0}

-- What a reading keeps.
record Kept (r : Reading) : Type 0 where
  offsets : length r.chain.window.offsets ≡ 128
  capacities : length r.chain.capacities ≡ 31
  dims : dims_of r.chain.grid ≤ 4
  count : r.chain.window.count ≤ 32
  counted : Counted r.last r.chain.window.count r.given
  boxed : Boxed r.last r.chain.bounds.stood
  ordered : Ordered r.last r.chain.order.stood

-- Line j of a sheet that has been read so far: the grid's, an offset's, the box's, or a capacity's.
by_place : {A : Type 0} (boxed : Bool) (n j : ℕ) → (j ≡ 0 → A) → ((i : ℕ) → i < n → j ≡ 1 + i → A) → (boxed ≡ true → j ≡ 1 + n → A)
    → ((i : ℕ) → j ≡ 1 + to_capacities boxed n + i → A) → A
by_place boxed n zero g o b c = g refl
by_place boxed n (suc j) g o b c =
    by_lt j n
    (λ l. o j l (omega arith))
    (λ l. by_bool boxed
    (λ e. by_eq j n
    (λ q. b e (omega arith))
    (λ q. let z : suc j ≡ 1 + (n + 1) + (j - (n + 1)) = omega arith in c (j - (n + 1)) (z ∙ rw e)))
    (λ e. let z : suc j ≡ 1 + (n + 0) + (j - n) = omega arith in c (j - n) (z ∙ rw e)))

-- A line behind the capacities' and before the kernel's is the order's.
orders_place : (boxed ordered : Bool) (n j : ℕ) → to_capacities boxed n + n ≤ j → j < lines_behind boxed ordered n → (ordered ≡ true) × (j ≡ to_capacities boxed n + n)
unfolding lines_behind
orders_place boxed true n j h l = (refl, omega arith)
orders_place boxed false n j h l = absurd (omega arith)

same_grid : (c d : Chain) (rows : List ℕ) → c.grid ≡ d.grid → line_at c rows 0 ≡ line_at d rows 0
unfolding line_at
same_grid c d rows e = ap (λ (g : Grid). grid_line g rows) e

-- A chain with other capacities, order and kernel: the lines up to its capacities' are the same.
abbrev behind_box : Chain → List ℕ → Order → Kernel → Chain
behind_box c a o k = record { grid = c.grid; window = c.window; bounds = c.bounds; capacities = a; order = o; kernel = k }

same_front : (c : Chain) (a : List ℕ) (o : Order) (k : Kernel) (rows : List ℕ) → dims_of c.grid ≤ 4 → (j : ℕ)
    → ((i : ℕ) → j ≡ 1 + to_capacities c.bounds.stood c.window.count + i → line_at (behind_box c a o k) rows j ≡ line_at c rows j)
    → line_at (behind_box c a o k) rows j ≡ line_at c rows j
same_front c a o k rows few j rest =
    let d = behind_box c a o k in
    by_place c.bounds.stood c.window.count j
    (λ z. rw z (same_grid d c rows refl))
    (λ i h z. rw z (line_offset d rows i h ∙ sym (line_offset c rows i h)))
    (λ is z. rw z (line_box d rows is few ∙ sym (line_box c rows is few)))
    rest

module _ (rows : List ℕ) (r : Reading) (keeps : Kept r) (bs : List ℕ) (small : Small bs) where
  abbrev x : List ℕ
  x = padded bs

  abbrev c : Chain
  c = r.chain

  abbrev n : ℕ
  n = r.chain.window.count

  lines_at : (l : Last) → r.last ≡ l → lines_read r ≡ lines_to l c.bounds.stood c.order.stood n r.given
  unfolding lines_read
  lines_at l e = ap (λ (k : Last). lines_to k c.bounds.stood c.order.stood n r.given) e

  counted_at : (l : Last) → r.last ≡ l → Counted l n r.given
  counted_at l e = subst (λ (k : Last). Counted k n r.given) e keeps.counted

  boxed_at : (l : Last) → r.last ≡ l → Boxed l c.bounds.stood
  boxed_at l e = subst (λ (k : Last). Boxed k c.bounds.stood) e keeps.boxed

  ordered_at : (l : Last) → r.last ≡ l → Ordered l c.order.stood
  ordered_at l e = subst (λ (k : Last). Ordered k c.order.stood) e keeps.ordered

  -- So many lines there are before the capacities', where no box stood.
  offsets_only : c.bounds.stood ≡ false → (m : ℕ) → to_capacities c.bounds.stood m ≡ m
  offsets_only none m = rw none (omega arith)

  grid_adds : byte_at x 0 ≡ 1 → r.last ≡ stood.Nothing → byte_at x 1 ≤ 4 → length bs ≡ 2 + 4 * byte_at x 1 → Adds rows r (with_grid r x) bs
  unfolding with_grid lines_read lines_to Counted Boxed dims_of
  grid_adds e p few len =
      let z = counted_at stood.Nothing p in
      let q : 1 + to_capacities c.bounds.stood n + r.given ≡ 0 + 1 = omega (arith, z.0, z.1, offsets_only (boxed_at stood.Nothing p) n) in
      adds rows r (with_grid r x) bs 0 (lines_at stood.Nothing p) q (λ j l. absurd (omega arith))
      (line_grid _ rows refl few ∙ front (2 + 4 * byte_at x 1) 18 bs _ (grid_row_lem bs small e) (omega arith) (omega arith) len)

  -- The rows' line, on which these numbers stand.
  rows_adds : byte_at x 0 ≡ 9 → r.last ≡ stood.Nothing → rows ≡ numbers_on bs → half_at x 1 ≤ 512 → length bs ≡ 3 + 4 * half_at x 1 → Adds rows r (with_rows r x) bs
  unfolding with_rows lines_read lines_to Counted Boxed
  rows_adds e p own few len =
      let z = counted_at stood.Nothing p in
      let q : 1 + to_capacities c.bounds.stood n + r.given ≡ 0 + 1 = omega (arith, z.0, z.1, offsets_only (boxed_at stood.Nothing p) n) in
      adds rows r (with_rows r x) bs 0 (lines_at stood.Nothing p) q (λ j l. absurd (omega arith))
      (line_rows _ rows refl ∙ ap (rows_line (half_at x 1)) own ∙ rows_row bs small e few len)

  -- Where an `02` line may come no capacity was read, no box and no order; where another line behind the `01` line may come, as many lines as offsets, boxes and
  -- capacities, and one.
  none_given : (r.last ≡ stood.Grid) ⊎ (r.last ≡ stood.Offset) → r.given ≡ 0
  unfolding Counted
  none_given (inl p) = counted_at stood.Grid p
  none_given (inr p) = counted_at stood.Offset p

  no_box : (r.last ≡ stood.Grid) ⊎ (r.last ≡ stood.Offset) → c.bounds.stood ≡ false
  unfolding Boxed
  no_box (inl p) = boxed_at stood.Grid p
  no_box (inr p) = boxed_at stood.Offset p

  no_order_lem : (r.last ≡ stood.Grid) ⊎ (r.last ≡ stood.Offset) → c.order.stood ≡ false
  unfolding Ordered
  no_order_lem (inl p) = ordered_at stood.Grid p
  no_order_lem (inr p) = ordered_at stood.Offset p

  abbrev ahead : ℕ
  ahead = to_capacities c.bounds.stood n

  behind_grid : (r.last ≡ stood.Grid) ⊎ (r.last ≡ stood.Offset) → lines_read r ≡ 1 + ahead + r.given
  unfolding lines_to
  behind_grid (inl p) = lines_at stood.Grid p
  behind_grid (inr p) = lines_at stood.Offset p

  behind_offsets : BehindOffsets r.last → lines_read r ≡ 1 + ahead + r.given
  unfolding lines_to
  behind_offsets (offsets p) = lines_at stood.Offset p
  behind_offsets (bounds p) = lines_at stood.Box p
  behind_offsets (capacities p) = lines_at stood.Capacity p

  offset_adds : byte_at x 0 ≡ 2 → (r.last ≡ stood.Grid) ⊎ (r.last ≡ stood.Offset) → length bs ≡ 1 + 2 * dims_of c.grid → n < 32 → Adds rows r (with_offset r x) bs
  unfolding with_offset lines_read lines_to entries_in offset_row
  offset_adds e p len few =
      let g = none_given p in
      let none = no_box p in
      let d = (with_offset r x).chain in
      let o = c.window.offsets in
      let es = entries_in x in
      let room : 4 * n + 4 ≤ length o = omega (arith, keeps.offsets) in
      let q : 1 + ahead + r.given ≡ 1 + n = omega (arith, offsets_only none n) in
      let q' : 1 + to_capacities c.bounds.stood (n + 1) + r.given ≡ 1 + n + 1 = omega (arith, offsets_only none (n + 1)) in
      let old : (i k : ℕ) → k < 4 → i < n → get_or (sets o (4 * n) es) (4 * i + k) (pos 0) ≡ get_or o (4 * i + k) (pos 0) =
      λ i k l h. sets_before es o (4 * n) (4 * i + k) (pos 0) (omega arith) in
      adds rows r (with_offset r x) bs (1 + n) (behind_grid p ∙ q) q'
      (λ j l. by_place c.bounds.stood n j
      (λ z. rw z (same_grid d c rows refl))
      (λ i h z. rw z
      (line_offset d rows i (omega arith)
      ∙ rw (old i 0 (omega arith) h, old i 1 (omega arith) h, old i 2 (omega arith) h, old i 3 (omega arith) h)
      (sym (line_offset c rows i h))))
      (λ is z. absurd (omega arith))
      (λ i z. absurd (omega arith)))
      (line_offset d rows n (omega arith)
      ∙ front (1 + 2 * dims_of c.grid) 9 bs _
      (rw (
        sets_at es o (4 * n) 0 (pos 0) room (omega arith),
        sets_at es o (4 * n) 1 (pos 0) room (omega arith),
        sets_at es o (4 * n) 2 (pos 0) room (omega arith),
        sets_at es o (4 * n) 3 (pos 0) room (omega arith),
      )
      (offset_row_lem bs small e))
      (omega (arith, keeps.dims)) (omega arith) len)

  box_adds : byte_at x 0 ≡ 8 → r.last ≡ stood.Offset → length bs ≡ 1 + 8 * dims_of c.grid → Adds rows r (with_box r x) bs
  unfolding with_box lines_read lines_to
  box_adds e p len =
      let g = none_given (inr p) in
      let none = no_box (inr p) in
      let d = (with_box r x).chain in
      let q : 1 + ahead + r.given ≡ 1 + n = omega (arith, offsets_only none n) in
      let q' : 1 + (n + 1) + r.given ≡ 1 + n + 1 = omega arith in
      adds rows r (with_box r x) bs (1 + n) (behind_grid (inr p) ∙ q) q'
      (λ j l. by_place c.bounds.stood n j
      (λ z. rw z (same_grid d c rows refl))
      (λ i h z. rw z (line_offset d rows i h ∙ sym (line_offset c rows i h)))
      (λ is z. absurd (omega arith))
      (λ i z. absurd (omega arith)))
      (line_box d rows refl keeps.dims
      ∙ box_front (dims_of c.grid) d.bounds keeps.dims
      ∙ front (1 + 8 * dims_of c.grid) 33 bs _ (box_row_lem bs small e) (omega (arith, keeps.dims)) (omega arith) len)

  capacity_adds : byte_at x 0 ≡ 3 → BehindOffsets r.last → r.given + 1 < n → length bs ≡ 5 → Adds rows r (with_capacity r x) bs
  unfolding with_capacity lines_read lines_to
  capacity_adds e p g len =
      let d = (with_capacity r x).chain in
      let a = c.capacities in
      let v = r.given in
      let q : 1 + ahead + (v + 1) ≡ 1 + ahead + v + 1 = omega arith in
      adds rows r (with_capacity r x) bs (1 + ahead + v) (behind_offsets p) q
      (λ j l. same_front c d.capacities d.order d.kernel rows keeps.dims j
      (λ i z. let y : i ≡ v → ⊥ = λ u. omega arith in
      rw z (line_capacity d rows i (omega arith) ∙ ap capacity_line (get_or-set_other a v i (word_at x 1) 0 y) ∙ sym (line_capacity c rows i (omega arith)))))
      (line_capacity d rows v g
      ∙ ap capacity_line (get_or-set_same a v (word_at x 1) 0 (omega (arith, keeps.capacities, keeps.count)))
      ∙ capacity_row bs small e ∙ take_padded 5 bs (sym len) (omega arith))

  -- Before the order's line none stood.
  unordered : BehindOffsets r.last → c.order.stood ≡ false
  unfolding Ordered
  unordered (offsets p) = ordered_at stood.Offset p
  unordered (bounds p) = ordered_at stood.Box p
  unordered (capacities p) = ordered_at stood.Capacity p

  order_adds : byte_at x 0 ≡ 6 → BehindOffsets r.last → n ≡ r.given + 1 → length bs ≡ 1 + n → Adds rows r (with_order r x) bs
  unfolding with_order lines_read lines_to
  order_adds e p g len =
      let d = (with_order r x).chain in
      let v = r.given in
      let w : 1 + ahead + v ≡ ahead + n = omega arith in
      adds rows r (with_order r x) bs (1 + ahead + v) (behind_offsets p) refl
      (λ j l. same_front c d.capacities d.order d.kernel rows keeps.dims j
      (λ i z. rw z (line_capacity d rows i (omega arith) ∙ sym (line_capacity c rows i (omega arith)))))
      (ap (line_at d rows) w ∙ line_order d rows refl (omega arith) keeps.count ∙ order_row_lem n bs e len keeps.count)

  -- Behind as many lines as a sheet has before its kernel's.
  before_kernel : BehindWindow true r.last → n ≡ r.given + 1 → lines_read r ≡ lines_behind c.bounds.stood c.order.stood n
  unfolding lines_to lines_behind Ordered
  before_kernel (filters p) g = behind_offsets p ∙ rw (unordered p) (omega arith)
  before_kernel (terms chain p) g = lines_at stood.Order p ∙ rw (ordered_at stood.Order p) (omega arith)
  before_kernel (named request p) g = absurd (never request)

  kernel_adds : byte_at x 0 ≡ 4 → BehindWindow true r.last → n ≡ r.given + 1 → bad_kernel (length bs) (byte_at x 1) ≡ false
      → bad_factor (kernel_in x) ≡ false → Adds rows r (with_kernel r x) bs
  unfolding with_kernel lines_read lines_to
  kernel_adds e p g ok finite =
      let d = (with_kernel r x).chain in
      let some : 0 < n = omega arith in
      adds rows r (with_kernel r x) bs (lines_behind c.bounds.stood c.order.stood n) (before_kernel p g) refl
      (λ j l. same_front c d.capacities d.order d.kernel rows keeps.dims j
      (λ i z. by_lt (i + 1) n
      (λ h. rw z (line_capacity d rows i h ∙ sym (line_capacity c rows i h)))
      (λ h. let (is, at) = orders_place c.bounds.stood c.order.stood n j (omega arith) l in
      rw at (line_order d rows is some keeps.count ∙ sym (line_order c rows is some keeps.count)))))
      (line_kernel d rows some ∙ kernel_row bs small e ok finite)

-- Nothing is accepted behind the kernel's line.
ended : (rows : List ℕ) (r : Reading) (ls : List Line) → complete r ≡ true → (read_lines true rows r ls).verdict ≡ Ok tt → (read_lines true rows r ls).reading ≡ r
unfolding read_lines step_of
ended rows r [] e h = refl
ended rows r (l ∷ ls) e h = go (line_verdict true rows r (seen_of l.ended l.chars)) refl
  where
    by : Admitted true rows r (seen_of l.ended l.chars) → ⊥
    by a = never (sym e ∙ not_complete true rows r _ a)

    go : (v : Verdict) → line_verdict true rows r (seen_of l.ended l.chars) ≡ v → (read_lines true rows r (l ∷ ls)).reading ≡ r
    go (Ok _) q = absurd (by (admitted true rows r _ q).1)
    go (Err x) q = absurd (refused_accepted (rw q at h))

-- A reading whose kernel, once it was read, has finite factors.
Finite : Reading → Type 0
Finite r = complete r ≡ true → bad_factor r.chain.kernel ≡ false

-- Cases by a verdict.
by_verdict_lem : {A : Type 0} (v : Verdict) → (v ≡ Ok tt → A) → ((x : Refusal) → v ≡ Err x → A) → A
by_verdict_lem (Ok _) a f = a refl
by_verdict_lem (Err x) a f = f x refl

-- Any line that is not turned back.
step_adds : (rows : List ℕ) (r : Reading) → Kept r → (bs : List ℕ) → Small bs → (stood_first r.last ≡ true → rows ≡ numbers_on bs)
    → line_verdict true rows r (line_seen bs) ≡ Ok tt → Finite (taken r (padded bs))
    → Adds rows r (taken r (padded bs)) bs × Kept (taken r (padded bs))
unfolding dims_of with_grid with_rows with_offset with_box with_capacity with_order with_kernel Finite Counted Boxed Ordered complete closes stood_first
step_adds rows r k bs small own h finite = go (admitted true rows r _ h).1
  where
    go : Admitted true rows r (line_seen bs) → Adds rows r (taken r (padded bs)) bs × Kept (taken r (padded bs))
    go (grid e last some few len sizes) =
        rw (taken_grid _ _ e) (
          grid_adds rows r k bs small e last few len,
          record {
            offsets = k.offsets;
            capacities = k.capacities;
            dims = few;
            count = k.count;
            counted = (counted_at rows r k bs small stood.Nothing last).1;
            boxed = boxed_at rows r k bs small stood.Nothing last;
            ordered = ordered_at rows r k bs small stood.Nothing last;
          },
        )
    go (skewed_grid e last some few len cells) =
        rw (taken_rows _ _ e) (
          rows_adds rows r k bs small e last (own (ap stood_first last)) few len,
          record {
            offsets = k.offsets;
            capacities = k.capacities;
            dims = omega arith;
            count = k.count;
            counted = (counted_at rows r k bs small stood.Nothing last).1;
            boxed = boxed_at rows r k bs small stood.Nothing last;
            ordered = ordered_at rows r k bs small stood.Nothing last;
          },
        )
    go (offset e last len count) =
        rw (taken_offset _ _ e) (
          offset_adds rows r k bs small e last len count,
          record {
            offsets = simp length-sets k.offsets;
            capacities = k.capacities;
            dims = k.dims;
            count = omega arith;
            counted = none_given rows r k bs small last;
            boxed = no_box rows r k bs small last;
            ordered = no_order_lem rows r k bs small last;
          },
        )
    go (box e (inl last) len) =
        rw (taken_box _ _ e) (
          box_adds rows r k bs small e last len,
          record {
            offsets = k.offsets;
            capacities = k.capacities;
            dims = k.dims;
            count = k.count;
            counted = none_given rows r k bs small (inr last);
            boxed = tt;
            ordered = no_order_lem rows r k bs small (inr last);
          },
        )
    go (box e (inr (request, last)) len) = absurd (never request)
    go (capacity e last chain given len) =
        rw (taken_capacity _ _ e) (
          capacity_adds rows r k bs small e last given len,
          record {
            offsets = k.offsets;
            capacities = simp length-set k.capacities;
            dims = k.dims;
            count = k.count;
            counted = tt;
            boxed = tt;
            ordered = unordered rows r k bs small last;
          },
        )
    go (order e last chain given len) =
        rw (taken_order _ _ e) (
          order_adds rows r k bs small e last given len,
          record { offsets = k.offsets; capacities = k.capacities; dims = k.dims; count = k.count; counted = tt; boxed = tt; ordered = refl },
        )
    go (name e last request len ok) = absurd (never request)
    go (kernel e last given form) =
        let counted = given refl in
        let same = taken_kernel r (padded bs) e in
        rw same (
          kernel_adds rows r k bs small e last counted form ((rw same at finite) refl),
          record { offsets = k.offsets; capacities = k.capacities; dims = k.dims; count = k.count; counted = omega arith; boxed = tt; ordered = tt },
        )

line_adds : (rows : List ℕ) (r : Reading) → Kept r → (l : Line) → (stood_first r.last ≡ true → rows ≡ numbers_on (bytes_of l.chars))
    → line_verdict true rows r (seen_of l.ended l.chars) ≡ Ok tt → Finite (taken r (padded (bytes_of l.chars)))
    → (written rows (taken r (padded (bytes_of l.chars))) ≡ written rows r ++ (l.chars ++ cond l.ended (line_feed ∷ []) [])) × Kept (taken r (padded (bytes_of l.chars)))
unfolding Adds framed
line_adds rows r k l own h finite =
    let a = (admitted true rows r (seen_of l.ended l.chars) h).0 in
    let p = and_true l.ended (whole l.chars) a in
    let t = step_adds rows r k (bytes_of l.chars) (small_bytes l.chars p.1) own (rw a at h) finite in
    (rw p.0 (t.0 ∙ ap (λ d. written rows r ++ (d ++ (line_feed ∷ []))) (digits_back l.chars p.1)), t.1)

all_written : (rows : List ℕ) (r : Reading) → Kept r → complete r ≡ true → written rows r ≡ sheet_of r.chain rows
unfolding written lines_read complete closes lines_to Counted
all_written rows r k e = go r.last e k.counted
  where
    go : (l : Last) → closes l ≡ true → Counted l r.chain.window.count r.given
        → lines_from r.chain rows 0 (lines_to l r.chain.bounds.stood r.chain.order.stood r.chain.window.count r.given) ≡ sheet_of r.chain rows
    go stood.Nothing h c = absurd (never (sym h))
    go stood.Grid h c = absurd (never (sym h))
    go stood.Offset h c = absurd (never (sym h))
    go stood.Name h c = absurd (never (sym h))
    go stood.Box h c = absurd (never (sym h))
    go stood.Capacity h c = absurd (never (sym h))
    go stood.Order h c = absurd (never (sym h))
    go stood.Kernel h c = sym (sheet_rows r.chain rows k.dims c k.count)

-- The lines from a reading on; `rows` stand on the first line.
lines_back : (rows : List ℕ) (ls : List Line) (r : Reading) → Kept r → Begins rows r ls
    → (let s = read_lines true rows r ls in
    s.verdict ≡ Ok tt → complete s.reading ≡ true → bad_factor s.reading.chain.kernel ≡ false → written rows r ++ text ls ≡ sheet_of s.reading.chain rows)
unfolding read_lines text step_of Finite
lines_back rows [] r k begins h e f = append-nil (written rows r) ∙ all_written rows r k e
lines_back rows (l ∷ ls) r k begins h e f =
    by_verdict_lem (line_verdict true rows r (seen_of l.ended l.chars))
    (λ q. let t = taken r (padded (bytes_of l.chars)) in
    let h' : (read_lines true rows t ls).verdict ≡ Ok tt = rw q at h in
    let e' : complete (read_lines true rows t ls).reading ≡ true = rw q at e in
    let f' : bad_factor (read_lines true rows t ls).reading.chain.kernel ≡ false = rw q at f in
    let b' : Begins rows t ls = rw q at (behind_begins true rows r (seen_of l.ended l.chars) ls q) in
    let a = line_adds rows r k l begins q (λ z. ap (λ u. bad_factor u.chain.kernel) (sym (ended rows t ls z h')) ∙ f') in
    rw q
    (sym (append_assoc (written rows r) (l.chars ++ cond l.ended (line_feed ∷ []) []) (text ls))
    ∙ ap (λ w. w ++ text ls) (sym a.0)
    ∙ lines_back rows ls t a.1 b' h' e' f'))
    (λ x q. absurd (refused_accepted (rw q at h)))

kept_start : Kept start
unfolding Counted Boxed Ordered dims_of
kept_start = record { offsets = refl; capacities = refl; dims = omega arith; count = omega arith; counted = (refl, refl); boxed = refl; ordered = refl }

none_written : (rows : List ℕ) → written rows start ≡ []
unfolding written lines_read lines_to lines_from
none_written rows = refl

pub read_write : ReadWrite
unfolding numbers_in
read_write sheet c h =
    let a = accepted_sheet sheet c h in
    let rows = numbers_in sheet in
    ap (λ (d : Chain). sheet_of d rows) (accepted_read sheet c h)
    ∙ sym (lines_back rows (lines_of sheet) start kept_start (λ q. refl) a.0 a.1.0 (accepted_chain _ rows a.1.1).factors)
    ∙ ap (λ w. w ++ text (lines_of sheet)) (none_written rows)
    ∙ text_back sheet
