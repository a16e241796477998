-- What is known of a line that is not turned back.
use Prim.Native.Nat.{ℕ, ◌+◌, ◌*◌, ◌≤◌, ◌<◌}
use mathlib.Core.Bool.{Bool, true, false, ◌&&◌}
use mathlib.Core.List.{List, ◌∷◌}
use mathlib.Core.Logic.{◌⊎◌, inl, inr}
use mathlib.Core.Path.{◌≡◌, refl, sym, ap}
use native.Mathlib.Omega.{arith}
use lib.Dec.{eqb, leb, ltb}
use lib.ListN.{take}
use borrow.Author.Tests.{ne_eqb, eqb-true, eqb-false, leb-false, ltb-false, not-false}
use Rattle.model.specs.declared.Last.{Last}
use Rattle.model.specs.declared.Last.TheVariants as stood
use Rattle.model.specs.declared.Reading.{Reading}
use Rattle.model.specs.declared.Refusal.{Refusal}
use Rattle.std.specs.Prelude.{Ok, Err}
use Rattle.model.specs.Lists.{any}
use Rattle.model.specs.Values.{rows_of, dims_of}
use Rattle.model.specs.Answers.{Verdict, Check, check, first_of, by_verdict}
use Rattle.model.specs.Judging.{bad_dims, bad_sizes, bad_row, bad_row_count}
use Rattle.model_sheet.specs.Frames.{Seen}
use Rattle.model_sheet.specs.Numbers.{byte_at}
use Rattle.model_sheet.specs.NamedWindows.{bad_name}
use Rattle.model_sheet.specs.Reading.{kind_of, second_of, row_count_of, bad_kernel, bad_form, malformed, bad_length, sizes_in, line_checks, line_verdict}
use Rattle.model_sheet.specs.Reading.{next_in_request, next_in_chain, miscounted, among, misplaced, closes, complete}
use Rattle.model_sheet.specs.Reading.{taken, with_grid, with_rows, with_offset, with_name, with_box, with_capacity, with_order, with_kernel}
use Rattle.sheet_laws.proofs.Cases.{by_eq, never, of_kind, both, neither, or-false}

-- A refusal is no acceptance.
pub refused_accepted : {r : Refusal} → ◌≡◌ {A = Verdict} (Err r) (Ok tt) → ⊥
refused_accepted h = never (ap (λ v. by_verdict v false (λ x. true)) h)

-- Where nothing is answered, the first condition does not hold, nor does any other.
pub clear : (b : Bool) (r : Refusal) (cs : List Check) → first_of (check b r ∷ cs) ≡ Ok tt → (b ≡ false) × (first_of cs ≡ Ok tt)
unfolding first_of
clear true r cs h = absurd (refused_accepted h)
clear false r cs h = (refl, h)

-- What stood last where an `03` or `06` line is in its place: an `02`, `08` or `03` line.
pub data BehindOffsets (last : Last) : Type 0 where
  offsets : last ≡ stood.Offset → BehindOffsets last
  bounds : last ≡ stood.Box → BehindOffsets last
  capacities : last ≡ stood.Capacity → BehindOffsets last

-- And where the `04` line is: one of these, in a chain sheet an `06` line, in a request sheet an `07` line.
pub data BehindWindow (chain_sheet : Bool) (last : Last) : Type 0 where
  filters : BehindOffsets last → BehindWindow chain_sheet last
  terms : chain_sheet ≡ true → last ≡ stood.Order → BehindWindow chain_sheet last
  named : chain_sheet ≡ false → last ≡ stood.Name → BehindWindow chain_sheet last

-- A line that is not turned back: one case for each kind, with what was checked of it.
pub data Admitted (chain_sheet : Bool) (rows : List ℕ) (r : Reading) (l : Seen) : Type 0 where
  grid : kind_of l ≡ 1 → r.last ≡ stood.Nothing → 0 < second_of l → second_of l ≤ 4 → l.len ≡ 2 + 4 * second_of l
      → bad_sizes (take (second_of l) (sizes_in l.first)) ≡ false → Admitted chain_sheet rows r l
  skewed_grid : kind_of l ≡ 9 → r.last ≡ stood.Nothing → 0 < row_count_of l → row_count_of l ≤ 512 → l.len ≡ 3 + 4 * row_count_of l
      → any bad_row (rows_of (row_count_of l) rows) ≡ false → Admitted chain_sheet rows r l
  offset : kind_of l ≡ 2 → (r.last ≡ stood.Grid) ⊎ (r.last ≡ stood.Offset) → l.len ≡ 1 + 2 * dims_of r.chain.grid → r.chain.window.count < 32 → Admitted chain_sheet rows r l
  box : kind_of l ≡ 8 → (r.last ≡ stood.Offset) ⊎ ((chain_sheet ≡ false) × (r.last ≡ stood.Name)) → l.len ≡ 1 + 8 * dims_of r.chain.grid → Admitted chain_sheet rows r l
  capacity : kind_of l ≡ 3 → BehindOffsets r.last → chain_sheet ≡ true → r.given + 1 < r.chain.window.count → l.len ≡ 5 → Admitted chain_sheet rows r l
  order : kind_of l ≡ 6 → BehindOffsets r.last → chain_sheet ≡ true → r.chain.window.count ≡ r.given + 1
      → l.len ≡ 1 + r.chain.window.count → Admitted chain_sheet rows r l
  kernel : kind_of l ≡ 4 → BehindWindow chain_sheet r.last → (chain_sheet ≡ true → r.chain.window.count ≡ r.given + 1)
      → bad_kernel l.len (second_of l) ≡ false → Admitted chain_sheet rows r l
  name : kind_of l ≡ 7 → r.last ≡ stood.Grid → chain_sheet ≡ false → l.len ≡ 2 → bad_name (second_of l) (dims_of r.chain.grid) ≡ false → Admitted chain_sheet rows r l

-- The tests that came out false, on plain numbers.
module _ (sound : Bool) (len kind second : ℕ) (h : malformed sound len kind second ≡ false) where
  well_formed : (sound ≡ true) × (bad_form len kind second ≡ false)
  unfolding malformed
  well_formed = let s = both sound _ h in (s.0, (neither (eqb len 0) _ s.1).1)

  formed_capacity : kind ≡ 3 → len ≡ 5
  unfolding bad_form
  formed_capacity e = eqb-true len 5 (not-false _ (rw e at well_formed.1))

  formed_kernel : kind ≡ 4 → bad_kernel len second ≡ false
  unfolding bad_form
  formed_kernel e = rw e at well_formed.1

  formed_name : kind ≡ 7 → len ≡ 2
  unfolding bad_form
  formed_name e = eqb-true len 2 (not-false _ (rw e at well_formed.1))

  formed_cell : (kind ≡ 1 → ⊥) → (kind ≡ 2 → ⊥) → (kind ≡ 3 → ⊥) → (kind ≡ 4 → ⊥) → (kind ≡ 6 → ⊥) → (kind ≡ 7 → ⊥) → (kind ≡ 8 → ⊥) → (kind ≡ 9 → ⊥) → kind ≡ 5
  unfolding bad_form
  formed_cell a b c d f g i j =
      by_eq kind 5
      (λ e. e)
      (λ e. absurd (never (simp (ne_eqb _ _ a, ne_eqb _ _ b, ne_eqb _ _ c, ne_eqb _ _ d, ne_eqb _ _ e, ne_eqb _ _ f, ne_eqb _ _ g, ne_eqb _ _ i, ne_eqb _ _ j) at well_formed.1)))

-- What stood last, where a line of each kind is in its place.
module _ (given count : ℕ) where
  placed_grid : (chain_sheet : Bool) (last : Last) → misplaced chain_sheet last given count 1 ≡ false → last ≡ stood.Nothing
  unfolding misplaced among any next_in_request next_in_chain
  placed_grid chain_sheet stood.Nothing h = refl
  placed_grid true stood.Grid h = absurd (never h)
  placed_grid false stood.Grid h = absurd (never h)
  placed_grid true stood.Offset h = absurd (never h)
  placed_grid false stood.Offset h = absurd (never h)
  placed_grid true stood.Name h = absurd (never h)
  placed_grid false stood.Name h = absurd (never h)
  placed_grid true stood.Box h = absurd (never h)
  placed_grid false stood.Box h = absurd (never h)
  placed_grid true stood.Capacity h = absurd (never h)
  placed_grid false stood.Capacity h = absurd (never h)
  placed_grid true stood.Order h = absurd (never h)
  placed_grid true stood.Kernel h = absurd (never h)
  placed_grid false stood.Order h = absurd (never h)
  placed_grid false stood.Kernel h = absurd (never h)

  placed_rows : (chain_sheet : Bool) (last : Last) → misplaced chain_sheet last given count 9 ≡ false → last ≡ stood.Nothing
  unfolding misplaced among any next_in_request next_in_chain
  placed_rows chain_sheet stood.Nothing h = refl
  placed_rows true stood.Grid h = absurd (never h)
  placed_rows false stood.Grid h = absurd (never h)
  placed_rows true stood.Offset h = absurd (never h)
  placed_rows false stood.Offset h = absurd (never h)
  placed_rows true stood.Name h = absurd (never h)
  placed_rows false stood.Name h = absurd (never h)
  placed_rows true stood.Box h = absurd (never h)
  placed_rows false stood.Box h = absurd (never h)
  placed_rows true stood.Capacity h = absurd (never h)
  placed_rows false stood.Capacity h = absurd (never h)
  placed_rows true stood.Order h = absurd (never h)
  placed_rows true stood.Kernel h = absurd (never h)
  placed_rows false stood.Order h = absurd (never h)
  placed_rows false stood.Kernel h = absurd (never h)

  placed_offset : (chain_sheet : Bool) (last : Last) → misplaced chain_sheet last given count 2 ≡ false → (last ≡ stood.Grid) ⊎ (last ≡ stood.Offset)
  unfolding misplaced among any next_in_request next_in_chain
  placed_offset true stood.Nothing h = absurd (never h)
  placed_offset false stood.Nothing h = absurd (never h)
  placed_offset chain_sheet stood.Grid h = inl refl
  placed_offset chain_sheet stood.Offset h = inr refl
  placed_offset true stood.Name h = absurd (never h)
  placed_offset false stood.Name h = absurd (never h)
  placed_offset true stood.Box h = absurd (never h)
  placed_offset false stood.Box h = absurd (never h)
  placed_offset true stood.Capacity h = absurd (never h)
  placed_offset false stood.Capacity h = absurd (never h)
  placed_offset true stood.Order h = absurd (never h)
  placed_offset true stood.Kernel h = absurd (never h)
  placed_offset false stood.Order h = absurd (never h)
  placed_offset false stood.Kernel h = absurd (never h)

  placed_capacity : (chain_sheet : Bool) (last : Last) → misplaced chain_sheet last given count 3 ≡ false
      → BehindOffsets last × (chain_sheet ≡ true) × (given + 1 < count)
  unfolding misplaced among any next_in_request next_in_chain miscounted
  placed_capacity true stood.Nothing h = absurd (never h)
  placed_capacity true stood.Grid h = absurd (never h)
  placed_capacity true stood.Offset h = (offsets refl, refl, leb-false _ _ h)
  placed_capacity true stood.Name h = absurd (never h)
  placed_capacity true stood.Box h = (bounds refl, refl, leb-false _ _ h)
  placed_capacity true stood.Capacity h = (capacities refl, refl, leb-false _ _ h)
  placed_capacity true stood.Order h = absurd (never h)
  placed_capacity true stood.Kernel h = absurd (never h)
  placed_capacity false stood.Nothing h = absurd (never h)
  placed_capacity false stood.Grid h = absurd (never h)
  placed_capacity false stood.Offset h = absurd (never h)
  placed_capacity false stood.Name h = absurd (never h)
  placed_capacity false stood.Box h = absurd (never h)
  placed_capacity false stood.Capacity h = absurd (never h)
  placed_capacity false stood.Order h = absurd (never h)
  placed_capacity false stood.Kernel h = absurd (never h)

  placed_kernel : (chain_sheet : Bool) (last : Last) → misplaced chain_sheet last given count 4 ≡ false
      → BehindWindow chain_sheet last × (chain_sheet ≡ true → count ≡ given + 1)
  unfolding misplaced among any next_in_request next_in_chain miscounted
  placed_kernel true stood.Nothing h = absurd (never h)
  placed_kernel true stood.Grid h = absurd (never h)
  placed_kernel true stood.Offset h = (filters (offsets refl), λ z. eqb-true _ _ (not-false _ h))
  placed_kernel true stood.Name h = absurd (never h)
  placed_kernel true stood.Box h = (filters (bounds refl), λ z. eqb-true _ _ (not-false _ h))
  placed_kernel true stood.Capacity h = (filters (capacities refl), λ z. eqb-true _ _ (not-false _ h))
  placed_kernel true stood.Order h = (terms refl refl, λ z. eqb-true _ _ (not-false _ h))
  placed_kernel true stood.Kernel h = absurd (never h)
  placed_kernel false stood.Nothing h = absurd (never h)
  placed_kernel false stood.Grid h = absurd (never h)
  placed_kernel false stood.Offset h = (filters (offsets refl), λ z. absurd (never (sym z)))
  placed_kernel false stood.Name h = (named refl refl, λ z. absurd (never (sym z)))
  placed_kernel false stood.Box h = (filters (bounds refl), λ z. absurd (never (sym z)))
  placed_kernel false stood.Capacity h = absurd (never h)
  placed_kernel false stood.Order h = absurd (never h)
  placed_kernel false stood.Kernel h = absurd (never h)

  placed_order : (chain_sheet : Bool) (last : Last) → misplaced chain_sheet last given count 6 ≡ false
      → BehindOffsets last × (chain_sheet ≡ true) × (count ≡ given + 1)
  unfolding misplaced among any next_in_request next_in_chain miscounted
  placed_order true stood.Nothing h = absurd (never h)
  placed_order true stood.Grid h = absurd (never h)
  placed_order true stood.Offset h = (offsets refl, refl, eqb-true _ _ (not-false _ h))
  placed_order true stood.Name h = absurd (never h)
  placed_order true stood.Box h = (bounds refl, refl, eqb-true _ _ (not-false _ h))
  placed_order true stood.Capacity h = (capacities refl, refl, eqb-true _ _ (not-false _ h))
  placed_order true stood.Order h = absurd (never h)
  placed_order true stood.Kernel h = absurd (never h)
  placed_order false stood.Nothing h = absurd (never h)
  placed_order false stood.Grid h = absurd (never h)
  placed_order false stood.Offset h = absurd (never h)
  placed_order false stood.Name h = absurd (never h)
  placed_order false stood.Box h = absurd (never h)
  placed_order false stood.Capacity h = absurd (never h)
  placed_order false stood.Order h = absurd (never h)
  placed_order false stood.Kernel h = absurd (never h)

  never_cell : (chain_sheet : Bool) (last : Last) → misplaced chain_sheet last given count 5 ≡ false → ⊥
  unfolding misplaced among any next_in_request next_in_chain
  never_cell true stood.Nothing h = never h
  never_cell true stood.Grid h = never h
  never_cell true stood.Offset h = never h
  never_cell true stood.Name h = never h
  never_cell true stood.Box h = never h
  never_cell true stood.Capacity h = never h
  never_cell true stood.Order h = never h
  never_cell true stood.Kernel h = never h
  never_cell false stood.Nothing h = never h
  never_cell false stood.Grid h = never h
  never_cell false stood.Offset h = never h
  never_cell false stood.Name h = never h
  never_cell false stood.Box h = never h
  never_cell false stood.Capacity h = never h
  never_cell false stood.Order h = never h
  never_cell false stood.Kernel h = never h

  placed_name : (chain_sheet : Bool) (last : Last) → misplaced chain_sheet last given count 7 ≡ false → (last ≡ stood.Grid) × (chain_sheet ≡ false)
  unfolding misplaced among any next_in_request next_in_chain
  placed_name true stood.Nothing h = absurd (never h)
  placed_name true stood.Grid h = absurd (never h)
  placed_name true stood.Offset h = absurd (never h)
  placed_name true stood.Name h = absurd (never h)
  placed_name true stood.Box h = absurd (never h)
  placed_name true stood.Capacity h = absurd (never h)
  placed_name true stood.Order h = absurd (never h)
  placed_name true stood.Kernel h = absurd (never h)
  placed_name false stood.Nothing h = absurd (never h)
  placed_name false stood.Grid h = (refl, refl)
  placed_name false stood.Offset h = absurd (never h)
  placed_name false stood.Name h = absurd (never h)
  placed_name false stood.Box h = absurd (never h)
  placed_name false stood.Capacity h = absurd (never h)
  placed_name false stood.Order h = absurd (never h)
  placed_name false stood.Kernel h = absurd (never h)

  placed_box : (chain_sheet : Bool) (last : Last) → misplaced chain_sheet last given count 8 ≡ false
      → (last ≡ stood.Offset) ⊎ ((chain_sheet ≡ false) × (last ≡ stood.Name))
  unfolding misplaced among any next_in_request next_in_chain
  placed_box true stood.Nothing h = absurd (never h)
  placed_box true stood.Grid h = absurd (never h)
  placed_box true stood.Offset h = inl refl
  placed_box true stood.Name h = absurd (never h)
  placed_box true stood.Box h = absurd (never h)
  placed_box true stood.Capacity h = absurd (never h)
  placed_box true stood.Order h = absurd (never h)
  placed_box true stood.Kernel h = absurd (never h)
  placed_box false stood.Nothing h = absurd (never h)
  placed_box false stood.Grid h = absurd (never h)
  placed_box false stood.Offset h = inl refl
  placed_box false stood.Name h = inr (refl, refl)
  placed_box false stood.Box h = absurd (never h)
  placed_box false stood.Capacity h = absurd (never h)
  placed_box false stood.Order h = absurd (never h)
  placed_box false stood.Kernel h = absurd (never h)

pub dims_in_order : (dims : ℕ) → bad_dims dims ≡ false → (0 < dims) × (dims ≤ 4)
unfolding bad_dims
dims_in_order dims h =
    let n = or-false (eqb dims 0) (ltb 4 dims) h in
    (omega (arith, eqb-false dims 0 n.0), ltb-false 4 dims n.1)

pub rows_in_order : (n : ℕ) → bad_row_count n ≡ false → (0 < n) × (n ≤ 512)
unfolding bad_row_count
rows_in_order n h =
    let m = or-false (eqb n 0) (ltb 512 n) h in
    (omega (arith, eqb-false n 0 m.0), ltb-false 512 n m.1)

module _ (len kind second row_count dims count : ℕ) (h : bad_length len kind second row_count dims count ≡ false) where
  grid_length : kind ≡ 1 → len ≡ 2 + 4 * second
  unfolding bad_length
  grid_length e = eqb-true len _ (not-false _ (rw e at h))

  rows_length : kind ≡ 9 → len ≡ 3 + 4 * row_count
  unfolding bad_length
  rows_length e = eqb-true len _ (not-false _ (rw e at h))

  offset_length : kind ≡ 2 → len ≡ 1 + 2 * dims
  unfolding bad_length
  offset_length e = eqb-true len _ (not-false _ (rw e at h))

  order_length : kind ≡ 6 → len ≡ 1 + count
  unfolding bad_length
  order_length e = eqb-true len _ (not-false _ (rw e at h))

  box_length : kind ≡ 8 → len ≡ 1 + 8 * dims
  unfolding bad_length
  box_length e = eqb-true len _ (not-false _ (rw e at h))

pub admitted : (chain_sheet : Bool) (rows : List ℕ) (r : Reading) (l : Seen) → line_verdict chain_sheet rows r l ≡ Ok tt → (l.sound ≡ true) × Admitted chain_sheet rows r l
unfolding line_verdict line_checks
admitted chain_sheet rows r l h =
    let form = clear _ _ _ h in
    let place = clear _ _ _ form.1 in
    let dims = clear _ _ _ place.1 in
    let lines = clear _ _ _ dims.1 in
    let size = clear _ _ _ lines.1 in
    let sizes = clear _ _ _ size.1 in
    let cells = clear _ _ _ sizes.1 in
    let many = clear _ _ _ cells.1 in
    let names = clear _ _ _ many.1 in
    go form.0 place.0 dims.0 lines.0 size.0 sizes.0 cells.0 many.0 names.0
  where
    go : malformed l.sound l.len (kind_of l) (second_of l) ≡ false
        → misplaced chain_sheet r.last r.given r.chain.window.count (kind_of l) ≡ false
        → (eqb (kind_of l) 1 && bad_dims (second_of l)) ≡ false
        → (eqb (kind_of l) 9 && bad_row_count (row_count_of l)) ≡ false
        → bad_length l.len (kind_of l) (second_of l) (row_count_of l) (dims_of r.chain.grid) r.chain.window.count ≡ false
        → (eqb (kind_of l) 1 && bad_sizes (take (second_of l) (sizes_in l.first))) ≡ false
        → (eqb (kind_of l) 9 && any bad_row (rows_of (row_count_of l) rows)) ≡ false
        → (eqb (kind_of l) 2 && leb 32 r.chain.window.count) ≡ false
        → (eqb (kind_of l) 7 && bad_name (second_of l) (dims_of r.chain.grid)) ≡ false
        → (l.sound ≡ true) × Admitted chain_sheet rows r l
    go form place dims lines size sizes cells many names =
        let given = r.given in
        let count = r.chain.window.count in (
          (well_formed _ _ _ _ form).0,
          by_eq (kind_of l) 1
              (λ e. let d = dims_in_order _ (of_kind _ 1 _ dims e) in
              grid e (placed_grid given count chain_sheet r.last (rw e at place)) d.0 d.1 (grid_length _ _ _ _ _ _ size e) (of_kind _ 1 _ sizes e))
              (λ n1. by_eq (kind_of l) 2
              (λ e. offset e (placed_offset given count chain_sheet r.last (rw e at place)) (offset_length _ _ _ _ _ _ size e) (leb-false _ _ (of_kind _ 2 _ many e)))
              (λ n2. by_eq (kind_of l) 3
              (λ e. let p = placed_capacity given count chain_sheet r.last (rw e at place) in
              capacity e p.0 p.1 p.2 (formed_capacity _ _ _ _ form e))
              (λ n3. by_eq (kind_of l) 4
              (λ e. let p = placed_kernel given count chain_sheet r.last (rw e at place) in kernel e p.0 p.1 (formed_kernel _ _ _ _ form e))
              (λ n4. by_eq (kind_of l) 6
              (λ e. let p = placed_order given count chain_sheet r.last (rw e at place) in order e p.0 p.1 p.2 (order_length _ _ _ _ _ _ size e))
              (λ n6. by_eq (kind_of l) 7
              (λ e. let p = placed_name given count chain_sheet r.last (rw e at place) in name e p.0 p.1 (formed_name _ _ _ _ form e) (of_kind _ 7 _ names e))
              (λ n7. by_eq (kind_of l) 8
              (λ e. box e (placed_box given count chain_sheet r.last (rw e at place)) (box_length _ _ _ _ _ _ size e))
              (λ n8. by_eq (kind_of l) 9
              (λ e. let d = rows_in_order _ (of_kind _ 9 _ lines e) in
              skewed_grid e (placed_rows given count chain_sheet r.last (rw e at place)) d.0 d.1 (rows_length _ _ _ _ _ _ size e) (of_kind _ 9 _ cells e))
              (λ n9. let e = formed_cell _ _ _ _ form n1 n2 n3 n4 n6 n7 n8 n9 in absurd (never_cell given count chain_sheet r.last (rw e at place)))))))))),
        )

-- No line comes behind the `04` line.
not_closed : {last : Last} → BehindOffsets last → closes last ≡ false
unfolding closes
not_closed (offsets e) = ap closes e
not_closed (bounds e) = ap closes e
not_closed (capacities e) = ap closes e

pub not_complete : (chain_sheet : Bool) (rows : List ℕ) (r : Reading) (l : Seen) → Admitted chain_sheet rows r l → complete r ≡ false
unfolding complete closes
not_complete chain_sheet rows r l (grid e last some few len sizes) = ap closes last
not_complete chain_sheet rows r l (skewed_grid e last some few len cells) = ap closes last
not_complete chain_sheet rows r l (offset e (inl last) len count) = ap closes last
not_complete chain_sheet rows r l (offset e (inr last) len count) = ap closes last
not_complete chain_sheet rows r l (box e (inl last) len) = ap closes last
not_complete chain_sheet rows r l (box e (inr (request, last)) len) = ap closes last
not_complete chain_sheet rows r l (capacity e behind chain given len) = not_closed behind
not_complete chain_sheet rows r l (order e behind chain given len) = not_closed behind
not_complete chain_sheet rows r l (kernel e (filters behind) given form) = not_closed behind
not_complete chain_sheet rows r l (kernel e (terms chain last) given form) = ap closes last
not_complete chain_sheet rows r l (kernel e (named request last) given form) = ap closes last
not_complete chain_sheet rows r l (name e last request len ok) = ap closes last

-- What a line of each kind adds.
module _ (r : Reading) (x : List ℕ) where
  pub taken_grid : byte_at x 0 ≡ 1 → taken r x ≡ with_grid r x
  unfolding taken
  taken_grid e = rw e

  pub taken_rows : byte_at x 0 ≡ 9 → taken r x ≡ with_rows r x
  unfolding taken
  taken_rows e = rw e

  pub taken_offset : byte_at x 0 ≡ 2 → taken r x ≡ with_offset r x
  unfolding taken
  taken_offset e = rw e

  pub taken_capacity : byte_at x 0 ≡ 3 → taken r x ≡ with_capacity r x
  unfolding taken
  taken_capacity e = rw e

  pub taken_order : byte_at x 0 ≡ 6 → taken r x ≡ with_order r x
  unfolding taken
  taken_order e = rw e

  pub taken_kernel : byte_at x 0 ≡ 4 → taken r x ≡ with_kernel r x
  unfolding taken
  taken_kernel e = rw e

  pub taken_name : byte_at x 0 ≡ 7 → taken r x ≡ with_name r x
  unfolding taken
  taken_name e = rw e

  pub taken_box : byte_at x 0 ≡ 8 → taken r x ≡ with_box r x
  unfolding taken
  taken_box e = rw e
