-- Reading a sheet line by line (document 01, "Lines of the sheet", "Turned back on account of the input"; document 02,
-- requests 1, 2, 4 and 5).
use Rattle.std.specs.Prelude.{ℕ, ◌+◌, ◌*◌, Bool, true, false, cond, not, ◌&&◌, List, [], ◌∷◌, ◌++◌, eqb, leb, ltb, ℤ, take, drop, set, replicate}
use Rattle.std.specs.Float.Ieee.{of_bits}
use Rattle.std.specs.Float.{binary32}
use Rattle.model.specs.declared.Kernel.{Kernel}
use Rattle.model.specs.declared.Kernel.TheVariants as kernel
use Rattle.model.specs.declared.Last.{Last}
use Rattle.model.specs.declared.Last.TheVariants as stood
use Rattle.model.specs.declared.Chain.{Chain}
use Rattle.model.specs.declared.Request.{Request}
use Rattle.model.specs.declared.Refusal.{Refusal}
use Rattle.model.specs.declared.Refusal.TheVariants as refusal
use Rattle.std.specs.Prelude.{Result, Ok, Err}
use Rattle.model.specs.declared.Reading.{Reading}
use Rattle.model.specs.declared.LineStep.{LineStep}
use Rattle.model.specs.Lists.{tabulate, any}
use Rattle.model.specs.Values.{rows_of, dims_of, with_reference, blank_chain, request_of, set_grid, set_window, set_bounds}
use Rattle.model.specs.Values.{set_capacities, set_order, set_kernel}
use Rattle.model.specs.Answers.{Verdict, Check, check, first_of, by_verdict}
use Rattle.model.specs.Judging.{bad_dims, bad_sizes, bad_row_count, bad_row, judge_chain}
use Rattle.model.specs.Planning.{judge_request}
use Rattle.model_sheet.specs.Lines.{Line, lines_of}
use Rattle.model_sheet.specs.Frames.{Seen, bytes_of, seen_of, row_numbers}
use Rattle.model_sheet.specs.Numbers.{byte_at, half_at, halves_of, word_at, signed, signed_word}
use Rattle.model_sheet.specs.NamedWindows.{bad_name, window_named}

-- The first byte, which says what kind of line it is; and the second: the dimension count of an `01` line, the kernel byte of
-- an `04` line, the name of an `07` line.
abbrev pub kind_of : Seen → ℕ
kind_of l = byte_at l.first 0

abbrev pub second_of : Seen → ℕ
second_of l = byte_at l.first 1

-- 1: an unknown kernel byte, or a length other than the kernel's.
unfoldable pub bad_kernel : (len second : ℕ) → Bool
bad_kernel len second =
    cond (leb second 1) (not (eqb len 2))
    (cond (eqb second 2) (not (eqb len 6))
    (cond (eqb second 3) (not (eqb len 10))
    true))

-- 1: an unknown first byte or kernel byte, a missing dimension count or row count, or a length other than the one that the
-- line itself sets.
unfoldable pub bad_form : (len kind second : ℕ) → Bool
bad_form len kind second =
    cond (eqb kind 1) (ltb len 2)
    (cond (eqb kind 2) false
    (cond (eqb kind 3) (not (eqb len 5))
    (cond (eqb kind 4) (bad_kernel len second)
    (cond (eqb kind 5) (not (eqb len 5))
    (cond (eqb kind 6) false
    (cond (eqb kind 7) (not (eqb len 2))
    (cond (eqb kind 8) false
    (cond (eqb kind 9) (ltb len 3)
    true))))))))

-- 1, before the order of lines: no sound frame, an empty line, or a bad form.
unfoldable pub malformed : (sound : Bool) (len kind second : ℕ) → Bool
malformed sound len kind second = cond sound (cond (eqb len 0) true (bad_form len kind second)) true

-- What may come next, by what stood last: "A request sheet is one `01`, one or more `02`, one `04`."; "A line `09` may stand
-- in place of `01`"; "A line `07` with one byte may stand for all `02` lines"; "a line `08` just after the last `02` or the
-- `07`".
unfoldable pub next_in_request : Last → List ℕ
next_in_request stood.Nothing = 1 ∷ 9 ∷ []
next_in_request stood.Grid = 2 ∷ 7 ∷ []
next_in_request stood.Offset = 2 ∷ 8 ∷ 4 ∷ []
next_in_request stood.Name = 8 ∷ 4 ∷ []
next_in_request stood.Box = 4 ∷ []
next_in_request stood.Capacity = []
next_in_request stood.Order = []
next_in_request stood.Kernel = []

-- "A chain sheet has n−1 `03` lines before the `04`", and may carry "a line `06` just before `04`": by what stood last,
unfoldable pub next_in_chain : Last → List ℕ
next_in_chain stood.Nothing = 1 ∷ 9 ∷ []
next_in_chain stood.Grid = 2 ∷ []
next_in_chain stood.Offset = 2 ∷ 8 ∷ 3 ∷ 6 ∷ 4 ∷ []
next_in_chain stood.Name = []
next_in_chain stood.Box = 3 ∷ 6 ∷ 4 ∷ []
next_in_chain stood.Capacity = 3 ∷ 6 ∷ 4 ∷ []
next_in_chain stood.Order = 4 ∷ []
next_in_chain stood.Kernel = []

-- and by their number, where `count` of the `02` lines and `given` of the `03` lines were read.
unfoldable pub miscounted : (given count kind : ℕ) → Bool
miscounted given count kind =
    cond (eqb kind 3) (leb count (given + 1))
    (cond (eqb kind 4) (not (eqb count (given + 1)))
    (cond (eqb kind 6) (not (eqb count (given + 1)))
    false))

unfoldable pub among : ℕ → List ℕ → Bool
among kind kinds = any (λ k. eqb kind k) kinds

-- 2: the line may not stand here.
unfoldable pub misplaced : (chain_sheet : Bool) → Last → (given count kind : ℕ) → Bool
misplaced chain_sheet last given count kind =
    cond chain_sheet
    (cond (among kind (next_in_chain last)) (miscounted given count kind) true)
    (not (among kind (next_in_request last)))

-- 1: a length other than the one that the dimension count or the row count sets, for an `02` or `08` line that of the grid
-- read before; or, for an `06` line, the `02` lines read before.
unfoldable pub bad_length : (len kind second row_count dims count : ℕ) → Bool
bad_length len kind second row_count dims count =
    cond (eqb kind 1) (not (eqb len (2 + 4 * second)))
    (cond (eqb kind 9) (not (eqb len (3 + 4 * row_count)))
    (cond (eqb kind 2) (not (eqb len (1 + 2 * dims)))
    (cond (eqb kind 6) (not (eqb len (1 + count)))
    (cond (eqb kind 8) (not (eqb len (1 + 8 * dims)))
    false))))

-- The sizes on an `01` line with the bytes x, 0 past its end.
unfoldable pub sizes_in : List ℕ → List ℕ
sizes_in x = word_at x 2 ∷ word_at x 6 ∷ word_at x 10 ∷ word_at x 14 ∷ []

-- The row count on an `09` line; and the numbers behind it on a line with the bytes x, as many as 512 rows have, 0 past its end.
abbrev pub row_count_of : Seen → ℕ
row_count_of l = half_at l.first 1

unfoldable pub numbers_on : List ℕ → List ℕ
numbers_on x = take row_numbers (halves_of (drop 3 x) ++ replicate row_numbers 0)

-- "On one line 1 comes before 2, but a length that another line sets, as in `02`, is checked after 2; on an `01` line a fault
-- of the frame or a missing count is 1, then its order 2, then a bad count 3, then a wrong length 1, then sizes 3. 4 comes at
-- the 33rd line, after 1 and 2." 13 is "looked at on its line, after 1 and 2". On an `09` line "the order is that of `01`,
-- with 16 for 3". `rows`: the numbers on the sheet's first line, behind its row count.
unfoldable pub line_checks : (chain_sheet : Bool) → (rows : List ℕ) → Reading → Seen → List Check
line_checks chain_sheet rows r l =
    let kind = kind_of l in
    let second = second_of l in
    let row_count = row_count_of l in
    let dims = dims_of r.chain.grid in
    let count = r.chain.window.count in
    check (malformed l.sound l.len kind second) refusal.Malformed
    ∷ check (misplaced chain_sheet r.last r.given count kind) refusal.Misplaced
    ∷ check (eqb kind 1 && bad_dims second) refusal.BadGrid
    ∷ check (eqb kind 9 && bad_row_count row_count) refusal.BadRows
    ∷ check (bad_length l.len kind second row_count dims count) refusal.Malformed
    ∷ check (eqb kind 1 && bad_sizes (take second (sizes_in l.first))) refusal.BadGrid
    ∷ check (eqb kind 9 && any bad_row (rows_of row_count rows)) refusal.BadRows
    ∷ check (eqb kind 2 && leb 32 count) refusal.BadCount
    ∷ check (eqb kind 7 && bad_name second dims) refusal.BadName
    ∷ []

unfoldable pub line_verdict : (chain_sheet : Bool) → (rows : List ℕ) → Reading → Seen → Verdict
line_verdict chain_sheet rows r l = first_of (line_checks chain_sheet rows r l)

-- What a line with the bytes x adds. An `01` line: the grid.
unfoldable pub with_grid : Reading → List ℕ → Reading
with_grid r x =
    record {
      last = stood.Grid;
      given = r.given;
      chain = set_grid (record { skewed = false; rows = 0; dims = byte_at x 1; sizes = sizes_in x }) r.chain;
    }

-- An `09` line: the rows, which stand beside the reading.
unfoldable pub with_rows : Reading → List ℕ → Reading
with_rows r x =
    record {
      last = stood.Grid;
      given = r.given;
      chain = set_grid (record { skewed = true; rows = half_at x 1; dims = 2; sizes = replicate 4 0 }) r.chain;
    }

-- The entries on an `02` line, 0 past its end.
unfoldable pub entries_in : List ℕ → List ℤ
entries_in x = signed (half_at x 1) ∷ signed (half_at x 3) ∷ signed (half_at x 5) ∷ signed (half_at x 7) ∷ []

-- An `02` line: the next reference's offset.
unfoldable pub with_offset : Reading → List ℕ → Reading
with_offset r x =
    record {
      last = stood.Offset;
      given = r.given;
      chain = set_window (with_reference r.chain.window (entries_in x)) r.chain;
    }

-- An `07` line: the window of that name.
unfoldable pub with_name : Reading → List ℕ → Reading
with_name r x =
    record { last = stood.Name; given = r.given; chain = set_window (window_named (byte_at x 1)) r.chain }

-- The lowest and the highest indices on an `08` line, 0 past its end.
unfoldable pub lowest_in : List ℕ → List ℤ
lowest_in x = signed_word (word_at x 1) ∷ signed_word (word_at x 9) ∷ signed_word (word_at x 17) ∷ signed_word (word_at x 25) ∷ []

unfoldable pub highest_in : List ℕ → List ℤ
highest_in x =
    signed_word (word_at x 5) ∷ signed_word (word_at x 13) ∷ signed_word (word_at x 21) ∷ signed_word (word_at x 29) ∷ []

-- An `08` line: the box.
unfoldable pub with_box : Reading → List ℕ → Reading
with_box r x =
    record {
      last = stood.Box;
      given = r.given;
      chain = set_bounds (record { stood = true; lowest = lowest_in x; highest = highest_in x }) r.chain;
    }

-- An `03` line: the next FIFO's capacity.
unfoldable pub with_capacity : Reading → List ℕ → Reading
with_capacity r x =
    let c = r.chain in
    record { last = stood.Capacity; given = r.given + 1; chain = set_capacities (set c.capacities r.given (word_at x 1)) c }

-- The filter numbers of n terms on an `06` line, 0 past the last.
unfoldable pub filters_in : (n : ℕ) → List ℕ → List ℕ
filters_in n x = tabulate 32 (λ t. cond (ltb t n) (byte_at x (1 + t)) 0)

-- An `06` line: the author's order.
unfoldable pub with_order : Reading → List ℕ → Reading
with_order r x =
    record {
      last = stood.Order;
      given = r.given;
      chain = set_order (record { stood = true; filters = filters_in r.chain.window.count x }) r.chain;
    }

unfoldable pub kernel_in : List ℕ → Kernel
kernel_in x =
    let which = byte_at x 1 in
    cond (eqb which 0) kernel.Raw
    (cond (eqb which 1) kernel.Difference
    (cond (eqb which 2) (kernel.Scaled (of_bits binary32 (word_at x 2)))
    (kernel.Blend (record { a = of_bits binary32 (word_at x 2); b = of_bits binary32 (word_at x 6) }))))

-- An `04` line: the kernel.
unfoldable pub with_kernel : Reading → List ℕ → Reading
with_kernel r x =
    record { last = stood.Kernel; given = r.given; chain = set_kernel (kernel_in x) r.chain }

-- Any line that is not turned back.
unfoldable pub taken : Reading → List ℕ → Reading
taken r x =
    let kind = byte_at x 0 in
    cond (eqb kind 1) (with_grid r x)
    (cond (eqb kind 2) (with_offset r x)
    (cond (eqb kind 3) (with_capacity r x)
    (cond (eqb kind 6) (with_order r x)
    (cond (eqb kind 7) (with_name r x)
    (cond (eqb kind 8) (with_box r x)
    (cond (eqb kind 9) (with_rows r x)
    (with_kernel r x)))))))

-- One line, read.
unfoldable pub step_of : (chain_sheet : Bool) → (rows : List ℕ) → Reading → Seen → LineStep
step_of chain_sheet rows r l =
    let v = line_verdict chain_sheet rows r l in
    record { verdict = v; reading = by_verdict v (taken r l.first) (λ x. r) }

-- Before the first line.
abbrev pub start : Reading
start = record { last = stood.Nothing; given = 0; chain = blank_chain }

-- The sheet is at its end: its `04` line was read.
unfoldable pub closes : Last → Bool
closes stood.Nothing = false
closes stood.Grid = false
closes stood.Offset = false
closes stood.Name = false
closes stood.Box = false
closes stood.Capacity = false
closes stood.Order = false
closes stood.Kernel = true

unfoldable pub complete : Reading → Bool
complete r = closes r.last

-- The lines from the top, up to the first that is turned back.
unfoldable pub read_lines : (chain_sheet : Bool) → (rows : List ℕ) → Reading → List Line → LineStep
read_lines chain_sheet rows r [] = record { verdict = Ok tt; reading = r }
read_lines chain_sheet rows r (l ∷ ls) =
    let s = step_of chain_sheet rows r (seen_of l.ended l.chars) in
    let rest = read_lines chain_sheet rows s.reading ls in
    by_verdict s.verdict rest (λ x. s)

-- After the last line: 2 where one is "missing at the end"; then 5 to 9, 14 and 15, by judging the value that was read, of
-- which 3, 16 and 4 hold no more.
unfoldable pub end_verdict : LineStep → (judged : Verdict) → Verdict
end_verdict s judged =
    let at_end = cond (complete s.reading) judged (Err refusal.Misplaced) in
    by_verdict s.verdict at_end Err

-- The numbers on a sheet's first line: the rows of its grid, where it is skewed.
abbrev pub first_numbers : List Line → List ℕ
first_numbers [] = numbers_on []
first_numbers (l ∷ ls) = numbers_on (bytes_of l.chars)

unfoldable pub numbers_in : List ℕ → List ℕ
numbers_in sheet = first_numbers (lines_of sheet)

unfoldable pub read_chain : List ℕ → Result Chain Refusal
read_chain sheet =
    let rows = numbers_in sheet in
    let s = read_lines true rows start (lines_of sheet) in
    by_verdict (end_verdict s (judge_chain s.reading.chain rows)) (Ok s.reading.chain) Err

unfoldable pub read_request : List ℕ → Result Request Refusal
read_request sheet =
    let rows = numbers_in sheet in
    let s = read_lines false rows start (lines_of sheet) in
    let r = request_of s.reading.chain in
    by_verdict (end_verdict s (judge_request r rows)) (Ok r) Err

-- Where a cell is wanted: 1 as on any line, then 2 for a line other than `05`; and the cell of an `05` line.
unfoldable pub cell_verdict : Seen → Verdict
cell_verdict l =
    first_of
    (check (malformed l.sound l.len (kind_of l) (second_of l)) refusal.Malformed
    ∷ check (not (eqb (kind_of l) 5)) refusal.Misplaced
    ∷ [])

abbrev pub cell_in : Seen → ℕ
cell_in l = word_at l.first 1
