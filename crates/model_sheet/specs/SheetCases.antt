-- The sheets that document 01 prints, and damaged ones, read by computation; an accepted chain sheet is written back.
use Rattle.std.specs.Prelude.{ℕ, zero, suc, ◌+◌, ◌-◌, ◌≡◌, refl, Bool, true, false, ◌&&◌, eqb, length, take, drop, replicate, Result}
use Rattle.std.specs.Result.{result_unwrap_or}
use Prim.Native.Char.{code}
use Prim.Native.String.{String, ◌++◌}
use Prim.Native.String as Text
use mathlib.Core.List.{List, [], ◌∷◌, flat_map}
use Rattle.std.specs.Float.Ieee.{of_bits, to_bits}
use Rattle.model.specs.declared.Chain.{Chain}
use Rattle.model.specs.Lists.{tabulate, up_to, sum, product, greatest, all, any, some_below}
use Rattle.model.specs.Vectors.{same, above, plus, equal, before, is_zero}
use Rattle.model.specs.Geometry.{place, natural, first_entry, other_entries, least_from, least, lows, extent, extents}
use Rattle.model.specs.Geometry as rectangular
use Rattle.model.specs.Grounds.{cell_count, inside, cell_place, position, cell_at, is_iteration, cells_above, row_cells, has_column}
use Rattle.model.specs.Grounds.{inside_rows, row_place, row_at, column_at}
use Rattle.model.specs.Courses.{count, vector, all_iterations, smallest, rows_down, columns_on, common_start, common_end, common_row}
use Rattle.model.specs.Geometry.{indices}
use Rattle.model.specs.Boxes.{index_count, widths, box_shape, box_course, course, crossed, reads_outside, bad_box, equal_rows}
use Rattle.model.specs.Values.{sizes_of, offset_of, offsets_of, part_of, capacities_of, order_of, trimmed, blank_chain, ground_of}
use Rattle.model.specs.Values.{dims_of, rows_of}
use Rattle.model.specs.Iterations.{position_of, course_of, iteration_of, reads_of, firsts, distance_in, distance_of, firsts_from}
use Rattle.model.specs.Answers.{number_of, verdict_of, verdict_number, first_of, by_verdict, by_answer}
use Rattle.model.specs.declared.Refusal.{Refusal}
use Rattle.model.specs.Judging.{bad_dims, bad_sizes, bad_grid, bad_count, repeats, no_iteration, needs_centre, lacks_centre}
use Rattle.model.specs.Judging.{not_finite, bad_factor, too_large, twice, bad_order, window_checks, kernel_checks, chain_checks}
use Rattle.model.specs.Judging.{value_checks, judged, judge_chain, bad_row, bad_row_count, bad_rows}
use Rattle.model.specs.Steps.{insert, falling, which_of, authors_order, sorted, distances}
use Rattle.model.specs.Planning.{trimmed_request, judge_request}
use Rattle.model_sheet.specs.Lines.{lines_of}
use Rattle.model_sheet.specs.Frames.{is_digit, value_of, digit_of, whole, bytes_of, digits_of, framed, padded, seen_of}
use Rattle.model_sheet.specs.Numbers.{half_at, halves_of, word_at, half_bytes, word_bytes, signed, pattern, signed_word}
use Rattle.model_sheet.specs.Numbers.{word_pattern}
use Rattle.model_sheet.specs.Reading.{bad_kernel, bad_form, malformed, next_in_request, next_in_chain, miscounted, among}
use Rattle.model_sheet.specs.Reading.{misplaced, bad_length, sizes_in, line_checks, line_verdict, numbers_on, numbers_in}
use Rattle.model_sheet.specs.Reading.{with_rows}
use Rattle.model_sheet.specs.NamedWindows.{windows, is_name, named_of, bad_name, with_references, window_named}
use Rattle.model_sheet.specs.Reading.{with_grid, entries_in, with_offset, with_name, lowest_in, highest_in, with_box}
use Rattle.model_sheet.specs.Reading.{with_capacity, filters_in, with_order, kernel_in, with_kernel, taken, step_of, closes}
use Rattle.model_sheet.specs.Reading.{complete, read_lines, end_verdict}
use Rattle.model_sheet.specs.Reading.{read_chain, read_request, cell_verdict}
use Rattle.model_sheet.specs.Writing.{ground_line, offset_line, index_pair, box_lines, capacity_line, order_lines, kernel_line}
use Rattle.model_sheet.specs.Writing.{chain_lines, sheet_of, write_verdict, write_of}

-- A text's characters, as bytes.
unfoldable pub bytes_in : String → List ℕ
bytes_in Text.[] = []
bytes_in (Text.◌∷◌ c t) = code c ∷ bytes_in t

unfoldable pub times : ℕ → String → String
times zero t = ""
times (suc n) t = t ++ times n t

-- A sheet, and the number that turns it back, or 0.
pub record Case : Type 0 where
  pub sheet : String
  pub number : ℕ

abbrev pub case : String → ℕ → Case
case t n = record { sheet = t; number = n }

-- A grid of size 5.
abbrev pub five : String
five = "010100000005\n"

-- A grid of 4 rows of 5 cells, and one of 3 by 4 by 3.
abbrev pub plane : String
plane = "01020000000400000005\n"

abbrev pub solid : String
solid = "0103000000030000000400000003\n"

-- A chain of 32 references in a row, one apart, up to its `06` line; and the bytes of 31 to 0.
abbrev pub ruler : String
ruler =
    "010100000040\n02001F\n02001E\n02001D\n02001C\n02001B\n02001A\n020019\n020018\n020017\n020016\n020015\n020014\n020013\n020012\n020011\n020010\n02000F\n02000E\n02000D\n02000C\n02000B\n02000A\n020009\n020008\n020007\n020006\n020005\n020004\n020003\n020002\n020001\n020000\n"
    ++ times 31 "0300000001\n"

abbrev pub all32 : String
all32 = "1F1E1D1C1B1A191817161514131211100F0E0D0C0B0A09080706050403020100"

-- Document 01's chain sheet.
abbrev pub printed : String
printed = "010100000005\n020003\n020000\n0300000003\n0400\n"

-- Rows (2, 2), (2, 1), (2, 1).
abbrev tapered : String
tapered = "090003000200020002000100020001\n"

unfoldable pub requests : List Case
requests =
    -- document 01's; a single reference; the most cells; the most places
    case (five ++ "020000\n020003\n0400\n") 0
    ∷ case (five ++ "020000\n0400\n") 0
    ∷ case "01020000040000000400\n0200000000\n0400\n" 0
    ∷ case "010100004E20\n020000\n024000\n0400\n" 0
    -- no line; an empty line, also as the last; a last line without LF, also out of order
    ∷ case "" 2
    ∷ case "\n" 1
    ∷ case (five ++ "020000\n0400\n\n") 1
    ∷ case (five ++ "020000\n0400") 1
    ∷ case "0400" 1
    -- odd; another character: next to the digits, lowercase, CR, NUL, a space, a byte order mark
    ∷ case "020\n" 1
    ∷ case "020/\n" 1
    ∷ case "020:\n" 1
    ∷ case "020@\n" 1
    ∷ case "020G\n" 1
    ∷ case "020a\n" 1
    ∷ case "020\r\n" 1
    ∷ case "020\0\n" 1
    ∷ case "02 0\n" 1
    ∷ case "ï»¿010100000005\n" 1
    -- an `09` line: accepted; a missing count, also out of order; its order; its count; its length; starts and lengths; the
    -- length of an `02` line behind it
    ∷ case (tapered ++ "0200000000\n02FFFF0000\n0400\n") 0
    ∷ case "0900010FFF0400\n0200000000\n0400\n" 0
    ∷ case "09\n" 1
    ∷ case "0900\n" 1
    ∷ case (five ++ "0900\n") 1
    ∷ case (five ++ "090000\n") 2
    ∷ case "090000\n" 16
    ∷ case "0900000000\n" 16
    ∷ case "090201\n" 16
    ∷ case "090001\n" 1
    ∷ case "090001100004010000\n" 1
    ∷ case "09000110000001\n" 16
    ∷ case "09000100000401\n" 16
    ∷ case "09000100000000\n" 16
    ∷ case (tapered ++ "020000\n") 1
    -- starts and lengths of a later row too
    ∷ case "0900020000000110000001\n" 16
    ∷ case "0900020000000100000401\n" 16
    ∷ case "0900020000000100000000\n" 16
    -- a name on rows; a box whose corners are iterations, with a row between that has none
    ∷ case (tapered ++ "0703\n0400\n") 6
    ∷ case (tapered ++ "0704\n0400\n") 13
    ∷ case "090003000000030005000100000003\n0200000000\n0800000000000000020000000100000001\n0400\n" 15
    -- unknown first bytes
    ∷ case "100000000000000001\n" 1
    ∷ case "110000000000\n" 1
    ∷ case "1F01\n" 1
    -- an `01` line: a missing count, also out of order; its order; its count; its length; its sizes
    ∷ case "01\n" 1
    ∷ case (five ++ "01\n") 1
    ∷ case (five ++ "0100\n") 2
    ∷ case "0100\n" 3
    ∷ case "0105\n" 3
    ∷ case "01050000000100000001000000010000000100000001\n" 3
    ∷ case "0101\n" 1
    ∷ case "0102FFFFFFFF\n" 1
    ∷ case "01010000000500\n" 1
    ∷ case "010100000000\n" 3
    ∷ case "0103000000030000000400000000\n" 3
    ∷ case "010400000003000000040000000300000000\n" 3
    ∷ case "010100100001\n" 3
    ∷ case "010400010000000100000001000000010000\n" 3
    -- an `02` line: its order, at any length, but the frame first; its length; a 33rd one
    ∷ case (times 60 "02" ++ "\n") 2
    ∷ case (times 60 "02" ++ "0\n") 1
    ∷ case (five ++ "0200000000\n") 1
    ∷ case (five ++ times 33 "020000\n") 4
    ∷ case (five ++ (times 32 "020000\n" ++ "0200\n")) 1
    -- `03` and `05` lines, which have no place here; their length comes first
    ∷ case (five ++ "020000\n03000003\n") 1
    ∷ case (five ++ "020000\n030000000300\n") 1
    ∷ case (five ++ "020000\n0500000003\n") 2
    ∷ case (five ++ "020000\n05000003\n") 1
    ∷ case printed 2
    -- an `04` line: its kernel byte and its length, then its order; none
    ∷ case "04\n" 1
    ∷ case "0404\n" 1
    ∷ case "040000\n" 1
    ∷ case "04023F8000\n" 1
    ∷ case "04023F80000000\n" 1
    ∷ case "04033F800000\n" 1
    ∷ case "04033F8000003F80000000\n" 1
    ∷ case (five ++ "0400\n") 2
    ∷ case (five ++ "020000\n") 2
    -- a line after it, before 5; an `01` after an `02`
    ∷ case (five ++ "020000\n020000\n0400\n0400\n") 2
    ∷ case (five ++ "020000\n0400\n020001\n0400\n") 2
    ∷ case (five ++ "020000\n010100000005\n0400\n") 2
    ∷ case (five ++ "020000\n020000\n0400\n04\n") 1
    -- 5 to 9, lowest first
    ∷ case (five ++ (times 32 "020000\n" ++ "0401\n")) 5
    ∷ case "010100000002\n02FFFF\n020001\n0401\n" 6
    ∷ case (five ++ "020001\n04037F80000000000000\n") 7
    ∷ case (five ++ "020000\n04027FC00000\n") 8
    ∷ case "010100004E20\n020000\n024001\n0400\n" 9
    -- an offset by all its entries: no centre, and one; two that differ in the fourth alone
    ∷ case (solid ++ "02000000000001\n0401\n") 7
    ∷ case (solid ++ "02000000000001\n02000000000000\n0401\n") 0
    ∷ case "010400000002000000020000000200000002\n020000000000000000\n020000000000000001\n0400\n" 0
    -- an `07` line: each name, on a grid of its dimensions
    ∷ case (plane ++ "0701\n0400\n") 0
    ∷ case (plane ++ "0702\n0400\n") 0
    ∷ case (plane ++ "0703\n0400\n") 0
    ∷ case (solid ++ "0704\n0400\n") 0
    ∷ case (solid ++ "0705\n0400\n") 0
    -- no name; a name of other dimensions
    ∷ case (plane ++ "0700\n0400\n") 13
    ∷ case (plane ++ "0706\n0400\n") 13
    ∷ case (plane ++ "07FF\n0400\n") 13
    ∷ case (five ++ "0701\n0400\n") 13
    ∷ case (solid ++ "0702\n0400\n") 13
    ∷ case (solid ++ "0703\n0400\n") 13
    ∷ case (plane ++ "0704\n0400\n") 13
    ∷ case (plane ++ "0705\n0400\n") 13
    -- its length first, also out of its order
    ∷ case (plane ++ "07\n") 1
    ∷ case (plane ++ "070101\n") 1
    ∷ case "07\n" 1
    ∷ case (plane ++ "0701\n070101\n") 1
    -- then its order, whatever the byte: first, behind an `02`, an `07` or the `04`; then the byte, before a line behind it
    -- and behind the line before it
    ∷ case "0700\n" 2
    ∷ case (plane ++ "0200000000\n0700\n") 2
    ∷ case (plane ++ "0701\n0700\n") 2
    ∷ case (plane ++ "0701\n0400\n0700\n") 2
    ∷ case (plane ++ "0706\n\n") 13
    ∷ case "01020000000400000000\n0706\n" 3
    -- lines behind it; none
    ∷ case (plane ++ "0701\n0200000000\n0400\n") 2
    ∷ case (plane ++ "0701\n") 2
    -- 6, 7 and 9 of its offsets
    ∷ case "01020000000200000005\n0701\n0400\n" 6
    ∷ case (plane ++ "0702\n0401\n") 7
    ∷ case "01030000000300000003000186A0\n0704\n0400\n" 9
    -- an `06` line, which has no place here, at any length, but the frame first
    ∷ case (five ++ "020000\n0600\n0400\n") 2
    ∷ case (five ++ "020000\n06\n") 2
    ∷ case ("06" ++ (times 60 "00" ++ "\n")) 2
    ∷ case "060\n" 1
    -- an `08` line: behind the last `02` or the `07`; of all iterations; of a negative one
    ∷ case (plane ++ "0701\n0800000001000000010000000200000003\n0400\n") 0
    ∷ case (five ++ "020000\n020003\n080000000000000001\n0400\n") 0
    ∷ case (five ++ "020001\n020003\n08FFFFFFFF00000000\n0400\n") 0
    -- its place, at any length, but the frame first: first, behind another, the `04`
    ∷ case ("08" ++ (times 60 "00" ++ "\n")) 2
    ∷ case "080\n" 1
    ∷ case (five ++ "020000\n080000000000000004\n08\n") 2
    ∷ case (five ++ "020000\n0400\n08\n") 2
    -- what stands behind it: an `02`, nothing
    ∷ case (five ++ "020000\n080000000000000004\n020001\n0400\n") 2
    ∷ case (five ++ "020000\n080000000000000004\n") 2
    -- then its length, by the grid's dimensions
    ∷ case (five ++ "020000\n08\n0400\n") 1
    ∷ case (five ++ "020000\n0800000000000000\n0400\n") 1
    ∷ case (five ++ "020000\n08000000000000000400\n0400\n") 1
    ∷ case (plane ++ "0701\n080000000100000001\n0400\n") 1
    -- 15 at the end: one past the last iteration, one before the first, a lowest above its highest, also in the second
    -- dimension alone, the least and the greatest number
    ∷ case (five ++ "020000\n080000000000000005\n0400\n") 15
    ∷ case (five ++ "020000\n08FFFFFFFF00000004\n0400\n") 15
    ∷ case (five ++ "020000\n080000000300000002\n0400\n") 15
    ∷ case (plane ++ "0200000000\n0800000000000000030000000400000000\n0400\n") 15
    ∷ case (five ++ "020000\n088000000080000000\n0400\n") 15
    ∷ case (five ++ "020000\n087FFFFFFF7FFFFFFF\n0400\n") 15
    ∷ case (five ++ "020000\n08800000007FFFFFFF\n0400\n") 15
    -- after a fault further down, after 5 and 6, before 7
    ∷ case (five ++ "020000\n080000000000000005\n0404\n") 1
    ∷ case (five ++ "020000\n020000\n080000000000000005\n0400\n") 5
    ∷ case "010100000002\n02FFFF\n020001\n080000000100000000\n0400\n" 6
    ∷ case (five ++ "020001\n080000000000000009\n0401\n") 15
    ∷ []

unfoldable pub chains : List Case
chains =
    -- document 01's; a single reference; two FIFOs; another order than the planned one; four dimensions; factors −0 and the
    -- least above 0
    case printed 0
    ∷ case (five ++ "020000\n0400\n") 0
    ∷ case (five ++ "020003\n020001\n020000\n0300000002\n0300000001\n0401\n") 0
    ∷ case (five ++ "020000\n020003\n0300000010\n0402BF800000\n") 0
    ∷ case "010400000002000000020000000200000005\n02000100000000FFFF\n020000000000000003\n0300000001\n0400\n" 0
    ∷ case (five ++ "020000\n04038000000000000001\n") 0
    -- a request sheet with more than one reference
    ∷ case (five ++ "020000\n020003\n0400\n") 2
    -- `03` lines: one for a single reference, one too many, one too few, an `02` line after one, no `04` line after the last
    ∷ case (five ++ "020000\n0300000003\n04\n") 2
    ∷ case (five ++ "020003\n020000\n0300000003\n0300000003\n04\n") 2
    ∷ case (five ++ "020003\n020001\n020000\n0300000002\n0400\n") 2
    ∷ case (five ++ "020003\n020000\n0300000003\n020001\n0300000001\n0400\n") 2
    ∷ case (five ++ "020003\n020000\n0300000003\n") 2
    -- a 33rd `02` line, on its line
    ∷ case (five ++ times 33 "020000\n") 4
    -- a line after the `04` line, before 5
    ∷ case (printed ++ "0500000001\n") 2
    ∷ case (five ++ "020000\n020000\n0300000003\n0400\n0500\n") 1
    -- 5 before 9; the least and the greatest entry; 9 by the given capacities alone, whose sum is a whole number
    ∷ case (five ++ "020000\n020000\n0380000000\n0400\n") 5
    ∷ case "01010000FFFF\n027FFF\n028000\n0300004000\n0400\n" 6
    ∷ case "010100010000\n027FFF\n028000\n0300004000\n0400\n" 0
    ∷ case (five ++ "020003\n020000\n0300004001\n0400\n") 9
    ∷ case (five ++ "020003\n020001\n020000\n0380000000\n0380000000\n0400\n") 9
    -- an `07` line, which has no place here; its length comes first
    ∷ case (plane ++ "0701\n0400\n") 2
    ∷ case (plane ++ "0700\n") 2
    ∷ case (five ++ "020000\n0701\n") 2
    ∷ case (plane ++ "07\n") 1
    -- an `06` line: the listing's; of one reference; of three, whose order is not its own inverse; chain order, which is not none
    ∷ case (five ++ "020003\n020000\n0300000003\n060100\n0400\n") 0
    ∷ case (five ++ "020000\n0600\n0400\n") 0
    ∷ case (five ++ "020002\n020001\n020000\n0300000001\n0300000001\n06020001\n0401\n") 0
    ∷ case (five ++ "020003\n020000\n0300000003\n060001\n0400\n") 0
    -- of 32, with as many as there are, and one too many
    ∷ case (ruler ++ ("06" ++ (all32 ++ "\n0400\n"))) 0
    ∷ case (ruler ++ ("06" ++ (all32 ++ "20\n0400\n"))) 1
    -- its place, at any length: before the last `03`, before an `02`, behind another, behind the `04`
    ∷ case (five ++ "020003\n020000\n060100\n0300000003\n0400\n") 2
    ∷ case (five ++ "020002\n020001\n020000\n0300000001\n06\n") 2
    ∷ case (five ++ "0600\n020000\n0400\n") 2
    ∷ case (five ++ "020000\n0600\n0600\n0400\n") 2
    ∷ case (five ++ "020000\n0400\n06\n") 2
    -- nothing behind it
    ∷ case (five ++ "020000\n0600\n") 2
    -- then its length
    ∷ case (five ++ "020000\n06\n0400\n") 1
    ∷ case (five ++ "020003\n020000\n0300000003\n0601\n0400\n") 1
    ∷ case (five ++ "020003\n020000\n0300000003\n06010002\n0400\n") 1
    -- 14 at the end, after 5 to 9 and a fault further down: a byte that is n or above, or stands twice
    ∷ case (five ++ "020003\n020000\n0300000003\n060102\n0400\n") 14
    ∷ case (five ++ "020003\n020000\n0300000003\n06FF00\n0400\n") 14
    ∷ case (five ++ "020003\n020000\n0300000003\n060000\n0400\n") 14
    ∷ case (five ++ "020000\n0601\n0400\n") 14
    ∷ case (five ++ "020003\n020000\n0300000003\n060000\n0404\n") 1
    ∷ case (five ++ "020000\n020000\n0300000003\n060000\n0400\n") 5
    ∷ case (five ++ "020003\n020000\n0300004001\n060000\n0400\n") 9
    -- an `08` line: before the `03` lines, the `06` or the `04`; of four dimensions
    ∷ case (five ++ "020003\n020000\n080000000000000001\n0300000003\n0400\n") 0
    ∷ case (five ++ "020000\n08FFFFFFFF00000004\n0400\n") 15
    ∷ case (five ++ "020000\n080000000200000003\n0400\n") 0
    ∷ case (five ++ "020000\n080000000200000003\n0600\n0400\n") 0
    ∷ case "010400000002000000020000000200000005\n02000100000000FFFF\n020000000000000003\n080000000000000000000000000000000100000001000000010000000100000001\n0300000001\n060100\n0400\n" 0
    -- its place: behind an `03`, behind the `06`, twice; an `02` behind it; then its length
    ∷ case (five ++ "020003\n020000\n0300000003\n080000000000000001\n0400\n") 2
    ∷ case (five ++ "020000\n0600\n080000000000000001\n0400\n") 2
    ∷ case (five ++ "020000\n080000000200000003\n080000000200000003\n0400\n") 2
    ∷ case (five ++ "020003\n080000000000000001\n020000\n0300000003\n0400\n") 2
    ∷ case (five ++ "020003\n020000\n0800000001\n0300000003\n0400\n") 1
    -- the order of FIFOs as without it
    ∷ case (five ++ "020003\n020000\n080000000000000001\n0400\n") 2
    -- 15 before 9 and 14
    ∷ case (five ++ "020003\n020000\n080000000000000002\n0300004001\n060000\n0400\n") 15
    ∷ []

-- Lines where a cell is wanted.
unfoldable pub cells : List Case
cells =
    case "0500000001\n" 0
    ∷ case "0500000001" 1
    ∷ case "05000001\n" 1
    ∷ case "050000000100\n" 1
    ∷ case "0404\n" 1
    ∷ case "0400\n" 2
    ∷ case "0109\n" 2
    ∷ case "02\n" 2
    ∷ case "0700\n" 2
    ∷ case "07\n" 1
    ∷ case "0600\n" 2
    ∷ case "06\n" 2
    ∷ case "0800\n" 2
    ∷ case "08\n" 2
    ∷ []

unfoldable pub same_bytes : List ℕ → List ℕ → Bool
same_bytes [] [] = true
same_bytes [] (y ∷ ys) = false
same_bytes (x ∷ xs) [] = false
same_bytes (x ∷ xs) (y ∷ ys) = eqb x y && same_bytes xs ys

unfoldable pub request_right : Case → Bool
request_right c = eqb (verdict_number (verdict_of (read_request (bytes_in c.sheet)))) c.number

-- No byte where writing is refused.
abbrev bytes_written : Result ℕ Refusal → ℕ
bytes_written a = result_unwrap_or a 0

-- The sheet is what is written to an output with two places more, which stay as they were; with a place too few it is 12, and
-- all stay.
unfoldable pub writes_back : Chain → (rows : List ℕ) → List ℕ → Bool
writes_back c rows sheet =
    let room = length sheet in
    let long = write_of c rows (replicate (room + 2) 7) in
    let short = write_of c rows (replicate (room - 1) 7) in
    eqb (verdict_number (verdict_of long.answer)) 0
    && (eqb (bytes_written long.answer) room
    && (same_bytes (take room long.output) sheet
    && (same_bytes (drop room long.output) (7 ∷ 7 ∷ [])
    && (eqb (verdict_number (verdict_of short.answer)) 12
    && (eqb (bytes_written short.answer) 0
    && same_bytes short.output (replicate (room - 1) 7))))))

unfoldable pub chain_right : Case → Bool
chain_right c =
    let sheet = bytes_in c.sheet in
    let r = read_chain sheet in
    eqb (verdict_number (verdict_of r)) c.number
    && by_answer r (λ d. writes_back d (numbers_in sheet) sheet) (λ x. true)

unfoldable pub cell_right : Case → Bool
cell_right c = all (λ l. eqb (verdict_number (cell_verdict (seen_of l.ended l.chars))) c.number)
    (lines_of (bytes_in c.sheet))

-- An output of the sheet's own length is long enough.
unfoldable pub fits : Bool
fits =
    let sheet = bytes_in printed in
    let w = write_of (result_unwrap_or (read_chain sheet) blank_chain) [] (replicate (length sheet) 7) in
    eqb (verdict_number (verdict_of w.answer)) 0 && (eqb (bytes_written w.answer) (length sheet) && same_bytes w.output sheet)

-- 3 comes before 12.
unfoldable pub blank_right : Bool
blank_right =
    let w = write_of blank_chain [] (7 ∷ []) in
    eqb (verdict_number (verdict_of w.answer)) 3 && (eqb (bytes_written w.answer) 0 && same_bytes w.output (7 ∷ []))

pub table : (all request_right requests && (all chain_right chains && (all cell_right cells && (fits && blank_right)))) ≡ true
unfolding bytes_in times requests chains cells same_bytes request_right writes_back chain_right cell_right fits blank_right flat_map
    of_bits to_bits
    tabulate up_to sum product greatest all any some_below same above plus equal before is_zero
    cells_above row_cells has_column inside_rows row_place row_at column_at smallest rows_down columns_on common_start common_end
    common_row equal_rows firsts_from rectangular.cell_count cell_count place natural position cell_place cell_at first_entry
    other_entries least_from least lows extent extents indices count vector all_iterations rectangular.inside inside
    is_iteration index_count widths box_shape box_course course crossed reads_outside bad_box position_of course_of iteration_of
    reads_of firsts distance_in distance_of
    sizes_of rows_of ground_of dims_of offset_of offsets_of part_of capacities_of order_of number_of verdict_number first_of
    bad_dims bad_sizes bad_grid bad_row bad_row_count bad_rows bad_count repeats no_iteration needs_centre lacks_centre not_finite
    bad_factor too_large twice bad_order window_checks kernel_checks chain_checks value_checks judged judge_chain
    insert falling which_of authors_order sorted distances trimmed_request judge_request trimmed
    lines_of is_digit value_of digit_of whole bytes_of digits_of framed padded half_at halves_of word_at half_bytes word_bytes signed
    pattern signed_word word_pattern
    bad_kernel bad_form malformed next_in_request next_in_chain miscounted among misplaced bad_length sizes_in numbers_on numbers_in
    line_checks line_verdict
    windows is_name named_of bad_name with_references window_named with_grid with_rows entries_in with_offset with_name lowest_in
    highest_in with_box with_capacity filters_in with_order kernel_in with_kernel taken step_of closes complete read_lines
    end_verdict read_chain read_request cell_verdict
    ground_line offset_line index_pair box_lines capacity_line order_lines kernel_line chain_lines sheet_of write_verdict write_of
table = refl
