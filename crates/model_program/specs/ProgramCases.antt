-- The two listings that document 01 prints, and other short inputs of the programs with what they write, by computation.
use Rattle.std.specs.Prelude.{◌≡◌, refl, Bool, true, ◌&&◌}
use Prim.Native.String.{String, ◌++◌}
use mathlib.Core.List.{List, [], ◌∷◌, flat_map}
use Rattle.std.specs.Float.Ieee.{of_bits, to_bits, add, sub, mul}
use Rattle.model.specs.Lists.{tabulate, up_to, without, sum, product, greatest, all, any, some_below}
use Rattle.model.specs.Vectors.{same, above, plus, equal, before, is_zero}
use Rattle.model.specs.Geometry.{place, natural, first_entry, other_entries, least_from, least, lows, extent, extents}
use Rattle.model.specs.Geometry as rectangular
use Rattle.model.specs.Grounds.{cell_count, inside, cell_place, position, cell_at, is_iteration, cells_above, row_cells, has_column}
use Rattle.model.specs.Grounds.{inside_rows, row_place, row_at, column_at}
use Rattle.model.specs.Courses.{count, vector, all_iterations, smallest, rows_down, columns_on, common_start, common_end, common_row}
use Rattle.model.specs.Geometry.{indices}
use Rattle.model.specs.Boxes.{index_count, widths, box_shape, box_course, course, crossed, reads_outside, bad_box, equal_rows}
use Rattle.model.specs.Values.{sizes_of, offset_of, offsets_of, part_of, capacities_of, order_of, trimmed, bounds_of, chain_of}
use Rattle.model.specs.Values.{ground_of, dims_of, grid_of, rows_of}
use Rattle.model.specs.Iterations.{cells_of, position_of, course_of, iterations_of, iteration_of, reads_of, firsts, distance_in}
use Rattle.model.specs.Iterations.{distance_of, firsts_from}
use Rattle.model.specs.Answers.{number_of, verdict_number, first_of}
use Rattle.model.specs.Judging.{bad_dims, bad_sizes, bad_grid, bad_count, repeats, no_iteration, needs_centre, lacks_centre}
use Rattle.model.specs.Judging.{not_finite, bad_factor, too_large, twice, bad_order, window_checks, kernel_checks, chain_checks}
use Rattle.model.specs.Judging.{value_checks, judged, judge_chain, bad_row, bad_row_count, bad_rows}
use Rattle.model.specs.Steps.{insert, falling, which_of, authors_order, distances, sorted}
use Rattle.model.specs.Planning.{trimmed_request, judge_request, planned_chain}
use Rattle.model_run.specs.Kernels.{sum_from, sum_of, words_at, terms, squared, difference, scaled, blend, written, width}
use Rattle.model.specs.Windows.{centre_of}
use Rattle.model_run.specs.Clock.{fresh, ready, fires, turn, limit, turns, next, moves}
use Rattle.model_run.specs.Store.{first_place, place_in, presented, stored}
use Rattle.model_run.specs.Running.{layout, words, clocked, look, call, filters_of, terms_of, writes_of, written_by, width_of}
use Rattle.model_sheet.specs.Lines.{lines_of}
use Rattle.model_sheet.specs.Frames.{is_digit, value_of, digit_of, whole, bytes_of, digits_of, framed, padded}
use Rattle.model_sheet.specs.Numbers.{half_at, halves_of, word_at, half_bytes, word_bytes, signed, pattern, signed_word, word_pattern}
use Rattle.model_sheet.specs.Reading.{bad_kernel, bad_form, malformed, next_in_request, next_in_chain, miscounted, among, misplaced}
use Rattle.model_sheet.specs.Reading.{bad_length, sizes_in, line_checks, line_verdict, numbers_on, numbers_in, with_rows}
use Rattle.model_sheet.specs.NamedWindows.{windows, is_name, named_of, bad_name, with_references, window_named}
use Rattle.model_sheet.specs.Reading.{with_grid, entries_in, with_offset, with_name, lowest_in, highest_in, with_box, with_capacity}
use Rattle.model_sheet.specs.Reading.{filters_in, with_order, kernel_in, with_kernel, taken, step_of, closes, complete, read_lines}
use Rattle.model_sheet.specs.Reading.{end_verdict}
use Rattle.model_sheet.specs.Reading.{read_request, cell_verdict}
use Rattle.model_sheet.specs.Writing.{ground_line, offset_line, index_pair, box_lines, capacity_line, order_lines, kernel_line}
use Rattle.model_sheet.specs.Writing.{chain_lines, sheet_of}
use Rattle.model_program.specs.Programs.{firing_line, end_line, refusal_line, firings_text, plan_text, sheet_and_behind}
use Rattle.model_program.specs.Programs.{cells_in, behind_cells, whole_run, run_text}
use Rattle.model_sheet.specs.SheetCases.{bytes_in, five, plane, printed, same_bytes}

-- What stands on standard input, and what is written.
pub record Listing : Type 0 where
  pub input : String
  pub output : String

abbrev pub listing : String → String → Listing
listing input output = record { input = input; output = output }

-- Rows (2, 2), (2, 1), (2, 1), and (1, 1), (1, 1), (0, 2).
abbrev tapered : String
tapered = "090003000200020002000100020001\n"

abbrev slanted : String
slanted = "090003000100010001000100000002\n"

unfoldable pub plans : List Listing
plans =
    -- document 01's listing, which "gains `060100`"; one reference; three, whose order is not its own inverse
    listing (five ++ "020000\n020003\n0400\n") (five ++ "020003\n020000\n0300000003\n060100\n0400\n")
    ∷ listing (five ++ "020000\n0400\n") (five ++ "020000\n0600\n0400\n")
    ∷ listing (five ++ "020000\n020002\n020001\n0400\n")
    (five ++ "020002\n020001\n020000\n0300000001\n0300000001\n06020001\n0400\n")
    ∷ listing "" "1F02\n"
    ∷ listing (five ++ "020000\n020000\n0400\n") "1F05\n"
    -- rows: the largest distance, of all iterations and of the box's; 16
    ∷ listing (tapered ++ "0200000000\n02FFFF0000\n0400\n") (tapered ++ "0200000000\n02FFFF0000\n0300000002\n060001\n0400\n")
    ∷ listing (tapered ++ "0200000000\n02FFFF0000\n0800000002000000020000000200000002\n0400\n")
    (tapered ++ "0200000000\n02FFFF0000\n0800000002000000020000000200000002\n0300000001\n060001\n0400\n")
    ∷ listing "090201\n" "1F10\n"
    ∷ listing (five ++ "020000\n020000\n0400\n05\n") "1F01\n"
    -- case 6, its window by name; a name of other dimensions
    ∷ listing (plane ++ "0701\n0400\n")
    (plane ++ "0200010000\n0200000001\n0200000000\n020000FFFF\n02FFFF0000\n0300000004\n0300000001\n0300000001\n0300000004\n060001020304\n0400\n")
    ∷ listing (plane ++ "0704\n0400\n") "1F0D\n"
    -- a box is copied as it is written, also the full one; 15
    ∷ listing (plane ++ "0701\n0800000001000000010000000200000003\n0400\n")
    (plane ++ "0200010000\n0200000001\n0200000000\n020000FFFF\n02FFFF0000\n0800000001000000010000000200000003\n0300000004\n0300000001\n0300000001\n0300000004\n060001020304\n0400\n")
    ∷ listing (five ++ "020000\n020003\n080000000000000001\n0400\n")
    (five ++ "020003\n020000\n080000000000000001\n0300000003\n060100\n0400\n")
    ∷ listing (five ++ "020000\n020003\n080000000000000002\n0400\n") "1F0F\n"
    ∷ []

-- Document 01's two firings, and the first of them.
abbrev pub firings : String
firings = "10000000000000000400000001\n10000000010000000500000002\n"

abbrev pub firing : String
firing = "10000000000000000400000001\n"

abbrev pub four : String
four = "0500000001\n0500000002\n0500000003\n0500000004\n"

-- Case 8.
abbrev pub rising : String
rising = "010100000005\n020000\n020003\n0300000010\n0400\n"

-- Case 7, and eleven cells.
abbrev pub short : String
short = "01020000000400000005\n0200010000\n0200000001\n0200000000\n020000FFFF\n02FFFF0000\n0300000003\n0300000001\n0300000001\n0300000004\n0400\n"

abbrev pub ten : String
ten = four ++ four ++ "0500000009\n0500000009\n"

-- Four references in a row, up to what stands behind its `03` lines, and the cells 0, 4,096, 1 and 1.
abbrev pub squares : String
squares = "010100000004\n020003\n020002\n020001\n020000\n0300000001\n0300000001\n0300000001\n"

abbrev pub apart : String
apart = "0500000000\n0545800000\n053F800000\n053F800000\n"

-- Document 01's chain up to what stands behind its `02` lines.
abbrev pub boxed : String
boxed = five ++ "020003\n020000\n"

unfoldable pub runs : List Listing
runs =
    -- document 01's; a line after the last firing is not looked at
    listing (printed ++ four ++ "0500000005\n") (firings ++ "110000000005\n")
    ∷ listing (printed ++ four ++ "0500000005\nx") (firings ++ "110000000005\n")
    -- too few cells; another line where a cell is wanted; a cell's line that is malformed, or lacks its LF
    ∷ listing (printed ++ four) (firing ++ "110200000004\n")
    ∷ listing (printed ++ four ++ "0400\n") (firing ++ "1F02\n")
    ∷ listing (printed ++ four ++ "0706\n") (firing ++ "1F02\n")
    ∷ listing (printed ++ four ++ "05000000\n") (firing ++ "1F01\n")
    ∷ listing (printed ++ four ++ "0500000005") (firing ++ "1F01\n")
    -- case 8 is starved until a cell is lent; case 7 takes ten cells, and stalls with the eleventh
    ∷ listing rising "110200000000\n"
    ∷ listing (rising ++ "0500000001\nx") "110100000000\n"
    ∷ listing (short ++ ten) "11020000000A\n"
    ∷ listing (short ++ ten ++ "0500000009\n") "11010000000A\n"
    -- no sheet; a request sheet; equal offsets are answered at the `04`, before a later line is looked at
    ∷ listing "" "1F02\n"
    ∷ listing (five ++ "020000\n020003\n0400\n") "1F02\n"
    ∷ listing (five ++ "020000\n020000\n0300000001\n0400\nx") "1F05\n"
    -- difference: the squares 1, 1 and 2^24 in chain order; 2^24, 1 and 1 in the author's, with the centre first; 1, 1 and
    -- 2^24 with the centre last
    ∷ listing (squares ++ "0401\n" ++ apart) "10000000004B800001\n110000000004\n"
    ∷ listing (squares ++ "0603020001\n0401\n" ++ apart) "10000000004B800000\n110000000004\n"
    ∷ listing (squares ++ "0601000203\n0401\n" ++ apart) "10000000004B800001\n110000000004\n"
    -- raw keeps chain order; 14, before a cell is looked at
    ∷ listing (squares ++ "0603000102\n0400\n" ++ apart) "10000000003F8000003F8000004580000000000000\n110000000004\n"
    ∷ listing (squares ++ "0603000103\n0400\nx") "1F0E\n"
    ∷ listing (printed ++ "0600\n") "1F02\n"
    -- a box: its iteration 1 alone, which is number 0 of the run; and iteration 0, after which no cell is looked at
    ∷ listing (boxed ++ "080000000100000001\n0300000003\n0400\n" ++ four ++ "0500000005\n")
    "10000000000000000500000002\n110000000005\n"
    ∷ listing (boxed ++ "080000000000000000\n0300000003\n0400\n" ++ four ++ "x") (firing ++ "110000000004\n")
    ∷ listing (boxed ++ "080000000100000002\n0300000003\n0400\nx") "1F0F\n"
    -- rows: firings in clocks 2 and 4, 5 clocks over 4 cells; a capacity too short
    ∷ listing (tapered ++ "0200000000\n02FFFF0000\n0300000002\n0400\n" ++ four)
    "10000000000000000300000001\n10000000010000000400000003\n110000000005\n"
    ∷ listing (slanted ++ "0200000000\n02FFFF0000\n0300000001\n0400\n" ++ four) "10000000000000000200000001\n110100000002\n"
    -- a sum of no terms
    ∷ listing "010100000001\n020000\n0401\n05FFFFFFFF\n" "100000000000000000\n110000000001\n"
    ∷ []

unfoldable pub plan_right : Listing → Bool
plan_right l = same_bytes (plan_text (bytes_in l.input)) (bytes_in l.output)

unfoldable pub run_right : Listing → Bool
run_right l = same_bytes (run_text (bytes_in l.input)) (bytes_in l.output)

pub table : (all plan_right plans && all run_right runs) ≡ true
unfolding bytes_in plans runs same_bytes plan_right run_right flat_map of_bits to_bits add sub mul
    tabulate up_to without sum product greatest all any some_below same above plus equal before is_zero
    cells_above row_cells has_column inside_rows row_place row_at column_at smallest rows_down columns_on common_start common_end
    common_row equal_rows firsts_from rectangular.cell_count cell_count place natural position cell_place cell_at first_entry
    other_entries least_from least lows extent extents indices count vector all_iterations rectangular.inside inside
    is_iteration index_count widths box_shape box_course course crossed reads_outside bad_box cells_of position_of course_of
    iterations_of iteration_of reads_of firsts distance_in distance_of
    sizes_of rows_of ground_of dims_of offset_of offsets_of part_of capacities_of order_of chain_of grid_of bounds_of number_of
    verdict_number first_of
    bad_dims bad_sizes bad_grid bad_row bad_row_count bad_rows bad_count repeats no_iteration needs_centre lacks_centre not_finite
    bad_factor too_large twice bad_order window_checks kernel_checks chain_checks value_checks judged judge_chain
    insert falling which_of authors_order distances trimmed_request judge_request sorted trimmed planned_chain
    sum_from sum_of centre_of words_at terms squared difference scaled blend written width
    fresh ready fires turn limit turns next moves first_place place_in presented stored
    layout words clocked look call filters_of terms_of writes_of written_by width_of
    lines_of is_digit value_of digit_of whole bytes_of digits_of framed padded half_at halves_of word_at half_bytes word_bytes signed
    pattern signed_word word_pattern
    bad_kernel bad_form malformed next_in_request next_in_chain miscounted among misplaced bad_length sizes_in numbers_on numbers_in
    line_checks line_verdict
    windows is_name named_of bad_name with_references window_named with_grid with_rows entries_in with_offset with_name lowest_in
    highest_in with_box with_capacity filters_in with_order kernel_in with_kernel taken step_of closes complete read_lines
    end_verdict read_request cell_verdict
    ground_line offset_line index_pair box_lines capacity_line order_lines kernel_line chain_lines sheet_of
    firing_line end_line refusal_line firings_text plan_text sheet_and_behind cells_in behind_cells whole_run run_text
table = refl
