use Prim.Native.Nat.{◌+◌, ◌*◌, ◌≤◌}
use mathlib.Core.Path.{◌≡◌, ap, ◌∙◌}
use native.Mathlib.Nat.{sub-zero}
use native.Mathlib.Omega.{arith}
use lib.ListN.{length}
use Rattle.model_sheet.specs.Frames.{kept}
use Rattle.sheet_laws.specs.Sections.{len_of, part_at}
use Rattle.sheet_writer.proofs.LayLaws.{fit, few_bytes, few_lines, more_length, no_more, all_length}
use Rattle.sheet_writer.proofs.sheet_len.Goals as goal
use Rattle.sheet_writer.proofs.sheet_len.Goals.{After-grid_len, After-line_len-len, At-loop-m}

most-lines : (l : At-loop-m) → l.lines_behind-lines.result ≤ 2 * l.args.c.window.count + 2
most-lines l =
    let a = l.args.c in
    omega (arith, l.lines_behind-lines.ensures, few_lines a.bounds.stood a.order.stood a.window.count)

-- A line is short, and adds its length.
len : (c : After-line_len-len)
    → (let a = c.args.c in c.line_len-len.result ≡ len_of a (part_at a.bounds.stood a.order.stood a.window.count c.loop-m.m))
len c =
    c.line_len-len.ensures ∙ ap (len_of c.args.c) c.part_at.ensures

short : (c : After-line_len-len) → c.line_len-len.result ≤ kept
short c =
    let a = c.args.c in
    let f = fit a (part_at a.bounds.stood a.order.stood a.window.count c.loop-m.m) c.requires.dims c.requires.most in
    omega (arith, len c, f.0, f.1)

-- The grid's line has few bytes.
grid-few : (c : After-grid_len) → c.grid_len.result ≤ 2051
grid-few c =
    omega (arith, c.grid_len.ensures, few_bytes c.args.c.grid c.requires.dims c.requires.few_rows)

pub overflow_mul-total : goal.overflow_mul-total
overflow_mul-total c = omega (arith, grid-few c)

pub overflow_add-total : goal.overflow_add-total
overflow_add-total c = omega (arith, grid-few c)

pub loop-m-init : goal.loop-m-init
loop-m-init c = (omega (arith, grid-few c), λ rows. rw sub-zero)

pub part_at-requires : goal.part_at-requires
part_at-requires c = (c.requires.most, omega (arith, c.loop-m-test.true, most-lines (goal.at.part_at-requires c).At-loop-m))

pub overflow_mul-total-in-loop-m : goal.overflow_mul-total-in-loop-m
overflow_mul-total-in-loop-m c = omega (arith, short c)

pub overflow_add-total-in-loop-m : goal.overflow_add-total-in-loop-m
overflow_add-total-in-loop-m c = omega (arith, short c, most-lines (goal.at.overflow_add-total-in-loop-m c).At-loop-m, c.requires.most)

pub overflow_add-total-in-loop-m-2 : goal.overflow_add-total-in-loop-m-2
overflow_add-total-in-loop-m-2 c = omega (arith, short c, most-lines (goal.at.overflow_add-total-in-loop-m-2 c).At-loop-m, c.requires.most)

pub loop-m-preserved : goal.loop-m-preserved
loop-m-preserved c = (
  omega (arith, short c),
  λ rows. omega (
    arith,
    len c,
    c.loop-m.invariant.1 rows,
    more_length c.args.c rows c.loop-m.m c.lines_behind-lines.result c.requires.dims c.requires.most c.loop-m-test.true,
  ),
)

pub returns : goal.returns
returns c = λ rows.
    let told = c.lines_behind-lines in
    let none = no_more c.args.c rows c.loop-m.m told.result c.loop-m-test.false in
    let all = all_length c.args.c rows c.requires.dims c.requires.some c.requires.most told.result told.ensures in
    omega (arith, c.loop-m.invariant.1 rows, c.grid_len.ensures, ap length none, all)
