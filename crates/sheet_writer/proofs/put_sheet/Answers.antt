use Prim.Native.Nat.{◌+◌, ◌*◌, ◌≤◌}
use mathlib.Core.Path.{◌≡◌, sym, ap, subst, ◌∙◌}
use native.Mathlib.Nat.{sub-zero}
use native.Mathlib.Omega.{arith}
use lib.ListN.{length}
use lib.Seq.{sets}
use Rattle.sheet_laws.specs.declared.Part.{Part}
use Rattle.sheet_laws.specs.Sections.{len_of, part_at}
use Rattle.sheet_writer.specs.Laying.{Inside}
use Rattle.sheet_writer.proofs.LayLaws.{fit, inside, few_lines, more_length, no_more, line_on, all_length, all_laid}
use Rattle.sheet_writer.proofs.put_sheet.Goals as goal
use Rattle.sheet_writer.proofs.put_sheet.Goals.{After-line_len-len, At-loop-m}

most-lines : (l : At-loop-m) → l.lines_behind-lines.result ≤ 2 * l.args.c.window.count + 2
most-lines l =
    let a = l.args.c in
    omega (arith, l.lines_behind-lines.ensures, few_lines a.bounds.stood a.order.stood a.window.count)

len : (c : After-line_len-len)
    → (let a = c.args.c in c.line_len-len.result ≡ len_of a (part_at a.bounds.stood a.order.stood a.window.count c.loop-m.m))
len c =
    c.line_len-len.ensures ∙ ap (len_of c.args.c) c.part_at-p.ensures

pub put_grid-at-requires : goal.put_grid-at-requires
put_grid-at-requires c =
    let told = c.lines_behind-lines in
    (c.requires.0.dims, c.requires.1, omega (arith, c.requires.2, all_length c.args.c c.args.rows.now c.requires.0.dims c.requires.0.some c.requires.0.most told.result told.ensures))

pub loop-m-init : goal.loop-m-init
loop-m-init c = (rw sub-zero, rw sub-zero)

pub part_at-p-requires : goal.part_at-p-requires
part_at-p-requires c = (c.requires.0.most, omega (arith, c.loop-m-test.true, most-lines (goal.at.part_at-p-requires c).At-loop-m))

pub row-x-requires : goal.row-x-requires
row-x-requires c =
    let a = c.args.c in
    let n = a.window.count in
    (c.requires.0.most, subst (λ (p : Part). Inside n p) (sym c.part_at-p.ensures) (inside a.bounds.stood a.order.stood n c.loop-m.m))

pub put_frame-at-requires : goal.put_frame-at-requires
put_frame-at-requires c =
    let a = c.args.c in
    let told = c.lines_behind-lines in
    let f = fit a (part_at a.bounds.stood a.order.stood a.window.count c.loop-m.m) c.requires.0.dims c.requires.0.most in (
      omega (arith, len (goal.at.put_frame-at-requires c).After-line_len-len, f.0, f.1),
      omega (
        arith,
        len (goal.at.put_frame-at-requires c).After-line_len-len,
        c.loop-m.invariant.0,
        c.put_grid-at.ensures.0,
        c.requires.2,
        all_length a c.args.rows.now c.requires.0.dims c.requires.0.some c.requires.0.most told.result told.ensures,
        more_length a c.args.rows.now c.loop-m.m told.result c.requires.0.dims c.requires.0.most c.loop-m-test.true,
      ),
    )

pub loop-m-preserved : goal.loop-m-preserved
loop-m-preserved c =
    let e = c.put_frame-at.ensures in
    let lines = c.lines_behind-lines.result in (
      omega (arith, e.0, len (goal.at.loop-m-preserved c).After-line_len-len, c.loop-m.invariant.0, more_length c.args.c c.args.rows.now c.loop-m.m lines c.requires.0.dims c.requires.0.most c.loop-m-test.true),
      rw (e.0, e.1, c.row-x.ensures, c.line_len-len.ensures, c.part_at-p.ensures)
          (line_on c.args.c c.args.rows.now c.loop-m.m lines c.requires.0.dims c.requires.0.most c.loop-m-test.true c.loop-m.out c.loop-m.at)
          ∙ c.loop-m.invariant.1,
    )

pub returns : goal.returns
returns c =
    let g = c.put_grid-at.ensures in
    let told = c.lines_behind-lines in
    let none = no_more c.args.c c.args.rows.now c.loop-m.m told.result c.loop-m-test.false in (
      omega (arith, c.loop-m.invariant.0, ap length none, g.0, all_length c.args.c c.args.rows.now c.requires.0.dims c.requires.0.some c.requires.0.most told.result told.ensures),
      ap (λ t. sets c.loop-m.out c.loop-m.at t) (sym none)
          ∙ c.loop-m.invariant.1
          ∙ all_laid c.args.c c.args.rows.now c.requires.0.dims c.requires.0.some c.requires.0.most told.result told.ensures _ _ _ g.0 g.1,
    )
