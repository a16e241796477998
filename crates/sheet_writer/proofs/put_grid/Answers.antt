use mathlib.Core.Path.{sym, ap, ◌∙◌}
use native.Mathlib.Omega.{arith}
use lib.Seq.{sets}
use Rattle.model_sheet.specs.Frames.{framed}
use Rattle.grid_laws.proofs.ChainLaws.{dims_flat}
use Rattle.sheet_laws.proofs.SheetSections.{rows_line_lem}
use Rattle.sheet_writer.proofs.LayLaws.{flat_len, skewed_len, grid_laid}
use Rattle.sheet_writer.proofs.put_grid.Goals as goal

pub put_rows-requires : goal.put_rows-requires
put_rows-requires c =
    (c.requires.1 c.if-g.true, omega (arith, c.requires.2, skewed_len c.args.g c.if-g.true))

pub returns-then-g : goal.returns-then-g
returns-then-g c =
    let e = c.put_rows.ensures in (
      omega (arith, e.0, skewed_len c.args.g c.if-g.true),
      e.1 ∙ ap (λ x. sets c.args.out.now 0 (framed x)) (sym (rows_line_lem c.args.g c.args.rows.now c.if-g.true)),
    )

pub put_frame-requires : goal.put_frame-requires
put_frame-requires c =
    let g = c.args.g in
    (omega (arith, c.grid_len.ensures, flat_len g c.if-g.false, dims_flat g c.if-g.false, c.requires.0), omega (arith, c.grid_len.ensures, c.requires.2))

pub returns : goal.returns
returns c =
    let g = c.args.g in
    let e = c.put_frame.ensures in (
      omega (arith, e.0, c.grid_len.ensures),
      rw (c.grid_row.ensures, c.grid_len.ensures, flat_len g c.if-g.false) at e.1
          ∙ ap (sets c.args.out.now 0) (grid_laid g c.args.rows.now c.if-g.false (omega (arith, dims_flat g c.if-g.false, c.requires.0))),
    )
