use mathlib.Core.Bool.{false, ◌&&◌}
use mathlib.Core.Path.{◌≡◌, sym, ◌∙◌}
use native.Mathlib.Omega.{arith}
use Rattle.model.specs.Values.{rows_of, dims_of}
use Rattle.model.specs.Judging.{bad_dims, bad_rows, bad_count}
use Rattle.grid_laws.proofs.CheckLaws.{some_references, few_references}
use Rattle.limits.proofs.SizeLaws.{few_dimensions}
use Rattle.sheet_laws.proofs.AcceptedChains.{few_rows}
use Rattle.sheet_writer.specs.Laying.{Counted, RowsFit}
use Rattle.sheet_writer.proofs.RowsLaws.{rows_fit}
use Rattle.sheet_writer.proofs.WriteCalls.{rows_turned, dims_turned, count_turned, no_room, laid}
use Rattle.sheet_writer.proofs.write_sheet.Goals as goal
use Rattle.sheet_writer.proofs.write_sheet.Goals.{Else-bad_count, Else-bad_dims, Else-bad_rows}

-- What the tests say of the rows, of the dimension count and of the references.
fine : (c : Else-bad_rows) → (let a = c.args in (a.c.grid.skewed && bad_rows (rows_of a.c.grid.rows a.rows.now)) ≡ false)
fine c = sym c.bad_rows.ensures ∙ c.if-bad_rows.false

dims : (c : Else-bad_dims) → bad_dims (dims_of c.args.c.grid) ≡ false
dims c = rw c.dims_of.ensures at (sym c.bad_dims.ensures ∙ c.if-bad_dims.false)

count : (c : Else-bad_count) → bad_count c.args.c.window.count ≡ false
count c = sym c.bad_count.ensures ∙ c.if-bad_count.false

pub returns-then-bad_rows : goal.returns-then-bad_rows
returns-then-bad_rows c = rows_turned _ _ _ (sym c.bad_rows.ensures ∙ c.if-bad_rows.true)

pub returns-then-bad_dims : goal.returns-then-bad_dims
returns-then-bad_dims c =
    dims_turned _ _ _ (fine (goal.at.returns-then-bad_dims c).Else-bad_rows) (rw c.dims_of.ensures at (sym c.bad_dims.ensures ∙ c.if-bad_dims.true))

pub returns-then-bad_count : goal.returns-then-bad_count
returns-then-bad_count c =
    count_turned _ _ _ (fine (goal.at.returns-then-bad_count c).Else-bad_rows) (dims (goal.at.returns-then-bad_count c).Else-bad_dims) (sym c.bad_count.ensures ∙ c.if-bad_count.true)

fit : (c : Else-bad_rows) → (let a = c.args in RowsFit a.c.grid a.rows.now)
fit c = let a = c.args in rows_fit a.c.grid a.rows.now (fine c)

counts : (c : Else-bad_count) → Counted c.args.c
counts c =
    let dims-now : bad_dims (dims_of c.args.c.grid) ≡ false =
    rw c.dims_of.ensures at (sym c.bad_dims.ensures ∙ c.if-bad_dims.false) in
    let fine-now : (let a = c.args in (a.c.grid.skewed && bad_rows (rows_of a.c.grid.rows a.rows.now)) ≡ false) =
    sym c.bad_rows.ensures ∙ c.if-bad_rows.false in
    let fit-now : (let a = c.args in RowsFit a.c.grid a.rows.now) =
    let a = c.args in rows_fit a.c.grid a.rows.now fine-now in
    record {
      dims = few_dimensions _ dims-now;
      few_rows = λ e. few_rows _ _ (fit-now e);
      some = some_references _ (count c);
      most = few_references _ (count c);
    }

pub sheet_len-requires : goal.sheet_len-requires
sheet_len-requires c = counts c

pub returns-then-out-sheet_len : goal.returns-then-out-sheet_len
returns-then-out-sheet_len c =
    let a = c.args in
    no_room _ _ _ (fine (goal.at.returns-then-out-sheet_len c).Else-bad_rows) (dims (goal.at.returns-then-out-sheet_len c).Else-bad_dims) (count (goal.at.returns-then-out-sheet_len c).Else-bad_count) (omega (arith, c.sheet_len.ensures a.rows.now, c.if-out-sheet_len.true))

pub put_sheet-requires : goal.put_sheet-requires
put_sheet-requires c =
    let a = c.args in
    (counts (goal.at.put_sheet-requires c).Else-bad_count, fit (goal.at.put_sheet-requires c).Else-bad_rows, omega (arith, c.sheet_len.ensures a.rows.now, c.if-out-sheet_len.false))

pub returns : goal.returns
returns c =
    let a = c.args in
    laid _ _ _ (fine (goal.at.returns c).Else-bad_rows) (dims (goal.at.returns c).Else-bad_dims) (count (goal.at.returns c).Else-bad_count) _ _ (omega (arith, c.sheet_len.ensures a.rows.now, c.if-out-sheet_len.false))
    c.put_sheet.ensures.0 c.put_sheet.ensures.1
