-- Where no number turns the chain back, laying its sheet into the output is writing it.
use Prim.Native.Nat.{ℕ}
use mathlib.Core.Bool.{false, ◌&&◌}
use mathlib.Core.List.{List}
use mathlib.Core.Path.{◌≡◌}
use native.Mathlib.Omega.{arith}
use lib.ListN.{length}
use borrow.Author.Tests.{ne_eqb, le-ltb}
use Rattle.model.specs.declared.Chain.{Chain}
use Rattle.std.specs.Prelude.{Ok}
use Rattle.model.specs.Values.{rows_of, dims_of}
use Rattle.model.specs.Answers.{first_of}
use Rattle.model.specs.Judging.{bad_dims, bad_rows, bad_count, judge_chain}
use Rattle.model_sheet.specs.Writing.{write_verdict, write_of}
use Rattle.sheet_laws.proofs.Cases.{by_bool}
use Rattle.sheet_laws.proofs.AcceptedChains.{accepted_chain}
use Rattle.sheet_writer.specs.Laying.{lay_checks, lay_of}

same_verdict : (c : Chain) (rows : List ℕ) (room : ℕ) → judge_chain c rows ≡ Ok tt → first_of (lay_checks c rows room) ≡ write_verdict c rows room
unfolding lay_checks write_verdict first_of bad_dims bad_count
same_verdict c rows room h =
    let ok = accepted_chain c rows h in
    let fine : (c.grid.skewed && bad_rows (rows_of c.grid.rows rows)) ≡ false = by_bool c.grid.skewed (λ e. rw (e, ok.good_rows e)) (λ e. rw e) in
    let d : dims_of c.grid ≡ 0 → ⊥ = λ e. omega (arith, ok.some_dims) in
    let n : c.window.count ≡ 0 → ⊥ = λ e. omega (arith, ok.some) in
    rw (h, fine, ne_eqb _ _ d, le-ltb _ _ ok.few_dims, ne_eqb _ _ n, le-ltb _ _ ok.few)

pub laid_written : (c : Chain) (rows out : List ℕ) → judge_chain c rows ≡ Ok tt → lay_of c rows out ≡ write_of c rows out
unfolding lay_of write_of
laid_written c rows out h = rw (same_verdict c rows (length out) h)
