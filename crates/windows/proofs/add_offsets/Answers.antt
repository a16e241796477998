use borrow.Author.Rules.{rules}
use mathlib.Core.Path.{sym, ◌∙◌, ap₂}
use native.Mathlib.Omega.{arith}
use lib.IntN.{pos, ◌+ℤ◌}
use lib.ListN.{get_or}
use Rattle.geometry.proofs.EntryLaws.{entry_back}
use Rattle.windows.proofs.SumLaws.{added_none, added_more, added_skip, added_all}
use Rattle.windows.proofs.add_offsets.Goals.{in-Some, in-None}
use Rattle.windows.proofs.add_offsets.Goals as goal

pub loop-d-init : goal.loop-d-init
loop-d-init c = added_none c.args.dims c.args.a c.args.b

pub loop-d-preserved : goal.loop-d-preserved
loop-d-preserved c =
    let d = c.loop-d.d in
    let e = ap₂ ◌+ℤ◌ (entry_back (get_or c.args.a d (pos 0)) (search rules)) (entry_back (get_or c.args.b d (pos 0)) (search rules)) in
    elim c.match-checked_add.branch [
      | in-Some w ↦
          let (small, is) = rw w.in-Some.is at c.checked_add.ensures in
          let back = entry_back w.in-Some.entry (rw is small.sfits) in
          rw (w.fits-is, w.entries-is)
          (added_more c.args.dims c.args.a c.args.b d c.loop-d.fits c.loop-d.entries (omega arith) c.loop-d.invariant _ (omega arith) (rw (← e) small.sfits) (sym (back ∙ is ∙ e)))
      | in-None w ↦
          let large = rw w.in-None.is at c.checked_add.ensures in
          rw (w.fits-is, w.entries-is)
          (added_skip c.args.dims c.args.a c.args.b d c.loop-d.fits c.loop-d.entries (omega arith) c.loop-d.invariant (λ f. large (record { sfits = rw e f })))
    ]

pub returns : goal.returns
returns c =
    added_all c.args.dims c.args.a c.args.b (omega arith) (omega arith) c.loop-d.d c.loop-d.fits c.loop-d.entries (omega arith) c.loop-d.invariant
