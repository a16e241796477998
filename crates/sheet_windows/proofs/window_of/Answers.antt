use Prim.Native.Nat.{◌<◌}
use mathlib.Core.List.{List}
use mathlib.Core.Path.{◌≡◌, sym, ap, ◌∙◌}
use native.Mathlib.Nat.{mod-eq_of_lt}
use native.Mathlib.Omega.{arith}
use lib.ListN.{length, get_or}
use Rattle.model.specs.declared.Triple.{Triple}
use Rattle.model_sheet.specs.NamedWindows.{centre}
use Rattle.sheet_windows.proofs.NamedLaws.{few, from_first, from_next, from_last}
use Rattle.sheet_windows.proofs.window_of.Goals as goal

pub overflow_cast-k : goal.overflow_cast-k
overflow_cast-k c = record { fits = omega (arith, ap length c.references-triples.ensures, few c.args.name) }

pub overflow_cast-result : goal.overflow_cast-result
overflow_cast-result c = record { fits = omega (arith, ap length c.references-triples.ensures, few c.args.name) }

pub loop-k-init : goal.loop-k-init
loop-k-init c = from_first _

pub loop-k-preserved : goal.loop-k-preserved
loop-k-preserved c =
    let k = c.loop-k.k in
    let n = ap length c.references-triples.ensures in
    let within : k < 32 = omega (arith, c.loop-k-test.true, n, few c.args.name) in
    rw (c.set_offset-next.ensures, c.entries_of.ensures, mod-eq_of_lt within)
    (from_next _ k _ _ (omega (arith, c.loop-k-test.true, n)) (ap (λ (ts : List Triple). get_or ts k centre) c.references-triples.ensures) c.loop-k.invariant)

pub returns : goal.returns
returns c =
    let n = ap length c.references-triples.ensures in
    let full : c.loop-k.k ≡ length c.references-triples.result.now = omega (arith, c.loop-k-test.false, c.loop-k.auto.k-end) in
    ap (λ m. record { count = m; offsets = c.loop-k.offsets }) (sym full) ∙ from_last _ c.loop-k.k _ (omega (arith, full, n)) c.loop-k.invariant
