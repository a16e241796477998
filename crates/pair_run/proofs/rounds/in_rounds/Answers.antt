use mathlib.Core.Logic.{inl, inr}
use mathlib.Core.Path.{sym, ◌∙◌, ap}
use native.Mathlib.Omega.{arith}
use Rattle.pair_run.proofs.EitherLaws.{rounds_start, begins, clocks_few, within, room, next_round, fewer, cells_fit, firings_fit, ends}
use Rattle.model.specs.declared.Counts.{Counts}
use Rattle.pair_run.proofs.rounds.in_rounds.Goals as goal
use Rattle.pair_run.proofs.rounds.in_rounds.Goals.{then-not-is_full-via-else-not-is_full+then-most-fired, then-not-is_full-via-then-not-is_full}

pub loop-raw-init : goal.loop-raw-init
loop-raw-init c = rounds_start c.requires

pub give_both-requires : goal.give_both-requires
give_both-requires c =
    let I = c.loop-raw.invariant in
    let f = c.min-few.ensures in
    let P = c.piece-ran.ensures in
    let n = c.counts_of-c.ensures in
    let fe = ap (λ (x : Counts). x.firings) n in
    room I f P fe

pub overflow_add-clocks : goal.overflow_add-clocks
overflow_add-clocks c =
    let I = c.loop-raw.invariant in
    let f = c.min-few.ensures in
    let P = c.piece-ran.ensures in
    let n = c.counts_of-c.ensures in
    let be = ap (λ (x : Counts). x.clocks) n in omega (arith, within I f P, be, clocks_few I, (begins I).allowance_short)

pub loop-raw-smaller : goal.loop-raw-smaller
loop-raw-smaller c =
    let I = c.loop-raw.invariant in
    let f = c.min-few.ensures in
    let P = c.piece-ran.ensures in
    let n = c.counts_of-c.ensures in
    let fe = ap (λ (x : Counts). x.firings) n in
    let G = c.give_both.ensures in
    fewer I f P fe G (sym c.is_full.ensures ∙ c.if-not-is_full.false) c.if-most-fired.false

pub loop-raw-preserved : goal.loop-raw-preserved
loop-raw-preserved c =
    let I = c.loop-raw.invariant in
    let f = c.min-few.ensures in
    let P = c.piece-ran.ensures in
    let n = c.counts_of-c.ensures in
    let fe = ap (λ (x : Counts). x.firings) n in
    let G = c.give_both.ensures in
    let ae = ap (λ (x : Counts). x.cells) n in
    let be = ap (λ (x : Counts). x.clocks) n in
    next_round I f P fe G (sym c.is_full.ensures ∙ c.if-not-is_full.false) ae be

pub overflow_cast-all : goal.overflow_cast-all
overflow_cast-all c =
    let I = c.loop-raw.invariant in
    let f = c.min-few.ensures in
    let P = c.piece-ran.ensures in
    let n = c.counts_of-c.ensures in
    let fe = ap (λ (x : Counts). x.firings) n in
    let G = c.give_both.ensures in
    let ae = ap (λ (x : Counts). x.cells) n in
    let be = ap (λ (x : Counts). x.clocks) n in
    omega (arith, cells_fit I f P fe G ae be)

pub overflow_cast-all-then-not-is_full : goal.overflow_cast-all-then-not-is_full
overflow_cast-all-then-not-is_full c =
    let I = c.loop-raw.invariant in
    let f = c.min-few.ensures in
    let P = c.piece-ran.ensures in
    let n = c.counts_of-c.ensures in
    let fe = ap (λ (x : Counts). x.firings) n in
    let G = c.give_both.ensures in
    let ae = ap (λ (x : Counts). x.cells) n in
    let be = ap (λ (x : Counts). x.clocks) n in
    omega (arith, firings_fit I f P fe G ae be)

pub returns-then-not-is_full : goal.returns-then-not-is_full
returns-then-not-is_full c =
    let I = c.loop-raw.invariant in
    let f = c.min-few.ensures in
    let P = c.piece-ran.ensures in
    let n = c.counts_of-c.ensures in
    let fe = ap (λ (x : Counts). x.firings) n in
    let G = c.give_both.ensures in
    let ae = ap (λ (x : Counts). x.cells) n in
    let be = ap (λ (x : Counts). x.clocks) n in
    elim c.then-not-is_full.branch [
      | then-not-is_full-via-else-not-is_full+then-most-fired p ↦ ends I f P fe G c.with_counts.ensures ae be (inl (sym c.is_full.ensures ∙ p.if-not-is_full.false, p.if-most-fired.true))
      | then-not-is_full-via-then-not-is_full q ↦ ends I f P fe G c.with_counts.ensures ae be (inr (sym c.is_full.ensures ∙ q.if-not-is_full.true))
    ]
