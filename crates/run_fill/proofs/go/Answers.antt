use Prim.Native.Nat.{◌-◌}
use mathlib.Core.Path.{◌≡◌}
use native.Mathlib.Omega.{arith}
use Rattle.loop_laws.proofs.GoingLaws.{moving_start, moving_rests, moving_reads, moving_puts, moving_goes, moving_end}
use Rattle.run_fill.proofs.go.Goals as goal

pub loop-k-init : goal.loop-k-init
loop-k-init c = λ f cells wants caps T G. moving_start _ _ _ _ _ _ _ _ _ _ _ _ _ T G

pub loop-k-preserved-then-goes-k-eq0 : goal.loop-k-preserved-then-goes-k-eq0
loop-k-preserved-then-goes-k-eq0 c =
    λ f cells wants caps T G. moving_rests _ _ _ _ _ _ _ _ _ _ _ _ _ T G _ _ _ _ _ c.loop-k-test.true (c.loop-k.invariant f cells wants caps T G) c.if-goes-k-eq0.true

pub word_for-x-requires : goal.word_for-x-requires
word_for-x-requires c =
    let P = c.requires in
    let s = c.loop-k.invariant P.capacity P.cells P.wants P.caps P.turns P.each in (
      omega (arith, P.turns.few),
      s.turning.gets_there,
      moving_reads _ _ _ _ _ _ _ _ _ _ _ _ _ P.turns P.each _ _ _ _ _ c.loop-k-test.true s c.if-goes-k-eq0.false,
    )

pub put_on-requires : goal.put_on-requires
put_on-requires c =
    let P = c.requires in
    let s = c.loop-k.invariant P.capacity P.cells P.wants P.caps P.turns P.each in (
      omega (arith, s.turning.sweeping.range, c.loop-k-test.true),
      P.turns.few,
      s.turning.puts_there,
      moving_puts _ _ _ _ _ _ _ _ _ _ _ _ _ P.turns P.each _ _ _ _ _ c.loop-k-test.true s c.if-goes-k-eq0.false,
    )

pub overflow_add-ps : goal.overflow_add-ps
overflow_add-ps c =
    let P = c.requires in
    let s = c.loop-k.invariant P.capacity P.cells P.wants P.caps P.turns P.each in
    omega (arith, s.turning.sweeping.front (c.loop-k.k - 1) (omega (arith, c.loop-k-test.true)), P.turns.low (c.loop-k.k - 1) (omega (arith, s.turning.sweeping.range, c.loop-k-test.true)))

pub loop-k-preserved : goal.loop-k-preserved
loop-k-preserved c =
    λ f cells wants caps T G. moving_goes _ _ _ _ _ _ _ _ _ _ _ _ _ T G _ _ _ _ _ c.loop-k-test.true (c.loop-k.invariant f cells wants caps T G) c.if-goes-k-eq0.false _ _ _ _ c.word_for-x.ensures.0
    c.word_for-x.ensures.1 c.put_on.ensures

pub returns : goal.returns
returns c =
    let z : c.loop-k.k ≡ 0 = omega (arith, c.loop-k-test.false) in
    λ f cells wants caps T G. moving_end _ _ _ _ _ _ _ _ _ _ _ _ _ T G _ _ _ _ (rw z at (c.loop-k.invariant f cells wants caps T G))
