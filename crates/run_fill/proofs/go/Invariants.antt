-- A clock by the filters that move: the loop keeps `Moving`. Assumes nothing.
use Prim.Native.Nat.{ℕ}
use mathlib.Core.List.{List}
use Rattle.loop_laws.specs.Passes.{of}
use Rattle.loop_laws.specs.Sweeps.{Turns, Goes}
use Rattle.loop_laws.proofs.GoingLaws.{Moving}
use Rattle.run_fill.proofs.go.Given as goal

abbrev pub invariant-loop-k : goal.invariant-loop-k
invariant-loop-k l =
    (c : ℕ → ℕ) (cells : ℕ) (wants caps : List ℕ) → Turns c l.n l.bases l.tops caps l.initial.ps l.initial.puts l.initial.gets l.initial.store → Goes l.n cells (of wants) (of caps) (of l.goes) (of l.initial.ps)
    → Moving c l.n cells l.word wants l.bases l.tops caps l.goes l.initial.ps l.initial.puts l.initial.gets l.initial.store l.ps l.puts l.gets l.store l.k
