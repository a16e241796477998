-- The clocks of the call's definition until the filters are found aligned, those in which the same filters move together. Assumes nothing.
-- ---- where things stand
-- ---- the clocks in which the same filters move
use Prim.Native.Nat.{ℕ, ◌+◌, ◌-◌, ◌*◌, ◌<◌}
use mathlib.Core.List.{List}
use lib.ListN.{length, get_or}
use Rattle.model_run.specs.Clock.{Layout}
use Rattle.loop_laws.specs.Passes.{of}
use Rattle.loop_laws.specs.Sweeps.{Again}
use Rattle.loop_laws.specs.LoopTables.{Fills}
use Rattle.loop_laws.proofs.FillLaws.{Filling}
use Rattle.run_fill.proofs.until_aligned.Given as goal

-- `counter` of the t clocks are made: the same filters move in the others, each of which has a cell, and what remains is what the whole gives.
abbrev pub invariant-loop : goal.invariant-loop
invariant-loop l =
    Again l.n l.size (of l.wants) (of l.caps) (of l.goes) (of l.passed) (l.t - l.counter)
    × ((j : ℕ) → j < l.t - l.counter → l.taken + j * get_or l.goes 0 0 < length l.cells)
    × ((L : Layout) (walk : ℕ → ℕ) (iterations fired : ℕ) (p u g s : List ℕ) → Fills L walk l.n l.size iterations fired l.at l.wants l.caps l.bases l.tops p u g s
    → Filling L walk l.n l.size iterations fired l.at l.wants l.caps l.bases l.tops p u g s l.cells l.allowance l.initial.passed l.initial.puts l.initial.gets l.initial.store l.initial.taken l.clocks
    → Filling L walk l.n l.size iterations fired l.at l.wants l.caps l.bases l.tops p u g s l.cells l.allowance l.passed l.puts l.gets l.store l.taken (l.clocks + l.counter))

abbrev pub invariant-loop-clocks : goal.invariant-loop-clocks
invariant-loop-clocks l =
    ((L : Layout) (walk : ℕ → ℕ) (iterations fired : ℕ) → Fills L walk l.n l.size iterations fired l.at l.wants l.caps l.bases l.tops l.initial.passed l.initial.puts l.initial.gets l.initial.store
    → Filling L walk l.n l.size iterations fired l.at l.wants l.caps l.bases l.tops l.initial.passed l.initial.puts l.initial.gets l.initial.store l.cells l.allowance l.passed l.puts l.gets l.store l.taken l.clocks)

abbrev pub decreases-loop-clocks : goal.decreases-loop-clocks
decreases-loop-clocks l = l.allowance - l.clocks
