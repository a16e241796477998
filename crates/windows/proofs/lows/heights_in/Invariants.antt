use Rattle.model.specs.Vectors.{above}
use Rattle.geometry.specs.Parts.{entry_at, Filled}
use Rattle.windows.proofs.lows.heights_in.Given as goal

abbrev pub invariant-loop-k : goal.invariant-loop-k
invariant-loop-k l = Filled 32 0 (λ i. above (entry_at l.offsets i l.d) l.low) l.k l.r
