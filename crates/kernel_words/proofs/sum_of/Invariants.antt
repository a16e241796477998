-- The sum so far and the terms that remain give the whole sum.
use Prim.Native.Nat.{ℕ, ◌+◌}
use mathlib.Core.Path.{◌≡◌}
use lib.Ieee.{Float}
use Rattle.kernel_words.proofs.SumLaws.{Adding}
use Rattle.kernel_words.proofs.sum_of.Given as goal

abbrev pub invariant-loop-k : goal.invariant-loop-k
invariant-loop-k g l =
    (t : ℕ → Float) → ((w : ℕ) (x : Float) → goal.F-post g l.term w x → x ≡ t w) → Adding t l.terms l.words l.sum (l.k-index + 1)
