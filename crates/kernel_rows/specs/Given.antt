-- What stands in an output after the firings of a batch.
use Rattle.std.specs.Prelude.{ℕ, ◌+◌, ◌-◌, ◌*◌, ◌/◌, ◌≤◌, Bool, cond, ◌&&◌, List, ◌≡◌, leb, ltb, length}
use Rattle.std.proofs.lemmas.List.Edits.{sets}
use Rattle.model_run.specs.Kernels.{written, width}
use Rattle.model_run.specs.PairRuns.{by_rows}
use Rattle.model.specs.declared.Kernel.{Kernel}

-- There is room: `words` hold `count` rows of n, and `places` as many times `wide` words from place `at` on. Where n or `wide`
-- is 0 there is none.
unfoldable pub fits : (n wide count words at places : ℕ) → Bool
fits n wide count words at places =
    ltb 0 n && (ltb 0 wide && (leb count (words / n) && (leb at places && leb count ((places - at) / wide))))

-- What the kernel writes of `count` rows of n words, from place `at` on; where it does not fit, nothing changes.
unfoldable pub given_to : Kernel → (centre : ℕ) (terms writes : List ℕ) (n count : ℕ) → (batch : List ℕ) (at : ℕ)
    → (output : List ℕ) → List ℕ
given_to k c ts us n count batch at output =
    let after = sets output at (by_rows n (written k c ts us) count batch) in
    cond (fits n (width k (length us)) count (length batch) at (length output)) after output

-- There is room, without division.
pub record Room (k : Kernel) (writes : List ℕ) (n count wide words at places : ℕ) : Type 0 where
  pub is_width : wide ≡ width k (length writes)
  pub there : count * n ≤ words
  pub space : at + count * wide ≤ places
