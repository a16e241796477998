-- What stands in an output after a firing.
use Rattle.std.specs.Prelude.{ℕ, ◌+◌, cond, List, leb, length}
use Rattle.std.proofs.lemmas.List.Edits.{sets}
use Rattle.model_run.specs.Kernels.{written, width}
use Rattle.model.specs.declared.Kernel.{Kernel}

-- A firing whose cells have the words `ws` in chain order, its result written from place `at` on; where it does not fit,
-- nothing changes.
unfoldable pub applied : Kernel → (centre : ℕ) (terms writes ws : List ℕ) (at : ℕ) (output : List ℕ) → List ℕ
applied k c ks us ws at output =
    let after = sets output at (written k c ks us ws) in
    cond (leb (at + width k (length us)) (length output)) after output
