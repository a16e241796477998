-- A reading has room for what stands on a line with the bytes x.
use Rattle.std.specs.Prelude.{ℕ, ◌+◌, ◌<◌, List, ◌≡◌}
use Rattle.model.specs.declared.Reading.{Reading}
use Rattle.model_sheet.specs.Numbers.{byte_at}

pub record Room (r : Reading) (x : List ℕ) : Type 0 where
  pub offset : byte_at x 0 ≡ 2 → r.chain.window.count < 32
  pub capacity : byte_at x 0 ≡ 3 → r.given + 1 < r.chain.window.count
