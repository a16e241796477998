-- What this crate's public functions answer of a window, on any value: the model's definitions where the arrays hold it, and
-- a fixed answer elsewhere.
use Rattle.std.specs.Prelude.{ℕ, Bool, cond, ◌&&◌, leb}
use Rattle.model.specs.Lists.{any}
use Rattle.model.specs.Vectors.{is_zero}
use Rattle.model.specs.Values.{offsets_of}
use Rattle.model.specs.Judging.{repeats}
use Rattle.model.specs.Windows.{centre_of}
use Rattle.model.specs.declared.Window.{Window}

-- The arrays have as many entries as the counts say. A window of which they have not has no equal offsets and no centre.
unfoldable pub held : (dims : ℕ) → Window → Bool
held dims w = leb dims 4 && leb w.count 32

-- 5: two equal offsets
unfoldable pub repeats_in : (dims : ℕ) → Window → Bool
repeats_in dims w = held dims w && repeats (offsets_of dims w)

-- Which reference is the centre; the count where there is none.
unfoldable pub centre_in : (dims : ℕ) → Window → ℕ
centre_in dims w = cond (held dims w) (centre_of (offsets_of dims w)) w.count

unfoldable pub has_centre : (dims : ℕ) → Window → Bool
has_centre dims w = held dims w && any is_zero (offsets_of dims w)
