use native.Mathlib.Nat.{mod-eq_of_lt}
use Rattle.model_sheet.specs.Reading.{with_offset}
use Rattle.sheet_reader.proofs.with_offset.Goals as goal

pub returns : goal.returns
unfolding with_offset
returns c =
    rw (c.set_window.ensures, c.set_offset-offsets.ensures, c.entries_in.ensures, mod-eq_of_lt c.requires)
