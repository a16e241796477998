use mathlib.Core.Bool.{false}
use mathlib.Core.Path.{◌≡◌, refl}
use Rattle.model.specs.declared.Last.{Last}
use Rattle.model.specs.declared.Last.TheVariants as stood
use Rattle.model_sheet.specs.Reading.{closes, complete}
use Rattle.sheet_reader.proofs.is_complete.Goals as goal

open_yet : (l : Last) → (l ≡ stood.Kernel → ⊥) → false ≡ closes l
unfolding closes
open_yet stood.Kernel n = absurd (n refl)
open_yet _ n = refl

pub returns-in-Kernel : goal.returns-in-Kernel
unfolding complete closes
returns-in-Kernel c = rw c.in-Kernel.is

pub returns-in_default : goal.returns-in_default
unfolding complete
returns-in_default c = open_yet _ c.in_default.not-Kernel
