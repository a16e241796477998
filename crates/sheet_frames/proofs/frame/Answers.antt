use mathlib.Core.Path.{ap, ◌∙◌}
use Rattle.model_sheet.specs.Frames.{feeds}
use Rattle.sheet_frames.proofs.frame.Goals as goal

pub returns : goal.returns
returns c =
    c.more.ensures ∙ ap (λ g. feeds g c.args.line.now) c.empty_frame.ensures
