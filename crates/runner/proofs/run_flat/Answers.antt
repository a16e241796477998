-- A number turns the call back, or it goes on. Assumes nothing.
use mathlib.Core.List.{[]}
use mathlib.Core.Path.{refl, sym, ◌∙◌, ap}
use Rattle.model.specs.Answers.{verdict_of}
use Rattle.runner.proofs.RunLaws.{by_refusal}
use Rattle.run_prepare.proofs.ReadyLaws.{readied_flat}
use Rattle.runner.proofs.run_flat.Goals as goal

pub run_ready-requires : goal.run_ready-requires
run_ready-requires c =
    let r = readied_flat _ c.requires _ _ _ _ _ _ _ _ _ _ _ c.prepare-prepared.ensures in
    (c.requires, sym r.verdict_is ∙ ap verdict_of c.in-Ok.is, r.begun _ c.in-Ok.is, refl)

pub returns-in-Err : goal.returns-in-Err
returns-in-Err c =
    let r = readied_flat _ c.requires _ _ _ _ _ _ _ _ _ _ _ c.prepare-prepared.ensures in
    by_refusal c.args.chain [] _ _ _ _ _ _ (sym r.verdict_is ∙ ap verdict_of c.in-Err.is)
