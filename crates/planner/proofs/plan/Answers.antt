use Prim.Native.Nat.{ℕ}
use mathlib.Core.List.{List}
use mathlib.Core.Path.{◌≡◌, sym, ◌∙◌, ap}
use Rattle.std.proofs.lemmas.Result.{err_from_is_err_and}
use Rattle.std.specs.Prelude.{Ok}
use Rattle.model.specs.Answers.{Verdict}
use Rattle.model.specs.Judging.{judge_behind}
use Rattle.model.specs.Planning.{judge_request}
use Rattle.model.specs.Steps.{steps_of}
use Rattle.model.specs.Values.{dims_of}
use Rattle.model.specs.declared.Request.{Request}
use Rattle.model.specs.declared.Steps.{Steps}
use Rattle.windows.specs.Windows.{has_centre}
use Rattle.planner.proofs.PlanLaws.{plan_refused, plan_unstepped, few_dimensions, verdict_is, planned_by}
use Rattle.planner.proofs.plan.Goals as goal

pub returns-in_err-steps : goal.returns-in_err-steps
returns-in_err-steps c =
    let p = err_from_is_err_and c.from_residual.result c.from_residual.ensures.1 in
    rw (p.1, p.2) (plan_unstepped c.args.r c.args.rows.now _ (sym c.steps.ensures ∙ c.in_err-steps.was))

-- What judging said is what judging the request answers.
judged : (r : Request) (rows : List ℕ) (s : Steps) → steps_of r.grid rows r.window r.bounds ≡ Ok s → (n : ℕ) → n ≡ dims_of r.grid → (v : Verdict)
    → v ≡ judge_behind r.kernel (has_centre n r.window) s.total → judge_request r rows ≡ v
judged r rows s d n e v q = sym (q ∙ ap (λ (n : ℕ). judge_behind r.kernel (has_centre n r.window) s.total) e ∙ verdict_is r rows s d)

pub returns-in_err-judge_planned : goal.returns-in_err-judge_planned
returns-in_err-judge_planned c =
    let r = c.args.r in
    let s = sym c.steps.ensures ∙ c.in_ok-steps.was in
    let p = err_from_is_err_and c.from_residual-in_err-judge_planned.result c.from_residual-in_err-judge_planned.ensures.1 in
    rw (p.1, p.2) (plan_refused r c.args.rows.now _ (judged r c.args.rows.now c.in_ok-steps.steps s _ c.dims_of.ensures _ c.judge_planned.ensures ∙ c.in_err-judge_planned.was))

pub chain_by-requires : goal.chain_by-requires
chain_by-requires c = few_dimensions c.args.r c.args.rows.now c.in_ok-steps.steps (sym c.steps.ensures ∙ c.in_ok-steps.was)

pub returns : goal.returns
returns c =
    let r = c.args.r in
    let s = sym c.steps.ensures ∙ c.in_ok-steps.was in
    planned_by r c.args.rows.now c.in_ok-steps.steps s (judged r c.args.rows.now c.in_ok-steps.steps s _ c.dims_of.ensures _ c.judge_planned.ensures ∙ c.in_ok-judge_planned.was) c.chain_by.result c.chain_by.ensures
