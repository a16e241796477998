-- 3 to 9, 14 and 15 turn the chain back, or the call is looked at further. Assumes nothing.
use mathlib.Core.List.{[]}
use mathlib.Core.Path.{◌≡◌, refl, sym, ◌∙◌, ap}
use Rattle.std.specs.Prelude.{Result}
use Rattle.std.proofs.lemmas.Result.{err_from_is_err_and}
use Rattle.model.specs.declared.Chain.{Chain}
use Rattle.model.specs.Values.{sizes_of, capacities_of}
use Rattle.model.specs.Judging.{judge_chain}
use Rattle.shape.specs.Shapes.{survey_of}
use Rattle.shape.specs.declared.Survey.{Survey}
use Rattle.judging.specs.Checks.{judged_behind, told, examined_of}
use Rattle.judging.specs.declared.Examined.{Examined}
use Rattle.model.specs.declared.Refusal.{Refusal}
use Rattle.judging.proofs.JudgeLaws.{examined_verdict, examined_shape, examined_centre}
use Rattle.run_prepare.specs.Ready.{flattened}
use Rattle.run_prepare.proofs.ReadyLaws.{judged_refused, readied_refused}
use Rattle.run_prepare.proofs.prepare.Goals as goal

-- What is found of a chain is what is found of it on a rectangle.
as-flattened : (c : Chain) → examined_of (flattened c) ≡ examined_of c
unfolding examined_of survey_of sizes_of judged_behind capacities_of
as-flattened c = refl

verdict-is : (c : Chain) (r : Result (Examined Survey) Refusal) → examined_of (flattened c) ≡ r → judge_chain (flattened c) [] ≡ told r
verdict-is c r e = sym (examined_verdict (flattened c) refl []) ∙ ap told e

pub with_chain-requires : goal.with_chain-requires
with_chain-requires c =
    let chain = c.args.chain in
    let e = as-flattened chain ∙ sym c.examine.ensures ∙ c.in_ok-found.was in
    record { chain_value = verdict-is chain _ e ∙ c.in_ok-found-2.was; shape_value = (examined_shape (flattened chain) _ e, examined_centre (flattened chain) _ e) }

pub returns-in_err-found : goal.returns-in_err-found
returns-in_err-found c =
    let chain = c.args.chain in
    let p = err_from_is_err_and c.from_residual.result c.from_residual.ensures.1 in
    rw (p.1, p.2) (readied_refused (flattened chain) [] _ _ _ _ _ _ _ _ _ _ _
    (judged_refused (flattened chain) [] _ _ _ (verdict-is chain _ (as-flattened chain ∙ sym c.examine.ensures ∙ c.in_err-found.was))))

pub returns-in_err-found-2 : goal.returns-in_err-found-2
returns-in_err-found-2 c =
    let chain = c.args.chain in
    let e = as-flattened chain ∙ sym c.examine.ensures ∙ c.in_ok-found.was in
    let p = err_from_is_err_and c.from_residual-in_err-found-2.result c.from_residual-in_err-found-2.ensures.1 in
    rw (p.1, p.2) (readied_refused (flattened chain) [] _ _ _ _ _ _ _ _ _ _ _ (judged_refused (flattened chain) [] _ _ _ (verdict-is chain _ e ∙ c.in_err-found-2.was)))
