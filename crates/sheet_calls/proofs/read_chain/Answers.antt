use mathlib.Core.Path.{sym, ◌∙◌}
use Rattle.std.proofs.lemmas.Result.{err_from_is_err_and}
use Rattle.sheet_calls.proofs.ReaderLaws.{chain_read, end_refused, end_missing, end_judged}
use Rattle.sheet_calls.proofs.read_chain.Goals as goal

pub returns-then-not-is_complete : goal.returns-then-not-is_complete
returns-then-not-is_complete c =
    chain_read _ _ _ _ c.rows_of-rows.ensures c.read_lines-s.ensures (end_missing _ _ c.in_ok-s.was (sym c.is_complete.ensures ∙ c.if-not-is_complete.true))

pub returns-in_err-s : goal.returns-in_err-s
returns-in_err-s c =
    let p = err_from_is_err_and c.from_residual.result c.from_residual.ensures.1 in
    rw (p.1, p.2) (chain_read _ _ _ _ c.rows_of-rows.ensures c.read_lines-s.ensures (end_refused _ _ _ c.in_err-s.was))

pub returns-in_err-judge_chain : goal.returns-in_err-judge_chain
returns-in_err-judge_chain c =
    let p = err_from_is_err_and c.from_residual-in_err-judge_chain.result c.from_residual-in_err-judge_chain.ensures.1 in
    rw (p.1, p.2)
    (chain_read _ _ _ _ c.rows_of-rows.ensures c.read_lines-s.ensures
    (end_judged _ _ c.in_ok-s.was (sym c.is_complete.ensures ∙ c.if-not-is_complete.false) _ (sym c.in_err-judge_chain.was ∙ c.judge_chain.ensures)))

pub returns : goal.returns
returns c =
    chain_read _ _ _ _ c.rows_of-rows.ensures c.read_lines-s.ensures
    (end_judged _ _ c.in_ok-s.was (sym c.is_complete.ensures ∙ c.if-not-is_complete.false) _ (sym c.in_ok-judge_chain.was ∙ c.judge_chain.ensures))
