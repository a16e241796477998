use mathlib.Core.Path.{sym, ◌∙◌}
use Rattle.zohmirka.proofs.FaceCalls.{sheet_refused, sheet_run, flat_sheet_run}
use Rattle.zohmirka.proofs.zohmirka_run.Goals as goal

pub returns-then-chain : goal.returns-then-chain
returns-then-chain c =
    sheet_run _ _ _ _ _ _ _ _ _ (sym c.read_chain.ensures ∙ c.in-Ok.is) c.rows_of-rows.ensures c.run_value.ensures

pub returns-in-Err : goal.returns-in-Err
returns-in-Err c =
    sheet_refused _ _ _ _ _ _ _ _ (sym c.read_chain.ensures ∙ c.in-Err.is) c.refused.ensures

pub returns-else-chain : goal.returns-else-chain
returns-else-chain c =
    flat_sheet_run _ _ _ _ _ _ _ _ _ (sym c.read_chain.ensures ∙ c.in-Ok.is) c.if-chain.false c.run_value-in-Ok.ensures
