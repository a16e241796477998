use mathlib.Core.Path.{sym, ◌∙◌}
use Rattle.std.proofs.lemmas.Result.{err_from_is_err_and}
use Rattle.zohmirka.proofs.FaceCalls.{read_refused, read_short, rows_short, read_written, flat_read_written}
use Rattle.zohmirka.proofs.read.Goals as goal

pub returns-in_err-c : goal.returns-in_err-c
returns-in_err-c c =
    let p = err_from_is_err_and c.from_residual.result c.from_residual.ensures.1 in
    rw (p.1, p.2) (read_refused _ _ _ _ (sym c.read_chain.ensures ∙ c.in_err-c.was))

pub returns-then-chain-lt212 : goal.returns-then-chain-lt212
returns-then-chain-lt212 c =
    read_short _ _ _ _ (sym c.read_chain.ensures ∙ c.in_ok-c.was) c.if-chain-lt212.true

pub returns-then-rows-row_places : goal.returns-then-rows-row_places
returns-then-rows-row_places c =
    rows_short _ _ _ _ (sym c.read_chain.ensures ∙ c.in_ok-c.was) c.if-chain-lt212.false _ c.row_places.ensures c.if-rows-row_places.true

pub returns-then-c : goal.returns-then-c
returns-then-c c =
    read_written _ _ _ _ (sym c.read_chain.ensures ∙ c.in_ok-c.was) c.if-chain-lt212.false _ c.row_places.ensures _ _ _ c.if-rows-row_places.false c.chain_out.ensures c.rows_of.ensures c.rows_out.ensures

pub returns-else-c : goal.returns-else-c
returns-else-c c =
    flat_read_written _ _ _ _ (sym c.read_chain.ensures ∙ c.in_ok-c.was) c.if-chain-lt212.false _ c.row_places.ensures _ c.if-rows-row_places.false c.chain_out.ensures c.if-c.false
