-- 10 turns the store back, or the call is looked at further. Assumes nothing.
use mathlib.Core.Path.{◌≡◌, sym, ◌∙◌}
use Rattle.model.specs.Values.{trimmed}
use Rattle.model_run.specs.Running.{short_store}
use Rattle.run_laws.proofs.Accepts.{accepted_chain, trimmed_proper}
use Rattle.run_prepare.specs.RowsReady.{in_rows}
use Rattle.run_prepare.proofs.PrepareGuards.{short_is}
use Rattle.run_prepare.proofs.PrepareChains.{chain_capped, few_references}
use Rattle.run_prepare.proofs.ReadyLaws.{judged_short, stored}
use Rattle.run_prepare.proofs.RowsLaws.{rows_refused}
use Rattle.run_prepare.proofs.skewed.with_chain.Goals as goal
use Rattle.run_prepare.proofs.skewed.with_chain.Goals.{After-short}

pub bases_of-places-requires : goal.bases_of-places-requires
bases_of-places-requires c =
    (few_references (in_rows c.args.chain) _ (accepted_chain (in_rows c.args.chain) c.args.rows.now c.requires.0), c.widen.ensures.small)

-- 10 is looked at.
is-short : (c : After-short) → c.short.result ≡ short_store (trimmed (in_rows c.args.chain) c.args.rows.now) c.args.store.now
is-short c =
    let rows = c.args.rows.now in
    c.short.ensures
    ∙ short_is (chain_capped (in_rows c.args.chain) rows (accepted_chain (in_rows c.args.chain) c.args.rows.now c.requires.0) _ c.widen.ensures) (trimmed_proper (in_rows c.args.chain) rows) (accepted_chain (in_rows c.args.chain) c.args.rows.now c.requires.0) c.args.store.now _
    c.bases_of-places.ensures.0

pub returns-then-short : goal.returns-then-short
returns-then-short c =
    rows_refused (in_rows c.args.chain) _ _ _ _ _ _ _ _ _ _ (judged_short (in_rows c.args.chain) _ _ _ (accepted_chain (in_rows c.args.chain) c.args.rows.now c.requires.0) (sym (is-short (goal.at.returns-then-short c).After-short) ∙ c.if-short.true))

pub with_store-requires : goal.with_store-requires
with_store-requires c =
    (c.requires.1, record { accepted = accepted_chain (in_rows c.args.chain) c.args.rows.now c.requires.0; capped = chain_capped (in_rows c.args.chain) _ (accepted_chain (in_rows c.args.chain) c.args.rows.now c.requires.0) _ c.widen.ensures; small = c.widen.ensures.small })

pub returns : goal.returns
returns c =
    c.with_store.ensures _ _ _
    (stored (in_rows c.args.chain) _ _ _ _ _ (accepted_chain (in_rows c.args.chain) c.args.rows.now c.requires.0) (chain_capped (in_rows c.args.chain) _ (accepted_chain (in_rows c.args.chain) c.args.rows.now c.requires.0) _ c.widen.ensures) c.widen.ensures.small c.bases_of-places.ensures.1 c.bases_of-places.ensures.2
    (sym (is-short (goal.at.returns c).After-short) ∙ c.if-short.false))
