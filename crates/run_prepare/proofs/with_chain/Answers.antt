-- 10 turns the store back, or the call is looked at further. Assumes nothing.
use mathlib.Core.List.{[]}
use mathlib.Core.Path.{◌≡◌, sym, ◌∙◌}
use Rattle.model.specs.Values.{trimmed}
use Rattle.model_run.specs.Running.{short_store}
use Rattle.run_laws.proofs.Accepts.{accepted_chain, trimmed_proper}
use Rattle.run_prepare.specs.Ready.{flattened}
use Rattle.run_prepare.proofs.PrepareGuards.{short_is}
use Rattle.run_prepare.proofs.PrepareChains.{chain_capped}
use Rattle.run_prepare.proofs.ReadyLaws.{judged_short, stored, readied_refused}
use Rattle.run_prepare.proofs.with_chain.Goals as goal
use Rattle.run_prepare.proofs.with_chain.Goals.{After-short}

pub bases_of-places-requires : goal.bases_of-places-requires
unfolding trimmed
bases_of-places-requires c =
    ((accepted_chain (flattened c.args.chain) [] c.requires.chain_value).few, c.widen.ensures.small)

-- 10 is looked at.
is-short : (c : After-short) → c.short.result ≡ short_store (trimmed (flattened c.args.chain) []) c.args.store.now
is-short c =
    let ok = accepted_chain (flattened c.args.chain) [] c.requires.chain_value in
    c.short.ensures ∙ short_is (chain_capped (flattened c.args.chain) [] ok _ c.widen.ensures) (trimmed_proper (flattened c.args.chain) []) ok c.args.store.now _ c.bases_of-places.ensures.0

pub returns-then-short : goal.returns-then-short
returns-then-short c =
    readied_refused (flattened c.args.chain) [] _ _ _ _ _ _ _ _ _ _ _ (judged_short (flattened c.args.chain) [] _ _ (accepted_chain (flattened c.args.chain) [] c.requires.chain_value) (sym (is-short (goal.at.returns-then-short c).After-short) ∙ c.if-short.true))

pub with_store-requires : goal.with_store-requires
with_store-requires c =
    let ok = accepted_chain (flattened c.args.chain) [] c.requires.chain_value in
    record { shape_value = c.requires.shape_value; capable = record { accepted = ok; capped = chain_capped (flattened c.args.chain) [] ok _ c.widen.ensures; small = c.widen.ensures.small } }

pub returns : goal.returns
returns c =
    let ok = accepted_chain (flattened c.args.chain) [] c.requires.chain_value in
    c.with_store.ensures _ _ _
    (stored (flattened c.args.chain) [] _ _ _ _ ok (chain_capped (flattened c.args.chain) [] ok _ c.widen.ensures) c.widen.ensures.small c.bases_of-places.ensures.1 c.bases_of-places.ensures.2
    (sym (is-short (goal.at.returns c).After-short) ∙ c.if-short.false))
