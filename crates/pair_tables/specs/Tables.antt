-- Tables of a window's references and of the filters that hold them, of any value: those of model_run's `PairRuns` where the
-- arrays hold the windows, and empty ones elsewhere.
use Rattle.std.specs.Prelude.{ℕ, cond, List, [], Option, Some, None, map, ℤ}
use Rattle.model.specs.Values.{offsets_of, filter_array}
use Rattle.model.specs.Steps.{which_of}
use Rattle.model.specs.Pairs.{member}
use Rattle.model.specs.declared.Window.{Window}
use Rattle.model_run.specs.PairRuns.{kept}
use Rattle.kernel_terms.specs.declared.Terms.{Terms}
use Rattle.kernel_terms.specs.FilterTables.{table_of}
use Rattle.pair_windows.specs.Unions.{both_held}

-- Which of the offsets this one is, if it is one of them.
abbrev pub place_in : List (List ℤ) → List ℤ → Option ℕ
place_in os o = cond (member os o) (Some (which_of os o)) None

-- `held_by` and `in_chain_order`, of the chain's offsets and a window's own.
abbrev pub filters_of : (chain own : List (List ℤ)) → List ℕ
filters_of os ps = map (which_of os) ps

abbrev pub terms_in : (chain own : List (List ℤ)) → List ℕ
terms_in os ps = map (which_of ps) (kept (member ps) os)

-- Their tables, with 0 past the last.
unfoldable pub held_in : (dims : ℕ) → (chain own : Window) → List ℕ
held_in dims c w = filter_array (cond (both_held dims c.count w.count) (filters_of (offsets_of dims c) (offsets_of dims w)) [])

unfoldable pub chain_order_in : (dims : ℕ) → (chain own : Window) → Terms
chain_order_in dims c w = table_of (cond (both_held dims c.count w.count) (terms_in (offsets_of dims c) (offsets_of dims w)) [])
