-- Of a rectangle the numbers beside it play no part.
use Prim.Native.Nat.{ℕ}
use mathlib.Core.Bool.{false}
use mathlib.Core.List.{List}
use mathlib.Core.Path.{◌≡◌, sym, ◌∙◌, ap}
use native.Mathlib.Omega.{arith}
use lib.ListN.{length}
use borrow.Author.Tests.{le-ltb}
use Rattle.model.specs.Judging.{judge_chain}
use Rattle.model.specs.Lists.{tabulate}
use Rattle.model.specs.Planning.{trimmed_request, judge_request, planned_chain, plan_of}
use Rattle.model_run.specs.Running.{run_of}
use Rattle.model.specs.Steps.{sorted}
use Rattle.model.specs.Values.{ground_of, trimmed, grid_of, chain_of}
use Rattle.model_sheet.specs.Writing.{chain_lines, sheet_of, write_verdict, write_of}
use Rattle.model.specs.declared.Chain.{Chain}
use Rattle.model.specs.declared.Grid.{Grid}
use Rattle.model.specs.declared.Request.{Request}
use Rattle.std.specs.Prelude.{Ok}
use Rattle.grid_laws.proofs.ChainLaws.{ground_flat}
use Rattle.grid_laws.proofs.StepLaws.{plan_chain}
use Rattle.zohmirka_words.specs.Words.{row_places, row_words, rows_into}
use Rattle.zohmirka_runs.specs.Runs.{run_value}

ground_alike : (g : Grid) → g.skewed ≡ false → (rows rows' : List ℕ) → ground_of g rows ≡ ground_of g rows'
ground_alike g flat rows rows' = ground_flat g flat rows ∙ sym (ground_flat g flat rows')

module _ (c : Chain) (flat : c.grid.skewed ≡ false) (rows rows' : List ℕ) where
  trimmed_flat : trimmed c rows ≡ trimmed c rows'
  unfolding trimmed
  trimmed_flat = rw (ground_alike c.grid flat rows rows')

  judged_flat : judge_chain c rows ≡ judge_chain c rows'
  unfolding judge_chain
  judged_flat = rw trimmed_flat

  sheet_flat : sheet_of c rows ≡ sheet_of c rows'
  unfolding sheet_of chain_lines
  sheet_flat = rw (ground_alike c.grid flat rows rows')

  pub write_flat : (sheet : List ℕ) → write_of c rows sheet ≡ write_of c rows' sheet
  unfolding write_of write_verdict
  write_flat sheet = rw (sheet_flat, judged_flat)

  pub run_flat : (state store cells out : List ℕ) (allowance : ℕ) → run_value state store cells out allowance c rows ≡ run_value state store cells out allowance c rows'
  unfolding run_value run_of
  run_flat state store cells out allowance = rw trimmed_flat

module _ (r : Request) (flat : r.grid.skewed ≡ false) where
  trimmed_request_flat : (rows rows' : List ℕ) → trimmed_request r rows ≡ trimmed_request r rows'
  unfolding trimmed_request
  trimmed_request_flat rows rows' = rw (ground_alike r.grid flat rows rows')

  pub plan_flat : (rows rows' : List ℕ) → plan_of r rows ≡ plan_of r rows'
  unfolding plan_of judge_request planned_chain
  plan_flat rows rows' = rw (trimmed_request_flat rows rows')

  -- Its planned chain stands on a rectangle too.
  chain_flat : (rows : List ℕ) → (planned_chain r rows).grid.skewed ≡ false
  unfolding planned_chain chain_of sorted trimmed_request grid_of
  chain_flat rows = rw (ground_flat r.grid flat rows)

  pub planned_flat : (rows : List ℕ) (c : Chain) → plan_of r rows ≡ Ok c → c.grid.skewed ≡ false
  planned_flat rows c e = ap (λ (d : Chain). d.grid.skewed) (plan_chain r rows c e) ∙ chain_flat rows

-- None of them are laid out.
pub rows_flat : (g : Grid) → g.skewed ≡ false → (told rows : List ℕ) → rows ≡ rows_into g told rows
unfolding rows_into row_words row_places tabulate
rows_flat g flat told rows = rw (flat, le-ltb (length rows) 0 (omega arith))
