-- What an accepted value is: no number turns it back.
use Prim.Native.Nat.{ℕ, ◌-◌}
use mathlib.Core.List.{List, ◌++◌}
use mathlib.Core.Path.{◌≡◌}
use borrow.Author.Tests.{ltb-false}
use Rattle.model.specs.Lists.{sum}
use Rattle.model.specs.Values.{Trimmed, dims_of, trimmed, capacities_of}
use Rattle.model.specs.Answers.{Check, first_of}
use Rattle.model.specs.Judging.{too_large, judged, judge_chain}
use Rattle.model.specs.declared.Chain.{Chain}
use Rattle.std.specs.Prelude.{Ok}
use Rattle.grid_laws.proofs.ListLaws.{length_tabulate}
use Rattle.grid_laws.proofs.ChainLaws.{ground_dims, length_order, offsets_count, offsets_sized, part_bounded}
use Rattle.grid_laws.proofs.Iterations.{few_cells, some_covered, fitting}
use Rattle.grid_laws.proofs.CheckLaws.{then_checks, value_passes, some_references, few_references}
use Rattle.model.specs.Sized.{Proper, Fitting}
use Rattle.run_laws.specs.Accepted.{Accepted}

-- Where none of the first checks holds, the others decide.
pub first_append : (cs ds : List Check) → first_of cs ≡ Ok tt → first_of (cs ++ ds) ≡ first_of ds
first_append cs ds e = rw e at (then_checks cs ds)

-- A chain, trimmed, has them.
pub trimmed_proper : (c : Chain) (rows : List ℕ) → Proper (trimmed c rows)
unfolding trimmed capacities_of
trimmed_proper c rows = record {
  references = offsets_count (dims_of c.grid) c.window;
  dimensions = ground_dims c.grid rows;
  entries = offsets_sized c.grid rows c.window;
  bounded = part_bounded c.grid rows c.bounds;
  fifos = length_tabulate (c.window.count - 1) _;
  terms = length_order c.window.count c.order;
}

pub accepted : (t : Trimmed) → Proper t → judged t ≡ Ok tt → Accepted t
unfolding judged too_large
accepted t proper e =
    let p = value_passes t e in
    record {
      checks = e;
      cells = few_cells t p.window.grid;
      some = some_references t.count p.window.count;
      few = few_references t.count p.window.count;
      iterates = some_covered t proper.bounded p.window.fits p.window.iterates;
      fits = p.window.fits;
      places = ltb-false 16384 (sum t.capacities) p.chain.places;
    }

pub accepted_chain : (c : Chain) (rows : List ℕ) → judge_chain c rows ≡ Ok tt → Accepted (trimmed c rows)
unfolding judge_chain
accepted_chain c rows e = accepted (trimmed c rows) (trimmed_proper c rows) e

-- What the laws of iterations ask of it.
pub fitting_of : (t : Trimmed) → Proper t → Accepted t → Fitting t
fitting_of t proper ok = fitting t proper ok.some ok.fits
