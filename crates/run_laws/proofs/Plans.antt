-- The planned chain of a request that no number turns back: what it is, and that it is accepted.
use Prim.Native.Nat.{ℕ}
use mathlib.Core.Bool.{false}
use mathlib.Core.List.{List, []}
use mathlib.Core.Path.{◌≡◌, refl, ◌∙◌, ap}
use Rattle.model.specs.Vectors.{is_zero}
use Rattle.model.specs.Grounds.{dims}
use Rattle.model.specs.Courses.{count}
use Rattle.model.specs.Boxes.{course, bad_box}
use Rattle.model.specs.Boxes.Part.{whole}
use Rattle.model.specs.Values.{Trimmed, ground_of, dims_of, trimmed, no_order}
use Rattle.model.specs.Answers.{first_of}
use Rattle.model.specs.Judging.{repeats, no_iteration, bad_order, window_checks, chain_checks, value_checks, judged, judge_chain}
use Rattle.model.specs.Steps.{falling, authors_order, distances, sorted}
use Rattle.model.specs.Planning.{trimmed_request, judge_request, planned_chain}
use Rattle.model.specs.declared.Request.{Request}
use Rattle.std.specs.Prelude.{Ok}
use Rattle.grid_laws.proofs.ListLaws.{length_tabulate}
use Rattle.grid_laws.proofs.SameCourses.{same_course}
use Rattle.grid_laws.proofs.Iterations.{fitting}
use Rattle.grid_laws.proofs.SameWindows.{fitting_too}
use Rattle.grid_laws.proofs.SortLaws.{length_falling, falling_each, falling_no_other, sized_falling, any_falling, repeats_falling}
use Rattle.grid_laws.proofs.ChainLaws.{ground_dims, ground_again, trimmed_chain}
use Rattle.grid_laws.proofs.TermLaws.{length_authors, authors_good}
use Rattle.grid_laws.proofs.CheckLaws.{value_passes, few_dims, some_references}
use Rattle.model.specs.Sized.{Proper, Fitting}
use Rattle.run_laws.proofs.Accepts.{trimmed_proper, accepted}

-- With its offsets sorted a value fits its grid as before.
sorted_fits : (t : Trimmed) → Fitting t → Fitting (sorted t)
unfolding sorted
sorted_fits t f =
    fitting_too t (sorted t) refl (falling_each t.offsets) (falling_no_other t.offsets) refl f (length_falling t.offsets ∙ f.references)
    (sized_falling (dims t.the_ground) t.offsets f.suits.entries) f.suits.bounded

-- A value that no number turns back is judged as before with its offsets sorted: the order that is recorded is each filter number once.
pub same_checks : (t : Trimmed) → Proper t → judged t ≡ Ok tt → value_checks (sorted t) ≡ value_checks t
unfolding judged sorted value_checks window_checks chain_checks no_iteration course
same_checks t p e =
    let os = t.offsets in
    let q = value_passes t e in
    let recorded : bad_order t.count (authors_order os) ≡ false = rw p.references at (authors_good os q.window.distinct) in
    let good = fitting t p (some_references t.count q.window.count) q.window.fits in
    let boxed : bad_box t.the_ground (falling os) t.part ≡ false = (sorted_fits t good).suits.fits in
    rw (repeats_falling os, ap count (same_course (falling os) os (falling_no_other os) (falling_each os) t.the_ground whole), boxed, q.window.fits, any_falling is_zero os, recorded, q.chain.once)

pub sorted_proper : (t : Trimmed) → Proper t → Proper (sorted t)
unfolding sorted
sorted_proper t p = record {
  references = length_falling t.offsets ∙ p.references;
  dimensions = p.dimensions;
  entries = sized_falling (dims t.the_ground) t.offsets p.entries;
  bounded = p.bounded;
  fifos = p.fifos;
  terms = length_authors t.offsets ∙ p.references;
}

-- What 5 says of a value that no number turns back.
pub no_repeats : (t : Trimmed) → judged t ≡ Ok tt → repeats t.offsets ≡ false
unfolding judged
no_repeats t e = (value_passes t e).window.distinct

pub request_proper : (r : Request) (rows : List ℕ) → Proper (trimmed_request r rows)
unfolding trimmed_request trimmed sorted distances
request_proper r rows =
    let p = trimmed_proper (record { grid = r.grid; window = r.window; bounds = r.bounds; capacities = []; order = no_order; kernel = r.kernel }) rows in
    record {
      references = p.references;
      dimensions = p.dimensions;
      entries = p.entries;
      bounded = p.bounded;
      fifos = length_tabulate _ _;
      terms = refl;
    }

module _ (r : Request) (rows : List ℕ) (ok : judge_request r rows ≡ Ok tt) where
  -- The planned chain's lists are the request's, with the offsets sorted.
  pub planned_lists : trimmed (planned_chain r rows) rows ≡ sorted (trimmed_request r rows)
  unfolding judge_request judged planned_chain trimmed_request sorted
  planned_lists =
      let p = sorted_proper (trimmed_request r rows) (request_proper r rows) in
      trimmed_chain (sorted (trimmed_request r rows)) rows (ground_again r.grid rows) p.dimensions p.references p.entries p.bounded p.fifos p.terms
      (few_dims (dims_of r.grid) (ground_of r.grid rows) (ground_dims r.grid rows) (value_passes (trimmed_request r rows) ok).window.grid) (accepted (trimmed_request r rows) (request_proper r rows) ok).few

  pub planned_judged : judged (sorted (trimmed_request r rows)) ≡ Ok tt
  unfolding judged judge_request
  planned_judged = ap first_of (same_checks (trimmed_request r rows) (request_proper r rows) ok) ∙ ok

  pub plan_accepted : judge_chain (planned_chain r rows) rows ≡ Ok tt
  unfolding judge_chain
  plan_accepted = rw planned_lists planned_judged
