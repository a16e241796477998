-- The test, and the clocks. Assumes nothing.
use Prim.Native.Nat.{ℕ}
use mathlib.Core.List.{List, []}
use mathlib.Core.Path.{◌≡◌, refl, sym, ap}
use lib.ListN.{length}
use lib.Seq.{length-take-le}
use Rattle.kernel_terms.proofs.TableLaws.{table_fits, table_terms}
use Rattle.run_glide.specs.Glides.{Sound, Left}
use Rattle.run_glide.specs.declared.Slid.{Slid}
use Rattle.run_glide.specs.declared.Way.TheVariants as way
use Rattle.run_glide.proofs.GlidingLaws.{named, sound}
use Rattle.run_glide.proofs.glide.Goals as goal
use Rattle.run_glide.proofs.glide.Goals.{Else-bad_places}

-- What is handed in is sound.
passes : (e : Else-bad_places) →
    Sound e.args.n e.args.dims e.args.row e.args.iterations (length e.args.store.now) e.args.at.now e.args.wants.now e.args.bases.now e.args.tops.now e.args.spans.now e.args.strides.now e.args.passed.now e.args.puts0 e.args.gets0
passes e =
    record { in_rows = e.bad_rows.ensures.0 e.if-bad_rows.false; in_rings = e.bad_places.ensures.0 e.if-bad_places.false }

-- Nothing was done.
left : {r : Slid} {store out : List ℕ} → r ≡ record { how = way.Spent; clocks = 0; firings = 0 } → Left r store store out out
left e = record {
  stopped = ap (λ (r : Slid). r.how) e;
  no_clocks = ap (λ (r : Slid). r.clocks) e;
  no_firings = ap (λ (r : Slid). r.firings) e;
  store_kept = refl;
  out_kept = refl;
}

pub returns-then-bad_rows : goal.returns-then-bad_rows
returns-then-bad_rows c = (
  λ L write size caps F G. absurd (c.bad_rows.ensures.1 c.if-bad_rows.true (sound _ _ _ _ _ _ _ _ _ _ _ _ _ _ _ _ _ _ _ _ _ _ _ [] [] 0 G).in_rows),
  (λ _. left c.unmoved.ensures, λ S. absurd (c.bad_rows.ensures.1 c.if-bad_rows.true S.in_rows)),
)

pub returns-then-bad_places : goal.returns-then-bad_places
returns-then-bad_places c = (
  λ L write size caps F G. absurd (c.bad_places.ensures.1 c.if-bad_places.true (sound _ _ _ _ _ _ _ _ _ _ _ _ _ _ _ _ _ _ _ _ _ _ _ [] [] 0 G).in_rings),
  (λ _. left c.unmoved-then-bad_places.ensures, λ S. absurd (c.bad_places.ensures.1 c.if-bad_places.true S.in_rings)),
)

pub slice_bounds-filters-end : goal.slice_bounds-filters-end
slice_bounds-filters-end c =
    table_fits _ _ _ _ (passes (goal.at.slice_bounds-filters-end c).Else-bad_places).in_rings.few _ c.terms_of-found.ensures

pub slice_bounds-slide-end : goal.slice_bounds-slide-end
slice_bounds-slide-end c =
    sym (length-take-le _ _ (table_fits _ _ _ _ (passes (goal.at.slice_bounds-slide-end c).Else-bad_places).in_rings.few _ c.terms_of-found.ensures))

pub returns : goal.returns
returns c = (
  λ L write size caps F G.
      rw c.width.ensures at
      (c.slide.ensures.0 L write size _ _ caps _ (record { full_is = F; first_is = refl; position_is = refl; wait_is = refl; left_is = refl })
      (named _ _ _ _ _ _ _ _ _ _ _ _ _ _ _ _ _ _ _ _ _ _ _ _ _ (table_terms _ _ _ _ (passes (goal.at.returns c).Else-bad_places).in_rings.few _ c.terms_of-found.ensures) c.width.ensures G)),
  (λ no. absurd (no (passes (goal.at.returns c).Else-bad_places)), λ _. rw c.width.ensures at c.slide.ensures.1),
)
