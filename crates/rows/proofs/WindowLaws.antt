-- A window's lows and how far its references lie above them, in its array.
use Prim.Native.Nat.{ℕ, ◌≤◌, ◌<◌}
use mathlib.Core.Bool.{cond}
use mathlib.Core.List.{[], ◌∷◌, map}
use mathlib.Core.Path.{◌≡◌, refl, sym, ◌∙◌, ap}
use native.Mathlib.Omega.{arith}
use lib.Dec.{ltb}
use lib.ListN.{length, get_or}
use borrow.Author.Tests.{lt-ltb, le-ltb}
use Rattle.model.specs.Lists.{tabulate}
use Rattle.model.specs.Geometry.{first_entry, other_entries, least}
use Rattle.model.specs.Courses.{low_row, low_column, rows_down, columns_on}
use Rattle.model.specs.Sized.{Sized}
use Rattle.model.specs.Values.{offset_of, offsets_of}
use Rattle.model.specs.declared.Window.{Window}
use Rattle.grid_laws.proofs.ListLaws.{get_d_tabulate, map_tabulate}
use Rattle.grid_laws.proofs.ChainLaws.{offsets_count}
use Rattle.geometry.specs.Parts.{entry_at}
use Rattle.windows.specs.Lows.{low_in, heights_in}
use Rattle.windows.proofs.LowLaws.{low_there, heights_there}
use Rattle.rows.specs.Courses.{downs, ons}

module _ (w : Window) where
  two_entries : (k : ℕ) → offset_of 2 w k ≡ entry_at w.offsets k 0 ∷ entry_at w.offsets k 1 ∷ []
  unfolding offset_of tabulate
  two_entries k = refl

  pub offset_is : (k : ℕ) → k < w.count → get_or (offsets_of 2 w) k [] ≡ entry_at w.offsets k 0 ∷ entry_at w.offsets k 1 ∷ []
  unfolding offsets_of
  offset_is k h = get_d_tabulate w.count (offset_of 2 w) k [] h ∙ two_entries k

  pub two_sized : Sized 2 (offsets_of 2 w)
  two_sized k h = ap length (offset_is k (rw (offsets_count 2 w) at h))

  -- The lows and the heights that are found, of at most 32 references.
  module _ (few : w.count ≤ 32) where
    pub low_row_lem : low_in w.count w.offsets 0 ≡ low_row (offsets_of 2 w)
    unfolding offsets_of offset_of tabulate first_entry
    low_row_lem = low_there w.count w.offsets 0 few (omega arith) ∙ ap least (sym (map_tabulate first_entry w.count (offset_of 2 w)))

    pub low_column_lem : low_in w.count w.offsets 1 ≡ low_column (offsets_of 2 w)
    unfolding offsets_of offset_of tabulate first_entry other_entries
    low_column_lem =
        low_there w.count w.offsets 1 few (omega arith)
        ∙ ap least (sym (ap (map first_entry) (map_tabulate other_entries w.count (offset_of 2 w)) ∙ map_tabulate first_entry w.count (λ k. other_entries (offset_of 2 w k))))

    pub downs_are : heights_in w.count w.offsets 0 (low_row (offsets_of 2 w)) ≡ downs (offsets_of 2 w)
    unfolding rows_down first_entry
    downs_are =
        heights_there w.count w.offsets 0 (low_row (offsets_of 2 w)) (λ k. cond (ltb k (length (offsets_of 2 w))) (rows_down (offsets_of 2 w) (get_or (offsets_of 2 w) k [])) 0) few (omega arith)
        (λ k h. rw (offsets_count 2 w, lt-ltb k w.count h, offset_is k h)) (λ k h. rw (offsets_count 2 w, le-ltb k w.count h))

    pub ons_are : heights_in w.count w.offsets 1 (low_column (offsets_of 2 w)) ≡ ons (offsets_of 2 w)
    unfolding columns_on first_entry other_entries
    ons_are =
        heights_there w.count w.offsets 1 (low_column (offsets_of 2 w)) (λ k. cond (ltb k (length (offsets_of 2 w))) (columns_on (offsets_of 2 w) (get_or (offsets_of 2 w) k [])) 0) few (omega arith)
        (λ k h. rw (offsets_count 2 w, lt-ltb k w.count h, offset_is k h)) (λ k h. rw (offsets_count 2 w, le-ltb k w.count h))
