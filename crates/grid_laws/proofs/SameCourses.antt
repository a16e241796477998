-- Windows with the same offsets, in whatever order, have the same course.
use Prim.Native.Nat.{ℕ, ◌+◌, ◌-◌, ◌≤◌, ◌<◌}
use mathlib.Core.List.{List, [], ◌∷◌, map}
use mathlib.Core.Path.{◌≡◌, refl, sym, ◌∙◌, ap₂}
use native.Mathlib.Omega.{arith}
use native.Mathlib.Nat.{le_antisymm}
use lib.ListN.{length}
use lib.IntN.{ℤ, pos, neg_ℤ}
use Rattle.model.specs.Lists.{tabulate}
use Rattle.model.specs.Windows.{Among, Members}
use Rattle.model.specs.Geometry.{first_entry, other_entries}
use Rattle.grid_laws.proofs.ListLaws.{length_tabulate, get_d_tabulate, tabulate_back, among_map, greatest_same}
use Rattle.grid_laws.proofs.IntegerLaws.{least_same}
use Rattle.grid_laws.proofs.Distances.{same_lows, same_extents}
use Rattle.model.specs.Grounds.{Row, Ground, row, no_row, end}
use Rattle.model.specs.Grounds.Ground.{rectangle, skewed}
use Rattle.model.specs.Courses.{smallest, low_row, low_column, rows_down, columns_on, common_start, common_end, common_row, all_iterations}
use Rattle.model.specs.Boxes.{Part, course}
use Rattle.model.specs.Boxes.Part.{whole, box}
use Rattle.grid_laws.proofs.RowIterations.{smallest_below, smallest_stands}

smallest_same : (xs ys : List ℕ) (d : ℕ) → Among d xs ys → Among d ys xs → smallest xs ≡ smallest ys
unfolding smallest
smallest_same [] [] d m n = refl
smallest_same [] (y ∷ ys) d m n = absurd (omega (arith, n 0 (omega arith)))
smallest_same (x ∷ xs) [] d m n = absurd (omega (arith, m 0 (omega arith)))
smallest_same (x ∷ xs) (y ∷ ys) d m n = le_antisymm (side (y ∷ ys) (x ∷ xs) n (omega arith)) (side (x ∷ xs) (y ∷ ys) m (omega arith))
  where
    side : (xs ys : List ℕ) → Among d xs ys → 0 < length xs → smallest ys ≤ smallest xs
    side xs ys m h =
        let (k, b, e) = smallest_stands xs d h in
        let (l, c, f) = m k b in
        omega (arith, smallest_below ys l d c)

module _ (a b : List (List ℤ)) (m : Members a b) (n : Members b a) where
  same_low_row : low_row a ≡ low_row b
  unfolding first_entry
  same_low_row = least_same (map first_entry a) (map first_entry b) (pos 0) (among_map first_entry [] a b m) (among_map first_entry [] b a n)

  same_low_column : low_column a ≡ low_column b
  unfolding first_entry other_entries
  same_low_column =
      least_same (map first_entry (map other_entries a)) (map first_entry (map other_entries b)) (pos 0)
      (among_map first_entry [] (map other_entries a) (map other_entries b) (among_map other_entries [] a b m))
      (among_map first_entry [] (map other_entries b) (map other_entries a) (among_map other_entries [] b a n))

  same_common : (rs : List Row) (u : ℕ) → common_row rs a u ≡ common_row rs b u
  unfolding common_row common_start common_end rows_down columns_on
  same_common rs u =
      let from : List ℤ → ℕ = λ o. (row rs (rows_down b o + u)).start - columns_on b o in
      let to : List ℤ → ℕ = λ o. end (row rs (rows_down b o + u)) - columns_on b o in
      rw (same_low_row, same_low_column)
      (ap₂ (λ (s e : ℕ). record { start = s; length = e - s })
      (greatest_same (map from a) (map from b) (from []) (among_map from [] a b m) (among_map from [] b a n))
      (smallest_same (map to a) (map to b) (to []) (among_map to [] a b m) (among_map to [] b a n)))

  same_whole : (g : Ground) → all_iterations g a ≡ all_iterations g b
  unfolding all_iterations
  same_whole (rectangle sizes) =
      ap₂ (λ (ls : List ℤ) (es : List ℕ). record { first = map neg_ℤ ls; shape = rectangle es }) (same_lows sizes a b m n) (same_extents sizes a b m n)
  same_whole (skewed rs) =
      let same_rows : tabulate (length rs) (common_row rs a) ≡ tabulate (length rs) (common_row rs b) =
      tabulate_back no_row (tabulate (length rs) (common_row rs b)) (length rs) (common_row rs a) (length_tabulate (length rs) (common_row rs b))
      (λ k h. same_common rs k ∙ sym (get_d_tabulate (length rs) (common_row rs b) k no_row h)) in
      rw (same_low_row, same_low_column, same_rows)

  pub same_course : (g : Ground) (p : Part) → course g a p ≡ course g b p
  unfolding course
  same_course g whole = same_whole g
  same_course g (box lowest highest) = refl
