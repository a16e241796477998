-- A line's kind among those that may come next, and its place in the sheet.
use Prim.Native.Nat.{ℕ}
use mathlib.Core.Bool.{Bool, true, false, not, ◌||◌}
use mathlib.Core.List.{List, [], ◌∷◌}
use mathlib.Core.Path.{◌≡◌, refl, sym, ap, ap₂, ◌∙◌}
use lib.Dec.{eqb}
use Rattle.std.specs.List.{list_any}
use borrow.Author.Tests.{eq-eqb, ne_eqb}
use Rattle.model.specs.declared.Last.{Last}
use Rattle.model.specs.Lists.{any}
use Rattle.model_sheet.specs.Reading.{next_in_request, next_in_chain, miscounted, among, misplaced}
use Rattle.sheet_laws.proofs.Cases.{by_eq, never}

module _ (kind k : ℕ) where
  pub one_left : eqb kind k ≡ among kind (k ∷ [])
  unfolding among any
  one_left = go (eqb kind k)
    where
      go : (b : Bool) → b ≡ (b || false)
      go true = refl
      go false = refl

  same_test : eqb k kind ≡ eqb kind k
  same_test = by_eq k kind (λ e. rw (eq-eqb k kind e, eq-eqb kind k (sym e))) (λ n. rw (ne_eqb k kind n, ne_eqb kind k (λ e. n (sym e))))

pub any_left : (kind : ℕ) (ks : List ℕ) → list_any (λ (k : ℕ). eqb k kind) ks ≡ among kind ks
unfolding among any
any_left kind [] = refl
any_left kind (k ∷ ks) = ap₂ ◌||◌ (same_test kind k) (any_left kind ks)

module _ (last : Last) (given count kind : ℕ) where
  pub in_request : (chained : Bool) {b : Bool} → chained ≡ false → b ≡ among kind (next_in_request last) → not b ≡ misplaced chained last given count kind
  unfolding misplaced
  in_request true z e = absurd (never z)
  in_request false z e = ap not e

  pub not_in_chain : (chained : Bool) {b : Bool} → chained ≡ true → b ≡ among kind (next_in_chain last) → b ≡ false → true ≡ misplaced chained last given count kind
  unfolding misplaced
  not_in_chain true z e f = rw (sym e ∙ f)
  not_in_chain false z e f = absurd (never (sym z))

  pub in_chain : (chained : Bool) {b m : Bool} → chained ≡ true → b ≡ among kind (next_in_chain last) → b ≡ true → m ≡ miscounted given count kind
      → m ≡ misplaced chained last given count kind
  unfolding misplaced
  in_chain true z e f g = rw (sym e ∙ f) g
  in_chain false z e f g = absurd (never (sym z))
