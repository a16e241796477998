-- Laws of a box in one dimension.
use Prim.Native.Nat.{ℕ, ◌+◌, ◌-◌, ◌≤◌, ◌<◌}
use mathlib.Core.Bool.{Bool, true, false, and-false}
use mathlib.Core.Path.{◌≡◌, refl, sym, ◌∙◌, ap, ap₂}
use native.Mathlib.Omega.{arith}
use lib.Dec.{ltb, leb}
use lib.IntN.{ℤ, neg_ℤ}
use lib.Signed.{le_z}
use borrow.Author.Tests.{ltb-true, leb-true, lt-ltb, le-ltb, le-leb, lt-leb}
use Rattle.model.specs.Vectors.{above}
use Rattle.model.specs.Boxes.{index_count}
use Rattle.grid_laws.proofs.IntegerLaws.{le_z_trans, above_chain}
use Rattle.grid_laws.proofs.BoxLaws.{index_count_lem}
use Rattle.windows.specs.Lows.{index_in}
use Rattle.windows.proofs.IndexLaws.{index_inside, inside_index}
use Rattle.rows.specs.Boxing.{no_span, span_in, span_between}
use Rattle.rows.proofs.PlacedLaws.{le_z_by_above}

module _ (first last extent : ℕ) where
  pub span_past : extent ≤ last → no_span ≡ span_in first last extent
  unfolding span_in
  span_past h = rw (le-ltb last extent h)

  pub span_crossed : last < first → no_span ≡ span_in first last extent
  unfolding span_in
  span_crossed h = rw (lt-leb first last h, and-false)

  pub span_there : last < extent → first ≤ last → record { first = first; size = last - first + 1 } ≡ span_in first last extent
  unfolding span_in
  span_there h k = rw (lt-ltb last extent h, le-leb first last k)

  -- A span that has a size.
  pub record Lies : Type 0 where
    pub below : last < extent
    pub rises : first ≤ last
    pub first_is : (span_in first last extent).first ≡ first
    pub size_is : (span_in first last extent).size ≡ last - first + 1

  pub some_span : ((span_in first last extent).size ≡ 0 → ⊥) → Lies
  unfolding span_in
  some_span some = go (ltb last extent) (leb first last) refl refl
    where
      go : (s t : Bool) → ltb last extent ≡ s → leb first last ≡ t → Lies
      go true true p q = record { below = ltb-true last extent p; rises = leb-true first last q; first_is = rw (p, q); size_is = rw (p, q) }
      go true false p q = absurd (some (rw (p, q)))
      go false t p q = absurd (some (rw p))

-- By the lowest and the highest index.
module _ (l h low : ℤ) (extent : ℕ) where
  abbrev m : ℤ
  m = neg_ℤ low

  pub span_inside : le_z m l ≡ true → le_z l h ≡ true → above h m < extent → span_between l h low extent ≡ record { first = above l m; size = index_count l h }
  span_inside p q b =
      let c = above_chain h l m p q in
      ap₂ (λ (i j : ℕ). span_in i j extent) (inside_index l low extent p (omega arith)) (inside_index h low extent (le_z_trans m l h p q) b)
      ∙ sym (span_there (above l m) (above h m) extent b (omega arith))
      ∙ ap (λ (n : ℕ). record { first = above l m; size = n }) (omega (arith, index_count_lem l h q))

  pub inside_span : ((span_between l h low extent).size ≡ 0 → ⊥) → (le_z m l ≡ true) × (le_z l h ≡ true) × (above h m < extent)
  inside_span some =
      let s = some_span (index_in l low extent) (index_in h low extent) extent some in
      let (a, b, c) = index_inside l low extent (omega (arith, s.below, s.rises)) in
      let (d, e, f) = index_inside h low extent s.below in
      (a, le_z_by_above l h m a d (omega (arith, s.rises)), e)
