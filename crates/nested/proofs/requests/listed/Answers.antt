use Prim.Native.Nat.{ℕ, suc, ◌≤◌, ◌<◌, ◌+◌, ◌-◌, ◌*◌, ◌/◌}
use mathlib.Core.List.{List}
use Rattle.nested.proofs.requests.listed.Goals.{then-at-window, else-at-window}
use mathlib.Core.Path.{◌≡◌, refl, sym, ◌∙◌}
use borrow.Author.Tests.{lt-ltb, le-ltb}
use native.Mathlib.Nat.{sub-zero}
use native.Mathlib.Omega.{arith}
use lib.IntN.{ℤ, pos}
use lib.ListN.{length, get_or, replicate}
use Rattle.nested.specs.Nested.{placed, listed_from, references_in, listed}
use Rattle.nested.proofs.requests.listed.Goals as goal

module _ (dims : ℕ) (window : List ℕ) where
  -- The references before k are placed, and what follows gives what the whole does.
  abbrev Listing : ℕ → List ℤ → Type 0
  Listing k es = listed_from dims window (references_in window - k) (4 * k) es ≡ listed_from dims window (references_in window) 0 (replicate 128 (pos 0))

  -- One reference more, and where the window has no characters for it.
  more : (n at : ℕ) (es : List ℤ) → at + 2 < length window
      → listed_from dims window (suc n) at es ≡ listed_from dims window n (at + 4) (placed dims (at / 4) (get_or window at 0) (get_or window (at + 1) 0) (get_or window (at + 2) 0) es)
  unfolding listed_from
  more n at es l = rw (lt-ltb (at + 2) (length window) l) refl

  none : (n at : ℕ) (es : List ℤ) → length window ≤ at + 2 → listed_from dims window (suc n) at es ≡ listed_from dims window n (at + 4) es
  unfolding listed_from
  none n at es l = rw (le-ltb (at + 2) (length window) l) refl

  module _ (k : ℕ) (es next : List ℤ) (h : k < references_in window) (r : Listing k es) where
    left : references_in window - k ≡ suc (references_in window - (k + 1))
    left = omega arith

    further : 4 * (k + 1) ≡ 4 * k + 4
    further = omega arith

    one_placed : 4 * k + 2 < length window → next ≡ placed dims k (get_or window (4 * k) 0) (get_or window (4 * k + 1) 0) (get_or window (4 * k + 2) 0) es → Listing (k + 1) next
    one_placed l e =
        let d : 4 * k / 4 ≡ k = omega arith in
        rw (e, further) ((rw d at (sym (more (references_in window - (k + 1)) (4 * k) es l))) ∙ (rw left at r))

    none-placed : length window ≤ 4 * k + 2 → next ≡ es → Listing (k + 1) next
    none-placed l e = rw (e, further) (sym (none (references_in window - (k + 1)) (4 * k) es l) ∙ (rw left at r))

  all_placed : (k : ℕ) (es : List ℤ) → references_in window ≤ k → Listing k es → es ≡ listed_from dims window (references_in window) 0 (replicate 128 (pos 0))
  unfolding listed_from
  all_placed k es h r = let q : references_in window - k ≡ 0 = omega arith in rw q at r

pub loop-k-init : goal.loop-k-init
loop-k-init c = simp sub-zero refl

pub loop-k-preserved : goal.loop-k-preserved
loop-k-preserved c =
    let h : c.loop-k.k < references_in c.args.window.now = omega (arith, c.references-count.ensures) in
    elim c.if-at-window.branch [
      | then-at-window w ↦ one_placed c.args.dims c.args.window.now c.loop-k.k c.loop-k.entries _ h c.loop-k.invariant w.if-at-window.true (w.entries-is ∙ w.place.ensures)
      | else-at-window w ↦ none-placed c.args.dims c.args.window.now c.loop-k.k c.loop-k.entries _ h c.loop-k.invariant w.if-at-window.false w.entries-is
    ]

pub returns : goal.returns
unfolding listed
returns c =
    rw (c.references-count.ensures, all_placed c.args.dims c.args.window.now c.loop-k.k c.loop-k.entries (omega (arith, c.references-count.ensures)) c.loop-k.invariant) refl
