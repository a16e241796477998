-- What a clock puts into the store.
use Prim.Native.Nat.{ℕ, suc, ◌+◌, ◌-◌, ◌≤◌, ◌<◌}
use mathlib.Core.Bool.{Bool, true, false, cond}
use mathlib.Core.List.{List, [], ◌∷◌, ◌++◌}
use mathlib.Core.Path.{◌≡◌, refl, ◌∙◌, ap}
use native.Mathlib.Omega.{arith}
use lib.Dec.{ltb}
use lib.ListN.{length, get_or, set, length-set}
use lib.Seq.{set-append_left}
use borrow.Author.Tests.{ltb-true}
use Rattle.model_run.specs.Clock.{Layout}
use Rattle.model_run.specs.Store.{first_place, place_in, stored}
use Rattle.flow.specs.Machine.{Holds}
use Rattle.run_laws.proofs.Held.{Steps, Fitted, first_place_suc, place_before, holds_fitted, holds_length}

-- `word`: what filter k is presented where it stands at p.
module _ (capacity : ℕ → ℕ) (word : (k p : ℕ) → ℕ) where
  -- Each filter from k on that moves and is not the last puts its word into the FIFO behind it.
  unfoldable pub puts : (k : ℕ) (passed passed' store : List ℕ) → List ℕ
  puts k [] passed' store = store
  puts k (p ∷ []) passed' store = store
  puts k (p ∷ q ∷ qs) [] store = store
  puts k (p ∷ q ∷ qs) (p' ∷ ps') store = puts (suc k) (q ∷ qs) ps' (cond (ltb p p') (set store (place_in capacity k p) (word k p)) store)

  -- The heads of the FIFOs from k on that hold a cell are these words.
  abbrev pub Heads : (k : ℕ) (old : List ℕ) → List ℕ → Type 0
  Heads k old [] = Unit {0}
  Heads k old (p ∷ []) = Unit {0}
  Heads k old (p ∷ q ∷ qs) = (q < p → get_or old (place_in capacity k q) 0 ≡ word (suc k) q) × Heads (suc k) old (q ∷ qs)

  later_puts : (k x source p : ℕ) (old ps : List ℕ) (p' : ℕ) (ps' store : List ℕ) → Steps source (p ∷ ps) (p' ∷ ps') → Heads k old (p ∷ ps)
      → (p < source → x ≡ word k p) → stored capacity k x old (p ∷ ps) (p' ∷ ps') store ≡ puts k (p ∷ ps) (p' ∷ ps') store
  unfolding stored puts
  later_puts k x source p old [] p' ps' store s heads new = refl
  later_puts k x source p old (q ∷ qs) p' [] store s heads new = absurd s.3
  later_puts k x source p old (q ∷ qs) p' (q' ∷ qs') store s heads new =
      later_puts (suc k) (get_or old (place_in capacity k q) 0) p q old qs q' qs' _ s.3 heads.1 heads.0
      ∙ ap (puts (suc k) (q ∷ qs) (q' ∷ qs')) (go (ltb p p') refl)
    where
      go : (b : Bool) → ltb p p' ≡ b
          → cond b (set store (place_in capacity k p) x) store ≡ cond b (set store (place_in capacity k p) (word k p)) store
      go true e = ap (set store (place_in capacity k p)) (new (omega (arith, ltb-true p p' e, s.2)))
      go false e = refl

  -- What lies behind the FIFOs' places stays. N: how many FIFOs there are.
  puts_front : (N k source p : ℕ) (ps : List ℕ) (p' : ℕ) (ps' store rest : List ℕ) → k + length ps ≡ N → first_place capacity N ≤ length store
      → Steps source (p ∷ ps) (p' ∷ ps') → Fitted capacity k (p' ∷ ps')
      → (puts k (p ∷ ps) (p' ∷ ps') (store ++ rest) ≡ puts k (p ∷ ps) (p' ∷ ps') store ++ rest) × (first_place capacity k ≤ first_place capacity N)
      × (length (puts k (p ∷ ps) (p' ∷ ps') store) ≡ length store)
  unfolding puts
  puts_front N k source p [] p' ps' store rest n room s fit = (refl, rw (let e : k ≡ N = omega arith in e) (omega arith), refl)
  puts_front N k source p (q ∷ qs) p' [] store rest n room s fit = absurd s.3
  puts_front N k source p (q ∷ qs) p' (q' ∷ qs') store rest n room s fit = go (ltb p p') refl
      (λ front h. puts_front N (suc k) p q qs q' qs' front rest (omega arith) h s.3 fit.1)
    where
      go : (b : Bool) → ltb p p' ≡ b
          → ((front : List ℕ) → first_place capacity N ≤ length front
          → (puts (suc k) (q ∷ qs) (q' ∷ qs') (front ++ rest) ≡ puts (suc k) (q ∷ qs) (q' ∷ qs') front ++ rest) × (first_place capacity (suc k) ≤ first_place capacity N)
          × (length (puts (suc k) (q ∷ qs) (q' ∷ qs') front) ≡ length front))
          → (puts (suc k) (q ∷ qs) (q' ∷ qs') (cond b (set (store ++ rest) (place_in capacity k p) (word k p)) (store ++ rest))
          ≡ puts (suc k) (q ∷ qs) (q' ∷ qs') (cond b (set store (place_in capacity k p) (word k p)) store) ++ rest)
          × (first_place capacity k ≤ first_place capacity N)
          × (length (puts (suc k) (q ∷ qs) (q' ∷ qs') (cond b (set store (place_in capacity k p) (word k p)) store)) ≡ length store)
      go false e ih = let i = ih store room in (i.0, omega (arith, i.1, first_place_suc capacity k), i.2)
      go true e ih =
          let i = ih (set store (place_in capacity k p) (word k p)) (rw (length-set store (place_in capacity k p) (word k p)) room) in
          let moved = ltb-true p p' e in
          let here = place_before capacity k p (omega (arith, fit.0, s.3.2)) in (
            ap (puts (suc k) (q ∷ qs) (q' ∷ qs')) (set-append_left store rest (place_in capacity k p) (word k p) (omega (arith, i.1))) ∙ i.0,
            omega (arith, i.1, first_place_suc capacity k),
            i.2 ∙ length-set store (place_in capacity k p) (word k p),
          )

-- One clock of all filters.
module _ (L : Layout) (word : (k p : ℕ) → ℕ) where
  open L use {capacity, filters, cells}

  pub stored_puts : (x : ℕ) (ps ps' store : List ℕ) → Steps cells ps ps' → Heads capacity word 0 store ps → ((p : ℕ) (qs : List ℕ) → ps ≡ p ∷ qs → x ≡ word 0 p)
      → stored capacity 0 x store ps ps' store ≡ puts capacity word 0 ps ps' store
  unfolding stored puts
  stored_puts x [] ps' store s heads new = refl
  stored_puts x (p ∷ ps) [] store s heads new = absurd s
  stored_puts x (p ∷ ps) (p' ∷ ps') store s heads new = later_puts capacity word 0 x cells p store ps p' ps' store s heads (λ _. new p ps refl)

  -- It leaves what lies behind the FIFOs' places.
  pub puts_leaves : (ps ps' store rest : List ℕ) (f f' : ℕ) → Holds L f 0 cells ps → Holds L f' 0 cells ps' → Steps cells ps ps' → first_place capacity (filters - 1) ≤ length store
      → (puts capacity word 0 ps ps' (store ++ rest) ≡ puts capacity word 0 ps ps' store ++ rest) × (length (puts capacity word 0 ps ps' store) ≡ length store)
  unfolding puts
  puts_leaves [] ps' store rest f f' i j s room = (refl, refl)
  puts_leaves (p ∷ ps) [] store rest f f' i j s room = absurd s
  puts_leaves (p ∷ ps) (p' ∷ ps') store rest f f' i j s room =
      let a = puts_front capacity word (filters - 1) 0 cells p ps p' ps' store rest (omega (arith, holds_length L f 0 cells (p ∷ ps) i)) room s (holds_fitted L f' 0 cells (p' ∷ ps') j) in
      (a.0, a.2)
