-- The store's words: in every FIFO's places stand the cells of the stream that it holds, and so a firing is presented the cells that its references read.
use Prim.Native.Nat.{ℕ, zero, suc, ◌+◌, ◌*◌, ◌/◌, ◌%◌, ◌≤◌, ◌<◌}
use mathlib.Core.Bool.{Bool, true, false, not, cond, ◌&&◌}
use mathlib.Core.List.{List, [], ◌∷◌, map}
use mathlib.Core.Path.{◌≡◌, refl, sym, ◌∙◌, ap, ap₂, fun_ext}
use native.Mathlib.Nat.{div-add-mod', mod-lt, mul-le-mul_right}
use native.Mathlib.Omega.{arith}
use native.Mathlib.Decide.{ℕ_discrete, dec_lt}
use lib.Dec.{ltb, eqb}
use lib.ListN.{length, get_or, set, replicate, length-set}
use lib.Seq.{get_or-set_same, get_or-set_other}
use borrow.Author.Tests.{ltb-true, ltb-false}
use Rattle.model.specs.Lists.{sum, tabulate}
use Rattle.model_run.specs.Clock.{Layout, Counters, turn, limit, turns, next}
use Rattle.model_run.specs.Store.{first_place, place_in, presented, stored}
use Rattle.flow.specs.Machine.{Holds, Invariant, Ready}
use Rattle.flow.proofs.Tests.{by_next}

-- Fewer than `cap` apart, two positions have two places.
apart : (cap q p : ℕ) → q < p → p < q + cap → p % cap ≡ q % cap → ⊥
apart cap q p h l e = go (ℕ_discrete (p / cap) (q / cap)) (dec_lt (q / cap) (p / cap)) (div-add-mod' p cap) (div-add-mod' q cap)
  where
    go : Dec (p / cap ≡ q / cap) → Dec (q / cap < p / cap) → p / cap * cap + p % cap ≡ p → q / cap * cap + q % cap ≡ q → ⊥
    go (yes d) _ x y = omega (arith, ap (λ (z : ℕ). z * cap) d)
    go (no d) (yes g) x y = omega (arith, mul-le-mul_right cap g)
    go (no d) (no g) x y = let k : suc (p / cap) ≤ q / cap = omega arith in omega (arith, mul-le-mul_right cap k)

-- Counters before and after a clock: each stays or goes one on, and no further than its source was.
abbrev pub Steps : (source : ℕ) → List ℕ → List ℕ → Type 0
Steps source [] [] = Unit {0}
Steps source [] (p' ∷ ps') = ⊥
Steps source (p ∷ ps) [] = ⊥
Steps source (p ∷ ps) (p' ∷ ps') = (p ≤ p') × (p' ≤ suc p) × (p' ≤ source) × Steps p ps ps'

module _ (capacity : ℕ → ℕ) where
  -- Each FIFO is within its capacity.
  abbrev pub Fitted : (k : ℕ) → List ℕ → Type 0
  Fitted k [] = Unit {0}
  Fitted k (p ∷ []) = Unit {0}
  Fitted k (p ∷ q ∷ qs) = (p ≤ q + capacity k) × Fitted (suc k) (q ∷ qs)

  pub first_place_suc : (k : ℕ) → first_place capacity (suc k) ≡ first_place capacity k + capacity k
  unfolding first_place sum tabulate
  first_place_suc k = go capacity k
    where
      go : (f : ℕ → ℕ) (k : ℕ) → sum (tabulate (suc k) f) ≡ sum (tabulate k f) + f k
      go f zero = omega arith
      go f (suc k) = omega (arith, go (λ i. f (suc i)) k)

  pub first_place_up : (k n : ℕ) → k ≤ n → first_place capacity k ≤ first_place capacity n
  first_place_up k zero h = rw (let e : k ≡ 0 = omega arith in e) (omega arith)
  first_place_up k (suc n) h = go (ℕ_discrete k (suc n)) (first_place_up k n)
    where
      go : Dec (k ≡ suc n) → (k ≤ n → first_place capacity k ≤ first_place capacity n) → first_place capacity k ≤ first_place capacity (suc n)
      go (yes e) ih = rw e (omega arith)
      go (no e) ih = omega (arith, ih (omega arith), first_place_suc n)

  -- A place of FIFO k lies before those of the FIFOs behind it.
  pub place_before : (k p : ℕ) → 0 < capacity k → place_in capacity k p < first_place capacity (suc k)
  unfolding place_in
  place_before k p h = omega (arith, first_place_suc k, mod-lt p h)

  -- A clock leaves the places of earlier FIFOs.
  pub stored_before : (k x : ℕ) (old ps ps' store : List ℕ) (i : ℕ) → i < first_place capacity k → get_or (stored capacity k x old ps ps' store) i 0 ≡ get_or store i 0
  unfolding stored place_in
  stored_before k x old [] ps' store i h = refl
  stored_before k x old (p ∷ []) ps' store i h = refl
  stored_before k x old (p ∷ q ∷ qs) [] store i h = refl
  stored_before k x old (p ∷ q ∷ qs) (p' ∷ ps') store i h =
      stored_before (suc k) (get_or old (place_in capacity k q) 0) old (q ∷ qs) ps' _ i (omega (arith, first_place_suc k)) ∙ go (ltb p p')
    where
      go : (b : Bool) → get_or (cond b (set store (place_in capacity k p) x) store) i 0 ≡ get_or store i 0
      go true = get_or-set_other store (place_in capacity k p) i x 0 (λ e. omega arith)
      go false = refl

  pub stored_length : (k x : ℕ) (old ps ps' store : List ℕ) → length (stored capacity k x old ps ps' store) ≡ length store
  unfolding stored
  stored_length k x old [] ps' store = refl
  stored_length k x old (p ∷ []) ps' store = refl
  stored_length k x old (p ∷ q ∷ qs) [] store = refl
  stored_length k x old (p ∷ q ∷ qs) (p' ∷ ps') store = stored_length (suc k) _ old (q ∷ qs) ps' _ ∙ go (ltb p p')
    where
      go : (b : Bool) → length (cond b (set store (place_in capacity k p) x) store) ≡ length store
      go true = length-set store (place_in capacity k p) x
      go false = refl

  module _ (stream : ℕ → ℕ) where
    -- FIFO k holds the cells from filter k + 1's counter up to filter k's: each stands in its place; and so for the FIFOs behind it.
    abbrev pub Held : (k : ℕ) (store : List ℕ) → List ℕ → Type 0
    Held k store [] = Unit {0}
    Held k store (p ∷ []) = Unit {0}
    Held k store (p ∷ q ∷ qs) = ((x : ℕ) → q ≤ x → x < p → get_or store (place_in capacity k x) 0 ≡ stream x) × Held (suc k) store (q ∷ qs)

    -- Two stores that agree on the FIFOs' places hold the same. N: how many FIFOs there are.
    pub held_agree : (N k : ℕ) (ps store store' : List ℕ) → k + length ps ≤ suc N → ((i : ℕ) → i < first_place capacity N → get_or store i 0 ≡ get_or store' i 0)
        → Fitted k ps → Held k store ps → Held k store' ps
    held_agree N k [] store store' n agree fit h = tt
    held_agree N k (p ∷ []) store store' n agree fit h = tt
    held_agree N k (p ∷ q ∷ qs) store store' n agree fit h = (
      λ x l g. sym (agree (place_in capacity k x) (omega (arith, place_before k x (omega arith), first_place_up (suc k) N (omega arith)))) ∙ h.0 x l g,
      held_agree N (suc k) (q ∷ qs) store store' (omega arith) agree fit.1 h.1,
    )

    -- Empty FIFOs hold nothing.
    pub held_fresh : (n k : ℕ) (store : List ℕ) → Held k store (replicate n 0)
    held_fresh zero k store = tt
    held_fresh (suc zero) k store = tt
    held_fresh (suc (suc n)) k store = (λ x l g. absurd (omega arith), held_fresh (suc n) (suc k) store)

    -- FIFO k after a clock.
    held_here : (k x p q p' q' : ℕ) (old store : List ℕ) → p ≤ p' → p' ≤ suc p → q ≤ q' → p' ≤ q' + capacity k → first_place capacity (suc k) ≤ length store
        → ((i : ℕ) → first_place capacity k ≤ i → get_or store i 0 ≡ get_or old i 0)
        → ((y : ℕ) → q ≤ y → y < p → get_or old (place_in capacity k y) 0 ≡ stream y) → (p < p' → x ≡ stream p)
        → (y : ℕ) → q' ≤ y → y < p' → get_or (cond (ltb p p') (set store (place_in capacity k p) x) store) (place_in capacity k y) 0 ≡ stream y
    unfolding place_in
    held_here k x p q p' q' old store up slow qs fit room agree held new y l h = go (ltb p p') refl (ℕ_discrete y p)
      where
        old_word : y < p → get_or store (place_in capacity k y) 0 ≡ stream y
        old_word g = agree (place_in capacity k y) (omega arith) ∙ held y (omega arith) g

        go : (b : Bool) → ltb p p' ≡ b → Dec (y ≡ p) → get_or (cond b (set store (place_in capacity k p) x) store) (place_in capacity k y) 0 ≡ stream y
        go false e d = old_word (omega (arith, ltb-false p p' e))
        go true e (yes d) =
            let g = ltb-true p p' e in
            rw d (get_or-set_same store (place_in capacity k p) x 0 (omega (arith, place_before k p (omega arith))) ∙ new g)
        go true e (no d) =
            let u = ltb-true p p' e in
            let g : y < p = omega arith in
            get_or-set_other store (place_in capacity k p) (place_in capacity k y) x 0 (λ m. apart (capacity k) y p g (omega arith) (omega arith)) ∙ old_word g

    -- Every FIFO after a clock. N: how many FIFOs there are.
    pub held_stored : (N k x source p : ℕ) (old ps : List ℕ) (p' : ℕ) (ps' store : List ℕ) → k + length ps ≡ N → first_place capacity N ≤ length store
        → Steps source (p ∷ ps) (p' ∷ ps') → Fitted k (p' ∷ ps') → Held k old (p ∷ ps) → ((i : ℕ) → first_place capacity k ≤ i → get_or store i 0 ≡ get_or old i 0)
        → (p < source → x ≡ stream p) → Held k (stored capacity k x old (p ∷ ps) (p' ∷ ps') store) (p' ∷ ps')
    unfolding stored
    held_stored N k x source p old [] p' [] store n room s fit held agree new = tt
    held_stored N k x source p old [] p' (q' ∷ qs') store n room s fit held agree new = absurd s.3
    held_stored N k x source p old (q ∷ qs) p' [] store n room s fit held agree new = absurd s.3
    held_stored N k x source p old (q ∷ qs) p' (q' ∷ qs') store n room s fit held agree new =
        let up = first_place_up (suc k) N (omega arith) in (
          λ y l h. stored_before (suc k) _ old (q ∷ qs) (q' ∷ qs') _ (place_in capacity k y) (place_before k y (omega arith))
              ∙ held_here k x p q p' q' old store s.0 s.1 s.3.0 fit.0 (omega arith) agree held.0 (λ g. new (omega arith)) y l h,
          held_stored N (suc k) (get_or old (place_in capacity k q) 0) p q old qs q' qs' _ (omega arith) (room_on (ltb p p')) s.3 fit.1 held.1
              (λ i l. agree_on (ltb p p') refl i l) (λ g. held.0 q (omega arith) g),
        )
      where
        room_on : (b : Bool) → first_place capacity N ≤ length (cond b (set store (place_in capacity k p) x) store)
        room_on true = rw (length-set store (place_in capacity k p) x) room
        room_on false = room

        agree_on : (b : Bool) → ltb p p' ≡ b → (i : ℕ) → first_place capacity (suc k) ≤ i
            → get_or (cond b (set store (place_in capacity k p) x) store) i 0 ≡ get_or old i 0
        agree_on true e i l =
            let g = ltb-true p p' e in
            let z = place_before k p (omega (arith, fit.0, s.3.2)) in
            get_or-set_other store (place_in capacity k p) i x 0 (λ m. omega arith) ∙ agree i (omega (arith, first_place_suc k))
        agree_on false e i l = agree i (omega (arith, first_place_suc k))

    -- The words that a firing is presented are those of its filters' cells.
    pub presented_words : (L : Layout) (f k x source p : ℕ) (store ps : List ℕ) → Ready L f k source (p ∷ ps) → Held k store (p ∷ ps) → x ≡ stream p
        → presented capacity k x store (p ∷ ps) ≡ map stream (p ∷ ps)
    unfolding presented
    presented_words L f k x source p store [] r held e = ap (λ (y : ℕ). y ∷ []) e
    presented_words L f k x source p store (q ∷ qs) r held e =
        ap₂ ◌∷◌ e (presented_words L f (suc k) (get_or store (place_in capacity k q) 0) p q store qs r.2 held.1 (held.0 q (omega arith) r.2.0))

module _ (L : Layout) where
  open L use {wants, capacity, filters, cells, iterations}

  turn_steps : (source wanted limit p : ℕ) → p ≤ source
      → (p ≤ turn source wanted limit p) × (turn source wanted limit p ≤ suc p) × (turn source wanted limit p ≤ source)
  unfolding turn
  turn_steps source wanted limit p h = go (ltb p source) refl (eqb p wanted) (ltb p limit)
    where
      go : (a : Bool) → ltb p source ≡ a → (b c : Bool)
          → (p ≤ cond (a && (not b && c)) (suc p) p) × (cond (a && (not b && c)) (suc p) p ≤ suc p) × (cond (a && (not b && c)) (suc p) p ≤ source)
      go false e b c = omega arith
      go true e true c = omega arith
      go true e false false = omega arith
      go true e false true = omega (arith, ltb-true p source e)

  pub turns_steps : (f k source : ℕ) (ps : List ℕ) → Holds L f k source ps → Steps source ps (turns (wants f) capacity k source ps)
  unfolding turns
  turns_steps f k source [] i = tt
  turns_steps f k source (p ∷ ps) i =
      let t = turn_steps source (wants f k) (limit capacity k p (turns (wants f) capacity (suc k) p ps)) p i.0.sourced in
      (t.0, t.1, t.2, turns_steps f (suc k) p ps i.1)

  pub fires_steps : (f k source : ℕ) (ps : List ℕ) → Ready L f k source ps → Steps source ps (map suc ps)
  fires_steps f k source [] r = tt
  fires_steps f k source (p ∷ ps) r = (omega arith, omega arith, r.0, fires_steps f (suc k) p ps r.2)

  pub next_steps : (s : Counters) → Invariant L s → Steps cells s.passed (next L s).passed
  next_steps s i = by_next L (λ s'. Steps cells s.passed s'.passed) s (fires_steps s.fired 0 cells s.passed) (λ _. turns_steps s.fired 0 cells s.passed i.all)

  pub holds_fitted : (f k source : ℕ) (ps : List ℕ) → Holds L f k source ps → Fitted capacity k ps
  holds_fitted f k source [] i = tt
  holds_fitted f k source (p ∷ []) i = tt
  holds_fitted f k source (p ∷ q ∷ qs) i = (i.0.fits, holds_fitted f (suc k) p (q ∷ qs) i.1)

  pub holds_length : (f k source : ℕ) (ps : List ℕ) → Holds L f k source ps → k + length ps ≡ filters
  holds_length f k source [] i = omega arith
  holds_length f k source (p ∷ ps) i = omega (arith, holds_length f (suc k) p ps i.1)

  -- Where a firing's filters stand.
  pub ready_at_lem : (f k source : ℕ) (ps : List ℕ) → Ready L f k source ps → ps ≡ tabulate (length ps) (λ i. wants f (k + i))
  unfolding tabulate
  ready_at_lem f k source [] r = refl
  ready_at_lem f k source (p ∷ ps) r =
      ap₂ ◌∷◌ (r.1 ∙ ap (wants f) (omega arith)) (ready_at_lem f (suc k) p ps r.2 ∙ ap (λ (g : ℕ → ℕ). tabulate (length ps) g) (fun_ext (λ i. ap (wants f) (omega arith))))
