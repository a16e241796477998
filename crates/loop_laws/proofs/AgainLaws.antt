-- Clocks without firing in which the same filters move: how long each filter keeps to what it does, and so all of them.
use Prim.Native.Nat.{ℕ, zero, suc, ◌+◌, ◌-◌, ◌*◌, ◌≤◌, ◌<◌}
use mathlib.Core.List.{List, ◌∷◌, ◌++◌}
use mathlib.Core.Path.{◌≡◌, refl, sym, ◌∙◌, ap, ap₂}
use native.Mathlib.Nat.{zero-mul, mul-zero, mul-one, add-zero}
use native.Mathlib.Decide.{dec_lt}
use native.Mathlib.Numerals.{add-one}
use native.Mathlib.Omega.{arith}
use lib.ListN.{length, get_or, drop, take-append-drop}
use lib.Seq.{slice, slice-cons, slice_empty}
use borrow.Author.Tests.{lt-ltb, le-ltb}
use Rattle.model_run.specs.Clock.{turn, limit, turns}
use Rattle.loop_laws.specs.Passes.{of}
use Rattle.loop_laws.specs.Sweeps.{source, swept, room_for, room_at, room_goes, before, goes_before, Goes, Again, Keeps, KeepsAt}
use Rattle.loop_laws.proofs.SweepLaws.{turn_absent, turn_wanted, turn_full, turn_goes, turn_most, limit_inner, limit_last}

-- Only whether there is a place counts.
turn_room : (s w b b' p : ℕ) → p < b → p < b' → turn s w b p ≡ turn s w b' p
unfolding turn
turn_room s w b b' p h h' = rw (lt-ltb p b h, lt-ltb p b' h')

pub room_inner : (n k cap p q : ℕ) → suc k < n → room_for n k cap p q ≡ q + cap
unfolding room_for
room_inner n k cap p q h = rw (lt-ltb (suc k) n h)

pub room_last : (n k cap p q : ℕ) → n ≤ suc k → room_for n k cap p q ≡ suc p
unfolding room_for
room_last n k cap p q h = rw (le-ltb (suc k) n h)

-- ---- one filter

pub keeps_fewer : (g p w s sg b bg t t' : ℕ) → t' ≤ t → Keeps g p w s sg b bg t → Keeps g p w s sg b bg t'
keeps_fewer g p w s sg b bg t t' h K i l = K i (omega arith)

-- The filter keeps to what it does in one clock,
pub keeps_once : (g p w s sg b bg t : ℕ) → t ≤ 1 → p + g ≡ turn s w (b + bg) p → Keeps g p w s sg b bg t
keeps_once g p w s sg b bg t h e i l =
    let z : i ≡ 0 = omega arith in
    rw (z, zero-mul g, zero-mul sg, zero-mul bg, add-zero p, add-zero s, add-zero b) e

-- and longer if it rests where it is wanted,
pub keeps_wanted : (p w s sg b bg t : ℕ) → p ≡ w → Keeps 0 p w s sg b bg t
keeps_wanted p w s sg b bg t e i l = rw (mul-zero i, add-zero p, add-zero p) (turn_wanted (s + i * sg) w (b + i * bg + bg) p e)

-- or for want of a cell, where its source rests too,
pub keeps_absent : (p w s b bg t : ℕ) → s ≤ p → Keeps 0 p w s 0 b bg t
keeps_absent p w s b bg t h i l = rw (mul-zero i, add-zero p, add-zero p, add-zero s) (turn_absent s w (b + i * bg + bg) p h)

-- or of a place, which the filter behind it then does not free.
pub keeps_full : (p w s sg b bg t : ℕ) → bg ≤ 1 → p ≤ b → (p ≡ w → ⊥) → p < s → p + 0 ≡ turn s w (b + bg) p → Keeps 0 p w s sg b bg t
keeps_full p w s sg b bg t h g ne ps e i l = go bg refl
  where
    no_place_lem : p < b + bg → ⊥
    no_place_lem q = omega (arith, turn_goes s w (b + bg) p ps ne q)

    full : Dec (p < b) → b ≤ p
    full (yes q) = absurd (no_place_lem (omega arith))
    full (no q) = omega arith

    go : (x : ℕ) → x ≡ bg → p + i * 0 + 0 ≡ turn (s + i * sg) w (b + i * bg + bg) (p + i * 0)
    go zero z = rw (mul-zero i, add-zero p, add-zero p, ← z, mul-zero i, add-zero b, add-zero b) (turn_full (s + i * sg) w b p (full (dec_lt p b)))
    go (suc x) z = absurd (no_place_lem (omega arith))

-- A filter that goes on does so until it is where it is wanted, has taken what its source held, and filled the places behind it.
pub keeps_going : (p w s sg b bg t : ℕ) → sg ≤ 1 → bg ≤ 1 → p + t ≤ w → p < s → p < b + bg → (sg ≡ 0 → p + t ≤ s) → (bg ≡ 0 → p + t ≤ b) → Keeps 1 p w s sg b bg t
keeps_going p w s sg b bg t hs hb hw ps pb fs fb i l =
    rw (mul-one i) (turn_goes (s + i * sg) w (b + i * bg + bg) (p + i) (from sg refl) (λ e. omega arith) (to bg refl))
  where
    from : (x : ℕ) → x ≡ sg → p + i < s + i * sg
    from zero z = let f = fs (sym z) in rw (← z, mul-zero i) (omega arith)
    from (suc zero) z = rw (← z, mul-one i) (omega arith)
    from (suc (suc x)) z = absurd (omega arith)

    to : (x : ℕ) → x ≡ bg → p + i < b + i * bg + bg
    to zero z = let f = fb (sym z) in rw (← z, mul-zero i) (omega arith)
    to (suc zero) z = rw (← z, mul-one i) (omega (arith, pb, z))
    to (suc (suc x)) z = absurd (omega arith)

-- ---- all filters

pub room_at_inner : (n k cap p q : ℕ) → suc k < n → room_at n k cap p q ≡ q + cap
unfolding room_at
room_at_inner n k cap p q h = rw (lt-ltb (suc k) n h)

pub room_at_last : (n k cap p q : ℕ) → n ≤ suc k → room_at n k cap p q ≡ p
unfolding room_at
room_at_last n k cap p q h = rw (le-ltb (suc k) n h)

pub room_goes_inner : (n k q : ℕ) → suc k < n → room_goes n k q ≡ q
unfolding room_goes
room_goes_inner n k q h = rw (lt-ltb (suc k) n h)

pub room_goes_last : (n k q : ℕ) → n ≤ suc k → room_goes n k q ≡ 1
unfolding room_goes
room_goes_last n k q h = rw (le-ltb (suc k) n h)

few_times : (i g : ℕ) → g ≤ 1 → i * g ≤ i
few_times i zero h = rw (mul-zero i) (omega arith)
few_times i (suc zero) h = rw (mul-one i) (omega arith)
few_times i (suc (suc g)) h = absurd (omega arith)

module _ (n cells : ℕ) (w c g : ℕ → ℕ) where
  -- A filter goes one cell on at most.
  pub goes_most : (f : ℕ → ℕ) → Goes n cells w c g f → (k : ℕ) → k < n → g k ≤ 1
  goes_most f G k h = omega (arith, G k h, turn_most (before cells f k) (w k) (room_for n k (c k) (f k) (f (suc k) + g (suc k))) (f k))

  -- One that goes on is not where it is wanted.
  pub goes_unwanted : (f : ℕ → ℕ) → Goes n cells w c g f → (k : ℕ) → k < n → 0 < g k → f k ≡ w k → ⊥
  goes_unwanted f G k h some e = omega (arith, G k h, turn_wanted (before cells f k) (w k) (room_for n k (c k) (f k) (f (suc k) + g (suc k))) (f k) e)

  -- Where each filter keeps to what it does, the same filters move again.
  pub again_all : (f : ℕ → ℕ) (t : ℕ) → ((k : ℕ) → k < n → KeepsAt n cells w c g f t k) → Again n cells w c g f t
  again_all f t K i l k h =
      K k h i l
      ∙ ap (λ (s : ℕ). turn s (w k) (room_at n k (c k) (f k) (f (suc k)) + i * room_goes n k (g (suc k)) + room_goes n k (g (suc k))) (f k + i * g k)) (sources k)
      ∙ rooms (dec_lt (suc k) n)
    where
      sources : (k : ℕ) → before cells f k + i * goes_before g k ≡ before cells (λ j. f j + i * g j) k
      sources zero = rw (mul-zero i) (omega arith)
      sources (suc k) = refl

      small : g k ≤ 1
      small =
          omega (
            arith,
            K k h i l,
            turn_most (before cells f k + i * goes_before g k) (w k) (room_at n k (c k) (f k) (f (suc k)) + i * room_goes n k (g (suc k)) + room_goes n k (g (suc k))) (f k + i * g k),
          )

      rooms : Dec (suc k < n) → turn (before cells (λ j. f j + i * g j) k) (w k) (room_at n k (c k) (f k) (f (suc k)) + i * room_goes n k (g (suc k)) + room_goes n k (g (suc k))) (f k + i * g k)
          ≡ turn (before cells (λ j. f j + i * g j) k) (w k) (room_for n k (c k) (f k + i * g k) (f (suc k) + i * g (suc k) + g (suc k))) (f k + i * g k)
      rooms (yes inner) =
          ap (λ (b : ℕ). turn (before cells (λ j. f j + i * g j) k) (w k) b (f k + i * g k))
          (rw (room_at_inner n k (c k) (f k) (f (suc k)) inner, room_goes_inner n k (g (suc k)) inner, room_inner n k (c k) (f k + i * g k) (f (suc k) + i * g (suc k) + g (suc k)) inner) (omega arith))
      rooms (no last) =
          turn_room (before cells (λ j. f j + i * g j) k) (w k) (room_at n k (c k) (f k) (f (suc k)) + i * room_goes n k (g (suc k)) + room_goes n k (g (suc k)))
          (room_for n k (c k) (f k + i * g k) (f (suc k) + i * g (suc k) + g (suc k))) (f k + i * g k)
          (rw (room_at_last n k (c k) (f k) (f (suc k)) (omega arith), room_goes_last n k (g (suc k)) (omega arith), mul-one i) (omega (arith, few_times i (g k) small)))
          (rw (room_last n k (c k) (f k + i * g k) (f (suc k) + i * g (suc k) + g (suc k)) (omega arith)) (omega arith))

  -- Only the n filters count.
  pub goes_same : (f f' : ℕ → ℕ) → ((k : ℕ) → k < n → f k ≡ f' k) → Goes n cells w c g f → Goes n cells w c g f'
  goes_same f f' e G k h =
      rw (← (e k h)) (G k h ∙ ap₂ (λ (s b : ℕ). turn s (w k) b (f k)) (sources k h) (rooms (dec_lt (suc k) n)))
    where
      sources : (k : ℕ) → k < n → before cells f k ≡ before cells f' k
      sources zero h = refl
      sources (suc k) h = e k (omega arith)

      rooms : Dec (suc k < n) → room_for n k (c k) (f k) (f (suc k) + g (suc k)) ≡ room_for n k (c k) (f k) (f' (suc k) + g (suc k))
      rooms (yes inner) = rw (e (suc k) inner)
      rooms (no last) = room_last n k (c k) (f k) (f (suc k) + g (suc k)) (omega arith) ∙ sym (room_last n k (c k) (f k) (f' (suc k) + g (suc k)) (omega arith))

  -- The clock is made: the others are left.
  pub again_on : (f f' : ℕ → ℕ) (t : ℕ) → ((k : ℕ) → k < n → f' k ≡ f k + g k) → Again n cells w c g f (suc t) → Again n cells w c g f' t
  again_on f f' t e A i l = goes_same (λ k. f k + suc i * g k) (λ k. f' k + i * g k) (λ k h. omega (arith, e k h)) (A (suc i) (omega arith))

  pub again_now : (f : ℕ → ℕ) (t : ℕ) → 0 < t → Again n cells w c g f t → Goes n cells w c g f
  again_now f t h A = goes_same (λ k. f k + 0 * g k) f (λ k _. omega arith) (A 0 h)

-- Each of t clocks in which filter 0 goes g cells on is presented a cell.
pub cells_last : (taken lent g t most : ℕ) → taken < lent → g ≤ 1 → t ≤ most → ((g ≡ 0 → ⊥) → most ≤ lent - taken) → (j : ℕ) → j < t → taken + j * g < lent
cells_last taken lent g t most h few m f j l = go g refl few
  where
    go : (x : ℕ) → x ≡ g → x ≤ 1 → taken + j * x < lent
    go zero e d = rw (mul-zero j) (omega arith)
    go (suc zero) e d = rw (mul-one j) (omega (arith, f (λ z. omega arith)))
    go (suc (suc x)) e d = absurd (omega arith)

-- ---- the clock of the definition

module _ (n cells : ℕ) (wants caps ps : List ℕ) (g : ℕ → ℕ) (G : Goes n cells (of wants) (of caps) g (of ps)) where
  -- The turn of filter k, where those behind it had theirs and those before it did not.
  pub turn_by : (qs : List ℕ) (k : ℕ) → n ≤ length qs → k < n → ((i : ℕ) → i ≤ k → get_or qs i 0 ≡ get_or ps i 0) → (suc k < n → get_or qs (suc k) 0 ≡ get_or ps (suc k) 0 + g (suc k))
      → turn (source cells qs k) (get_or wants k 0) (limit (of caps) k (get_or qs k 0) (slice (suc k) n qs)) (get_or qs k 0) ≡ get_or qs k 0 + g k
  unfolding source
  turn_by qs k l h front next =
      rw (front k (omega arith))
      (ap₂ (λ (s b : ℕ). turn s (get_or wants k 0) b (get_or ps k 0)) (sources k front) (limits (dec_lt (suc k) n)) ∙ sym (G k h))
    where
      sources : (k : ℕ) → ((i : ℕ) → i ≤ k → get_or qs i 0 ≡ get_or ps i 0) → source cells qs k ≡ before cells (of ps) k
      sources zero e = refl
      sources (suc k) e = e k (omega arith)

      limits : Dec (suc k < n) → limit (of caps) k (get_or ps k 0) (slice (suc k) n qs) ≡ room_for n k (get_or caps k 0) (get_or ps k 0) (get_or ps (suc k) 0 + g (suc k))
      limits (yes inner) =
          sym (limit_inner (of caps) k (get_or ps k 0) n qs (omega arith) l)
          ∙ rw add-one (ap (λ (q : ℕ). q + get_or caps k 0) (next inner))
          ∙ sym (room_inner n k (get_or caps k 0) (get_or ps k 0) (get_or ps (suc k) 0 + g (suc k)) inner)
      limits (no last) =
          sym (limit_last (of caps) k (get_or ps k 0) n qs h (λ x. last (omega arith)))
          ∙ rw add-one (sym (room_last n k (get_or caps k 0) (get_or ps k 0) (get_or ps (suc k) 0 + g (suc k)) (omega arith)))

  -- No filter goes: the counters stay.
  module _ (none : (k : ℕ) → k < n → g k ≡ 0) (here : n ≤ length ps) where
    turns_none : (m k : ℕ) → k + m ≡ n → turns (of wants) (of caps) k (source cells ps k) (slice k n ps) ≡ slice k n ps
    unfolding turns source
    turns_none zero k e = let z : k ≡ n = omega arith in rw (z, slice_empty n ps)
    turns_none (suc m) k e =
        let h : k < n = omega arith in
        let on = turns_none m (suc k) (omega arith) in
        let own = turn_by ps k here h (λ i _. refl) (λ l. omega (arith, none (suc k) l)) in
        rw (slice-cons k n ps 0 h here, on) (ap (λ (p : ℕ). p ∷ slice (suc k) n ps) (own ∙ omega (arith, none k h)))

    pub swept_none : ps ≡ swept wants caps ps n cells
    unfolding swept source
    swept_none = sym (take-append-drop n ps) ∙ ap (λ (l : List ℕ). l ++ drop n ps) (sym (turns_none n 0 (omega arith)))
