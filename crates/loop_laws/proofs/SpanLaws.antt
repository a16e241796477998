-- For how many clocks the same filters move: one filter by the ways that the code has, and the loop over all of them.
use Prim.Native.Nat.{ℕ, zero, suc, ◌+◌, ◌-◌, ◌≤◌, ◌<◌, min}
use mathlib.Core.Path.{◌≡◌, refl, ◌∙◌}
use native.Mathlib.Decide.{ℕ_discrete, dec_lt}
use native.Mathlib.Numerals.{add-one}
use native.Mathlib.Omega.{arith}
use Rattle.model_run.specs.Clock.{turn}
use Rattle.loop_laws.specs.Sweeps.{before, goes_before, room_for, room_at, room_goes, Goes, Again, Keeps, KeepsAt, InPlace}
use Rattle.loop_laws.proofs.SweepLaws.{turn_most, turn_wanted, turn_went}
use Rattle.loop_laws.proofs.AgainLaws.{
  room_inner,
  room_last,
  room_at_inner,
  room_at_last,
  room_goes_inner,
  room_goes_last,
  keeps_fewer,
  keeps_wanted,
  keeps_absent,
  keeps_full,
  keeps_going,
  goes_most,
  again_all,
}

-- ---- one filter

module _ (g p w s sg b bg t : ℕ) (z : g ≡ 0) where
  -- A filter that rests where it is wanted keeps to it,
  pub rests_wanted : p ≡ w → Keeps g p w s sg b bg t
  rests_wanted e = rw z (keeps_wanted p w s sg b bg t e)

  module _ (hb : bg ≤ 1) (pb : p ≤ b) (ne : p ≡ w → ⊥) (e : p + g ≡ turn s w (b + bg) p) where
    -- so does one that is presented a cell,
    pub rests_full : p < s → Keeps g p w s sg b bg t
    rests_full h = rw z (keeps_full p w s sg b bg t hb pb ne h (rw z at e))

    -- and any whose source rests.
    pub rests_still : sg ≡ 0 → Keeps g p w s sg b bg t
    rests_still y = go (dec_lt p s)
      where
        go : Dec (p < s) → Keeps g p w s sg b bg t
        go (yes h) = rests_full h
        go (no h) = rw (z, y) (keeps_absent p w s b bg t (omega arith))

-- One that moves does so for r clocks.
pub keeps_moving : (g p w s sg b bg most t u r : ℕ) → (g ≡ 0 → ⊥) → p ≤ w → p ≤ s → p ≤ b → t ≡ min most (w - p)
    → (u ≤ t) × (sg ≡ 0 → u ≤ s - p) × (0 < t → (sg ≡ 0 → 0 < s - p) → 0 < u)
    → (r ≤ u) × (bg ≡ 0 → r ≤ b - p) × (0 < u → (bg ≡ 0 → 0 < b - p) → 0 < r)
    → sg ≤ 1 → bg ≤ 1 → p + g ≡ turn s w (b + bg) p → 0 < most → (0 < r) × (r ≤ most) × Keeps g p w s sg b bg r
keeps_moving g p w s sg b bg most t u r ne pw ps pb et hu hr hs hb e some = (
  hr.2 (hu.2 (omega (arith, unwanted)) (λ z. omega (arith, went.1))) (λ z. omega (arith, went.2)),
  omega (arith, hr.0, hu.0),
  rw one (keeps_going p w s sg b bg r hs hb (omega (arith, hr.0, hu.0)) went.1 went.2 (λ z. omega (arith, hr.0, hu.1 z)) (λ z. omega (arith, hr.1 z))),
)
  where
    one : g ≡ 1
    one = go g ne (omega (arith, e, turn_most s w (b + bg) p))
      where
        go : (x : ℕ) → (x ≡ 0 → ⊥) → x ≤ 1 → x ≡ 1
        go zero h l = absurd (h refl)
        go (suc x) h l = omega arith

    went : (turn s w (b + bg) p ≡ suc p) × (p < s) × (p < b + bg)
    went = turn_went s w (b + bg) p (omega (arith, e, one))

    unwanted : p < w
    unwanted = go (ℕ_discrete p w)
      where
        go : Dec (p ≡ w) → p < w
        go (yes d) = absurd (let z : ⊥ = omega (arith, turn_wanted s w (b + bg) p d, e, one) in z)
        go (no d) = omega arith

-- ---- all filters

room_sum : (n k cap p q g : ℕ) → room_for n k cap p (q + g) ≡ room_at n k cap p q + room_goes n k g
room_sum n k cap p q g = go (dec_lt (suc k) n)
  where
    go : Dec (suc k < n) → room_for n k cap p (q + g) ≡ room_at n k cap p q + room_goes n k g
    go (yes h) = rw (room_inner n k cap p (q + g) h, room_at_inner n k cap p q h, room_goes_inner n k g h) (omega arith)
    go (no h) = rw (room_last n k cap p (q + g) (omega arith), room_at_last n k cap p q (omega arith), room_goes_last n k g (omega arith)) (omega arith)

module _ (n cells : ℕ) (w c f : ℕ → ℕ) where
  -- A filter is not past the places behind it.
  pub in_room : InPlace n cells w c f → (k : ℕ) → k < n → f k ≤ room_at n k (c k) (f k) (f (suc k))
  in_room I k h = go (dec_lt (suc k) n)
    where
      go : Dec (suc k < n) → f k ≤ room_at n k (c k) (f k) (f (suc k))
      go (yes l) = rw (room_at_inner n k (c k) (f k) (f (suc k)) l) (I.fits k l)
      go (no l) = rw (room_at_last n k (c k) (f k) (f (suc k)) (omega arith)) (omega arith)

  module _ (g : ℕ → ℕ) (most : ℕ) where
    -- The filters before k keep to what they do for t clocks.
    pub record Spanning (t s sg k : ℕ) : Type 0 where
      pub range : k ≤ n
      pub source_is : s ≡ before cells f k
      pub goes_is : sg ≡ goes_before g k
      pub kept : Goes n cells w c g f → 0 < most → (0 < t) × (t ≤ most) × ((j : ℕ) → j < k → KeepsAt n cells w c g f t j)

    pub spanning_start : Spanning most cells 0 0
    spanning_start = record {
      range = omega arith;
      source_is = refl;
      goes_is = refl;
      kept = λ G h. (h, omega arith, λ j l. absurd (let z : ⊥ = omega arith in z));
    }

    source_few : Goes n cells w c g f → (k : ℕ) → k < n → goes_before g k ≤ 1
    source_few G zero h = omega arith
    source_few G (suc k) h = goes_most n cells w c g f G k (omega arith)

    room_few : Goes n cells w c g f → (k : ℕ) → k < n → room_goes n k (g (suc k)) ≤ 1
    room_few G k h = go (dec_lt (suc k) n)
      where
        go : Dec (suc k < n) → room_goes n k (g (suc k)) ≤ 1
        go (yes l) = rw (room_goes_inner n k (g (suc k)) l) (goes_most n cells w c g f G (suc k) l)
        go (no l) = rw (room_goes_last n k (g (suc k)) (omega arith)) (omega arith)

    pub spanning_on : (t s sg k b bg r : ℕ) → Spanning t s sg k → k < n → b ≡ room_at n k (c k) (f k) (f (suc k)) → bg ≡ room_goes n k (g (suc k))
        → (sg ≤ 1 → bg ≤ 1 → f k + g k ≡ turn s (w k) (b + bg) (f k) → 0 < t → (0 < r) × (r ≤ t) × Keeps (g k) (f k) (w k) s sg b bg r)
        → Spanning r (f k) (g k) (k + 1)
    spanning_on t s sg k b bg r S h eb ebg K = rw add-one record { range = h; source_is = refl; goes_is = refl; kept = kept }
      where
        kept : Goes n cells w c g f → 0 < most → (0 < r) × (r ≤ most) × ((j : ℕ) → j < suc k → KeepsAt n cells w c g f r j)
        kept G m =
            let o = S.kept G m in
            let x = K (rw S.goes_is (source_few G k h)) (rw ebg (room_few G k h)) (G k h ∙ rw (S.source_is, eb, ebg, room_sum n k (c k) (f k) (f (suc k)) (g (suc k)))) o.0 in
            (x.0, omega (arith, x.1, o.1), λ j l. go j l o x (ℕ_discrete j k))
          where
            go : (j : ℕ) → j < suc k → (0 < t) × (t ≤ most) × ((j : ℕ) → j < k → KeepsAt n cells w c g f t j) → (0 < r) × (r ≤ t) × Keeps (g k) (f k) (w k) s sg b bg r → Dec (j ≡ k)
                → KeepsAt n cells w c g f r j
            go j l o x (yes e) = rw (e, ← S.source_is, ← S.goes_is, ← eb, ← ebg) x.2
            go j l o x (no e) =
                keeps_fewer (g j) (f j) (w j) (before cells f j) (goes_before g j) (room_at n j (c j) (f j) (f (suc j))) (room_goes n j (g (suc j))) t r x.1 (o.2 j (omega arith))

    pub spanning_end : (t s sg k : ℕ) → Spanning t s sg k → n ≤ k → Goes n cells w c g f → 0 < most → (0 < t) × (t ≤ most) × Again n cells w c g f t
    spanning_end t s sg k S h G m = let o = S.kept G m in (o.0, o.1, again_all n cells w c g f t (λ j l. o.2 j (omega arith)))
