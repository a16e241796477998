-- Which filters move in a clock without firing: the loop that looks at them from the last to the first.
use Prim.Native.Nat.{ℕ, suc, ◌+◌, ◌-◌, ◌≤◌, ◌<◌}
use mathlib.Core.List.{List}
use mathlib.Core.Path.{◌≡◌, sym, ◌∙◌}
use native.Mathlib.Decide.{ℕ_discrete, dec_lt}
use native.Mathlib.Omega.{arith}
use lib.ListN.{length, get_or, set, length-set}
use lib.Seq.{get_or-set_same, get_or-set_other}
use Rattle.model_run.specs.Clock.{turn}
use Rattle.loop_laws.specs.Passes.{of}
use Rattle.loop_laws.specs.Sweeps.{before, room_for, Goes, Movers}
use Rattle.loop_laws.proofs.SweepLaws.{turn_most, turn_least}
use Rattle.loop_laws.proofs.AgainLaws.{room_last}

module _ (n cells : ℕ) (w c f : ℕ → ℕ) where
  -- The filters from k on are looked at: `count` of them move, and filter k is at `behind` after its turn.
  pub record Looked (goes : List ℕ) (count behind k : ℕ) : Type 0 where
    pub range : k ≤ n
    pub there : length goes ≡ 32
    pub each : (j : ℕ) → k ≤ j → j < n → f j + get_or goes j 0 ≡ turn (before cells f j) (w j) (room_for n j (c j) (f j) (f (suc j) + get_or goes (suc j) 0)) (f j)
    pub last : k < n → behind ≡ f k + get_or goes k 0
    pub few : count + k ≤ n
    pub none : count ≡ 0 → (j : ℕ) → k ≤ j → j < n → get_or goes j 0 ≡ 0
    pub one : 0 < count → (j : ℕ) × (j < n) × (k ≤ j) × (0 < get_or goes j 0)

  pub looked_start : (goes : List ℕ) (behind : ℕ) → length goes ≡ 32 → Looked goes 0 behind n
  looked_start goes behind e = record {
    range = omega arith;
    there = e;
    each = λ j h l. absurd (let z : ⊥ = omega arith in z);
    last = λ h. absurd (let z : ⊥ = omega arith in z);
    few = omega arith;
    none = λ _ j h l. absurd (let z : ⊥ = omega arith in z);
    one = λ h. absurd (let z : ⊥ = omega arith in z);
  }

  module _ (goes : List ℕ) (count behind k : ℕ) (s : Looked goes count behind k) where
    -- The filter behind is one cell on at most.
    pub behind_most : k < n → behind ≤ f k + 1
    behind_most h = omega (arith, s.last h, s.each k (omega arith) h, turn_most (before cells f k) (w k) (room_for n k (c k) (f k) (f (suc k) + get_or goes (suc k) 0)) (f k))

    module _ (some : 0 < k) (few : n ≤ 32) (src b next : ℕ) (es : src ≡ before cells f (k - 1)) (eb : b ≡ room_for n (k - 1) (c (k - 1)) (f (k - 1)) behind)
        (en : next ≡ turn src (w (k - 1)) b (f (k - 1))) where
      pub next_least : f (k - 1) ≤ next
      next_least = rw en (turn_least src (w (k - 1)) b (f (k - 1)))

      next_most : next ≤ f (k - 1) + 1
      next_most = rw en (turn_most src (w (k - 1)) b (f (k - 1)))

      abbrev g : ℕ
      g = next - f (k - 1)

      abbrev goes' : List ℕ
      goes' = set goes (k - 1) g

      own : get_or goes' (k - 1) 0 ≡ g
      own = get_or-set_same goes (k - 1) g 0 (omega (arith, s.there, s.range))

      other : (j : ℕ) → (j ≡ k - 1 → ⊥) → get_or goes' j 0 ≡ get_or goes j 0
      other j ne = get_or-set_other goes (k - 1) j g 0 ne

      room_is : b ≡ room_for n (k - 1) (c (k - 1)) (f (k - 1)) (f (suc (k - 1)) + get_or goes' (suc (k - 1)) 0)
      room_is = eb ∙ go (dec_lt k n)
        where
          one : suc (k - 1) ≡ k
          one = omega arith

          go : Dec (k < n) → room_for n (k - 1) (c (k - 1)) (f (k - 1)) behind ≡ room_for n (k - 1) (c (k - 1)) (f (k - 1)) (f (suc (k - 1)) + get_or goes' (suc (k - 1)) 0)
          go (yes h) = rw (one, other k (λ e. omega arith), s.last h)
          go (no h) =
              room_last n (k - 1) (c (k - 1)) (f (k - 1)) behind (omega arith)
              ∙ sym (room_last n (k - 1) (c (k - 1)) (f (k - 1)) (f (suc (k - 1)) + get_or goes' (suc (k - 1)) 0) (omega arith))

      each_on : (j : ℕ) → k - 1 ≤ j → j < n → f j + get_or goes' j 0 ≡ turn (before cells f j) (w j) (room_for n j (c j) (f j) (f (suc j) + get_or goes' (suc j) 0)) (f j)
      each_on j h l = go (ℕ_discrete j (k - 1))
        where
          go : Dec (j ≡ k - 1) → f j + get_or goes' j 0 ≡ turn (before cells f j) (w j) (room_for n j (c j) (f j) (f (suc j) + get_or goes' (suc j) 0)) (f j)
          go (yes e) = rw (e, own) (let x : f (k - 1) + g ≡ next = omega (arith, next_least) in x ∙ en ∙ rw (es, ← room_is))
          go (no e) = rw (other j e, other (suc j) (λ d. omega arith)) (s.each j (omega arith) l)

      none_on : count + g ≡ 0 → (j : ℕ) → k - 1 ≤ j → j < n → get_or goes' j 0 ≡ 0
      none_on z j h l = go (ℕ_discrete j (k - 1))
        where
          go : Dec (j ≡ k - 1) → get_or goes' j 0 ≡ 0
          go (yes e) = rw (e, own) (omega arith)
          go (no e) = rw (other j e) (s.none (omega arith) j (omega arith) l)

      one_on : 0 < count + g → (j : ℕ) × (j < n) × (k - 1 ≤ j) × (0 < get_or goes' j 0)
      one_on h = go (dec_lt 0 g)
        where
          go : Dec (0 < g) → (j : ℕ) × (j < n) × (k - 1 ≤ j) × (0 < get_or goes' j 0)
          go (yes l) = (k - 1, omega (arith, s.range), omega arith, rw own l)
          go (no l) = let o = s.one (omega arith) in (o.0, o.1, omega (arith, o.2), rw (other o.0 (λ e. omega (arith, o.2))) o.3)

      pub looked_on : Looked goes' (count + g) next (k - 1)
      looked_on = record {
        range = omega (arith, s.range);
        there = length-set goes (k - 1) g ∙ s.there;
        each = each_on;
        last = λ h. rw own (omega (arith, next_least));
        few = omega (arith, s.few, next_most);
        none = none_on;
        one = one_on;
      }

  pub looked_end : (goes : List ℕ) (count behind : ℕ) → Looked goes count behind 0 → (length goes ≡ 32) × Goes n cells w c (of goes) f × Movers n goes count
  looked_end goes count behind s = (
    s.there,
    (λ k h. s.each k (omega arith) h),
    record { none = λ e k h. s.none e k (omega arith) h; one = λ h. let o = s.one h in (o.0, o.1, o.3) },
  )
