-- A clock by the filters that move: the loop over them, from the last to the first.
use Prim.Native.Nat.{ℕ, suc, ◌+◌, ◌-◌, ◌≤◌, ◌<◌}
use mathlib.Core.Bool.{Bool, false}
use mathlib.Core.List.{List}
use mathlib.Core.Path.{◌≡◌, ◌∙◌}
use native.Mathlib.Decide.{ℕ_discrete}
use native.Mathlib.Omega.{arith}
use lib.ListN.{length, get_or, set}
use lib.Seq.{slice, get_or-set_same, get_or-set_other}
use Rattle.model_run.specs.Clock.{turn, limit}
use Rattle.loop_laws.specs.Passes.{of}
use Rattle.loop_laws.specs.Sweeps.{source, word_at, gets_on, PutOn, Turns, Goes, Gone}
use Rattle.loop_laws.proofs.AgainLaws.{goes_most, turn_by}
use Rattle.loop_laws.proofs.TurnLaws.{Turning, turning_start, turning_end, turning_rests, turning_goes, reads_within, goes_within}

module _ (c : ℕ → ℕ) (n cells word : ℕ) (wants bases tops caps goes ps₀ puts₀ gets₀ store₀ : List ℕ) where
  -- The filters from k on had their turns.
  pub record Moving (ps puts gets store : List ℕ) (k : ℕ) : Type 0 where
    pub moved : Bool
    pub turning : Turning c n cells word wants bases tops caps ps₀ puts₀ gets₀ store₀ ps puts gets store moved k
    pub on : (i : ℕ) → k ≤ i → i < n → get_or ps i 0 ≡ get_or ps₀ i 0 + get_or goes i 0

  module _ (T : Turns c n bases tops caps ps₀ puts₀ gets₀ store₀) (G : Goes n cells (of wants) (of caps) (of goes) (of ps₀)) where
    pub moving_start : Moving ps₀ puts₀ gets₀ store₀ n
    moving_start = record {
      moved = false;
      turning = turning_start c n cells word wants bases tops caps ps₀ puts₀ gets₀ store₀ T;
      on = λ i h l. absurd (let z : ⊥ = omega arith in z);
    }

    module _ (ps puts gets store : List ℕ) (k : ℕ) (some : 0 < k) (s : Moving ps puts gets store k) where
      abbrev p : ℕ
      p = get_or ps (k - 1) 0

      inside : k - 1 < n
      inside = omega (arith, s.turning.sweeping.range)

      there : n ≤ length ps
      there = omega (arith, s.turning.sweeping.size, s.turning.sweeping.fits)

      own : turn (source cells ps (k - 1)) (get_or wants (k - 1) 0) (limit (of caps) (k - 1) p (slice (suc (k - 1)) n ps)) p ≡ p + get_or goes (k - 1) 0
      own =
          turn_by n cells wants caps ps₀ (of goes) G ps (k - 1) there inside (λ i h. s.turning.sweeping.front i (omega arith))
          (λ h. s.on (suc (k - 1)) (omega arith) h)

      pub moving_rests : get_or goes (k - 1) 0 ≡ 0 → Moving ps puts gets store (k - 1)
      moving_rests z = record {
        moved = s.moved;
        turning = turning_rests c n cells word wants bases tops caps ps₀ puts₀ gets₀ store₀ T ps puts gets store s.moved k (get_or goes (k - 1) 0) some s.turning own z;
        on = on;
      }
        where
          on : (i : ℕ) → k - 1 ≤ i → i < n → get_or ps i 0 ≡ get_or ps₀ i 0 + get_or goes i 0
          on i h l = go (ℕ_discrete i (k - 1))
            where
              go : Dec (i ≡ k - 1) → get_or ps i 0 ≡ get_or ps₀ i 0 + get_or goes i 0
              go (yes e) = rw e (omega (arith, s.turning.sweeping.front (k - 1) (omega arith)))
              go (no e) = s.on i (omega arith) l

      module _ (up : get_or goes (k - 1) 0 ≡ 0 → ⊥) where
        pub moving_reads : (k - 1 ≡ 0 → ⊥) → get_or gets (k - 1 - 1) 0 < length store
        moving_reads = reads_within c n cells word wants bases tops caps ps₀ puts₀ gets₀ store₀ T ps puts gets store s.moved k (get_or goes (k - 1) 0) some s.turning own up

        pub moving_puts : k - 1 + 1 < n → get_or puts (k - 1) 0 < length store
        moving_puts = goes_within c n cells word wants bases tops caps ps₀ puts₀ gets₀ store₀ T ps puts gets store s.moved k (get_or goes (k - 1) 0) some s.turning own up

        pub moving_goes : (puts' gets' store' : List ℕ) (x : ℕ) → x ≡ word_at (k - 1) word gets store → gets' ≡ gets_on (k - 1) bases tops gets
            → PutOn n (k - 1) x bases tops puts puts' store store' → Moving (set ps (k - 1) (p + 1)) puts' gets' store' (k - 1)
        moving_goes puts' gets' store' x ex eg po = record {
          moved = _;
          turning = turning_goes c n cells word wants bases tops caps ps₀ puts₀ gets₀ store₀ T ps puts gets store s.moved k (get_or goes (k - 1) 0) some s.turning own up puts' gets' store' x ex eg po;
          on = on;
        }
          where
            on : (i : ℕ) → k - 1 ≤ i → i < n → get_or (set ps (k - 1) (p + 1)) i 0 ≡ get_or ps₀ i 0 + get_or goes i 0
            on i h l = go (ℕ_discrete i (k - 1))
              where
                go : Dec (i ≡ k - 1) → get_or (set ps (k - 1) (p + 1)) i 0 ≡ get_or ps₀ i 0 + get_or goes i 0
                go (yes e) = rw (e, get_or-set_same ps (k - 1) (p + 1) 0 (omega arith)) (omega (arith, s.turning.sweeping.front (k - 1) (omega arith), one))
                  where
                    one : get_or goes (k - 1) 0 ≡ 1
                    one = omega (arith, goes_most n cells (of wants) (of caps) (of goes) (of ps₀) G (k - 1) inside)
                go (no e) = get_or-set_other ps (k - 1) i (p + 1) 0 e ∙ s.on i (omega arith) l

    pub moving_end : (ps puts gets store : List ℕ) → Moving ps puts gets store 0 → Gone c n cells word wants bases caps goes ps₀ ps puts gets store₀ store
    moving_end ps puts gets store s = record {
      moved = s.moved;
      turned = turning_end c n cells word wants bases tops caps ps₀ puts₀ gets₀ store₀ T ps puts gets store s.moved s.turning;
      on = λ k h. s.on k (omega arith) h;
    }
