-- The pass of the words, place by place.
use Prim.Native.Nat.{ℕ, zero, suc, ◌+◌, ◌≤◌, ◌<◌}
use mathlib.Core.Bool.{Bool, true, false}
use mathlib.Core.List.{List}
use mathlib.Core.Path.{◌≡◌, refl, sym, ◌∙◌, ap, ap₂}
use native.Mathlib.Numerals.{add-one}
use native.Mathlib.Omega.{arith}
use lib.ListN.{length, get_or, set, length-set}
use lib.Seq.{slice, slice-cons, slice_empty, sets, get_or-set_other}
use borrow.Author.Tests.{eq-eqb, ne_eqb}
use Rattle.loop_laws.specs.Passes.{step, flow, flowed, stepped, lent_of, pass_of, heads, InStore}

pub step_back : (b t u : ℕ) → u + 1 ≡ t → b ≡ step b t u
unfolding step
step_back b t u e = rw (eq-eqb (suc u) t (omega arith))

pub step_up : (b t u : ℕ) → (u + 1 ≡ t → ⊥) → u + 1 ≡ step b t u
unfolding step
step_up b t u n = rw (ne_eqb (suc u) t (λ e. n (omega arith)), add-one)

module _ (bases tops : List ℕ) where
  pub stepped_above : (k i : ℕ) (us : List ℕ) → k ≤ i → get_or (stepped bases tops k us) i 0 ≡ get_or us i 0
  unfolding stepped
  stepped_above zero i us h = refl
  stepped_above (suc k) i us h =
      get_or-set_other (stepped bases tops k us) k i (step (get_or bases k 0) (get_or tops k 0) (get_or us k 0)) 0 (omega arith) ∙ stepped_above k i us (omega arith)

  pub length_stepped : (k : ℕ) (us : List ℕ) → length (stepped bases tops k us) ≡ length us
  unfolding stepped
  length_stepped zero us = refl
  length_stepped (suc k) us = length-set (stepped bases tops k us) k (step (get_or bases k 0) (get_or tops k 0) (get_or us k 0)) ∙ length_stepped k us

  -- The pass has come to FIFO k: what remains to be done gives what the whole does.
  pub record Passing (puts₀ gets₀ store₀ words₀ : List ℕ) (word m : ℕ) (puts gets store words : List ℕ) (carry k : ℕ) : Type 0 where
    pub range : k ≤ m
    pub at_puts : puts ≡ stepped bases tops k puts₀
    pub at_gets : gets ≡ stepped bases tops k gets₀
    pub flows : flow carry (slice k m gets₀) (slice k m puts₀) store ≡ flow word (slice 0 m gets₀) (slice 0 m puts₀) store₀
    pub rows : sets words k (flowed carry (slice k m gets₀) (slice k m puts₀) store) ≡ sets words₀ 0 (flowed word (slice 0 m gets₀) (slice 0 m puts₀) store₀)
    pub store_length : length store ≡ length store₀
    pub words_length : length words ≡ length words₀

  module _ (puts₀ gets₀ store₀ words₀ : List ℕ) (word m : ℕ) where
    pub passing_start : Passing puts₀ gets₀ store₀ words₀ word m puts₀ gets₀ store₀ words₀ word 0
    unfolding stepped
    passing_start = record {
      range = omega arith;
      at_puts = refl;
      at_gets = refl;
      flows = refl;
      rows = refl;
      store_length = refl;
      words_length = refl;
    }

    module _ (puts gets store words : List ℕ) (carry k : ℕ) (s : Passing puts₀ gets₀ store₀ words₀ word m puts gets store words carry k) where
      pub puts_now : get_or puts k 0 ≡ get_or puts₀ k 0
      puts_now = ap (λ (l : List ℕ). get_or l k 0) s.at_puts ∙ stepped_above k k puts₀ (omega arith)

      pub gets_now : get_or gets k 0 ≡ get_or gets₀ k 0
      gets_now = ap (λ (l : List ℕ). get_or l k 0) s.at_gets ∙ stepped_above k k gets₀ (omega arith)

      pub put_within : InStore m puts₀ gets₀ store₀ → k < m → get_or puts k 0 < length store
      put_within i h = omega (arith, puts_now, i.in_puts k h, s.store_length)

      pub get_within : InStore m puts₀ gets₀ store₀ → k < m → get_or gets k 0 < length store
      get_within i h = omega (arith, gets_now, i.in_gets k h, s.store_length)

      pub passing_again : (u g : ℕ) → k < m → m ≤ length puts₀ → m ≤ length gets₀
          → u ≡ step (get_or bases k 0) (get_or tops k 0) (get_or puts k 0) → g ≡ step (get_or bases k 0) (get_or tops k 0) (get_or gets k 0)
          → Passing puts₀ gets₀ store₀ words₀ word m (set puts k u) (set gets k g) (set store (get_or puts k 0) carry) (set words k carry) (get_or store (get_or gets k 0) 0) (k + 1)
      unfolding stepped flow flowed
      passing_again u g h lp lg eu eg = rw add-one record {
        range = omega arith;
        at_puts = rw (eu, puts_now, s.at_puts);
        at_gets = rw (eg, gets_now, s.at_gets);
        flows = rw (puts_now, gets_now) (sym (ap₂ (λ (gs us : List ℕ). flow carry gs us store) (slice-cons k m gets₀ 0 h lg) (slice-cons k m puts₀ 0 h lp)) ∙ s.flows);
        rows = rw (puts_now, gets_now) (sym (ap₂ (λ (gs us : List ℕ). sets words k (flowed carry gs us store)) (slice-cons k m gets₀ 0 h lg) (slice-cons k m puts₀ 0 h lp)) ∙ s.rows);
        store_length = length-set store (get_or puts k 0) carry ∙ s.store_length;
        words_length = length-set words k carry ∙ s.words_length;
      }

      pub passing_end : k ≡ m → lent_of puts gets store (set words m carry) ≡ pass_of m bases tops word (lent_of puts₀ gets₀ store₀ words₀)
      unfolding flow flowed
      passing_end e =
          let fl : store ≡ flow word (slice 0 m gets₀) (slice 0 m puts₀) store₀ = rw (e, slice_empty m gets₀) at s.flows in
          let ro : set words m carry ≡ sets words₀ 0 (flowed word (slice 0 m gets₀) (slice 0 m puts₀) store₀) = rw (e, slice_empty m gets₀) at s.rows in
          let pu : puts ≡ stepped bases tops m puts₀ = rw e at s.at_puts in
          let ge : gets ≡ stepped bases tops m gets₀ = rw e at s.at_gets in
          cc

-- The heads are at the one table or at the other.
module _ (full : Bool) (m : ℕ) (us gs store : List ℕ) where
  pub one_table : full ≡ true → InStore m us (heads full us gs) store → InStore m us us store
  one_table e i = rw e at i

  pub two_tables : full ≡ false → InStore m us (heads full us gs) store → InStore m us gs store
  two_tables e i = rw e at i

  module _ (bases tops : List ℕ) (word : ℕ) (words us' gs' store' words' : List ℕ) where
    pub passed_one : full ≡ true → lent_of us' us' store' words' ≡ pass_of m bases tops word (lent_of us us store words)
        → lent_of us' (heads full us' gs') store' words' ≡ pass_of m bases tops word (lent_of us (heads full us gs) store words)
    passed_one e h = rw e h

    pub passed_two : full ≡ false → lent_of us' gs' store' words' ≡ pass_of m bases tops word (lent_of us gs store words)
        → lent_of us' (heads full us' gs') store' words' ≡ pass_of m bases tops word (lent_of us (heads full us gs) store words)
    passed_two e h = rw e h
