-- Numbers looked at one after the other, each marked: whether each of 0 .. n - 1 stands once.
use Prim.Native.Nat.{ℕ, zero, suc, ◌≤◌, ◌<◌}
use mathlib.Core.Bool.{Bool, true, false, true≢false}
use mathlib.Core.List.{List}
use mathlib.Core.Path.{◌≡◌, refl, sym, ◌∙◌}
use native.Mathlib.Omega.{arith}
use lib.ListN.{length, get_or, replicate}
use Rattle.model.specs.Lists.{tabulate}
use Rattle.model.specs.Judging.{bad_order}
use Rattle.grid_laws.proofs.ListLaws.{length_tabulate, get_d_tabulate}
use Rattle.grid_laws.proofs.TermLaws.{order_below, order_once, good_order}

blank : (m k : ℕ) → get_or (replicate m false) k false ≡ false
blank zero k = refl
blank (suc m) zero = refl
blank (suc m) (suc k) = blank m k

module _ (n : ℕ) (f : ℕ → ℕ) where
  -- The first t numbers are below n, each stands once, and they are those that are marked.
  pub record Seen (t : ℕ) (seen : List Bool) : Type 0 where
    pub there : length seen ≡ 32
    pub below : (i : ℕ) → i < t → f i < n
    pub once : (i j : ℕ) → i < t → j < t → f i ≡ f j → i ≡ j
    pub marked : (i : ℕ) → i < t → get_or seen (f i) false ≡ true
    pub no_other : (k : ℕ) → get_or seen k false ≡ true → (i : ℕ) × (i < t) × (f i ≡ k)

  pub seen_none : Seen 0 (replicate 32 false)
  seen_none = record {
    there = refl;
    below = λ i h. absurd (omega arith);
    once = λ i j h b e. absurd (omega arith);
    marked = λ i h. absurd (omega arith);
    no_other = λ k e. absurd (true≢false (sym e ∙ blank 32 k));
  }

  module _ (t : ℕ) (seen : List Bool) (few : n ≤ 32) (s : Seen t seen) where
    -- All were looked at.
    pub seen_all : n ≤ t → false ≡ bad_order n (tabulate n f)
    seen_all h =
        sym (good_order n (tabulate n f)
        (λ i b. let c : i < n = omega (arith, length_tabulate n f) in rw (get_d_tabulate n f i 0 c) (s.below i (omega arith)))
        (λ i j b d e.
        let x : i < n = omega (arith, length_tabulate n f) in
        let y : j < n = omega (arith, length_tabulate n f) in
        s.once i j (omega arith) (omega arith) (sym (get_d_tabulate n f i 0 x) ∙ e ∙ get_d_tabulate n f j 0 y)))

    -- A number is n or above, or marked.
    pub seen_high : t < n → n ≤ f t → true ≡ bad_order n (tabulate n f)
    seen_high h high = go (bad_order n (tabulate n f)) refl
      where
        go : (b : Bool) → bad_order n (tabulate n f) ≡ b → true ≡ bad_order n (tabulate n f)
        go true e = sym e
        go false e = absurd (omega (arith, order_below n (tabulate n f) e t (omega (arith, length_tabulate n f)), get_d_tabulate n f t 0 h))

    pub seen_twice : t < n → get_or seen (f t) false ≡ true → true ≡ bad_order n (tabulate n f)
    seen_twice h old = go (bad_order n (tabulate n f)) refl (s.no_other (f t) old)
      where
        go : (b : Bool) → bad_order n (tabulate n f) ≡ b → (i : ℕ) × (i < t) × (f i ≡ f t) → true ≡ bad_order n (tabulate n f)
        go true e m = sym e
        go false e (i, l, d) =
            absurd (omega (
              arith,
              order_once n (tabulate n f) e i t (omega (arith, length_tabulate n f)) (omega (arith, length_tabulate n f))
                  (get_d_tabulate n f i 0 (omega arith) ∙ d ∙ sym (get_d_tabulate n f t 0 h)),
            ))
