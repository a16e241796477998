-- Kernels whose terms stand in chain order: raw writes the words as they are, and the words added are those of all references, or of all but the centre.
use Prim.Native.Nat.{ℕ, zero, suc, ◌+◌, ◌-◌, ◌<◌, ◌≤◌}
use mathlib.Core.Bool.{Bool, true, false}
use mathlib.Core.List.{List, [], ◌∷◌, ◌++◌}
use mathlib.Core.Path.{◌≡◌, refl, sym, ◌∙◌}
use native.Mathlib.Decide.{dec_lt}
use native.Mathlib.Omega.{arith}
use lib.Dec.{eqb}
use lib.ListN.{length, take, drop, get_or, drop_of_length-le}
use lib.Seq.{drop-cons, take-nil, drop-nil}
use borrow.Author.Tests.{eqb-true, eqb-false}
use Rattle.model.specs.Lists.{tabulate, up_to, without}
use Rattle.model_run.specs.Kernels.{words_at}
use Rattle.grid_laws.proofs.ListLaws.{map_tabulate, tabulate_back}

pub words_of_all : (ws : List ℕ) (n : ℕ) → length ws ≡ n → words_at (up_to n) ws ≡ ws
unfolding words_at up_to
words_of_all ws n e = map_tabulate (λ k. get_or ws k 0) n (λ k. k) ∙ tabulate_back 0 ws n (λ k. get_or ws k 0) e (λ k h. refl)

-- The words from number i on, number c left out.
from : (c i : ℕ) → List ℕ → List ℕ
from c i ws = take (c - i) (drop i ws) ++ drop (suc c - i) (drop i ws)

from_other : (c i : ℕ) (ws : List ℕ) → i < length ws → (i ≡ c → ⊥) → from c i ws ≡ get_or ws i 0 ∷ from c (suc i) ws
unfolding from
from_other c i ws h n = go (dec_lt i c)
  where
    go : Dec (i < c) → from c i ws ≡ get_or ws i 0 ∷ from c (suc i) ws
    go (yes l) =
        let a : c - i ≡ suc (c - suc i) = omega arith in
        let b : suc c - i ≡ suc (suc c - suc i) = omega arith in
        rw (drop-cons ws i 0 h, a, b)
    go (no g) =
        let a : c - i ≡ 0 = omega arith in
        let b : suc c - i ≡ 0 = omega arith in
        let a' : c - suc i ≡ 0 = omega arith in
        let b' : suc c - suc i ≡ 0 = omega arith in
        rw (drop-cons ws i 0 h, a, b, a', b')

from_skip : (c i : ℕ) (ws : List ℕ) → i < length ws → i ≡ c → from c i ws ≡ from c (suc i) ws
unfolding from
from_skip c i ws h e =
    let a : c - i ≡ 0 = omega arith in
    let b : suc c - i ≡ 1 = omega arith in
    let a' : c - suc i ≡ 0 = omega arith in
    let b' : suc c - suc i ≡ 0 = omega arith in
    rw (drop-cons ws i 0 h, a, b, a', b')

from_end : (c i : ℕ) (ws : List ℕ) → length ws ≤ i → from c i ws ≡ []
unfolding from
from_end c i ws h = rw (drop_of_length-le ws h, take-nil, drop-nil)

-- The filters from number j on.
words_from_lem : (c : ℕ) (ws : List ℕ) (n j : ℕ) (f : ℕ → ℕ) → ((i : ℕ) → f i ≡ j + i) → j + n ≡ length ws → words_at (without c (tabulate n f)) ws ≡ from c j ws
unfolding words_at without tabulate
words_from_lem c ws zero j f s e = sym (from_end c j ws (omega arith))
words_from_lem c ws (suc n) j f s e = go (eqb (f 0) c) refl (words_from_lem c ws n (suc j) (λ i. f (suc i)) (λ i. omega (arith, s (suc i))) (omega arith))
  where
    here : f 0 ≡ j
    here = omega (arith, s 0)

    go : (b : Bool) → eqb (f 0) c ≡ b → words_at (without c (tabulate n (λ i. f (suc i)))) ws ≡ from c (suc j) ws → words_at (without c (tabulate (suc n) f)) ws ≡ from c j ws
    go true t r = rw t (r ∙ sym (from_skip c j ws (omega arith) (omega (arith, here, eqb-true (f 0) c t))))
    go false t r =
        let o : j ≡ c → ⊥ = λ (d : j ≡ c). eqb-false (f 0) c t (here ∙ d) in
        rw (t, here, r) (sym (from_other c j ws (omega arith) o))

pub words_of_others : (c : ℕ) (ws : List ℕ) (n : ℕ) → length ws ≡ n → words_at (without c (up_to n)) ws ≡ take c ws ++ drop (suc c) ws
unfolding up_to from
words_of_others c ws n e =
    let a : c - 0 ≡ c = omega arith in
    let b : suc c - 0 ≡ suc c = omega arith in
    rw (a, b) at (words_from_lem c ws n 0 (λ k. k) (λ i. omega arith) (omega arith))
