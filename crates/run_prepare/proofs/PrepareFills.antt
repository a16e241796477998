-- Laws of arrays that are filled from the front, one entry after the other.
use Prim.Native.Nat.{ℕ, ◌+◌, ◌≤◌, ◌<◌}
use mathlib.Core.List.{List}
use mathlib.Core.Path.{◌≡◌, refl, sym, ◌∙◌}
use native.Mathlib.Decide.{ℕ_discrete, dec_lt}
use native.Mathlib.Omega.{arith}
use lib.ListN.{length, take, set, replicate, length-set, length-replicate, get_or-replicate, get_or-eq_default}
use lib.Seq.{get_or-set_same, get_or-set_other, ext_get_or, length-take-le, get_or-take}
use Rattle.model.specs.Lists.{tabulate}
use Rattle.grid_laws.proofs.ListLaws.{length_tabulate, get_d_tabulate}
use Rattle.run_prepare.specs.Prepared.{number_at, Filled, Widened}

module _ (old : List ℕ) (f : ℕ → ℕ) where
  pub filled_none : Filled old f 0 old
  filled_none = record { long = refl; done = λ i h. absurd (omega arith); left = λ i h. refl }

  pub filled_more : (n : ℕ) (xs : List ℕ) (x : ℕ) → n < length old → x ≡ f n → Filled old f n xs → Filled old f (n + 1) (set xs n x)
  filled_more n xs x h e r = record {
    long = length-set xs n x ∙ r.long;
    done = λ i k. at i k (ℕ_discrete i n);
    left = λ i k. get_or-set_other xs n i x 0 (omega arith) ∙ r.left i (omega arith);
  }
    where
      at : (i : ℕ) → i < n + 1 → Dec (i ≡ n) → number_at (set xs n x) i ≡ f i
      at i k (yes q) = rw q (get_or-set_same xs n x 0 (rw r.long h) ∙ e)
      at i k (no q) = get_or-set_other xs n i x 0 q ∙ r.done i (omega arith)

  -- The first n entries as a list.
  pub filled_list : (n : ℕ) (xs : List ℕ) → n ≤ length old → Filled old f n xs → take n xs ≡ tabulate n f
  filled_list n xs h r =
      let long = length-take-le n xs (rw r.long h) in
      ext_get_or 0 (take n xs) (tabulate n f) (long ∙ sym (length_tabulate n f))
      (λ i k. let b = rw long at k in get_or-take n xs i 0 b ∙ r.done i b ∙ sym (get_d_tabulate n f i 0 b))

-- Another name for what the entries became.
pub filled_as : {old : List ℕ} {f g : ℕ → ℕ} {n m : ℕ} {xs : List ℕ} → n ≡ m → ((i : ℕ) → i < n → f i ≡ g i) → Filled old f n xs → Filled old g m xs
filled_as e d r = record { long = r.long; done = λ i h. let b = rw (← e) at h in r.done i b ∙ d i b; left = λ i h. r.left i (rw e h) }

-- One more entry below a bound.
pub small_more : (bound n : ℕ) (xs : List ℕ) (x : ℕ) → n < length xs → x < bound → ((i : ℕ) → i < n → number_at xs i < bound) → (i : ℕ) → i < n + 1 → number_at (set xs n x) i < bound
small_more bound n xs x h b r i k = at (ℕ_discrete i n)
  where
    at : Dec (i ≡ n) → number_at (set xs n x) i < bound
    at (yes q) = rw (q, get_or-set_same xs n x 0 h) b
    at (no q) = rw (get_or-set_other xs n i x 0 q) (r i (omega arith))

module _ (size : ℕ) (from : List ℕ) where
  pub widened_none : Widened size from 0 (replicate size 0)
  widened_none = record { long = length-replicate size 0; same = λ i h. absurd (omega arith); small = λ i. at i (dec_lt i size) }
    where
      at : (i : ℕ) → Dec (i < size) → number_at (replicate size 0) i < 4294967296
      at i (yes h) = let e : number_at (replicate size 0) i ≡ 0 = get_or-replicate size i 0 0 h in omega arith
      at i (no h) = let e : number_at (replicate size 0) i ≡ 0 = get_or-eq_default (replicate size 0) 0 (omega (arith, length-replicate {A = ℕ} size 0)) in omega arith

  pub widened_more : (n : ℕ) (xs : List ℕ) (x : ℕ) → n < size → x ≡ number_at from n → x < 4294967296 → Widened size from n xs → Widened size from (n + 1) (set xs n x)
  widened_more n xs x h e b r = record { long = length-set xs n x ∙ r.long; same = λ i k. at i k (ℕ_discrete i n); small = λ i. below i (ℕ_discrete i n) }
    where
      at : (i : ℕ) → i < n + 1 → Dec (i ≡ n) → number_at (set xs n x) i ≡ number_at from i
      at i k (yes q) = rw q (get_or-set_same xs n x 0 (rw r.long h) ∙ e)
      at i k (no q) = get_or-set_other xs n i x 0 q ∙ r.same i (omega arith)

      below : (i : ℕ) → Dec (i ≡ n) → number_at (set xs n x) i < 4294967296
      below i (yes q) = rw (q, get_or-set_same xs n x 0 (rw r.long h)) b
      below i (no q) = rw (get_or-set_other xs n i x 0 q) (r.small i)

  pub widened_to : {n m : ℕ} {xs : List ℕ} → n ≡ m → Widened size from n xs → Widened size from m xs
  widened_to e r = record { long = r.long; same = λ i h. r.same i (rw (← e) at h); small = r.small }
