-- Laws of a list that is filled from the front, one entry after the other.
use Prim.Native.Nat.{ℕ, ◌+◌, ◌≤◌, ◌<◌}
use mathlib.Core.List.{List}
use mathlib.Core.Path.{◌≡◌, sym, ◌∙◌}
use native.Mathlib.Decide.{ℕ_discrete, dec_lt}
use native.Mathlib.Omega.{arith}
use lib.ListN.{get_or, set, replicate, length-replicate, length-set, get_or-replicate, get_or-eq_default}
use lib.Seq.{get_or-set_same, get_or-set_other, ext_get_or}
use Rattle.model.specs.Lists.{tabulate}
use Rattle.grid_laws.proofs.ListLaws.{length_tabulate, get_d_tabulate}
use Rattle.geometry.specs.Parts.{Filled}

module _ {A : Type 0} (size : ℕ) (rest : A) (f : ℕ → A) where
  pub filled_none : Filled size rest f 0 (replicate size rest)
  filled_none = record { long = length-replicate size rest; done = λ i h. absurd (omega arith); left = λ i h. at i (dec_lt i size) }
    where
      at : (i : ℕ) → Dec (i < size) → get_or (replicate size rest) i rest ≡ rest
      at i (yes h) = get_or-replicate size i rest rest h
      at i (no h) = get_or-eq_default (replicate size rest) rest (rw (length-replicate size rest) (omega arith))

  pub filled_more : (n : ℕ) (xs : List A) (x : A) → n < size → x ≡ f n → Filled size rest f n xs → Filled size rest f (n + 1) (set xs n x)
  filled_more n xs x h e r = record {
    long = length-set xs n x ∙ r.long;
    done = λ i k. at i k (ℕ_discrete i n);
    left = λ i k. get_or-set_other xs n i x rest (omega arith) ∙ r.left i (omega arith);
  }
    where
      at : (i : ℕ) → i < n + 1 → Dec (i ≡ n) → get_or (set xs n x) i rest ≡ f i
      at i k (yes q) = rw q (get_or-set_same xs n x rest (rw r.long h) ∙ e)
      at i k (no q) = get_or-set_other xs n i x rest q ∙ r.done i (omega arith)

  -- A list that is filled as far as g goes, which is f there, is g's.
  pub filled_all : (g : ℕ → A) (n : ℕ) (xs : List A) → ((i : ℕ) → i < n → f i ≡ g i) → ((i : ℕ) → n ≤ i → g i ≡ rest) → Filled size rest f n xs → xs ≡ tabulate size g
  filled_all g n xs d e r =
      ext_get_or rest xs (tabulate size g) (r.long ∙ sym (length_tabulate size g))
      (λ i h. at i (dec_lt i n) ∙ sym (get_d_tabulate size g i rest (rw r.long at h)))
    where
      at : (i : ℕ) → Dec (i < n) → get_or xs i rest ≡ g i
      at i (yes h) = r.done i h ∙ d i h
      at i (no h) = r.left i (omega arith) ∙ sym (e i (omega arith))

  pub filled_up_to : (n m : ℕ) (xs : List A) → n ≡ m → Filled size rest f n xs → Filled size rest f m xs
  filled_up_to n m xs e r = rw e at r
