-- The words of iterations put together.
use Prim.Native.Nat.{ℕ, zero, suc, ◌+◌}
use mathlib.Core.List.{List, ◌++◌, append_assoc}
use mathlib.Core.Path.{◌≡◌, sym, ◌∙◌, ap, ap₂}
use native.Mathlib.Nat.{zero-add, add-zero, suc-add}
use native.Mathlib.Omega.{arith}
use Rattle.model.specs.Values.{Trimmed}
use Rattle.model_run.specs.Words.{words_of, words_from}

module _ (t : Trimmed) (stream : ℕ → ℕ) where
  -- Words of n iterations, and of m more.
  pub words_append : (j n m : ℕ) → words_from t stream j n ++ words_from t stream (j + n) m ≡ words_from t stream j (n + m)
  unfolding words_from
  words_append j zero m = ap₂ (λ (x y : ℕ). words_from t stream x y) (add-zero j) (sym (zero-add m))
  words_append j (suc n) m =
      append_assoc (words_of t stream j) (words_from t stream (suc j) n) (words_from t stream (j + suc n) m)
      ∙ ap (λ (x : List ℕ). words_of t stream j ++ x)
      (ap (λ (i : ℕ). words_from t stream (suc j) n ++ words_from t stream i m) (omega arith) ∙ words_append (suc j) n m)
      ∙ ap (λ (i : ℕ). words_from t stream j i) (sym (suc-add n m))
