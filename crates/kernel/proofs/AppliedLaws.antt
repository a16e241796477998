-- What a firing leaves in the output.
use Prim.Native.Nat.{ℕ, suc, ◌+◌, ◌-◌, ◌<◌, ◌≤◌}
use mathlib.Core.Path.{◌≡◌}
use mathlib.Core.List.{List, [], ◌∷◌}
use native.Mathlib.Nat.{add-zero}
use native.Mathlib.Numerals.{add-one}
use native.Mathlib.Omega.{arith}
use lib.ListN.{length, drop, get_or, set, drop_of_length-le}
use lib.Seq.{sets, drop-cons}
use borrow.Author.Tests.{le-leb, lt-leb}
use Rattle.model_run.specs.Kernels.{words_at, written, width}
use Rattle.model.specs.declared.Kernel.{Kernel}
use Rattle.kernel.specs.Applied.{applied}
use Rattle.kernel_words.proofs.SumLaws.{words_count}

-- Words stored one after the other: the first is to be stored, then those from number i on.
pub copy_start : (out ws : List ℕ) (at i : ℕ) → i ≡ 0 → sets out (at + i) (drop i ws) ≡ sets out at ws
copy_start out ws at i e = rw (e, add-zero)

pub copy_next : (out ks vs : List ℕ) (at i : ℕ) → i < length ks
    → sets (set out (at + i) (get_or (words_at ks vs) i 0)) (at + (i + 1)) (drop (i + 1) (words_at ks vs)) ≡ sets out (at + i) (drop i (words_at ks vs))
copy_next out ks vs at i h =
    let e : at + (i + 1) ≡ suc (at + i) = omega arith in
    rw (e, add-one i, drop-cons (words_at ks vs) i 0 (omega (arith, words_count ks vs)))

pub copy_end : (out ks vs : List ℕ) (at i : ℕ) → length ks ≤ i → out ≡ sets out (at + i) (drop i (words_at ks vs))
copy_end out ks vs at i h = rw (drop_of_length-le (words_at ks vs) {i = i} (omega (arith, words_count ks vs)))

module _ (k : Kernel) (c : ℕ) (ks us ws : List ℕ) (at : ℕ) (out : List ℕ) where
  -- Where it fits, the output is as a firing of a call leaves it.
  pub applied_fits : at + width k (length us) ≤ length out → applied k c ks us ws at out ≡ sets out at (written k c ks us ws)
  unfolding applied
  applied_fits h = rw (le-leb (at + width k (length us)) (length out) h)

  pub past_end : length out < at → out ≡ applied k c ks us ws at out
  unfolding applied
  past_end h = rw (lt-leb (at + width k (length us)) (length out) (omega arith))

  module _ {size : ℕ} (e : size ≡ width k (length us)) (l : at ≤ length out) where
    pub no_room : length out - at < size → out ≡ applied k c ks us ws at out
    unfolding applied
    no_room h = rw (lt-leb (at + width k (length us)) (length out) (omega arith))

    pub all_words_lem : size ≤ length out - at → written k c ks us ws ≡ words_at us ws → sets out at (words_at us ws) ≡ applied k c ks us ws at out
    all_words_lem h w = rw (applied_fits (omega arith), w)

    pub one_word : (v : ℕ) → size ≤ length out - at → written k c ks us ws ≡ v ∷ [] → set out at v ≡ applied k c ks us ws at out
    one_word v h w = rw (applied_fits (omega arith), w)
