-- Words that were laid into a slice from its first place on.
use Prim.Native.Nat.{ℕ, ◌≤◌, ◌<◌}
use mathlib.Core.List.{List}
use mathlib.Core.Path.{◌≡◌, ◌∙◌, ap}
use native.Mathlib.Omega.{arith}
use lib.ListN.{length, take, drop, length-append, length-drop, get_or-append}
use lib.Seq.{take_at, drop_at}
use Rattle.model.specs.Lists.{tabulate}
use Rattle.grid_laws.proofs.ListLaws.{length_tabulate, get_d_tabulate}
use Rattle.zohmirka_words.specs.Words.{word_at, laid}

module _ (n : ℕ) (f : ℕ → ℕ) (old : List ℕ) where
  pub laid_long : n ≤ length (laid (tabulate n f) old)
  laid_long = omega (arith, length-append (tabulate n f) (drop (length (tabulate n f)) old), length_tabulate n f)

  pub laid_length : n ≤ length old → length (laid (tabulate n f) old) ≡ length old
  laid_length h = omega (arith, length-append (tabulate n f) (drop (length (tabulate n f)) old), length-drop (length (tabulate n f)) old, length_tabulate n f)

  pub laid_at : (i : ℕ) → i < n → word_at (laid (tabulate n f) old) i ≡ f i
  laid_at i h = get_or-append (tabulate n f) (drop (length (tabulate n f)) old) 0 i (rw (length_tabulate n f) h) ∙ get_d_tabulate n f i 0 h

  pub laid_front : take n (laid (tabulate n f) old) ≡ tabulate n f
  laid_front = take_at (tabulate n f) (drop (length (tabulate n f)) old) n (length_tabulate n f)

  pub laid_later : drop n (laid (tabulate n f) old) ≡ drop n old
  laid_later = drop_at (tabulate n f) (drop (length (tabulate n f)) old) n (length_tabulate n f) ∙ ap (λ k. drop k old) (length_tabulate n f)
