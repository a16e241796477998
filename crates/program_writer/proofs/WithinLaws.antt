-- What was written lies within the output.
use Prim.Native.Nat.{ℕ, ◌≤◌}
use mathlib.Core.Bool.{Bool, true, false}
use mathlib.Core.List.{List}
use mathlib.Core.Path.{◌≡◌, refl, sym, subst}
use native.Mathlib.Omega.{arith}
use lib.Dec.{ltb}
use lib.ListN.{length, drop, length-append}
use lib.Seq.{length-take-le}
use Rattle.program_writer.specs.Texts.{Laid, laid, laid_over, laid_if_fits, Within}

pub there : (n : ℕ) (text : List ℕ) → n ≤ length text → Within n text
there n text h = (h, sym (length-take-le n text h))

pub over_within : (line text : List ℕ) → (laid_over line text).chars ≤ length (laid_over line text).output
unfolding laid_over
over_within line text = omega (arith, length-append line (drop (length line) text))

pub if_within : (line text : List ℕ) → (laid_if_fits line text).chars ≤ length (laid_if_fits line text).output
unfolding laid_if_fits
if_within line text = go (ltb (length text) (length line)) refl
  where
    go : (b : Bool) → ltb (length text) (length line) ≡ b → (laid_if_fits line text).chars ≤ length (laid_if_fits line text).output
    go true e = rw e (omega arith)
    go false e = rw e (over_within line text)

pub laid_within : (chars : ℕ) (line before after : List ℕ) → laid chars after ≡ laid_if_fits line before → Within chars after
laid_within chars line before after e = there chars after (subst (λ (x : Laid). x.chars ≤ length x.output) (sym e) (if_within line before))
