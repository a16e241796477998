use Prim.Native.Nat.{ℕ, ◌+◌, ◌-◌, ◌≤◌}
use mathlib.Core.List.{List, ◌++◌}
use mathlib.Core.Path.{◌≡◌, ◌∙◌}
use native.Mathlib.Omega.{arith}
use lib.ListN.{length, get_or, take, drop, replicate, length-append, length-take, length-drop, length-replicate, get_or-append}
use lib.Seq.{get_or-take, get_or-drop}
use Rattle.std.proofs.lemmas.List.{get_or-append_right}
use Rattle.geometry.specs.Parts.{Filled}
use Rattle.geometry.proofs.FillLaws.{filled_none}
use Rattle.planner.proofs.trimmed.Goals as goal

-- The first n entries, and `rest` in the other places.
filled_front : {A : Type 0} (size : ℕ) (rest : A) (xs ys : List A) (n : ℕ) → length xs ≡ size → n ≤ size → ys ≡ take n xs
    → Filled size rest (λ d. get_or xs d rest) n (ys ++ drop n (replicate size rest))
filled_front size rest xs ys n long h e = rw e record {
  long = simp (length-append, length-take, length-drop, length-replicate) (omega arith);
  done = λ i l. get_or-append (take n xs) (drop n (replicate size rest)) rest i (simp length-take (omega arith)) ∙ get_or-take n xs i rest l;
  left = λ i l.
      get_or-append_right (take n xs) (drop n (replicate size rest)) n i rest (simp length-take (omega arith)) l
      ∙ get_or-drop n (replicate size rest) (i - n) rest ∙ (filled_none size rest (λ d. rest)).left (n + (i - n)) (omega arith);
}

pub returns : goal.returns
returns g c = filled_front 4 c.args.rest c.args.xs.now _ c.args.dims c.told-xs c.requires c.copy_from_slice.ensures.after
