-- Counters by the index.
use Prim.Native.Nat.{ℕ, zero, suc, ◌+◌, ◌≤◌, ◌<◌}
use mathlib.Core.List.{List, [], ◌∷◌, map}
use mathlib.Core.Path.{◌≡◌, refl, sym, ◌∙◌}
use native.Mathlib.Omega.{arith}
use lib.ListN.{length, get_or, take, drop, length-drop}
use lib.Seq.{ext_get_or, get_or-take, get_or-drop, length-take-le}
use Rattle.loop_laws.specs.Passes.{ahead}
use Rattle.loop_laws.proofs.GlideLaws.{length_ahead}
use Rattle.runner.specs.Loops.{Advanced}

-- ---- to lists

get_d_ahead : (m : ℕ) (ps : List ℕ) (i : ℕ) → i < length ps → get_or (ahead m ps) i 0 ≡ get_or ps i 0 + m
unfolding ahead
get_d_ahead zero ps i h = omega arith
get_d_ahead (suc m) ps i h = map_at (ahead m ps) i (omega (arith, length_ahead m ps)) ∙ omega (arith, get_d_ahead m ps i h)
  where
    map_at : (l : List ℕ) (j : ℕ) → j < length l → get_or (map suc l) j 0 ≡ suc (get_or l j 0)
    map_at [] j g = absurd (omega arith)
    map_at (x ∷ l) zero g = refl
    map_at (x ∷ l) (suc j) g = map_at l j (omega arith)

pub advanced_ahead : (n m : ℕ) (ps ps' : List ℕ) → n ≤ 32 → length ps ≡ 32 → Advanced n m ps ps' → take n ps' ≡ ahead m (take n ps)
advanced_ahead n m ps ps' h l a =
    let l₁ : length (take n ps') ≡ n = length-take-le n ps' (omega (arith, a.there)) in
    let l₂ : length (take n ps) ≡ n = length-take-le n ps (omega arith) in
    ext_get_or 0 (take n ps') (ahead m (take n ps)) (omega (arith, length_ahead m (take n ps)))
    (λ i g. let k : i < n = omega arith in get_or-take n ps' i 0 k ∙ a.on i k ∙ omega (arith, get_d_ahead m (take n ps) i (omega arith), get_or-take n ps i 0 k))

pub advanced_rest : (n m : ℕ) (ps ps' : List ℕ) → length ps ≡ 32 → Advanced n m ps ps' → drop n ps' ≡ drop n ps
advanced_rest n m ps ps' l a =
    ext_get_or 0 (drop n ps') (drop n ps) (omega (arith, length-drop n ps', length-drop n ps, a.there))
    (λ i _. get_or-drop n ps' i 0 ∙ a.rest (n + i) (omega arith) ∙ sym (get_or-drop n ps i 0))
