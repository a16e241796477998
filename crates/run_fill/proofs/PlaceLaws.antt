-- Ring places by the index.
use Prim.Native.Nat.{ℕ, suc, ◌+◌, ◌-◌, ◌%◌, ◌≤◌, ◌<◌}
use mathlib.Core.List.{List}
use mathlib.Core.Path.{◌≡◌, ◌∙◌}
use native.Mathlib.Numerals.{add-one}
use native.Mathlib.Omega.{arith}
use native.Mathlib.Decide.{ℕ_discrete}
use lib.ListN.{length, get_or, set, length-set}
use lib.Seq.{get_or-set_same, get_or-set_other}

-- The ring places of the FIFOs before k are found.
pub record Ringing (n : ℕ) (bases caps ps puts gets : List ℕ) (k : ℕ) : Type 0 where
  pub puts_there : length puts ≡ 32
  pub gets_there : length gets ≡ 32
  pub found : (j : ℕ) → j < k → suc j < n → 0 < get_or caps j 0
      → (get_or puts j 0 ≡ get_or bases j 0 + get_or ps j 0 % get_or caps j 0) × (get_or gets j 0 ≡ get_or bases j 0 + get_or ps (suc j) 0 % get_or caps j 0)

pub ringing_again : (n : ℕ) (bases caps ps puts gets : List ℕ) (k u g held : ℕ) → Ringing n bases caps ps puts gets k → k < 32
    → get_or ps (k + 1) 0 ≤ get_or ps k 0 → held ≡ get_or ps k 0 - get_or ps (k + 1) 0
    → (0 < get_or caps k 0 → g ≡ get_or bases k 0 + get_or ps (k + 1) 0 % get_or caps k 0)
    → (0 < get_or caps k 0 → u ≡ get_or bases k 0 + (get_or ps (k + 1) 0 + held) % get_or caps k 0)
    → Ringing n bases caps ps (set puts k u) (set gets k g) (k + 1)
ringing_again n bases caps ps puts gets k u g held r l le eh eg eu = record {
  puts_there = length-set puts k u ∙ r.puts_there;
  gets_there = length-set gets k g ∙ r.gets_there;
  found = λ j h m z. go j h m z (ℕ_discrete j k);
}
  where
    go : (j : ℕ) → j < k + 1 → suc j < n → 0 < get_or caps j 0 → Dec (j ≡ k)
        → (get_or (set puts k u) j 0 ≡ get_or bases j 0 + get_or ps j 0 % get_or caps j 0) × (get_or (set gets k g) j 0 ≡ get_or bases j 0 + get_or ps (suc j) 0 % get_or caps j 0)
    go j h m z (yes d) =
        let z2 = rw d at z in
        let s : get_or ps (k + 1) 0 + held ≡ get_or ps k 0 = omega arith in
        rw (d, get_or-set_same puts k u 0 (omega (arith, r.puts_there)), get_or-set_same gets k g 0 (omega (arith, r.gets_there))) (rw s at (eu z2), rw add-one at (eg z2))
    go j h m z (no d) = rw (get_or-set_other puts k j u 0 d, get_or-set_other gets k j g 0 d) (r.found j (omega arith) m z)
