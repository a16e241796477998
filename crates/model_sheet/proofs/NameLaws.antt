-- Laws of the windows that have a name.
use Prim.Native.Nat.{ℕ, zero, suc, ◌+◌, ◌≤◌}
use mathlib.Core.List.{List, [], ◌∷◌, map}
use mathlib.Core.Path.{◌≡◌}
use native.Mathlib.Omega.{arith}
use lib.IntN.{ℤ}
use lib.ListN.{length, length-map}
use Rattle.model.specs.Values.{blank_window, with_reference}
use Rattle.model_sheet.specs.NamedWindows.{windows, named_of, entries_of, with_references, window_named}
use Rattle.model.specs.declared.Window.{Window}

-- A byte is no name, or one of the five.
pub by_name_lem : (P : ℕ → Type 0) → P 0 → P 1 → P 2 → P 3 → P 4 → P 5 → ((n : ℕ) → P (suc (suc (suc (suc (suc (suc n))))))) → (name : ℕ) → P name
by_name_lem P p0 p1 p2 p3 p4 p5 p6 zero = p0
by_name_lem P p0 p1 p2 p3 p4 p5 p6 (suc zero) = p1
by_name_lem P p0 p1 p2 p3 p4 p5 p6 (suc (suc zero)) = p2
by_name_lem P p0 p1 p2 p3 p4 p5 p6 (suc (suc (suc zero))) = p3
by_name_lem P p0 p1 p2 p3 p4 p5 p6 (suc (suc (suc (suc zero)))) = p4
by_name_lem P p0 p1 p2 p3 p4 p5 p6 (suc (suc (suc (suc (suc zero))))) = p5
by_name_lem P p0 p1 p2 p3 p4 p5 p6 (suc (suc (suc (suc (suc (suc n)))))) = p6 n

-- How many references there are.
pub count_references : (w : Window) (es : List (List ℤ)) → (with_references w es).count ≡ w.count + length es
unfolding with_references
count_references w [] = omega arith
count_references w (e ∷ es) = omega (arith, count_references (with_reference w e) es)

few_triples : (name : ℕ) → length (named_of name).triples ≤ 19
unfolding named_of windows
few_triples =
    by_name_lem (λ name. length (named_of name).triples ≤ 19) (omega arith) (omega arith) (omega arith) (omega arith) (omega arith) (omega arith) (λ n. omega arith)

pub few_references : (name : ℕ) → (window_named name).count ≤ 32
unfolding window_named
few_references name =
    omega (arith, count_references blank_window (map entries_of (named_of name).triples), length-map (named_of name).triples entries_of, few_triples name)
