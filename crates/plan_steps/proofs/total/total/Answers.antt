use Prim.Native.Nat.{ℕ, zero, suc, ◌+◌, ◌≤◌}
use mathlib.Core.List.{List, [], ◌∷◌}
use mathlib.Core.Path.{◌≡◌, refl, sym, ◌∙◌, ap}
use native.Mathlib.Omega.{arith}
use lib.ListN.{length, take}
use Rattle.std.specs.Prelude.{sum}
use Rattle.std.proofs.lemmas.List.Sums.{sum_by-cons}
use Rattle.model.specs.Lists.{tabulate, sum as sum_of}
use Rattle.geometry.specs.Parts.{number_at}
use Rattle.grid_laws.proofs.CheckLaws.{few_references}
use Rattle.plan_steps.specs.Totals.{total_in}
use Rattle.plan_steps.proofs.StepLaws.{total_in_lem}
use Rattle.plan_steps.proofs.total.total.Goals as goal

-- The sum of the first n numbers.
sum_front : (n : ℕ) (xs : List ℕ) → n ≤ length xs → sum (take n xs) ≡ sum_of (tabulate n (number_at xs))
unfolding sum_of tabulate
sum_front zero xs h = refl
sum_front (suc n) [] h = absurd (omega arith)
sum_front (suc n) (x ∷ xs) h = sum_by-cons (λ y. y) x (take n xs) ∙ ap (λ s. x + s) (sum_front n xs (omega arith))

pub returns-then-bad_count : goal.returns-then-bad_count
unfolding total_in
returns-then-bad_count c = rw (sym c.bad_count.ensures ∙ c.if-bad_count.true)

pub returns : goal.returns
returns c =
    let good = sym c.bad_count.ensures ∙ c.if-bad_count.false in
    c.sum_of.ensures ∙ sum_front _ _ (omega (arith, few_references _ good)) ∙ sym (total_in_lem _ _ good)
