use Rattle.std.proofs.Common.{ℕ, ◌≡◌, List, subst, arith}
use Rattle.std.specs.Prelude.{Option, Some}
use Rattle.model.specs.declared.Arriving.{Arriving}
use Rattle.program_laws.specs.Loops.{Taken, TakenIn}
use Rattle.program_laws.proofs.Loops.{plan_due}
use Rattle.plan.proofs.main.Goals as goal

-- Where no read failed.
all_taken : (o : Option Arriving) (a : Arriving) (rows : List ℕ) → o ≡ Some a → TakenIn o rows
    → Taken (record { sheet = a; rows = rows })
all_taken o a rows e t = subst (λ (x : Option Arriving). TakenIn x rows) e t

pub write_due-requires : goal.write_due-requires
write_due-requires c =
    plan_due c.in-Some.arriving _ (all_taken _ _ _ c.in-Some.is c.receive.ensures) _ (omega arith) _ _ c.plan_answer-bytes.ensures.text_after
