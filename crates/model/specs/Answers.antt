-- The number, of documents 01 and 02, and the values of each case of an answer.
use Rattle.std.specs.Prelude.{ℕ, Bool, cond, List, [], ◌∷◌, ⊤, Result, Ok, Err}
use Rattle.model.specs.declared.Counts.{Counts}
use Rattle.model.specs.declared.Outcome.{Outcome}
use Rattle.model.specs.declared.Outcome.TheVariants as outcome
use Rattle.model.specs.declared.Refusal.{Refusal}
use Rattle.model.specs.declared.Refusal.TheVariants as refusal

-- What judging answers, and what a run call answers: how it ended, or why it is turned back.
abbrev pub Verdict : Type 0
Verdict = Result ⊤ Refusal

abbrev pub Answer : Type 0
Answer = Result Outcome Refusal

-- "Each answer is the number alone."
unfoldable pub number_of : Refusal → ℕ
number_of refusal.Malformed = 1
number_of refusal.Misplaced = 2
number_of refusal.BadGrid = 3
number_of refusal.BadCount = 4
number_of refusal.EqualOffsets = 5
number_of refusal.NoIteration = 6
number_of refusal.NoCentre = 7
number_of refusal.BadFactor = 8
number_of refusal.TooLarge = 9
number_of refusal.ShortStore = 10
number_of refusal.BadState = 11
number_of refusal.ShortOutput = 12
number_of refusal.BadName = 13
number_of refusal.BadOrder = 14
number_of refusal.BadBox = 15
number_of refusal.BadRows = 16

-- The number that a verdict answers; 0 where nothing is turned back.
unfoldable pub verdict_number : Verdict → ℕ
unfolding number_of
verdict_number (Ok _) = 0
verdict_number (Err r) = number_of r

-- The place of an outcome in the list of document 01, "Running": 0 Done, 1 Spent, 2 Starved, 3 Stalled, 4 Full; and its counts.
unfoldable pub outcome_case : Outcome → ℕ
outcome_case (outcome.Done c) = 0
outcome_case (outcome.Spent c) = 1
outcome_case (outcome.Starved c) = 2
outcome_case (outcome.Stalled c) = 3
outcome_case (outcome.Full c) = 4

-- The byte of the `11` line: "00 done, 01 stalled, 02 starved". A run of the program ends in no other outcome.
abbrev pub done_byte : ℕ
done_byte = 0

abbrev pub stalled_byte : ℕ
stalled_byte = 1

abbrev pub starved_byte : ℕ
starved_byte = 2

unfoldable pub outcome_counts : Outcome → Counts
outcome_counts (outcome.Done c) = c
outcome_counts (outcome.Spent c) = c
outcome_counts (outcome.Starved c) = c
outcome_counts (outcome.Stalled c) = c
outcome_counts (outcome.Full c) = c

abbrev pub no_counts : Counts
no_counts = record { cells = 0; firings = 0; clocks = 0 }

-- "cells taken, firings and clocks are 0" after a refusal.
unfoldable pub answer_counts : Answer → Counts
unfolding outcome_counts
answer_counts (Ok o) = outcome_counts o
answer_counts (Err r) = no_counts

-- 0 for a call that is not refused.
unfoldable pub answer_number : Answer → ℕ
unfolding number_of
answer_number (Ok o) = 0
answer_number (Err r) = number_of r

-- A condition, and the refusal that it answers.
pub record Check : Type 0 where
  pub holds : Bool
  pub refusal : Refusal

abbrev pub check : Bool → Refusal → Check
check b r = record { holds = b; refusal = r }

-- Checks in their order: the first whose condition holds answers.
unfoldable pub first_of : List Check → Verdict
first_of [] = Ok tt
first_of (c ∷ cs) = cond c.holds (Err c.refusal) (first_of cs)

-- By what is answered, or by why it is turned back.
abbrev pub by_answer : {A B : Type 0} → Result A Refusal → (A → B) → (Refusal → B) → B
by_answer (Ok a) f g = f a
by_answer (Err r) f g = g r

-- The verdict that an answer holds.
abbrev pub verdict_of : {A : Type 0} → Result A Refusal → Verdict
verdict_of (Ok a) = Ok tt
verdict_of (Err r) = Err r

abbrev pub by_verdict : {A : Type 0} → Verdict → A → (Refusal → A) → A
by_verdict (Ok _) a f = a
by_verdict (Err r) a f = f r
