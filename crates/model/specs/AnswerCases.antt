-- The numbers of answers, as the documents have them: one table, computed.
use Rattle.std.specs.Prelude.{ℕ, List, [], ◌∷◌, map, ◌≡◌, refl}
use Rattle.model.specs.declared.Counts.{Counts}
use Rattle.model.specs.declared.Outcome.{Outcome}
use Rattle.model.specs.declared.Outcome.TheVariants as outcome
use Rattle.model.specs.declared.Refusal.{Refusal}
use Rattle.model.specs.declared.Refusal.TheVariants as refusal
use Rattle.model.specs.Answers.{number_of, outcome_case, outcome_counts}

pub record Numbered : Type 0 where
  pub refusal : Refusal
  pub number : ℕ

abbrev says : ℕ → Refusal → Numbered
says n r = record { refusal = r; number = n }

unfoldable pub refusals : List Numbered
refusals =
    -- document 01, "Turned back on account of the input"
    says 1 refusal.Malformed
    ∷ says 2 refusal.Misplaced
    ∷ says 3 refusal.BadGrid
    ∷ says 4 refusal.BadCount
    ∷ says 5 refusal.EqualOffsets
    ∷ says 6 refusal.NoIteration
    ∷ says 7 refusal.NoCentre
    ∷ says 8 refusal.BadFactor
    ∷ says 9 refusal.TooLarge
    -- "Turned back on account of the state": the store; the counters; the output
    ∷ says 10 refusal.ShortStore
    ∷ says 11 refusal.BadState
    ∷ says 12 refusal.ShortOutput
    -- document 02, requests 1, 2, 4 and 5
    ∷ says 13 refusal.BadName
    ∷ says 14 refusal.BadOrder
    ∷ says 15 refusal.BadBox
    ∷ says 16 refusal.BadRows
    ∷ []

-- Some counts that differ.
abbrev counts : Counts
counts = record { cells = 7; firings = 8; clocks = 9 }

-- "The outcome is one of five", in the order of their list; the C header has the same numbers.
unfoldable pub outcomes : List Outcome
outcomes =
    outcome.Done counts
    ∷ outcome.Spent counts
    ∷ outcome.Starved counts
    ∷ outcome.Stalled counts
    ∷ outcome.Full counts
    ∷ []

pub table : (map (λ n. number_of n.refusal) refusals ≡ map (λ n. n.number) refusals)
    × (map outcome_case outcomes ≡ 0 ∷ 1 ∷ 2 ∷ 3 ∷ 4 ∷ [])
    × (map outcome_counts outcomes ≡ counts ∷ counts ∷ counts ∷ counts ∷ counts ∷ [])
unfolding refusals outcomes number_of outcome_case outcome_counts
table = (refl, refl, refl)
