-- The verdict on a raw chain, the verdict on two windows and their kernels, and which of the two comes first.
use Rattle.std.specs.Prelude.{ℕ, cond, ◌||◌, List, [], ◌∷◌, ltb, length, Ok, Err}
use Rattle.model.specs.Lists.{any}
use Rattle.model.specs.Answers.{Verdict, Check, check}
use Rattle.model.specs.Judging.{bad_count, lacks_centre, bad_factor}
use Rattle.model.specs.declared.Refusal.{Refusal}
use Rattle.model.specs.declared.Refusal.TheVariants as refusal
use Rattle.model.specs.declared.Side.{Side}
use Rattle.model.specs.declared.Window.{Window}
use Rattle.windows.specs.Windows.{repeats_in, has_centre}
use Rattle.pair_windows.specs.Unions.{union_in, not_union_in}

-- Where a number stands in the order of a value's checks; 9 where it is none of these, and where nothing is turned back.
abbrev pub place_in : Refusal → ℕ
place_in refusal.Malformed = 9
place_in refusal.Misplaced = 9
place_in refusal.BadGrid = 0
place_in refusal.BadCount = 1
place_in refusal.EqualOffsets = 2
place_in refusal.NoIteration = 3
place_in refusal.NoCentre = 5
place_in refusal.BadFactor = 6
place_in refusal.TooLarge = 7
place_in refusal.ShortStore = 9
place_in refusal.BadState = 9
place_in refusal.ShortOutput = 9
place_in refusal.BadName = 9
place_in refusal.BadOrder = 8
place_in refusal.BadBox = 4
place_in refusal.BadRows = 0

abbrev pub place_of : Verdict → ℕ
place_of (Ok _) = 9
place_of (Err x) = place_in x

-- The verdict that comes first; of two at one place the first of them.
abbrev pub earlier_of : (v w : Verdict) → Verdict
earlier_of v w = cond (ltb (place_of w) (place_of v)) w v

-- Those of `pair_checks` that look at the windows and kernels of the two, on any value: 4, 5, 7, 8 and 14.
unfoldable pub side_checks : (dims : ℕ) → (chain : Window) → Side → Side → List Check
side_checks dims c x y =
    let a = x.window in
    let b = y.window in
    check (any bad_count (c.count ∷ a.count ∷ b.count ∷ length (union_in dims a b) ∷ [])) refusal.BadCount
    ∷ check (any (repeats_in dims) (a ∷ b ∷ [])) refusal.EqualOffsets
    ∷ check (lacks_centre x.kernel (has_centre dims a) || lacks_centre y.kernel (has_centre dims b)) refusal.NoCentre
    ∷ check (bad_factor x.kernel || bad_factor y.kernel) refusal.BadFactor
    ∷ check (not_union_in dims c a b) refusal.BadOrder
    ∷ []
