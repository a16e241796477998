-- The characters through the first LF: a line and its LF, or all of an open line.
use Prim.Native.Nat.{ℕ, suc, ◌≤◌, ◌<◌}
use mathlib.Core.Bool.{Bool, true, false}
use mathlib.Core.List.{List, [], ◌∷◌}
use mathlib.Core.Path.{◌≡◌, refl, ap}
use native.Mathlib.Omega.{arith}
use lib.ListN.{length}
use borrow.Author.Tests.{eq-eqb, ne_eqb, lt-ltb}
use Rattle.model_sheet.specs.Lines.{line_feed, line_of}
use Rattle.model_sheet.specs.Arriving.{through_feed}
use Rattle.sheet_laws.proofs.Cases.{by_eq}
use Rattle.program_intake.specs.Taken.{started}

-- Where the first character is no LF.
module _ (c : ℕ) (cs : List ℕ) (n : c ≡ line_feed → ⊥) where
  pub ends_behind : length (line_of (c ∷ cs)) < length (c ∷ cs) → length (line_of cs) < length cs
  unfolding line_of
  ends_behind h = let t = rw (ne_eqb _ _ n) at h in omega arith

  pub open_behind : length (c ∷ cs) ≤ length (line_of (c ∷ cs)) → length cs ≤ length (line_of cs)
  unfolding line_of
  open_behind h = let t = rw (ne_eqb _ _ n) at h in omega arith

-- Where it is one.
pub ends_here : (c : ℕ) (cs : List ℕ) → c ≡ line_feed → length (c ∷ cs) ≤ length (line_of (c ∷ cs)) → ⊥
unfolding line_of
ends_here c cs e h = let t = rw (eq-eqb _ _ e) at h in omega arith

pub through_ended : (s : List ℕ) → length (line_of s) < length s → length (through_feed s) ≡ suc (length (line_of s))
unfolding through_feed line_of
through_ended [] h = absurd (omega arith)
through_ended (c ∷ cs) h =
    by_eq c line_feed (λ e. rw (eq-eqb _ _ e)) (λ n. rw (ne_eqb _ _ n) (ap suc (through_ended cs (ends_behind c cs n h))))

pub through_open : (s : List ℕ) → length s ≤ length (line_of s) → length (through_feed s) ≡ length (line_of s)
unfolding through_feed line_of
through_open [] h = omega arith
through_open (c ∷ cs) h =
    by_eq c line_feed (λ e. absurd (ends_here c cs e h)) (λ n. rw (ne_eqb _ _ n) (ap suc (through_open cs (open_behind c cs n h))))

pub through_some : (s : List ℕ) → 0 < length s → 0 < length (through_feed s)
unfolding through_feed
through_some [] h = absurd (omega arith)
through_some (c ∷ cs) h = by_eq c line_feed (λ e. rw (eq-eqb _ _ e) (omega arith)) (λ n. rw (ne_eqb _ _ n) (omega arith))

-- Whether a line has a character, once none or some were added.
pub started_none : (begun : Bool) → begun ≡ started begun 0
started_none true = refl
started_none false = refl

pub started_some : (begun : Bool) (n : ℕ) → true ≡ started begun (suc n)
started_some true n = refl
started_some false n = rw (lt-ltb 0 (suc n) (omega arith))
