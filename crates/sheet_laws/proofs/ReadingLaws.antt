-- How reading goes on from a place of the sheet: one law for each way.
use Prim.Native.Nat.{ℕ, suc, ◌+◌, ◌≤◌, ◌<◌}
use mathlib.Core.Bool.{Bool, true, false}
use mathlib.Core.List.{List, ◌∷◌}
use mathlib.Core.Path.{◌≡◌, sym, ap, ◌∙◌}
use native.Mathlib.Omega.{arith}
use lib.Dec.{ltb}
use lib.ListN.{length, drop, length-drop, drop_of_length-le}
use lib.Seq.{drop-drop}
use borrow.Author.Tests.{lt-ltb, le-ltb}
use Rattle.model.specs.declared.Reading.{Reading}
use Rattle.model.specs.declared.LineStep.{LineStep}
use Rattle.model.specs.declared.Refusal.{Refusal}
use Rattle.model.specs.declared.Refusal.TheVariants as refusal
use Rattle.std.specs.Prelude.{Ok, Err}
use Rattle.model_sheet.specs.Lines.{Line, line_of, lines_of}
use Rattle.model_sheet.specs.Frames.{seen_of, empty_frame, feeds, shown}
use Rattle.model_sheet.specs.Reading.{step_of, read_lines}
use Rattle.sheet_laws.proofs.LineLaws.{first_line, first_line_lem}
use Rattle.sheet_laws.proofs.FixedMemory.{Bounded, fixed_memory, no_line_feed}

-- A line as a step reads it.
abbrev pub step_at : Bool → (rows : List ℕ) → Reading → Line → LineStep
step_at chain_sheet rows r l = step_of chain_sheet rows r (seen_of l.ended l.chars)

-- A line that is turned back, and one that is not.
module _ (chain_sheet : Bool) (rows : List ℕ) (r : Reading) (l : Line) (ls : List Line) where
  pub line_stops : (x : Refusal) → (step_at chain_sheet rows r l).verdict ≡ Err x → step_at chain_sheet rows r l ≡ read_lines chain_sheet rows r (l ∷ ls)
  unfolding read_lines
  line_stops x e = rw e

  pub line_goes : (step_at chain_sheet rows r l).verdict ≡ Ok tt → read_lines chain_sheet rows (step_at chain_sheet rows r l).reading ls ≡ read_lines chain_sheet rows r (l ∷ ls)
  unfolding read_lines
  line_goes e = rw e

-- What the lines from a place of the sheet on give.
abbrev pub read_from : Bool → (rows : List ℕ) → (sheet : List ℕ) → Reading → ℕ → LineStep
read_from chain_sheet rows sheet r at = read_lines chain_sheet rows r (lines_of (drop at sheet))

module _ (chain_sheet : Bool) (rows : List ℕ) (s : List ℕ) (r : Reading) (at : ℕ) where
  pub read_to_end : length s ≤ at → record { verdict = Ok tt; reading = r } ≡ read_from chain_sheet rows s r at
  unfolding read_lines lines_of
  read_to_end h = rw (drop_of_length-le s {i = at} h)

  module _ (more : at < length s) where
    abbrev rest : List ℕ
    rest = drop at s

    abbrev next : ℕ
    next = at + length (line_of rest) + 1

    split : lines_of rest ≡ first_line rest ∷ lines_of (drop next s)
    split =
        let e : at + suc (length (line_of rest)) ≡ next = omega arith in
        first_line_lem rest (omega (arith, length-drop at s))
        ∙ ap (λ t. first_line rest ∷ lines_of t) (drop-drop (suc (length (line_of rest))) at s ∙ ap (λ i. drop i s) e)

    -- The line has no LF.
    pub last_unended : at + length (line_of rest) ≡ length s → record { verdict = Err refusal.Malformed; reading = r } ≡ read_from chain_sheet rows s r at
    last_unended e =
        let q : ltb (length (line_of rest)) (length rest) ≡ false = le-ltb (length (line_of rest)) (length rest) (omega (arith, length-drop at s)) in
        let t : step_at chain_sheet rows r (first_line rest) ≡ record { verdict = Err refusal.Malformed; reading = r } =
        ap (λ b. step_of chain_sheet rows r (seen_of b (line_of rest))) q ∙ no_line_feed chain_sheet rows r (line_of rest) in
        sym t
        ∙ line_stops chain_sheet rows r (first_line rest) (lines_of (drop next s)) refusal.Malformed (ap (λ u. u.verdict) t)
        ∙ ap (read_lines chain_sheet rows r) (sym split)

    -- The line has its LF, and was decoded in fixed memory.
    module _ (ended : at + length (line_of rest) < length s) (few : Bounded r)
        (st : LineStep) (is : st ≡ step_of chain_sheet rows r (shown (feeds empty_frame (line_of rest)))) where
      same : st ≡ step_at chain_sheet rows r (first_line rest)
      same =
          let q : ltb (length (line_of rest)) (length rest) ≡ true = lt-ltb (length (line_of rest)) (length rest) (omega (arith, length-drop at s)) in
          is ∙ fixed_memory chain_sheet rows r (line_of rest) few ∙ ap (λ b. step_of chain_sheet rows r (seen_of b (line_of rest))) (sym q)

      pub turned_back_lem : (x : Refusal) → st.verdict ≡ Err x → st ≡ read_from chain_sheet rows s r at
      turned_back_lem x e =
          same
          ∙ line_stops chain_sheet rows r (first_line rest) (lines_of (drop next s)) x (ap (λ t. t.verdict) (sym same) ∙ e)
          ∙ ap (read_lines chain_sheet rows r) (sym split)

      pub onward : st.verdict ≡ Ok tt → read_from chain_sheet rows s st.reading next ≡ read_from chain_sheet rows s r at
      onward e =
          ap (λ t. read_from chain_sheet rows s t.reading next) same
          ∙ line_goes chain_sheet rows r (first_line rest) (lines_of (drop next s)) (ap (λ t. t.verdict) (sym same) ∙ e)
          ∙ ap (read_lines chain_sheet rows r) (sym split)
