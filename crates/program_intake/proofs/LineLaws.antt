-- A line taken from a block: one law for each way.
use Prim.Native.Nat.{ℕ, ◌+◌, ◌≤◌, ◌<◌}
use mathlib.Core.Bool.{Bool}
use mathlib.Core.List.{List}
use mathlib.Core.Path.{◌≡◌, sym, ap, ◌∙◌}
use native.Mathlib.Omega.{arith}
use lib.ListN.{length, drop, length-drop, drop_of_length-le}
use lib.Seq.{drop-drop}
use Rattle.model.specs.declared.Arriving.{Arriving}
use Rattle.model.specs.declared.Frame.{Frame}
use Rattle.model.specs.declared.Refusal.{Refusal}
use Rattle.std.specs.Prelude.{Ok, Err}
use Rattle.model_sheet.specs.Lines.{line_of}
use Rattle.model_sheet.specs.Frames.{feeds, shown}
use Rattle.model_sheet.specs.Reading.{step_of}
use Rattle.model_sheet.specs.Arriving.{closed, Arrived, arrive, through_feed}
use Rattle.sheet_trips.proofs.AsItArrives.{stays}
use Rattle.program_intake.specs.declared.LineTaken.{LineTaken}
use Rattle.program_intake.specs.Taken.{longer, numbers_taken, beside, TookLine, took_line, line_taken}
use Rattle.program_intake.proofs.PieceLaws.{through_ended, through_open, through_some}
use Rattle.program_intake.proofs.ArrivingLaws.{midway, line_ends, line_stays_open, arrive_on}

-- What a line of a block leaves, by what arrived and where it ends.
made : (chained : Bool) (a : Arrived) (b : Arriving) (rows' block : List ℕ) (at end : ℕ)
    → beside b rows' ≡ arrive chained a (through_feed (drop at block)) → end ≡ at + length (through_feed (drop at block))
    → took_line (record { arriving = b; at = end }) rows' ≡ line_taken chained a block at
unfolding line_taken
made chained a b rows' block at end p q =
    ap (λ (t : Arrived). took_line (record { arriving = t.sheet; at = end }) t.rows) p
    ∙ ap (λ k. took_line (record { arriving = (arrive chained a (through_feed (drop at block))).sheet; at = k }) (arrive chained a (through_feed (drop at block))).rows) q

-- Where nothing was refused.
accepted : (a : Arriving) → a.verdict ≡ Ok tt → a ≡ midway a.reading a.frame a.begun
accepted a e = ap (λ v. record { verdict = v; reading = a.reading; frame = a.frame; begun = a.begun }) e

module _ (chained : Bool) (a : Arriving) (rows block : List ℕ) (at : ℕ) (piece : List ℕ) (is : piece ≡ line_of (drop at block)) where
  abbrev rest : List ℕ
  rest = drop at block

  -- All that arrives, by what it makes of an open line; and that it is nothing after a refusal.
  all_arrives : a.verdict ≡ Ok tt → (t : Arrived)
      → arrive chained (beside (midway a.reading a.frame a.begun) rows) (through_feed rest) ≡ t → t ≡ arrive chained (beside a rows) (through_feed rest)
  all_arrives e t p = sym p ∙ ap (λ g. arrive chained (beside g rows) (through_feed rest)) (sym (accepted a e))

  none_arrives : (x : Refusal) → a.verdict ≡ Err x → beside a rows ≡ arrive chained (beside a rows) (through_feed rest)
  none_arrives x e = sym (stays chained (beside a rows) x (through_feed rest) e)

  -- The line has its LF in the block.
  module _ (short : at + length piece < length block) where
    ended : length (line_of rest) < length rest
    ended = omega (arith, ap length is, length-drop at block)

    behind : at + length piece + 1 ≡ at + length (through_feed rest)
    behind = omega (arith, ap length is, through_ended rest ended)

    pub ended_refused : (x : Refusal) → a.verdict ≡ Err x
        → took_line (record { arriving = a; at = at + length piece + 1 }) rows ≡ line_taken chained (beside a rows) block at
    ended_refused x e = made chained _ a rows block at _ (none_arrives x e) behind

    pub ended_accepted : a.verdict ≡ Ok tt → (rows' : List ℕ) → rows' ≡ numbers_taken a.reading.last rows a.frame piece
        → (f : Frame) → f ≡ feeds a.frame piece
        → (b : Arriving) → b ≡ closed (step_of chained rows' a.reading (shown f))
        → took_line (record { arriving = b; at = at + length piece + 1 }) rows' ≡ line_taken chained (beside a rows) block at
    ended_accepted e rows' m f q b t =
        made chained _ b rows' block at _
        (ap (λ g. beside g rows') t
        ∙ ap (λ g. beside (closed (step_of chained rows' a.reading (shown g))) rows') (q ∙ ap (feeds a.frame) is)
        ∙ ap (λ k. beside (closed (step_of chained k a.reading (shown (feeds a.frame (line_of rest))))) k)
        (m ∙ ap (numbers_taken a.reading.last rows a.frame) is)
        ∙ all_arrives e _ (line_ends chained a.reading rest rows a.frame a.begun ended))
        behind

  -- It has none.
  module _ (all : length block ≤ at + length piece) where
    unended : length rest ≤ length (line_of rest)
    unended = omega (arith, ap length is, length-drop at block)

    to_end : at + length piece ≡ at + length (through_feed rest)
    to_end = omega (arith, ap length is, through_open rest unended)

    pub open_refused : (x : Refusal) → a.verdict ≡ Err x
        → took_line (record { arriving = a; at = at + length piece }) rows ≡ line_taken chained (beside a rows) block at
    open_refused x e = made chained _ a rows block at _ (none_arrives x e) to_end

    pub open_accepted : a.verdict ≡ Ok tt → (rows' : List ℕ) → rows' ≡ numbers_taken a.reading.last rows a.frame piece
        → (f : Frame) → f ≡ feeds a.frame piece
        → (b : Arriving) → b ≡ longer a f (length piece)
        → took_line (record { arriving = b; at = at + length piece }) rows' ≡ line_taken chained (beside a rows) block at
    open_accepted e rows' m f q b t =
        made chained _ b rows' block at _
        (ap (λ g. beside g rows') t
        ∙ ap (λ g. beside (longer a g (length piece)) rows') (q ∙ ap (feeds a.frame) is)
        ∙ ap (λ p. beside (longer a (feeds a.frame (line_of rest)) (length p)) rows') is
        ∙ ap (beside (longer a (feeds a.frame (line_of rest)) (length (line_of rest)))) (m ∙ ap (numbers_taken a.reading.last rows a.frame) is)
        ∙ all_arrives e _ (line_stays_open chained a.reading rest rows a.frame a.begun unended))
        to_end

-- The block behind the line, and that there is less of it.
module _ (chained : Bool) (a : Arrived) (block : List ℕ) (at : ℕ) (t : LineTaken) (rows' : List ℕ) (is : took_line t rows' ≡ line_taken chained a block at) where
  pub goes_on_lem : arrive chained (beside t.arriving rows') (drop t.at block) ≡ arrive chained a (drop at block)
  unfolding line_taken
  goes_on_lem =
      ap (λ (k : TookLine). arrive chained (beside k.answer.arriving k.rows) (drop k.answer.at block)) is
      ∙ ap (arrive chained (arrive chained a (through_feed (drop at block)))) (sym (drop-drop (length (through_feed (drop at block))) at block))
      ∙ arrive_on chained (drop at block) a

  pub moves : at < length block → at < t.at
  unfolding line_taken
  moves h =
      let e : t.at ≡ at + length (through_feed (drop at block)) = ap (λ (k : TookLine). k.answer.at) is in
      omega (arith, e, through_some (drop at block) (omega (arith, length-drop at block)))

-- At the block's end.
pub at_end_lem : (chained : Bool) (a : Arrived) (block : List ℕ) (at : ℕ) → length block ≤ at → a ≡ arrive chained a (drop at block)
unfolding arrive
at_end_lem chained a block at h = rw (drop_of_length-le block {i = at} h)
