-- Cells laid into the places lent, from place `count` on, read from place p of a block on: one law for each way.
use Prim.Native.Nat.{ℕ, suc, ◌+◌, ◌-◌, ◌≤◌, ◌<◌}
use mathlib.Core.Bool.{Bool, false}
use mathlib.Core.List.{List, ◌++◌, append_assoc}
use mathlib.Core.Path.{◌≡◌, sym, ap, ◌∙◌}
use native.Mathlib.Nat.{zero-add, sub-zero}
use native.Mathlib.Numerals.{add-one}
use native.Mathlib.Omega.{arith}
use lib.ListN.{length, take, drop, set, length-drop, length-set, take-append-drop}
use lib.Seq.{drop-drop, take-suc-set, drop-set-lt}
use Rattle.model.specs.declared.CellLine.{CellLine}
use Rattle.model.specs.declared.Frame.{Frame}
use Rattle.model.specs.declared.Refusal.{Refusal}
use Rattle.std.specs.Prelude.{Ok, Err}
use Rattle.model.specs.Answers.{Verdict}
use Rattle.model_sheet.specs.Lines.{line_of}
use Rattle.model_sheet.specs.Numbers.{word_at}
use Rattle.model_sheet.specs.Frames.{empty_frame, feeds, shown}
use Rattle.model_sheet.specs.Reading.{cell_verdict}
use Rattle.model_sheet.specs.Arriving.{new_line, CellsRead, read_cells}
use Rattle.program_intake.specs.Taken.{started}
use Rattle.program_cells.specs.Cells.{Took, took, cells_taken}
use Rattle.program_cells.proofs.CellLaws.{mid_line, turned_line, no_cell, one_cell, cell_line_open, cell_line_refused, cell_line_accepted, none_refused}

-- What was read from place p on, laid.
abbrev laid : (p count : ℕ) → List ℕ → CellsRead → Took
laid p count cells r =
    took (record { line = r.line; at = p + r.looked; count = count + length r.cells })
    (take count cells ++ (r.cells ++ drop (count + length r.cells) cells))

laid_none : (p count : ℕ) (cells : List ℕ) (l : CellLine) (n : ℕ) → took (record { line = l; at = p + n; count = count }) cells ≡ laid p count cells (no_cell l n)
laid_none p count cells l n =
    let e : count + 0 ≡ count = omega arith in
    rw (e, take-append-drop)

laid_one : (p count : ℕ) (cells : List ℕ) (w n : ℕ) (r : CellsRead) → count < length cells
    → laid (p + n + 1) (count + 1) (set cells count w) r ≡ laid p count cells (one_cell w n r)
laid_one p count cells w n r h =
    let k = length r.cells in
    let a : p + n + 1 + r.looked ≡ p + (n + r.looked + 1) = omega arith in
    let b : count + 1 + k ≡ count + suc k = omega arith in
    let past : count < count + suc k = omega arith in
    rw (a, b, add-one count, take-suc-set cells count w h, drop-set-lt (count + suc k) cells count w past, append_assoc)

-- All that is left to take.
abbrev pub left_of : Frame → Bool → (block : List ℕ) → (p count : ℕ) → List ℕ → Took
left_of f begun block p count cells = laid p count cells (read_cells (length cells - count) (mid_line f begun) (drop p block))

-- At the start it is all.
pub left_all_lem : (l : CellLine) (block : List ℕ) (at : ℕ) (cells : List ℕ) → l.verdict ≡ Ok tt
    → left_of l.frame l.begun block at 0 cells ≡ cells_taken l block at cells
unfolding cells_taken
left_all_lem l block at cells e =
    let r : CellLine → CellsRead = λ t. read_cells (length cells) t (drop at block) in
    ap (λ n. laid at 0 cells (read_cells n (mid_line l.frame l.begun) (drop at block))) (sub-zero (length cells))
    ∙ ap (λ v. laid at 0 cells (r (record { verdict = v; frame = l.frame; begun = l.begun }))) (sym e)
    ∙ ap (λ n. took (record { line = (r l).line; at = at + (r l).looked; count = n }) ((r l).cells ++ drop n cells)) (zero-add (length (r l).cells))

module _ (f : Frame) (begun : Bool) (block : List ℕ) (p count : ℕ) (cells : List ℕ) where
  -- No place is left.
  pub no_room : count ≡ length cells → took (record { line = mid_line f begun; at = p; count = count }) cells ≡ left_of f begun block p count cells
  unfolding read_cells
  no_room e =
      let n : p ≡ p + 0 = omega arith in
      let z : 0 ≡ length cells - count = omega arith in
      ap (λ k. took (record { line = mid_line f begun; at = k; count = count }) cells) n
      ∙ laid_none p count cells (mid_line f begun) 0
      ∙ ap (λ k. laid p count cells (read_cells k (mid_line f begun) (drop p block))) z

  module _ (free : count < length cells) (piece : List ℕ) (is : piece ≡ line_of (drop p block)) (g : Frame) (fs : g ≡ feeds f piece) where
    abbrev rest : List ℕ
    rest = drop p block

    left : ℕ
    left = length cells - (count + 1)

    read : (r : CellsRead) → read_cells (suc left) (mid_line f begun) rest ≡ r → laid p count cells r ≡ left_of f begun block p count cells
    unfolding left
    read r q =
        let one : suc (length cells - (count + 1)) ≡ length cells - count = omega arith in
        ap (laid p count cells) (sym q) ∙ ap (λ n. laid p count cells (read_cells n (mid_line f begun) rest)) one

    grown : g ≡ feeds f (line_of rest)
    grown = fs ∙ ap (feeds f) is

    -- The line has no LF in the block.
    pub room_open : length block ≤ p + length piece → (b : Bool) → b ≡ started begun (length piece)
        → took (record { line = mid_line g b; at = p + length piece; count = count }) cells ≡ left_of f begun block p count cells
    room_open h b q =
        let unended : length rest ≤ length (line_of rest) = omega (arith, ap length is, length-drop p block) in
        rw (q, grown, is)
        (laid_none p count cells _ (length (line_of rest)) ∙ read _ (cell_line_open left rest f begun unended))

    -- It has its LF.
    module _ (short : p + length piece < length block) where
      ended : length (line_of rest) < length rest
      ended = omega (arith, ap length is, length-drop p block)

      pub room_refused : (v : Verdict) → v ≡ cell_verdict (shown g) → (x : Refusal) → v ≡ Err x → (e : Frame) → e ≡ empty_frame
          → took (record { line = record { verdict = Err x; frame = e; begun = false }; at = p + length piece + 1; count = count }) cells
          ≡ left_of f begun block p count cells
      room_refused v vs x t e q =
          let turned = ap (λ k. cell_verdict (shown k)) (sym grown) ∙ sym vs ∙ t in
          let n : p + length piece + 1 ≡ p + suc (length (line_of rest)) = omega (arith, ap length is) in
          rw (q, n)
          (laid_none p count cells (turned_line x) _ ∙ read _ (cell_line_refused left x rest f begun ended turned))

      pub room_accepted : (v : Verdict) → v ≡ cell_verdict (shown g) → v ≡ Ok tt → (e : Frame) → e ≡ empty_frame → (w : ℕ) → w ≡ word_at g.first 1
          → left_of e false block (p + length piece + 1) (count + 1) (set cells count w) ≡ left_of f begun block p count cells
      unfolding left
      room_accepted v vs t e q w ws =
          let accepted = ap (λ k. cell_verdict (shown k)) (sym grown) ∙ sym vs ∙ t in
          let r : ℕ → CellsRead = λ k. read_cells left new_line (drop k block) in
          let word : w ≡ word_at (feeds f (line_of rest)).first 1 = ws ∙ ap (λ k. word_at k.first 1) grown in
          let n = length (line_of rest) in
          let i : p + n + 1 ≡ p + suc n = omega arith in
          rw (q, is, length-set)
          (laid_one p count cells w n (r (p + n + 1)) free
          ∙ ap (λ k. laid p count cells (one_cell w n (r k))) i
          ∙ ap (λ u. laid p count cells (one_cell w n (read_cells left new_line u))) (sym (drop-drop (suc n) p block))
          ∙ ap (λ k. laid p count cells (one_cell k n (read_cells left new_line (drop (suc n) rest)))) word
          ∙ read _ (cell_line_accepted left rest f begun ended accepted))

-- After a line that was turned back no place is filled.
pub all_refused : (l : CellLine) (block : List ℕ) (at : ℕ) (cells : List ℕ) (x : Refusal) → l.verdict ≡ Err x
    → took (record { line = l; at = at; count = 0 }) cells ≡ cells_taken l block at cells
unfolding cells_taken
all_refused l block at cells x e =
    let n : at ≡ at + 0 = omega arith in
    ap (λ k. took (record { line = l; at = k; count = 0 }) cells) n
    ∙ ap (λ r. took (record { line = r.line; at = at + r.looked; count = length r.cells }) (r.cells ++ drop (length r.cells) cells))
    (sym (none_refused (length cells) l (drop at block) x e))
