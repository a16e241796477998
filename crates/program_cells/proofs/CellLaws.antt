-- Cells read from the middle of a line on: the line stays open, is turned back at its LF, or gives its cell.
use Prim.Native.Nat.{ℕ, zero, suc, ◌+◌, ◌≤◌, ◌<◌}
use mathlib.Core.Bool.{Bool, true, false}
use mathlib.Core.List.{List, [], ◌∷◌}
use mathlib.Core.Path.{◌≡◌, refl, ap, ◌∙◌}
use native.Mathlib.Omega.{arith}
use lib.ListN.{length, drop}
use borrow.Author.Tests.{eq-eqb, ne_eqb}
use Rattle.model.specs.declared.CellLine.{CellLine}
use Rattle.model.specs.declared.Frame.{Frame}
use Rattle.model.specs.declared.Refusal.{Refusal}
use Rattle.std.specs.Prelude.{Ok, Err}
use Rattle.model_sheet.specs.Lines.{line_feed, line_of}
use Rattle.model_sheet.specs.Frames.{empty_frame, fed, feeds, shown}
use Rattle.model_sheet.specs.Reading.{cell_verdict, cell_in}
use Rattle.model_sheet.specs.Arriving.{new_line, CellsRead, none, one_more, read_cells}
use Rattle.sheet_laws.proofs.Cases.{by_eq}
use Rattle.program_intake.specs.Taken.{started}
use Rattle.program_intake.proofs.PieceLaws.{ends_behind, open_behind, ends_here, started_none, started_some}

abbrev pub mid_line : Frame → Bool → CellLine
mid_line f begun = record { verdict = Ok tt; frame = f; begun = begun }

abbrev pub turned_line : Refusal → CellLine
turned_line x = record { verdict = Err x; frame = empty_frame; begun = false }

abbrev pub no_cell : CellLine → ℕ → CellsRead
no_cell l looked = record { cells = []; line = l; looked = looked }

-- A cell, and what is read behind its line of n characters and an LF.
abbrev with_one : ℕ → CellsRead → (looked : ℕ) → CellsRead
with_one w r looked = record { cells = w ∷ r.cells; line = r.line; looked = looked }

abbrev pub one_cell : ℕ → (n : ℕ) → CellsRead → CellsRead
one_cell w n r = with_one w r (n + r.looked + 1)

alike : (w : ℕ) (r : CellsRead) (k m : ℕ) → k ≡ m → with_one w r k ≡ with_one w r m
alike w r k m e = ap (with_one w r) e

pub cell_line_open : (room : ℕ) (s : List ℕ) (f : Frame) (begun : Bool) → length s ≤ length (line_of s)
    → read_cells (suc room) (mid_line f begun) s ≡ no_cell (mid_line (feeds f (line_of s)) (started begun (length (line_of s)))) (length (line_of s))
unfolding read_cells line_of feeds
cell_line_open room [] f begun h = ap (λ b. no_cell (mid_line f b) 0) (started_none begun)
cell_line_open room (c ∷ cs) f begun h =
    by_eq c line_feed
    (λ e. absurd (ends_here c cs e h))
    (λ n. rw (ne_eqb _ _ n)
    (ap one_more (cell_line_open room cs (fed f c) true (open_behind c cs n h))
    ∙ ap (λ b. no_cell (mid_line (feeds (fed f c) (line_of cs)) b) (suc (length (line_of cs)))) (started_some begun (length (line_of cs)))))

pub cell_line_refused : (room : ℕ) (x : Refusal) (s : List ℕ) (f : Frame) (begun : Bool) → length (line_of s) < length s
    → cell_verdict (shown (feeds f (line_of s))) ≡ Err x
    → read_cells (suc room) (mid_line f begun) s ≡ no_cell (turned_line x) (suc (length (line_of s)))
unfolding read_cells line_of feeds
cell_line_refused room x [] f begun h v = absurd (omega arith)
cell_line_refused room x (c ∷ cs) f begun h v =
    by_eq c line_feed
    (λ e. let t = rw (eq-eqb _ _ e) at v in rw (eq-eqb _ _ e, t))
    (λ n. let t = rw (ne_eqb _ _ n) at v in
    rw (ne_eqb _ _ n) (ap one_more (cell_line_refused room x cs (fed f c) true (ends_behind c cs n h) t)))

pub cell_line_accepted : (room : ℕ) (s : List ℕ) (f : Frame) (begun : Bool) → length (line_of s) < length s
    → cell_verdict (shown (feeds f (line_of s))) ≡ Ok tt
    → read_cells (suc room) (mid_line f begun) s
    ≡ one_cell (cell_in (shown (feeds f (line_of s)))) (length (line_of s)) (read_cells room new_line (drop (suc (length (line_of s))) s))
unfolding read_cells line_of feeds
cell_line_accepted room [] f begun h v = absurd (omega arith)
cell_line_accepted room (c ∷ cs) f begun h v =
    by_eq c line_feed
    (λ e. let t = rw (eq-eqb _ _ e) at v in
    rw (eq-eqb _ _ e, t) (alike _ (read_cells room new_line cs) _ _ (omega arith)))
    (λ n. let t = rw (ne_eqb _ _ n) at v in
    let r = read_cells room new_line (drop (suc (length (line_of cs))) cs) in
    rw (ne_eqb _ _ n)
    (ap one_more (cell_line_accepted room cs (fed f c) true (ends_behind c cs n h) t) ∙ alike _ r _ _ (omega arith)))

-- After a line that was turned back.
pub none_refused : (room : ℕ) (l : CellLine) (s : List ℕ) (x : Refusal) → l.verdict ≡ Err x → read_cells room l s ≡ none l
unfolding read_cells
none_refused zero l s x e = refl
none_refused (suc room) l [] x e = refl
none_refused (suc room) l (c ∷ cs) x e = rw e
