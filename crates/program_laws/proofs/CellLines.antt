-- The `05` lines behind the sheet, read in however many pieces: no cell is lost, and none is added.
use Prim.Native.Nat.{ℕ, zero, suc, ◌≤◌, ◌<◌}
use mathlib.Core.Bool.{true, false, cond}
use mathlib.Core.List.{List, [], ◌∷◌, ◌++◌, append-nil}
use mathlib.Core.Path.{◌≡◌, refl, sym, ap, ◌∙◌}
use native.Mathlib.Omega.{arith}
use lib.ListN.{length, drop}
use borrow.Author.Tests.{eq-eqb, ne_eqb}
use Rattle.model.specs.declared.CellLine.{CellLine}
use Rattle.model.specs.declared.Refusal.{Refusal}
use Rattle.model.specs.declared.Refusal.TheVariants as refusal
use Rattle.std.specs.Prelude.{Ok, Err}
use Rattle.model.specs.Answers.{Verdict}
use Rattle.model_sheet.specs.Lines.{Line, line_feed, lines_of}
use Rattle.model_sheet.specs.Frames.{Seen, empty_frame, feeds, shown, seen_of}
use Rattle.model_sheet.specs.Reading.{cell_verdict, cell_in}
use Rattle.model_sheet.specs.Arriving.{new_line, CellsRead, none, one_more, with_cell, read_cells}
use Rattle.model_program.specs.Programs.{cells_in, behind_cells}
use Rattle.sheet_laws.proofs.Cases.{by_bool, by_eq}
use Rattle.sheet_laws.proofs.FrameLaws.{seen_alike}
use Rattle.sheet_laws.proofs.FixedMemory.{unsound_cell, fixed_memory_cell}
use Rattle.sheet_trips.proofs.AsItArrives.{infront, whole_line, last_line_lem, one_more_lem, some, some_more, feeds_more, lines_feed, lines_other}

-- A line of which these characters have arrived.
abbrev pub open_line : List ℕ → CellLine
open_line p = record { verdict = Ok tt; frame = feeds empty_frame p; begun = some p }

-- The cells that a line, open or turned back, and the rest of the input give; and the verdict behind them.
pub data Gives (l : CellLine) (rest : List ℕ) (cells : List ℕ) (v : Verdict) : Type 0 where
  is_open : (p : List ℕ) → l ≡ open_line p → cells ≡ cells_in (infront p (lines_of rest)) → v ≡ behind_cells (infront p (lines_of rest)) → Gives l rest cells v
  is_back : (x : Refusal) → l.verdict ≡ Err x → cells ≡ [] → v ≡ Err x → Gives l rest cells v

-- A line with its LF, as it arrived.
sound_cell : Seen → ℕ
sound_cell l = cond l.sound (cell_in l) 0

accepted_sound : (l : Seen) → cell_verdict l ≡ Ok tt → sound_cell l ≡ cell_in l
unfolding sound_cell
accepted_sound l e =
    by_bool l.sound
    (λ s. rw s)
    (λ s. absurd (let d = unsound_cell l s in let z : ◌≡◌ {A = ℕ} 0 1 = cc in omega arith))

same_cell : (p : List ℕ) → cell_verdict (seen_of true p) ≡ Ok tt → cell_in (shown (feeds empty_frame p)) ≡ cell_in (seen_of true p)
unfolding sound_cell
same_cell p e =
    sym (accepted_sound (shown (feeds empty_frame p)) (fixed_memory_cell p ∙ e))
    ∙ seen_alike sound_cell p (λ s t a b. rw (a, b)) (λ n x. refl)
    ∙ accepted_sound (seen_of true p) e

-- The first line, taken and turned back.
module _ (l : Line) (ls : List Line) where
  cells_take : cell_verdict (seen_of l.ended l.chars) ≡ Ok tt → cells_in (l ∷ ls) ≡ cell_in (seen_of l.ended l.chars) ∷ cells_in ls
  unfolding cells_in
  cells_take e = rw e

  behind_take : cell_verdict (seen_of l.ended l.chars) ≡ Ok tt → behind_cells (l ∷ ls) ≡ behind_cells ls
  unfolding behind_cells
  behind_take e = rw e

  cells_back : (x : Refusal) → cell_verdict (seen_of l.ended l.chars) ≡ Err x → cells_in (l ∷ ls) ≡ []
  unfolding cells_in
  cells_back x e = rw e

  behind_back : (x : Refusal) → cell_verdict (seen_of l.ended l.chars) ≡ Err x → behind_cells (l ∷ ls) ≡ Err x
  unfolding behind_cells
  behind_back x e = rw e

-- What reading leaves of what a line and the rest give.
pub record Left (r : CellsRead) (cs more cells : List ℕ) (v : Verdict) : Type 0 where
  pub later : List ℕ
  pub split : cells ≡ r.cells ++ later
  pub gives : Gives r.line (drop r.looked cs ++ more) later v
  pub within : r.looked ≤ length cs

nothing : (l : CellLine) (cs more cells : List ℕ) (v : Verdict) → Gives l (cs ++ more) cells v → Left (none l) cs more cells v
nothing l cs more cells v g = record { later = cells; split = refl; gives = g; within = omega arith }

one_looked : (r : CellsRead) (c : ℕ) (cs more cells : List ℕ) (v : Verdict) → Left r cs more cells v → Left (one_more r) (c ∷ cs) more cells v
one_looked r c cs more cells v h = record { later = h.later; split = h.split; gives = h.gives; within = omega (arith, h.within) }

-- One character more, of an open line.
module _ (room : ℕ) (p : List ℕ) (c : ℕ) (cs : List ℕ) where
  read_back_lem : (l : CellLine) (x : Refusal) → l.verdict ≡ Err x → read_cells (suc room) l (c ∷ cs) ≡ none l
  unfolding read_cells
  read_back_lem l x e = rw e

  read_other : (c ≡ line_feed → ⊥) → read_cells (suc room) (open_line p) (c ∷ cs) ≡ one_more (read_cells (suc room) (open_line (p ++ (c ∷ []))) cs)
  unfolding read_cells
  read_other n = rw (ne_eqb _ _ n, feeds_more empty_frame p c, some_more p c)

  read_ended : (x : Refusal) → c ≡ line_feed → cell_verdict (seen_of true p) ≡ Err x
      → read_cells (suc room) (open_line p) (c ∷ cs) ≡ one_more (none (record { verdict = Err x; frame = empty_frame; begun = false }))
  unfolding read_cells
  read_ended x e v = let w = fixed_memory_cell p ∙ v in rw (eq-eqb _ _ e, w)

  read_cell : c ≡ line_feed → cell_verdict (seen_of true p) ≡ Ok tt
      → read_cells (suc room) (open_line p) (c ∷ cs) ≡ one_more (with_cell (cell_in (seen_of true p)) (read_cells room new_line cs))
  unfolding read_cells
  read_cell e v = let w = fixed_memory_cell p ∙ v in rw (eq-eqb _ _ e, w, same_cell p v)

-- The lines of the rest, where the next character is an LF and where it is another.
module _ (p : List ℕ) (c : ℕ) (cs : List ℕ) where
  front_feed : c ≡ line_feed → infront p (lines_of (c ∷ cs)) ≡ record { chars = p; ended = true } ∷ lines_of cs
  front_feed e =
      ap (infront p) (lines_feed c cs e) ∙ whole_line p [] true (lines_of cs)
      ∙ ap (λ (q : List ℕ). let l : Line = record { chars = q; ended = true } in l ∷ lines_of cs) (append-nil p)

  front_other : (c ≡ line_feed → ⊥) → infront p (lines_of (c ∷ cs)) ≡ infront (p ++ (c ∷ [])) (lines_of cs)
  front_other n = ap (infront p) (lines_other c cs n) ∙ sym (one_more_lem p c (lines_of cs))

-- At the LF, given what holds from the next line on.
at_feed : (room : ℕ) (p : List ℕ) (c : ℕ) (cs more cells : List ℕ) (v : Verdict) → c ≡ line_feed
    → cells ≡ cells_in (infront p (lines_of (c ∷ cs ++ more))) → v ≡ behind_cells (infront p (lines_of (c ∷ cs ++ more)))
    → ((ds : List ℕ) → Gives new_line (cs ++ more) ds v → Left (read_cells room new_line cs) cs more ds v)
    → Left (read_cells (suc room) (open_line p) (c ∷ cs)) (c ∷ cs) more cells v
unfolding feeds some infront
at_feed room p c cs more cells v e d w ih = go (cell_verdict (seen_of true p)) refl
  where
    l : Line
    l = record { chars = p; ended = true }

    front : infront p (lines_of (c ∷ cs ++ more)) ≡ l ∷ lines_of (cs ++ more)
    front = front_feed p c (cs ++ more) e

    go : (u : Verdict) → cell_verdict (seen_of true p) ≡ u → Left (read_cells (suc room) (open_line p) (c ∷ cs)) (c ∷ cs) more cells v
    go (Err x) u =
        rw (read_ended room p c cs x e u)
        (one_looked _ c cs more cells v
        (nothing _ cs more cells v
        (is_back x refl (d ∙ ap cells_in front ∙ cells_back l (lines_of (cs ++ more)) x u) (w ∙ ap behind_cells front ∙ behind_back l (lines_of (cs ++ more)) x u))))
    go (Ok _) u =
        let t = ih (cells_in (lines_of (cs ++ more)))
        (is_open [] refl refl (w ∙ ap behind_cells front ∙ behind_take l (lines_of (cs ++ more)) u)) in
        rw (read_cell room p c cs e u)
        (record {
          later = t.later;
          split = d ∙ ap cells_in front ∙ cells_take l (lines_of (cs ++ more)) u ∙ ap (λ (ds : List ℕ). cell_in (seen_of true p) ∷ ds) t.split;
          gives = t.gives;
          within = omega (arith, t.within);
        })

no_room : (l : CellLine) (cs : List ℕ) → read_cells zero l cs ≡ none l
unfolding read_cells
no_room l cs = refl

no_character : (room : ℕ) (l : CellLine) → read_cells (suc room) l [] ≡ none l
unfolding read_cells
no_character room l = refl

pub cells_read_lem : (cs more : List ℕ) (room : ℕ) (l : CellLine) (cells : List ℕ) (v : Verdict) → Gives l (cs ++ more) cells v
    → Left (read_cells room l cs) cs more cells v
cells_read_lem [] more zero l cells v g = rw (no_room l []) (nothing l [] more cells v g)
cells_read_lem [] more (suc room) l cells v g = rw (no_character room l) (nothing l [] more cells v g)
cells_read_lem (c ∷ cs) more zero l cells v g = rw (no_room l (c ∷ cs)) (nothing l (c ∷ cs) more cells v g)
cells_read_lem (c ∷ cs) more (suc room) l cells v (is_back x e d w) =
    rw (read_back_lem room [] c cs l x e) (nothing l (c ∷ cs) more cells v (is_back x e d w))
cells_read_lem (c ∷ cs) more (suc room) l cells v (is_open p q d w) =
    rw q (by_eq c line_feed
    (λ e. at_feed room p c cs more cells v e d w (λ ds g. cells_read_lem cs more room new_line ds v g))
    (λ n. rw (read_other room p c cs n)
    (one_looked _ c cs more cells v
    (cells_read_lem cs more (suc room) (open_line (p ++ (c ∷ []))) cells v
    (is_open (p ++ (c ∷ [])) refl (d ∙ ap cells_in (front_other p c (cs ++ more) n)) (w ∙ ap behind_cells (front_other p c (cs ++ more) n)))))))

-- Where there is room, a line that is open and a character, a character is looked at.
pub one_at_least : (cs : List ℕ) (room : ℕ) (l : CellLine) → l.verdict ≡ Ok tt → 0 < room → 0 < length cs → 0 < (read_cells room l cs).looked
unfolding read_cells
one_at_least cs zero l e h g = absurd (omega arith)
one_at_least [] (suc room) l e h g = absurd (omega arith)
one_at_least (c ∷ cs) (suc room) l e h g = rw e (omega arith)

-- Of a line that was turned back no character is looked at.
pub none_behind : (cs : List ℕ) (room : ℕ) (l : CellLine) (x : Refusal) → l.verdict ≡ Err x → read_cells room l cs ≡ none l
none_behind cs zero l x e = no_room l cs
none_behind [] (suc room) l x e = no_character room l
none_behind (c ∷ cs) (suc room) l x e = read_back_lem room [] c cs l x e

-- At the end of the input a line that is open lacks its LF.
unended_back : (p : List ℕ) → cell_verdict (seen_of false p) ≡ Err refusal.Malformed
unended_back p = unsound_cell (seen_of false p) refl

pub input_ends : (l : CellLine) (cells : List ℕ) (v : Verdict) → l.verdict ≡ Ok tt → Gives l [] cells v
    → (cells ≡ []) × (v ≡ cond l.begun (Err refusal.Malformed) (Ok tt))
unfolding lines_of infront some cells_in behind_cells
input_ends l cells v e (is_back x d _ _) = absurd (let z : ◌≡◌ {A = ℕ} 0 1 = cc in omega arith)
input_ends l cells v e (is_open [] q d w) = rw q (d, w)
input_ends l cells v e (is_open (c ∷ p) q d w) =
    let ln : Line = record { chars = c ∷ p; ended = false } in
    rw q (d ∙ ap cells_in (last_line_lem c p) ∙ cells_back ln [] refusal.Malformed (unended_back (c ∷ p)), w ∙ ap behind_cells (last_line_lem c p) ∙ behind_back ln [] refusal.Malformed (unended_back (c ∷ p)))
