-- The turns of the program `run`: a read where one is due, then a step.
use Prim.Native.Nat.{ℕ, zero, suc, ◌≤◌, ◌<◌}
use mathlib.Core.Bool.{Bool, true, false, cond, ◌&&◌}
use mathlib.Core.List.{List, [], ◌∷◌, ◌++◌, append-nil, append_assoc, flatten}
use mathlib.Core.Path.{◌≡◌, refl, sym, ◌∙◌, ap, subst}
use native.Mathlib.Omega.{arith}
use lib.Dec.{eqb}
use lib.ListN.{length, take, drop}
use lib.Seq.{drop-length}
use borrow.Author.Tests.{eqb-true, eqb-false}
use Rattle.model.specs.declared.Refusal.TheVariants as refusal
use Rattle.std.specs.Prelude.{Ok, Err}
use Rattle.model.specs.Answers.{Verdict, starved_byte, by_verdict}
use Rattle.model_sheet.specs.Frames.{framed}
use Rattle.model_run.specs.Running.{Starved}
use Rattle.model_program.specs.Programs.{end_line, refusal_text, end_text, run_text}
use Rattle.sheet_laws.proofs.Cases.{by_bool, by_lt, never}
use Rattle.program_jobs.specs.declared.Job.{Job}
use Rattle.program_stages.specs.declared.Stage.{Stage}
use Rattle.program_stages.specs.declared.Stage.TheVariants as stage
use Rattle.program_stages.specs.Stages.{wants_by, over}
use Rattle.program_jobs.specs.Jobs.{staged, closed_by, closed, wants_input}
use Rattle.program_driver.specs.RunSteps.{Left, advanced_by, advanced}
use Rattle.program_laws.specs.Whole.{FirstPart, Loop, with_block, received, supplied, stepped, turn, turns, Lent, NonEmpty, start_of}
use Rattle.program_laws.proofs.Sheets.{opened_midway, sheet_cut}
use Rattle.program_laws.proofs.CellLines.{input_ends}
use Rattle.program_laws.proofs.Texts.{end_length, refusal_length}
use Rattle.program_laws.proofs.Due.{InSheet, InCells, Due, starved_due}
use Rattle.program_laws.proofs.StageSteps.{rest_of, Holds, rank, weight, Advances, due_at, sheet_step, cells_step, last_step}
use Rattle.program_laws.proofs.RunStep.{run_step}

-- The end of the input, where more is wanted.
module _ (input : List ℕ) (j : Job) (rows store cells written : List ℕ) where
  pub sheet_ends : InSheet input j rows [] written → Due input (closed_by stage.Sheet j).stage (closed_by stage.Sheet j) rows [] store cells written
  unfolding closed_by
  sheet_ends i = go j.arriving.begun refl
    where
      cut : (j.arriving.begun ≡ true → run_text input ≡ refusal_text refusal.Malformed) × (j.arriving.begun ≡ false → run_text input ≡ refusal_text refusal.Misplaced)
      cut = sheet_cut input j.arriving rows i.midway

      go : (b : Bool) → j.arriving.begun ≡ b → written ++ refusal_text (cond b refusal.Malformed refusal.Misplaced) ≡ run_text input
      go true e = rw i.nothing (sym (cut.0 e))
      go false e = rw i.nothing (sym (cut.1 e))

  pub cells_end : j.line.verdict ≡ Ok tt → InCells input j rows [] store written → Due input (closed_by stage.Cells j).stage (closed_by stage.Cells j) rows [] store cells written
  unfolding closed_by
  cells_end v i = go j.line.begun ends.1
    where
      ends : (i.run.later ≡ []) × (i.run.behind ≡ cond j.line.begun (Err refusal.Malformed) (Ok tt))
      ends = input_ends j.line i.run.later i.run.behind v i.run.gives

      due : written ++ end_text Starved j.clocks i.run.behind ≡ run_text input
      due = starved_due input j rows [] store written i ends.0

      go : (b : Bool) → i.run.behind ≡ cond b (Err refusal.Malformed) (Ok tt)
          → Due input (cond b (stage.Refusing refusal.Malformed) (stage.Ending starved_byte)) (staged j (cond b (stage.Refusing refusal.Malformed) (stage.Ending starved_byte))) rows [] store cells written
      go true e = ap (λ (u : Verdict). written ++ end_text Starved j.clocks u) (sym e) ∙ due
      go false e = ap (λ (u : Verdict). written ++ end_text Starved j.clocks u) (sym e) ∙ due

-- After a read where one is due: a character is there, or none is wanted.
record Supplied (input : List ℕ) (l l' : Loop) : Type 0 where
  pub holds : Holds input l'
  pub near : weight l' ≤ weight l
  pub lively : over l'.job.stage ≡ false
  pub ready : wants_input l'.job ≡ true → l'.at < length l'.block

module _ (input : List ℕ) (l : Loop) (h : Holds input l) (on : over l.job.stage ≡ false) where
  used_up : l.at ≡ length l.block → rest_of l ≡ flatten l.blocks
  used_up e = ap (λ (n : ℕ). drop n l.block ++ flatten l.blocks) e ∙ ap (λ (xs : List ℕ). xs ++ flatten l.blocks) (drop-length l.block)

  next_block : (b : List ℕ) (bs : List (List ℕ)) → l.blocks ≡ b ∷ bs → l.at ≡ length l.block → Supplied input l (with_block l l.job b bs)
  unfolding flatten
  next_block b bs e at =
      let rest : rest_of l ≡ b ++ flatten bs = used_up at ∙ ap (λ (xs : List (List ℕ)). flatten xs) e in
      let more : NonEmpty (b ∷ bs) = rw e at h.blocks in
      record {
        holds = record {
          due = subst (λ (xs : List ℕ). Due input l.job.stage l.job l.rows xs l.store l.cells l.written) rest h.due;
          at = omega arith;
          blocks = more.1;
          store = h.store;
          cells = h.cells;
          words = h.words;
          text = h.text;
        };
        near = omega (arith, ap length rest);
        lively = on;
        ready = λ _. more.0;
      }

  -- The end of the input.
  no_block : (k : Job) → Due input k.stage k l.rows [] l.store l.cells l.written → k.clocks ≡ l.job.clocks → rank k.stage ≡ 1 → 1 ≤ rank l.job.stage
      → over k.stage ≡ false → wants_input k ≡ false → Supplied input l (with_block l k [] [])
  unfolding flatten
  no_block k due clocks last some more full = record {
    holds = record { due = due; at = omega arith; blocks = tt; store = h.store; cells = h.cells; words = h.words; text = h.text };
    near = omega arith;
    lively = more;
    ready = λ e. absurd (never (sym e ∙ full));
  }

  at_end_lem : (s : Stage) → l.job.stage ≡ s → wants_by s l.job.line.verdict ≡ true → l.at ≡ length l.block → l.blocks ≡ [] → Supplied input l (with_block l (closed_by s l.job) [] [])
  unfolding wants_by wants_input closed_by over flatten
  at_end_lem stage.Sheet e w at none =
      no_block (closed_by stage.Sheet l.job)
      (sheet_ends input l.job l.rows l.store l.cells l.written
      (subst (λ (xs : List ℕ). InSheet input l.job l.rows xs l.written) (used_up at ∙ ap (λ (xs : List (List ℕ)). flatten xs) none) (due_at input l h stage.Sheet e)))
      refl refl (omega (arith, ap rank e)) refl refl
  at_end_lem stage.Cells e w at none = go l.job.line.verdict refl w
    where
      go : (v : Verdict) → l.job.line.verdict ≡ v → by_verdict v true (λ x. false) ≡ true → Supplied input l (with_block l (closed_by stage.Cells l.job) [] [])
      go (Err x) v z = absurd (never (sym z))
      go (Ok _) v z =
          let due = cells_end input l.job l.rows l.store l.cells l.written v
          (subst (λ (xs : List ℕ). InCells input l.job l.rows xs l.store l.written) (used_up at ∙ ap (λ (xs : List (List ℕ)). flatten xs) none) (due_at input l h stage.Cells e)) in
          by l.job.line.begun due
        where
          by : (b : Bool)
              → Due input (cond b (stage.Refusing refusal.Malformed) (stage.Ending starved_byte)) (staged l.job (cond b (stage.Refusing refusal.Malformed) (stage.Ending starved_byte))) l.rows [] l.store l.cells l.written
              → Supplied input l (with_block l (staged l.job (cond b (stage.Refusing refusal.Malformed) (stage.Ending starved_byte))) [] [])
          by true due = no_block (staged l.job (stage.Refusing refusal.Malformed)) due refl refl (omega (arith, ap rank e)) refl refl
          by false due = no_block (staged l.job (stage.Ending starved_byte)) due refl refl (omega (arith, ap rank e)) refl refl
  at_end_lem stage.Clocks e w at none = absurd (never (sym w))
  at_end_lem (stage.Ending way) e w at none = absurd (never (sym w))
  at_end_lem (stage.Refusing x) e w at none = absurd (never (sym w))
  at_end_lem stage.Over e w at none = absurd (never (sym w))

  read_on : (bs : List (List ℕ)) → l.blocks ≡ bs → l.at ≡ length l.block → wants_input l.job ≡ true → Supplied input l (received bs l)
  unfolding wants_input closed
  read_on [] e at w = at_end_lem l.job.stage refl w at e
  read_on (b ∷ bs) e at w = next_block b bs e at

  is_supplied : Supplied input l (supplied l)
  unfolding supplied
  is_supplied = go (eqb l.at (length l.block)) refl (wants_input l.job) refl
    where
      same : (l.at ≡ length l.block → wants_input l.job ≡ true → ⊥) → Supplied input l l
      same no-need = record { holds = h; near = omega arith; lively = on; ready = λ w. by_lt l.at (length l.block) (λ s. s) (λ g. absurd (no-need (omega (arith, h.at)) w)) }

      go : (a : Bool) → eqb l.at (length l.block) ≡ a → (w : Bool) → wants_input l.job ≡ w → Supplied input l (cond (a && w) (received l.blocks l) l)
      go false a w e = same (λ at _. eqb-false _ _ a at)
      go true a false e = same (λ _ w. never (sym w ∙ e))
      go true a true e = read_on l.blocks refl (eqb-true _ _ a) e

-- A step at any stage.
step_by : (input : List ℕ) (l : Loop) → Holds input l → (s : Stage) → l.job.stage ≡ s → over s ≡ false
    → (wants_by s l.job.line.verdict ≡ true → l.at < length l.block)
    → Advances input l (advanced_by s l.job l.block l.at l.rows l.store l.cells l.words l.text)
unfolding advanced_by over wants_by
step_by input l h stage.Sheet e on ready = sheet_step input l h e (ready refl)
step_by input l h stage.Cells e on ready = cells_step input l h e (λ v. ready (rw v refl))
step_by input l h stage.Clocks e on ready = run_step input l h e
step_by input l h (stage.Ending way) e on ready =
    last_step input l h (framed (end_line way l.job.clocks)) (due_at input l h (stage.Ending way) e) (omega (arith, end_length way l.job.clocks)) (ap rank e)
step_by input l h (stage.Refusing x) e on ready =
    last_step input l h (refusal_text x) (due_at input l h (stage.Refusing x) e) (omega (arith, refusal_length x)) (ap rank e)
step_by input l h stage.Over e on ready = absurd (never on)

-- A turn keeps what holds, and brings the end nearer.
record Turned (input : List ℕ) (l l' : Loop) : Type 0 where
  pub holds : Holds input l'
  pub nearer : weight l' < weight l

turned : (input : List ℕ) (l : Loop) → Holds input l → over l.job.stage ≡ false → Turned input l (turn l)
unfolding turn stepped advanced wants_input
turned input l h on =
    let s = is_supplied input l h on in
    let a = step_by input (supplied l) s.holds (supplied l).job.stage refl s.lively s.ready in
    rw on (record { holds = a.holds; nearer = omega (arith, a.nearer, s.near) })

-- Where it is over it stays so.
stays_over : (n : ℕ) (l : Loop) → over l.job.stage ≡ true → turns n l ≡ l
unfolding turns turn
stays_over zero l e = refl
stays_over (suc n) l e = rw e (stays_over n l e)

pub turns_hold : (input : List ℕ) (n : ℕ) (l : Loop) → Holds input l → Holds input (turns n l)
unfolding turns
turns_hold input zero l h = h
turns_hold input (suc n) l h = by_bool (over l.job.stage)
    (λ e. subst (λ (x : Loop). Holds input x) (sym (stays_over (suc n) l e)) h)
    (λ e. turns_hold input n (turn l) (turned input l h e).holds)

some_rank : (s : Stage) → over s ≡ false → 1 ≤ rank s
unfolding over
some_rank stage.Sheet e = omega arith
some_rank stage.Cells e = omega arith
some_rank stage.Clocks e = omega arith
some_rank (stage.Ending way) e = omega arith
some_rank (stage.Refusing x) e = omega arith
some_rank stage.Over e = absurd (never e)

pub turns_end : (input : List ℕ) (n : ℕ) (l : Loop) → Holds input l → weight l ≤ n → over (turns n l).job.stage ≡ true
unfolding turns
turns_end input zero l h w = by_bool (over l.job.stage) (λ e. e) (λ e. absurd (omega (arith, some_rank l.job.stage e)))
turns_end input (suc n) l h w = by_bool (over l.job.stage)
    (λ e. ap (λ (x : Loop). over x.job.stage) (stays_over (suc n) l e) ∙ e)
    (λ e. let t = turned input l h e in turns_end input n (turn l) t.holds (omega (arith, t.nearer)))

-- Before the first turn.
pub start_holds : (blocks : List (List ℕ)) → NonEmpty blocks → (lent : Lent) → Holds (flatten blocks) (start_of blocks lent)
unfolding start_of
start_holds blocks some lent = record {
  due = record { midway = opened_midway (flatten blocks); state = refl; clocks = refl; line = refl; nothing = refl };
  at = omega arith;
  blocks = some;
  store = lent.places;
  cells = lent.some_cells;
  words = lent.some_words;
  text = lent.some_text;
}

-- Where it is over, all is written.
pub over_written : (input : List ℕ) (l : Loop) → Holds input l → over l.job.stage ≡ true → l.written ≡ run_text input
unfolding over
over_written input l h e = go l.job.stage e h.due
  where
    go : (s : Stage) → over s ≡ true → Due input s l.job l.rows (rest_of l) l.store l.cells l.written → l.written ≡ run_text input
    go stage.Sheet e due = absurd (never (sym e))
    go stage.Cells e due = absurd (never (sym e))
    go stage.Clocks e due = absurd (never (sym e))
    go (stage.Ending way) e due = absurd (never (sym e))
    go (stage.Refusing x) e due = absurd (never (sym e))
    go stage.Over e due = due

-- What was written stays.
read_writes : (bs : List (List ℕ)) (l : Loop) → (received bs l).written ≡ l.written
read_writes [] l = refl
read_writes (b ∷ bs) l = refl

supplied_writes : (l : Loop) → (supplied l).written ≡ l.written
unfolding supplied
supplied_writes l = go (eqb l.at (length l.block) && wants_input l.job)
  where
    go : (b : Bool) → (cond b (received l.blocks l) l).written ≡ l.written
    go true = read_writes l.blocks l
    go false = refl

turn_writes : (l : Loop) → FirstPart l.written (turn l).written
unfolding turn stepped
turn_writes l = go (over l.job.stage)
  where
    s : Left
    s = advanced (supplied l).job (supplied l).block (supplied l).at (supplied l).rows (supplied l).store (supplied l).cells (supplied l).words (supplied l).text

    go : (b : Bool) → FirstPart l.written (cond b l (stepped (supplied l))).written
    go true = record { rest = []; joined = append-nil l.written }
    go false = record { rest = take s.step.bytes s.text; joined = ap (λ (xs : List ℕ). xs ++ take s.step.bytes s.text) (sym (supplied_writes l)) }

pub turns_write : (n : ℕ) (l : Loop) → FirstPart l.written (turns n l).written
unfolding turns
turns_write zero l = record { rest = []; joined = append-nil l.written }
turns_write (suc n) l =
    let a = turn_writes l in
    let b = turns_write n (turn l) in
    record { rest = a.rest ++ b.rest; joined = sym (append_assoc l.written a.rest b.rest) ∙ ap (λ (xs : List ℕ). xs ++ b.rest) a.joined ∙ b.joined }
