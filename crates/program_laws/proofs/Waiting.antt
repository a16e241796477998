-- Where `run` waits for a read: what it wrote, and that its run is starved.
use Prim.Native.Nat.{ℕ, zero, suc, ◌≤◌, ◌<◌}
use mathlib.Core.Bool.{Bool, true, false, cond, ◌&&◌}
use mathlib.Core.List.{List, [], ◌∷◌, ◌++◌, append-nil, flatten}
use mathlib.Core.Path.{◌≡◌, refl, sym, ◌∙◌, ap, subst}
use native.Mathlib.Omega.{arith}
use lib.Dec.{eqb}
use lib.ListN.{length, drop, length-append}
use lib.Seq.{drop-length}
use borrow.Author.Tests.{eqb-true}
use Rattle.std.specs.Prelude.{Ok, Err}
use Rattle.model.specs.declared.Outcome.TheVariants as outcome
use Rattle.model.specs.declared.Refusal.{Refusal}
use Rattle.model.specs.declared.Refusal.TheVariants as refusal
use Rattle.model.specs.Answers.{Verdict, Answer, starved_byte, by_verdict}
use Rattle.model_sheet.specs.Arriving.{CellsRead}
use Rattle.model_sheet.specs.Frames.{framed}
use Rattle.model_program.specs.Programs.{end_line, refusal_text, run_text}
use Rattle.sheet_laws.proofs.Cases.{never}
use Rattle.program_jobs.specs.declared.Job.{Job}
use Rattle.program_stages.specs.declared.Stage.{Stage}
use Rattle.program_stages.specs.declared.Stage.TheVariants as stage
use Rattle.program_stages.specs.Stages.{cells_stage, outcome_stage, answer_stage, wants_by, over}
use Rattle.program_jobs.specs.Jobs.{staged, closed_by, wants_input}
use Rattle.program_driver.specs.declared.Step.{Step}
use Rattle.program_cells.specs.Cells.{cells_taken}
use Rattle.program_driver.specs.RunSteps.{cells_read, ran_on, last_line, advanced_by, advanced}
use Rattle.program_laws.specs.Whole.{Loop, received, supplied, stepped, turn, turns, Lent, NonEmpty, start_of, Waits, no_cell, no_feed, no_line, Told, WritesFirst, StarvedAt, ReadsStarved, settled, StopsReading}
use Rattle.program_laws.specs.Loops.{read_due, loop_of}
use Rattle.program_laws.proofs.Sheets.{sheet_unended}
use Rattle.program_laws.proofs.CellLines.{input_ends, none_behind}
use Rattle.program_laws.proofs.Due.{InSheet, InCells, Due, starved_run}
use Rattle.program_laws.proofs.StageSteps.{rest_of, Holds, due_at}
use Rattle.program_laws.proofs.Turns.{sheet_ends, cells_end, turns_hold, start_holds}
use Rattle.program_laws.proofs.Loops.{turn_over, turn_kept, turn_read}

-- The same loop, with more blocks behind its own.
abbrev more : Loop → List (List ℕ) → Loop
more l further = loop_of l.job l.block l.at l.rows l.store l.cells l.words l.text l.written (l.blocks ++ further)

-- A turn takes at most a block.
fewer : (l : Loop) → length (turn l).blocks ≤ length l.blocks
unfolding turn stepped supplied
fewer l = go (over l.job.stage) (eqb l.at (length l.block) && wants_input l.job)
  where
    by : (bs : List (List ℕ)) → length (received bs l).blocks ≤ length bs
    by [] = omega arith
    by (b ∷ bs) = omega arith

    go : (o r : Bool) → length (cond o l (stepped (cond r (received l.blocks l) l))).blocks ≤ length l.blocks
    go true r = omega arith
    go false true = by l.blocks
    go false false = omega arith

few_turns : (n : ℕ) (l : Loop) → length (turns n l).blocks ≤ length l.blocks
unfolding turns
few_turns zero l = omega arith
few_turns (suc n) l = omega (arith, few_turns n (turn l), fewer l)

-- A turn does the same whatever lies behind its blocks, unless it takes some of that.
data Alike (l : Loop) (further : List (List ℕ)) : Type 0 where
  alike : turn (more l further) ≡ more (turn l) further → Alike l further
  takes : length (turn (more l further)).blocks < length further → Alike l further

turn_alike : (l : Loop) (f : List ℕ) (fs : List (List ℕ)) → Alike l (f ∷ fs)
turn_alike l f fs = go (over l.job.stage) refl (read_due l.job l.at (length l.block)) refl l.blocks
  where
    with_blocks : List (List ℕ) → Loop
    with_blocks = loop_of l.job l.block l.at l.rows l.store l.cells l.words l.text l.written

    go : (o : Bool) → over l.job.stage ≡ o → (r : Bool) → read_due l.job l.at (length l.block) ≡ r → (bs : List (List ℕ)) → Alike (with_blocks bs) (f ∷ fs)
    go true o r e bs = alike (turn_over (with_blocks (bs ++ (f ∷ fs))) o ∙ ap (λ (x : Loop). more x (f ∷ fs)) (sym (turn_over (with_blocks bs) o)))
    go false o false e bs =
        let t : (xs : List (List ℕ)) → _ = λ xs. turn_kept l.job l.at l.rows l.store l.cells l.words l.text o l.block l.written xs e in
        alike (t (bs ++ (f ∷ fs)) ∙ ap (λ (x : Loop). more x (f ∷ fs)) (sym (t bs)))
    go false o true e [] =
        takes
        (omega (
          arith,
          ap (λ (x : Loop). length x.blocks) (turn_read l.job l.at l.rows l.store l.cells l.words l.text o l.block f l.written fs e),
        ))
    go false o true e (b ∷ bs) =
        let t : (xs : List (List ℕ)) → _ = λ xs. turn_read l.job l.at l.rows l.store l.cells l.words l.text o l.block b l.written xs e in
        alike (t (bs ++ (f ∷ fs)) ∙ ap (λ (x : Loop). more x (f ∷ fs)) (sym (t bs)))

turns_alike : (n : ℕ) (l : Loop) (f : List ℕ) (fs : List (List ℕ)) → length (f ∷ fs) ≤ length (turns n (more l (f ∷ fs))).blocks
    → turns n (more l (f ∷ fs)) ≡ more (turns n l) (f ∷ fs)
unfolding turns
turns_alike zero l f fs h = refl
turns_alike (suc n) l f fs h = go (turn_alike l f fs) (turns_alike n (turn l) f fs)
  where
    go : Alike l (f ∷ fs) → (length (f ∷ fs) ≤ length (turns n (more (turn l) (f ∷ fs))).blocks → turns n (more (turn l) (f ∷ fs)) ≡ more (turns n (turn l)) (f ∷ fs))
        → turns n (turn (more l (f ∷ fs))) ≡ more (turns n (turn l)) (f ∷ fs)
    go (alike e) ih = ap (turns n) e ∙ ih (subst (λ (x : Loop). length (f ∷ fs) ≤ length (turns n x).blocks) e h)
    go (takes t) ih = absurd (omega (arith, few_turns n (turn (more l (f ∷ fs))), t, h))

-- Where no further block was read, the turns are those over the blocks read alone.
alone : (past further : List (List ℕ)) (lent : Lent) (n : ℕ) → (turns n (start_of (past ++ further) lent)).blocks ≡ further
    → turns n (start_of (past ++ further) lent) ≡ more (turns n (start_of past lent)) further
unfolding start_of
alone past [] lent n e = ap (λ (bs : List (List ℕ)). turns n (start_of bs lent)) (append-nil past) ∙ sym (none (turns n (start_of past lent)))
  where
    none : (l : Loop) → more l [] ≡ l
    none l = ap (loop_of l.job l.block l.at l.rows l.store l.cells l.words l.text l.written) (append-nil l.blocks)
alone past (f ∷ fs) lent n e = turns_alike n (start_of past lent) f fs (omega (arith, ap length e))

empty_front : (xs ys : List (List ℕ)) → xs ++ ys ≡ ys → xs ≡ []
empty_front [] ys e = refl
empty_front (x ∷ xs) ys e = absurd (omega (arith, ap length e, length-append (x ∷ xs) ys))

front_some : (xs ys : List (List ℕ)) → NonEmpty (xs ++ ys) → NonEmpty xs
front_some [] ys h = tt
front_some (x ∷ xs) ys h = (h.0, front_some xs ys h.1)

-- At the end of the blocks.
module _ (input : List ℕ) (l : Loop) (h : Holds input l) (none : l.blocks ≡ []) (w : Waits l) where
  abbrev j : Job
  j = l.job

  both : (a b : Bool) → (a && b) ≡ true → (a ≡ true) × (b ≡ true)
  both true b e = (refl, e)
  both false b e = absurd (never (sym e))

  rest : rest_of l ≡ []
  unfolding flatten
  rest =
      let used : l.at ≡ length l.block = eqb-true _ _ (both (eqb l.at (length l.block)) (wants_input l.job) w).0 in
      ap (λ (n : ℕ). drop n l.block ++ flatten l.blocks) used ∙ ap (λ (xs : List ℕ). xs ++ flatten l.blocks) (drop-length l.block)
      ∙ ap (λ (bs : List (List ℕ)). flatten bs) none

  at_end_lem : (s : Stage) → l.job.stage ≡ s → wants_by s j.line.verdict ≡ true → Told input l × StarvedAt input
  unfolding wants_by closed_by
  at_end_lem stage.Sheet e v = (by j.arriving.begun (sheet_ends input j l.rows l.store l.cells l.written i), λ c. absurd (never (sym c ∙ sheet_unended input j.arriving l.rows i.midway)))
    where
      i : InSheet input j l.rows [] l.written
      i = subst (λ (xs : List ℕ). InSheet input j l.rows xs l.written) rest (due_at input l h stage.Sheet e)

      by : (b : Bool) → l.written ++ refusal_text (cond b refusal.Malformed refusal.Misplaced) ≡ run_text input → Told input l
      by true d = record { last = refusal_text refusal.Malformed; missing = no_feed; all = d }
      by false d = record { last = refusal_text refusal.Misplaced; missing = no_line; all = d }
  at_end_lem stage.Cells e v = go j.line.verdict refl v
    where
      i : InCells input j l.rows [] l.store l.written
      i = subst (λ (xs : List ℕ). InCells input j l.rows xs l.store l.written) rest (due_at input l h stage.Cells e)

      by : (b : Bool)
          → Due input (cond b (stage.Refusing refusal.Malformed) (stage.Ending starved_byte)) (staged j (cond b (stage.Refusing refusal.Malformed) (stage.Ending starved_byte))) l.rows [] l.store l.cells l.written
          → Told input l
      by true d = record { last = refusal_text refusal.Malformed; missing = no_feed; all = d }
      by false d = record { last = framed (end_line starved_byte j.clocks); missing = no_cell; all = d }

      go : (x : Verdict) → j.line.verdict ≡ x → by_verdict x true (λ y. false) ≡ true → Told input l × StarvedAt input
      go (Err y) d z = absurd (never (sym z))
      go (Ok _) d z = (
        by j.line.begun (cells_end input j l.rows l.store l.cells l.written d i),
        λ _. starved_run input j l.rows [] l.store l.written i (input_ends j.line i.run.later i.run.behind d i.run.gives).0,
      )
  at_end_lem stage.Clocks e v = absurd (never (sym v))
  at_end_lem (stage.Ending way) e v = absurd (never (sym v))
  at_end_lem (stage.Refusing x) e v = absurd (never (sym v))
  at_end_lem stage.Over e v = absurd (never (sym v))

  waiting : Told input l × StarvedAt input
  unfolding wants_input
  waiting = at_end_lem j.stage refl (both (eqb l.at (length l.block)) (wants_input l.job) w).1

module _ (past further : List (List ℕ)) (some : NonEmpty (past ++ further)) (lent : Lent) (n : ℕ)
    (unread : (turns n (start_of (past ++ further) lent)).blocks ≡ further) (w : Waits (turns n (start_of (past ++ further) lent))) where
  abbrev l : Loop
  l = turns n (start_of past lent)

  same : turns n (start_of (past ++ further) lent) ≡ more l further
  same = alone past further lent n unread

  there : Told (flatten past) l × StarvedAt (flatten past)
  there =
      waiting (flatten past) l (turns_hold (flatten past) n (start_of past lent) (start_holds past (front_some past further some) lent))
      (empty_front l.blocks further (sym (ap (λ (x : Loop). x.blocks) same) ∙ unread)) (subst (λ (x : Loop). Waits x) same w)

  told : Told (flatten past) (turns n (start_of (past ++ further) lent))
  told =
      let t = there.0 in
      let here : Told (flatten past) (more l further) = record { last = t.last; missing = t.missing; all = t.all } in
      subst (λ (x : Loop). Told (flatten past) x) (sym same) here

pub writes_first : WritesFirst
writes_first past further some lent n unread w = told past further some lent n unread w

pub reads_starved : ReadsStarved
reads_starved past further some lent n unread w = (there past further some lent n unread w).1

-- Once nothing can change the text: a turn reads nothing and leaves it so.
Stays : Loop → Type 0
Stays l = ((turn l).blocks ≡ l.blocks) × (settled (turn l).job.stage (turn l).job.line.verdict ≡ true)

after_answer : (a : Answer) (x : Refusal) → settled (answer_stage a) (Err x) ≡ true
unfolding answer_stage outcome_stage
after_answer (Err y) x = refl
after_answer (Ok (outcome.Done c)) x = refl
after_answer (Ok (outcome.Spent c)) x = refl
after_answer (Ok (outcome.Starved c)) x = refl
after_answer (Ok (outcome.Stalled c)) x = refl
after_answer (Ok (outcome.Full c)) x = refl

module _ (l : Loop) where
  abbrev step_at : Stage → Step
  step_at s = (advanced_by s l.job l.block l.at l.rows l.store l.cells l.words l.text).step

  stays_by : (s : Stage) → l.job.stage ≡ s → over s ≡ false → wants_by s l.job.line.verdict ≡ false
      → settled (step_at s).job.stage (step_at s).job.line.verdict ≡ true → Stays l
  unfolding Stays wants_input advanced
  stays_by s e o w d =
      let idle : read_due l.job l.at (length l.block) ≡ false =
      ap (λ (x : Stage). eqb l.at (length l.block) && wants_by x l.job.line.verdict) e ∙ ap (λ (b : Bool). eqb l.at (length l.block) && b) w
      ∙ neither (eqb l.at (length l.block)) in
      let t = turn_kept l.job l.at l.rows l.store l.cells l.words l.text (ap over e ∙ o) l.block l.written l.blocks idle in (
        ap (λ (x : Loop). x.blocks) t,
        ap (λ (x : Loop). settled x.job.stage x.job.line.verdict) t ∙ ap (λ (x : Stage). settled (step_at x).job.stage (step_at x).job.line.verdict) e ∙ d,
      )
    where
      neither : (b : Bool) → (b && false) ≡ false
      neither true = refl
      neither false = refl

  -- Where a line was turned back, no cell is read behind it, and a run call leaves the line.
  read_none : (x : Refusal) → l.job.line.verdict ≡ Err x → settled (step_at stage.Cells).job.stage (step_at stage.Cells).job.line.verdict ≡ true
  unfolding advanced_by cells_read cells_taken cells_stage
  read_none x e =
      ap (λ (r : CellsRead). settled (cells_stage (length r.cells) r.line.verdict) r.line.verdict) (none_behind (drop l.at l.block) (length l.cells) l.job.line x e)
      ∙ ap (λ (v : Verdict). settled (cells_stage 0 v) v) e

  run_leaves : (x : Refusal) → l.job.line.verdict ≡ Err x → settled (step_at stage.Clocks).job.stage (step_at stage.Clocks).job.line.verdict ≡ true
  unfolding advanced_by ran_on
  run_leaves x e = ap (λ (v : Verdict). settled (step_at stage.Clocks).job.stage v) e ∙ after_answer _ x

  stays : settled l.job.stage l.job.line.verdict ≡ true → Stays l
  unfolding Stays over wants_by advanced_by last_line
  stays due = go l.job.stage refl due l.job.line.verdict refl
    where
      back : (v : Verdict) → by_verdict v false (λ x. true) ≡ true → (x : Refusal) → v ≡ Err x → by_verdict v true (λ y. false) ≡ false
      back (Ok _) d x e = absurd (never (sym d))
      back (Err y) d x e = refl

      go : (s : Stage) → l.job.stage ≡ s → settled s l.job.line.verdict ≡ true → (v : Verdict) → l.job.line.verdict ≡ v → Stays l
      go stage.Sheet e d v w = absurd (never (sym d))
      go stage.Cells e d (Ok _) w = absurd (never (sym d ∙ ap (λ (v : Verdict). by_verdict v false (λ x. true)) w))
      go stage.Cells e d (Err x) w = stays_by stage.Cells e refl (back l.job.line.verdict d x w) (read_none x w)
      go stage.Clocks e d (Ok _) w = absurd (never (sym d ∙ ap (λ (v : Verdict). by_verdict v false (λ x. true)) w))
      go stage.Clocks e d (Err x) w = stays_by stage.Clocks e refl refl (run_leaves x w)
      go (stage.Ending way) e d v w = stays_by (stage.Ending way) e refl refl refl
      go (stage.Refusing x) e d v w = stays_by (stage.Refusing x) e refl refl refl
      go stage.Over e d v w =
          let t = turn_over l (ap over e) in
          (ap (λ (x : Loop). x.blocks) t, ap (λ (x : Loop). settled x.job.stage x.job.line.verdict) t ∙ due)

pub stops_reading : StopsReading
unfolding turns Stays
stops_reading l zero due = refl
stops_reading l (suc n) due = let t = stays l due in stops_reading (turn l) n t.1 ∙ t.0
