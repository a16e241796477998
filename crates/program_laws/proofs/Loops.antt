-- A turn as the code of the programs makes it is a turn of the definitions.
use Prim.Native.Nat.{ℕ, zero, suc, ◌≤◌, ◌<◌}
use mathlib.Core.Bool.{Bool, true, false, not, cond, ◌&&◌}
use mathlib.Core.List.{List, [], ◌∷◌, ◌++◌, append-nil, append_assoc}
use mathlib.Core.Path.{◌≡◌, refl, sym, ◌∙◌, ap, ap₂, subst}
use native.Mathlib.Omega.{arith}
use lib.Dec.{eqb}
use lib.IntN.{ℤ, pos, negsuc}
use lib.ListN.{length, take, replicate}
use lib.Seq.{length-take-le}
use borrow.Author.Tests.{eq-eqb, ne_eqb}
use Rattle.model.specs.declared.Arriving.{Arriving}
use Rattle.model.specs.declared.Refusal.{Refusal}
use Rattle.model.specs.declared.Refusal.TheVariants as refusal
use Rattle.std.specs.Prelude.{Ok, Err}
use Rattle.model.specs.Answers.{Verdict, starved_byte, by_verdict}
use Rattle.model_sheet.specs.Arriving.{Arrived, opening, arrive}
use Rattle.model_sheet.specs.Frames.{row_numbers}
use Rattle.model_sheet.specs.Writing.{longest_sheet}
use Rattle.model_program.specs.Programs.{store_places, cell_places, word_places, run_text_places}
use Rattle.sheet_laws.proofs.Cases.{never}
use Rattle.program_jobs.specs.declared.Job.{Job}
use Rattle.program_stages.specs.declared.Stage.{Stage}
use Rattle.program_stages.specs.declared.Stage.TheVariants as stage
use Rattle.program_stages.specs.Stages.{wants_by, over}
use Rattle.program_jobs.specs.Jobs.{begun, staged, closed_by, closed, after_read, wants_input}
use Rattle.program_writer.specs.Texts.{Laid, laid, laid_if_fits}
use Rattle.program_answer.specs.Answer.{plan_answer}
use Rattle.program_driver.specs.RunSteps.{Left, last_line, advanced_by, advanced}
use Rattle.program_laws.specs.Whole.{Loop, received, supplied, stepped, turn, turns, Lent, NonEmpty, start_of, ReadFails, plan_taken}
use Rattle.program_laws.specs.Loops.{given, read_due, SuppliedBy, Supplied, loop_of, InLoop, going, ended, RunDue, turn_text, read_failed, Taking, Taken, PlanDue}
use Rattle.program_laws.proofs.Plan.{plan_writes}

turns_suc : (n : ℕ) (l : Loop) → turns (suc n) l ≡ turn (turns n l)
unfolding turns
turns_suc zero l = refl
turns_suc (suc n) l = turns_suc n (turn l)

more_blocks : (past : List (List ℕ)) (b : List ℕ) → NonEmpty past → 0 < length b → NonEmpty (past ++ (b ∷ []))
more_blocks [] b some h = (h, tt)
more_blocks (p ∷ ps) b some h = (some.0, more_blocks ps b some.1 h)

-- Before the first turn.
pub in_loop_start : (j : Job) → j ≡ begun → (rows store cells words text : List ℕ) → rows ≡ replicate row_numbers 0
    → length store ≡ store_places → length cells ≡ cell_places → length words ≡ word_places → length text ≡ run_text_places → InLoop j [] 0 rows store cells words text
unfolding turns start_of
in_loop_start j e rows store cells words text z a b c d =
    let lent : Lent = record {
      store = store;
      cells = cells;
      words = words;
      text = text;
      places = omega arith;
      some_cells = omega arith;
      some_words = omega arith;
      some_text = omega arith;
    } in
    subst (λ (x : Job). InLoop x [] 0 rows store cells words text) (sym e)
    (subst (λ (xs : List ℕ). InLoop begun [] 0 xs store cells words text) (sym z) (going lent [] tt 0 [] (λ _. refl)))

pub turn_over : (l : Loop) → over l.job.stage ≡ true → turn l ≡ l
unfolding turn
turn_over l e = rw e refl

-- The loop after a step.
abbrev pub after : Left → (block written : List ℕ) → (blocks : List (List ℕ)) → Loop
after s block written blocks = loop_of s.step.job block s.step.at s.rows s.store s.cells s.words s.text (written ++ take s.step.bytes s.text) blocks

turn_by : (l : Loop) (r : Bool) → over l.job.stage ≡ false → read_due l.job l.at (length l.block) ≡ r → turn l ≡ stepped (cond r (received l.blocks l) l)
unfolding turn supplied
turn_by l r on e = ap (λ (o : Bool). cond o l (stepped (supplied l))) on ∙ ap (λ (b : Bool). stepped (cond b (received l.blocks l) l)) e

module _ (j : Job) (at : ℕ) (rows store cells words text : List ℕ) (on : over j.stage ≡ false) where
  -- A turn that reads nothing, one that reads a block, and one that finds the end of the input.
  pub turn_kept : (block written : List ℕ) (blocks : List (List ℕ)) → read_due j at (length block) ≡ false
      → turn (loop_of j block at rows store cells words text written blocks) ≡ after (advanced j block at rows store cells words text) block written blocks
  unfolding stepped
  turn_kept block written blocks e = turn_by (loop_of j block at rows store cells words text written blocks) false on e

  pub turn_read : (block b written : List ℕ) (blocks : List (List ℕ)) → read_due j at (length block) ≡ true
      → turn (loop_of j block at rows store cells words text written (b ∷ blocks)) ≡ after (advanced j b 0 rows store cells words text) b written blocks
  unfolding stepped
  turn_read block b written blocks e = turn_by (loop_of j block at rows store cells words text written (b ∷ blocks)) true on e

  turn_ends : (block written : List ℕ) → read_due j at (length block) ≡ true
      → turn (loop_of j block at rows store cells words text written []) ≡ after (advanced (closed j) [] 0 rows store cells words text) [] written []
  unfolding stepped
  turn_ends block written e = turn_by (loop_of j block at rows store cells words text written []) true on e

-- At the end of the input the last line is written.
ends_over : (j : Job) (block : List ℕ) (at : ℕ) (rows store cells words text : List ℕ) → wants_input j ≡ true
    → over (advanced (closed j) block at rows store cells words text).step.job.stage ≡ true
unfolding wants_input wants_by closed closed_by advanced advanced_by last_line over
ends_over j block at rows store cells words text w = go j.stage w
  where
    go : (s : Stage) → wants_by s j.line.verdict ≡ true → over (advanced (closed_by s j) block at rows store cells words text).step.job.stage ≡ true
    go stage.Sheet w = refl
    go stage.Cells w = by j.line.begun
      where
        by : (b : Bool) → over (advanced (staged j (cond b (stage.Refusing refusal.Malformed) (stage.Ending starved_byte))) block at rows store cells words text).step.job.stage ≡ true
        by true = refl
        by false = refl
    go stage.Clocks w = absurd (never (sym w))
    go (stage.Ending way) w = absurd (never (sym w))
    go (stage.Refusing x) w = absurd (never (sym w))
    go stage.Over w = absurd (never (sym w))

pub read_fails : ReadFails
unfolding after_read advanced advanced_by over
read_fails j n block at rows store cells words text = (refl, refl)

-- What a turn leaves with a step s.
abbrev pub TurnLeaves : (block : List ℕ) → Left → Type 0
TurnLeaves block s = InLoop s.step.job block s.step.at s.rows s.store s.cells s.words s.text × RunDue s.step.job (take s.step.bytes s.text)

module _ (j : Job) (block : List ℕ) (at len : ℕ) (rows store cells words text : List ℕ) (fits : len ≤ length block) (on : over j.stage ≡ false) where
  same_step : (j₁ j₂ : Job) (b₁ b₂ : List ℕ) (a₁ a₂ : ℕ) → j₁ ≡ j₂ → b₁ ≡ b₂ → a₁ ≡ a₂ → advanced j₁ b₁ a₁ rows store cells words text ≡ advanced j₂ b₂ a₂ rows store cells words text
  same_step j₁ j₂ b₁ b₂ a₁ a₂ e d c =
      ap (λ (x : Job). advanced x b₁ a₁ rows store cells words text) e ∙ ap (λ (x : List ℕ). advanced j₂ x a₁ rows store cells words text) d
      ∙ ap (λ (x : ℕ). advanced j₂ b₂ x rows store cells words text) c

  same_due : (b : Bool) → read_due j at len ≡ b → read_due j at (length (take len block)) ≡ b
  same_due b e = ap (λ (n : ℕ). read_due j at n) (length-take-le len block fits) ∙ e

  module _ (lent : Lent) (past : List (List ℕ)) (some : NonEmpty past) (n : ℕ) (written : List ℕ)
      (same : (further : List (List ℕ)) → turns n (start_of (past ++ further) lent) ≡ loop_of j (take len block) at rows store cells words text written further) where
    next : (further : List (List ℕ)) (l : Loop) → turn (loop_of j (take len block) at rows store cells words text written further) ≡ l → turns (suc n) (start_of (past ++ further) lent) ≡ l
    next further l e = turns_suc n (start_of (past ++ further) lent) ∙ ap turn (same further) ∙ e

    due : (blocks further : List (List ℕ)) (b : List ℕ) (s : Left) (blocks' : List (List ℕ)) → NonEmpty blocks → past ++ further ≡ blocks
        → turn (loop_of j (take len block) at rows store cells words text written further) ≡ after s b written blocks' → RunDue s.step.job (take s.step.bytes s.text)
    due blocks further b s blocks' full e t =
        turn_text blocks full lent n
        (subst (λ (bs : List (List ℕ)). (turns (suc n) (start_of bs lent)).job ≡ s.step.job) e (ap (λ (l : Loop). l.job) (next further (after s b written blocks') t)))
        (subst (λ (bs : List (List ℕ)). (turns (suc n) (start_of bs lent)).written ≡ (turns n (start_of bs lent)).written ++ take s.step.bytes s.text) e
        (ap (λ (l : Loop). l.written) (next further (after s b written blocks') t)
        ∙ ap (λ (l : Loop). l.written ++ take s.step.bytes s.text) (sym (same further))))

    kept : read_due j at len ≡ false → TurnLeaves (take len block) (advanced j (take len block) at rows store cells words text)
    kept e =
        let t : (further : List (List ℕ)) → _ = λ further. turn_kept j at rows store cells words text on (take len block) written further (same_due false e) in
        (going lent past some (suc n) _ (λ further. next further _ (t further)), due past [] (take len block) (advanced j (take len block) at rows store cells words text) [] some (append-nil past) (t []))

    read : read_due j at len ≡ true → (b : List ℕ) → 0 < length b → TurnLeaves b (advanced j b 0 rows store cells words text)
    read e b h =
        let t : (further : List (List ℕ)) → _ = λ further. turn_read j at rows store cells words text on (take len block) b written further (same_due true e) in
        let more = more_blocks past b some h in (
          going lent (past ++ (b ∷ [])) more (suc n) _
              (λ further. ap (λ (bs : List (List ℕ)). turns (suc n) (start_of bs lent)) (append_assoc past (b ∷ []) further) ∙ next (b ∷ further) _ (t further)),
          due (past ++ (b ∷ [])) (b ∷ []) b (advanced j b 0 rows store cells words text) [] more refl (t []),
        )

    finish : read_due j at len ≡ true → wants_input j ≡ true → TurnLeaves [] (advanced (closed j) [] 0 rows store cells words text)
    finish e w = (
      ended (ends_over j [] 0 rows store cells words text w),
      due past [] [] (advanced (closed j) [] 0 rows store cells words text) [] some (append-nil past) (turn_ends j at rows store cells words text on (take len block) written (same_due true e)),
    )

    fail : (k : ℕ) → TurnLeaves [] (advanced (after_read (negsuc k) j) [] 0 rows store cells words text)
    fail k =
        let f = read_fails j k [] 0 rows store cells words text in
        let s = advanced (after_read (negsuc k) j) [] 0 rows store cells words text in
        (ended f.0, subst (λ (n : ℕ). RunDue s.step.job (take n s.text)) (sym f.1) (read_failed f.0))

  wants : (a b : Bool) → (a && b) ≡ true → b ≡ true
  wants true b e = e
  wants false b e = absurd (never (sym e))

  -- A turn that begins with these variables, its supply and its step.
  pub turn_leaves : InLoop j (take len block) at rows store cells words text → (job : Job) (at' len' : ℕ) (block' : List ℕ) → length block' ≡ length block
      → Supplied j at len block job at' len' block' → (s : Left) → s ≡ advanced job (take len' block') at' rows store cells words text → TurnLeaves (take len' block') s
  unfolding after_read
  turn_leaves (ended e) job at' len' block' size sup s step = absurd (never (sym e ∙ on))
  turn_leaves (going lent past some n written same) job at' len' block' size sup s step = go (read_due j at len) refl sup
    where
      move : (k : Job) (b : List ℕ) (a : ℕ) → job ≡ k → take len' block' ≡ b → at' ≡ a → TurnLeaves b (advanced k b a rows store cells words text) → TurnLeaves (take len' block') s
      move k b a e d c h =
          subst (λ (x : List ℕ). TurnLeaves x s) (sym d)
          (subst (λ (x : Left). TurnLeaves b x) (sym (step ∙ same_step job k (take len' block') b at' a e d c)) h)

      go : (b : Bool) → read_due j at len ≡ b → SuppliedBy b j at len block job at' len' block' → TurnLeaves (take len' block') s
      go false e u = move j (take len block) at u.told (ap₂ (λ (n : ℕ) (xs : List ℕ). take n xs) u.block u.same) u.start (kept lent past some n written same e)
      go true e a = by a.answer refl
        where
          told : (z : ℤ) → a.answer ≡ z → job ≡ after_read z j
          told z d = a.told ∙ ap (λ (y : ℤ). after_read y j) d

          part : (z : ℤ) → a.answer ≡ z → take len' block' ≡ take (given z) block'
          part z d = ap (λ (m : ℕ). take m block') (a.block ∙ ap given d)

          by : (z : ℤ) → a.answer ≡ z → TurnLeaves (take len' block') s
          by (pos zero) d = move (closed j) [] 0 (told (pos zero) d) (part (pos zero) d) a.start (finish lent past some n written same e (wants (eqb at len) (wants_input j) e))
          by (pos (suc k)) d =
              let long : suc k ≤ length block' = omega (arith, a.within, ap given d) in
              move j (take (suc k) block') 0 (told (pos (suc k)) d) (part (pos (suc k)) d) a.start
              (read lent past some n written same e (take (suc k) block') (omega (arith, length-take-le (suc k) block' long)))
          by (negsuc k) d = move (after_read (negsuc k) j) [] 0 (told (negsuc k) d) (part (negsuc k) d) a.start (fail lent past some n written same k)

-- What `supply` leaves, by its ways: a block that is not used up, no input wanted, a read.
module _ (j : Job) (at len : ℕ) (block : List ℕ) where
  unread : read_due j at len ≡ false → Supplied j at len block j at len block
  unread e =
      subst (λ (b : Bool). SuppliedBy b j at len block j at len block) (sym e)
      (record { told = refl; start = refl; block = refl; same = refl })

  pub not_used_up : (at ≡ len → ⊥) → Supplied j at len block j at len block
  not_used_up n = unread (ap (λ (b : Bool). b && wants_input j) (ne_eqb at len n))

  pub not_wanted : not (wants_input j) ≡ true → Supplied j at len block j at len block
  not_wanted e = unread (go (eqb at len) (wants_input j) e)
    where
      go : (a b : Bool) → not b ≡ true → (a && b) ≡ false
      go a true e = absurd (never (sym e))
      go true false e = refl
      go false false e = refl

  pub read_made : at ≡ len → not (wants_input j) ≡ false → (answer : ℤ) → given answer ≤ length block → (job : Job) (len' : ℕ) (block' : List ℕ) → job ≡ after_read answer j → len' ≡ given answer
      → Supplied j at len block job 0 len' block'
  read_made e w answer h job len' block' d c =
      let due : read_due j at len ≡ true = ap (λ (b : Bool). b && wants_input j) (eq-eqb at len e) ∙ go (wants_input j) w in
      subst (λ (b : Bool). SuppliedBy b j at len block job 0 len' block') (sym due)
      (record { answer = answer; within = h; told = d; start = refl; block = c })
    where
      go : (b : Bool) → not b ≡ false → b ≡ true
      go true e = refl
      go false e = absurd (never e)

-- `plan`: before the first block; after a block; at the end of the input; at a line that is turned back.
pub taking_start : Taking opening
taking_start = record { past = []; same = λ _. refl }

module _ (a : Arrived) (t : Taking a) where
  taken_on : (b : List ℕ) (further : List (List ℕ)) → plan_taken opening ((t.past ++ (b ∷ [])) ++ further) ≡ plan_taken a (b ∷ further)
  taken_on b further = ap (plan_taken opening) (append_assoc t.past (b ∷ []) further) ∙ t.same (b ∷ further)

  pub taking_more : (b : List ℕ) (r : Arrived) → r ≡ arrive false a b → r.sheet.verdict ≡ Ok tt → Taking r
  unfolding plan_taken
  taking_more b r e v = record {
    past = t.past ++ (b ∷ []);
    same = λ further. taken_on b further ∙ ap (λ (x : Arrived). by_verdict x.sheet.verdict (plan_taken x further) (λ y. x)) (sym e)
        ∙ ap (λ (x : Verdict). by_verdict x (plan_taken r further) (λ y. r)) v;
  }

  pub taking_ended : Taken a
  unfolding plan_taken
  taking_ended = record { blocks = t.past ++ []; same = t.same [] }

  pub taking_back : (b : List ℕ) (r : Arrived) (x : Refusal) → r ≡ arrive false a b → r.sheet.verdict ≡ Err x → Taken r
  unfolding plan_taken
  taking_back b r x e v = record {
    blocks = (t.past ++ (b ∷ [])) ++ [];
    same = taken_on b [] ∙ ap (λ (y : Arrived). by_verdict y.sheet.verdict (plan_taken y []) (λ z. y)) (sym e)
        ∙ ap (λ (y : Verdict). by_verdict y (plan_taken r []) (λ z. r)) v;
  }

-- The text that `plan` lays of what it took is due.
pub plan_due : (a : Arriving) (rows : List ℕ) → Taken (record { sheet = a; rows = rows }) → (before : List ℕ) → longest_sheet ≤ length before → (chars : ℕ) (after : List ℕ)
    → laid chars after ≡ laid_if_fits (plan_answer a rows) before → PlanDue a rows (take chars after)
plan_due a rows t before room chars after e = record {
  blocks = t.blocks;
  same = t.same;
  due = ap (λ (x : Laid). take x.chars x.output) (e ∙ ap (λ (y : Arrived). laid_if_fits (plan_answer y.sheet y.rows) before) (sym t.same)) ∙ plan_writes t.blocks before room;
}
