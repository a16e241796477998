-- A step of the program `run` that is a run call.
use Prim.Native.Nat.{ℕ, ◌+◌, ◌*◌, ◌-◌, ◌%◌, ◌^◌, ◌≤◌, ◌<◌, min}
use mathlib.Core.List.{List, ◌++◌}
use mathlib.Core.Path.{◌≡◌, refl, sym, ◌∙◌, ap, ap₂, subst}
use native.Mathlib.Nat.{min-eq_left, mod-eq_of_lt, min-le_left, min-le_right, le-min}
use native.Mathlib.Omega.{arith}
use lib.ListN.{length, take, drop, length-append, length-drop}
use lib.Seq.{drop-drop, take-append-le, length-take-le}
use Rattle.std.specs.Prelude.{Ok}
use Rattle.model.specs.declared.Counts.{Counts}
use Rattle.model.specs.declared.Kernel.{Kernel}
use Rattle.model.specs.declared.Kernel.TheVariants as kernel
use Rattle.model.specs.Answers.{Answer, done_byte, stalled_byte, answer_counts}
use Rattle.model.specs.Values.{Trimmed, trimmed}
use Rattle.model_run.specs.Kernels.{width}
use Rattle.model_run.specs.Running.{counters_of, Ending, Done, Spent, Starved, Stalled, Full, outcome_of, Run, width_of, run_of}
use Rattle.model_program.specs.Programs.{firings_text, end_text}
use Rattle.run_laws.specs.Accepted.{Accepted}
use Rattle.run_laws.proofs.Accepts.{accepted_chain}
use Rattle.run_laws.proofs.CallEnds.{outcome_counts_lem}
use Rattle.program_writer.specs.Texts.{room_for, firings_laid}
use Rattle.program_jobs.specs.declared.Job.{Job}
use Rattle.program_stages.specs.declared.Stage.{Stage}
use Rattle.program_stages.specs.declared.Stage.TheVariants as stage
use Rattle.program_stages.specs.Stages.{outcome_stage, answer_stage}
use Rattle.program_driver.specs.RunSteps.{Left, left, ran_on}
use Rattle.program_laws.specs.Whole.{Loop}
use Rattle.program_laws.proofs.Texts.{words_only, firings_laid_lem, room_enough}
use Rattle.program_laws.proofs.Runs.{Stands, Stopped, at_done, at_stalled, at_starved, at_spent, at_full, Went, went, clocks_few, fired_few}
use Rattle.program_laws.proofs.Due.{chain_of, Runs, InClocks, Due, run_stops}
use Rattle.program_laws.proofs.StageSteps.{rest_of, Holds, rank, Advances, due_at}

-- What a call's answer says, by its ending.
stage_of : Ending → Stage
stage_of Done = stage.Ending done_byte
stage_of Spent = stage.Clocks
stage_of Starved = stage.Cells
stage_of Stalled = stage.Ending stalled_byte
stage_of Full = stage.Clocks

stage_of_lem : (e : Ending) (c : Counts) → answer_stage (Ok (outcome_of e c)) ≡ stage_of e
unfolding answer_stage outcome_stage outcome_of stage_of
stage_of_lem Done c = refl
stage_of_lem Spent c = refl
stage_of_lem Starved c = refl
stage_of_lem Stalled c = refl
stage_of_lem Full c = refl

counts_of_lem : (e : Ending) (c : Counts) → answer_counts (Ok (outcome_of e c)) ≡ c
unfolding answer_counts
counts_of_lem e c = outcome_counts_lem e c

-- A firing writes 1 to 32 words.
some_width : (t : Trimmed) → Accepted t → (0 < width_of t) × (width_of t ≤ 32)
unfolding width_of width
some_width t a = go t.kernel
  where
    go : (k : Kernel) → (0 < width k t.count) × (width k t.count ≤ 32)
    go kernel.Raw = (a.some, a.few)
    go kernel.Difference = (omega arith, omega arith)
    go (kernel.Scaled f) = (omega arith, omega arith)
    go (kernel.Blend g) = (omega arith, omega arith)

-- What the step leaves of a run r, with so many output places lent: at a stage, with counts and clocks.
abbrev result : Loop → (size places : ℕ) → Run → Stage → Counts → (clocks : ℕ) → Left
result l size places r s c clocks =
    let t = firings_laid size l.job.state.fired.0 c.firings (r.output ++ drop places l.words) l.text in
    left
    (record {
      job = record {
        stage = s;
        arriving = l.job.arriving;
        state = r.state;
        clocks = clocks;
        line = l.job.line;
        from = l.job.from + c.cells;
        count = l.job.count;
      };
      at = l.at;
      bytes = t.chars;
    })
    l.rows r.store l.cells (r.output ++ drop places l.words) t.output

module _ (input : List ℕ) (l : Loop) (h : Holds input l) (i : InClocks input l.job l.rows (rest_of l) l.store l.cells l.written)
    (places : ℕ) (fits : places ≤ length l.words) (lines : places ≤ room_for (width_of (trimmed (chain_of l.job) l.rows)) (length l.text))
    (r : Run) (w : Went (chain_of l.job) l.rows i.run.ok i.run.all i.run.stands (take places l.words) 4294967295 r) where
  abbrev j : Job
  j = l.job

  abbrev size : ℕ
  size = width_of (trimmed (chain_of l.job) l.rows)

  abbrev ran : Left
  ran = result l size places r (stage_of w.ending) w.counts (l.job.clocks + w.counts.clocks)

  lent : length (take places l.words) ≡ places
  lent = length-take-le places l.words fits

  output_length : length (r.output ++ drop places l.words) ≡ length l.words
  output_length = omega (arith, length-append r.output (drop places l.words), length-drop places l.words, w.same_length, lent)

  -- The text of the call's firings.
  laid : (take ran.step.bytes ran.text ≡ firings_text size (counters_of (trimmed (chain_of j) l.rows).count j.state).fired w.counts.firings r.output)
      × (length l.text ≤ length ran.text)
  unfolding counters_of
  laid =
      let f = j.state.fired.0 in
      let n = w.counts.firings in
      let wide = some_width (trimmed (chain_of j) l.rows) (accepted_chain (chain_of j) l.rows i.run.ok) in
      let few = fired_few (chain_of j) l.rows i.run.ok i.run.all w.stands in
      let put = firings_laid_lem size f n (r.output ++ drop places l.words) l.text wide.0 wide.1 (omega (arith, w.fits, lent, output_length)) (omega (arith, w.fits, lent))
      (omega (arith, w.fired)) in (
        put.0 ∙ sym (words_only size f n (r.output ++ drop places l.words))
            ∙ ap (λ (ws : List ℕ). firings_text size f n ws) (take-append-le (n * size) r.output (drop places l.words) (omega (arith, w.fits, w.same_length)))
            ∙ words_only size f n r.output,
        put.1,
      )

  -- The cells at hand that the call did not take.
  hand_left : drop w.counts.cells (drop j.from (take j.count l.cells)) ≡ drop (j.from + w.counts.cells) (take j.count l.cells)
  hand_left = drop-drop w.counts.cells j.from (take j.count l.cells)

  abbrev written : List ℕ
  written = l.written ++ take ran.step.bytes ran.text

  stands : Stands (chain_of j) l.rows i.run.ok i.run.all r.state r.store (j.clocks + w.counts.clocks) written
      (drop w.counts.cells (drop j.from (take j.count l.cells))) i.run.later
  stands = rw laid.0 w.stands

  runs_on : (s : Stage)
      → Runs input (result l size places r s w.counts (j.clocks + w.counts.clocks)).step.job l.rows (rest_of l) r.store written
      (drop w.counts.cells (drop j.from (take j.count l.cells)))
  runs_on s = record {
    ok = i.run.ok;
    told = i.run.told;
    all = i.run.all;
    behind = i.run.behind;
    later = i.run.later;
    gives = i.run.gives;
    chain = i.run.chain;
    cells = i.run.cells;
    stands = stands;
    due = i.run.due;
  }

  on_clocks : InClocks input (result l size places r stage.Clocks w.counts (j.clocks + w.counts.clocks)).step.job l.rows (rest_of l) r.store l.cells written
  on_clocks = record {
    run = rw (← hand_left) (runs_on stage.Clocks);
    from = omega (arith, w.within, i.from, i.count, length-drop j.from (take j.count l.cells), length-take-le j.count l.cells i.count);
    count = i.count;
  }

  abbrev DueAfter : Ending → Type 0
  DueAfter e = Due input (stage_of e) (result l size places r (stage_of e) w.counts (j.clocks + w.counts.clocks)).step.job l.rows (rest_of l) r.store l.cells written

  due_after : (e : Ending)
      → Stopped (chain_of j) l.rows i.run.ok i.run.all (take places l.words) 4294967295 w.counts.clocks (counters_of (trimmed (chain_of j) l.rows).count r.state)
      (drop w.counts.cells (drop j.from (take j.count l.cells))) e
      → DueAfter e
  unfolding stage_of runs_on
  due_after Done (at_done stop x) =
      ap (λ (e : Ending). written ++ end_text e (j.clocks + w.counts.clocks) i.run.behind) (sym x) ∙ run_stops input _ l.rows (rest_of l) r.store written _ (runs_on (stage.Ending done_byte)) stop
  due_after Stalled (at_stalled stop x) =
      ap (λ (e : Ending). written ++ end_text e (j.clocks + w.counts.clocks) i.run.behind) (sym x) ∙ run_stops input _ l.rows (rest_of l) r.store written _ (runs_on (stage.Ending stalled_byte)) stop
  due_after Starved (at_starved more none) = record {
    run = subst (λ (hand : List ℕ). Runs input (result l size places r stage.Cells w.counts (j.clocks + w.counts.clocks)).step.job l.rows (rest_of l) r.store written hand) none (runs_on stage.Cells);
    left = more;
  }
  due_after Spent (at_spent made) = on_clocks
  due_after Full (at_full made) = on_clocks

  nearer_after : size ≤ places → (e : Ending)
      → Stopped (chain_of j) l.rows i.run.ok i.run.all (take places l.words) 4294967295 w.counts.clocks (counters_of (trimmed (chain_of j) l.rows).count r.state)
      (drop w.counts.cells (drop j.from (take j.count l.cells))) e
      → 3 * (33554432 - (j.clocks + w.counts.clocks)) + rank (stage_of e) < 3 * (33554432 - j.clocks) + 3
  unfolding stage_of
  nearer_after enough Done _ = omega arith
  nearer_after enough Stalled _ = omega arith
  nearer_after enough Starved _ = omega arith
  nearer_after enough Spent (at_spent made) = omega (arith, made (omega arith), clocks_few (chain_of j) l.rows i.run.ok i.run.all w.stands)
  nearer_after enough Full (at_full made) = omega (arith, made (omega (arith, lent)), clocks_few (chain_of j) l.rows i.run.ok i.run.all w.stands)

  result_step : l.job.stage ≡ stage.Clocks → size ≤ places → Advances input l ran
  result_step e enough = record {
    holds = record {
      due = due_after w.ending w.stopped;
      at = h.at;
      blocks = h.blocks;
      store = w.stands.long;
      cells = h.cells;
      words = omega (arith, output_length, h.words);
      text = omega (arith, laid.1, h.text);
    };
    nearer = omega (arith, nearer_after enough w.ending w.stopped, ap rank e);
  }

-- The step is that result.
module _ (input : List ℕ) (l : Loop) (h : Holds input l) (e : l.job.stage ≡ stage.Clocks) where
  i : InClocks input l.job l.rows (rest_of l) l.store l.cells l.written
  i = due_at input l h stage.Clocks e

  abbrev width_of_lem : ℕ
  width_of_lem = width_of (trimmed (chain_of l.job) l.rows)

  places_of : ℕ
  places_of = min (length l.words) (room_for width_of_lem (length l.text))

  run_of_lem : Run
  run_of_lem = run_of (chain_of l.job) l.rows l.job.state l.store (drop l.job.from (take l.job.count l.cells)) (take places_of l.words) 4294967295

  went_so : Went (chain_of l.job) l.rows i.run.ok i.run.all i.run.stands (take places_of l.words) 4294967295 run_of_lem
  unfolding run_of_lem
  went_so = went (chain_of l.job) l.rows i.run.ok i.run.all i.run.stands (take places_of l.words) 4294967295

  ran_on_lem : ran_on l.job l.at l.rows l.store l.cells l.words l.text
      ≡ result l width_of_lem places_of run_of_lem (answer_stage run_of_lem.answer) (answer_counts run_of_lem.answer) ((l.job.clocks + (answer_counts run_of_lem.answer).clocks) % 2 ^ 32)
  unfolding ran_on run_of_lem places_of width_of trimmed
  ran_on_lem = rw (min-eq_left i.count, min-eq_left i.from)

  pub run_step : Advances input l (ran_on l.job l.at l.rows l.store l.cells l.words l.text)
  unfolding places_of
  run_step =
      let w = went_so in
      let wide = some_width (trimmed (chain_of l.job) l.rows) (accepted_chain (chain_of l.job) l.rows i.run.ok) in
      let few = clocks_few (chain_of l.job) l.rows i.run.ok i.run.all w.stands in
      let enough : width_of_lem ≤ places_of = le-min (omega (arith, h.words)) (room_enough width_of_lem (length l.text) wide.1 h.text) in
      let small : l.job.clocks + w.counts.clocks < 2 ^ 32 = omega arith in
      subst (λ (x : Left). Advances input l x)
      (sym (ran_on_lem
      ∙ ap (λ (a : Answer). result l width_of_lem places_of run_of_lem (answer_stage a) (answer_counts a) ((l.job.clocks + (answer_counts a).clocks) % 2 ^ 32)) w.answer
      ∙ ap₂ (λ (s : Stage) (c : Counts). result l width_of_lem places_of run_of_lem s c ((l.job.clocks + c.clocks) % 2 ^ 32)) (stage_of_lem w.ending w.counts) (counts_of_lem w.ending w.counts)
      ∙ ap (λ (n : ℕ). result l width_of_lem places_of run_of_lem (stage_of w.ending) w.counts n) (mod-eq_of_lt small)))
      (result_step input l h i places_of (min-le_left _ _) (min-le_right _ _) run_of_lem w e enough)
