-- A step that makes a run call.
use Rattle.std.proofs.Common.{◌≡◌, ℕ, zero, suc, ◌+◌, ◌-◌, ◌≤◌, min, List, [], ◌∷◌, ◌++◌, length, take, drop, sym, ap, ◌∙◌, arith, length-take-le, take_at}
use lib.Seq.{take-nil, length-slice}
use Rattle.model.specs.declared.Chain.{Chain}
use Rattle.model.specs.declared.Counts.{Counts}
use Rattle.model.specs.declared.Ran.{Ran}
use Rattle.model.specs.declared.State.{State}
use Rattle.model.specs.Answers.{Answer, answer_counts}
use Rattle.model_run.specs.Kernels.{width}
use Rattle.model_run.specs.Running.{Run, run_of}
use Rattle.runner.specs.Runs.{ran_of}
use Rattle.program_writer.specs.Texts.{laid, room_for, firings_laid}
use Rattle.program_jobs.specs.declared.Job.{Job}
use Rattle.program_driver.specs.RunSteps.{left, part_run, part_left, KeptBehind, job_after, ran_on}
use Rattle.program_driver.proofs.CellLaws.{lent_at_most}

-- A part of a list, said twice.
middle : (f t : ℕ) (l : List ℕ) → f ≤ t → take (t - f) (drop f l) ≡ drop f (take t l)
middle zero t l h = let e : t - 0 ≡ t = omega arith in ap (λ n. take n l) e
middle (suc f) zero l h = absurd (omega arith)
middle (suc f) (suc t) [] h = take-nil (suc t - suc f)
middle (suc f) (suc t) (x ∷ xs) h =
    let e : suc t - suc f ≡ t - f = omega arith in
    ap (λ n. take n (drop f xs)) e ∙ middle f t xs (omega arith)

-- Where the first `places` words were lent, which now are `part`.
pub part_run_lem : (r : Ran) (store part words output : List ℕ) (places : ℕ) (c : Chain) (rows : List ℕ) (s : State) (before cells : List ℕ) (from to : ℕ)
    → length part ≡ length (take places words) → places ≤ length words → from ≤ to
    → ran_of r store part ≡ run_of c rows s before (take (to - from) (drop from cells)) (take places words) 4294967295 → output ≡ (part ++ drop places words)
    → (part_left r store output places ≡ part_run c rows s before cells words from to places) × KeptBehind places words output
part_run_lem r store part words output places c rows s before cells from to kept fit h e o =
    let t : take places output ≡ part = ap (take places) o ∙ take_at part (drop places words) places (kept ∙ length-take-le places words fit) in (
      ap (ran_of r store) t ∙ e ∙ ap (λ x. run_of c rows s before x (take places words) 4294967295) (middle from to cells h),
      o ∙ ap (λ x. x ++ drop places words) (sym t),
    )

-- The cells taken are among those that were lent.
pub within : (r : Ran) (after output store cells words : List ℕ) (c : Chain) (rows : List ℕ) (s : State) (from to allowance : ℕ)
    → ran_of r after output ≡ run_of c rows s store (drop from (take to cells)) words allowance → from ≤ to → to ≤ length cells
    → from + (answer_counts r.answer).cells ≤ to
within r after output store cells words c rows s from to allowance e f t =
    let a : r.answer ≡ (run_of c rows s store (drop from (take to cells)) words allowance).answer = ap (λ (x : Run). x.answer) e in
    let h = lent_at_most c rows s store (drop from (take to cells)) words allowance in
    omega (arith, ap (λ (x : Answer). (answer_counts x).cells) a, h, length-slice from to cells t)

-- The call with what it wrote.
pub run_step : (j : Job) (at : ℕ) (rows store cells words text : List ℕ) (size places to from : ℕ)
    → size ≡ width j.arriving.reading.chain.kernel j.arriving.reading.chain.window.count
    → places ≡ min (length words) (room_for size (length text))
    → to ≡ min j.count (length cells) → from ≡ min j.from to
    → (r : Ran) (after output : List ℕ)
    → part_left r after output places ≡ part_run j.arriving.reading.chain rows j.state store cells words from to places
    → KeptBehind places words output
    → (c : Counts) → c ≡ answer_counts r.answer
    → (bytes : ℕ) (laid_text : List ℕ) → laid bytes laid_text ≡ firings_laid size j.state.fired.0 c.firings output text
    → (k : Job) → k ≡ job_after j r.answer r.state from to
    → left (record { job = k; at = at; bytes = bytes }) rows after cells output laid_text ≡ ran_on j at rows store cells words text
unfolding ran_on
run_step j at rows store cells words text size places to from e1 e2 e3 e4 r after output er eo c ec bytes laid_text el k ek =
    rw (sym e1, sym e2, sym e3, sym e4, sym er, sym eo, ek, sym ec, sym el)
