-- A number is answered exactly if its condition holds first.
use Prim.Native.Nat.{ℕ, zero, suc, ◌<◌}
use mathlib.Core.Bool.{Bool, true, false, not, cond}
use mathlib.Core.List.{List, [], ◌∷◌, ◌++◌, flat_map, append_assoc, map-append}
use mathlib.Core.Path.{◌≡◌, refl, sym, ◌∙◌, ap, ap₂, subst}
use native.Mathlib.Nat.{le_of_suc-le-suc}
use native.Mathlib.Omega.{arith}
use lib.Dec.{eqb, ltb}
use lib.ListN.{length, get_or}
use Rattle.model.specs.Grounds.{Ground}
use Rattle.model.specs.Grounds.Ground.{rectangle, skewed}
use Rattle.model.specs.Values.{ground_of, Trimmed, trimmed, request_of}
use Rattle.model.specs.Answers.{Verdict, number_of, verdict_number, Check, check, first_of, by_verdict, verdict_of}
use Rattle.model.specs.Judging.{ground_refusal, window_checks, kernel_checks, chain_checks, value_checks, judged, judge_chain}
use Rattle.model.specs.Planning.{trimmed_request, judge_request}
use Rattle.model_run.specs.Running.{layout, counters_of, short_store, bad_state, judge_run}
use Rattle.model_sheet.specs.Lines.{Line, lines_of}
use Rattle.model_sheet.specs.Frames.{Seen, seen_of}
use Rattle.model_sheet.specs.Reading.{kind_of, second_of, malformed, line_checks, line_verdict, taken, step_of, start, complete, read_lines, end_verdict, numbers_in, read_chain, read_request, cell_verdict}
use Rattle.model_sheet.specs.Writing.{sheet_of, write_verdict}
use Rattle.model_program.specs.FirstChecks.{HoldsFirst, NoneHolds, AnswersFirst, numbers_of, conditions_of, value_conditions, grid_number, value_numbers, FirstChecks}
use Rattle.model_program.specs.FirstChecks.{lines_checks, all_taken, value_read, sheet_checks, line_numbers, sheet_numbers}
use Rattle.model.specs.declared.Chain.{Chain}
use Rattle.model.specs.declared.LineStep.{LineStep}
use Rattle.model.specs.declared.Reading.{Reading}
use Rattle.model.specs.declared.Refusal.TheVariants as refusal
use Rattle.model.specs.declared.State.{State}
use Rattle.std.specs.Prelude.{Ok, Err}
use Rattle.grid_laws.proofs.CheckLaws.{passes, then_checks, verdict_back}

-- What holds first of what stands behind a condition that does not hold.
behind : (b : Bool) (bs : List Bool) (k : ℕ) → b ≡ false → HoldsFirst bs k → HoldsFirst (b ∷ bs) (suc k)
behind b bs k e h = record { holds = h.holds; none_before = before }
  where
    before : (j : ℕ) → j < suc k → get_or (b ∷ bs) j false ≡ false
    before zero l = e
    before (suc j) l = h.none_before j (le_of_suc-le-suc l)

if_first : (cs : List Check) (k : ℕ) → HoldsFirst (conditions_of cs) k → verdict_number (first_of cs) ≡ get_or (numbers_of cs) k 0
unfolding conditions_of numbers_of first_of verdict_number
if_first [] k h = absurd (let z : ◌≡◌ {A = Bool} false true = h.holds in let y : ◌≡◌ {A = ℕ} 0 1 = cc in omega arith)
if_first (c ∷ cs) zero h = rw h.holds refl
if_first (c ∷ cs) (suc k) h =
    rw (h.none_before 0 (omega arith)) (if_first cs k (record { holds = h.holds; none_before = λ j l. h.none_before (suc j) (omega arith) }))

only_first : (cs : List Check) (x : ℕ) → 0 < x → verdict_number (first_of cs) ≡ x → (k : ℕ) × HoldsFirst (conditions_of cs) k × (get_or (numbers_of cs) k 0 ≡ x)
unfolding conditions_of numbers_of first_of verdict_number
only_first [] x h e = absurd (omega arith)
only_first (c ∷ cs) x h e = go c.holds refl e (only_first cs x h)
  where
    go : (b : Bool) → c.holds ≡ b → verdict_number (cond b (Err c.refusal) (first_of cs)) ≡ x
        → (verdict_number (first_of cs) ≡ x → (k : ℕ) × HoldsFirst (conditions_of cs) k × (get_or (numbers_of cs) k 0 ≡ x))
        → (k : ℕ) × HoldsFirst (conditions_of (c ∷ cs)) k × (get_or (numbers_of (c ∷ cs)) k 0 ≡ x)
    go true t e later = (0, record { holds = t; none_before = λ j l. absurd (omega arith) }, e)
    go false t e later = let (k, f, n) = later e in (suc k, behind c.holds (conditions_of cs) k t f, n)

if_none : (cs : List Check) → NoneHolds (conditions_of cs) → first_of cs ≡ Ok tt
unfolding conditions_of first_of
if_none [] h = refl
if_none (c ∷ cs) h = rw (h 0) (if_none cs (λ k. h (suc k)))

only_none : (cs : List Check) → first_of cs ≡ Ok tt → NoneHolds (conditions_of cs)
unfolding conditions_of
only_none [] e k = refl
only_none (c ∷ cs) e zero = (passes c.holds c.refusal cs e).0
only_none (c ∷ cs) e (suc k) = only_none cs (passes c.holds c.refusal cs e).1 k

checks : (cs : List Check) → AnswersFirst (numbers_of cs) (conditions_of cs) (first_of cs)
checks cs = record { if_first = if_first cs; only_first = only_first cs; if_none = if_none cs; only_none = only_none cs }

-- The checks of a value, and others behind them.
grid_number_lem : (g : Ground) → number_of (ground_refusal g) ≡ grid_number g
unfolding number_of
grid_number_lem (rectangle sizes) = refl
grid_number_lem (skewed rs) = refl

value_behind : (t : Trimmed) (cs : List Check) → AnswersFirst (value_numbers t.the_ground ++ numbers_of cs) (value_conditions t ++ conditions_of cs) (first_of (value_checks t ++ cs))
unfolding numbers_of conditions_of number_of value_conditions value_checks window_checks kernel_checks chain_checks
value_behind t cs =
    subst (λ (n : ℕ). AnswersFirst (n ∷ 4 ∷ 5 ∷ 6 ∷ 15 ∷ 7 ∷ 8 ∷ 9 ∷ 14 ∷ numbers_of cs) (conditions_of (value_checks t ++ cs)) (first_of (value_checks t ++ cs))) (grid_number_lem t.the_ground)
    (checks (value_checks t ++ cs))

value : (t : Trimmed) → AnswersFirst (value_numbers t.the_ground) (value_conditions t) (first_of (value_checks t))
unfolding numbers_of conditions_of number_of value_conditions value_checks window_checks kernel_checks chain_checks
value t = value_behind t []

run : (t : Trimmed) (s : State) (store : List ℕ)
    → AnswersFirst (value_numbers t.the_ground ++ (10 ∷ 11 ∷ [])) (value_conditions t ++ (short_store t store ∷ bad_state (layout t) (counters_of t.count s) ∷ [])) (judge_run t s store)
unfolding numbers_of conditions_of number_of judge_run
run t s store = value_behind t _

write : (c : Chain) (rows : List ℕ) (room : ℕ)
    → AnswersFirst (value_numbers (ground_of c.grid rows) ++ (12 ∷ [])) (value_conditions (trimmed c rows) ++ (ltb room (length (sheet_of c rows)) ∷ [])) (write_verdict c rows room)
unfolding trimmed numbers_of conditions_of number_of write_verdict judge_chain judged
write c rows room =
    let last = check (ltb room (length (sheet_of c rows))) refusal.ShortOutput ∷ [] in
    subst (AnswersFirst (value_numbers (ground_of c.grid rows) ++ (12 ∷ [])) (value_conditions (trimmed c rows) ++ (ltb room (length (sheet_of c rows)) ∷ []))) (then_checks (value_checks (trimmed c rows)) last)
    (value_behind (trimmed c rows) last)

line : (chain_sheet : Bool) (rows : List ℕ) (r : Reading) (l : Seen)
    → AnswersFirst line_numbers (conditions_of (line_checks chain_sheet rows r l)) (line_verdict chain_sheet rows r l)
unfolding numbers_of number_of line_checks line_verdict
line chain_sheet rows r l = checks (line_checks chain_sheet rows r l)

-- The checks of a sheet, one after another: the reading goes on where a line's pass, and its verdict is the first that does not.
lines_first : (chain_sheet : Bool) (rows : List ℕ) (checked : Reading → List Check) (r : Reading) (ls : List Line)
    → end_verdict (read_lines chain_sheet rows r ls) (first_of (checked (read_lines chain_sheet rows r ls).reading))
    ≡ first_of (lines_checks chain_sheet rows r ls ++ (check (not (complete (all_taken r ls))) refusal.Misplaced ∷ checked (all_taken r ls)))
unfolding read_lines lines_checks all_taken end_verdict step_of line_verdict first_of
lines_first chain_sheet rows checked r [] = go (complete r)
  where
    go : (b : Bool) → cond b (first_of (checked r)) (Err refusal.Misplaced) ≡ cond (not b) (Err refusal.Misplaced) (first_of (checked r))
    go true = refl
    go false = refl
lines_first chain_sheet rows checked r (l ∷ ls) =
    go (first_of here) (lines_first chain_sheet rows checked (taken r seen.first) ls) ∙ sym (then_checks here below) ∙ ap first_of (sym (append_assoc here (lines_checks chain_sheet rows (taken r seen.first) ls) last))
  where
    seen : Seen
    seen = seen_of l.ended l.chars

    here : List Check
    here = line_checks chain_sheet rows r seen

    last : List Check
    last = check (not (complete (all_taken (taken r seen.first) ls))) refusal.Misplaced ∷ checked (all_taken (taken r seen.first) ls)

    below : List Check
    below = lines_checks chain_sheet rows (taken r seen.first) ls ++ last

    rest : LineStep
    rest = read_lines chain_sheet rows (taken r seen.first) ls

    -- The step, by the line's verdict.
    stepped : Verdict → LineStep
    stepped v = record { verdict = v; reading = by_verdict v (taken r seen.first) (λ x. r) }

    further : Verdict → LineStep
    further v = by_verdict v (read_lines chain_sheet rows (stepped v).reading ls) (λ x. stepped v)

    go : (v : Verdict) → end_verdict rest (first_of (checked rest.reading)) ≡ first_of below
        → end_verdict (further v) (first_of (checked (further v).reading)) ≡ by_verdict v (first_of below) Err
    go (Ok _) e = e
    go (Err x) e = refl

-- The numbers of the lines.
lines_numbers : (chain_sheet : Bool) (rows : List ℕ) (r : Reading) (ls : List Line) → numbers_of (lines_checks chain_sheet rows r ls) ≡ flat_map (λ _. line_numbers) ls
unfolding lines_checks numbers_of number_of line_checks flat_map
lines_numbers chain_sheet rows r [] = refl
lines_numbers chain_sheet rows r (l ∷ ls) =
    let seen = seen_of l.ended l.chars in
    ap (λ (ns : List ℕ). 1 ∷ 2 ∷ 3 ∷ 16 ∷ 1 ∷ 3 ∷ 16 ∷ 4 ∷ 13 ∷ ns) (lines_numbers chain_sheet rows (taken r seen.first) ls)

value_numbers_lem : (t : Trimmed) → numbers_of (value_checks t) ≡ value_numbers t.the_ground
unfolding numbers_of number_of value_checks window_checks kernel_checks chain_checks
value_numbers_lem t = ap (λ (n : ℕ). n ∷ 4 ∷ 5 ∷ 6 ∷ 15 ∷ 7 ∷ 8 ∷ 9 ∷ 14 ∷ []) (grid_number_lem t.the_ground)

sheet_numbers_lem : (chain_sheet : Bool) (sheet : List ℕ) → numbers_of (sheet_checks chain_sheet sheet) ≡ sheet_numbers chain_sheet sheet
unfolding sheet_checks sheet_numbers numbers_of number_of
sheet_numbers_lem chain_sheet sheet =
    map-append (λ (c : Check). number_of c.refusal) (lines_checks chain_sheet (numbers_in sheet) start (lines_of sheet)) _
    ∙ ap₂ (λ (a b : List ℕ). a ++ (2 ∷ b)) (lines_numbers chain_sheet (numbers_in sheet) start (lines_of sheet)) (value_numbers_lem (value_read chain_sheet sheet))

sheet : (chain_sheet : Bool) (s : List ℕ) (v : Verdict) → v ≡ first_of (sheet_checks chain_sheet s) → AnswersFirst (sheet_numbers chain_sheet s) (conditions_of (sheet_checks chain_sheet s)) v
sheet chain_sheet s v e = rw (e, sym (sheet_numbers_lem chain_sheet s)) (checks (sheet_checks chain_sheet s))

chain_first : (s : List ℕ) → verdict_of (read_chain s) ≡ first_of (sheet_checks true s)
unfolding read_chain sheet_checks value_read judge_chain judged
chain_first s = verdict_back _ _ ∙ lines_first true (numbers_in s) (λ r. value_checks (trimmed r.chain (numbers_in s))) start (lines_of s)

request_first : (s : List ℕ) → verdict_of (read_request s) ≡ first_of (sheet_checks false s)
unfolding read_request sheet_checks value_read judge_request judged
request_first s = verdict_back _ _ ∙ lines_first false (numbers_in s) (λ r. value_checks (trimmed_request (request_of r.chain) (numbers_in s))) start (lines_of s)

cell : (l : Seen) → AnswersFirst (1 ∷ 2 ∷ []) (malformed l.sound l.len (kind_of l) (second_of l) ∷ not (eqb (kind_of l) 5) ∷ []) (cell_verdict l)
unfolding numbers_of conditions_of number_of cell_verdict
cell l = checks _

pub first_checks : FirstChecks
unfolding judge_chain judge_request judged trimmed trimmed_request
first_checks = record {
  checks = checks;
  chain = λ c rows. value (trimmed c rows);
  request = λ r rows. value (trimmed_request r rows);
  run = run;
  write = write;
  line = line;
  chain_sheet = λ s. sheet true s (verdict_of (read_chain s)) (chain_first s);
  request_sheet = λ s. sheet false s (verdict_of (read_request s)) (request_first s);
  cell = cell;
}
