-- The chain sheet, line by line as it arrives: what the program `run` writes is what is due of the rest.
use Prim.Native.Nat.{ℕ, suc, ◌≤◌, ◌<◌}
use mathlib.Core.Bool.{Bool, true, false, cond}
use mathlib.Core.List.{List, [], ◌∷◌, ◌++◌}
use mathlib.Core.Path.{◌≡◌, refl, sym, ap, ◌∙◌, subst}
use native.Mathlib.Omega.{arith}
use lib.Dec.{eqb}
use lib.ListN.{length, drop, replicate}
use borrow.Author.Tests.{eq-eqb, ne_eqb}
use Rattle.model.specs.declared.Arriving.{Arriving}
use Rattle.model.specs.declared.LineStep.{LineStep}
use Rattle.model.specs.declared.Reading.{Reading}
use Rattle.model.specs.declared.Refusal.{Refusal}
use Rattle.model.specs.declared.Refusal.TheVariants as refusal
use Rattle.std.specs.Prelude.{Ok, Err}
use Rattle.model.specs.Answers.{Verdict, by_verdict}
use Rattle.model.specs.Values.{trimmed}
use Rattle.model.specs.Judging.{judge_chain}
use Rattle.model_sheet.specs.Lines.{Line, line_feed, lines_of}
use Rattle.model_sheet.specs.Frames.{empty_frame, feeds, seen_of, row_numbers, numbers_feeds}
use Rattle.model_sheet.specs.Reading.{step_of, start, closes, complete, end_verdict, first_numbers, numbers_in}
use Rattle.model_run.specs.Running.{width_of}
use Rattle.model_sheet.specs.Arriving.{opened, stood_first, Arrived, opening, arrive, through_feed}
use Rattle.model_program.specs.Programs.{Split, sheet_and_behind, cells_in, behind_cells, whole_run, firings_text, end_text, refusal_text, run_text}
use Rattle.sheet_laws.proofs.Cases.{by_bool, by_eq}
use Rattle.sheet_laws.proofs.FixedMemory.{Bounded, start_bounded, no_line_feed, keeps_bounded}
use Rattle.sheet_trips.proofs.AsItArrives.{more, infront, last_line_lem, some, midway, held, standing, more_other, Own, more_feed, behind_first, more_accepted, Begins, behind_begins, front_feed, front_other}

-- What is written, given the numbers on the sheet's first line, its last step and the lines behind it.
unfoldable pub text_behind : (rows : List ℕ) → Split → List ℕ
text_behind rows p =
    let chain = p.step.reading.chain in
    let t = trimmed chain rows in
    let e = whole_run t (cells_in p.behind) in
    let done = e.standing.done in
    let text = firings_text (width_of t) 0 done.firings e.standing.output ++ end_text e.ending done.clocks (behind_cells p.behind) in
    by_verdict (end_verdict p.step (judge_chain chain rows)) text refusal_text

-- The sheet's last step and the lines behind it, of a whole input.
abbrev pub split_of : (input : List ℕ) → Split
split_of input = sheet_and_behind (numbers_in input) start (lines_of input)

pub run_text_lem : (input : List ℕ) (p : Split) → split_of input ≡ p → run_text input ≡ text_behind (numbers_in input) p
unfolding run_text text_behind
run_text_lem input p e = ap (text_behind (numbers_in input)) e

pub text_with : (input rows : List ℕ) (p : Split) → numbers_in input ≡ rows → split_of input ≡ p → run_text input ≡ text_behind rows p
text_with input rows p same e = run_text_lem input p e ∙ ap (λ (rows : List ℕ). text_behind rows p) same

-- A line that is turned back, the `04`, and any other.
module _ (rows : List ℕ) (r : Reading) (l : Line) (ls : List Line) where
  abbrev step_at : LineStep
  step_at = step_of true rows r (seen_of l.ended l.chars)

  line_back : (x : Refusal) → step_at.verdict ≡ Err x → sheet_and_behind rows r (l ∷ ls) ≡ record { step = step_at; behind = ls }
  unfolding sheet_and_behind
  line_back x e = rw e

  line_last : step_at.verdict ≡ Ok tt → complete step_at.reading ≡ true → sheet_and_behind rows r (l ∷ ls) ≡ record { step = step_at; behind = ls }
  unfolding sheet_and_behind
  line_last e s = rw (e, s)

  line_more : step_at.verdict ≡ Ok tt → complete step_at.reading ≡ false → sheet_and_behind rows r (l ∷ ls) ≡ sheet_and_behind rows step_at.reading ls
  unfolding sheet_and_behind
  line_more e s = rw (e, s)

text_refused : (rows : List ℕ) (p : Split) (x : Refusal) → p.step.verdict ≡ Err x → text_behind rows p ≡ refusal_text x
unfolding text_behind end_verdict
text_refused rows p x e = rw e

-- In the middle of the sheet, of which a line's characters have arrived: what is due of the rest.
pub record Midway (input : List ℕ) (a : Arriving) (rows rest : List ℕ) : Type 0 where
  pub reading : Reading
  pub chars : List ℕ
  pub arriving : a ≡ midway reading chars
  pub told : rows ≡ held (numbers_in input) reading chars
  pub bounded : Bounded reading
  pub begins : Begins (numbers_in input) reading (infront chars (lines_of rest))
  pub unended : complete reading ≡ false
  pub due : split_of input ≡ sheet_and_behind (numbers_in input) reading (infront chars (lines_of rest))

-- After a line or a part of one: still there, turned back, or behind the `04`.
pub data Read (input : List ℕ) (a : Arriving) (rows rest : List ℕ) : Type 0 where
  further : Midway input a rows rest → Read input a rows rest
  back : (x : Refusal) → a.verdict ≡ Err x → run_text input ≡ refusal_text x → Read input a rows rest
  whole : a.verdict ≡ Ok tt → complete a.reading ≡ true → numbers_in input ≡ rows
      → split_of input ≡ record { step = record { verdict = Ok tt; reading = a.reading }; behind = lines_of rest } → Read input a rows rest

pub opened_midway : (input : List ℕ) → Midway input opened opening.rows input
unfolding feeds numbers_feeds some infront complete closes numbers_in stood_first
opened_midway input = record { reading = start; chars = []; arriving = refl; told = refl; bounded = start_bounded; begins = λ _. refl; unended = refl; due = refl }

-- At the LF.
at_feed : (input : List ℕ) (r : Reading) (p : List ℕ) (c : ℕ) (rest : List ℕ) → c ≡ line_feed → Bounded r → Own (numbers_in input) r p
    → split_of input ≡ sheet_and_behind (numbers_in input) r (record { chars = p; ended = true } ∷ lines_of rest)
    → let a = more true (standing (numbers_in input) r p) c in Read input a.sheet a.rows rest
unfolding feeds some infront
at_feed input r p c rest feed few own due = go s.verdict refl
  where
    all : List ℕ
    all = numbers_in input

    l : Line
    l = record { chars = p; ended = true }

    s : LineStep
    s = step_of true all r (seen_of true p)

    go : (v : Verdict) → s.verdict ≡ v → let a = more true (standing all r p) c in Read input a.sheet a.rows rest
    go (Err x) e =
        subst (λ (a : Arrived). Read input a.sheet a.rows rest) (sym (more_feed true all r p c feed few own))
        (back x e (run_text_lem input _ (due ∙ line_back all r l (lines_of rest) x e) ∙ text_refused all _ x e))
    go (Ok _) e =
        let first = behind_first true all r (seen_of true p) e in
        subst (λ (a : Arrived). Read input a.sheet a.rows rest) (sym (more_accepted true all r p c feed few own e))
        (by_bool (complete s.reading)
        (λ t. whole refl t (sym (ap (λ (b : Bool). cond b (numbers_feeds (replicate row_numbers 0) empty_frame []) all) first))
        (due ∙ line_last all r l (lines_of rest) e t
        ∙ ap (λ (v : Verdict). let p : Split = record { step = record { verdict = v; reading = s.reading }; behind = lines_of rest } in p) e))
        (λ t. further (record {
          reading = s.reading;
          chars = [];
          arriving = refl;
          told = refl;
          bounded = keeps_bounded true all r (seen_of true p) few;
          begins = behind_begins true all r (seen_of true p) (lines_of rest) e;
          unended = t;
          due = due ∙ line_more all r l (lines_of rest) e t;
        })))

through_feed_lem : (c : ℕ) (cs : List ℕ) → c ≡ line_feed → through_feed (c ∷ cs) ≡ c ∷ []
unfolding through_feed
through_feed_lem c cs e = rw (eq-eqb _ _ e)

through_other : (c : ℕ) (cs : List ℕ) → (c ≡ line_feed → ⊥) → through_feed (c ∷ cs) ≡ c ∷ through_feed cs
unfolding through_feed
through_other c cs n = rw (ne_eqb _ _ n)

arrive_other : (all : List ℕ) (r : Reading) (p : List ℕ) (c : ℕ) (cs : List ℕ) → (c ≡ line_feed → ⊥)
    → arrive true (standing all r p) (c ∷ cs) ≡ arrive true (standing all r (p ++ (c ∷ []))) cs
unfolding arrive
arrive_other all r p c cs n = ap (λ a. arrive true a cs) (more_other true all r p c n)

line_from : (input cs more : List ℕ) (r : Reading) (p : List ℕ) → Bounded r → complete r ≡ false → Begins (numbers_in input) r (infront p (lines_of (cs ++ more)))
    → split_of input ≡ sheet_and_behind (numbers_in input) r (infront p (lines_of (cs ++ more)))
    → let a = arrive true (standing (numbers_in input) r p) (through_feed cs) in
    Read input a.sheet a.rows (drop (length (through_feed cs)) cs ++ more)
unfolding arrive through_feed
line_from input [] more r p few st begins due =
    further (record { reading = r; chars = p; arriving = refl; told = refl; bounded = few; begins = begins; unended = st; due = due })
line_from input (c ∷ cs) more r p few st begins due =
    by_eq c line_feed
    (λ e. let lines = front_feed p c (cs ++ more) e in
    rw (through_feed_lem c cs e)
    (at_feed input r p c (cs ++ more) e few (λ q. begins q ∙ ap first_numbers lines) (due ∙ ap (sheet_and_behind (numbers_in input) r) lines)))
    (λ n. let lines = front_other p c (cs ++ more) n in
    rw (through_other c cs n, arrive_other (numbers_in input) r p c (through_feed cs) n)
    (line_from input cs more r (p ++ (c ∷ [])) few st (λ q. begins q ∙ ap first_numbers lines) (due ∙ ap (sheet_and_behind (numbers_in input) r) lines)))

pub line_read : (input cs more : List ℕ) (a : Arriving) (rows : List ℕ) → Midway input a rows (cs ++ more)
    → let b = arrive true (record { sheet = a; rows = rows }) (through_feed cs) in Read input b.sheet b.rows (drop (length (through_feed cs)) cs ++ more)
line_read input cs more a rows m =
    rw (m.arriving, m.told) (line_from input cs more m.reading m.chars m.bounded m.unended m.begins m.due)

-- At the end of the input, in the middle of a line or between two.
cut_line : (rows : List ℕ) (r : Reading) (c : ℕ) (p : List ℕ) → text_behind rows (sheet_and_behind rows r (infront (c ∷ p) (lines_of []))) ≡ refusal_text refusal.Malformed
unfolding lines_of
cut_line rows r c p =
    let l : Line = record { chars = c ∷ p; ended = false } in
    let e = ap (λ s. s.verdict) (no_line_feed true rows r (c ∷ p)) in
    ap (λ ls. text_behind rows (sheet_and_behind rows r ls)) (last_line_lem c p) ∙ ap (text_behind rows) (line_back rows r l [] refusal.Malformed e) ∙ text_refused rows _ refusal.Malformed e

no_line : (rows : List ℕ) (r : Reading) → complete r ≡ false → text_behind rows (sheet_and_behind rows r (lines_of [])) ≡ refusal_text refusal.Misplaced
unfolding lines_of sheet_and_behind text_behind end_verdict
no_line rows r s = rw s

pub sheet_cut : (input : List ℕ) (a : Arriving) (rows : List ℕ) → Midway input a rows []
    → (a.begun ≡ true → run_text input ≡ refusal_text refusal.Malformed) × (a.begun ≡ false → run_text input ≡ refusal_text refusal.Misplaced)
unfolding some infront
sheet_cut input a rows m = go m.chars (ap (λ b. b.begun) m.arriving) (run_text_lem input _ m.due)
  where
    all : List ℕ
    all = numbers_in input

    go : (p : List ℕ) → a.begun ≡ some p → run_text input ≡ text_behind all (sheet_and_behind all m.reading (infront p (lines_of [])))
        → (a.begun ≡ true → run_text input ≡ refusal_text refusal.Malformed) × (a.begun ≡ false → run_text input ≡ refusal_text refusal.Misplaced)
    go [] e due = (λ t. absurd (let z : true ≡ false = sym t ∙ e in let y : ◌≡◌ {A = ℕ} 0 1 = cc in omega arith), λ _. due ∙ no_line all m.reading m.unended)
    go (c ∷ p) e due = (λ _. due ∙ cut_line all m.reading c p, λ t. absurd (let z : false ≡ true = sym t ∙ e in let y : ◌≡◌ {A = ℕ} 0 1 = cc in omega arith))

no_more : (rows : List ℕ) (r : Reading) → sheet_and_behind rows r [] ≡ record { step = record { verdict = Ok tt; reading = r }; behind = [] }
unfolding sheet_and_behind
no_more rows r = refl

-- There the `04` is missing.
pub sheet_unended : (input : List ℕ) (a : Arriving) (rows : List ℕ) → Midway input a rows [] → complete (split_of input).step.reading ≡ false
unfolding infront lines_of
sheet_unended input a rows m = go m.chars m.due
  where
    all : List ℕ
    all = numbers_in input

    go : (p : List ℕ) → split_of input ≡ sheet_and_behind all m.reading (infront p (lines_of [])) → complete (split_of input).step.reading ≡ false
    go [] e = ap (λ (x : Split). complete x.step.reading) (e ∙ no_more all m.reading) ∙ m.unended
    go (c ∷ p) e =
        let l : Line = record { chars = c ∷ p; ended = false } in
        let cut = no_line_feed true all m.reading (c ∷ p) in
        let back = line_back all m.reading l [] refusal.Malformed (ap (λ (s : LineStep). s.verdict) cut) in
        ap (λ (x : Split). complete x.step.reading) (e ∙ ap (λ ls. sheet_and_behind all m.reading ls) (last_line_lem c p) ∙ back)
        ∙ ap (λ (s : LineStep). complete s.reading) cut ∙ m.unended

-- Behind the `04`: the chain is judged, and an accepted one is run.
pub chain_back : (rows : List ℕ) (r : Reading) (ls : List Line) (x : Refusal) → complete r ≡ true → judge_chain r.chain rows ≡ Err x
    → text_behind rows (record { step = record { verdict = Ok tt; reading = r }; behind = ls }) ≡ refusal_text x
unfolding text_behind end_verdict
chain_back rows r ls x s e = rw (s, e)

pub chain_runs : (rows : List ℕ) (r : Reading) (ls : List Line) → complete r ≡ true → judge_chain r.chain rows ≡ Ok tt
    → let t = trimmed r.chain rows in
    text_behind rows (record { step = record { verdict = Ok tt; reading = r }; behind = ls })
    ≡ firings_text (width_of t) 0 (whole_run t (cells_in ls)).standing.done.firings (whole_run t (cells_in ls)).standing.output
    ++ end_text (whole_run t (cells_in ls)).ending (whole_run t (cells_in ls)).standing.done.clocks (behind_cells ls)
unfolding text_behind end_verdict
chain_runs rows r ls s e = rw (s, e)

-- A piece of a line has a character where there is one, and none that is not there.
pub piece_within : (cs : List ℕ) → length (through_feed cs) ≤ length cs
unfolding through_feed
piece_within [] = omega arith
piece_within (c ∷ cs) = go (eqb c line_feed) (piece_within cs)
  where
    go : (b : Bool) → length (through_feed cs) ≤ length cs → length (cond b (c ∷ []) (c ∷ through_feed cs)) ≤ suc (length cs)
    go true h = omega arith
    go false h = omega arith

pub piece_some : (cs : List ℕ) → 0 < length cs → 0 < length (through_feed cs)
unfolding through_feed
piece_some [] h = absurd (omega arith)
piece_some (c ∷ cs) h = go (eqb c line_feed)
  where
    go : (b : Bool) → 0 < length (cond b (c ∷ []) (c ∷ through_feed cs))
    go true = omega arith
    go false = omega arith
