-- A call with its share, and calls in turn.
use Rattle.std.proofs.Common.{◌≡◌, ℕ, zero, suc, ◌+◌, ◌-◌, ◌<◌, ◌≤◌, min, Bool, true, false, List, [], ◌∷◌, ◌++◌, length, take, drop, sym, refl, ap, ◌∙◌, arith}
use lib.Seq.{take-nil}
use Rattle.model.specs.declared.Chain.{Chain}
use Rattle.model.specs.declared.Ran.{Ran}
use Rattle.model.specs.declared.State.{State}
use Rattle.model_run.specs.Running.{Run as Left, run_of}
use Rattle.runner.specs.Runs.{ran_of}
use Rattle.case_runs.specs.declared.Run.{Run}
use Rattle.case_runs.specs.declared.Share.{Share}
use Rattle.case_runs.specs.CaseRuns.{lent, Course, course, called, called_on, stopped}

take_least : (m n : ℕ) (l : List ℕ) → m ≡ min n (length l) → take m l ≡ take n l
take_least m n [] e = take-nil m ∙ sym (take-nil n)
take_least zero zero (x ∷ xs) e = refl
take_least zero (suc n) (x ∷ xs) e = absurd (omega (arith, e))
take_least (suc m) zero (x ∷ xs) e = absurd (omega (arith, e))
take_least (suc m) (suc n) (x ∷ xs) e = ap (λ l. x ∷ l) (take_least m n xs (omega (arith, e)))

drop_none : (n : ℕ) → drop {A = ℕ} n [] ≡ []
drop_none zero = refl
drop_none (suc n) = refl

drop_least : (m n : ℕ) (l : List ℕ) → m ≡ min n (length l) → drop m l ≡ drop n l
drop_least m n [] e = drop_none m ∙ sym (drop_none n)
drop_least zero zero (x ∷ xs) e = refl
drop_least zero (suc n) (x ∷ xs) e = absurd (omega (arith, e))
drop_least (suc m) zero (x ∷ xs) e = absurd (omega (arith, e))
drop_least (suc m) (suc n) (x ∷ xs) e = drop_least m n xs (omega (arith, e))

length_rest : (n : ℕ) (l : List ℕ) → length (drop n l) ≡ length l - n
length_rest zero l = omega arith
length_rest (suc n) [] = omega arith
length_rest (suc n) (x ∷ xs) = length_rest n xs ∙ omega arith

-- The cells from `from` on, at most `count`.
share : (from count f n : ℕ) (l : List ℕ) → f ≡ min from (length l) → n ≡ min count (length l - f) → take ((f + n) - f) (drop f l) ≡ take count (drop from l)
share from count f n l e1 e2 =
    let a : (f + n) - f ≡ n = omega arith in
    let b : n ≡ min count (length (drop f l)) = e2 ∙ ap (min count) (sym (length_rest f l)) in
    ap (λ m. take m (drop f l)) a ∙ take_least n count (drop f l) b ∙ ap (take count) (drop_least f from l e1)

pub lent_part : (r : Ran) (after part : List ℕ) (c : Chain) (rows : List ℕ) (s : State) (h : Share) (cells store out : List ℕ) (f n end : ℕ)
    → f ≡ min h.from (length cells) → n ≡ min h.count (length cells - f) → end ≡ min h.places (length out)
    → ran_of r after part ≡ run_of c rows s store (take ((f + n) - f) (drop f cells)) (take end out) h.clocks
    → ran_of r after (part ++ drop end out) ≡ lent c rows s h cells store out
unfolding lent
lent_part r after part c rows s h cells store out f n end e1 e2 e3 e =
    let i : take ((f + n) - f) (drop f cells) ≡ take h.count (drop h.from cells) = share h.from h.count f n cells e1 e2 in
    let j : take end out ≡ take h.places out = take_least end h.places out e3 in
    let k : drop end out ≡ drop h.places out = drop_least end h.places out e3 in
    let whole : List ℕ → Left → Left = λ rest l. record { answer = l.answer; state = l.state; store = l.store; output = l.output ++ rest } in
    ap (whole (drop end out)) (e ∙ ap (λ x. run_of c rows s store x (take end out) h.clocks) i ∙ ap (λ x. run_of c rows s store (take h.count (drop h.from cells)) x h.clocks) j)
    ∙ ap (λ rest. whole rest (run_of c rows s store (take h.count (drop h.from cells)) (take h.places out) h.clocks)) k

-- A turn of the calls: the last, or one before others.
pub last_call : (n : ℕ) (c : Chain) (rows : List ℕ) (pieces : Bool) (width : ℕ) (cells : List ℕ) (k : Course) (r : Run) (store out : List ℕ)
    → 0 < n → course r store out ≡ called c rows pieces width cells k → stopped r.words r.done r.broken ≡ true
    → course r store out ≡ called_on n c rows pieces width cells k
unfolding called_on
last_call zero c rows pieces width cells k r store out h e s = absurd (omega (arith, h))
last_call (suc n) c rows pieces width cells k r store out h e s = rw (sym e, s)

pub one_call : (n : ℕ) (c : Chain) (rows : List ℕ) (pieces : Bool) (width : ℕ) (cells : List ℕ) (k : Course) (r : Run) (store out : List ℕ)
    → 0 < n → course r store out ≡ called c rows pieces width cells k → stopped r.words r.done r.broken ≡ false
    → called_on (n - 1) c rows pieces width cells (course r store out) ≡ called_on n c rows pieces width cells k
unfolding called_on
one_call zero c rows pieces width cells k r store out h e s = absurd (omega (arith, h))
one_call (suc n) c rows pieces width cells k r store out h e s = let m : suc n - 1 ≡ n = omega arith in rw (sym e, s, m)

pub no_calls : (n : ℕ) (c : Chain) (rows : List ℕ) (pieces : Bool) (width : ℕ) (cells : List ℕ) (k : Course) → n ≤ 0 → k ≡ called_on n c rows pieces width cells k
unfolding called_on
no_calls zero c rows pieces width cells k h = refl
no_calls (suc n) c rows pieces width cells k h = absurd (omega (arith, h))
