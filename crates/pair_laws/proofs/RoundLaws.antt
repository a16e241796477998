-- The loop over pieces: what it keeps.
use Prim.Native.Nat.{ℕ, ◌+◌, ◌-◌, ◌*◌, ◌≤◌, ◌<◌}
use mathlib.Core.List.{List, [], ◌++◌, append_assoc}
use mathlib.Core.Path.{◌≡◌, refl, sym, ◌∙◌, ap, ap₂}
use native.Mathlib.Nat.{zero-add, zero-mul, add-mul, mul-le-mul_right}
use native.Mathlib.Omega.{arith}
use lib.ListN.{length, take, drop, replicate, length-append, take-append-drop}
use lib.Seq.{sets, drop-drop, length-take-le}
use Rattle.model.specs.Values.{Trimmed}
use Rattle.model_run.specs.Running.{with_counters, Full, Ended, ended}
use Rattle.model.specs.declared.State.{State}
use Rattle.model.specs.Pairs.{raw_of}
use Rattle.model_run.specs.PairRuns.{by_rows}
use Rattle.pair_laws.proofs.RowsLaws.{rows_front, rows_join, rows_length, sets_join}
use Rattle.pair_laws.proofs.PieceLaws.{last, goes_on_lem, made_few, piece_long}

module _ (t : Trimmed) (some : 0 < t.count) (s₀ : State) (store₀ lent : List ℕ) (allowance R : ℕ) where
  abbrev n : ℕ
  n = t.count

  -- The raw chain's call with R rows, from there, where `fired` of them, `taken` cells and `made` clocks are gone.
  abbrev pub from : (fired taken made : ℕ) → State → List ℕ → Ended
  from fired taken made s store = ended (raw_of t) s store (drop taken lent) (replicate ((R - fired) * n) 0) (allowance - made)

  abbrev pub all : Ended
  all = ended (raw_of t) s₀ store₀ lent (replicate (R * n) 0) allowance

  -- The whole is what is gone and the call from here; `front` has the rows so far.
  pub record Gone (fired taken made : ℕ) (s : State) (store front : List ℕ) : Type 0 where
    pub few : fired ≤ R
    pub long : length front ≡ fired * n
    pub ending : all.ending ≡ (from fired taken made s store).ending
    pub counters : all.standing.counters ≡ (from fired taken made s store).standing.counters
    pub words : all.standing.store ≡ (from fired taken made s store).standing.store
    pub cells : all.standing.done.cells ≡ taken + (from fired taken made s store).standing.done.cells
    pub clocks : all.standing.done.clocks ≡ made + (from fired taken made s store).standing.done.clocks
    pub firings : all.standing.done.firings ≡ fired + (from fired taken made s store).standing.done.firings
    pub rows : (write : List ℕ → List ℕ) → by_rows n write (fired + (from fired taken made s store).standing.done.firings) all.standing.output
        ≡ by_rows n write fired front ++ by_rows n write (from fired taken made s store).standing.done.firings (from fired taken made s store).standing.output

  pub gone_start : Gone 0 0 0 s₀ store₀ []
  unfolding by_rows
  gone_start =
      let r : R - 0 ≡ R = omega arith in
      let m : allowance - 0 ≡ allowance = omega arith in
      record {
        few = omega arith;
        long = sym (zero-mul n);
        ending = rw (r, m) refl;
        counters = rw (r, m) refl;
        words = rw (r, m) refl;
        cells = rw (r, m) (sym (zero-add _));
        clocks = rw (r, m) (sym (zero-add _));
        firings = rw (r, m) (sym (zero-add _));
        rows = λ write. rw (r, m) (ap (λ (k : ℕ). by_rows n write k all.standing.output) (zero-add all.standing.done.firings));
      }

  -- A piece from here, with m rows in a buffer.
  module _ {fired taken made : ℕ} {s : State} {store front : List ℕ} (g : Gone fired taken made s store front) (m : ℕ) (buffer : List ℕ) (fits : length buffer ≡ m * n) (most : m ≤ R - fired) where
    abbrev pub part : Ended
    part = ended (raw_of t) s store (drop taken lent) buffer (allowance - made)

    abbrev k : ℕ
    k = part.standing.done.firings

    -- The piece ends the whole.
    pub record Ends : Type 0 where
      pub ending : all.ending ≡ part.ending
      pub counters : all.standing.counters ≡ part.standing.counters
      pub words : all.standing.store ≡ part.standing.store
      pub cells : all.standing.done.cells ≡ taken + part.standing.done.cells
      pub clocks : all.standing.done.clocks ≡ made + part.standing.done.clocks
      pub firings : all.standing.done.firings ≡ fired + part.standing.done.firings
      pub rows : (write : List ℕ → List ℕ) → by_rows n write (fired + k) all.standing.output ≡ by_rows n write fired front ++ by_rows n write k part.standing.output

    pub gone_last : (part.ending ≡ Full → ⊥) → Ends
    gone_last f =
        let p = last t some s store (drop taken lent) (allowance - made) (R - fired) m buffer fits most f in
        record {
          ending = g.ending ∙ p.ending;
          counters = g.counters ∙ p.counters;
          words = g.words ∙ p.words;
          cells = g.cells ∙ ap (λ d. taken + d.cells) p.done;
          clocks = g.clocks ∙ ap (λ d. made + d.clocks) p.done;
          firings = g.firings ∙ ap (λ d. fired + d.firings) p.done;
          rows = λ write.
              let fk : (from fired taken made s store).standing.done.firings ≡ k = ap (λ d. d.firings) p.done in
              ap (λ (j : ℕ). by_rows n write (fired + j) all.standing.output) (sym fk) ∙ g.rows write
              ∙ ap (λ (x : List ℕ). by_rows n write fired front ++ x) (ap (λ (j : ℕ). by_rows n write j (from fired taken made s store).standing.output) fk ∙ sym (p.rows write));
        }

    -- Or it is gone too, and the call goes on behind it.
    abbrev next : State
    next = with_counters s part.standing.counters

    abbrev P : List ℕ
    P = take (k * n) part.standing.output

    pub gone_next : Gone (fired + k) (taken + part.standing.done.cells) (made + part.standing.done.clocks) next part.standing.store (front ++ P)
    gone_next =
        let q = goes_on_lem t some s store (drop taken lent) (allowance - made) (R - fired) m buffer fits most in
        let km = made_few t some s store (drop taken lent) (allowance - made) (R - fired) m buffer fits most in
        let a = part.standing.done.cells in
        let b = part.standing.done.clocks in
        let far = piece_long t some s store (drop taken lent) (allowance - made) (R - fired) m buffer fits most in
        let room = mul-le-mul_right n km in
        let pl : length P ≡ k * n = length-take-le (k * n) part.standing.output (omega arith) in
        let er : R - fired - k ≡ R - (fired + k) = omega arith in
        let ea : allowance - made - b ≡ allowance - (made + b) = omega arith in
        let E : ended (raw_of t) next part.standing.store (drop a (drop taken lent)) (replicate ((R - fired - k) * n) 0) (allowance - made - b) ≡ from (fired + k) (taken + a) (made + b) next part.standing.store =
        rw (drop-drop a taken lent, er, ea) refl in
        let fE : (ended (raw_of t) next part.standing.store (drop a (drop taken lent)) (replicate ((R - fired - k) * n) 0) (allowance - made - b)).standing.done.firings
        ≡ (from (fired + k) (taken + a) (made + b) next part.standing.store).standing.done.firings = ap (λ (e : Ended). e.standing.done.firings) E in
        record {
          few = omega (arith, g.few);
          long = length-append front P ∙ omega (arith, g.long, pl, add-mul fired k n);
          ending = g.ending ∙ q.ending ∙ ap (λ (e : Ended). e.ending) E;
          counters = g.counters ∙ q.counters ∙ ap (λ (e : Ended). e.standing.counters) E;
          words = g.words ∙ q.words ∙ ap (λ (e : Ended). e.standing.store) E;
          cells = omega (arith, g.cells, q.cells, ap (λ (e : Ended). e.standing.done.cells) E);
          clocks = omega (arith, g.clocks, q.clocks, ap (λ (e : Ended). e.standing.done.clocks) E);
          firings = omega (arith, g.firings, q.firings, fE);
          rows = λ write.
              let here = from fired taken made s store in
              let there = ended (raw_of t) next part.standing.store (drop a (drop taken lent)) (replicate ((R - fired - k) * n) 0) (allowance - made - b) in
              let c : fired + k + (from (fired + k) (taken + a) (made + b) next part.standing.store).standing.done.firings ≡ fired + here.standing.done.firings = omega (arith, q.firings, fE) in
              let own : by_rows n write k P ≡ by_rows n write k part.standing.output =
              sym (ap (by_rows n write k) (sym (take-append-drop (k * n) part.standing.output)) ∙ rows_front n write k P (drop (k * n) part.standing.output) pl) in
              ap (λ (j : ℕ). by_rows n write j all.standing.output) c ∙ g.rows write
              ∙ ap (λ (x : List ℕ). by_rows n write fired front ++ x) (ap (λ (j : ℕ). by_rows n write j here.standing.output) q.firings ∙ q.rows write)
              ∙ sym (append_assoc (by_rows n write fired front) (by_rows n write k part.standing.output) (by_rows n write there.standing.done.firings there.standing.output))
              ∙ ap₂ (λ (x y : List ℕ). x ++ y) (sym (rows_join n write fired k front P g.long ∙ ap (λ (x : List ℕ). by_rows n write fired front ++ x) own))
              (ap (λ (e : Ended). by_rows n write e.standing.done.firings e.standing.output) E);
        }

-- The output of a kernel, round by round.
module _ (n : ℕ) (write : List ℕ → List ℕ) (size : ℕ) (long : (ws : List ℕ) → length (write ws) ≡ size) where
  pub given_next : (output own front rows : List ℕ) (fired k : ℕ) → own ≡ sets output 0 (by_rows n write fired front)
      → sets own (fired * size) (by_rows n write k rows) ≡ sets output 0 (by_rows n write fired front ++ by_rows n write k rows)
  given_next output own front rows fired k e =
      ap (λ (o : List ℕ). sets o (fired * size) (by_rows n write k rows)) e
      ∙ ap (λ (j : ℕ). sets (sets output 0 (by_rows n write fired front)) j (by_rows n write k rows)) (sym (rows_length n write size long fired front) ∙ sym (zero-add _))
      ∙ sets_join (by_rows n write fired front) (by_rows n write k rows) output 0
