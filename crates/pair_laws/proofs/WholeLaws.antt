-- The raw chain's call: what it takes and makes in its clocks, and a piece that has the places of the whole.
use Prim.Native.Nat.{ℕ, suc, ◌+◌, ◌-◌, ◌*◌, ◌≤◌, ◌<◌}
use mathlib.Core.Bool.{Bool, true, false, cond, false≢true}
use mathlib.Core.List.{List, ◌++◌, append_assoc}
use mathlib.Core.Path.{◌≡◌, refl, sym, ◌∙◌, ap, subst}
use native.Mathlib.Nat.{suc-mul, mul-le-mul_right}
use native.Mathlib.Decide.{dec_le}
use native.Mathlib.Omega.{arith}
use lib.Dec.{ltb}
use lib.ListN.{length, take, drop, replicate, length-replicate, take-append-drop}
use lib.Seq.{length-take-le}
use Rattle.model.specs.Values.{Trimmed}
use Rattle.model_run.specs.Clock.{Layout, fires}
use Rattle.model_run.specs.Running.{layout, Standing, Ending, Done, Spent, Starved, Stalled, Full, goes, ends, Ended, clocked, call, events, begun, written_by, width_of, ended}
use Rattle.model.specs.declared.State.{State}
use Rattle.run_laws.proofs.Looks.{Looked, is_done, is_spent, is_starved, is_stalled, is_full_lem, along_call}
use Rattle.run_laws.proofs.Ends.{EndsSo, ends_so}
use Rattle.model.specs.Pairs.{raw_of}
use Rattle.model_run.specs.PairRuns.{by_rows}
use Rattle.pair_laws.proofs.RowsLaws.{rows_front}
use Rattle.pair_laws.proofs.BesideLaws.{alike_room}
use Rattle.pair_laws.proofs.RawLaws.{raw_width, raw_counters}
use Rattle.pair_laws.proofs.SameLaws.{Same, same_fire}
use Rattle.pair_laws.proofs.PieceLaws.{first_next, AsPiece, piece, whole, piece_long}
use Rattle.pair_laws.proofs.RoundLaws.{Gone, Ends, part, all, from}

module _ (L : Layout) (write : List ℕ → List ℕ) (size : ℕ) (lent : List ℕ) where
  -- No more cells and no more firings than clocks.
  pub record Slow (s : Standing) (r : Ended) : Type 0 where
    pub cells : r.standing.done.cells + s.done.clocks ≤ s.done.cells + r.standing.done.clocks
    pub firings : r.standing.done.firings + s.done.clocks ≤ s.done.firings + r.standing.done.clocks

  pub slow : (left : ℕ) (s : Standing) → Slow s (call L write size lent left s)
  unfolding clocked
  slow = along_call L write size lent (λ _ s r _. Slow s r) (λ left s e h. record { cells = omega arith; firings = omega arith }) step
    where
      step : (left : ℕ) (s : Standing) (r : Ended) (es : List Bool) → Looked L write size lent (suc left) s goes → Slow (clocked L write size lent s) r → Slow s r
      step left s r es h ih = record { cells = omega (arith, ih.cells, first_next L s.counters); firings = go (fires L s.counters) ih.firings }
        where
          go : (b : Bool) → r.standing.done.firings + suc s.done.clocks ≤ cond b (suc s.done.firings) s.done.firings + r.standing.done.clocks
              → r.standing.done.firings + s.done.clocks ≤ s.done.firings + r.standing.done.clocks
          go true e = omega arith
          go false e = omega arith

  made : (left : ℕ) (x : Standing) → (call L write size lent left x).standing.done.clocks ≤ x.done.clocks + left
  unfolding clocked
  made = along_call L write size lent (λ left x r _. r.standing.done.clocks ≤ x.done.clocks + left) (λ left x e h. omega arith) (λ left x r es h ih. omega (arith, ih))

module _ (t : Trimmed) (s : State) (store lent output : List ℕ) (allowance : ℕ) where
  pub slow_cells : (ended t s store lent output allowance).standing.done.cells ≤ (ended t s store lent output allowance).standing.done.clocks
  unfolding ended begun
  slow_cells = let x = (slow (layout t) (written_by t) (width_of t) lent allowance (begun t s store output)).cells in omega (arith, x)

  pub slow_firings : (ended t s store lent output allowance).standing.done.firings ≤ (ended t s store lent output allowance).standing.done.clocks
  unfolding ended begun
  slow_firings = let x = (slow (layout t) (written_by t) (width_of t) lent allowance (begun t s store output)).firings in omega (arith, x)

  pub within_allowance : (ended t s store lent output allowance).standing.done.clocks ≤ allowance
  unfolding ended begun
  within_allowance = let x = made (layout t) (written_by t) (width_of t) lent allowance (begun t s store output) in omega (arith, x)

fullness : Ending → Bool
fullness Done = false
fullness Spent = false
fullness Starved = false
fullness Stalled = false
fullness Full = true

-- Rows in front of more words.
pub rows_within : (n : ℕ) (write : List ℕ → List ℕ) (m : ℕ) (l r : List ℕ) → m * n ≤ length l → by_rows n write m (l ++ r) ≡ by_rows n write m l
rows_within n write m l r h =
    let x = take (m * n) l in
    let y = drop (m * n) l in
    let e = length-take-le (m * n) l h in
    ap (λ (z : List ℕ). by_rows n write m (z ++ r)) (sym (take-append-drop (m * n) l))
    ∙ ap (by_rows n write m) (append_assoc x y r)
    ∙ rows_front n write m x (y ++ r) e ∙ sym (rows_front n write m x y e)
    ∙ ap (by_rows n write m) (take-append-drop (m * n) l)

module _ (t : Trimmed) (some : 0 < t.count) (s : State) (store lent : List ℕ) (allowance R m : ℕ) (buffer : List ℕ) (long : length buffer ≡ m * t.count) (few : m ≤ R) where
  abbrev P : Ended
  P = piece t some s store lent allowance R m buffer long few

  abbrev W : Ended
  W = whole t some s store lent allowance R m buffer long few

  -- A piece that ends Full has made all its rows.
  pub full_made : P.ending ≡ Full → m ≤ P.standing.done.firings
  unfolding ended fullness
  full_made f = go P.ending f why.why
    where
      why : EndsSo (layout (raw_of t)) (written_by (raw_of t)) (width_of (raw_of t)) lent allowance P (events (layout (raw_of t)) (written_by (raw_of t)) (width_of (raw_of t)) lent allowance (begun (raw_of t) s store buffer))
      why = ends_so (layout (raw_of t)) (written_by (raw_of t)) (width_of (raw_of t)) lent allowance (begun (raw_of t) s store buffer)

      long_out : length P.standing.output ≡ m * t.count
      long_out = piece_long t some s store lent allowance R m buffer long few

      lacks : length P.standing.output < P.standing.done.firings * width_of (raw_of t) + width_of (raw_of t) → m ≤ P.standing.done.firings
      lacks h = at (dec_le m P.standing.done.firings)
        where
          at : Dec (m ≤ P.standing.done.firings) → m ≤ P.standing.done.firings
          at (yes y) = y
          at (no y) =
              let q : suc P.standing.done.firings ≤ m = omega arith in
              absurd (let z : ⊥ = omega (arith, subst (λ (w : ℕ). length P.standing.output < P.standing.done.firings * w + w) (raw_width t) h, long_out, suc-mul P.standing.done.firings t.count, mul-le-mul_right t.count q) in z)

      go : (e : Ending) → e ≡ Full → {rest : ℕ} → Looked (layout (raw_of t)) (written_by (raw_of t)) (width_of (raw_of t)) lent rest P.standing (ends e) → m ≤ P.standing.done.firings
      go e x (is_full_lem _ _ _ _ _ h) = lacks h
      go e x (is_done _) = absurd (false≢true (ap fullness x))
      go e x (is_spent _ _) = absurd (false≢true (ap fullness x))
      go e x (is_starved _ _ _) = absurd (false≢true (ap fullness x))
      go e x (is_stalled _ _ _ _) = absurd (false≢true (ap fullness x))

  -- A piece with the places of the whole ends it.
  pub last_all : m ≡ R → AsPiece t some s store lent allowance R m buffer long few
  unfolding ended begun Same by_rows
  last_all e =
      let L = layout (raw_of t) in
      let w = written_by (raw_of t) in
      let n = width_of (raw_of t) in
      let big : List ℕ = replicate (R * t.count) 0 in
      let same-long : length buffer ≡ length big = long ∙ ap (λ (x : ℕ). x * t.count) e ∙ sym (length-replicate {A = ℕ} (R * t.count) 0) in
      let al = alike_room L lent w w n n t.count (Same t some s store lent allowance 0 0) (same_fire t some s store lent allowance 0 0) allowance (begun (raw_of t) s store buffer) big
      (raw_counters t s store buffer) (λ f. ap (λ (x : ℕ). ltb x (f * n + n)) same-long) (λ write. refl) in
      let is = al.along.same in
      record {
        ending = al.ending;
        counters = ap (λ (x : Standing). x.counters) is;
        words = ap (λ (x : Standing). x.store) is;
        done = ap (λ (x : Standing). x.done) is;
        rows = λ write. al.along.related write ∙ ap (λ (x : Standing). by_rows t.count write P.standing.done.firings x.output) (sym is);
      }

-- ---- the round that ends the whole, where it has all rows that are left

module _ (t : Trimmed) (some : 0 < t.count) (s₀ : State) (store₀ lent : List ℕ) (allowance R : ℕ) where
  module _ {fired taken made : ℕ} {s : State} {store front : List ℕ} (g : Gone t some s₀ store₀ lent allowance R fired taken made s store front) (m : ℕ) (buffer : List ℕ) (fits : length buffer ≡ m * t.count) (most : m ≤ R - fired) where
    pub gone_all : m ≡ R - fired → Ends t some s₀ store₀ lent allowance R g m buffer fits most
    gone_all e =
        let p = last_all t some s store (drop taken lent) (allowance - made) (R - fired) m buffer fits most e in
        let k = (part t some s₀ store₀ lent allowance R g m buffer fits most).standing.done.firings in
        record {
          ending = g.ending ∙ p.ending;
          counters = g.counters ∙ p.counters;
          words = g.words ∙ p.words;
          cells = g.cells ∙ ap (λ d. taken + d.cells) p.done;
          clocks = g.clocks ∙ ap (λ d. made + d.clocks) p.done;
          firings = g.firings ∙ ap (λ d. fired + d.firings) p.done;
          rows = λ write.
              let fk : (from t some s₀ store₀ lent allowance R fired taken made s store).standing.done.firings ≡ k = ap (λ d. d.firings) p.done in
              ap (λ (j : ℕ). by_rows t.count write (fired + j) (all t some s₀ store₀ lent allowance R).standing.output) (sym fk) ∙ g.rows write
              ∙ ap (λ (x : List ℕ). by_rows t.count write fired front ++ x)
              (ap (λ (j : ℕ). by_rows t.count write j (from t some s₀ store₀ lent allowance R fired taken made s store).standing.output) fk ∙ sym (p.rows write));
        }
