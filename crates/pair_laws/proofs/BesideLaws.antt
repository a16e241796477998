-- Two calls that differ only in what a firing writes and in their outputs: clocks, cells, counters, store and outcome do not depend on it while there are places.
use Prim.Native.Nat.{ℕ, zero, suc, ◌+◌, ◌-◌, ◌*◌, ◌≤◌, ◌<◌}
use mathlib.Core.Bool.{Bool, true, false, not, cond, ◌&&◌, false≢true}
use mathlib.Core.List.{List, [], ◌∷◌}
use mathlib.Core.Path.{◌≡◌, refl, sym, ◌∙◌, ap}
use native.Mathlib.Omega.{arith}
use lib.Dec.{eqb, ltb, leb}
use lib.ListN.{length, length-map}
use lib.Seq.{sets, length-sets}
use borrow.Author.Tests.{le-ltb, lt-leb, ne_eqb}
use Rattle.model_run.specs.Clock.{Layout, Counters, fires, moves, next}
use Rattle.model_run.specs.Store.{presented}
use Rattle.model_run.specs.Running.{Standing, Ending, Done, Spent, Starved, Stalled, Full, Look, goes, ends, Ended, by_look, words, clocked, look, call, events}
use Rattle.flow.proofs.Tests.{by_next}
use Rattle.run_laws.proofs.Looks.{Looked, is_going, looked, along_call}
use Rattle.run_laws.proofs.Lengths.{length_turns}
use Rattle.model_run.specs.PairRuns.{onto}

-- ---- small things

presented_length : (capacity : ℕ → ℕ) (k x : ℕ) (store ps : List ℕ) → length (presented capacity k x store ps) ≡ length ps
unfolding presented
presented_length capacity k x store [] = refl
presented_length capacity k x store (p ∷ []) = refl
presented_length capacity k x store (p ∷ q ∷ qs) = ap suc (presented_length capacity (suc k) _ store (q ∷ qs))

length_next : (L : Layout) (c : Counters) → length (next L c).passed ≡ length c.passed
length_next L c = by_next L (λ x. length x.passed ≡ length c.passed) c (λ _. length-map c.passed suc) (λ _. length_turns _ _ 0 _ c.passed)

is_goes : Look → Bool
is_goes goes = true
is_goes (ends e) = false

-- A clock that is made has its places.
looks_room : (L : Layout) (write : List ℕ → List ℕ) (size : ℕ) (lent : List ℕ) (left : ℕ) (s : Standing) → look L write size lent left s ≡ goes
    → fires L s.counters ≡ true → s.done.firings * size + size ≤ length s.output
unfolding is_goes
looks_room L write size lent left s x = from (look L write size lent left s) x (looked L write size lent left s)
  where
    from : (l : Look) → l ≡ goes → Looked L write size lent left s l → fires L s.counters ≡ true → s.done.firings * size + size ≤ length s.output
    from goes y (is_going _ _ _ _ r) = r
    from (ends e) y h = absurd (false≢true (ap is_goes y))

module _ (L : Layout) (lent : List ℕ) (write write' : List ℕ → List ℕ) (size size' : ℕ) where
  -- The other output after a clock.
  unfoldable pub written' : Standing → List ℕ → List ℕ
  written' s o = cond (fires L s.counters) (sets o (s.done.firings * size') (write' (words L write size lent s))) o

  clocked_onto : (s : Standing) (o : List ℕ) → clocked L write' size' lent (onto s o) ≡ onto (clocked L write size lent s) (written' s o)
  unfolding clocked words written'
  clocked_onto s o = refl

  words_length : (s : Standing) → length (words L write size lent s) ≡ length s.counters.passed
  unfolding words
  words_length s = presented_length L.capacity 0 _ s.store s.counters.passed

  -- The output keeps its length.
  pub length_written' : (s : Standing) (o : List ℕ) → length (written' s o) ≡ length o
  unfolding written'
  length_written' s o = go (fires L s.counters)
    where
      go : (b : Bool) → length (cond b (sets o (s.done.firings * size') (write' (words L write size lent s))) o) ≡ length o
      go true = length-sets o (s.done.firings * size') (write' (words L write size lent s))
      go false = refl

  pub length_clocked : (s : Standing) → length (clocked L write size lent s).output ≡ length s.output
  unfolding clocked
  length_clocked s = go (fires L s.counters)
    where
      go : (b : Bool) → length (cond b (sets s.output (s.done.firings * size) (write (words L write size lent s))) s.output) ≡ length s.output
      go true = length-sets s.output (s.done.firings * size) (write (words L write size lent s))
      go false = refl

  -- Looked at with these findings, a clock is made.
  look_goes : (left : ℕ) (s : Standing) → s.counters.fired < L.iterations → 0 < left → s.done.cells < length lent → moves L s.counters ≡ true
      → (fires L s.counters ≡ true → s.done.firings * size' + size' ≤ length s.output) → look L write' size' lent left s ≡ goes
  unfolding look
  look_goes left s f z l m room =
      go (leb L.iterations s.counters.fired) (eqb left 0) (leb (length lent) s.done.cells) (moves L s.counters) (fires L s.counters)
      (ltb (length s.output) (s.done.firings * size' + size')) (lt-leb _ _ f) (ne_eqb left 0 (λ (e : left ≡ 0). omega arith)) (lt-leb _ _ l) m (λ e. le-ltb _ _ (room e))
    where
      go : (a b c d e g : Bool) → a ≡ false → b ≡ false → c ≡ false → d ≡ true → (e ≡ true → g ≡ false)
          → cond a (ends Done) (cond b (ends Spent) (cond c (ends Starved) (cond (not d) (ends Stalled) (cond (e && g) (ends Full) goes)))) ≡ goes
      go true b c d e g p q r u h = absurd (false≢true (sym p))
      go false true c d e g p q r u h = absurd (false≢true (sym q))
      go false false true d e g p q r u h = absurd (false≢true (sym r))
      go false false false false e g p q r u h = absurd (false≢true u)
      go false false false true true true p q r u h = absurd (false≢true (sym (h refl)))
      go false false false true true false p q r u h = refl
      go false false false true false g p q r u h = refl

  -- The looks are the same where the places are, or where neither is Full.
  pub look_same : (left : ℕ) (s : Standing) (o : List ℕ) → ltb (length s.output) (s.done.firings * size + size) ≡ ltb (length o) (s.done.firings * size' + size')
      → look L write' size' lent left (onto s o) ≡ look L write size lent left s
  unfolding look
  look_same left s o e = rw (← e) refl

  pub look_unless_full : (left : ℕ) (s : Standing) (o : List ℕ) → (look L write size lent left s ≡ ends Full → ⊥) → (look L write' size' lent left (onto s o) ≡ ends Full → ⊥)
      → look L write' size' lent left (onto s o) ≡ look L write size lent left s
  unfolding look
  look_unless_full left s o h h' =
      go (leb L.iterations s.counters.fired) (eqb left 0) (leb (length lent) s.done.cells) (moves L s.counters) (fires L s.counters)
      (ltb (length s.output) (s.done.firings * size + size)) (ltb (length o) (s.done.firings * size' + size')) h h'
    where
      go : (a b c d e g g' : Bool)
          → (cond a (ends Done) (cond b (ends Spent) (cond c (ends Starved) (cond (not d) (ends Stalled) (cond (e && g) (ends Full) goes)))) ≡ ends Full → ⊥)
          → (cond a (ends Done) (cond b (ends Spent) (cond c (ends Starved) (cond (not d) (ends Stalled) (cond (e && g') (ends Full) goes)))) ≡ ends Full → ⊥)
          → cond a (ends Done) (cond b (ends Spent) (cond c (ends Starved) (cond (not d) (ends Stalled) (cond (e && g') (ends Full) goes))))
          ≡ cond a (ends Done) (cond b (ends Spent) (cond c (ends Starved) (cond (not d) (ends Stalled) (cond (e && g) (ends Full) goes))))
      go true b c d e g g' n n' = refl
      go false true c d e g g' n n' = refl
      go false false true d e g g' n n' = refl
      go false false false false e g g' n n' = refl
      go false false false true false g g' n n' = refl
      go false false false true true true g' n n' = absurd (n refl)
      go false false false true true false true n n' = absurd (n' refl)
      go false false false true true false false n n' = refl

  -- ---- outputs beside each other

  module _ (n : ℕ) (Q : ℕ → List ℕ → List ℕ → Type 0)
      (fire : (f : ℕ) (o o' ws : List ℕ) → length ws ≡ n → f * size + size ≤ length o → f * size' + size' ≤ length o' → Q f o o' → Q (suc f) (sets o (f * size) (write ws)) (sets o' (f * size') (write' ws))) where
    -- The second stands where the first does, but for its output.
    pub record Along (s s' : Standing) : Type 0 where
      pub other : List ℕ
      pub same : s' ≡ onto s other
      pub related : Q s.done.firings s.output other

    clock_related : (s : Standing) (o : List ℕ) → length s.counters.passed ≡ n → (fires L s.counters ≡ true → s.done.firings * size + size ≤ length s.output)
        → (fires L s.counters ≡ true → s.done.firings * size' + size' ≤ length o) → Q s.done.firings s.output o → Q (clocked L write size lent s).done.firings (clocked L write size lent s).output (written' s o)
    unfolding clocked written'
    clock_related s o e room room' q = go (fires L s.counters) refl
      where
        ws : List ℕ
        ws = words L write size lent s

        go : (b : Bool) → fires L s.counters ≡ b
            → Q (cond b (suc s.done.firings) s.done.firings) (cond b (sets s.output (s.done.firings * size) (write ws)) s.output)
            (cond b (sets o (s.done.firings * size') (write' ws)) o)
        go true d = fire s.done.firings s.output o ws (words_length s ∙ e) (room d) (room' d) q
        go false d = q

    clock_count : (s : Standing) → length s.counters.passed ≡ n → length (clocked L write size lent s).counters.passed ≡ n
    unfolding clocked
    clock_count s e = length_next L s.counters ∙ e

    -- ---- as many clocks as the first makes

    -- Where the second has places for each firing that the first has places for: allowed as many clocks as the first makes, it stands where the first does.
    abbrev MoreRoom : Standing → List ℕ → Type 0
    MoreRoom s o = (f : ℕ) → f * size + size ≤ length s.output → f * size' + size' ≤ length o

    abbrev Follows : ℕ → Standing → Ended → List Bool → Type 0
    Follows left s r es = (o : List ℕ) → length s.counters.passed ≡ n → MoreRoom s o → Q s.done.firings s.output o
        → Along r.standing (call L write' size' lent (length es) (onto s o)).standing

    pub follows : (left : ℕ) (s : Standing) → Follows left s (call L write size lent left s) (events L write size lent left s)
    unfolding call
    follows = along_call L write size lent Follows stop step
      where
        stop : (left : ℕ) (s : Standing) (e : Ending) → Looked L write size lent left s (ends e) → Follows left s (record { ending = e; standing = s }) []
        stop left s e h o c more q = go (look L write' size' lent 0 (onto s o))
          where
            go : (l : Look) → Along s (by_look l (onto s o) (record { ending = Spent; standing = onto s o })).standing
            go goes = record { other = o; same = refl; related = q }
            go (ends e) = record { other = o; same = refl; related = q }

        step : (left : ℕ) (s : Standing) (r : Ended) (es : List Bool) → Looked L write size lent (suc left) s goes → Follows left (clocked L write size lent s) r es
            → Follows (suc left) s r (fires L s.counters ∷ es)
        step left s r es (is_going f z l m room) ih o c more q =
            rw (look_goes (suc (length es)) (onto s o) f (omega arith) l m (λ e. more s.done.firings (room e)), clocked_onto s o)
            (ih (written' s o) (clock_count s c) (λ g h. rw (length_written' s o) (more g (rw (length_clocked s) at h))) (clock_related s o c room (λ e. more s.done.firings (room e)) q))

    -- ---- through the end of a call with fewer places

    -- The second call passes through where the first ends, whichever way that is: so a call may be made in pieces, each with places for a few firings.
    pub record Through (left : ℕ) (s : Standing) (o : List ℕ) (r : Ended) (es : List Bool) : Type 0 where
      pub other : List ℕ
      pub on : call L write' size' lent left (onto s o) ≡ call L write' size' lent (left - length es) (onto r.standing other)
      pub related : Q r.standing.done.firings r.standing.output other
      pub long : length other ≡ length o

    abbrev Passes : ℕ → Standing → Ended → List Bool → Type 0
    Passes left s r es = (o : List ℕ) → length s.counters.passed ≡ n → MoreRoom s o → Q s.done.firings s.output o → Through left s o r es

    pub passes : (left : ℕ) (s : Standing) → Passes left s (call L write size lent left s) (events L write size lent left s)
    unfolding call
    passes = along_call L write size lent Passes (λ left s e h o c more q. record { other = o; on = let same : left ≡ left - 0 = omega arith in ap (λ (k : ℕ). call L write' size' lent k (onto s o)) same; related = q; long = refl }) step
      where
        step : (left : ℕ) (s : Standing) (r : Ended) (es : List Bool) → Looked L write size lent (suc left) s goes → Passes left (clocked L write size lent s) r es
            → Passes (suc left) s r (fires L s.counters ∷ es)
        step left s r es (is_going f z l m room) ih o c more q =
            let t = ih (written' s o) (clock_count s c) (λ g h. rw (length_written' s o) (more g (rw (length_clocked s) at h)))
            (clock_related s o c room (λ e. more s.done.firings (room e)) q) in
            let same : left - length es ≡ suc left - suc (length es) = omega arith in
            record {
              other = t.other;
              on = rw (look_goes (suc left) (onto s o) f (omega arith) l m (λ e. more s.done.firings (room e)), clocked_onto s o)
                  (t.on ∙ ap (λ (k : ℕ). call L write' size' lent k (onto r.standing t.other)) same);
              related = t.related;
              long = t.long ∙ length_written' s o;
            }

    -- ---- calls whose looks are the same

    -- The second call ends as the first does, stands where it does, and its clocks fire alike.
    pub record Alike (left : ℕ) (s : Standing) (o : List ℕ) : Type 0 where
      pub ending : (call L write' size' lent left (onto s o)).ending ≡ (call L write size lent left s).ending
      pub along : Along (call L write size lent left s).standing (call L write' size' lent left (onto s o)).standing
      pub events : events L write' size' lent left (onto s o) ≡ events L write size lent left s

    module _ (C : ℕ → Standing → List ℕ → Type 0)
        (agree : (left : ℕ) (s : Standing) (o : List ℕ) → C left s o → look L write' size' lent left (onto s o) ≡ look L write size lent left s)
        (keep : (left : ℕ) (s : Standing) (o : List ℕ) → look L write size lent (suc left) s ≡ goes → C (suc left) s o → C left (clocked L write size lent s) (written' s o)) where
      pub alike : (left : ℕ) (s : Standing) (o : List ℕ) → length s.counters.passed ≡ n → C left s o → Q s.done.firings s.output o → Alike left s o
      unfolding call events
      alike zero s o e c q = go (look L write size lent 0 s) (look L write' size' lent 0 (onto s o)) refl refl (agree 0 s o c)
        where
          go : (l l' : Look) → look L write size lent 0 s ≡ l → look L write' size' lent 0 (onto s o) ≡ l' → l' ≡ l → Alike 0 s o
          go goes l' x y z = record { ending = rw (x, y, z) refl; along = record { other = o; same = rw (x, y, z) refl; related = rw x q }; events = refl }
          go (ends w) l' x y z = record { ending = rw (x, y, z) refl; along = record { other = o; same = rw (x, y, z) refl; related = rw x q }; events = refl }
      alike (suc left) s o e c q = go (look L write size lent (suc left) s) refl (agree (suc left) s o c) (alike left (clocked L write size lent s) (written' s o) (clock_count s e))
        where
          go : (l : Look) → look L write size lent (suc left) s ≡ l → look L write' size' lent (suc left) (onto s o) ≡ look L write size lent (suc left) s
              → (C left (clocked L write size lent s) (written' s o) → Q (clocked L write size lent s).done.firings (clocked L write size lent s).output (written' s o)
              → Alike left (clocked L write size lent s) (written' s o)) → Alike (suc left) s o
          go (ends w) x y ih = record { ending = rw (y, x) refl; along = record { other = o; same = rw (y, x) refl; related = rw x q }; events = rw (y, x) refl }
          go goes x y ih =
              let r = ih (keep left s o x c) (clock_related s o e (looks_room L write size lent (suc left) s x) (looks_room L write' size' lent (suc left) (onto s o) (y ∙ x)) q) in
              record { ending = rw (y, x, clocked_onto s o) r.ending; along = rw (y, x, clocked_onto s o) r.along; events = rw (y, x, clocked_onto s o) (ap (λ (es : List Bool). fires L s.counters ∷ es) r.events) }

    -- where both have places for the same firings,
    abbrev pub SameRoom : Standing → List ℕ → Type 0
    SameRoom s o = (f : ℕ) → ltb (length s.output) (f * size + size) ≡ ltb (length o) (f * size' + size')

    pub alike_room : (left : ℕ) (s : Standing) (o : List ℕ) → length s.counters.passed ≡ n → SameRoom s o → Q s.done.firings s.output o → Alike left s o
    alike_room = alike (λ _ s o. SameRoom s o) (λ left s o c. look_same left s o (c s.done.firings))
        (λ left s o x c f. rw (length_clocked s, length_written' s o) (c f))

    -- and where neither ends Full.
    abbrev pub NeitherFull : ℕ → Standing → List ℕ → Type 0
    NeitherFull left s o = ((call L write size lent left s).ending ≡ Full → ⊥) × ((call L write' size' lent left (onto s o)).ending ≡ Full → ⊥)

    pub alike_unless_full : (left : ℕ) (s : Standing) (o : List ℕ) → length s.counters.passed ≡ n → NeitherFull left s o → Q s.done.firings s.output o → Alike left s o
    unfolding call
    alike_unless_full = alike NeitherFull agrees keeps
      where
        full : (v : List ℕ → List ℕ) (m left : ℕ) (s : Standing) → look L v m lent left s ≡ ends Full → (call L v m lent left s).ending ≡ Full
        full v m zero s x = rw x refl
        full v m (suc left) s x = rw x refl

        agrees : (left : ℕ) (s : Standing) (o : List ℕ) → NeitherFull left s o → look L write' size' lent left (onto s o) ≡ look L write size lent left s
        agrees left s o c = look_unless_full left s o (λ x. c.0 (full write size left s x)) (λ x. c.1 (full write' size' left (onto s o) x))

        keeps : (left : ℕ) (s : Standing) (o : List ℕ) → look L write size lent (suc left) s ≡ goes → NeitherFull (suc left) s o → NeitherFull left (clocked L write size lent s) (written' s o)
        keeps left s o x c = (λ e. c.0 (rw x e), λ e. c.1 (rw (agrees (suc left) s o c, x, clocked_onto s o) e))
