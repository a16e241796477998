-- The raw chain's call in pieces, each with places for a few firings.
use Prim.Native.Nat.{ℕ, zero, suc, ◌+◌, ◌-◌, ◌*◌, ◌≤◌, ◌<◌}
use mathlib.Core.Bool.{Bool, true, false, cond}
use mathlib.Core.List.{List, [], ◌∷◌, ◌++◌, map}
use mathlib.Core.Path.{◌≡◌, refl, sym, ◌∙◌, ap, ap₂}
use native.Mathlib.Nat.{add-zero, zero-mul, suc-mul, add-mul, mul-le-mul_right}
use native.Mathlib.Decide.{dec_le}
use native.Mathlib.Omega.{arith}
use lib.Dec.{ltb}
use lib.ListN.{length, take, drop, replicate, length-replicate, take-append-drop, length-drop}
use lib.Seq.{length-take-le}
use Rattle.model.specs.Values.{Trimmed}
use Rattle.model_run.specs.Clock.{Layout, Counters, first, fires, next, turns}
use Rattle.model_run.specs.Running.{layout, with_counters, Standing, Ending, Full, goes, ends, Ended, clocked, call, events, begun, written_by, width_of, ended}
use Rattle.model.specs.declared.State.{State}
use Rattle.flow.proofs.Tests.{by_next}
use Rattle.run_laws.proofs.Looks.{Looked, is_done, is_spent, is_starved, is_stalled, is_going, is_full_lem, along_call}
use Rattle.run_laws.proofs.Ends.{EndsSo, ends_so}
use Rattle.run_laws.proofs.Calls.{counted}
use Rattle.run_laws.proofs.Between.{counters_back}
use Rattle.run_laws.proofs.Lengths.{length_ended}
use Rattle.loop_laws.proofs.SweepLaws.{turn_most}
use Rattle.loop_laws.proofs.CallLaws.{call_done, call_spent, call_starved, call_stalled, ended_later, call_later}
use Rattle.model.specs.Pairs.{raw_of}
use Rattle.model_run.specs.PairRuns.{by_rows, onto}
use Rattle.pair_laws.proofs.BesideLaws.{Alike, Through, alike_room, length_clocked, passes}
use Rattle.pair_laws.proofs.RawLaws.{raw_counters, raw_width}
use Rattle.pair_laws.proofs.RowsLaws.{rows_front, rows_join}
use Rattle.pair_laws.proofs.SameLaws.{Same, length_output, same_fire}

-- ---- what a call takes and makes

pub first_next : (L : Layout) (c : Counters) → first (next L c).passed ≤ first c.passed + 1
unfolding turns
first_next L c = by_next L (λ x. first x.passed ≤ first c.passed + 1) c (λ _. up c.passed) (λ _. turned c.passed)
  where
    up : (ps : List ℕ) → first (map suc ps) ≤ first ps + 1
    up [] = omega arith
    up (p ∷ ps) = omega arith

    turned : (ps : List ℕ) → first (turns (L.wants c.fired) L.capacity 0 L.cells ps) ≤ first ps + 1
    turned [] = omega arith
    turned (p ∷ ps) = turn_most _ _ _ p

module _ (L : Layout) (write : List ℕ → List ℕ) (size : ℕ) (lent : List ℕ) where
  -- No more cells than are lent, no more firings than have places.
  pub record Few (s : Standing) : Type 0 where
    pub cells : s.done.cells ≤ length lent
    pub places : s.done.firings * size ≤ length s.output

  pub call_few : (left : ℕ) (s : Standing) → Few s → Few (call L write size lent left s).standing
  unfolding clocked
  call_few = along_call L write size lent (λ _ s r _. Few s → Few r.standing) (λ left s e h f. f) step
    where
      step : (left : ℕ) (s : Standing) (r : Ended) (es : List Bool) → Looked L write size lent (suc left) s goes → (Few (clocked L write size lent s) → Few r.standing) → Few s → Few r.standing
      step left s r es (is_going f z l m room) ih few =
          ih (record { cells = omega (arith, first_next L s.counters); places = rw (length_clocked L lent write write size size s) (go (fires L s.counters) refl) })
        where
          go : (b : Bool) → fires L s.counters ≡ b → cond b (suc s.done.firings) s.done.firings * size ≤ length s.output
          go true e = omega (arith, suc-mul s.done.firings size, room e)
          go false e = few.places

-- ---- a piece, and the whole

module _ (t : Trimmed) (some : 0 < t.count) (s : State) (store lent : List ℕ) (allowance R m : ℕ) (buffer : List ℕ) (long : length buffer ≡ m * t.count) (few : m ≤ R) where
  abbrev L : Layout
  L = layout (raw_of t)

  abbrev w : List ℕ → List ℕ
  w = written_by (raw_of t)

  abbrev n : ℕ
  n = width_of (raw_of t)

  abbrev from : Standing
  from = begun (raw_of t) s store buffer

  abbrev big : List ℕ
  big = replicate (R * t.count) 0

  abbrev pub piece : Ended
  piece = ended (raw_of t) s store lent buffer allowance

  abbrev pub whole : Ended
  whole = ended (raw_of t) s store lent big allowance

  abbrev Q : ℕ → List ℕ → List ℕ → Type 0
  Q = Same t some s store lent allowance 0 0

  through : Through L lent w w n n t.count Q (same_fire t some s store lent allowance 0 0) allowance from big piece (events L w n lent allowance from)
  unfolding ended begun Same by_rows
  through =
      passes L lent w w n n t.count Q (same_fire t some s store lent allowance 0 0) allowance from big (raw_counters t s store buffer)
      (λ f h. omega (arith, mul-le-mul_right t.count few, long, length-replicate {A = ℕ} (R * t.count) 0)) (λ write. refl)

  clocks_are : length (events L w n lent allowance from) ≡ piece.standing.done.clocks
  unfolding ended begun
  clocks_are = sym ((counted L w n lent allowance from).clocks ∙ add-zero (length (events L w n lent allowance from)))

  whole_is : whole ≡ call L w n lent (allowance - piece.standing.done.clocks) (onto piece.standing through.other)
  unfolding ended begun
  whole_is = through.on ∙ ap (λ (k : ℕ). call L w n lent (allowance - k) (onto piece.standing through.other)) clocks_are

  -- The whole stands and ends where the piece does.
  pub record AsPiece : Type 0 where
    pub ending : whole.ending ≡ piece.ending
    pub counters : whole.standing.counters ≡ piece.standing.counters
    pub words : whole.standing.store ≡ piece.standing.store
    pub done : whole.standing.done ≡ piece.standing.done
    pub rows : (write : List ℕ → List ℕ) → by_rows t.count write piece.standing.done.firings piece.standing.output ≡ by_rows t.count write piece.standing.done.firings whole.standing.output

  ends_there : (rest : ℕ) (x : Standing) (o : List ℕ) (e : Ending) → Looked L w n lent rest x (ends e) → (e ≡ Full → ⊥) → call L w n lent rest (onto x o) ≡ record { ending = e; standing = onto x o }
  ends_there rest x o e (is_done h) f = call_done L w n lent rest (onto x o) h
  ends_there rest x o e (is_spent more z) f = call_spent L w n lent rest (onto x o) z more
  ends_there zero x o e (is_starved more z h) f = absurd (let y : ⊥ = omega arith in y)
  ends_there (suc rest) x o e (is_starved more z h) f = call_starved L w n lent rest (onto x o) more h
  ends_there zero x o e (is_stalled more z h q) f = absurd (let y : ⊥ = omega arith in y)
  ends_there (suc rest) x o e (is_stalled more z h q) f = call_stalled L w n lent rest (onto x o) more h q
  ends_there rest x o e (is_full_lem _ _ _ _ _ _) f = absurd (f refl)

  -- A piece that does not end Full ends the whole.
  pub last : (piece.ending ≡ Full → ⊥) → AsPiece
  unfolding Same ended
  last f =
      let so = why in
      let left : so.rest ≡ allowance - piece.standing.done.clocks = omega (arith, so.allowed, clocks_are) in
      let is = whole_is ∙ ends_there (allowance - piece.standing.done.clocks) piece.standing through.other piece.ending (rw left at so.why) f in
      record {
        ending = ap (λ (e : Ended). e.ending) is;
        counters = ap (λ (e : Ended). e.standing.counters) is;
        words = ap (λ (e : Ended). e.standing.store) is;
        done = ap (λ (e : Ended). e.standing.done) is;
        rows = λ write. through.related write ∙ ap (λ (e : Ended). by_rows t.count write piece.standing.done.firings e.standing.output) (sym is);
      }
    where
      why : EndsSo L w n lent allowance piece (events L w n lent allowance from)
      why = ends_so L w n lent allowance from

  -- ---- a piece that ends Full, and the pieces behind it

  abbrev a : ℕ
  a = piece.standing.done.cells

  abbrev b : ℕ
  b = piece.standing.done.clocks

  abbrev k : ℕ
  k = piece.standing.done.firings

  piece_few : Few L w n lent piece.standing
  unfolding ended begun
  piece_few = call_few L w n lent allowance from (record { cells = omega arith; places = omega (arith, zero-mul n) })

  pub piece_long : length piece.standing.output ≡ m * t.count
  unfolding ended begun
  piece_long = length_output L w n lent allowance from ∙ long

  -- No more firings than the piece has rows.
  pub made_few : k ≤ m
  made_few = go (dec_le k m)
    where
      go : Dec (k ≤ m) → k ≤ m
      go (yes h) = h
      go (no h) =
          let p = rw (raw_width t, piece_long) at piece_few.places in
          let q : suc m ≤ k = omega arith in
          absurd (let z : ⊥ = omega (arith, suc-mul m t.count, mul-le-mul_right t.count q) in z)

  other_long : length through.other ≡ R * t.count
  other_long = through.long ∙ length-replicate {A = ℕ} (R * t.count) 0

  -- What is left behind the piece: its state, store, cells, clocks, and rows.
  abbrev pub behind : Ended
  behind = ended (raw_of t) (with_counters s piece.standing.counters) piece.standing.store (drop a lent) (replicate ((R - k) * t.count) 0) (allowance - b)

  -- The whole is the piece and what is behind it.
  pub record PieceAnd : Type 0 where
    pub ending : whole.ending ≡ behind.ending
    pub counters : whole.standing.counters ≡ behind.standing.counters
    pub words : whole.standing.store ≡ behind.standing.store
    pub cells : whole.standing.done.cells ≡ a + behind.standing.done.cells
    pub clocks : whole.standing.done.clocks ≡ b + behind.standing.done.clocks
    pub firings : whole.standing.done.firings ≡ k + behind.standing.done.firings
    pub rows : (write : List ℕ → List ℕ) → by_rows t.count write (k + behind.standing.done.firings) whole.standing.output
        ≡ by_rows t.count write k piece.standing.output ++ by_rows t.count write behind.standing.done.firings behind.standing.output

  abbrev front : List ℕ
  front = take (k * t.count) through.other

  -- The call from there on, counted from 0.
  abbrev anew : Standing
  anew = record { counters = piece.standing.counters; store = piece.standing.store; output = drop (k * t.count) through.other; done = record { cells = 0; firings = 0; clocks = 0 } }

  abbrev rest : Ended
  rest = call L w n (drop a lent) (allowance - b) anew

  rows_fit : k * t.count ≤ R * t.count
  rows_fit = let h : k ≤ R = omega (arith, made_few) in mul-le-mul_right t.count h

  front_long : length front ≡ k * t.count
  front_long = length-take-le (k * t.count) through.other (omega (arith, other_long, rows_fit))

  whole_later : whole ≡ ended_later a b k front rest
  whole_later =
      whole_is
      ∙ ap (call L w n lent (allowance - b)) (rw (take-append-drop (k * t.count) through.other, add-zero a, add-zero b, add-zero k) refl)
      ∙ call_later L w n lent front a b k piece_few.cells (front_long ∙ ap (λ (x : ℕ). k * x) (sym (raw_width t))) (allowance - b) anew

  count_there : length piece.standing.counters.passed ≡ t.count
  unfolding raw_of
  count_there = length_ended (raw_of t) s store lent buffer allowance

  abbrev big2 : List ℕ
  big2 = replicate ((R - k) * t.count) 0

  begun_anew : begun (raw_of t) (with_counters s piece.standing.counters) piece.standing.store big2 ≡ onto anew big2
  unfolding begun raw_of
  begun_anew = rw (counters_back t.count s piece.standing.counters count_there) refl

  left_long : length (drop (k * t.count) through.other) ≡ (R - k) * t.count
  left_long =
      let h : k ≤ R = omega (arith, made_few) in
      let e : R ≡ (R - k) + k = omega arith in
      let s : R * t.count ≡ (R - k) * t.count + k * t.count = ap (λ (x : ℕ). x * t.count) e ∙ add-mul (R - k) k t.count in
      omega (arith, length-drop (k * t.count) through.other, other_long)

  rest_alike : Alike L (drop a lent) w w n n t.count Q (same_fire t some s store lent allowance 0 0) (allowance - b) anew big2
  unfolding Same by_rows
  rest_alike =
      alike_room L (drop a lent) w w n n t.count Q (same_fire t some s store lent allowance 0 0) (allowance - b) anew big2 count_there
      (λ f. ap (λ (x : ℕ). ltb x (f * n + n)) (left_long ∙ sym (length-replicate {A = ℕ} ((R - k) * t.count) 0))) (λ write. refl)

  second_is : call L w n (drop a lent) (allowance - b) (onto anew big2) ≡ behind
  unfolding ended
  second_is = ap (call L w n (drop a lent) (allowance - b)) (sym begun_anew)

  -- "and what is behind it"
  pub goes_on_lem : PieceAnd
  unfolding Same
  goes_on_lem =
      let al = rest_alike in
      let same : behind.standing ≡ onto rest.standing al.along.other = ap (λ (e : Ended). e.standing) (sym second_is) ∙ al.along.same in
      let fired : behind.standing.done.firings ≡ rest.standing.done.firings = ap (λ (x : Standing). x.done.firings) same in
      record {
        ending = ap (λ (e : Ended). e.ending) whole_later ∙ sym al.ending ∙ ap (λ (e : Ended). e.ending) second_is;
        counters = ap (λ (e : Ended). e.standing.counters) whole_later ∙ ap (λ (x : Standing). x.counters) (sym same);
        words = ap (λ (e : Ended). e.standing.store) whole_later ∙ ap (λ (x : Standing). x.store) (sym same);
        cells = ap (λ (e : Ended). e.standing.done.cells) whole_later ∙ ap (λ (x : Standing). a + x.done.cells) (sym same);
        clocks = ap (λ (e : Ended). e.standing.done.clocks) whole_later ∙ ap (λ (x : Standing). b + x.done.clocks) (sym same);
        firings = ap (λ (e : Ended). e.standing.done.firings) whole_later ∙ ap (λ (x : Standing). k + x.done.firings) (sym same);
        rows = λ write.
            ap (λ (e : Ended). by_rows t.count write (k + behind.standing.done.firings) e.standing.output) whole_later
            ∙ rows_join t.count write k behind.standing.done.firings front rest.standing.output front_long
            ∙ ap₂ (λ (x y : List ℕ). x ++ y)
            (sym (through.related write ∙ ap (by_rows t.count write k) (sym (take-append-drop (k * t.count) through.other)) ∙ rows_front t.count write k front (drop (k * t.count) through.other) front_long))
            (ap (λ (f : ℕ). by_rows t.count write f rest.standing.output) fired ∙ al.along.related write
            ∙ ap₂ (λ (f : ℕ) (o : List ℕ). by_rows t.count write f o) (sym fired) (ap (λ (x : Standing). x.output) (sym same)));
      }
