-- The rounds of a run call of a pair that no number turns back: what the loop keeps.
use Prim.Native.Nat.{ℕ, zero, suc, ◌+◌, ◌-◌, ◌*◌, ◌≤◌, ◌<◌, min}
use mathlib.Core.Bool.{true, false, false≢true}
use mathlib.Core.List.{List, [], ◌∷◌, ◌++◌}
use mathlib.Core.Logic.{◌⊎◌, inl, inr}
use mathlib.Core.Path.{◌≡◌, refl, sym, ◌∙◌, ap, ap₂}
use native.Mathlib.Nat.{add-mul, mul-le-mul_right}
use native.Mathlib.Omega.{arith}
use lib.ListN.{length, take, drop, length-append, length-drop, take-append-drop}
use lib.Seq.{sets, length-sets, length-take-le}
use Rattle.model.specs.Answers.{Verdict, Answer, answer_counts}
use Rattle.model_run.specs.Clock.{Counters}
use Rattle.model.specs.Sized.{Proper}
use Rattle.model.specs.Values.{Trimmed, trimmed}
use Rattle.model_run.specs.Running.{judge_run, Ending, Done, Spent, Starved, Stalled, Full, Ended, ended, outcome_of, with_counters, Run, run_trimmed, run_of}
use Rattle.std.specs.Prelude.{Ok, Err}
use Rattle.model.specs.declared.Chain.{Chain}
use Rattle.model.specs.declared.Counts.{Counts}
use Rattle.model.specs.declared.Ran.{Ran}
use Rattle.model.specs.declared.Refusal.{Refusal}
use Rattle.model.specs.declared.Refusal.TheVariants as refusal
use Rattle.model.specs.declared.State.{State}
use Rattle.run_laws.proofs.Between.{counters_twice}
use Rattle.run_laws.proofs.CallEnds.{outcome_counts_lem}
use Rattle.run_laws.proofs.Lengths.{length_ended}
use Rattle.run_laws.proofs.Accepts.{trimmed_proper}
use Rattle.run_laws.proofs.AnyState.{Judged, judged_run, end_stays, run_store_length, accepted_again}
use Rattle.runner.specs.Runs.{ran_of}
use Rattle.model.specs.Pairs.{raw_of}
use Rattle.model_run.specs.PairRuns.{by_rows}
use Rattle.pair_laws.proofs.RowsLaws.{rows_join, rows_front}
use Rattle.pair_laws.proofs.PieceLaws.{made_few, piece_long}
use Rattle.pair_laws.proofs.RoundLaws.{Gone, Ends, part, all, gone_start, gone_next, gone_last, given_next}
use Rattle.pair_run.specs.declared.ports.Port.{Port}
use Rattle.pair_run.specs.Ports.{gives, given_by, Sound, RoomBy, RoomBoth, GivesBoth}
use Rattle.pair_run.specs.Rounds.{is_full, with_counts, Prefix, Begin, all_of, LeavesAll, Leaves}
use Rattle.pair_run.proofs.PortLaws.{gives_long}
use Rattle.pair_laws.proofs.WholeLaws.{slow_cells, slow_firings, within_allowance, rows_within, full_made, gone_all}

take_whole : (m : ℕ) (l : List ℕ) → length l ≤ m → take m l ≡ l
take_whole zero [] e = refl
take_whole zero (x ∷ l) e = absurd (omega arith)
take_whole (suc m) [] e = refl
take_whole (suc m) (x ∷ l) e = ap (λ (k : List ℕ). x ∷ k) (take_whole m l (omega arith))

pub prefix_of : (r : Ran) (store' part batch batch' : List ℕ) (places : ℕ) (c : Chain) (rows : List ℕ) (s : State) (store cells : List ℕ) (taken left : ℕ)
    → length part ≡ length (take places batch) → places ≤ length batch
    → ran_of r store' part ≡ run_of c rows s store (take (length cells - taken) (drop taken cells)) (take places batch) left → batch' ≡ (part ++ drop places batch)
    → Prefix r store' batch' places c rows s store cells taken batch left
prefix_of r store' part batch batch' places c rows s store cells taken left kept fit e o =
    record { part = part; is = e ∙ ap (λ (x : List ℕ). run_of c rows s store x (take places batch) left) (take_whole (length cells - taken) (drop taken cells) (omega (arith, length-drop taken cells))); long = kept ∙ length-take-le places batch fit; batch_is = o }

-- ---- answers

is_full_so : (e : Ending) (c : Counts) → is_full (Ok (outcome_of e c)) ≡ true → e ≡ Full
unfolding outcome_of
is_full_so Done c h = absurd (false≢true h)
is_full_so Spent c h = absurd (false≢true h)
is_full_so Starved c h = absurd (false≢true h)
is_full_so Stalled c h = absurd (false≢true h)
is_full_so Full c h = refl

full_is_so : (e : Ending) (c : Counts) → e ≡ Full → is_full (Ok (outcome_of e c)) ≡ true
unfolding outcome_of
full_is_so e c h = ap (λ (x : Ending). is_full (Ok (outcome_of x c))) h

recounted_so : (e : Ending) (c d : Counts) → with_counts (Ok (outcome_of e c)) d ≡ Ok (outcome_of e d)
unfolding outcome_of
recounted_so Done c d = refl
recounted_so Spent c d = refl
recounted_so Starved c d = refl
recounted_so Stalled c d = refl
recounted_so Full c d = refl

counts_are : (d : Counts) (a b c : ℕ) → d.cells ≡ a → d.firings ≡ b → d.clocks ≡ c → (let x : Counts = record { cells = a; firings = b; clocks = c } in x) ≡ d
counts_are d a b c e f g =
    ap (λ (i : ℕ). let x : Counts = record { cells = i; firings = b; clocks = c } in x) (sym e)
    ∙ ap (λ (i : ℕ). let x : Counts = record { cells = d.cells; firings = i; clocks = c } in x) (sym f)
    ∙ ap (λ (i : ℕ). let x : Counts = record { cells = d.cells; firings = d.firings; clocks = i } in x) (sym g)

-- ---- a call that is not turned back

left_by : State → Ended → Run
left_by s e = record {
  answer = Ok (outcome_of e.ending e.standing.done);
  state = with_counters s e.standing.counters;
  store = e.standing.store;
  output = e.standing.output;
}

run_left : (t : Trimmed) (s : State) (store lent output : List ℕ) (allowance : ℕ) → judge_run t s store ≡ Ok tt → run_trimmed t s store lent output allowance ≡ left_by s (ended t s store lent output allowance)
unfolding run_trimmed left_by
run_left t s store lent output allowance e = rw e refl

-- A verdict that accepts is none that refuses; the answer of one that refuses.
pub not_both : {v : Verdict} {x : Refusal} → v ≡ Ok tt → v ≡ Err x → ⊥
not_both e d = cc

unfoldable pub answer_by : Verdict → Answer
answer_by (Ok _) = Err refusal.Malformed
answer_by (Err r) = Err r

-- ---- what the loop keeps

pub record Turning (raw : Chain) (rows : List ℕ) (n most block : ℕ) (g h : Port) (store₀ cells out₀ other₀ : List ℕ) (allowance : ℕ) (batch₀ : List ℕ) (s₀ : State)
    (store out other batch : List ℕ) (s : State) (taken clocks fired : ℕ) : Type 0 where
  pub begin : Begin raw rows n most block g h (length out₀) (length other₀) (length batch₀) allowance
  pub some : 0 < (trimmed raw rows).count
  pub front : List ℕ
  pub gone : Gone (trimmed raw rows) some s₀ store₀ cells allowance most fired taken clocks s store front
  pub begun : judge_run (trimmed raw rows) s₀ store₀ ≡ Ok tt
  pub accepted : judge_run (trimmed raw rows) s store ≡ Ok tt
  pub alike : (c : Counters) → length c.passed ≡ (trimmed raw rows).count → with_counters s c ≡ with_counters s₀ c
  pub taken_there : taken ≤ length cells
  pub taken_few : taken ≤ clocks
  pub fired_few : fired ≤ clocks
  pub clocks_few : clocks ≤ allowance
  pub out_is : out ≡ sets out₀ 0 (by_rows (trimmed raw rows).count (gives g) fired front)
  pub other_is : other ≡ sets other₀ 0 (by_rows (trimmed raw rows).count (gives h) fired front)
  pub batch_long : length batch ≡ length batch₀
  pub store_long : length store ≡ length store₀

pub turning_start : {raw : Chain} {rows : List ℕ} {n most block : ℕ} {g h : Port} {store cells out other : List ℕ} {allowance : ℕ} {batch : List ℕ} {s : State}
    → Begin raw rows n most block g h (length out) (length other) (length batch) allowance → judge_run (trimmed raw rows) s store ≡ Ok tt
    → Turning raw rows n most block g h store cells out other allowance batch s store out other batch s 0 0 0
unfolding by_rows
turning_start {raw = raw} {rows = rows} {most = most} {store = store} {cells = cells} {allowance = allowance} {s = s} b e =
    let some : 0 < (trimmed raw rows).count = omega (arith, b.filled, b.count) in
    record {
      begin = b;
      some = some;
      front = [];
      gone = gone_start (trimmed raw rows) some s store cells allowance most;
      begun = e;
      accepted = e;
      alike = λ c e. refl;
      taken_there = omega arith;
      taken_few = omega arith;
      fired_few = omega arith;
      clocks_few = omega arith;
      out_is = refl;
      other_is = refl;
      batch_long = refl;
      store_long = refl;
    }

-- ---- a round

module _ {raw : Chain} {rows : List ℕ} {n most block : ℕ} {g h : Port} {store₀ cells out₀ other₀ : List ℕ} {allowance : ℕ} {batch₀ : List ℕ} {s₀ : State}
    {store out other batch : List ℕ} {s : State} {taken clocks fired : ℕ} (I : Turning raw rows n most block g h store₀ cells out₀ other₀ allowance batch₀ s₀ store out other batch s taken clocks fired) where
  abbrev T : Trimmed
  T = trimmed raw rows

  abbrev B : Begin raw rows n most block g h (length out₀) (length other₀) (length batch₀) allowance
  B = I.begin

  module _ {few : ℕ} (few-is : few ≡ min block (most - fired)) where
    -- Before it.
    batch_there : few * n ≤ length batch
    batch_there = let le : few ≤ block = omega arith in omega (arith, mul-le-mul_right n le, B.there, I.batch_long)

    places_fit : few * n < 4294967296
    places_fit = omega (arith, batch_there, B.batch_short, I.batch_long)

    few_left : few ≤ most - fired
    few_left = omega arith

    abbrev buffer : List ℕ
    buffer = take (few * n) batch

    buffer_long : length buffer ≡ few * T.count
    buffer_long = length-take-le (few * n) batch batch_there ∙ ap (λ (x : ℕ). few * x) B.count

    abbrev E : Ended
    E = ended (raw_of T) s store (drop taken cells) buffer (allowance - clocks)

    abbrev k : ℕ
    k = E.standing.done.firings

    k_few : k ≤ few
    k_few = made_few T I.some s store (drop taken cells) (allowance - clocks) (most - fired) few buffer buffer_long few_left

    out_long : length E.standing.output ≡ few * T.count
    out_long = piece_long T I.some s store (drop taken cells) (allowance - clocks) (most - fired) few buffer buffer_long few_left

    proper : Proper T
    proper = trimmed_proper raw rows

    judged : Judged T s store
    judged = judged_run T s store I.accepted

    module _ {r : Ran} {store' batch' : List ℕ} (P : Prefix r store' batch' (few * n) raw rows s store cells taken batch (allowance - clocks)) where
      abbrev run : Run
      run = run_trimmed T s store (drop taken cells) buffer (allowance - clocks)

      is : ran_of r store' P.part ≡ left_by s E
      unfolding run_of
      is = P.is ∙ run_left T s store (drop taken cells) buffer (allowance - clocks) I.accepted ∙ ap (λ (x : Trimmed). left_by s (ended x s store (drop taken cells) buffer (allowance - clocks))) (sym B.plain)

      answer_so : r.answer ≡ Ok (outcome_of E.ending E.standing.done)
      unfolding left_by
      answer_so = ap (λ (x : Run). x.answer) is

      state_so : r.state ≡ with_counters s E.standing.counters
      unfolding left_by
      state_so = ap (λ (x : Run). x.state) is

      store_so : store' ≡ E.standing.store
      unfolding left_by
      store_so = ap (λ (x : Run). x.store) is

      part_so : P.part ≡ E.standing.output
      unfolding left_by
      part_so = ap (λ (x : Run). x.output) is

      counts_so : answer_counts r.answer ≡ E.standing.done
      unfolding answer_counts
      counts_so = ap answer_counts answer_so ∙ outcome_counts_lem E.ending E.standing.done

      abbrev did : Counts
      did = answer_counts r.answer

      k_so : did.firings ≡ k
      k_so = ap (λ (x : Counts). x.firings) counts_so

      a_so : did.cells ≡ E.standing.done.cells
      a_so = ap (λ (x : Counts). x.cells) counts_so

      b_so : did.clocks ≡ E.standing.done.clocks
      b_so = ap (λ (x : Counts). x.clocks) counts_so

      cells_within : did.cells ≤ length cells - taken
      cells_within =
          let few = (end_stays T proper s store (drop taken cells) buffer (allowance - clocks) judged).good.taken in
          omega (arith, a_so, ap (λ (x : Trimmed). (ended x s store (drop taken cells) buffer (allowance - clocks)).standing.done.cells) B.plain, few, length-drop taken cells)

      pub clocks_within : did.clocks ≤ allowance - clocks
      clocks_within = omega (arith, b_so, within_allowance (raw_of T) s store (drop taken cells) buffer (allowance - clocks))

      pub batch_long' : length batch' ≡ length batch₀
      batch_long' = ap length P.batch_is ∙ length-append P.part (drop (few * n) batch) ∙ omega (arith, P.long, length-drop (few * n) batch, batch_there, I.batch_long)

      pub fired_within : fired + did.firings ≤ most
      fired_within = omega (arith, k_so, k_few, few_left, I.gone.few)

      -- Both outputs have room for its firings.
      room_by : (c : Port) (total : ℕ) → Sound c → most * c.width ≤ total → RoomBy c n did.firings (fired * c.width) (length batch') total
      room_by c total sound fit =
          let kf : did.firings ≤ few = omega (arith, k_so, k_few) in
          record {
            sound = sound;
            there = omega (arith, mul-le-mul_right n kf, batch_there, batch_long', I.batch_long);
            filled = B.filled;
            fits = omega (arith, mul-le-mul_right c.width fired_within, add-mul fired did.firings c.width);
          }

      out_same : length out ≡ length out₀
      out_same = ap length I.out_is ∙ length-sets out₀ 0 (by_rows T.count (gives g) fired I.front)

      other_same : length other ≡ length other₀
      other_same = ap length I.other_is ∙ length-sets other₀ 0 (by_rows T.count (gives h) fired I.front)

      pub room_both : {firings : ℕ} → firings ≡ did.firings → RoomBoth g h n firings fired (length batch') (length out) (length other)
      room_both e = rw e (record {
        first = room_by g (length out) B.first_sound (omega (arith, B.fits, out_same));
        second = room_by h (length other) B.second_sound (omega (arith, B.fits_other, other_same));
      })

      -- Behind it, where both were given its batch.
      module _ {firings : ℕ} {out' other' : List ℕ} (fe : firings ≡ did.firings) (G : GivesBoth g h n firings fired batch' out out' other other') where
        given_rows : (c : Port) → given_by c n firings batch' ≡ by_rows T.count (gives c) k E.standing.output
        unfolding given_by
        given_rows c =
            let room = mul-le-mul_right T.count k_few in
            ap (λ (x : ℕ). by_rows x (gives c) firings batch') B.count
            ∙ ap₂ (λ (j : ℕ) (x : List ℕ). by_rows T.count (gives c) j x) (fe ∙ k_so) (P.batch_is ∙ ap (λ (x : List ℕ). x ++ drop (few * n) batch) part_so)
            ∙ rows_within T.count (gives c) k E.standing.output (drop (few * n) batch) (omega (arith, out_long))

        both_so : (c : Port) → Sound c → (o₀ o o' : List ℕ) → o ≡ sets o₀ 0 (by_rows T.count (gives c) fired I.front) → o' ≡ sets o (fired * c.width) (given_by c n firings batch')
            → o' ≡ sets o₀ 0 (by_rows T.count (gives c) fired I.front ++ by_rows T.count (gives c) k E.standing.output)
        both_so c sound o₀ o o' before after =
            after ∙ ap (sets o (fired * c.width)) (given_rows c) ∙ given_next T.count (gives c) c.width (gives_long c sound) o₀ o I.front E.standing.output fired k before

        abbrev front' : List ℕ
        front' = I.front ++ take (k * T.count) E.standing.output

        front_so : (c : Port) → by_rows T.count (gives c) fired I.front ++ by_rows T.count (gives c) k E.standing.output ≡ by_rows T.count (gives c) (fired + k) front'
        front_so c =
            let room = mul-le-mul_right T.count k_few in
            let l = length-take-le (k * T.count) E.standing.output (omega (arith, out_long)) in
            sym (rows_join T.count (gives c) fired k I.front (take (k * T.count) E.standing.output) I.gone.long
            ∙ ap (λ (x : List ℕ). by_rows T.count (gives c) fired I.front ++ x)
            (sym (rows_front T.count (gives c) k (take (k * T.count) E.standing.output) (drop (k * T.count) E.standing.output) l)
            ∙ ap (by_rows T.count (gives c) k) (take-append-drop (k * T.count) E.standing.output)))

        next_long : (c : Counters) → length c.passed ≡ T.count → with_counters r.state c ≡ with_counters s₀ c
        unfolding raw_of
        next_long c e =
            ap (λ (x : State). with_counters x c) state_so
            ∙ counters_twice s E.standing.counters c (length_ended (raw_of T) s store (drop taken cells) buffer (allowance - clocks) ∙ sym e) ∙ I.alike c e

        pub turning_next : {a b : ℕ} → a ≡ did.cells → b ≡ did.clocks
            → Turning raw rows n most block g h store₀ cells out₀ other₀ allowance batch₀ s₀ store' out' other' batch' r.state (taken + a) (clocks + b) (fired + firings)
        unfolding run_of
        turning_next {a = a} {b = b} ae be = record {
          begin = B;
          some = I.some;
          front = front';
          gone = rw (fe ∙ k_so, ae ∙ a_so, be ∙ b_so, state_so, store_so) (gone_next T I.some s₀ store₀ cells allowance most I.gone few buffer buffer_long few_left);
          begun = I.begun;
          accepted = ap₂ (judge_run T) (ap (λ (x : Run). x.state) P.is) (ap (λ (x : Run). x.store) P.is) ∙ accepted_again T proper s store (drop taken cells) buffer (allowance - clocks) judged;
          alike = next_long;
          taken_there = omega (arith, cells_within, I.taken_there);
          taken_few = omega (arith, I.taken_few, a_so, b_so, slow_cells (raw_of T) s store (drop taken cells) buffer (allowance - clocks));
          fired_few = omega (arith, I.fired_few, k_so, b_so, slow_firings (raw_of T) s store (drop taken cells) buffer (allowance - clocks));
          clocks_few = omega (arith, clocks_within, I.clocks_few);
          out_is = both_so g B.first_sound out₀ out out' I.out_is G.first ∙ ap (sets out₀ 0) (front_so g ∙ ap (λ (j : ℕ). by_rows T.count (gives g) (fired + j) front') (sym (fe ∙ k_so)));
          other_is = both_so h B.second_sound other₀ other other' I.other_is G.second ∙ ap (sets other₀ 0) (front_so h ∙ ap (λ (j : ℕ). by_rows T.count (gives h) (fired + j) front') (sym (fe ∙ k_so)));
          batch_long = batch_long';
          store_long = ap length (ap (λ (x : Run). x.store) P.is) ∙ run_store_length T proper s store (drop taken cells) buffer (allowance - clocks) judged ∙ I.store_long;
        }

        -- The rounds come to an end,
        pub falls : is_full r.answer ≡ true → fired + firings < most → most - (fired + firings) < most - fired
        falls f l =
            let full = is_full_so E.ending E.standing.done (sym (ap is_full answer_so) ∙ f) in
            let m = full_made T I.some s store (drop taken cells) (allowance - clocks) (most - fired) few buffer buffer_long few_left full in
            omega (arith, fe, k_so, m, B.some, few-is)

        -- What the whole leaves, with this answer.
        abbrev Left : Answer → Type 0
        Left x = LeavesAll (record { answer = x; state = r.state }) (all_of raw rows most s₀ store₀ cells allowance) T.count g h s₀ store' out₀ out' other₀ other'

        ends_there : Ends T I.some s₀ store₀ cells allowance most I.gone few buffer buffer_long few_left → {a b : ℕ} → a ≡ did.cells → b ≡ did.clocks
            → Left (with_counts r.answer (record { cells = taken + a; firings = fired + firings; clocks = clocks + b }))
        unfolding raw_of
        ends_there e {a = a} {b = b} ae be =
            let A = all T I.some s₀ store₀ cells allowance most in
            let d = A.standing.done in
            let fk : A.standing.done.firings ≡ fired + k = e.firings in
            record {
              answer_is = ap (λ (x : Answer). with_counts x (record { cells = taken + a; firings = fired + firings; clocks = clocks + b })) answer_so
                  ∙ recounted_so E.ending E.standing.done (record { cells = taken + a; firings = fired + firings; clocks = clocks + b })
                  ∙ ap₂ (λ (x : Ending) (y : Counts). Ok (outcome_of x y)) (sym e.ending)
                  (counts_are d (taken + a) (fired + firings) (clocks + b) (omega (arith, e.cells, ae, a_so)) (omega (arith, e.firings, fe, k_so)) (omega (arith, e.clocks, be, b_so)));
              state_is = state_so ∙ I.alike E.standing.counters (length_ended (raw_of T) s store (drop taken cells) buffer (allowance - clocks)) ∙ ap (with_counters s₀) (sym e.counters);
              store_is = store_so ∙ sym e.words;
              first_is = both_so g B.first_sound out₀ out out' I.out_is G.first ∙ ap (sets out₀ 0) (sym (e.rows (gives g)) ∙ ap (λ (j : ℕ). by_rows T.count (gives g) j A.standing.output) (sym fk));
              second_is = both_so h B.second_sound other₀ other other' I.other_is G.second ∙ ap (sets other₀ 0) (sym (e.rows (gives h)) ∙ ap (λ (j : ℕ). by_rows T.count (gives h) j A.standing.output) (sym fk));
            }

        -- and the one that is not Full, or has the last batch, ends the whole.
        pub ends_not_full : is_full r.answer ≡ false → {a b : ℕ} → a ≡ did.cells → b ≡ did.clocks
            → Left (with_counts r.answer (record { cells = taken + a; firings = fired + firings; clocks = clocks + b }))
        ends_not_full f = ends_there (gone_last T I.some s₀ store₀ cells allowance most I.gone few buffer buffer_long few_left
            (λ x. false≢true (sym f ∙ ap is_full answer_so ∙ full_is_so E.ending E.standing.done x)))

        pub ends_all : is_full r.answer ≡ true → most ≤ fired + firings → {a b : ℕ} → a ≡ did.cells → b ≡ did.clocks
            → Left (with_counts r.answer (record { cells = taken + a; firings = fired + firings; clocks = clocks + b }))
        ends_all f l = ends_there (gone_all T I.some s₀ store₀ cells allowance most I.gone few buffer buffer_long few_left (omega (arith, fe, k_so, k_few, few_left)))

        pub ends_so : {x : Answer} {a b : ℕ} → x ≡ with_counts r.answer (record { cells = taken + a; firings = fired + firings; clocks = clocks + b }) → a ≡ did.cells → b ≡ did.clocks
            → ((is_full r.answer ≡ true) × (most ≤ fired + firings)) ⊎ (is_full r.answer ≡ false)
            → Leaves (record { answer = x; state = r.state }) raw rows most g h s₀ store₀ store' cells out₀ out' other₀ other' allowance
        ends_so {x = x} xe ae be how = record { ended = λ _. left how; refused = λ y e. absurd (not_both I.begun e) }
          where
            left : ((is_full r.answer ≡ true) × (most ≤ fired + firings)) ⊎ (is_full r.answer ≡ false) → Left x
            left (inl (f, l)) = rw xe (ends_all f l ae be)
            left (inr f) = rw xe (ends_not_full f ae be)

        pub out_kept : length out' ≡ length out₀
        out_kept = ap length G.first ∙ length-sets out (fired * g.width) (given_by g n firings batch') ∙ out_same

        pub other_kept : length other' ≡ length other₀
        other_kept = ap length G.second ∙ length-sets other (fired * h.width) (given_by h n firings batch') ∙ other_same
