-- A run call on any state that no number turns back: what stays, and that what it hands back is not turned back either.
use Prim.Native.Nat.{ℕ, zero, suc, ◌+◌, ◌-◌, ◌*◌, ◌≤◌}
use mathlib.Core.Bool.{Bool, true, false, cond}
use mathlib.Core.List.{List, [], ◌∷◌}
use mathlib.Core.Path.{◌≡◌, refl, sym, ◌∙◌, ap}
use native.Mathlib.Nat.{zero-add, zero-mul, suc-mul, mul-le-mul_right}
use native.Mathlib.Omega.{arith}
use lib.Dec.{ltb}
use lib.ListN.{length, get_or, take, drop, take-append-drop}
use lib.Seq.{sets, length-sets, drop_at, length-take-le}
use borrow.Author.Tests.{ltb-false}
use Rattle.model.specs.Lists.{sum}
use Rattle.model.specs.Values.{Trimmed}
use Rattle.model.specs.Answers.{first_of}
use Rattle.model.specs.Judging.{value_checks, judged}
use Rattle.model.specs.Sized.{Proper}
use Rattle.model_run.specs.Clock.{Layout, first, fires, next}
use Rattle.model_run.specs.Store.{first_place, place_in, presented, stored}
use Rattle.model_run.specs.Running.{layout, counters_of, with_counters, Standing, Done, goes, Ended, outcome_of, words, clocked, call, short_store, bad_state, judge_run, begun, written_by, width_of, ended, run_trimmed, Run}
use Rattle.model.specs.declared.State.{State}
use Rattle.std.specs.Prelude.{Ok}
use Rattle.grid_laws.proofs.ListLaws.{length_tabulate}
use Rattle.grid_laws.proofs.CheckLaws.{passes, both_pass}
use Rattle.flow.specs.Machine.{Lawful, Holds, Invariant}
use Rattle.flow.proofs.Invariant.{next_invariant}
use Rattle.run_laws.specs.Accepted.{Accepted}
use Rattle.run_laws.proofs.Accepts.{first_append, accepted}
use Rattle.run_laws.proofs.Layouts.{lawful, all_places}
use Rattle.run_laws.proofs.Guard.{invariant_good, good_invariant}
use Rattle.run_laws.proofs.Looks.{Looked, is_going, along_call}
use Rattle.run_laws.proofs.Held.{Steps, stored_length, next_steps, holds_length}
use Rattle.run_laws.proofs.Outputs.{drop_written}
use Rattle.run_laws.proofs.Stores.{puts, Heads, stored_puts, puts_leaves}
use Rattle.run_laws.proofs.Between.{counters_back, width_right}

-- The clocks of a call, from counters with the invariant on.
module _ (L : Layout) (lawful : Lawful L) (write : List ℕ → List ℕ) (size : ℕ) (lent : List ℕ) (width : (ws : List ℕ) → length ws ≡ L.filters → length (write ws) ≡ size) where
  open L use {capacity, filters, cells}

  -- What holds before every clock.
  pub record Good (s : Standing) : Type 0 where
    pub invariant : Invariant L s.counters
    pub room : first_place capacity (filters - 1) ≤ length s.store
    pub taken : s.done.cells ≤ length lent
    pub places : s.done.firings * size ≤ length s.output

  presented_length : (k x : ℕ) (store ps : List ℕ) → length (presented capacity k x store ps) ≡ length ps
  unfolding presented
  presented_length k x store [] = refl
  presented_length k x store (p ∷ []) = refl
  presented_length k x store (p ∷ q ∷ qs) = ap suc (presented_length (suc k) _ store (q ∷ qs))

  first_slow : (source : ℕ) (ps ps' : List ℕ) → Steps source ps ps' → first ps' ≤ suc (first ps)
  first_slow source [] [] s = omega arith
  first_slow source [] (p' ∷ ps') s = absurd s
  first_slow source (p ∷ ps) [] s = absurd s
  first_slow source (p ∷ ps) (p' ∷ ps') s = s.1

  -- What the filters are presented where filter 0 is presented x.
  word_at : (x : ℕ) (store : List ℕ) (k p : ℕ) → ℕ
  word_at x store zero p = x
  word_at x store (suc k) p = get_or store (place_in capacity k p) 0

  all_heads : (x : ℕ) (store : List ℕ) (k : ℕ) (ps : List ℕ) → Heads capacity (word_at x store) k store ps
  unfolding word_at
  all_heads x store k [] = tt
  all_heads x store k (p ∷ []) = tt
  all_heads x store k (p ∷ q ∷ qs) = (λ _. refl, all_heads x store (suc k) (q ∷ qs))

  -- A clock leaves the store's length and what lies behind the FIFOs' places.
  stored_rest : (x : ℕ) (store ps ps' : List ℕ) (f f' : ℕ) → Holds L f 0 cells ps → Holds L f' 0 cells ps' → Steps cells ps ps' → first_place capacity (filters - 1) ≤ length store
      → drop (first_place capacity (filters - 1)) (stored capacity 0 x store ps ps' store) ≡ drop (first_place capacity (filters - 1)) store
  unfolding word_at
  stored_rest x store ps ps' f f' i j s room =
      let m = first_place capacity (filters - 1) in
      let word = word_at x store in
      let n = length-take-le m store room in
      let a = puts_leaves L word ps ps' (take m store) (drop m store) f f' i j s (omega arith) in
      ap (drop m) (stored_puts L word x ps ps' store s (all_heads x store 0 ps) (λ _ _ _. refl) ∙ ap (puts capacity word 0 ps ps') (sym (take-append-drop m store)) ∙ a.0)
      ∙ drop_at (puts capacity word 0 ps ps' (take m store)) (drop m store) m (a.1 ∙ n)

  -- What stays and what holds, from s on to the end of the call.
  pub record Stays (s : Standing) (r : Ended) : Type 0 where
    pub good : Good r.standing
    pub more : s.done.firings ≤ r.standing.done.firings
    pub store_length : length r.standing.store ≡ length s.store
    pub store_rest : drop (first_place capacity (filters - 1)) r.standing.store ≡ drop (first_place capacity (filters - 1)) s.store
    pub output_length : length r.standing.output ≡ length s.output
    pub output_rest : (n : ℕ) → r.standing.done.firings * size ≤ n → drop n r.standing.output ≡ drop n s.output

  module _ {left : ℕ} (s : Standing) (look : Looked L write size lent (suc left) s goes) (g : Good s) where
    -- One clock.
    clock_stays : Stays s (record { ending = Done; standing = clocked L write size lent s })
    unfolding clocked words
    clock_stays = go look
      where
        f : ℕ
        f = s.done.firings

        out : List ℕ
        out = s.output

        ws : List ℕ
        ws = write (words L write size lent s)

        wide : length ws ≡ size
        wide =
            width (words L write size lent s)
            (presented_length 0 _ s.store s.counters.passed ∙ sym (zero-add (length s.counters.passed)) ∙ holds_length L s.counters.fired 0 cells s.counters.passed g.invariant.all)

        fire : (fires L s.counters ≡ true → f * size + size ≤ length out) → (b : Bool) → fires L s.counters ≡ b
            → (cond b (suc f) f * size ≤ length (cond b (sets out (f * size) ws) out)) × (f ≤ cond b (suc f) f) × (length (cond b (sets out (f * size) ws) out) ≡ length out)
            × ((n : ℕ) → cond b (suc f) f * size ≤ n → drop n (cond b (sets out (f * size) ws) out) ≡ drop n out)
        fire fits true e =
            let long = length-sets out (f * size) ws in (
              omega (arith, long, fits e, suc-mul f size),
              omega arith,
              long,
              λ n h. drop_written out ws (f * size) (omega (arith, fits e, wide)) n (omega (arith, wide, suc-mul f size)),
            )
        fire fits false e = (g.places, omega arith, refl, λ n h. refl)

        go : Looked L write size lent (suc left) s goes → Stays s (record { ending = Done; standing = clocked L write size lent s })
        go (is_going h _ l m fits) =
            let i = next_invariant L lawful s.counters h g.invariant in
            let st = next_steps L s.counters g.invariant in
            let o = fire fits (fires L s.counters) refl in
            let n = stored_length capacity 0 (get_or lent s.done.cells 0) s.store s.counters.passed (next L s.counters).passed s.store in
            record {
              good = record { invariant = i; room = rw n g.room; taken = omega (arith, first_slow cells s.counters.passed (next L s.counters).passed st); places = o.0 };
              more = o.1;
              store_length = n;
              store_rest = stored_rest _ s.store s.counters.passed (next L s.counters).passed s.counters.fired (next L s.counters).fired g.invariant.all i.all st g.room;
              output_length = o.2;
              output_rest = o.3;
            }

  stays : (left : ℕ) (s : Standing) → Good s → Stays s (call L write size lent left s)
  stays = along_call L write size lent (λ _ s r _. Good s → Stays s r)
      (λ left s e h g. record { good = g; more = omega arith; store_length = refl; store_rest = refl; output_length = refl; output_rest = λ _ _. refl })
      (λ left s r es h ih g.
      let a = clock_stays s h g in
      let b = ih a.good in
      record {
        good = b.good;
        more = omega (arith, a.more, b.more);
        store_length = b.store_length ∙ a.store_length;
        store_rest = b.store_rest ∙ a.store_rest;
        output_length = b.output_length ∙ a.output_length;
        output_rest = λ n m. b.output_rest n m ∙ a.output_rest n (omega (arith, mul-le-mul_right size b.more));
      })

-- What a call that no number turns back is judged by, and the other way.
pub record Judged (t : Trimmed) (s : State) (store : List ℕ) : Type 0 where
  pub value : judged t ≡ Ok tt
  pub enough : short_store t store ≡ false
  pub sound : bad_state (layout t) (counters_of t.count s) ≡ false

pub judged_run : (t : Trimmed) (s : State) (store : List ℕ) → judge_run t s store ≡ Ok tt → Judged t s store
unfolding judge_run judged
judged_run t s store e =
    let a = both_pass (value_checks t) _ e in
    let p10 = passes _ _ _ a.1 in
    let p11 = passes _ _ _ p10.1 in
    record { value = a.0; enough = p10.0; sound = p11.0 }

pub run_judged : (t : Trimmed) (s : State) (store : List ℕ) → Judged t s store → judge_run t s store ≡ Ok tt
unfolding judge_run judged first_of
run_judged t s store j = first_append (value_checks t) _ j.value ∙ rw (j.enough, j.sound) refl

-- A call from such a state: where it begins and ends, and what it leaves.
module _ (t : Trimmed) (proper : Proper t) (s : State) (store lent output : List ℕ) (allowance : ℕ) (j : Judged t s store) where
  abbrev pub ok : Accepted t
  ok = accepted t proper j.value

  abbrev pub start : Standing
  start = begun t s store output

  abbrev pub end : Ended
  end = ended t s store lent output allowance

  -- The stream plays no part in how many words a firing writes.
  abbrev pub write_width : (ws : List ℕ) → length ws ≡ (layout t).filters → length (written_by t ws) ≡ width_of t
  write_width = width_right (record { trimmed = t; proper = proper; accepted = ok; stream = λ _. 0 })

  start_good : Good (layout t) (lawful t proper ok) (written_by t) (width_of t) lent write_width start
  unfolding begun layout counters_of short_store
  start_good = record {
    invariant = good_invariant (layout t) (counters_of t.count s) (length_tabulate t.count _) j.sound;
    room = omega (arith, all_places t proper ok, ltb-false (length store) (sum t.capacities) j.enough);
    taken = omega arith;
    places = omega (arith, zero-mul (width_of t));
  }

  pub end_stays : Stays (layout t) (lawful t proper ok) (written_by t) (width_of t) lent write_width start end
  unfolding ended
  end_stays = stays (layout t) (lawful t proper ok) (written_by t) (width_of t) lent write_width allowance start start_good

  abbrev run : Run
  run = run_trimmed t s store lent output allowance

  -- What the call leaves, by its end.
  unfoldable pub ran : Run
  ran = record {
    answer = Ok (outcome_of end.ending end.standing.done);
    state = with_counters s end.standing.counters;
    store = end.standing.store;
    output = end.standing.output;
  }

  pub run_is : run ≡ ran
  unfolding run_trimmed ran
  run_is = rw (run_judged t s store j) refl

  pub end_counters : length end.standing.counters.passed ≡ t.count
  unfolding layout
  end_counters = omega (arith, holds_length (layout t) end.standing.counters.fired 0 (layout t).cells end.standing.counters.passed end_stays.good.invariant.all)

  pub run_counters : counters_of t.count run.state ≡ end.standing.counters
  unfolding ran
  run_counters = ap (λ (x : Run). counters_of t.count x.state) run_is ∙ counters_back t.count s end.standing.counters end_counters

  pub run_store_length : length run.store ≡ length store
  unfolding begun ran
  run_store_length = ap (λ (x : Run). length x.store) run_is ∙ end_stays.store_length

  -- The state that it hands back has the invariant, so it is not turned back with any store that is long enough,
  pub judged_again : (store' : List ℕ) → short_store t store' ≡ false → Judged t run.state store'
  judged_again store' e = record { value = j.value; enough = e; sound = rw run_counters (invariant_good (layout t) end.standing.counters end_stays.good.invariant) }

  -- and the store that it hands back is as long as it was.
  pub accepted_again : judge_run t run.state run.store ≡ Ok tt
  unfolding short_store
  accepted_again = run_judged t run.state run.store (judged_again run.store (ap (λ (n : ℕ). ltb n (sum t.capacities)) run_store_length ∙ j.enough))
