-- What one call does to the counters, the store and the output, clock by clock.
use Prim.Native.Nat.{ℕ, zero, suc, ◌+◌, ◌*◌, ◌-◌, ◌≤◌, ◌<◌}
use mathlib.Core.Bool.{Bool, true, false, cond}
use mathlib.Core.List.{List, [], ◌∷◌, ◌++◌, map, append_assoc, append-nil}
use mathlib.Core.Path.{◌≡◌, refl, sym, ◌∙◌, ap, fun_ext}
use native.Mathlib.Nat.{zero-add, add-zero, suc-mul, mul-le-mul_right}
use native.Mathlib.Omega.{arith}
use lib.ListN.{length, get_or, take, drop}
use lib.Seq.{sets, length-sets}
use Rattle.model.specs.Lists.{tabulate}
use Rattle.model_run.specs.Clock.{Layout, first, fires, next}
use Rattle.model_run.specs.Store.{first_place, presented, stored}
use Rattle.model_run.specs.Running.{Standing, Ending, goes, Ended, words, clocked, call, events}
use Rattle.model_run.specs.CallLists.{firings_among}
use Rattle.grid_laws.proofs.ListLaws.{length_tabulate, map_tabulate}
use Rattle.flow.specs.Machine.{Lawful, Holds, Invariant, Ready}
use Rattle.flow.proofs.Tests.{fires_yes, yes_live}
use Rattle.flow.proofs.Invariant.{next_invariant}
use Rattle.run_laws.proofs.Looks.{Looked, is_going, along_call}
use Rattle.run_laws.proofs.Traces.{Traced, fired_next}
use Rattle.run_laws.proofs.Traces as trace
use Rattle.run_laws.proofs.Held.{Steps, Held, held_stored, stored_length, presented_words, next_steps, holds_fitted, holds_length, ready_at_lem}
use Rattle.run_laws.proofs.Outputs.{take_written, drop_written}

module _ (L : Layout) (write : List ℕ → List ℕ) (size : ℕ) (lent : List ℕ) where
  -- A call's counts and clocks, from s on.
  pub record Counted (s : Standing) (r : Ended) (es : List Bool) : Type 0 where
    pub traced : Traced L s.counters es r.standing.counters
    pub clocks : r.standing.done.clocks ≡ length es + s.done.clocks
    pub firings : r.standing.done.firings ≡ firings_among es + s.done.firings

  pub counted : (left : ℕ) (s : Standing) → Counted s (call L write size lent left s) (events L write size lent left s)
  unfolding firings_among clocked
  counted = along_call L write size lent (λ _ s r es. Counted s r es)
      (λ left s e h. record { traced = trace.ended; clocks = omega arith; firings = omega arith }) (λ left s r es h c. clock s r es h c)
    where
      clock : {left : ℕ} (s : Standing) (r : Ended) (es : List Bool) → Looked L write size lent (suc left) s goes → Counted (clocked L write size lent s) r es
          → Counted s r (fires L s.counters ∷ es)
      clock s r es (is_going f _ _ m _) c = record {
        traced = trace.clocked (yes_live L s.counters f m) c.traced;
        clocks = omega (arith, c.clocks);
        firings = go (fires L s.counters) c.firings;
      }
        where
          go : (b : Bool) → r.standing.done.firings ≡ firings_among es + cond b (suc s.done.firings) s.done.firings
              → r.standing.done.firings ≡ cond b (suc (firings_among es)) (firings_among es) + s.done.firings
          go true e = omega arith
          go false e = omega arith

-- `stream`: the word of each position; the call's first lent cell is that of position `from`; a firing writes `size` words.
module _ (L : Layout) (lawful : Lawful L) (write : List ℕ → List ℕ) (size : ℕ) (lent : List ℕ) (stream : ℕ → ℕ) (from : ℕ)
    (lent_words : (i : ℕ) → i < length lent → get_or lent i 0 ≡ stream (from + i)) (width : (ws : List ℕ) → length ws ≡ L.filters → length (write ws) ≡ size) where
  open L use {wants, capacity, filters, cells, iterations}

  -- The words of iteration j's firing, and those of m firings from it on.
  unfoldable pub firing_words : ℕ → List ℕ
  firing_words j = write (tabulate filters (λ k. stream (wants j k)))

  unfoldable pub words_from : (j m : ℕ) → List ℕ
  words_from j zero = []
  words_from j (suc m) = firing_words j ++ words_from (suc j) m

  -- What holds before every clock of a call.
  pub record Sound (s : Standing) : Type 0 where
    pub invariant : Invariant L s.counters
    pub taken : first s.counters.passed ≡ from + s.done.cells
    pub held : Held capacity stream 0 s.store s.counters.passed
    pub room : first_place capacity (filters - 1) ≤ length s.store

  -- The next lent cell is the one that filter 0 is presented.
  next_cell : (s : Standing) → Sound s → s.done.cells < length lent → get_or lent s.done.cells 0 ≡ stream (first s.counters.passed)
  next_cell s h l = lent_words s.done.cells l ∙ ap stream (sym h.taken)

  clock_held : (x : ℕ) (store ps ps' : List ℕ) (f f' : ℕ) → Holds L f 0 cells ps → Holds L f' 0 cells ps' → Steps cells ps ps' → Held capacity stream 0 store ps
      → first_place capacity (filters - 1) ≤ length store → x ≡ stream (first ps) → Held capacity stream 0 (stored capacity 0 x store ps ps' store) ps'
  clock_held x store [] [] f f' i j st h room e = tt
  clock_held x store [] (p' ∷ ps') f f' i j st h room e = absurd st
  clock_held x store (p ∷ ps) [] f f' i j st h room e = absurd st
  clock_held x store (p ∷ ps) (p' ∷ ps') f f' i j st h room e =
      held_stored capacity stream (filters - 1) 0 x cells p store ps p' ps' store (omega (arith, holds_length L f 0 cells (p ∷ ps) i)) room st
      (holds_fitted L f' 0 cells (p' ∷ ps') j) h (λ _ _. refl) (λ _. e)

  first_steps : (source : ℕ) (ps ps' : List ℕ) → Steps source ps ps' → first ps ≤ first ps'
  first_steps source [] [] s = omega arith
  first_steps source [] (p' ∷ ps') s = absurd s
  first_steps source (p ∷ ps) [] s = absurd s
  first_steps source (p ∷ ps) (p' ∷ ps') s = s.0

  pub clocked_sound : {left : ℕ} (s : Standing) → Looked L write size lent (suc left) s goes → Sound s → Sound (clocked L write size lent s)
  unfolding clocked
  clocked_sound s (is_going f _ l m _) h =
      let i = next_invariant L lawful s.counters f h.invariant in
      let st = next_steps L s.counters h.invariant in
      let up = first_steps cells s.counters.passed (next L s.counters).passed st in
      record {
        invariant = i;
        taken = omega (arith, h.taken);
        held = clock_held _ s.store s.counters.passed (next L s.counters).passed s.counters.fired (next L s.counters).fired h.invariant.all i.all st
            h.held h.room (next_cell s h l);
        room = rw (stored_length capacity 0 (get_or lent s.done.cells 0) s.store s.counters.passed (next L s.counters).passed s.store) h.room;
      }

  -- A firing writes the words of the cells that its references read.
  presented_firing : (x : ℕ) (store ps : List ℕ) (f : ℕ) → Holds L f 0 cells ps → Ready L f 0 cells ps → Held capacity stream 0 store ps → x ≡ stream (first ps)
      → presented capacity 0 x store ps ≡ map stream ps
  unfolding presented
  presented_firing x store [] f i r h e = refl
  presented_firing x store (p ∷ ps) f i r h e = presented_words capacity stream L f 0 x cells p store ps r h e

  pub firing_words_lem : (s : Standing) → Sound s → s.done.cells < length lent → fires L s.counters ≡ true
      → words L write size lent s ≡ tabulate filters (λ k. stream (wants s.counters.fired k))
  unfolding words
  firing_words_lem s h l e =
      let r = fires_yes L s.counters e in
      let f = s.counters.fired in
      let ps = s.counters.passed in
      presented_firing _ s.store ps f h.invariant.all r h.held (next_cell s h l)
      ∙ ap (λ (qs : List ℕ). map stream qs) (ready_at_lem L f 0 cells ps r)
      ∙ map_tabulate stream (length ps) (λ i. wants f (0 + i))
      ∙ same f (length ps) (holds_length L f 0 cells ps h.invariant.all)
    where
      same : (f n : ℕ) → 0 + n ≡ filters → tabulate n (λ k. stream (wants f (0 + k))) ≡ tabulate filters (λ k. stream (wants f k))
      same f n e =
          ap (λ (m : ℕ). tabulate m (λ k. stream (wants f (0 + k)))) (omega arith)
          ∙ ap (λ (g : ℕ → ℕ). tabulate filters g) (fun_ext (λ k. ap (λ (m : ℕ). stream (wants f m)) (zero-add k)))

  -- What the call writes, from s on: the words of its firings, in order, and no later place.
  pub record Wrote (s : Standing) (r : Ended) (es : List Bool) : Type 0 where
    pub written : take ((s.done.firings + firings_among es) * size) r.standing.output
        ≡ take (s.done.firings * size) s.output ++ words_from s.counters.fired (firings_among es)
    pub later : (n : ℕ) → (s.done.firings + firings_among es) * size ≤ n → drop n r.standing.output ≡ drop n s.output
    pub same_length : length r.standing.output ≡ length s.output

  -- One firing, and the firings behind it.
  fire_wrote : (f m j : ℕ) (out out' ws : List ℕ) → length ws ≡ size → f * size + size ≤ length out
      → take ((suc f + m) * size) out' ≡ take (suc f * size) (sets out (f * size) ws) ++ words_from (suc j) m → ws ≡ firing_words j
      → take ((f + suc m) * size) out' ≡ take (f * size) out ++ words_from j (suc m)
  unfolding words_from
  fire_wrote f m j out out' ws w fits e d =
      ap (λ (n : ℕ). take (n * size) out') (omega arith) ∙ e
      ∙ ap (λ (l : List ℕ). l ++ words_from (suc j) m)
      (ap (λ (n : ℕ). take n (sets out (f * size) ws)) (suc-mul f size ∙ ap (λ (n : ℕ). f * size + n) (sym w)) ∙ take_written out ws (f * size) (omega arith))
      ∙ append_assoc (take (f * size) out) ws (words_from (suc j) m)
      ∙ ap (λ (l : List ℕ). take (f * size) out ++ (l ++ words_from (suc j) m)) d

  pub wrote : (left : ℕ) (s : Standing) → Sound s → Wrote s (call L write size lent left s) (events L write size lent left s)
  unfolding firings_among words_from clocked
  wrote = along_call L write size lent (λ _ s r es. Sound s → Wrote s r es) (λ left s e h snd. stop s e) (λ left s r es h ih snd. clock s r es h snd (ih (clocked_sound s h snd)))
    where
      stop : (s : Standing) (e : Ending) → Wrote s (record { ending = e; standing = s }) []
      stop s e = record { written = ap (λ (n : ℕ). take (n * size) s.output) (add-zero s.done.firings) ∙ sym (append-nil (take (s.done.firings * size) s.output)); later = λ n h. refl; same_length = refl }

      clock : {left : ℕ} (s : Standing) (r : Ended) (es : List Bool) → Looked L write size lent (suc left) s goes → Sound s → Wrote (clocked L write size lent s) r es
          → Wrote s r (fires L s.counters ∷ es)
      clock s r es (is_going _ _ l _ room) snd w =
          let t = go (fires L s.counters) refl (next L s.counters).fired (fired_next L s.counters) w.written w.later w.same_length in
          record { written = t.0; later = t.1; same_length = t.2 }
        where
          f : ℕ
          f = s.done.firings

          j : ℕ
          j = s.counters.fired

          m : ℕ
          m = firings_among es

          out : List ℕ
          out = s.output

          out' : List ℕ
          out' = r.standing.output

          ws : List ℕ
          ws = write (words L write size lent s)

          go : (b : Bool) → fires L s.counters ≡ b → (j' : ℕ) → j' ≡ cond b (suc j) j
              → take ((cond b (suc f) f + m) * size) out' ≡ take (cond b (suc f) f * size) (cond b (sets out (f * size) ws) out) ++ words_from j' m
              → ((n : ℕ) → (cond b (suc f) f + m) * size ≤ n → drop n out' ≡ drop n (cond b (sets out (f * size) ws) out))
              → length out' ≡ length (cond b (sets out (f * size) ws) out)
              → (take ((f + cond b (suc m) m) * size) out' ≡ take (f * size) out ++ words_from j (cond b (suc m) m))
              × ((n : ℕ) → (f + cond b (suc m) m) * size ≤ n → drop n out' ≡ drop n out)
              × (length out' ≡ length out)
          go false e j' d x y z = (x ∙ ap (λ (i : ℕ). take (f * size) out ++ words_from i m) d, y, z)
          go true e j' d x y z =
              let fits = room e in
              let v = firing_words_lem s snd l e in
              let w : length ws ≡ size = width (words L write size lent s) (ap length v ∙ length_tabulate filters _) in
              let more : suc f ≤ f + suc m = omega arith in
              let k : f * size + size ≤ (f + suc m) * size = omega (arith, mul-le-mul_right size more, suc-mul f size) in (
                fire_wrote f m j out out' ws w fits (x ∙ ap (λ (i : ℕ). take (suc f * size) (sets out (f * size) ws) ++ words_from i m) d) (unfold firing_words in ap write v),
                λ n h. y n (rw (let q : suc f + m ≡ f + suc m = omega arith in q) h) ∙ drop_written out ws (f * size) (omega arith) n (omega arith),
                z ∙ length-sets out (f * size) ws,
              )

  -- A call leaves what holds before every clock.
  pub call_sound : (left : ℕ) (s : Standing) → Sound s → Sound (call L write size lent left s).standing
  call_sound = along_call L write size lent (λ _ s r _. Sound s → Sound r.standing) (λ left s e h snd. snd) (λ left s r es h ih snd. ih (clocked_sound s h snd))
