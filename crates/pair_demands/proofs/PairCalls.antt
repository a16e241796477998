-- A run call of two kernels on one chain: the proofs.
use Prim.Native.Nat.{ℕ, zero, suc, ◌+◌, ◌*◌, ◌≤◌, ◌<◌, min}
use mathlib.Core.Bool.{Bool, true, false, not, ◌||◌, true≢false}
use mathlib.Core.List.{List, [], ◌∷◌, map}
use mathlib.Core.Logic.{◌⊎◌, inl, inr}
use mathlib.Core.Path.{◌≡◌, refl, sym, ◌∙◌, ap, ap₂, subst}
use native.Mathlib.Decide.{dec_lt}
use native.Mathlib.Nat.{zero-add, zero-mul, le-div_iff_mul-le, le_of_suc-le-suc}
use native.Mathlib.Omega.{arith}
use lib.IntN.{ℤ}
use lib.ListN.{length, get_or, take, replicate, length-replicate, length-map}
use lib.Seq.{sets}
use Rattle.model.specs.Lists.{tabulate, any}
use Rattle.model.specs.Vectors.{equal, plus}
use Rattle.model.specs.Values.{Trimmed, trimmed, dims_of}
use Rattle.model.specs.Iterations.{reads_of, position_of, iteration_of}
use Rattle.model.specs.Answers.{Verdict, first_of, answer_counts}
use Rattle.model.specs.Steps.{which_of}
use Rattle.model_run.specs.Kernels.{words_at}
use Rattle.model_run.specs.Clock.{Layout, fires}
use Rattle.model_run.specs.Running.{layout, with_counters, Standing, Ending, Full, ends, outcome_of, begun, written_by, width_of, short_store, judge_run, ended, run_trimmed}
use Rattle.model.specs.declared.State.{State}
use Rattle.model.specs.declared.Counts.{Counts}
use Rattle.std.specs.Prelude.{Ok, Err}
use Rattle.grid_laws.proofs.ListLaws.{get_d_tabulate, tabulate_back}
use Rattle.grid_laws.proofs.CheckLaws.{some_references}
use Rattle.grid_laws.proofs.ChainLaws.{offsets_count}
use Rattle.grid_laws.proofs.OrderLaws.{equal_is}
use Rattle.grid_laws.proofs.TermLaws.{which_below, which_stands, number_at_lem}
use Rattle.grid_laws.proofs.Tests.{neither}
use Rattle.run_laws.proofs.Looks.{Looked, is_full_lem}
use Rattle.run_laws.proofs.Ends.{ends_so}
use Rattle.grid_laws.proofs.PairPasses.{PairPasses, pair_passes, any_both}
use Rattle.model.specs.Pairs.{Own, own_of, member, not_union, raw_of, pair_checks}
use Rattle.model_run.specs.PairLists.{own_loop}
use Rattle.model_run.specs.PairRuns.{held_by, in_chain_order, by_rows, own_gives, own_words, own_width, room_for, judge_pair, pair_ended, pair_output, run_pair}
use Rattle.pair_demands.specs.PairCalls.{paired, Projects, Decides, Lacks, OnePair, pair_run, AsRaw, Unfull, Independent, Pair, chain_of_pair, first_own, second_own, Twice, PairDemands}
use Rattle.pair_laws.proofs.RowsLaws.{rows_length}
use Rattle.pair_laws.proofs.PieceLaws.{made_few}
use Rattle.run_laws.proofs.Outputs.{take_written}
use Rattle.run_laws.proofs.CallEnds.{outcome_counts_lem}
use Rattle.pair_laws.proofs.RawLaws.{raw_layout, raw_width, one_fits, fits_row, Fits, alone, decides}
use Rattle.pair_laws.proofs.SameLaws.{length_output, both_raw}
use Rattle.pair_laws.proofs.SideLaws.{first_fits, second_fits, judged_alike}

-- ---- the pair

module _ (t : Trimmed) (some : 0 < t.count) (s : State) (store lent : List ℕ) (allowance : ℕ) (a b : Own) (fa : Fits t a) (fb : Fits t b) (first second : List ℕ) where
  pub first_alone : Projects t a b s store lent first second allowance a first
  unfolding pair_ended pair_output
  first_alone = alone t some s store lent allowance a fa first (min (room_for a first) (room_for b second)) (omega arith)

  pub second_alone : Projects t a b s store lent first second allowance b second
  unfolding pair_ended pair_output
  second_alone = alone t some s store lent allowance b fb second (min (room_for a first) (room_for b second)) (omega arith)

  pub first_decides : room_for a first ≤ room_for b second → Decides t a b s store lent first second allowance a first
  unfolding pair_ended pair_output
  first_decides h =
      let d = decides t some s store lent allowance a fa first (min (room_for a first) (room_for b second)) (omega arith) in
      record { ending = d.0; standing = d.1 }

  pub second_decides : room_for b second ≤ room_for a first → Decides t a b s store lent first second allowance b second
  unfolding pair_ended pair_output
  second_decides h =
      let d = decides t some s store lent allowance b fb second (min (room_for a first) (room_for b second)) (omega arith) in
      record { ending = d.0; standing = d.1 }

-- ---- Full

full_fires : (L : Layout) (write : List ℕ → List ℕ) (size : ℕ) (lent : List ℕ) (left : ℕ) (s : Standing) → Looked L write size lent left s (ends Full)
    → (fires L s.counters ≡ true) × (length s.output < s.done.firings * size + size)
full_fires L write size lent left s (is_full_lem f z l m r p) = (r, p)

module _ (t : Trimmed) (some : 0 < t.count) (s : State) (store lent : List ℕ) (allowance : ℕ) (a b : Own) (fa : Fits t a) (fb : Fits t b) (first second : List ℕ) where
  abbrev R : ℕ
  R = min (room_for a first) (room_for b second)

  abbrev f : ℕ
  f = (paired t a b s store lent first second allowance).standing.done.firings

  full : (paired t a b s store lent first second allowance).ending ≡ Full
      → (fires (layout t) (paired t a b s store lent first second allowance).standing.counters ≡ true)
      × (Lacks t a b s store lent first second allowance a first ⊎ Lacks t a b s store lent first second allowance b second)
  unfolding pair_ended ended begun room_for
  full e =
      let L = layout (raw_of t) in
      let w = written_by (raw_of t) in
      let n = width_of (raw_of t) in
      let from = begun (raw_of t) s store (replicate (R * t.count) 0) in
      let so = ends_so L w n lent allowance from in
      let ff = full_fires L w n lent so.rest _ (rw e at so.why) in
      let long = length_output L w n lent allowance from ∙ length-replicate (R * t.count) 0 in
      (rw (← raw_layout t) ff.0, lacks (subst (λ (m : ℕ). R * t.count < f * m + m) (raw_width t) (rw long at ff.1)))
    where
      lacks : R * t.count < f * t.count + t.count → Lacks t a b s store lent first second allowance a first ⊎ Lacks t a b s store lent first second allowance b second
      lacks h = go (dec_lt (length first) (f * own_width a + own_width a)) (dec_lt (length second) (f * own_width b + own_width b))
        where
          go : Dec (length first < f * own_width a + own_width a) → Dec (length second < f * own_width b + own_width b)
              → Lacks t a b s store lent first second allowance a first ⊎ Lacks t a b s store lent first second allowance b second
          go (yes x) d = inl x
          go (no x) (yes y) = inr y
          go (no x) (no y) =
              let k : suc f ≤ room_for a first = one_fits (own_width a) (length first) f fa.wide (omega arith) in
              let m : suc f ≤ room_for b second = one_fits (own_width b) (length second) f fb.wide (omega arith) in
              let r : suc f ≤ R = omega arith in
              absurd (let q = fits_row t.count R f r in let z : ⊥ = omega arith in z)

  pub one_pair : OnePair t a b s store lent first second allowance
  one_pair = record {
    first_alone = first_alone t some s store lent allowance a b fa fb first second;
    second_alone = second_alone t some s store lent allowance a b fa fb first second;
    first_decides = first_decides t some s store lent allowance a b fa fb first second;
    second_decides = second_decides t some s store lent allowance a b fa fb first second;
    full = full;
  }

-- ---- a pair's call is the raw chain's

module _ (t : Trimmed) (a b : Own) (e : first_of (pair_checks t a b) ≡ Ok tt) (s : State) (store lent first second : List ℕ) (allowance : ℕ) where
  pub as_raw : AsRaw t a b s store lent first second allowance
  unfolding run_pair run_trimmed pair_ended
  as_raw = go (judge_pair t a b s store) refl (judged_alike t a b s store e)
    where
      go : (v : Verdict) → judge_pair t a b s store ≡ v → judge_pair t a b s store ≡ judge_run (raw_of t) s store → AsRaw t a b s store lent first second allowance
      go (Ok _) x y = record { answer = rw (← y, x) refl; state = rw (← y, x) refl; words = rw (← y, x) refl }
      go (Err r) x y = record { answer = rw (← y, x) refl; state = rw (← y, x) refl; words = rw (← y, x) refl }

-- ---- neither kernel alters the other's words

module _ (t : Trimmed) (a b a' b' : Own) (e : first_of (pair_checks t a b) ≡ Ok tt) (e' : first_of (pair_checks t a' b') ≡ Ok tt)
    (s : State) (store lent first second first' second' : List ℕ) (allowance : ℕ) where
  pub independent : Unfull (pair_run t a b s store lent first second allowance) → Unfull (pair_run t a' b' s store lent first' second' allowance)
      → Independent t a b a' b' s store lent first second first' second' allowance
  unfolding run_pair pair_ended pair_output outcome_of
  independent u u' = go (judge_run (raw_of t) s store) refl (judged_alike t a b s store e) (judged_alike t a' b' s store e')
    where
      go : (v : Verdict) → judge_run (raw_of t) s store ≡ v → judge_pair t a b s store ≡ judge_run (raw_of t) s store → judge_pair t a' b' s store ≡ judge_run (raw_of t) s store
          → Independent t a b a' b' s store lent first second first' second' allowance
      go (Err r) x y z = record { answers = rw (y, z, x) refl; states = rw (y, z, x) refl; stores = rw (y, z, x) refl; same_first = λ _ o. rw (y, z, x) o; same_second = λ _ o. rw (y, z, x) o }
      go (Ok _) x y z =
          let some = some_references t.count (pair_passes t a b e).count in
          let k = both_raw t some s store lent allowance (min (room_for a first) (room_for b second)) (min (room_for a' first') (room_for b' second'))
          (λ f. u (pair_ended t a b s store lent first second allowance).standing.done (rw (y, x, f) refl)) (λ f. u' (pair_ended t a' b' s store lent first' second' allowance).standing.done (rw (z, x, f) refl)) in
          let rows : (c c' : Own) (o o' : List ℕ) → c ≡ c' → o ≡ o' → pair_output t a b s store lent first second allowance c o ≡ pair_output t a' b' s store lent first' second' allowance c' o' =
          λ c c' o o' d h. rw (k.done, ← d, ← h) (ap (λ (l : List ℕ). sets o 0 l) (k.rows (own_words t c))) in
          record {
            answers = rw (y, z, x) (ap₂ (λ (w : Ending) (c : Counts). Ok (outcome_of w c)) (sym k.ending) (sym k.done));
            states = rw (y, z, x) (ap (with_counters s) (sym k.counters));
            stores = rw (y, z, x) (sym k.words);
            same_first = λ d o. rw (y, z, x) (rows a a' first first' d o);
            same_second = λ d o. rw (y, z, x) (rows b b' second second' d o);
          }

-- ---- twice the same window

module _ (t : Trimmed) (some : 0 < t.count) (a : Own) (fits : Fits t a) (s : State) (store lent first second : List ℕ) (allowance : ℕ) where
  abbrev most : ℕ
  most = min (room_for a first) (room_for a second)

  abbrev made : ℕ
  made = (paired t a a s store lent first second allowance).standing.done.firings

  -- What the firings give, whichever output it goes to.
  abbrev given : List ℕ
  given = by_rows t.count (own_words t a) made (paired t a a s store lent first second allowance).standing.output

  made_most : made ≤ most
  unfolding pair_ended
  made_most = made_few t some s store lent allowance most most (replicate (most * t.count) 0) (length-replicate (most * t.count) 0) (omega arith)

  given_to_lem : (output : List ℕ) → most ≤ room_for a output → take (made * own_width a) (sets output 0 given) ≡ given
  unfolding room_for
  given_to_lem output h =
      let long = rows_length t.count (own_words t a) (own_width a) fits.long made (paired t a a s store lent first second allowance).standing.output in
      let there : made * own_width a ≤ length output = (le-div_iff_mul-le fits.wide).0 (omega (arith, made_most)) in
      ap (λ (n : ℕ). take n (sets output 0 given)) (sym long ∙ sym (zero-add (length given))) ∙ take_written output given 0 (omega (arith, long))

  pub twice_so : Twice t a s store lent first second allowance
  unfolding run_pair pair_output answer_counts
  twice_so = go (judge_pair t a a s store) refl
    where
      go : (v : Verdict) → judge_pair t a a s store ≡ v → Twice t a s store lent first second allowance
      go (Err r) x = rw (x, zero-mul (own_width a)) refl
      go (Ok _) x = rw (x, outcome_counts_lem (paired t a a s store lent first second allowance).ending (paired t a a s store lent first second allowance).standing.done) (given_to_lem first (omega arith) ∙ sym (given_to_lem second (omega arith)))

-- ---- the chain's own kernel and order

pub no_part : (t : Trimmed) (a b : Own) (s : State) (store lent first second : List ℕ) (allowance : ℕ)
    → run_pair t a b s store lent first second allowance ≡ run_pair (raw_of t) a b s store lent first second allowance
unfolding run_pair pair_output pair_ended judge_pair pair_checks raw_of short_store own_words own_gives held_by in_chain_order
no_part t a b s store lent first second allowance = rw (raw_layout t) refl

-- ---- the author's own loop

member_stands : (o : List ℤ) (cs : List (List ℤ)) → any (λ p. equal o p) cs ≡ true → (l : ℕ) × (l < length cs) × (get_or cs l [] ≡ o)
unfolding any
member_stands o [] e = absurd (true≢false (sym e))
member_stands o (c ∷ cs) e = go (equal o c) refl e (member_stands o cs)
  where
    go : (x : Bool) → equal o c ≡ x → (x || any (λ p. equal o p) cs) ≡ true → (any (λ p. equal o p) cs ≡ true → (l : ℕ) × (l < length cs) × (get_or cs l [] ≡ o))
        → (l : ℕ) × (l < length (c ∷ cs)) × (get_or (c ∷ cs) l [] ≡ o)
    go true q h later = (0, omega arith, sym (equal_is o c q))
    go false q h later = let (l, b, d) = later h in (suc l, omega arith, d)

each_member : (cs os : List (List ℤ)) → any (λ o. not (member cs o)) os ≡ false → (i : ℕ) → i < length os → any (λ p. equal (get_or os i []) p) cs ≡ true
unfolding any member
each_member cs [] e i h = absurd (omega arith)
each_member cs (o ∷ os) e zero h = go (any (λ p. equal o p) cs) (neither (not (any (λ p. equal o p) cs)) _ e).0
  where
    go : (x : Bool) → not x ≡ false → x ≡ true
    go true q = refl
    go false q = absurd (true≢false q)
each_member cs (o ∷ os) e (suc i) h = each_member cs os (neither (not (any (λ p. equal o p) cs)) _ e).1 i (le_of_suc-le-suc h)

words_of : (ws : List ℕ) (cs os : List (List ℤ)) → words_at (map (which_of cs) os) ws ≡ map (λ o. get_or ws (which_of cs o) 0) os
unfolding words_at
words_of ws cs [] = refl
words_of ws cs (o ∷ os) = ap (λ (l : List ℕ). get_or ws (which_of cs o) 0 ∷ l) (words_of ws cs os)

module _ (t : Trimmed) (c : Own) (et : length t.offsets ≡ t.count) (ec : length c.offsets ≡ c.count) (among : any (λ o. not (member t.offsets o)) c.offsets ≡ false) (stream : ℕ → ℕ) (j : ℕ) where
  pub own_loop_lem : own_words t c (tabulate t.count (λ k. stream (reads_of t j k))) ≡ own_loop t c stream j
  unfolding own_words own_loop held_by reads_of
  own_loop_lem = ap (own_gives t c) (words_of ws t.offsets c.offsets ∙ sym (tabulate_back 0 (map (λ o. get_or ws (which_of t.offsets o) 0) c.offsets) c.count reads (length-map c.offsets _ ∙ ec) each))
    where
      ws : List ℕ
      ws = tabulate t.count (λ k. stream (reads_of t j k))

      reads : ℕ → ℕ
      reads i = stream (position_of t (plus (iteration_of t j) (get_or c.offsets i [])))

      each : (i : ℕ) → i < c.count → reads i ≡ get_or (map (λ o. get_or ws (which_of t.offsets o) 0) c.offsets) i 0
      each i h =
          let b : i < length c.offsets = omega arith in
          let o = get_or c.offsets i [] in
          let w = which_below t.offsets o (member_stands o t.offsets (each_member t.offsets c.offsets among i b)) in
          sym (number_at_lem (λ o. get_or ws (which_of t.offsets o) 0) c.offsets i b
          ∙ get_d_tabulate t.count (λ k. stream (reads_of t j k)) (which_of t.offsets o) 0 (omega arith)
          ∙ ap (λ (x : List ℤ). stream (position_of t (plus (iteration_of t j) x))) (which_stands t.offsets o w))

-- ---- all of it

module _ (p : Pair) where
  abbrev t : Trimmed
  t = chain_of_pair p

  pub count_right : length t.offsets ≡ t.count
  unfolding trimmed
  count_right = offsets_count (dims_of p.chain.grid) p.chain.window

  pub first_right : length (first_own p).offsets ≡ (first_own p).count
  unfolding own_of
  first_right = offsets_count (dims_of p.chain.grid) p.first.window

  pub second_right : length (second_own p).offsets ≡ (second_own p).count
  unfolding own_of
  second_right = offsets_count (dims_of p.chain.grid) p.second.window

  abbrev passed : PairPasses t (first_own p) (second_own p)
  passed = pair_passes t (first_own p) (second_own p) p.accepted

  pub each_among : (any (λ o. not (member t.offsets o)) (first_own p).offsets ≡ false) × (any (λ o. not (member t.offsets o)) (second_own p).offsets ≡ false)
  unfolding not_union
  each_among = any_both _ (first_own p).offsets (second_own p).offsets (neither _ _ passed.is_union).0

  pub of_one : (s : State) (store lent first second : List ℕ) (allowance : ℕ) → OnePair t (first_own p) (second_own p) s store lent first second allowance
  of_one s store lent first second allowance =
      one_pair t (some_references t.count passed.count) s store lent allowance (first_own p) (second_own p) (first_fits t (first_own p) (second_own p) first_right second_right passed)
      (second_fits t (first_own p) (second_own p) first_right second_right passed) first second

pub pair_demands : PairDemands
pair_demands = record {
  one = of_one;
  as_raw = λ p s store lent first second allowance. as_raw (chain_of_pair p) (first_own p) (second_own p) p.accepted s store lent first second allowance;
  loop_first = λ p stream j. own_loop_lem (chain_of_pair p) (first_own p) (count_right p) (first_right p) (each_among p).0 stream j;
  loop_second = λ p stream j. own_loop_lem (chain_of_pair p) (second_own p) (count_right p) (second_right p) (each_among p).1 stream j;
  twice = λ p d s store lent first second allowance.
      twice_so (chain_of_pair p) (some_references (chain_of_pair p).count (passed p).count) (first_own p)
      (first_fits (chain_of_pair p) (first_own p) (second_own p) (first_right p) (second_right p) (passed p)) s store lent first second allowance;
  no_part = no_part;
  independent = λ p q d s store lent first second first' second' allowance u u'.
      independent (chain_of_pair p) (first_own p) (second_own p) (first_own q) (second_own q) p.accepted
      (subst (λ (x : Trimmed). first_of (pair_checks x (first_own q) (second_own q)) ≡ Ok tt) d q.accepted) s store lent first second first' second' allowance u
      (subst (λ (x : Trimmed). Unfull (pair_run x (first_own q) (second_own q) s store lent first' second' allowance)) d u');
}
