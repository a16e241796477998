-- The windows of a pair that no number turns back: their references in chain order, and how the pair is judged.
use Prim.Native.Nat.{ℕ, suc, ◌+◌, ◌<◌}
use mathlib.Core.Bool.{Bool, true, false, not, cond, ◌||◌, true≢false}
use mathlib.Core.List.{List, [], ◌∷◌}
use mathlib.Core.Path.{◌≡◌, refl, sym, ◌∙◌, ap}
use native.Mathlib.Omega.{arith}
use lib.IntN.{ℤ}
use lib.ListN.{length, length-map}
use Rattle.model.specs.Lists.{any}
use Rattle.model.specs.Vectors.{equal}
use Rattle.model.specs.Values.{Trimmed}
use Rattle.model.specs.Answers.{first_of}
use Rattle.model_run.specs.Kernels.{width}
use Rattle.model.specs.Judging.{value_checks, bad_count, repeats}
use Rattle.model_run.specs.Running.{short_store, judge_run}
use Rattle.model.specs.declared.State.{State}
use Rattle.std.specs.Prelude.{Ok}
use Rattle.grid_laws.proofs.CheckLaws.{some_references, both_pass}
use Rattle.grid_laws.proofs.OrderLaws.{equal_is, equal_itself}
use Rattle.grid_laws.proofs.Tests.{neither}
use Rattle.run_laws.proofs.Accepts.{first_append}
use Rattle.model.specs.declared.Kernel.{Kernel}
use Rattle.model.specs.declared.Kernel.TheVariants as kernel
use Rattle.run_laws.proofs.Between.{written_width}
use Rattle.grid_laws.proofs.PairPasses.{PairPasses, any_both, pair_passes, raw_checks}
use Rattle.model.specs.Pairs.{Own, member, not_union, pair_checks, raw_of}
use Rattle.model_run.specs.PairRuns.{in_chain_order, judge_pair, kept, own_gives, own_width, own_words}
use Rattle.pair_laws.proofs.RawLaws.{Fits, raw_layout}

pub raw_judged : (t : Trimmed) (a b : Own) (s : State) (store : List ℕ) → judge_pair t a b s store ≡ Ok tt → judge_run (raw_of t) s store ≡ Ok tt
unfolding judge_pair judge_run short_store raw_of
raw_judged t a b s store e =
    let both = both_pass (pair_checks t a b) _ e in
    first_append (value_checks (raw_of t)) _ (raw_checks t a b (pair_passes t a b both.0)) ∙ rw (raw_layout t) both.1

-- ---- a window's references in chain order are as many as it has

kept_never : (cs : List (List ℤ)) → length (kept (λ _. false) cs) ≡ 0
unfolding kept
kept_never [] = refl
kept_never (c ∷ cs) = kept_never cs

-- Of two tests that no offset passes both of.
kept_either : (p q : List ℤ → Bool) (cs : List (List ℤ)) → ((c : List ℤ) → p c ≡ true → q c ≡ true → ⊥)
    → length (kept (λ c. p c || q c) cs) ≡ length (kept p cs) + length (kept q cs)
unfolding kept
kept_either p q [] apart = refl
kept_either p q (c ∷ cs) apart = go (p c) (q c) (apart c) (kept_either p q cs apart)
  where
    go : (x y : Bool) → (x ≡ true → y ≡ true → ⊥) → length (kept (λ c. p c || q c) cs) ≡ length (kept p cs) + length (kept q cs)
        → length (cond (x || y) (c ∷ kept (λ c. p c || q c) cs) (kept (λ c. p c || q c) cs)) ≡ length (cond x (c ∷ kept p cs) (kept p cs)) + length (cond y (c ∷ kept q cs) (kept q cs))
    go true true h e = absurd (h refl refl)
    go true false h e = omega arith
    go false true h e = omega arith
    go false false h e = e

-- One offset.
equal_back : (c o : List ℤ) → equal o c ≡ false → equal c o ≡ false
equal_back c o e = go (equal c o) refl
  where
    go : (x : Bool) → equal c o ≡ x → x ≡ false
    go false d = refl
    go true d = absurd (true≢false (sym (ap (equal o) (equal_is c o d) ∙ equal_itself o) ∙ e))

kept_other : (o : List ℤ) (cs : List (List ℤ)) → any (λ p. equal o p) cs ≡ false → length (kept (λ c. equal c o) cs) ≡ 0
unfolding kept any
kept_other o [] e = refl
kept_other o (c ∷ cs) e = let n = neither (equal o c) (any (λ p. equal o p) cs) e in rw (equal_back c o n.0) (kept_other o cs n.1)

kept_one : (o : List ℤ) (cs : List (List ℤ)) → repeats cs ≡ false → any (λ p. equal o p) cs ≡ true → length (kept (λ c. equal c o) cs) ≡ 1
unfolding kept any repeats
kept_one o [] d e = absurd (true≢false (sym e))
kept_one o (c ∷ cs) d e = go (equal c o) refl (neither (any (λ p. equal c p) cs) (repeats cs) d) e (kept_one o cs)
  where
    go : (x : Bool) → equal c o ≡ x → (any (λ p. equal c p) cs ≡ false) × (repeats cs ≡ false) → (equal o c || any (λ p. equal o p) cs) ≡ true
        → (repeats cs ≡ false → any (λ p. equal o p) cs ≡ true → length (kept (λ c. equal c o) cs) ≡ 1) → length (cond x (c ∷ kept (λ c. equal c o) cs) (kept (λ c. equal c o) cs)) ≡ 1
    go true q n h ih = let same = equal_is c o q in ap suc (kept_other o cs (rw same at n.0))
    go false q n h ih = ih n.1 (rw (equal_back o c q) at h)

pub kept_all : (os cs : List (List ℤ)) → repeats os ≡ false → repeats cs ≡ false → any (λ o. not (member cs o)) os ≡ false → length (kept (member os) cs) ≡ length os
unfolding any repeats member
kept_all [] cs d e h = kept_never cs
kept_all (o ∷ os) cs d e h =
    let n = neither (any (λ p. equal o p) os) (repeats os) d in
    let m = neither (not (member cs o)) (any (λ o. not (member cs o)) os) h in
    kept_either (λ c. equal c o) (member os) cs (λ c x y. true≢false (sym y ∙ ap (member os) (equal_is c o x) ∙ n.0))
    ∙ omega (arith, kept_one o cs e (is_member (member cs o) m.0), kept_all os cs n.1 e m.1)
  where
    is_member : (x : Bool) → not x ≡ false → x ≡ true
    is_member true q = refl
    is_member false q = absurd (true≢false q)

-- ---- what the laws of a pair ask

wide_enough : (k : Kernel) (n : ℕ) → 0 < n → 0 < width k n
unfolding width
wide_enough kernel.Raw n h = h
wide_enough kernel.Difference n h = omega arith
wide_enough (kernel.Scaled f) n h = omega arith
wide_enough (kernel.Blend g) n h = omega arith

side_fits : (t : Trimmed) (c : Own) → length c.offsets ≡ c.count → bad_count c.count ≡ false → repeats c.offsets ≡ false → repeats t.offsets ≡ false
    → any (λ o. not (member t.offsets o)) c.offsets ≡ false → Fits t c
unfolding own_width own_words own_gives in_chain_order
side_fits t c e n d dt h = record {
  wide = wide_enough c.kernel c.count (some_references c.count n);
  long = λ ws. written_width c.kernel _ _ _ _ ∙ ap (width c.kernel) (length-map (kept (member c.offsets) t.offsets) _ ∙ kept_all c.offsets t.offsets d dt h ∙ e);
}

module _ (t : Trimmed) (a b : Own) (ea : length a.offsets ≡ a.count) (eb : length b.offsets ≡ b.count) (p : PairPasses t a b) where
  pub first_fits : Fits t a
  unfolding not_union
  first_fits = side_fits t a ea p.first_count p.first_distinct p.distinct (any_both _ a.offsets b.offsets (neither _ _ p.is_union).0).0

  pub second_fits : Fits t b
  unfolding not_union
  second_fits = side_fits t b eb p.second_count p.second_distinct p.distinct (any_both _ a.offsets b.offsets (neither _ _ p.is_union).0).1

-- A pair is judged with a state and a store as the raw chain is.
pub judged_alike : (t : Trimmed) (a b : Own) (s : State) (store : List ℕ) → first_of (pair_checks t a b) ≡ Ok tt → judge_pair t a b s store ≡ judge_run (raw_of t) s store
unfolding judge_pair judge_run short_store raw_of
judged_alike t a b s store e =
    first_append (pair_checks t a b) _ e ∙ sym (first_append (value_checks (raw_of t)) _ (raw_checks t a b (pair_passes t a b e)) ∙ rw (raw_layout t) refl)
