-- A state's words give back the state, and words the words (specs/CallLists).
use Prim.Native.Nat.{ℕ, ◌≤◌, ◌<◌}
use mathlib.Core.List.{List, ◌++◌}
use mathlib.Core.Path.{◌≡◌, refl, sym, ◌∙◌, ap}
use native.Mathlib.Omega.{arith}
use lib.ListN.{length, get_or, take, drop, take-append-drop}
use lib.Seq.{get_or-take, length-take-le}
use borrow.Author.Tests.{lt-ltb, le-ltb}
use Rattle.model.specs.Lists.{tabulate}
use Rattle.model.specs.declared.CellsPassed.{CellsPassed}
use Rattle.model.specs.declared.State.{State}
use Rattle.grid_laws.proofs.ListLaws.{length_tabulate, get_d_tabulate, tabulate_back}
use Rattle.sheet_laws.proofs.Cases.{by_lt}
use Rattle.zohmirka_words.specs.Words.{word_at, laid, counter, state_size, state_word, state_words, state_in, state_into}
use Rattle.zohmirka_words.proofs.WordLaws.{state_of_words}
use Rattle.zohmirka_laws.specs.CallLists.{StatesBack, WordsBack}
use Rattle.zohmirka_laws.proofs.Laid.{laid_long, laid_length, laid_at, laid_front, laid_later}

-- What is written into a slice that is long enough.
pub into_long : (s : State) (ws : List ℕ) → state_size ≤ length ws → state_into s ws ≡ laid (state_words s) ws
unfolding state_into
into_long s ws h = rw (le-ltb _ _ h)

pub into_length : (s : State) (ws : List ℕ) → state_size ≤ length ws → length (state_into s ws) ≡ length ws
unfolding state_words
into_length s ws h = ap length (into_long s ws h) ∙ laid_length state_size (state_word s) ws h

pub into_later : (s : State) (ws : List ℕ) → state_size ≤ length ws → drop state_size (state_into s ws) ≡ drop state_size ws
unfolding state_words
into_later s ws h = ap (drop state_size) (into_long s ws h) ∙ laid_later state_size (state_word s) ws

module _ (s : State) (full : length s.passed ≡ 32) where
  passed_word : (k : ℕ) → k < 32 → state_word s k ≡ (get_or s.passed k (counter 0)).0
  unfolding state_word
  passed_word k h = rw (lt-ltb _ _ h)

  -- Any words that begin with a state's.
  words_back : (ws : List ℕ) → state_size ≤ length ws → ((i : ℕ) → i < state_size → word_at ws i ≡ state_word s i) → state_in ws ≡ s
  unfolding state_word
  words_back ws long at =
      sym
      (state_of_words ws s.passed s.fired.0 long
      (sym (tabulate_back (counter 0) s.passed 32 (λ k. counter (word_at ws k)) full (λ k h. ap counter (at k (omega arith) ∙ passed_word k h))))
      (sym (at 32 (omega arith))))

  pub written_back : (ws : List ℕ) → state_size ≤ length ws → state_in (state_into s ws) ≡ s
  unfolding state_words
  written_back ws h = ap state_in (into_long s ws h) ∙ words_back (laid (state_words s) ws) (laid_long state_size (state_word s) ws) (laid_at state_size (state_word s) ws)

pub states_back : StatesBack
unfolding state_words
states_back s full = record {
  back = words_back s full (state_words s) (rw (length_tabulate state_size (state_word s)) (omega arith)) (λ i h. get_d_tabulate state_size (state_word s) i 0 h);
  words = λ ws h. ap (take state_size) (into_long s ws h) ∙ laid_front state_size (state_word s) ws;
  written = written_back s full;
  later = into_later s;
}

module _ (ws : List ℕ) (long : state_size ≤ length ws) where
  -- The state of words that are enough.
  pub in_long : state_in ws ≡ record { passed = tabulate 32 (λ k. counter (word_at ws k)); fired = record { 0 = word_at ws 32 } }
  in_long = sym (state_of_words ws _ _ long refl refl)

  pub in_passed : length (state_in ws).passed ≡ 32
  in_passed = ap (λ (s : State). length s.passed) in_long ∙ length_tabulate 32 (λ k. counter (word_at ws k))

  pub in_counter : (k : ℕ) → k < 32 → (get_or (state_in ws).passed k (counter 0)).0 ≡ word_at ws k
  in_counter k h = ap (λ (s : State). (get_or s.passed k (counter 0)).0) in_long ∙ ap (λ (p : CellsPassed). p.0) (get_d_tabulate 32 (λ i. counter (word_at ws i)) k (counter 0) h)

  in_word : (k : ℕ) → k < state_size → state_word (state_in ws) k ≡ word_at ws k
  unfolding state_word
  in_word k h =
      by_lt k 32
      (λ l. rw (lt-ltb _ _ l) (in_counter k l))
      (λ l. let e : 32 ≡ k = omega arith in rw (le-ltb _ _ l) (ap (λ (s : State). s.fired.0) in_long ∙ ap (word_at ws) e))

  whole : state_words (state_in ws) ≡ take state_size ws
  unfolding state_words
  whole = tabulate_back 0 (take state_size ws) state_size (state_word (state_in ws)) (length-take-le state_size ws long) (λ k h. in_word k h ∙ sym (get_or-take state_size ws k 0 h))

pub words_back_again : WordsBack
words_back_again ws h =
    into_long (state_in ws) ws h ∙ ap (λ xs. laid xs ws) (whole ws h) ∙ ap (λ n. take state_size ws ++ drop n ws) (length-take-le state_size ws h) ∙ take-append-drop state_size ws
