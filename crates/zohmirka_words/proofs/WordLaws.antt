-- Lists whose first entries are set one after the other; states, chains and rows by their words.
use Prim.Native.Nat.{ℕ, zero, suc, ◌+◌, ◌-◌, ◌%◌, ◌≤◌, ◌<◌}
use mathlib.Core.Bool.{Bool, true, false, cond, not}
use mathlib.Core.List.{List, [], ◌∷◌, ◌++◌}
use mathlib.Core.Path.{◌≡◌, refl, sym, ◌∙◌, ap}
use native.Mathlib.Nat.{le_of_suc-le-suc}
use native.Mathlib.Numerals.{add-one}
use native.Mathlib.Omega.{arith}
use lib.Dec.{eqb}
use lib.IntN.{ℤ, pos}
use lib.ListN.{length, get_or, take, drop, set, replicate}
use mir.Val.{bool_byte}
use borrow.Author.Tests.{lt-ltb, le-ltb}
use Rattle.model.specs.Lists.{tabulate}
use Rattle.model_sheet.specs.Numbers.{signed, signed_word, word_pattern}
use Rattle.model.specs.Values.{blank_chain}
use Rattle.model.specs.declared.Bounds.{Bounds}
use Rattle.model.specs.declared.CellsPassed.{CellsPassed}
use Rattle.model.specs.declared.Chain.{Chain}
use Rattle.model.specs.declared.Grid.{Grid}
use Rattle.model.specs.declared.Kernel.{Kernel}
use Rattle.model.specs.declared.Order.{Order}
use Rattle.model.specs.declared.State.{State}
use Rattle.std.proofs.lemmas.List.{get_or-drop, get_or-take, length-take}
use Rattle.std.proofs.Common.{length-drop}
use Rattle.grid_laws.proofs.ListLaws.{length_tabulate, tabulate_back}
use Rattle.zohmirka_words.specs.Words.{word_at, laid, counter, state_word, state_words, state_in, state_into, box_word, chain_word, chain_words, chain_into, count_in, kernel_in, order_in, indices_in, bounds_in, offsets_in, chain_in, blank_side, side_in, row_places, row_words, rows_into}

-- The first k entries f's, the others as they were.
abbrev pub front : {A : Type 0} → (ℕ → A) → ℕ → List A → List A
front f k old = tabulate k f ++ drop k old

module _ {A : Type 0} where
  pub front_none : (f : ℕ → A) (old : List A) → old ≡ front f 0 old
  unfolding tabulate
  front_none f old = refl

  set_front : (f : ℕ → A) (k : ℕ) (old : List A) → k < length old → set (front f k old) k (f k) ≡ front f (suc k) old
  unfolding tabulate
  set_front f k [] h = absurd (omega arith)
  set_front f zero (y ∷ ys) h = refl
  set_front f (suc k) (y ∷ ys) h = ap (λ (l : List A). f 0 ∷ l) (set_front (λ i. f (suc i)) k ys (le_of_suc-le-suc h))

  -- One entry more.
  pub front_more : (f : ℕ → A) (k : ℕ) (old xs : List A) (x : A) → k < length old → x ≡ f k → xs ≡ front f k old → set xs k x ≡ front f (k + 1) old
  front_more f k old xs x h e r = rw (e, r, add-one) (set_front f k old h)

  whole : (f : ℕ → A) (n : ℕ) (rest : A) → front f n (replicate n rest) ≡ tabulate n f
  unfolding tabulate
  whole f zero rest = refl
  whole f (suc n) rest = ap (λ (l : List A). f 0 ∷ l) (whole (λ i. f (suc i)) n rest)

  -- An array that is set to its end.
  pub front_whole : (f : ℕ → A) (n : ℕ) (rest : A) (k : ℕ) (xs : List A) → n ≤ k → k ≤ n → xs ≡ front f k (replicate n rest) → xs ≡ tabulate n f
  front_whole f n rest k xs h g r = let e : k ≡ n = omega arith in r ∙ rw e (whole f n rest)

-- The words from a place on.
pub words_from : (ws : List ℕ) (from n : ℕ) → from + n ≤ length ws → take n (drop from ws) ≡ tabulate n (λ k. word_at ws (from + k))
words_from ws from n h =
    sym (tabulate_back 0 (take n (drop from ws)) n (λ k. word_at ws (from + k)) (simp (length-take, length-drop) (omega arith)) (λ k b. sym (get_or-take n (drop from ws) k 0 b ∙ get_or-drop from ws k 0)))

-- Words that are laid into a list from its first place on.
front_laid : (f : ℕ → ℕ) (n : ℕ) (old : List ℕ) → front f n old ≡ laid (tabulate n f) old
front_laid f n old = rw length_tabulate

-- Whether a line stood.
pub stood_word : (b : Bool) → bool_byte b ≡ cond b 1 0
stood_word true = refl
stood_word false = refl

-- The words of an order, of a box and of the grid's rows in their chain.
module _ (c : Chain) where
  pub at_stood : chain_word c 168 ≡ cond c.order.stood 1 0
  unfolding chain_word
  at_stood = refl

  pub at_filter : (t : ℕ) → t < 32 → chain_word c (169 + t) ≡ get_or c.order.filters t 0
  unfolding chain_word
  at_filter t h =
      let a : 1 ≤ 169 + t = omega arith in
      let b : 5 ≤ 169 + t = omega arith in
      let d : 6 ≤ 169 + t = omega arith in
      let f : 134 ≤ 169 + t = omega arith in
      let g : 165 ≤ 169 + t = omega arith in
      let k : 168 ≤ 169 + t = omega arith in
      let l : 169 ≤ 169 + t = omega arith in
      let m : 169 + t < 201 = omega arith in
      let e : 169 + t - 169 ≡ t = omega arith in
      rw (le-ltb _ _ a, le-ltb _ _ b, le-ltb _ _ d, le-ltb _ _ f, le-ltb _ _ g, le-ltb _ _ k, le-ltb _ _ l, lt-ltb _ _ m, e)

  pub at_box : (i : ℕ) → i < 9 → chain_word c (201 + i) ≡ box_word c.bounds i
  unfolding chain_word
  at_box i h =
      let a : 1 ≤ 201 + i = omega arith in
      let b : 5 ≤ 201 + i = omega arith in
      let d : 6 ≤ 201 + i = omega arith in
      let f : 134 ≤ 201 + i = omega arith in
      let g : 165 ≤ 201 + i = omega arith in
      let k : 168 ≤ 201 + i = omega arith in
      let l : 169 ≤ 201 + i = omega arith in
      let m : 201 ≤ 201 + i = omega arith in
      let n : 201 + i < 210 = omega arith in
      let e : 201 + i - 201 ≡ i = omega arith in
      rw (le-ltb _ _ a, le-ltb _ _ b, le-ltb _ _ d, le-ltb _ _ f, le-ltb _ _ g, le-ltb _ _ k, le-ltb _ _ l, le-ltb _ _ m, lt-ltb _ _ n, e)

  pub at_box_stood : chain_word c 201 ≡ cond c.bounds.stood 1 0
  unfolding chain_word box_word
  at_box_stood = refl

  pub at_lowest : (d : ℕ) → d < 4 → chain_word c (202 + d) ≡ word_pattern (get_or c.bounds.lowest d (pos 0))
  unfolding box_word
  at_lowest d h =
      let a : 1 ≤ 1 + d = omega arith in
      let b : 1 + d < 5 = omega arith in
      let e : 1 + d - 1 ≡ d = omega arith in
      let f : 202 + d ≡ 201 + (1 + d) = omega arith in
      rw f (at_box (1 + d) (omega arith) ∙ rw (le-ltb _ _ a, lt-ltb _ _ b, e))

  pub at_highest : (d : ℕ) → d < 4 → chain_word c (206 + d) ≡ word_pattern (get_or c.bounds.highest d (pos 0))
  unfolding box_word
  at_highest d h =
      let a : 1 ≤ 5 + d = omega arith in
      let b : 5 ≤ 5 + d = omega arith in
      let e : 5 + d - 5 ≡ d = omega arith in
      let f : 206 + d ≡ 201 + (5 + d) = omega arith in
      rw f (at_box (5 + d) (omega arith) ∙ rw (le-ltb _ _ a, le-ltb _ _ b, e))

  pub at_skewed : chain_word c 210 ≡ cond c.grid.skewed 1 0
  unfolding chain_word
  at_skewed = refl

  pub at_rows : chain_word c 211 ≡ c.grid.rows
  unfolding chain_word
  at_rows = refl

module _ (ws : List ℕ) where
  pub few_state : length ws < 33 → ◌≡◌ {A = State} (record { passed = replicate 32 (counter 0); fired = record { 0 = 4294967295 } }) (state_in ws)
  unfolding state_in
  few_state h = rw (lt-ltb _ _ h)

  pub state_of_words : (ps : List CellsPassed) (fired : ℕ) → 33 ≤ length ws → ps ≡ tabulate 32 (λ k. counter (word_at ws k)) → fired ≡ word_at ws 32
      → ◌≡◌ {A = State} (record { passed = ps; fired = record { 0 = fired } }) (state_in ws)
  unfolding state_in
  state_of_words ps fired h e d = rw (le-ltb _ _ h, e, d)

  pub few_words : (s : State) → length ws < 33 → ws ≡ state_into s ws
  unfolding state_into
  few_words s h = rw (lt-ltb _ _ h)

  -- One counter more, and the firings made.
  pub counter_more : (s : State) (k : ℕ) (xs : List ℕ) → k < 32 → k < length ws → xs ≡ front (state_word s) k ws
      → set xs k (get_or s.passed k (counter 0)).0 ≡ front (state_word s) (k + 1) ws
  unfolding state_word
  counter_more s k xs h g r = front_more (state_word s) k ws xs _ g (rw (lt-ltb _ _ h)) r

  pub fired_more : (s : State) (k : ℕ) (xs : List ℕ) → 32 ≤ k → k ≤ 32 → 33 ≤ length ws → xs ≡ front (state_word s) k ws → set xs 32 s.fired.0 ≡ state_into s ws
  unfolding state_word state_into state_words
  fired_more s k xs h g l r =
      let e : k ≡ 32 = omega arith in
      rw (le-ltb _ _ l) (front_more (state_word s) 32 ws xs s.fired.0 l refl (rw e at r) ∙ front_laid (state_word s) 33 ws)

  pub few_places : (c : Chain) → length ws < 212 → ws ≡ chain_into c ws
  unfolding chain_into
  few_places c h = rw (lt-ltb _ _ h)

  -- Whether the order stood, one filter more, one word of the box more, and all words with the two of the rows.
  pub stood_more : (c : Chain) (k : ℕ) (xs : List ℕ) → 168 ≤ k → k ≤ 168 → 212 ≤ length ws → xs ≡ front (chain_word c) k ws
      → set xs 168 (bool_byte c.order.stood) ≡ front (chain_word c) 169 ws
  stood_more c k xs h g l r =
      let e : k ≡ 168 = omega arith in
      let d : 168 < length ws = omega arith in
      front_more (chain_word c) 168 ws xs (bool_byte c.order.stood) d (stood_word c.order.stood ∙ sym (at_stood c)) (rw e at r)

  pub filter_more : (c : Chain) (t : ℕ) (xs : List ℕ) → t < 32 → 212 ≤ length ws → xs ≡ front (chain_word c) (169 + t) ws
      → set xs (169 + t) (get_or c.order.filters t 0) ≡ front (chain_word c) (169 + (t + 1)) ws
  filter_more c t xs h l r =
      let e : 169 + (t + 1) ≡ 169 + t + 1 = omega arith in
      let d : 169 + t < length ws = omega arith in
      rw e (front_more (chain_word c) (169 + t) ws xs (get_or c.order.filters t 0) d (sym (at_filter c t h)) r)

  pub box_more : (c : Chain) (d : ℕ) (xs : List ℕ) → d < 9 → 212 ≤ length ws → xs ≡ front (chain_word c) (201 + d) ws
      → set xs (201 + d) (box_word c.bounds d) ≡ front (chain_word c) (201 + (d + 1)) ws
  box_more c d xs h l r =
      let e : 201 + (d + 1) ≡ 201 + d + 1 = omega arith in
      let f : 201 + d < length ws = omega arith in
      rw e (front_more (chain_word c) (201 + d) ws xs (box_word c.bounds d) f (sym (at_box c d h)) r)

  pub words_of_chain : (c : Chain) (d : ℕ) (xs : List ℕ) → 9 ≤ d → d ≤ 9 → 212 ≤ length ws → xs ≡ front (chain_word c) (201 + d) ws
      → set (set xs 210 (bool_byte c.grid.skewed)) 211 c.grid.rows ≡ chain_into c ws
  unfolding chain_into chain_words
  words_of_chain c d xs h g l r =
      let e : 201 + d ≡ 210 = omega arith in
      let m : 210 < length ws = omega arith in
      let n : 211 < length ws = omega arith in
      let kind = front_more (chain_word c) 210 ws xs (bool_byte c.grid.skewed) m (stood_word c.grid.skewed ∙ sym (at_skewed c)) (rw e at r) in
      rw (le-ltb _ _ l) (front_more (chain_word c) 211 ws (set xs 210 (bool_byte c.grid.skewed)) c.grid.rows n (sym (at_rows c)) kind ∙ front_laid (chain_word c) 212 ws)

  pub few_chain : length ws < 212 → blank_chain ≡ chain_in ws
  unfolding chain_in
  few_chain h = rw (lt-ltb _ _ h)

  pub order_of_words : (stood : Bool) (filters : List ℕ) → stood ≡ not (eqb (word_at ws 168) 0) → filters ≡ tabulate 32 (λ t. count_in (word_at ws (169 + t)))
      → ◌≡◌ {A = Order} (record { stood = stood; filters = filters }) (order_in ws)
  unfolding order_in
  order_of_words stood filters e d = rw (e, d)

  pub indices_of_words : (from : ℕ) (a b c d : ℤ) → a ≡ signed_word (word_at ws from) → b ≡ signed_word (word_at ws (from + 1)) → c ≡ signed_word (word_at ws (from + 2))
      → d ≡ signed_word (word_at ws (from + 3)) → a ∷ b ∷ c ∷ d ∷ [] ≡ indices_in ws from
  unfolding indices_in tabulate
  indices_of_words from a b c d e f g h =
      let z : from + 0 ≡ from = omega arith in
      rw (e, f, g, h, z)

  pub bounds_of_words : (stood : Bool) (lowest highest : List ℤ) → stood ≡ not (eqb (word_at ws 201) 0) → lowest ≡ indices_in ws 202 → highest ≡ indices_in ws 206
      → ◌≡◌ {A = Bounds} (record { stood = stood; lowest = lowest; highest = highest }) (bounds_in ws)
  unfolding bounds_in
  bounds_of_words stood lowest highest e f g = rw (e, f, g)

  pub chain_of_words : (skewed : Bool) (rows dims count : ℕ) (sizes capacities : List ℕ) (offsets : List ℤ) (b : Bounds) (o : Order) (k : Kernel) → 212 ≤ length ws
      → skewed ≡ not (eqb (word_at ws 210) 0) → rows ≡ word_at ws 211 → dims ≡ count_in (word_at ws 0) → sizes ≡ word_at ws 1 ∷ word_at ws 2 ∷ word_at ws 3 ∷ word_at ws 4 ∷ [] → count ≡ count_in (word_at ws 5)
      → offsets ≡ tabulate 128 (λ i. signed (word_at ws (6 + i) % 65536)) → capacities ≡ tabulate 31 (λ i. word_at ws (134 + i))
      → b ≡ bounds_in ws → o ≡ order_in ws → k ≡ kernel_in (word_at ws 165) (word_at ws 166) (word_at ws 167)
      → record { grid = record { skewed = skewed; rows = rows; dims = dims; sizes = sizes }; window = record { count = count; offsets = offsets }; bounds = b; capacities = capacities; order = o; kernel = k }
      ≡ chain_in ws
  unfolding chain_in
  chain_of_words skewed rows dims count sizes capacities offsets b o k h d1 d2 e1 e2 e3 e4 e5 e6 e7 e8 = rw (le-ltb _ _ h, d1, d2, e1, e2, e3, e4, e5, e6, e7, e8)

  pub few_side : length ws < 132 → blank_side ≡ side_in ws
  unfolding side_in
  few_side h = rw (lt-ltb _ _ h)

  pub side_of_words : (count : ℕ) (offsets : List ℤ) (k : Kernel) → 132 ≤ length ws → count ≡ count_in (word_at ws 0) → offsets ≡ offsets_in ws 1
      → k ≡ kernel_in (word_at ws 129) (word_at ws 130) (word_at ws 131) → record { window = record { count = count; offsets = offsets }; kernel = k } ≡ side_in ws
  unfolding side_in
  side_of_words count offsets k h e d f = rw (le-ltb _ _ h, e, d, f)

  -- Rows, where a grid's have so many numbers.
  module _ (g : Grid) (rows : List ℕ) (n : ℕ) (e : n ≡ row_places g) where
    pub few_row_places : length ws < n → ws ≡ rows_into g rows ws
    unfolding rows_into
    few_row_places h = rw (← e, lt-ltb _ _ h)

    pub rows_of_words : (k : ℕ) (xs : List ℕ) → n ≤ k → k ≤ n → n ≤ length ws → xs ≡ front (word_at rows) k ws → xs ≡ rows_into g rows ws
    unfolding rows_into row_words
    rows_of_words k xs h b l r =
        let d : k ≡ n = omega arith in
        rw (← e, le-ltb _ _ l) (r ∙ rw d (front_laid (word_at rows) n ws))
