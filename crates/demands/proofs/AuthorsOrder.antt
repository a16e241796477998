-- Terms in the author's order: the proofs.
use Prim.Native.Nat.{ℕ, zero, suc, ◌<◌}
use mathlib.Core.Bool.{Bool, true, false, cond, not}
use mathlib.Core.List.{List, [], ◌∷◌, ◌++◌, map}
use mathlib.Core.Logic.{◌↔◌}
use mathlib.Core.Path.{◌≡◌, refl, sym, ◌∙◌, ap, ap₂}
use native.Mathlib.Decide.{dec_lt}
use native.Mathlib.Omega.{arith}
use lib.Dec.{eqb}
use lib.ListN.{length, get_or, length-map}
use lib.IntN.{ℤ}
use Rattle.model.specs.Lists.{tabulate, up_to, without, any}
use Rattle.model.specs.Vectors.{plus, is_zero}
use Rattle.model.specs.Grounds.{Ground, dims, position}
use Rattle.model.specs.Sized.{Sized, Proper}
use Rattle.model.specs.Values.{Trimmed, trimmed, Same}
use Rattle.model.specs.Iterations.{position_of, iteration_of, reads_of}
use Rattle.model.specs.Judging.{repeats, needs_centre, lacks_centre, centred, bad_order, judged}
use Rattle.model.specs.Steps.{falling, which_of, authors_order, sorted}
use Rattle.model.specs.Planning.{trimmed_request, judge_request, planned_chain, plan_of}
use Rattle.model_run.specs.Kernels.{terms, words_at, written, difference, scaled, blend}
use Rattle.model.specs.Windows.{centre_of}
use Rattle.model_run.specs.Running.{filters_of, terms_of, writes_of, written_by}
use Rattle.model_run.specs.CallLists.{all_words, firings_made}
use Rattle.model_run.specs.Words.{words_of, words_from, loop_of, loop_from}
use Rattle.model.specs.declared.Chain.{Chain}
use Rattle.model.specs.declared.Kernel.{Kernel}
use Rattle.model.specs.declared.Kernel.TheVariants as kernel
use Rattle.model.specs.declared.Request.{Request}
use Rattle.std.specs.Prelude.{Ok}
use Rattle.grid_laws.proofs.ListLaws.{length_tabulate, get_d_tabulate, tabulate_back}
use Rattle.grid_laws.proofs.SameWindows.{same_iteration}
use Rattle.grid_laws.proofs.StepLaws.{plan_passed, plan_taken, plan_chain}
use Rattle.grid_laws.proofs.CheckLaws.{value_passes}
use Rattle.grid_laws.proofs.SortLaws.{length_falling, falling_each, falling_no_other}
use Rattle.grid_laws.proofs.TermLaws.{order_once, order_each, good_order, number_at_lem, length_authors, authors_below, authors_hold, which_below, which_stands, authors_centre_below, centre_held, same_centre}
use Rattle.run_laws.proofs.Plans.{request_proper, planned_lists}
use Rattle.demands.specs.Demand3.{ListOfCalls, runs_of, chain_in}
use Rattle.demands.specs.AuthorsOrder.{EachOnce, AuthorsOrder}
use Rattle.demands.proofs.Words.{demand_2}

-- ---- words at places, place by place

-- The same words at f's places of the one and at g's of the other; and so where on both sides the same are left out.
same_words : (n : ℕ) (f g : ℕ → ℕ) (vs ws : List ℕ) → ((i : ℕ) → i < n → get_or vs (f i) 0 ≡ get_or ws (g i) 0) → words_at (tabulate n f) vs ≡ words_at (tabulate n g) ws
unfolding tabulate words_at
same_words zero f g vs ws e = refl
same_words (suc n) f g vs ws e = ap₂ ◌∷◌ (e 0 (omega arith)) (same_words n (λ i. f (suc i)) (λ i. g (suc i)) vs ws (λ i h. e (suc i) (omega arith)))

same_others : (c d n : ℕ) (f g : ℕ → ℕ) (vs ws : List ℕ) → ((i : ℕ) → i < n → eqb (f i) c ≡ eqb (g i) d) → ((i : ℕ) → i < n → get_or vs (f i) 0 ≡ get_or ws (g i) 0)
    → words_at (without c (tabulate n f)) vs ≡ words_at (without d (tabulate n g)) ws
unfolding tabulate without words_at
same_others c d zero f g vs ws t e = refl
same_others c d (suc n) f g vs ws t e =
    go (eqb (f 0) c) (eqb (g 0) d) (t 0 (omega arith)) (same_others c d n (λ i. f (suc i)) (λ i. g (suc i)) vs ws (λ i h. t (suc i) (omega arith)) (λ i h. e (suc i) (omega arith)))
  where
    fs : List ℕ
    fs = without c (tabulate n (λ i. f (suc i)))

    gs : List ℕ
    gs = without d (tabulate n (λ i. g (suc i)))

    go : (a b : Bool) → a ≡ b → words_at fs vs ≡ words_at gs ws → words_at (cond a fs (f 0 ∷ fs)) vs ≡ words_at (cond b gs (g 0 ∷ gs)) ws
    go true true q r = r
    go false false q r = ap₂ ◌∷◌ (e 0 (omega arith)) r
    go true false q r = absurd (let z : ◌≡◌ {A = ℕ} 0 1 = cc in omega arith)
    go false true q r = absurd (let z : ◌≡◌ {A = ℕ} 0 1 = cc in omega arith)

-- ---- a window in the author's order and in falling order

module _ (g : Ground) (os : List (List ℤ)) (n : ℕ) (count : length os ≡ n) (stream : ℕ → ℕ) (u v : List ℤ) (same : u ≡ v) where
  -- The words of the author's references, and those of the filters, in one iteration.
  author : List ℕ
  author = tabulate n (λ k. stream (position g (plus v (get_or os k []))))

  chain : List ℕ
  chain = tabulate n (λ k. stream (position g (plus u (get_or (falling os) k []))))

  order : ℕ → ℕ
  order i = get_or (authors_order os) i 0

  order_is : authors_order os ≡ tabulate n order
  unfolding order
  order_is = sym (tabulate_back 0 (authors_order os) n (λ i. get_or (authors_order os) i 0) (length_authors os ∙ count) (λ i h. refl))

  -- A cell is read by the same offset, wherever it stands.
  read_alike : (k l : ℕ) → get_or (falling os) k [] ≡ get_or os l [] → position g (plus u (get_or (falling os) k [])) ≡ position g (plus v (get_or os l []))
  read_alike k l e = ap₂ (λ (w o : List ℤ). position g (plus w o)) same e

  -- The filter that byte i names is presented the word of the author's reference i,
  held : (i : ℕ) → i < n → get_or chain (order i) 0 ≡ get_or author i 0
  unfolding author chain order
  held i h =
      let b : i < length os = omega (arith, count) in
      get_d_tabulate n (λ k. stream (position g (plus u (get_or (falling os) k [])))) (order i) 0 (omega (arith, authors_below os i b, count))
      ∙ ap stream (read_alike (order i) i (authors_hold os i b))
      ∙ sym (get_d_tabulate n (λ k. stream (position g (plus v (get_or os k [])))) i 0 h)

  -- and filter k that of the author's reference whose offset it holds.
  holds : (k : ℕ) → k < n → get_or author (which_of os (get_or (falling os) k [])) 0 ≡ get_or chain k 0
  unfolding author chain
  holds k h =
      let b : k < length (falling os) = omega (arith, length_falling os, count) in
      let l = which_of os (get_or (falling os) k []) in
      let c : l < length os = which_below os (get_or (falling os) k []) (falling_no_other os k b) in
      get_d_tabulate n (λ k. stream (position g (plus v (get_or os k [])))) l 0 (omega (arith, count))
      ∙ ap stream (sym (read_alike k l (sym (which_stands os (get_or (falling os) k []) c))))
      ∙ sym (get_d_tabulate n (λ k. stream (position g (plus u (get_or (falling os) k [])))) k 0 h)

  -- Raw: in chain order.
  raw_words : words_at (up_to n) chain ≡ words_at (map (which_of os) (falling os)) author
  unfolding up_to
  raw_words =
      same_words n (λ k. k) (λ k. which_of os (get_or (falling os) k [])) chain author (λ k h. sym (holds k h)) ∙ ap (λ (ks : List ℕ). words_at ks author) places
    where
      places : tabulate n (λ k. which_of os (get_or (falling os) k [])) ≡ map (which_of os) (falling os)
      places =
          tabulate_back 0 (map (which_of os) (falling os)) n (λ k. which_of os (get_or (falling os) k [])) (length-map (falling os) (which_of os) ∙ length_falling os ∙ count)
          (λ k h. sym (number_at_lem (which_of os) (falling os) k (omega (arith, length_falling os, count))))

  -- All references, in the author's order.
  all_words_lem : words_at (authors_order os) chain ≡ words_at (up_to n) author
  unfolding up_to
  all_words_lem = ap (λ (ks : List ℕ). words_at ks chain) order_is ∙ same_words n order (λ i. i) chain author held

  -- All but the centre, and the centre itself.
  module _ (sized : Sized (dims g) os) (distinct : repeats os ≡ false) (has : any is_zero os ≡ true) where
    other_words : words_at (without (centre_of (falling os)) (authors_order os)) chain ≡ words_at (without (centre_of os) (up_to n)) author
    unfolding up_to order
    other_words =
        ap (λ (ks : List ℕ). words_at (without (centre_of (falling os)) ks) chain) order_is
        ∙ same_others (centre_of (falling os)) (centre_of os) n order (λ i. i) chain author (λ i h. same_centre (dims g) os sized distinct has i (omega (arith, count))) held

    centre_word : get_or chain (centre_of (falling os)) 0 ≡ get_or author (centre_of os) 0
    unfolding order
    centre_word =
        ap (λ (k : ℕ). get_or chain k 0) (sym (centre_held (dims g) os sized distinct has)) ∙ held (centre_of os) (omega (arith, authors_centre_below (dims g) os sized distinct has, count))

  -- What a firing writes of the one and of the other.
  written_alike : Sized (dims g) os → repeats os ≡ false → (k : Kernel) → lacks_centre k (centred os) ≡ false
      → written k (centre_of (falling os)) (terms k (centre_of (falling os)) (authors_order os)) (up_to n) chain
      ≡ written k (centre_of os) (terms k (centre_of os) (up_to n)) (map (which_of os) (falling os)) author
  unfolding written terms difference scaled blend lacks_centre needs_centre
  written_alike sized distinct kernel.Raw e = raw_words
  written_alike sized distinct kernel.Difference e =
      let has = there (any is_zero os) e in
      rw (centre_word sized distinct has, other_words sized distinct has)
    where
      there : (b : Bool) → not b ≡ false → b ≡ true
      there true e = refl
      there false e = sym e
  written_alike sized distinct (kernel.Scaled f) e = rw all_words_lem
  written_alike sized distinct (kernel.Blend g) e =
      let has = there (any is_zero os) e in
      rw (centre_word sized distinct has, other_words sized distinct has)
    where
      there : (b : Bool) → not b ≡ false → b ≡ true
      there true e = refl
      there false e = sym e

-- ---- the statements

-- Where each of them stands among n numbers, no number is n or above.
module _ (n : ℕ) (order : List ℕ) (long : length order ≡ n) (each : (k : ℕ) → k < n → (t : ℕ) × (t < length order) × (get_or order t 0 ≡ k)) where
  place_by_lem : (k : ℕ) → Dec (k < n) → ℕ
  place_by_lem k (yes h) = (each k h).0
  place_by_lem k (no h) = 0

  place : ℕ → ℕ
  place k = place_by_lem k (dec_lt k n)

  placed_by_lem : (k : ℕ) (d : Dec (k < n)) → k < n → (place_by_lem k d < n) × (get_or order (place_by_lem k d) 0 ≡ k)
  unfolding place_by_lem
  placed_by_lem k (yes b) h = let (t, c, e) = each k b in (omega (arith, c, long), e)
  placed_by_lem k (no b) h = absurd (b h)

  placed : (k : ℕ) → k < n → (place k < n) × (get_or order (place k) 0 ≡ k)
  unfolding place
  placed k h = placed_by_lem k (dec_lt k n) h

  entries_below : (t : ℕ) → t < length order → get_or order t 0 < n
  entries_below t h =
      let (k, b, e) = order_each n (tabulate n place) (length_tabulate n place) good t (omega (arith, long)) in
      let c : k < n = omega (arith, length_tabulate n place) in
      omega (arith, ap (λ (t : ℕ). get_or order t 0) (sym e ∙ get_d_tabulate n place k 0 c) ∙ (placed k c).1)
    where
      good : bad_order n (tabulate n place) ≡ false
      good =
          good_order n (tabulate n place)
          (λ s b. let c : s < n = omega (arith, length_tabulate n place) in rw (get_d_tabulate n place s 0 c) (placed s c).0)
          (λ s u b d e.
          let x : s < n = omega (arith, length_tabulate n place) in
          let y : u < n = omega (arith, length_tabulate n place) in
          sym (placed s x).1 ∙ ap (λ (t : ℕ). get_or order t 0) (sym (get_d_tabulate n place s 0 x) ∙ e ∙ get_d_tabulate n place u 0 y) ∙ (placed u y).1)

number_14 : (n : ℕ) (order : List ℕ) → length order ≡ n → (bad_order n order ≡ false) ↔ EachOnce n order
number_14 n order long = (
  λ e. record { each = order_each n order long e; once = order_once n order e },
  λ e. good_order n order (entries_below n order long e.each) e.once,
)

-- A value that no number turns back, its offsets sorted.
sorted_writes : (t : Trimmed) → Proper t → judged t ≡ Ok tt → (stream : ℕ → ℕ) (j : ℕ)
    → words_of (sorted t) stream j
    ≡ written t.kernel (centre_of t.offsets) (terms t.kernel (centre_of t.offsets) (up_to t.count)) (map (which_of t.offsets) (falling t.offsets))
    (tabulate t.count (λ k. stream (reads_of t j k)))
unfolding judged sorted words_of written_by terms_of filters_of writes_of reads_of position_of author chain
sorted_writes t p e stream j =
    let q = value_passes t e in
    written_alike t.the_ground t.offsets t.count p.references stream (iteration_of (sorted t) j) (iteration_of t j)
    (same_iteration (sorted t) t refl (falling_no_other t.offsets) (falling_each t.offsets) refl j) p.entries q.window.distinct t.kernel q.kernel.centre

loop : (r : Request) (rows : List ℕ) (c : Chain) → plan_of r rows ≡ Ok c → (stream : ℕ → ℕ) (j : ℕ) → words_of (trimmed c rows) stream j ≡ loop_of r rows stream j
unfolding judge_request loop_of
loop r rows c p stream j =
    let ok = plan_passed r rows c p in
    rw (plan_chain r rows c p, planned_lists r rows ok) (sorted_writes (trimmed_request r rows) (request_proper r rows) ok stream j)

loops : (r : Request) (rows : List ℕ) (c : Chain) → plan_of r rows ≡ Ok c → (stream : ℕ → ℕ) (j n : ℕ) → words_from (trimmed c rows) stream j n ≡ loop_from r rows stream j n
unfolding words_from loop_from
loops r rows c p stream j zero = refl
loops r rows c p stream j (suc n) = ap₂ ◌++◌ (loop r rows c p stream j) (loops r rows c p stream (suc j) n)

outputs : (r : Request) (rows : List ℕ) (c : Chain) → plan_of r rows ≡ Ok c → (q : ListOfCalls) → Same q.chain q.rows c rows
    → all_words (chain_in q) q.stream q.calls q.start ≡ loop_from r rows q.stream 0 (firings_made (runs_of q))
outputs r rows c p q e =
    (demand_2 q).words ∙ ap (λ (t : Trimmed). words_from t q.stream 0 (firings_made (runs_of q))) e ∙ loops r rows c p q.stream 0 (firings_made (runs_of q))

pub authors_order_lem : AuthorsOrder
authors_order_lem = record {
  number_14 = number_14;
  loop = λ r rows ok. (planned_chain r rows, plan_taken r rows ok, loop r rows _ (plan_taken r rows ok));
  outputs = λ r rows ok. (planned_chain r rows, plan_taken r rows ok, outputs r rows _ (plan_taken r rows ok));
}
