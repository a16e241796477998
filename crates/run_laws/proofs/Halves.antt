-- The clocks of a call by what it is lent alone, as numbers; a call in two parts.
use Prim.Native.Nat.{ℕ, zero, suc, ◌+◌, ◌-◌, ◌*◌, ◌≤◌, ◌<◌}
use mathlib.Core.Bool.{Bool, true, false, cond, false≢true}
use mathlib.Core.List.{List, [], ◌∷◌, ◌++◌}
use mathlib.Core.Path.{◌≡◌, refl, sym, ◌∙◌, ap, subst}
use native.Mathlib.Nat.{suc-mul}
use native.Mathlib.Omega.{arith}
use lib.ListN.{length}
use lib.Seq.{sets, length-sets}
use Rattle.model_run.specs.Clock.{Layout, Counters, first, fires, next, moves}
use Rattle.model_run.specs.Running.{Standing, Ending, Done, Spent, Starved, Stalled, Full, goes, ends, Ended, clocked, words, call, events}
use Rattle.run_laws.proofs.Looks.{Looked, is_done, is_spent, is_starved, is_stalled, is_full_lem, is_going, along_call}

module _ (L : Layout) (size : ℕ) where
  -- Cells taken and words written by the next clock.
  abbrev pub step : Counters → ℕ
  step s = first (next L s).passed - first s.passed

  abbrev pub wrote : Counters → ℕ
  wrote s = cond (fires L s) size 0

  -- With so many clocks, cells and places left the call ends here, or goes on.
  pub data Stop (a x y : ℕ) (s : Counters) : Ending → Type 0 where
    done : L.iterations ≤ s.fired → Stop a x y s Done
    spent : s.fired < L.iterations → a ≡ 0 → Stop a x y s Spent
    starved : s.fired < L.iterations → 0 < a → x ≡ 0 → Stop a x y s Starved
    stalled : s.fired < L.iterations → 0 < a → 0 < x → moves L s ≡ false → Stop a x y s Stalled
    full : s.fired < L.iterations → 0 < a → 0 < x → moves L s ≡ true → fires L s ≡ true → y < size → Stop a x y s Full

  pub record Go (x y : ℕ) (s : Counters) : Type 0 where
    pub left : s.fired < L.iterations
    pub some : 0 < x
    pub moving : moves L s ≡ true
    pub room : fires L s ≡ true → size ≤ y

  pub data Made : (a x y : ℕ) → Counters → (n w : ℕ) → List Bool → Counters → Ending → Type 0 where
    over : {a x y : ℕ} {s : Counters} {e : Ending} → Stop a x y s e → Made a x y s 0 0 [] s e
    on : {a x y : ℕ} {s : Counters} {n w : ℕ} {es : List Bool} {s' : Counters} {e : Ending} → Go x y s → Made a (x - step s) (y - wrote s) (next L s) n w es s' e
        → Made (suc a) x y s (step s + n) (wrote s + w) (fires L s ∷ es) s' e

  never : {a x y : ℕ} {s : Counters} {e : Ending} → Stop (suc a) x y s e → Go x y s → ⊥
  never (done h) g = omega (arith, g.left)
  never (spent a b) g = omega arith
  never (starved a b c) g = omega (arith, g.some)
  never (stalled a b c d) g = false≢true (sym d ∙ g.moving)
  never (full a b c d e f) g = omega (arith, g.room e)

  same_stop : {a x y : ℕ} {s : Counters} {e f : Ending} → Stop a x y s e → Stop a x y s f → e ≡ f
  same_stop (done a) (done h) = refl
  same_stop (done a) (spent h i) = absurd (let z : ⊥ = omega arith in z)
  same_stop (done a) (starved h i j) = absurd (let z : ⊥ = omega arith in z)
  same_stop (done a) (stalled h i j k) = absurd (let z : ⊥ = omega arith in z)
  same_stop (done a) (full h i j k l m) = absurd (let z : ⊥ = omega arith in z)
  same_stop (spent a b) (done h) = absurd (let z : ⊥ = omega arith in z)
  same_stop (spent a b) (spent h i) = refl
  same_stop (spent a b) (starved h i j) = absurd (let z : ⊥ = omega arith in z)
  same_stop (spent a b) (stalled h i j k) = absurd (let z : ⊥ = omega arith in z)
  same_stop (spent a b) (full h i j k l m) = absurd (let z : ⊥ = omega arith in z)
  same_stop (starved a b c) (done h) = absurd (let z : ⊥ = omega arith in z)
  same_stop (starved a b c) (spent h i) = absurd (let z : ⊥ = omega arith in z)
  same_stop (starved a b c) (starved h i j) = refl
  same_stop (starved a b c) (stalled h i j k) = absurd (let z : ⊥ = omega arith in z)
  same_stop (starved a b c) (full h i j k l m) = absurd (let z : ⊥ = omega arith in z)
  same_stop (stalled a b c d) (done h) = absurd (let z : ⊥ = omega arith in z)
  same_stop (stalled a b c d) (spent h i) = absurd (let z : ⊥ = omega arith in z)
  same_stop (stalled a b c d) (starved h i j) = absurd (let z : ⊥ = omega arith in z)
  same_stop (stalled a b c d) (stalled h i j k) = refl
  same_stop (stalled a b c d) (full h i j k l m) = absurd (false≢true (sym d ∙ k))
  same_stop (full a b c d f g) (done h) = absurd (let z : ⊥ = omega arith in z)
  same_stop (full a b c d f g) (spent h i) = absurd (let z : ⊥ = omega arith in z)
  same_stop (full a b c d f g) (starved h i j) = absurd (let z : ⊥ = omega arith in z)
  same_stop (full a b c d f g) (stalled h i j k) = absurd (false≢true (sym k ∙ d))
  same_stop (full a b c d f g) (full h i j k l m) = refl

  -- What is lent fixes the clocks and the end.
  pub one_way : {a x y : ℕ} {s : Counters} {n w m v : ℕ} {es fs : List Bool} {s' s'' : Counters} {e f : Ending} → Made a x y s n w es s' e → Made a x y s m v fs s'' f
      → (es ≡ fs) × (s' ≡ s'') × (e ≡ f)
  one_way (over h) (over k) = (refl, refl, same_stop h k)
  one_way (over h) (on g r) = absurd (never h g)
  one_way (on g r) (over h) = absurd (never h g)
  one_way {s = s} (on g r) (on h t) = let (x, d, y) = one_way r t in (ap (λ (l : List Bool). fires L s ∷ l) x, d, y)

  pub moved : {a b x u y v n m w q : ℕ} {s s' : Counters} {es : List Bool} {z : Ending} → a ≡ b → x ≡ u → y ≡ v → n ≡ m → w ≡ q → Made a x y s n w es s' z → Made b u v s m q es s' z
  moved {a} {b} {x} {u} {y} {v} {n} {m} {w} {q} {s} {s'} {es} {z} e f g h i r =
      subst (λ (k : ℕ). Made k u v s m q es s' z) e
      (subst (λ (k : ℕ). Made a k v s m q es s' z) f
      (subst (λ (k : ℕ). Made a x k s m q es s' z) g
      (subst (λ (k : ℕ). Made a x y s k q es s' z) h
      (subst (λ (k : ℕ). Made a x y s n k es s' z) i r))))

  -- A call that is lent no less goes as far, and on from there with what is left over.
  pub in_two : {a x y b u v : ℕ} {s : Counters} {n w m q : ℕ} {es fs : List Bool} {s' s'' : Counters} {e f : Ending} → Made a x y s n w es s' e → a ≤ b → x ≤ u → y ≤ v
      → Made (b - length es) (u - n) (v - w) s' m q fs s'' f → Made b u v s (n + m) (w + q) (es ++ fs) s'' f
  in_two (over h) i j k r = moved (omega arith) (omega arith) (omega arith) (omega arith) (omega arith) r
  in_two {b = zero} (on g r) i j k t = absurd (omega arith)
  in_two {b = suc b} {u = u} {v = v} {s = s} (on {n = n} {w = w} {es = ds} g r) i j k t =
      moved refl refl refl (omega arith) (omega arith)
      (on (record { left = g.left; some = omega (arith, g.some); moving = g.moving; room = λ f. omega (arith, g.room f) })
      (in_two r (omega arith) (omega arith) (omega arith) (moved (omega arith) (omega arith) (omega arith) refl refl t)))

-- The clocks of a call are those.
module _ (L : Layout) (write : List ℕ → List ℕ) (size : ℕ) (lent : List ℕ) where
  -- From s on: with `left` clocks, and the cells and the places that are left.
  pub record CallMade (left : ℕ) (s : Standing) (r : Ended) (es : List Bool) : Type 0 where
    pub cells : ℕ
    pub words : ℕ
    pub made : Made L size left (length lent - s.done.cells) (length s.output - s.done.firings * size) s.counters cells words es r.standing.counters r.ending
    pub taken : r.standing.done.cells ≡ s.done.cells + cells
    pub fired : r.standing.done.firings * size ≡ s.done.firings * size + words

  stop : (left : ℕ) (s : Standing) (e : Ending) → Looked L write size lent left s (ends e) → s.done.firings * size ≤ length s.output
      → CallMade left s (record { ending = e; standing = s }) []
  stop left s e h fits = record { cells = 0; words = 0; made = over (why e h); taken = omega arith; fired = omega arith }
    where
      why : (e : Ending) → Looked L write size lent left s (ends e) → Stop L size left (length lent - s.done.cells) (length s.output - s.done.firings * size) s.counters e
      why _ (is_done a) = done a
      why _ (is_spent a b) = spent a b
      why _ (is_starved a b c) = starved a b (omega arith)
      why _ (is_stalled a b c d) = stalled a b (omega arith) d
      why _ (is_full_lem a b c d f g) = full a b (omega arith) d f (omega arith)

  same_length : (s : Standing) → length (clocked L write size lent s).output ≡ length s.output
  unfolding clocked
  same_length s = by (fires L s.counters)
    where
      by : (b : Bool) → length (cond b (sets s.output (s.done.firings * size) (write (words L write size lent s))) s.output) ≡ length s.output
      by true = length-sets s.output (s.done.firings * size) (write (words L write size lent s))
      by false = refl

  more_words : (s : Standing) → (clocked L write size lent s).done.firings * size ≡ s.done.firings * size + wrote L size s.counters
  unfolding clocked
  more_words s = by (fires L s.counters)
    where
      by : (b : Bool) → cond b (suc s.done.firings) s.done.firings * size ≡ s.done.firings * size + cond b size 0
      by true = omega (arith, suc-mul s.done.firings size)
      by false = omega arith

  more_cells : (s : Standing) → (clocked L write size lent s).done.cells ≡ s.done.cells + step L size s.counters
  unfolding clocked
  more_cells s = refl

  fits_on : (s : Standing) → (fires L s.counters ≡ true → s.done.firings * size + size ≤ length s.output) → s.done.firings * size ≤ length s.output
      → s.done.firings * size + wrote L size s.counters ≤ length s.output
  fits_on s h fits = by (fires L s.counters) refl
    where
      by : (b : Bool) → fires L s.counters ≡ b → s.done.firings * size + cond b size 0 ≤ length s.output
      by true e = h e
      by false e = omega arith

  go : (left : ℕ) (s : Standing) (r : Ended) (es : List Bool) → Looked L write size lent (suc left) s goes
      → ((clocked L write size lent s).done.firings * size ≤ length (clocked L write size lent s).output → CallMade left (clocked L write size lent s) r es)
      → s.done.firings * size ≤ length s.output → CallMade (suc left) s r (fires L s.counters ∷ es)
  unfolding next clocked
  go left s r es (is_going a b c d e) p fits =
      let room = fits_on s e fits in
      let n = more_cells s in
      let w = more_words s in
      let o = same_length s in
      let k = p (omega arith) in
      record {
        cells = step L size s.counters + k.cells;
        words = wrote L size s.counters + k.words;
        made = on {x = length lent - s.done.cells} {y = length s.output - s.done.firings * size} (record { left = a; some = omega arith; moving = d; room = λ f. omega (arith, e f) }) (moved L size refl (omega arith) (omega arith) refl refl k.made);
        taken = omega (arith, k.taken);
        fired = omega (arith, k.fired);
      }

  pub call_made : (left : ℕ) (s : Standing) → s.done.firings * size ≤ length s.output → CallMade left s (call L write size lent left s) (events L write size lent left s)
  call_made = along_call L write size lent (λ left s r es. s.done.firings * size ≤ length s.output → CallMade left s r es) stop go
