-- Passes and firings one after the other: the places stay in their rings.
use Prim.Native.Nat.{ℕ, zero, suc, ◌+◌, ◌-◌, ◌*◌, ◌≤◌, ◌<◌}
use mathlib.Core.List.{List, [], ◌∷◌}
use mathlib.Core.Path.{◌≡◌, refl, ◌∙◌, ap}
use native.Mathlib.Nat.{suc-mul, mul-le-mul_right, add-zero, zero-mul}
use native.Mathlib.Numerals.{add-one}
use native.Mathlib.Omega.{arith}
use native.Mathlib.Decide.{ℕ_discrete}
use lib.ListN.{length, get_or, set}
use lib.Seq.{slice, sets, length-sets, length-take-le, get_or-take, get_or-set_same, get_or-set_other}
use Rattle.model.specs.Lists.{up_to}
use Rattle.model_run.specs.Kernels.{words_at, written, width}
use Rattle.model.specs.declared.Kernel.{Kernel}
use Rattle.model.specs.declared.Kernel.TheVariants as kernels
use Rattle.grid_laws.proofs.ListLaws.{length_tabulate}
use Rattle.kernel_words.proofs.SumLaws.{words_count}
use Rattle.loop_laws.specs.Passes.{step, flow, stepped, Lent, lent_of, passing, InStore}
use Rattle.loop_laws.proofs.FlowLaws.{length_flow}
use Rattle.loop_laws.proofs.PassLaws.{step_back, step_up, length_stepped}
use Rattle.run_glide.specs.Glides.{Blank, fired_of, GoodPlaces, Rung, passes_of, fires_of}
use Rattle.run_glide.proofs.FireLaws.{blank_on}

-- ---- a step in a ring

step_below : (base top u : ℕ) → base < top → u < top → step base top u < top
step_below base top u b h = go (ℕ_discrete (u + 1) top)
  where
    go : Dec (u + 1 ≡ top) → step base top u < top
    go (yes e) = omega (arith, step_back base top u e)
    go (no e) = omega (arith, step_up base top u e)

module _ (bases tops : List ℕ) where
  stepped_at : (m k : ℕ) (us : List ℕ) → k < m → m ≤ length us → get_or (stepped bases tops m us) k 0 ≡ step (get_or bases k 0) (get_or tops k 0) (get_or us k 0)
  unfolding stepped
  stepped_at zero k us h l = absurd (omega arith)
  stepped_at (suc m) k us h l = go (ℕ_discrete k m) (λ g. stepped_at m k us g (omega arith))
    where
      go : Dec (k ≡ m) → (k < m → get_or (stepped bases tops m us) k 0 ≡ step (get_or bases k 0) (get_or tops k 0) (get_or us k 0))
          → get_or (set (stepped bases tops m us) m (step (get_or bases m 0) (get_or tops m 0) (get_or us m 0))) k 0 ≡ step (get_or bases k 0) (get_or tops k 0) (get_or us k 0)
      go (yes e) ih = rw e (get_or-set_same (stepped bases tops m us) m (step (get_or bases m 0) (get_or tops m 0) (get_or us m 0)) 0 (omega (arith, length_stepped bases tops m us)))
      go (no e) ih = get_or-set_other (stepped bases tops m us) m k (step (get_or bases m 0) (get_or tops m 0) (get_or us m 0)) 0 e ∙ ih (omega arith)

-- ---- one clock

module _ (n room : ℕ) (bases tops us gs store : List ℕ) (r : Rung n room bases tops us gs store) where
  pub in_store : InStore (n - 1) us gs store
  in_store = record {
    puts_there = omega (arith, r.puts_there);
    gets_there = omega (arith, r.gets_there);
    in_puts = λ i h. let g = r.rings.each i (omega arith) in omega (arith, g.1, g.3, r.room_is);
    in_gets = λ i h. let g = r.rings.each i (omega arith) in omega (arith, g.2, g.3, r.room_is);
  }

  rung_on : (us' gs' store' : List ℕ) (x : ℕ) → us' ≡ stepped bases tops (n - 1) us → gs' ≡ stepped bases tops (n - 1) gs
      → store' ≡ flow x (slice 0 (n - 1) gs) (slice 0 (n - 1) us) store → Rung n room bases tops us' gs' store'
  rung_on us' gs' store' x eu eg es = record {
    puts_there = omega (arith, ap length eu, length_stepped bases tops (n - 1) us, r.puts_there);
    gets_there = omega (arith, ap length eg, length_stepped bases tops (n - 1) gs, r.gets_there);
    rings = record { some = r.rings.some; few = r.rings.few; each = each };
    room_is = ap length es ∙ length_flow x (slice 0 (n - 1) gs) (slice 0 (n - 1) us) store ∙ r.room_is;
  }
    where
      each : (k : ℕ) → k + 1 < n → GoodPlaces (get_or bases k 0) (get_or tops k 0) (get_or us' k 0) (get_or gs' k 0) room
      each k h =
          let g = r.rings.each k h in
          let u = ap (λ (l : List ℕ). get_or l k 0) eu ∙ stepped_at bases tops (n - 1) k us (omega arith) (omega (arith, r.puts_there)) in
          let v = ap (λ (l : List ℕ). get_or l k 0) eg ∙ stepped_at bases tops (n - 1) k gs (omega arith) (omega (arith, r.gets_there)) in (
            g.0,
            omega (arith, u, step_below (get_or bases k 0) (get_or tops k 0) (get_or us k 0) g.0 g.1),
            omega (arith, v, step_below (get_or bases k 0) (get_or tops k 0) (get_or gs k 0) g.0 g.2),
            g.3,
          )

-- ---- many clocks

module _ (kernel : Kernel) (centre n size from o count : ℕ) (bases tops cells us₀ gs₀ store₀ out₀ ts : List ℕ) where
  pub record Fired (us gs store out : List ℕ) (at i : ℕ) : Type 0 where
    pub most : i ≤ count
    pub at_is : at ≡ o + i * size
    pub left : lent_of us gs store out ≡ fires_of kernel centre ts n size bases tops cells from o i (lent_of us₀ gs₀ store₀ out₀)
    pub rung : Rung n (length store₀) bases tops us gs store
    pub out_length : length out ≡ length out₀

  pub fired_none : Rung n (length store₀) bases tops us₀ gs₀ store₀ → Fired us₀ gs₀ store₀ out₀ o 0
  unfolding fires_of
  fired_none r = record { most = omega arith; at_is = rw (zero-mul size, add-zero o); left = refl; rung = r; out_length = refl }

  module _ (us gs store out : List ℕ) (at i : ℕ) (s : Fired us gs store out at i) where
    -- There is room for one more, and for the rest behind it.
    pub fired_room : (rest : ℕ) → o + count * size + rest ≤ length out₀ → i < count → at + size + rest ≤ length out
    fired_room rest fits h = let m : suc i * size ≤ count * size = mul-le-mul_right size (omega arith) in omega (arith, m, suc-mul i size, s.at_is, s.out_length)

    pub fired_more : (us' gs' store' out' : List ℕ) (x : ℕ) → i < count → x ≡ get_or cells (from + i) 0
        → lent_of us' gs' store' out' ≡ fired_of kernel centre ts n at bases tops x (lent_of us gs store out) → Fired us' gs' store' out' (at + size) (i + 1)
    unfolding fires_of
    fired_more us' gs' store' out' x h ex e = record {
      most = omega arith;
      at_is = rw (add-one i, suc-mul i size) (omega (arith, s.at_is));
      left = rw (add-one i) (e ∙ ap (λ (y : ℕ). fired_of kernel centre ts n at bases tops y (lent_of us gs store out)) ex
          ∙ ap (λ (z : ℕ). fired_of kernel centre ts n z bases tops (get_or cells (from + i) 0) (lent_of us gs store out)) s.at_is
          ∙ ap (λ (l : Lent). fired_of kernel centre ts n (o + i * size) bases tops (get_or cells (from + i) 0) l) s.left);
      rung = rung_on n (length store₀) bases tops us gs store s.rung us' gs' store' x (ap (λ (l : Lent). l.puts) e) (ap (λ (l : Lent). l.gets) e) (ap (λ (l : Lent). l.store) e);
      out_length = ap (λ (l : Lent). length l.words) e ∙ length-sets out at (written kernel centre ts (up_to n) (passing (n - 1) x us gs store)) ∙ s.out_length;
    }

-- ---- what they leave as it was

-- A store past the places that are written to,
flow_kept : (x i : ℕ) (gs us store : List ℕ) → ((k : ℕ) → k < length us → get_or us k 0 < i) → get_or (flow x gs us store) i 0 ≡ get_or store i 0
unfolding flow
flow_kept x i [] us store h = refl
flow_kept x i (g ∷ gs) [] store h = refl
flow_kept x i (g ∷ gs) (u ∷ us) store h =
    flow_kept (get_or store g 0) i gs us (set store u x) (λ k l. h (suc k) (omega arith))
    ∙ get_or-set_other store u i x 0 (let b : u < i = h 0 (omega arith) in λ e. omega arith)

-- and an output past the words.
sets_kept : (l : List ℕ) (o i : ℕ) (vs : List ℕ) → o + length vs ≤ i → get_or (sets l o vs) i 0 ≡ get_or l i 0
sets_kept l o i [] h = refl
sets_kept l o i (v ∷ vs) h = sets_kept (set l o v) (suc o) i vs (omega arith) ∙ get_or-set_other l o i v 0 (λ e. omega arith)

written_long : (k : Kernel) (c n : ℕ) (ks ws : List ℕ) → length (written k c ks (up_to n) ws) ≡ width k n
unfolding written width up_to
written_long kernels.Raw c n ks ws = words_count (up_to n) ws ∙ length_tabulate n (λ k. k)
written_long kernels.Difference c n ks ws = refl
written_long (kernels.Scaled f) c n ks ws = refl
written_long (kernels.Blend g) c n ks ws = refl

module _ (kernel : Kernel) (centre : ℕ) (ts : List ℕ) (n size room from o : ℕ) (bases tops cells : List ℕ) (l : Lent)
    (r : Rung n room bases tops l.puts l.gets l.store) where
  abbrev after : ℕ → Lent
  after m = fires_of kernel centre ts n size bases tops cells from o m l

  rung_after : (m : ℕ) → Rung n room bases tops (after m).puts (after m).gets (after m).store
  unfolding fires_of
  rung_after zero = r
  rung_after (suc m) = rung_on n room bases tops _ _ _ (rung_after m) _ _ _ (get_or cells (from + m) 0) refl refl refl

  pub store_after_lem : (i m : ℕ) → ((k : ℕ) → k + 1 < n → get_or tops k 0 ≤ i) → get_or (after m).store i 0 ≡ get_or l.store i 0
  unfolding fires_of
  store_after_lem i zero h = refl
  store_after_lem i (suc m) h =
      let s = rung_after m in
      let us = (after m).puts in
      let e : length (slice 0 (n - 1) us) ≡ n - 1 = length-take-le (n - 1) us (omega (arith, s.puts_there)) in
      flow_kept (get_or cells (from + m) 0) i (slice 0 (n - 1) (after m).gets) (slice 0 (n - 1) us) (after m).store
      (λ k b. let c : k < n - 1 = omega arith in omega (arith, get_or-take (n - 1) us k 0 c, (s.rings.each k (omega arith)).1, h k (omega arith)))
      ∙ store_after_lem i m h

  pub words_after : size ≡ width kernel n → (i m : ℕ) → o + m * size ≤ i → get_or (after m).words i 0 ≡ get_or l.words i 0
  unfolding fires_of
  words_after w i zero h = refl
  words_after w i (suc m) h =
      let d = suc-mul m size in
      let ws = written kernel centre ts (up_to n) (passing (n - 1) (get_or cells (from + m) 0) (after m).puts (after m).gets (after m).store) in
      let e : length ws ≡ width kernel n = written_long kernel centre n ts (passing (n - 1) (get_or cells (from + m) 0) (after m).puts (after m).gets (after m).store) in
      sets_kept (after m).words (o + m * size) i ws (omega arith)
      ∙ words_after w i m (omega (arith, d))

-- ---- raw firings

-- They have no centre and no terms.
raw_same : (centre : ℕ) (ts : List ℕ) (n size : ℕ) (bases tops cells : List ℕ) (from o i : ℕ) (l : Lent)
    → passes_of n size bases tops cells from o i l ≡ fires_of kernels.Raw centre ts n size bases tops cells from o i l
unfolding fires_of written
raw_same centre ts n size bases tops cells from o zero l = refl
raw_same centre ts n size bases tops cells from o (suc i) l =
    ap (λ (z : Lent). fired_of kernels.Raw centre ts n (o + i * size) bases tops (get_or cells (from + i) 0) z) (raw_same centre ts n size bases tops cells from o i l)

-- They are passes, whose words stand side by side.
pub raw_passes : (kernel : Kernel) (centre n size : ℕ) (bases tops cells ts : List ℕ) (from o i : ℕ) (l l' : Lent) → kernel ≡ kernels.Raw → size ≡ width kernel n
    → l' ≡ passes_of n n bases tops cells from o i l → l' ≡ fires_of kernel centre ts n size bases tops cells from o i l
unfolding width
raw_passes kernel centre n size bases tops cells ts from o i l l' r w e = rw (w, r) (e ∙ raw_same centre ts n n bases tops cells from o i l)

pub raw_room : (kernel : Kernel) (n size o count len : ℕ) → kernel ≡ kernels.Raw → size ≡ width kernel n → o + count * size ≤ len → o + count * n + (n - n) ≤ len
unfolding width
raw_room kernel n size o count len r w h = let e : size ≡ n = w ∙ rw r in let f = rw e at h in omega arith

-- ---- passes whose words all go to the start of a row

blank_passed : (n : ℕ) (bases tops cells : List ℕ) (from i : ℕ) (l : Lent) → n ≤ 32 → Blank n l.words → Blank n (passes_of n 0 bases tops cells from 0 i l).words
unfolding fires_of written up_to
blank_passed n bases tops cells from zero l few b = b
blank_passed n bases tops cells from (suc i) l few b =
    let z : 0 + i * 0 ≡ 0 = omega arith in
    let p = passes_of n 0 bases tops cells from 0 i l in
    let ws = passing (n - 1) (get_or cells (from + i) 0) p.puts p.gets p.store in
    rw z (blank_on n p.words (words_at (up_to n) ws) (blank_passed n bases tops cells from i l few b) (words_count (up_to n) ws ∙ length_tabulate n (λ k. k)) few)

-- Past the words it stays 0.
pub blank_after : (n : ℕ) (bases tops cells : List ℕ) (from i : ℕ) (l l' : Lent) → n ≤ 32 → Blank n l.words → l' ≡ passes_of n 0 bases tops cells from 0 i l → Blank n l'.words
blank_after n bases tops cells from i l l' few b e = rw (ap (λ (z : Lent). z.words) e) (blank_passed n bases tops cells from i l few b)

-- ---- how wide

-- A firing writes some words.
pub width_some : (k : Kernel) (n size : ℕ) → 0 < n → size ≡ width k n → 0 < size
unfolding width
width_some kernels.Raw n size h e = omega arith
width_some kernels.Difference n size h e = omega arith
width_some (kernels.Scaled f) n size h e = omega arith
width_some (kernels.Blend g) n size h e = omega arith
