-- The loop over the clocks of aligned filters, whatever its tables say: the places stay in their rings, no number gets out of its range, and nothing is written past the rings and past the words.
use Prim.Native.Nat.{ℕ, ◌+◌, ◌-◌, ◌*◌, ◌/◌, ◌%◌, ◌≤◌, ◌<◌}
use mathlib.Core.Bool.{Bool, true, false}
use mathlib.Core.List.{List, []}
use mathlib.Core.Path.{◌≡◌, refl, sym, ◌∙◌, ap}
use native.Mathlib.Nat.{mod-le, div-le_self, mul-le-mul, zero-mul, add-mul}
use native.Mathlib.Omega.{arith}
use native.Mathlib.Decide.{dec_lt}
use lib.ListN.{length, get_or, replicate, length-replicate, get_or-replicate, get_or-eq_default}
use Rattle.model_run.specs.Kernels.{width}
use Rattle.model.specs.declared.Kernel.{Kernel}
use Rattle.model.specs.declared.Kernel.TheVariants as kernels
use Rattle.loop_laws.specs.Passes.{Lent, lent_of, heads}
use Rattle.run_glide.specs.Glides.{Blank, GoodPlaces, InRings, Rung, passes_of, fires_of, Stops, Within}
use Rattle.run_glide.specs.declared.Slid.{Slid}
use Rattle.run_glide.proofs.ManyLaws.{store_after_lem, words_after}

-- ---- a walk

-- An index of a small iteration, times a stride.
pub term_low : (left b s : ℕ) → left ≤ 1048576 → s ≤ 1048576 → left / b * s ≤ 1099511627776
term_low left b s l h = mul-le-mul {n₂ = 1048576} {m₂ = 1048576} (let d = div-le_self left b in omega arith) h

pub rest_low : (left b : ℕ) → left ≤ 1048576 → left % b ≤ 1048576
rest_low left b l = let m = mod-le left b in omega arith

pub sum_low : (sum left b s d : ℕ) → left ≤ 1048576 → sum ≤ d * 1099511627776 → s ≤ 1048576 → sum + left / b * s ≤ (d + 1) * 1099511627776
sum_low sum left b s d l e h = omega (arith, term_low left b s l h)

-- ---- the loop

pub blank_start : (n : ℕ) (row : List ℕ) → row ≡ replicate 256 0 → Blank n row
blank_start n row e = record { there = ap length e ∙ length-replicate {A = ℕ} 256 0; rest = λ k h. ap (λ (l : List ℕ). get_or l k 0) e ∙ go k (dec_lt k 256) }
  where
    go : (k : ℕ) → Dec (k < 256) → let z : ℕ = 0 in get_or (replicate 256 z) k z ≡ z
    go k (yes l) = get_or-replicate 256 k 0 0 l
    go k (no l) = get_or-eq_default (replicate 256 0) 0 {n = k} (omega (arith, length-replicate {A = ℕ} 256 0))

module _ (n size iterations fired₀ allowance : ℕ) (bases tops cells store₀ out₀ : List ℕ) where
  pub record Slides (us gs store out : List ℕ) (fired left taken o : ℕ) : Type 0 where
    pub begun : fired₀ ≤ fired
    pub had : taken ≤ length cells
    pub allowed : taken ≤ allowance
    pub fewer : fired ≤ fired₀ + taken
    pub most : fired - fired₀ ≤ iterations - fired₀
    pub left_some : 0 < left
    pub rung : Rung n (length store₀) bases tops us gs store
    pub words : o ≡ (fired - fired₀) * size
    pub room : o ≤ length out
    pub out_length : length out ≡ length out₀
    pub store_kept : (i : ℕ) → ((k : ℕ) → k + 1 < n → get_or tops k 0 ≤ i) → get_or store i 0 ≡ get_or store₀ i 0
    pub out_kept : (i : ℕ) → o ≤ i → get_or out i 0 ≡ get_or out₀ i 0

  pub slides_start : (us gs : List ℕ) (left : ℕ) (full : Bool) → 0 < left → InRings n (length store₀) bases tops us gs → length us ≡ 32 → length gs ≡ 32
      → Slides us (heads full us gs) store₀ out₀ fired₀ left 0 0
  slides_start us gs left full s r lu lg =
      let z : fired₀ - fired₀ ≡ 0 = omega arith in
      record {
        begun = omega arith;
        had = omega arith;
        allowed = omega arith;
        fewer = omega arith;
        most = omega arith;
        left_some = s;
        rung = record {
          puts_there = omega (arith, r.few);
          gets_there = long full;
          rings = record { some = r.some; few = r.few; each = λ k h. each full k h };
          room_is = refl;
        };
        words = rw z (sym (zero-mul size));
        room = omega arith;
        out_length = refl;
        store_kept = λ i h. refl;
        out_kept = λ i h. refl;
      }
    where
      long : (b : Bool) → n ≤ length (heads b us gs)
      long false = omega (arith, r.few)
      long true = omega (arith, r.few)

      each : (b : Bool) (k : ℕ) → k + 1 < n → GoodPlaces (get_or bases k 0) (get_or tops k 0) (get_or us k 0) (get_or (heads b us gs) k 0) (length store₀)
      each false k h = r.each k h
      each true k h = let g = r.each k h in (g.0, g.1, g.1, g.3)

  module _ (us gs store out : List ℕ) (fired left taken o : ℕ) (s : Slides us gs store out fired left taken o) where
    -- Clocks without a firing,
    pub slides_waits : (us' gs' store' words words' : List ℕ) (m : ℕ) → Rung n (length store) bases tops us' gs' store'
        → lent_of us' gs' store' words' ≡ passes_of n 0 bases tops cells taken 0 m (lent_of us gs store words) → taken + m ≤ length cells → taken + m ≤ allowance
        → Slides us' gs' store' out fired left (taken + m) o
    slides_waits us' gs' store' words words' m r e hl al = record {
      begun = s.begun;
      had = hl;
      allowed = al;
      fewer = omega (arith, s.fewer);
      most = s.most;
      left_some = s.left_some;
      rung = rw s.rung.room_is at r;
      words = s.words;
      room = s.room;
      out_length = s.out_length;
      store_kept = λ i h. ap (λ (l : Lent). get_or l.store i 0) e
          ∙ store_after_lem kernels.Raw 0 [] n 0 (length store₀) taken 0 bases tops cells (lent_of us gs store words) s.rung i m h ∙ s.store_kept i h;
      out_kept = s.out_kept;
    }

    -- and firings.
    pub slides_fires : (us' gs' store' out' : List ℕ) (m left' : ℕ) (kernel : Kernel) (centre : ℕ) (ts : List ℕ) → Rung n (length store) bases tops us' gs' store'
        → lent_of us' gs' store' out' ≡ fires_of kernel centre ts n size bases tops cells taken o m (lent_of us gs store out) → size ≡ width kernel n
        → length out' ≡ length out → taken + m ≤ length cells → taken + m ≤ allowance → fired + m ≤ iterations → m * size ≤ length out - o → 0 < left'
        → Slides us' gs' store' out' (fired + m) left' (taken + m) (o + m * size)
    slides_fires us' gs' store' out' m left' kernel centre ts r e w eo hl al il h ll =
        let d : (fired + m) - fired₀ ≡ (fired - fired₀) + m = omega (arith, s.begun) in
        record {
          begun = omega (arith, s.begun);
          had = hl;
          allowed = al;
          fewer = omega (arith, s.fewer);
          most = omega (arith, s.begun);
          left_some = ll;
          rung = rw s.rung.room_is at r;
          words = rw (d, add-mul (fired - fired₀) m size) (omega (arith, s.words));
          room = omega (arith, s.room);
          out_length = eo ∙ s.out_length;
          store_kept = λ i g. ap (λ (l : Lent). get_or l.store i 0) e
              ∙ store_after_lem kernel centre ts n size (length store₀) taken o bases tops cells (lent_of us gs store out) s.rung i m g ∙ s.store_kept i g;
          out_kept = λ i g. ap (λ (l : Lent). get_or l.words i 0) e
              ∙ words_after kernel centre ts n size (length store₀) taken o bases tops cells (lent_of us gs store out) s.rung w i m g ∙ s.out_kept i (omega arith);
        }

    -- Where they stop.
    pub within : (r : Slid) → r.clocks ≡ taken → r.firings ≡ fired - fired₀
        → Stops r.how (iterations ≤ fired₀ + (fired - fired₀)) (taken ≡ allowance) (taken ≡ length cells) (length out < o + size)
        → Within r n size iterations fired₀ tops store₀ store out₀ out cells allowance
    within r ec ef st = record {
      had = omega (arith, s.had);
      allowed = omega (arith, s.allowed);
      fewer = omega (arith, s.fewer);
      most = omega (arith, s.most);
      room = rw ef (omega (arith, s.words, s.room, s.out_length));
      stops = rw (ef, ec, ← s.words, ← s.out_length) st;
      store_kept = s.store_kept;
      out_kept = λ i h. s.out_kept i (rw (s.words, ← ef) h);
    }
