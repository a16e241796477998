use Prim.Native.Nat.{ℕ, zero, suc, ◌≤◌, ◌<◌, ◌+◌, ◌-◌, min}
use mathlib.Core.Bool.{true, false}
use mathlib.Core.List.{List}
use mathlib.Core.Path.{◌≡◌, refl, ap, ◌∙◌}
use lib.ListN.{length, get_or}
use borrow.Author.Tests.{lt-ltb, le-ltb, eq-eqb, ne_eqb}
use native.Mathlib.Decide.{dec_lt}
use native.Mathlib.Omega.{arith}
use Rattle.nested.specs.Nested.{stands, standing, agreed}
use Rattle.nested.proofs.agreeing.Goals.{then-out-end-via-then-out-end, then-out-end-via-else-out-end+then-end-at}
use Rattle.nested.proofs.agreeing.Goals as goal

module _ (words out : List ℕ) (count at end : ℕ) where
  -- The first i words agree, and what follows gives what the whole does.
  abbrev Seen : ℕ → Type 0
  Seen i = agreed words out count at end ≡ i + standing words out at end i (count - i)

  none_seen : end ≤ length out → Seen 0
  unfolding agreed
  none_seen h = let z : count ≡ count - 0 = omega arith in rw (le-ltb (length out) end h) (ap (standing words out at end 0) z ∙ omega arith)

  short : length out < end → 0 ≡ agreed words out count at end
  unfolding agreed
  short h = rw (lt-ltb (length out) end h) refl

  stopped : (i n : ℕ) → stands words out at end i ≡ false → standing words out at end i n ≡ 0
  unfolding standing
  stopped i zero e = refl
  stopped i (suc n) e = rw e refl

  stop : (i : ℕ) → Seen i → stands words out at end i ≡ false → i ≡ agreed words out count at end
  stop i s e = let z = stopped i (count - i) e in omega (arith, s, z)

  last : (i : ℕ) → Seen i → count ≤ i → i ≡ agreed words out count at end
  unfolding standing
  last i s h = let z : count - i ≡ 0 = omega arith in let t = rw z at s in omega (arith, t)

  goes : (i n : ℕ) → stands words out at end i ≡ true → standing words out at end i (suc n) ≡ suc (standing words out at end (suc i) n)
  unfolding standing
  goes i n e = rw e refl

  further : (i : ℕ) → Seen i → i < count → stands words out at end i ≡ true → Seen (i + 1)
  further i s h e =
      let z : count - i ≡ suc (count - (i + 1)) = omega arith in
      let q : suc i ≡ i + 1 = omega arith in
      let t = rw z at s in
      let g = goes i (count - (i + 1)) e in
      let u = rw q at g in
      omega (arith, t, u)

  past_words : (i : ℕ) → 32 ≤ i → stands words out at end i ≡ false
  unfolding stands
  past_words i h = rw (le-ltb i 32 h) refl

  past_end : (i : ℕ) → i < 32 → end ≤ at + i → stands words out at end i ≡ false
  unfolding stands
  past_end i h l = rw (lt-ltb i 32 h, le-ltb (at + i) end l) refl

  other : (i : ℕ) → i < 32 → at + i < end → (get_or out (at + i) 0 ≡ get_or words i 0 → ⊥) → stands words out at end i ≡ false
  unfolding stands
  other i h l n = rw (lt-ltb i 32 h, lt-ltb (at + i) end l, ne_eqb (get_or out (at + i) 0) (get_or words i 0) n) refl

  same : (i : ℕ) → i < 32 → at + i < end → get_or out (at + i) 0 ≡ get_or words i 0 → stands words out at end i ≡ true
  unfolding stands
  same i h l n = rw (lt-ltb i 32 h, lt-ltb (at + i) end l, eq-eqb (get_or out (at + i) 0) (get_or words i 0) n) refl

  all_seen : (i : ℕ) → Seen i → i ≡ min (min count 32) (end - at) → at ≤ end → i ≡ agreed words out count at end
  all_seen i s e h = go (dec_lt i count) (dec_lt i 32)
    where
      go : Dec (i < count) → Dec (i < 32) → i ≡ agreed words out count at end
      go (no n) d = last i s (omega arith)
      go (yes b) (yes d) = stop i s (past_end i d (omega arith))
      go (yes b) (no n) = stop i s (past_words i (omega arith))

pub returns-then-out-end : goal.returns-then-out-end
returns-then-out-end c =
    let w = c.args.words.now in
    let o = c.args.out.now in
    elim c.then-out-end.branch [
      | then-out-end-via-then-out-end v ↦ short w o c.args.count c.args.at c.args.end v.if-out-end.true
      | then-out-end-via-else-out-end+then-end-at v ↦
          stop w o c.args.count c.args.at c.args.end 0 (none_seen w o c.args.count c.args.at c.args.end v.if-out-end.false)
          (past_end w o c.args.count c.args.at c.args.end 0 (omega arith) (omega arith))
    ]

pub loop-i-init : goal.loop-i-init
loop-i-init c = none_seen c.args.words.now c.args.out.now c.args.count c.args.at c.args.end (omega arith)

pub returns-then-out-at : goal.returns-then-out-at
returns-then-out-at c =
    let w = c.args.words.now in
    let o = c.args.out.now in
    stop w o c.args.count c.args.at c.args.end c.loop-i.i c.loop-i.invariant
    (other w o c.args.count c.args.at c.args.end c.loop-i.i (omega arith) (omega arith) c.if-out-at.true)

pub loop-i-preserved : goal.loop-i-preserved
loop-i-preserved c =
    let w = c.args.words.now in
    let o = c.args.out.now in
    further w o c.args.count c.args.at c.args.end c.loop-i.i c.loop-i.invariant (omega arith)
    (same w o c.args.count c.args.at c.args.end c.loop-i.i (omega arith) (omega arith) c.if-out-at.false)

pub returns : goal.returns
returns c =
    let w = c.args.words.now in
    let o = c.args.out.now in
    let e : c.min-n.result ≡ c.loop-i.i = omega arith in
    e ∙ all_seen w o c.args.count c.args.at c.args.end c.loop-i.i c.loop-i.invariant (omega arith) (omega arith)
