use Prim.Native.Nat.{ℕ, suc, ◌≤◌, ◌<◌, ◌+◌, ◌*◌, ◌-◌}
use borrow.Author.Tests.{le-leb, lt-leb}
use mathlib.Core.List.{List}
use mathlib.Core.Path.{◌≡◌, refl, ◌∙◌}
use native.Mathlib.Omega.{arith}
use lib.ListN.{length, get_or, set}
use Rattle.nested.specs.declared.windows.Loops.{Loops}
use Rattle.nested.specs.Nested.{moved_by, cell_of, read_by, gathered}
use Rattle.nested.proofs.gather.Goals as goal

module _ (l : Loops) (window cells : List ℕ) (z y x : ℕ) where
  -- The references before k are read, and what follows gives what the whole does.
  abbrev Taken : (k : ℕ) (words₀ words : List ℕ) → Type 0
  Taken k words₀ words = gathered l window cells z y x k (32 - k) words ≡ gathered l window cells z y x 0 32 words₀

  module _ (k : ℕ) (words₀ words : List ℕ) (t : Taken k words₀ words) where
    all-taken : 32 ≤ k → words ≡ gathered l window cells z y x 0 32 words₀
    unfolding gathered
    all-taken h = let q : 32 - k ≡ 0 = omega arith in rw q at t

    window-ends : k < 32 → length window ≤ 4 * k + 2 → words ≡ gathered l window cells z y x 0 32 words₀
    unfolding gathered
    window-ends h e =
        let q : 32 - k ≡ suc (31 - k) = omega arith in
        rw (q, le-leb (length window) (4 * k + 2) e) at t

    one_more : (w : ℕ) → k < 32 → 4 * k + 2 < length window → w ≡ read_by l window cells z y x k → Taken (k + 1) words₀ (set words k w)
    unfolding gathered
    one_more w h e p =
        let q : 32 - k ≡ suc (32 - (k + 1)) = omega arith in
        let s : suc k ≡ k + 1 = omega arith in
        rw p (rw (q, lt-leb (length window) (4 * k + 2) e, s) at t)

  read : (k a b c w : ℕ) → w ≡ cell_of l cells a b c → a ≡ moved_by z (get_or window (4 * k) 0) → b ≡ moved_by y (get_or window (4 * k + 1) 0) → c ≡ moved_by x (get_or window (4 * k + 2) 0)
      → w ≡ read_by l window cells z y x k
  unfolding read_by
  read k a b c w e p q r = e ∙ rw (p, q, r) refl

pub loop-k-init : goal.loop-k-init
unfolding gathered
loop-k-init c = refl

pub returns-then-window-at : goal.returns-then-window-at
returns-then-window-at c =
    window-ends c.args.l c.args.window.now c.args.cells.now c.args.z c.args.y c.args.x c.loop-k.k _ _ c.loop-k.invariant (omega arith) (omega arith)

pub loop-k-preserved : goal.loop-k-preserved
loop-k-preserved c =
    let w =
    read c.args.l c.args.window.now c.args.cells.now c.args.z c.args.y c.args.x c.loop-k.k _ _ _ _ c.cell_at.ensures
    c.moved.ensures c.moved-in-loop-k.ensures c.moved-in-loop-k-2.ensures in
    one_more c.args.l c.args.window.now c.args.cells.now c.args.z c.args.y c.args.x c.loop-k.k _ _ c.loop-k.invariant _ (omega arith) (omega arith) w

pub returns : goal.returns
returns c =
    all-taken c.args.l c.args.window.now c.args.cells.now c.args.z c.args.y c.args.x c.loop-k.k _ _ c.loop-k.invariant (omega arith)
