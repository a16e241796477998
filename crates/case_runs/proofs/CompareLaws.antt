-- A comparison with the nested loop, index by index.
use Rattle.std.proofs.Common.{◌≡◌, ℕ, zero, suc, ◌+◌, ◌-◌, ◌%◌, ◌^◌, ◌<◌, ◌≤◌, Bool, true, false, cond, not, ◌&&◌, eqb, List, sym, refl, ◌∙◌, arith, eq-eqb, ne_eqb}
use Rattle.model.specs.declared.Chain.{Chain}
use Rattle.model.specs.declared.Kernel.{Kernel}
use Rattle.nested.specs.declared.windows.Loops.{Loops}
use Rattle.model_run.specs.Kernels.{width}
use Rattle.nested.specs.Nested.{agreed, references_in}
use Rattle.case_runs.specs.declared.Run.{Run}
use Rattle.case_runs.specs.CaseRuns.{begun, course, called_on}
use Rattle.case_runs.specs.Comparing.{Beside, along, loop_words, is_iteration, iteration, place, line, plane, all_planes, compared}

-- No word differs so far.
abbrev pub going : Run → (store output : List ℕ) (at words : ℕ) → Beside
going run store output at words = record { course = course run store output; words = words; at = at; same = true }

-- One differs.
abbrev pub ended : Run → (store output : List ℕ) (at words : ℕ) → Beside
ended run store output at words = record { course = course run store output; words = words; at = at; same = false }

pub course_is : (run run' : Run) (store store' out out' : List ℕ) → run ≡ run' → store ≡ store' → out ≡ out' → course run store out ≡ course run' store' out'
course_is run run' store store' out out' e f g = rw (e, f, g)

-- By a test of two numbers.
module _ {A : Type 0} (m n : ℕ) (a b k : A) where
  pub by_equal : m ≡ n → k ≡ a → k ≡ cond (eqb m n) a b
  by_equal e f = rw (eq-eqb m n e) f

  pub by_other : (m ≡ n → ⊥) → k ≡ b → k ≡ cond (eqb m n) a b
  by_other e f = rw (ne_eqb m n e) f

pub turned : (b : Bool) → not b ≡ true → b ≡ false
turned true e = sym e
turned false e = refl

pub turned_back_lem : (b : Bool) → not b ≡ false → b ≡ true
turned_back_lem true e = refl
turned_back_lem false e = sym e

module _ (step : ℕ → Beside → Beside) where
  pub along_on : (n m i : ℕ) (b next : Beside) → n ≡ suc m → step i b ≡ next → next.same ≡ true → along step m (i + 1) next ≡ along step n i b
  unfolding along
  along_on n m i b next e f s = rw (e, f, s)

  pub along_stops : (n i : ℕ) (b last : Beside) → 0 < n → step i b ≡ last → last.same ≡ false → last ≡ along step n i b
  unfolding along
  along_stops zero i b last h f s = absurd (omega arith)
  along_stops (suc n) i b last h f s = rw (f, s)

  pub along_none : (n i : ℕ) (b : Beside) → n ≤ 0 → b ≡ along step n i b
  unfolding along
  along_none zero i b h = refl
  along_none (suc n) i b h = absurd (omega arith)

module _ (l : Loops) (k : Kernel) (c : Chain) (rows : List ℕ) (pieces : Bool) (size : ℕ) (window cells field inside : List ℕ) (z y x : ℕ) where
  pub skipped : (b : Beside) → is_iteration l window inside z y x ≡ false → place l k c rows pieces size window cells field inside z y x b ≡ b
  unfolding place
  skipped b e = rw e

  module _ (run run' : Run) (store store' out out' : List ℕ) (at at' words seen seen' : ℕ) (is : is_iteration l window inside z y x ≡ true)
      (next : course run' store' out' ≡ cond (eqb at run.words) (called_on 100000 c rows pieces size cells (course run store out)) (course run store out))
      (from : at' ≡ cond (eqb at run.words) 0 at) (found : words ≡ agreed (loop_words l k window field z y x) out' size at' run'.words)
      (sum : seen' ≡ (seen + words) % 2 ^ 64) where
    pub differs : (words ≡ size → ⊥) → place l k c rows pieces size window cells field inside z y x (going run store out at seen) ≡ ended run' store' out' at' seen'
    unfolding place iteration
    differs d = rw (is, ← next, ← from, ← found, ne_eqb words size d, sum)

    pub agrees : words ≡ size → (at'' : ℕ) → at'' ≡ (at' + size) % 2 ^ 64
        → place l k c rows pieces size window cells field inside z y x (going run store out at seen) ≡ going run' store' out' at'' seen'
    unfolding place iteration
    agrees d at'' e = rw (is, ← next, ← from, ← found, eq-eqb words size d, e, sum)

module _ (l : Loops) (k : Kernel) (c : Chain) (rows : List ℕ) (pieces : Bool) (size : ℕ) (window cells field inside : List ℕ) where
  -- What is left of a line, of a plane, and of all planes, is what it all comes to.
  abbrev pub OnLine : (z y x : ℕ) (now start : Beside) → Type 0
  OnLine z y x now start =
      along (place l k c rows pieces size window cells field inside z y) (l.x_end - x) x now
      ≡ along (place l k c rows pieces size window cells field inside z y) (l.x_end - l.x_first) l.x_first start

  abbrev pub OnPlane : (z y : ℕ) (now start : Beside) → Type 0
  OnPlane z y now start =
      along (line l k c rows pieces size window cells field inside z) (l.y_end - y) y now
      ≡ along (line l k c rows pieces size window cells field inside z) (l.y_end - l.y_first) l.y_first start

  abbrev pub OnPlanes : (z : ℕ) (now start : Beside) → Type 0
  OnPlanes z now start =
      along (plane l k c rows pieces size window cells field inside) (l.z_end - z) z now
      ≡ along (plane l k c rows pieces size window cells field inside) (l.z_end - l.z_first) l.z_first start

  -- One index more.
  pub line_on : (z y x : ℕ) (end now start : Beside) → end.same ≡ true → y < l.y_end → l.x_end ≤ x → OnLine z y x end now → OnPlane z y now start → OnPlane z (y + 1) end start
  unfolding line
  line_on z y x end now start s h g i j =
      along_on (line l k c rows pieces size window cells field inside z) _ _ y now end (omega arith)
      (sym (along_none (place l k c rows pieces size window cells field inside z y) _ x end (omega arith) ∙ i)) s ∙ j

  pub plane_on : (z y : ℕ) (end now start : Beside) → end.same ≡ true → z < l.z_end → l.y_end ≤ y → OnPlane z y end now → OnPlanes z now start → OnPlanes (z + 1) end start
  unfolding plane
  plane_on z y end now start s h g i j =
      along_on (plane l k c rows pieces size window cells field inside) _ _ z now end (omega arith)
      (sym (along_none (line l k c rows pieces size window cells field inside z) _ y end (omega arith) ∙ i)) s ∙ j

  -- All planes come to the end, or to the word that differs.
  pub all_gone : (z : ℕ) (end start : Beside) → l.z_end ≤ z → OnPlanes z end start → end ≡ all_planes l k c rows pieces size window cells field inside start
  unfolding all_planes
  all_gone z end start g i = along_none (plane l k c rows pieces size window cells field inside) _ z end (omega arith) ∙ i

  pub all_stop : (z y x : ℕ) (last now3 now2 now1 start : Beside) → place l k c rows pieces size window cells field inside z y x now3 ≡ last → last.same ≡ false
      → x < l.x_end → y < l.y_end → z < l.z_end → OnLine z y x now3 now2 → OnPlane z y now2 now1 → OnPlanes z now1 start
      → last ≡ all_planes l k c rows pieces size window cells field inside start
  unfolding line plane all_planes
  all_stop z y x last now3 now2 now1 start e s hx hy hz i3 i2 i1 =
      let d3 = along_stops (place l k c rows pieces size window cells field inside z y) _ x now3 last (omega arith) e s ∙ i3 in
      let d2 = along_stops (line l k c rows pieces size window cells field inside z) _ y now2 last (omega arith) (sym d3) s ∙ i2 in
      along_stops (plane l k c rows pieces size window cells field inside) _ z now1 last (omega arith) (sym d2) s ∙ i1

-- What all planes come to is what is answered.
pub answered : (l : Loops) (k : Kernel) (c : Chain) (rows : List ℕ) (pieces : Bool) (window cells field inside store out : List ℕ) (size n : ℕ) (run : Run) → size ≡ width k n → n ≡ references_in window
    → run ≡ begun → (end : Beside) → end ≡ all_planes l k c rows pieces size window cells field inside (going run store out 0 0)
    → (let r : Beside = record { course = end.course; words = end.words; at = end.at; same = end.same && eqb end.at end.course.run.words } in r)
    ≡ compared l k c rows pieces window cells field inside store out
unfolding compared
answered l k c rows pieces window cells field inside store out size n run e g f end h = rw (← g, ← e, ← f, ← h)
