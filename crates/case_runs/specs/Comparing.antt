-- The words of a run beside those of the plain nested loop.
use Rattle.std.specs.Prelude.{ℕ, zero, suc, ◌+◌, ◌-◌, ◌%◌, ◌^◌, Bool, true, cond, ◌&&◌, List, length, replicate, ◌==◌, nat_eq}
use Rattle.model.specs.declared.Chain.{Chain}
use Rattle.model.specs.declared.Kernel.{Kernel}
use Rattle.model_run.specs.Kernels.{width}
use Rattle.nested.specs.declared.windows.Loops.{Loops}
use Rattle.nested.specs.Nested.{references_in, gathered, fired, agreed}
use Rattle.case_runs.specs.declared.compare.Compared.{Compared}
use Rattle.case_runs.specs.CaseRuns.{begun, Course, course, called_on}

-- A comparison so far: the run, how many of its words are the nested loop's, the place of the next in the output of the last
-- call, and whether none differs.
pub record Beside : Type 0 where
  pub course : Course
  pub words : ℕ
  pub at : ℕ
  pub same : Bool

abbrev pub beside : Compared → (store output : List ℕ) → Beside
beside c store output = record { course = course c.run store output; words = c.words; at = c.at; same = c.same }

-- A step for each of n indices from i on, up to one after which a word differs.
unfoldable pub along : (ℕ → Beside → Beside) → (n i : ℕ) → Beside → Beside
along step zero i b = b
along step (suc n) i b = let next = step i b in cond next.same (along step n (i + 1) next) next

-- The nested loop's words in iteration [z][y][x].
unfoldable pub loop_words : Loops → Kernel → (window field : List ℕ) (z y x : ℕ) → List ℕ
loop_words l k window field z y x =
    fired k (references_in window) l.centre (gathered l window field z y x 0 32 (replicate 32 0))

-- How many references of iteration [z][y][x] read a cell, where `inside` is 1 at each; and whether it is an iteration, where
-- `inside` is empty if all are.
unfoldable pub cells_read : Loops → (window inside : List ℕ) (z y x : ℕ) → ℕ
cells_read l window inside z y x =
    agreed (gathered l window inside z y x 0 32 (replicate 32 0)) (replicate 32 1) (references_in window) 0 32

unfoldable pub is_iteration : Loops → (window inside : List ℕ) (z y x : ℕ) → Bool
is_iteration l window inside z y x =
    let read = cells_read l window inside z y x in
    cond (length inside == 0) true (read == references_in window)

module _ (l : Loops) (k : Kernel) (c : Chain) (rows : List ℕ) (pieces : Bool) (size : ℕ)
    (window cells field inside : List ℕ) where
  -- The words of an iteration, of which a firing writes `size`: behind those that were compared, by further calls where the
  -- last one wrote no more.
  unfoldable pub iteration : (z y x : ℕ) → Beside → Beside
  iteration z y x b =
      let all = nat_eq b.at b.course.run.words in
      let next = cond all (called_on 100000 c rows pieces size cells b.course) b.course in
      let at = cond all 0 b.at in
      let words = agreed (loop_words l k window field z y x) next.output size at next.run.words in
      let same = nat_eq words size in
      record { course = next; words = (b.words + words) % 2 ^ 64; at = cond same ((at + size) % 2 ^ 64) at; same = same }

  unfoldable pub place : (z y x : ℕ) → Beside → Beside
  place z y x b = let next = iteration z y x b in cond (is_iteration l window inside z y x) next b

  unfoldable pub line : (z y : ℕ) → Beside → Beside
  line z y = along (place z y) (l.x_end - l.x_first) l.x_first

  unfoldable pub plane : (z : ℕ) → Beside → Beside
  plane z = along (line z) (l.y_end - l.y_first) l.y_first

  unfoldable pub all_planes : Beside → Beside
  all_planes = along plane (l.z_end - l.z_first) l.z_first

-- All iterations of the nested loop beside a run's words: the same where none differs and no word of the last call is left.
unfoldable pub compared : Loops → Kernel → Chain → (rows : List ℕ) → Bool → (window cells field inside store output : List ℕ)
    → Beside
compared l k c rows pieces window cells field inside store output =
    let start : Beside = record { course = course begun store output; words = 0; at = 0; same = true } in
    let end = all_planes l k c rows pieces (width k (references_in window)) window cells field inside start in
    record {
      course = end.course;
      words = end.words;
      at = end.at;
      same = end.same && (end.at == end.course.run.words);
    }
