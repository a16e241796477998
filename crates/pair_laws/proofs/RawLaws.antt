-- The raw chain's call beside the call of a kernel of the pair by itself.
use Prim.Native.Nat.{ℕ, suc, ◌+◌, ◌*◌, ◌/◌, ◌≤◌, ◌<◌}
use mathlib.Core.List.{List}
use mathlib.Core.Path.{◌≡◌, refl, sym, ◌∙◌, ap}
use native.Mathlib.Nat.{add-zero, suc-mul, le-div_iff_mul-le, mul-le-mul_right}
use native.Mathlib.Decide.{dec_le, dec_lt}
use native.Mathlib.Omega.{arith}
use lib.Dec.{ltb}
use lib.ListN.{length, get_or, replicate, length-replicate}
use lib.Seq.{sets}
use borrow.Author.Tests.{lt-ltb, le-ltb}
use Rattle.model.specs.Lists.{up_to}
use Rattle.model.specs.Values.{Trimmed}
use Rattle.model.specs.Iterations.{cells_of, iterations_of, reads_of, position_of, iteration_of, course_of}
use Rattle.model_run.specs.Kernels.{words_at, written, width}
use Rattle.model_run.specs.Running.{layout, counters_of, Ended, begun, events, writes_of, written_by, width_of, ended}
use Rattle.model.specs.declared.State.{State}
use Rattle.grid_laws.proofs.ListLaws.{length_tabulate, map_tabulate, tabulate_back}
use Rattle.run_laws.proofs.Calls.{counted}
use Rattle.model.specs.Pairs.{Own, raw_of}
use Rattle.model_run.specs.PairRuns.{by_rows, onto, own_call, own_width, own_words, room_for}
use Rattle.pair_laws.proofs.BesideLaws.{alike_room, follows}
use Rattle.pair_laws.proofs.RowsLaws.{WrittenOf, written_fire, written_none}

-- ---- the raw chain

pub raw_layout : (t : Trimmed) → layout (raw_of t) ≡ layout t
unfolding layout raw_of cells_of iterations_of reads_of position_of iteration_of course_of
raw_layout t = refl

pub raw_written : (t : Trimmed) (ws : List ℕ) → length ws ≡ t.count → written_by (raw_of t) ws ≡ ws
unfolding written_by raw_of written writes_of words_at up_to
raw_written t ws e = map_tabulate (λ k. get_or ws k 0) t.count (λ k. k) ∙ tabulate_back 0 ws t.count (λ k. get_or ws k 0) e (λ k h. refl)

pub raw_width : (t : Trimmed) → width_of (raw_of t) ≡ t.count
unfolding width_of raw_of width
raw_width t = refl

pub raw_begun : (t : Trimmed) (s : State) (store o o' : List ℕ) → onto (begun (raw_of t) s store o) o' ≡ begun t s store o'
unfolding begun raw_of
raw_begun t s store o o' = refl

pub raw_counters : (t : Trimmed) (s : State) (store o : List ℕ) → length (begun (raw_of t) s store o).counters.passed ≡ t.count
unfolding begun raw_of counters_of
raw_counters t s store o = length_tabulate t.count _

-- ---- places for firings

pub fits_one : (w n f : ℕ) → 0 < w → suc f ≤ n / w → f * w + w ≤ n
fits_one w n f some h = omega (arith, suc-mul f w, (le-div_iff_mul-le some).0 h)

pub one_fits : (w n f : ℕ) → 0 < w → f * w + w ≤ n → suc f ≤ n / w
one_fits w n f some h = (le-div_iff_mul-le some).1 (omega (arith, suc-mul f w))

-- R rows of n words.
pub row_fits : (n R f : ℕ) → 0 < n → f * n + n ≤ R * n → suc f ≤ R
row_fits n R f some h = go (dec_le (suc f) R)
  where
    go : Dec (suc f ≤ R) → suc f ≤ R
    go (yes l) = l
    go (no l) = let k : R ≤ f = omega arith in omega (arith, mul-le-mul_right n k)

pub fits_row : (n R f : ℕ) → suc f ≤ R → f * n + n ≤ R * n
fits_row n R f h = omega (arith, suc-mul f n, mul-le-mul_right n h)

same_places : (n R w len f : ℕ) → 0 < n → 0 < w → R ≡ len / w → ltb (R * n) (f * n + n) ≡ ltb len (f * w + w)
same_places n R w len f some wide e = go (dec_le (suc f) R)
  where
    go : Dec (suc f ≤ R) → ltb (R * n) (f * n + n) ≡ ltb len (f * w + w)
    go (yes l) = le-ltb _ _ (fits_row n R f l) ∙ sym (le-ltb _ _ (fits_one w len f wide (omega arith)))
    go (no l) = lt-ltb _ _ (rows (dec_lt (R * n) (f * n + n))) ∙ sym (lt-ltb _ _ (words (dec_lt len (f * w + w))))
      where
        rows : Dec (R * n < f * n + n) → R * n < f * n + n
        rows (yes h) = h
        rows (no h) = absurd (l (row_fits n R f some (omega arith)))

        words : Dec (len < f * w + w) → len < f * w + w
        words (yes h) = h
        words (no h) = absurd (l (let k = one_fits w len f wide (omega arith) in omega arith))

-- ---- a kernel of the pair by itself

-- A kernel writes as many words as its width, and that is some.
pub record Fits (t : Trimmed) (c : Own) : Type 0 where
  pub wide : 0 < own_width c
  pub long : (ws : List ℕ) → length (own_words t c ws) ≡ own_width c

module _ (t : Trimmed) (some : 0 < t.count) (s : State) (store lent : List ℕ) (allowance : ℕ) (c : Own) (fits : Fits t c) (output : List ℕ) where
  -- The rows of the raw chain, and the kernel's output beside them.
  Beside : ℕ → List ℕ → List ℕ → Type 0
  Beside f o o' = WrittenOf t.count (own_words t c) (own_width c) fits.long output f o o'

  fire : (f : ℕ) (o o' ws : List ℕ) → length ws ≡ t.count → f * width_of (raw_of t) + width_of (raw_of t) ≤ length o → f * own_width c + own_width c ≤ length o' → Beside f o o'
      → Beside (suc f) (sets o (f * width_of (raw_of t)) (written_by (raw_of t) ws)) (sets o' (f * own_width c) (own_words t c ws))
  unfolding Beside
  fire f o o' ws e h h' q = rw (raw_width t, raw_written t ws e) (written_fire t.count (own_words t c) (own_width c) fits.long output f o o' ws e (rw (raw_width t) at h) q)

  start : (o : List ℕ) → Beside 0 o output
  unfolding Beside
  start o = written_none t.count (own_words t c) (own_width c) fits.long output o

  module _ (R : ℕ) where
    abbrev rows : List ℕ
    rows = replicate (R * t.count) 0

    abbrev raw : Ended
    raw = ended (raw_of t) s store lent rows allowance

    -- What the kernel has written of the raw chain's firings.
    abbrev gives : List ℕ
    gives = sets output 0 (by_rows t.count (own_words t c) raw.standing.done.firings raw.standing.output)

    rows_length : length (begun (raw_of t) s store rows).output ≡ R * t.count
    unfolding begun
    rows_length = length-replicate (R * t.count) 0

    -- By itself, allowed as many clocks,
    pub alone : R ≤ room_for c output → (own_call t c s store lent output raw.standing.done.clocks).standing ≡ onto raw.standing gives
    unfolding ended own_call room_for Beside begun
    alone h =
        let L = layout (raw_of t) in
        let w = written_by (raw_of t) in
        let n = width_of (raw_of t) in
        let from = begun (raw_of t) s store rows in
        let a = follows L lent w (own_words t c) n (own_width c) t.count Beside fire allowance from output (raw_counters t s store rows)
        (λ f l. fits_one (own_width c) (length output) f fits.wide (let k = row_fits t.count R f some (rw (raw_width t, rows_length) at l) in omega arith)) (start rows) in
        let made : raw.standing.done.clocks ≡ length (events L w n lent allowance from) = unfold begun in (counted L w n lent allowance from).clocks ∙ add-zero _ in
        rw (made, ← raw_layout t, ← raw_begun t s store rows output) (a.same ∙ ap (λ (o : List ℕ). onto raw.standing o) a.related)

    -- and, where the rows are as many as the output has places for, allowed the same clocks.
    pub decides : R ≡ room_for c output → ((own_call t c s store lent output allowance).ending ≡ raw.ending) × ((own_call t c s store lent output allowance).standing ≡ onto raw.standing gives)
    unfolding ended own_call room_for Beside begun
    decides h =
        let L = layout (raw_of t) in
        let w = written_by (raw_of t) in
        let n = width_of (raw_of t) in
        let from = begun (raw_of t) s store rows in
        let a = alike_room L lent w (own_words t c) n (own_width c) t.count Beside fire allowance from output (raw_counters t s store rows)
        (λ f. rw (raw_width t, rows_length) (same_places t.count R (own_width c) (length output) f some fits.wide h)) (start rows) in (
          rw (← raw_layout t, ← raw_begun t s store rows output) a.ending,
          rw (← raw_layout t, ← raw_begun t s store rows output) (a.along.same ∙ ap (λ (o : List ℕ). onto raw.standing o) a.along.related),
        )
