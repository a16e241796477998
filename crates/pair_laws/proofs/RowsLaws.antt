-- What a kernel gives of rows of words, one row a firing.
use Prim.Native.Nat.{ℕ, zero, suc, ◌+◌, ◌-◌, ◌*◌, ◌≤◌}
use mathlib.Core.List.{List, [], ◌∷◌, ◌++◌, append_assoc, append-nil}
use mathlib.Core.Path.{◌≡◌, refl, sym, ◌∙◌, ap, ap₂}
use native.Mathlib.Nat.{zero-add, add-zero, zero-mul, suc-mul}
use native.Mathlib.Omega.{arith}
use lib.ListN.{length, take, drop, set, length-append, length-drop}
use lib.Seq.{sets, drop-drop, take-set-le, drop-set-add, take-append-le, drop-append-le}
use Rattle.run_laws.proofs.Outputs.{take_written}
use Rattle.model_run.specs.PairRuns.{by_rows}

-- ---- words stored one after the other

pub sets_join : (xs ys l : List ℕ) (i : ℕ) → sets (sets l i xs) (i + length xs) ys ≡ sets l i (xs ++ ys)
sets_join [] ys l i = ap (λ (k : ℕ). sets l k ys) (add-zero i)
sets_join (x ∷ xs) ys l i = ap (λ (k : ℕ). sets (sets (set l i x) (suc i) xs) k ys) (omega arith) ∙ sets_join xs ys (set l i x) (suc i)

take_sets_le : (vs l : List ℕ) (n i : ℕ) → n ≤ i → take n (sets l i vs) ≡ take n l
take_sets_le [] l n i h = refl
take_sets_le (v ∷ vs) l n i h = take_sets_le vs (set l i v) n (suc i) (omega arith) ∙ take-set-le n l i v h

drop_sets_add : (vs l : List ℕ) (n i : ℕ) → drop n (sets l (n + i) vs) ≡ sets (drop n l) i vs
drop_sets_add [] l n i = refl
drop_sets_add (v ∷ vs) l n i =
    ap (λ (k : ℕ). drop n (sets (set l (n + i) v) k vs)) (omega arith) ∙ drop_sets_add vs (set l (n + i) v) n (suc i) ∙ ap (λ (d : List ℕ). sets d (suc i) vs) (drop-set-add n l i v)

-- ---- rows

module _ (n : ℕ) (write : List ℕ → List ℕ) where
  pub rows_snoc : (m : ℕ) (l : List ℕ) → by_rows n write (suc m) l ≡ by_rows n write m l ++ write (take n (drop (m * n) l))
  unfolding by_rows
  rows_snoc zero l = append-nil (write (take n l)) ∙ ap (λ (k : ℕ). write (take n (drop k l))) (sym (zero-mul n))
  rows_snoc (suc m) l =
      let e : n + m * n ≡ suc m * n = omega (arith, suc-mul m n) in
      ap (λ (r : List ℕ). write (take n l) ++ r) (rows_snoc m (drop n l) ∙ ap (λ (d : List ℕ). by_rows n write m (drop n l) ++ write (take n d)) (drop-drop (m * n) n l ∙ ap (λ (k : ℕ). drop k l) e))
      ∙ sym (append_assoc (write (take n l)) (by_rows n write m (drop n l)) (write (take n (drop (suc m * n) l))))

  -- Rows behind rows.
  pub rows_join : (m k : ℕ) (l r : List ℕ) → length l ≡ m * n → by_rows n write (m + k) (l ++ r) ≡ by_rows n write m l ++ by_rows n write k r
  unfolding by_rows
  rows_join zero k [] r e = ap (λ (j : ℕ). by_rows n write j r) (zero-add k)
  rows_join zero k (x ∷ l) r e = absurd (omega (arith, zero-mul n))
  rows_join (suc m) k l r e =
      let s : suc m + k ≡ suc (m + k) = omega arith in
      let h : n ≤ length l = omega (arith, suc-mul m n) in
      ap (λ (j : ℕ). by_rows n write j (l ++ r)) s
      ∙ ap₂ (λ (x y : List ℕ). write x ++ y) (take-append-le n l r h)
      (ap (λ (d : List ℕ). by_rows n write (m + k) d) (drop-append-le n l r h) ∙ rows_join m k (drop n l) r (omega (arith, length-drop n l, suc-mul m n)))
      ∙ sym (append_assoc (write (take n l)) (by_rows n write m (drop n l)) (by_rows n write k r))

  pub rows_front : (m : ℕ) (l r : List ℕ) → length l ≡ m * n → by_rows n write m (l ++ r) ≡ by_rows n write m l
  unfolding by_rows
  rows_front m l r e = ap (λ (j : ℕ). by_rows n write j (l ++ r)) (sym (add-zero m)) ∙ rows_join m 0 l r e ∙ append-nil (by_rows n write m l)

  -- What is stored behind them does not alter them.
  rows_before : (m : ℕ) (l ws : List ℕ) (i : ℕ) → m * n ≤ i → by_rows n write m (sets l i ws) ≡ by_rows n write m l
  unfolding by_rows
  rows_before zero l ws i h = refl
  rows_before (suc m) l ws i h =
      let e : i ≡ n + (i - n) = omega (arith, suc-mul m n) in
      ap₂ (λ (x y : List ℕ). write x ++ y) (take_sets_le ws l n i (omega (arith, suc-mul m n)))
      (ap (λ (k : ℕ). by_rows n write m (drop n (sets l k ws))) e ∙ ap (λ (d : List ℕ). by_rows n write m d) (drop_sets_add ws l n (i - n)) ∙ rows_before m (drop n l) ws (i - n) (omega (arith, suc-mul m n)))

  row_there : (m : ℕ) (l ws : List ℕ) → length ws ≡ n → m * n + n ≤ length l → take n (drop (m * n) (sets l (m * n) ws)) ≡ ws
  row_there m l ws e h =
      ap (λ (k : ℕ). take n (drop (m * n) (sets l k ws))) (sym (add-zero (m * n)))
      ∙ ap (λ (d : List ℕ). take n d) (drop_sets_add ws l (m * n) 0)
      ∙ ap (λ (k : ℕ). take k (sets (drop (m * n) l) 0 ws)) (sym e ∙ sym (zero-add (length ws)))
      ∙ take_written (drop (m * n) l) ws 0 (omega (arith, length-drop (m * n) l))

  -- One firing more.
  pub rows_fire : (m : ℕ) (l ws : List ℕ) → length ws ≡ n → m * n + n ≤ length l → by_rows n write (suc m) (sets l (m * n) ws) ≡ by_rows n write m l ++ write ws
  rows_fire m l ws e h =
      rows_snoc m (sets l (m * n) ws) ∙ ap₂ (λ (x y : List ℕ). x ++ write y) (rows_before m l ws (m * n) (omega arith)) (row_there m l ws e h)

  module _ (size : ℕ) (long : (ws : List ℕ) → length (write ws) ≡ size) where
    pub rows_length : (m : ℕ) (l : List ℕ) → length (by_rows n write m l) ≡ m * size
    unfolding by_rows
    rows_length zero l = sym (zero-mul size)
    rows_length (suc m) l = length-append (write (take n l)) (by_rows n write m (drop n l)) ∙ omega (arith, long (take n l), rows_length m (drop n l), suc-mul m size)

    -- The output of a kernel beside the words of the firings.
    abbrev pub WrittenOf : (output : List ℕ) → ℕ → (rows own : List ℕ) → Type 0
    WrittenOf output f rows own = own ≡ sets output 0 (by_rows n write f rows)

    pub written_none : (output rows : List ℕ) → WrittenOf output 0 rows output
    unfolding by_rows
    written_none output rows = refl

    pub written_fire : (output : List ℕ) (f : ℕ) (rows own ws : List ℕ) → length ws ≡ n → f * n + n ≤ length rows → WrittenOf output f rows own
        → WrittenOf output (suc f) (sets rows (f * n) ws) (sets own (f * size) (write ws))
    written_fire output f rows own ws e h w =
        ap (λ (o : List ℕ). sets o (f * size) (write ws)) w
        ∙ ap (λ (k : ℕ). sets (sets output 0 (by_rows n write f rows)) k (write ws)) (sym (rows_length f rows) ∙ sym (zero-add _))
        ∙ sets_join (by_rows n write f rows) (write ws) output 0
        ∙ ap (λ (x : List ℕ). sets output 0 x) (sym (rows_fire f rows ws e h))
