-- A line read in fixed memory, as its characters arrive, is judged and read as the whole line is: no verdict hangs on a length past the bytes that are counted.
use Prim.Native.Nat.{ℕ, ◌+◌, ◌*◌, ◌≤◌, ◌<◌}
use mathlib.Core.Bool.{Bool, true, false, ◌&&◌}
use mathlib.Core.List.{List, ◌∷◌}
use mathlib.Core.Path.{◌≡◌, refl, sym, ◌∙◌}
use native.Mathlib.Omega.{arith}
use lib.Dec.{eqb, ltb}
use borrow.Author.Tests.{eq-eqb, ne_eqb, le-ltb}
use Rattle.model.specs.declared.Reading.{Reading}
use Rattle.model.specs.declared.Refusal.{Refusal}
use Rattle.model.specs.declared.Refusal.TheVariants as refusal
use Rattle.std.specs.Prelude.{Ok, Err}
use Rattle.model.specs.Values.{dims_of}
use Rattle.model.specs.Answers.{Verdict, Check, check, first_of, by_verdict}
use Rattle.model.specs.Judging.{bad_dims, bad_row_count}
use Rattle.model_sheet.specs.Frames.{counted, Seen, seen_of, empty_frame, feeds, shown}
use Rattle.model_sheet.specs.Numbers.{byte_at, half_at}
use Rattle.model_sheet.specs.Reading.{bad_kernel, bad_form, malformed, bad_length, line_checks, line_verdict}
use Rattle.model_sheet.specs.Reading.{taken, with_grid, with_rows, with_offset, with_name, with_box, with_capacity, with_order, with_kernel, step_of, start, cell_verdict}
use Rattle.model_sheet.proofs.NameLaws.{few_references}
use Rattle.sheet_laws.proofs.Cases.{by_bool, by_eq, by_lt, of_kind}
use Rattle.sheet_laws.proofs.FrameLaws.{capped, capped_few, capped_many, seen_alike}
use Rattle.sheet_laws.proofs.AcceptedLines.{Admitted, admitted, dims_in_order, rows_in_order, taken_grid, taken_rows, taken_offset, taken_name, taken_box, taken_capacity, taken_order, taken_kernel}
use Rattle.sheet_laws.proofs.AcceptedLines.Admitted.{grid, skewed_grid, offset, box, capacity, order, kernel, name}

-- What the lengths of lines hang on is small.
pub record Bounded (r : Reading) : Type 0 where
  pub dims : dims_of r.chain.grid ≤ 4
  pub count : r.chain.window.count ≤ 32

pub start_bounded : Bounded start
unfolding dims_of
start_bounded = record { dims = omega arith; count = omega arith }

-- A comparison with a number below those that are counted does not see the cap.
cap_eqb : (n m : ℕ) → m < counted → eqb (capped n) m ≡ eqb n m
cap_eqb n m h =
    by_lt n counted
    (λ l. rw (capped_few _ l))
    (λ l. let p : n ≡ m → ⊥ = λ e. omega arith in
    let q : counted ≡ m → ⊥ = λ e. omega arith in
    rw (capped_many _ l, ne_eqb _ _ p, ne_eqb _ _ q))

cap_ltb : (n m : ℕ) → m < counted → ltb (capped n) m ≡ ltb n m
cap_ltb n m h =
    by_lt n counted
    (λ l. rw (capped_few _ l))
    (λ l. let p : m ≤ n = omega arith in
    let q : m ≤ counted = omega arith in
    rw (capped_many _ l, le-ltb _ _ p, le-ltb _ _ q))

cap_kernel : (n second : ℕ) → bad_kernel (capped n) second ≡ bad_kernel n second
unfolding bad_kernel
cap_kernel n second = rw (cap_eqb n 2 (omega arith), cap_eqb n 6 (omega arith), cap_eqb n 10 (omega arith))

cap_malformed : (sound : Bool) (n kind second : ℕ) → malformed sound (capped n) kind second ≡ malformed sound n kind second
unfolding malformed bad_form
cap_malformed sound n kind second = rw (cap_kernel n second, cap_eqb n 0 (omega arith), cap_eqb n 2 (omega arith), cap_eqb n 5 (omega arith), cap_ltb n 2 (omega arith), cap_ltb n 3 (omega arith))

cap_length : (n kind second row_count dims count : ℕ) → dims ≤ 4 → count ≤ 32 → (eqb kind 1 && bad_dims second) ≡ false → (eqb kind 9 && bad_row_count row_count) ≡ false
    → bad_length (capped n) kind second row_count dims count ≡ bad_length n kind second row_count dims count
unfolding bad_length
cap_length n kind second row_count dims count h m b c =
    by_eq kind 1
    (λ e. rw (eq-eqb _ _ e, cap_eqb n (2 + 4 * second) (omega (arith, (dims_in_order second (of_kind kind 1 _ b e)).1))))
    (λ e. by_eq kind 9
    (λ f. rw (ne_eqb _ _ e, eq-eqb _ _ f, cap_eqb n (3 + 4 * row_count) (omega (arith, (rows_in_order row_count (of_kind kind 9 _ c f)).1))))
    (λ f. rw (ne_eqb _ _ e, ne_eqb _ _ f, cap_eqb n (1 + 2 * dims) (omega arith), cap_eqb n (1 + count) (omega arith), cap_eqb n (1 + 8 * dims) (omega arith))))

behind_third : (a b : Check) (m : Refusal) (xs ys : List Check) → first_of (a ∷ b ∷ check true m ∷ xs) ≡ first_of (a ∷ b ∷ check true m ∷ ys)
unfolding first_of
behind_third a b m xs ys = refl

behind_fourth : (a b c : Check) (m : Refusal) (xs ys : List Check) → first_of (a ∷ b ∷ c ∷ check true m ∷ xs) ≡ first_of (a ∷ b ∷ c ∷ check true m ∷ ys)
unfolding first_of
behind_fourth a b c m xs ys = refl

cap_verdict : (chain_sheet : Bool) (rows : List ℕ) (r : Reading) (n : ℕ) (x : List ℕ) → Bounded r
    → line_verdict chain_sheet rows r (record { sound = true; len = capped n; first = x }) ≡ line_verdict chain_sheet rows r (record { sound = true; len = n; first = x })
unfolding line_verdict line_checks
cap_verdict chain_sheet rows r n x h =
    let kind = byte_at x 0 in
    let second = byte_at x 1 in
    let row_count = half_at x 1 in
    by_bool (eqb kind 1 && bad_dims second)
    (λ b. rw (cap_malformed true n kind second, b) (behind_third _ _ refusal.BadGrid _ _))
    (λ b. by_bool (eqb kind 9 && bad_row_count row_count)
    (λ c. rw (cap_malformed true n kind second, c) (behind_fourth _ _ _ refusal.BadRows _ _))
    (λ c. rw (cap_malformed true n kind second, cap_length n kind second row_count (dims_of r.chain.grid) r.chain.window.count h.dims h.count b c)))

pub unsound_verdict : (chain_sheet : Bool) (rows : List ℕ) (r : Reading) (l : Seen) → l.sound ≡ false → line_verdict chain_sheet rows r l ≡ Err refusal.Malformed
unfolding line_verdict line_checks malformed first_of
unsound_verdict chain_sheet rows r l h = rw h

pub unsound_cell : (l : Seen) → l.sound ≡ false → cell_verdict l ≡ Err refusal.Malformed
unfolding cell_verdict malformed first_of
unsound_cell l h = rw h

-- A line of a sheet.
pub fixed_memory : (chain_sheet : Bool) (rows : List ℕ) (r : Reading) (ds : List ℕ) → Bounded r
    → step_of chain_sheet rows r (shown (feeds empty_frame ds)) ≡ step_of chain_sheet rows r (seen_of true ds)
unfolding step_of
fixed_memory chain_sheet rows r ds h =
    seen_alike (λ l. step_of chain_sheet rows r l) ds
    (λ s t p q. rw (unsound_verdict chain_sheet rows r s p, unsound_verdict chain_sheet rows r t q))
    (λ n x. rw (cap_verdict chain_sheet rows r n x h))

-- A line where a cell is wanted.
pub fixed_memory_cell : (ds : List ℕ) → cell_verdict (shown (feeds empty_frame ds)) ≡ cell_verdict (seen_of true ds)
unfolding cell_verdict
fixed_memory_cell ds =
    seen_alike cell_verdict ds
    (λ s t p q. unsound_cell s p ∙ sym (unsound_cell t q))
    (λ n x. rw (cap_malformed true n (byte_at x 0) (byte_at x 1)))

-- A line without its LF is turned back by 1.
pub no_line_feed : (chain_sheet : Bool) (rows : List ℕ) (r : Reading) (ds : List ℕ)
    → step_of chain_sheet rows r (seen_of false ds) ≡ record { verdict = Err refusal.Malformed; reading = r }
unfolding step_of
no_line_feed chain_sheet rows r ds = rw (unsound_verdict chain_sheet rows r (seen_of false ds) refl)

-- What was read stays small.
pub keeps_bounded : (chain_sheet : Bool) (rows : List ℕ) (r : Reading) (l : Seen) → Bounded r → Bounded (step_of chain_sheet rows r l).reading
unfolding step_of dims_of with_grid with_rows with_offset with_name with_box with_capacity with_order with_kernel
keeps_bounded chain_sheet rows r l h = go (line_verdict chain_sheet rows r l) refl
  where
    by : Admitted chain_sheet rows r l → Bounded (taken r l.first)
    by (grid e last some few len sizes) = rw (taken_grid _ _ e) (record { dims = few; count = h.count })
    by (skewed_grid e last some few len cells) = rw (taken_rows _ _ e) (record { dims = omega arith; count = h.count })
    by (offset e last len count) = rw (taken_offset _ _ e) (record { dims = h.dims; count = omega arith })
    by (box e last len) = rw (taken_box _ _ e) (record { dims = h.dims; count = h.count })
    by (capacity e last chain given len) = rw (taken_capacity _ _ e) (record { dims = h.dims; count = h.count })
    by (order e last chain given len) = rw (taken_order _ _ e) (record { dims = h.dims; count = h.count })
    by (kernel e last given form) = rw (taken_kernel _ _ e) (record { dims = h.dims; count = h.count })
    by (name e last request len ok) = rw (taken_name _ _ e) (record { dims = h.dims; count = few_references (byte_at l.first 1) })

    go : (v : Verdict) → line_verdict chain_sheet rows r l ≡ v → Bounded (by_verdict v (taken r l.first) (λ x. r))
    go (Ok _) e = by (admitted chain_sheet rows r l e).1
    go (Err x) e = h
