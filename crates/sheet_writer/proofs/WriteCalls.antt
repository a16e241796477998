-- The ways of a call.
use Prim.Native.Nat.{ℕ, ◌+◌, ◌≤◌, ◌<◌}
use mathlib.Core.Bool.{Bool, true, false, cond, ◌&&◌}
use mathlib.Core.List.{List, [], ◌∷◌, ◌++◌}
use mathlib.Core.Path.{◌≡◌, ap, ◌∙◌}
use native.Mathlib.Omega.{arith}
use lib.Dec.{ltb}
use lib.ListN.{length, drop}
use lib.Seq.{sets, sets-eq}
use borrow.Author.Tests.{lt-ltb, le-ltb}
use Rattle.model.specs.declared.Chain.{Chain}
use Rattle.model.specs.declared.Refusal.{Refusal}
use Rattle.model.specs.declared.Refusal.TheVariants as refusal
use Rattle.std.specs.Prelude.{Ok, Err}
use Rattle.model.specs.Values.{rows_of, dims_of}
use Rattle.model.specs.Answers.{Verdict, check, first_of}
use Rattle.model.specs.Judging.{bad_dims, bad_rows, bad_count}
use Rattle.model_sheet.specs.Writing.{Written, sheet_of}
use Rattle.sheet_writer.specs.Laying.{written, lay_checks, lay_of}

abbrev refused : Refusal → List ℕ → Written
refused r out = written (Err r) out

module _ (c : Chain) (rows out : List ℕ) where
  abbrev verdict_of : Verdict
  verdict_of = first_of (lay_checks c rows (length out))

  stays : (r : Refusal) → verdict_of ≡ Err r → refused r out ≡ lay_of c rows out
  unfolding lay_of
  stays r e = rw e

  abbrev bad : Bool
  bad = c.grid.skewed && bad_rows (rows_of c.grid.rows rows)

  -- What is looked at behind the rows.
  abbrev behind : Verdict
  behind =
      first_of
      (check (bad_dims (dims_of c.grid)) refusal.BadGrid
      ∷ check (bad_count c.window.count) refusal.BadCount
      ∷ check (ltb (length out) (length (sheet_of c rows))) refusal.ShortOutput
      ∷ [])

  by_rows_lem : {b : Bool} → bad ≡ b → verdict_of ≡ cond b (Err refusal.BadRows) behind
  unfolding lay_checks first_of
  by_rows_lem e = ap (λ (b : Bool). cond b (Err refusal.BadRows) behind) e

  pub rows_turned : bad ≡ true → refused refusal.BadRows out ≡ lay_of c rows out
  rows_turned h = stays refusal.BadRows (by_rows_lem h)

  module _ (fine : bad ≡ false) where
    pub dims_turned : bad_dims (dims_of c.grid) ≡ true → refused refusal.BadGrid out ≡ lay_of c rows out
    unfolding first_of
    dims_turned h = stays refusal.BadGrid (by_rows_lem fine ∙ rw h)

    module _ (dims : bad_dims (dims_of c.grid) ≡ false) where
      pub count_turned : bad_count c.window.count ≡ true → refused refusal.BadCount out ≡ lay_of c rows out
      unfolding first_of
      count_turned h = stays refusal.BadCount (by_rows_lem fine ∙ rw (dims, h))

      module _ (count : bad_count c.window.count ≡ false) where
        pub no_room : length out < length (sheet_of c rows) → refused refusal.ShortOutput out ≡ lay_of c rows out
        unfolding first_of
        no_room h = stays refusal.ShortOutput (by_rows_lem fine ∙ rw (dims, count, lt-ltb _ _ h))

        pub laid : (bytes : ℕ) (end : List ℕ) → length (sheet_of c rows) ≤ length out → bytes ≡ length (sheet_of c rows) → end ≡ sets out 0 (sheet_of c rows)
            → written (Ok bytes) end ≡ lay_of c rows out
        unfolding lay_of first_of
        laid bytes end h e q =
            let z : 0 + length (sheet_of c rows) ≡ length (sheet_of c rows) = omega arith in
            let v : verdict_of ≡ Ok tt = by_rows_lem fine ∙ rw (dims, count, le-ltb _ _ h) in
            rw (v, e, q)
            (ap (λ t. written (Ok (length (sheet_of c rows))) t)
            (sets-eq (sheet_of c rows) out 0 (omega arith) ∙ ap (λ n. sheet_of c rows ++ drop n out) z))
