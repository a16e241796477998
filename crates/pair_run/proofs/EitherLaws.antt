-- The rounds of a run call of a pair, whether a number turns it back or not.
use Prim.Native.Nat.{ℕ, ◌+◌, ◌-◌, ◌*◌, ◌≤◌, ◌<◌, min}
use mathlib.Core.Bool.{true, false, false≢true}
use mathlib.Core.List.{List}
use mathlib.Core.Logic.{◌⊎◌, inl, inr, ⊎_elim}
use mathlib.Core.Path.{◌≡◌, refl, sym, ◌∙◌, ap}
use native.Mathlib.Nat.{mul-le-mul_right}
use native.Mathlib.Omega.{arith}
use lib.ListN.{length}
use Rattle.model.specs.Answers.{Verdict, Answer, answer_counts}
use Rattle.model.specs.Values.{trimmed}
use Rattle.model_run.specs.Running.{judge_run}
use Rattle.std.specs.Prelude.{Ok, Err}
use Rattle.model.specs.declared.Chain.{Chain}
use Rattle.model.specs.declared.Counts.{Counts}
use Rattle.model.specs.declared.Ran.{Ran}
use Rattle.model.specs.declared.State.{State}
use Rattle.pair_run.specs.declared.ports.Port.{Port}
use Rattle.pair_run.specs.Ports.{RoomBoth, GivesBoth}
use Rattle.pair_run.specs.Rounds.{is_full, with_counts, Prefix, Begin, Leaves}
use Rattle.pair_run.proofs.TurningLaws.{Turning, turning_start, turning_next, clocks_within, room_both, falls, ends_so, out_kept, other_kept, batch_long'}
use Rattle.pair_run.proofs.BackLaws.{Back, back_answer, back_store, none_did, back_batch, back_room, back_out, back_other, back_ends}

module _ (raw : Chain) (rows : List ℕ) (n most block : ℕ) (g h : Port) (store₀ cells out₀ other₀ : List ℕ) (allowance : ℕ) (batch₀ : List ℕ) (s₀ : State)
    (store out other batch : List ℕ) (s : State) (taken clocks fired : ℕ) where
  abbrev pub Rounds : Type 0
  Rounds = Turning raw rows n most block g h store₀ cells out₀ other₀ allowance batch₀ s₀ store out other batch s taken clocks fired
      ⊎ Back raw rows n most block g h store₀ cells out₀ other₀ allowance batch₀ s₀ store out other batch s taken clocks fired

pub rounds_start : {raw : Chain} {rows : List ℕ} {n most block : ℕ} {g h : Port} {store cells out other : List ℕ} {allowance : ℕ} {batch : List ℕ} {s : State}
    → Begin raw rows n most block g h (length out) (length other) (length batch) allowance
    → Rounds raw rows n most block g h store cells out other allowance batch s store out other batch s 0 0 0
rounds_start {raw = raw} {rows = rows} {n = n} {most = most} {block = block} {g = g} {h = h} {store = store} {cells = cells} {out = out} {other = other} {allowance = allowance} {batch = batch} {s = s} b =
    go (judge_run (trimmed raw rows) s store) refl
  where
    go : (v : Verdict) → judge_run (trimmed raw rows) s store ≡ v → Rounds raw rows n most block g h store cells out other allowance batch s store out other batch s 0 0 0
    go (Ok _) e = inl (turning_start b e)
    go (Err x) e = inr (record {
      begin = b;
      why = x;
      turned = e;
      state_is = refl;
      store_is = refl;
      out_is = refl;
      other_is = refl;
      none_taken_lem = refl;
      none_made = refl;
      none_fired = refl;
      batch_long = refl;
    })

module _ {raw : Chain} {rows : List ℕ} {n most block : ℕ} {g h : Port} {store₀ cells out₀ other₀ : List ℕ} {allowance : ℕ} {batch₀ : List ℕ} {s₀ : State}
    {store out other batch : List ℕ} {s : State} {taken clocks fired : ℕ} (R : Rounds raw rows n most block g h store₀ cells out₀ other₀ allowance batch₀ s₀ store out other batch s taken clocks fired) where
  pub begins : Begin raw rows n most block g h (length out₀) (length other₀) (length batch₀) allowance
  begins = ⊎_elim (λ I. I.begin) (λ B. B.begin) R

  pub fired_most : fired ≤ most
  fired_most = ⊎_elim (λ I. I.gone.few) (λ B. omega (arith, B.none_fired)) R

  pub taken_there : taken ≤ length cells
  taken_there = ⊎_elim (λ I. I.taken_there) (λ B. omega (arith, B.none_taken_lem)) R

  pub taken_few : taken ≤ clocks
  taken_few = ⊎_elim (λ I. I.taken_few) (λ B. omega (arith, B.none_taken_lem)) R

  pub fired_few : fired ≤ clocks
  fired_few = ⊎_elim (λ I. I.fired_few) (λ B. omega (arith, B.none_fired)) R

  pub clocks_few : clocks ≤ allowance
  clocks_few = ⊎_elim (λ I. I.clocks_few) (λ B. omega (arith, B.none_made)) R

  batch_same : length batch ≡ length batch₀
  batch_same = ⊎_elim (λ I. I.batch_long) (λ B. B.batch_long) R

  module _ {few : ℕ} (few-is : few ≡ min block (most - fired)) where
    pub rows_fit : few * n ≤ length batch
    rows_fit = let le : few ≤ block = omega arith in omega (arith, mul-le-mul_right n le, begins.there, batch_same)

    pub places_few : few * n < 4294967296
    places_few = omega (arith, rows_fit, begins.batch_short, batch_same)

    module _ {r : Ran} {store' batch' : List ℕ} (P : Prefix r store' batch' (few * n) raw rows s store cells taken batch (allowance - clocks)) where
      abbrev did : Counts
      did = answer_counts r.answer

      pub within : did.clocks ≤ allowance - clocks
      within = ⊎_elim (λ I. clocks_within I few-is P) (λ B. omega (arith, ap (λ (x : Counts). x.clocks) (none_did B few rows_fit P))) R

      pub room : {firings : ℕ} → firings ≡ did.firings → RoomBoth g h n firings fired (length batch') (length out) (length other)
      room fe = ⊎_elim (λ I. room_both I few-is P fe) (λ B. back_room B few rows_fit P fe) R

      module _ {firings : ℕ} {out' other' : List ℕ} (fe : firings ≡ did.firings) (G : GivesBoth g h n firings fired batch' out out' other other') where
        pub next_round : is_full r.answer ≡ true → {a b : ℕ} → a ≡ did.cells → b ≡ did.clocks
            → Rounds raw rows n most block g h store₀ cells out₀ other₀ allowance batch₀ s₀ store' out' other' batch' r.state (taken + a) (clocks + b) (fired + firings)
        next_round f ae be = ⊎_elim (λ I. inl (turning_next I few-is P fe G ae be)) (λ B. absurd (false≢true (sym (ap is_full (back_answer B few rows_fit P)) ∙ f))) R

        pub fewer : is_full r.answer ≡ true → fired + firings < most → most - (fired + firings) < most - fired
        fewer f l = ⊎_elim (λ I. falls I few-is P fe G f l) (λ B. absurd (false≢true (sym (ap is_full (back_answer B few rows_fit P)) ∙ f))) R

        pub cells_fit : {a b : ℕ} → a ≡ did.cells → b ≡ did.clocks → taken + a < 4294967296
        cells_fit ae be = ⊎_elim (λ I. let t = turning_next I few-is P fe G ae be in omega (arith, t.taken_few, t.clocks_few, begins.allowance_short))
            (λ B. omega (arith, B.none_taken_lem, ae, ap (λ (x : Counts). x.cells) (none_did B few rows_fit P))) R

        pub firings_fit : {a b : ℕ} → a ≡ did.cells → b ≡ did.clocks → fired + firings < 4294967296
        firings_fit ae be = ⊎_elim (λ I. let t = turning_next I few-is P fe G ae be in omega (arith, t.fired_few, t.clocks_few, begins.allowance_short))
            (λ B. omega (arith, B.none_fired, fe, ap (λ (x : Counts). x.firings) (none_did B few rows_fit P))) R

        pub store_kept : {a b : ℕ} → a ≡ did.cells → b ≡ did.clocks → length store' ≡ length store₀
        store_kept ae be = ⊎_elim (λ I. (turning_next I few-is P fe G ae be).store_long) (λ B. ap length (back_store B few rows_fit P)) R

        pub first_kept : length out' ≡ length out₀
        first_kept = ⊎_elim (λ I. out_kept I few-is P fe G) (λ B. ap length (back_out B few rows_fit P fe G)) R

        pub second_kept : length other' ≡ length other₀
        second_kept = ⊎_elim (λ I. other_kept I few-is P fe G) (λ B. ap length (back_other B few rows_fit P fe G)) R

        pub batch_kept : length batch' ≡ length batch₀
        batch_kept = ⊎_elim (λ I. batch_long' I few-is P) (λ B. back_batch B few rows_fit P) R

        pub ends : {x : Answer} {a b : ℕ} → x ≡ with_counts r.answer (record { cells = taken + a; firings = fired + firings; clocks = clocks + b }) → a ≡ did.cells → b ≡ did.clocks
            → ((is_full r.answer ≡ true) × (most ≤ fired + firings)) ⊎ (is_full r.answer ≡ false)
            → Leaves (record { answer = x; state = r.state }) raw rows most g h s₀ store₀ store' cells out₀ out' other₀ other' allowance
        ends {a = a} {b = b} xe ae be how = ⊎_elim (λ I. ends_so I few-is P fe G xe ae be how) (λ B. back_ends B few rows_fit P fe G (record { cells = taken + a; firings = fired + firings; clocks = clocks + b }) xe) R
