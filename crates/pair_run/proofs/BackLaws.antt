-- A run call of a pair that 10 or 11 turns back: its first round is refused, and everything stays.
use Prim.Native.Nat.{ℕ, ◌-◌, ◌*◌, ◌≤◌}
use mathlib.Core.List.{List, []}
use mathlib.Core.Path.{◌≡◌, refl, sym, ◌∙◌, ap}
use native.Mathlib.Nat.{zero-mul}
use native.Mathlib.Omega.{arith}
use lib.ListN.{length, take, drop, length-append, length-drop}
use lib.Seq.{sets}
use Rattle.model.specs.Answers.{Answer, no_counts, answer_counts}
use Rattle.model.specs.Values.{trimmed}
use Rattle.model_run.specs.Running.{judge_run, Run, run_trimmed, run_of}
use Rattle.std.specs.Prelude.{Err}
use Rattle.model.specs.declared.Chain.{Chain}
use Rattle.model.specs.declared.Counts.{Counts}
use Rattle.model.specs.declared.Ran.{Ran}
use Rattle.model.specs.declared.Refusal.{Refusal}
use Rattle.model.specs.declared.State.{State}
use Rattle.runner.specs.Runs.{ran_of}
use Rattle.model_run.specs.PairRuns.{by_rows}
use Rattle.pair_run.specs.declared.ports.Port.{Port}
use Rattle.pair_run.specs.Ports.{given_by, Sound, RoomBy, RoomBoth, GivesBoth}
use Rattle.pair_run.specs.Rounds.{with_counts, Prefix, Begin, Leaves}
use Rattle.pair_run.proofs.TurningLaws.{not_both, answer_by}

pub record Back (raw : Chain) (rows : List ℕ) (n most block : ℕ) (g h : Port) (store₀ cells out₀ other₀ : List ℕ) (allowance : ℕ) (batch₀ : List ℕ) (s₀ : State)
    (store out other batch : List ℕ) (s : State) (taken clocks fired : ℕ) : Type 0 where
  pub begin : Begin raw rows n most block g h (length out₀) (length other₀) (length batch₀) allowance
  pub why : Refusal
  pub turned : judge_run (trimmed raw rows) s₀ store₀ ≡ Err why
  pub state_is : s ≡ s₀
  pub store_is : store ≡ store₀
  pub out_is : out ≡ out₀
  pub other_is : other ≡ other₀
  pub none_taken_lem : taken ≡ 0
  pub none_made : clocks ≡ 0
  pub none_fired : fired ≡ 0
  pub batch_long : length batch ≡ length batch₀

module _ {raw : Chain} {rows : List ℕ} {n most block : ℕ} {g h : Port} {store₀ cells out₀ other₀ : List ℕ} {allowance : ℕ} {batch₀ : List ℕ} {s₀ : State}
    {store out other batch : List ℕ} {s : State} {taken clocks fired : ℕ} (B : Back raw rows n most block g h store₀ cells out₀ other₀ allowance batch₀ s₀ store out other batch s taken clocks fired)
    (few : ℕ) (there : few * n ≤ length batch) {r : Ran} {store' batch' : List ℕ} (P : Prefix r store' batch' (few * n) raw rows s store cells taken batch (allowance - clocks)) where
  left_as : ran_of r store' P.part ≡ record { answer = Err B.why; state = s₀; store = store₀; output = take (few * n) batch }
  unfolding run_of run_trimmed
  left_as = P.is ∙ rw (B.state_is, B.store_is, B.turned) refl

  pub back_answer : r.answer ≡ Err B.why
  back_answer = ap (λ (x : Run). x.answer) left_as

  back_state : r.state ≡ s₀
  back_state = ap (λ (x : Run). x.state) left_as

  pub back_store : store' ≡ store₀
  back_store = ap (λ (x : Run). x.store) left_as

  pub none_did : answer_counts r.answer ≡ no_counts
  unfolding answer_counts
  none_did = ap answer_counts back_answer

  pub back_batch : length batch' ≡ length batch₀
  back_batch = ap length P.batch_is ∙ length-append P.part (drop (few * n) batch) ∙ omega (arith, P.long, length-drop (few * n) batch, there, B.batch_long)

  module _ {firings : ℕ} (fe : firings ≡ (answer_counts r.answer).firings) where
    none : firings ≡ 0
    none = fe ∙ ap (λ (x : Counts). x.firings) none_did

    back_room_by : (c : Port) (total : ℕ) → Sound c → RoomBy c n firings (fired * c.width) (length batch') total
    back_room_by c total sound = rw (none, B.none_fired) (record {
      sound = sound;
      filled = B.begin.filled;
      there = omega (arith, zero-mul n);
      fits = omega (arith, zero-mul c.width);
    })

    pub back_room : RoomBoth g h n firings fired (length batch') (length out) (length other)
    back_room = record {
      first = back_room_by g (length out) B.begin.first_sound;
      second = back_room_by h (length other) B.begin.second_sound;
    }

    module _ {out' other' : List ℕ} (G : GivesBoth g h n firings fired batch' out out' other other') where
      given_none : (c : Port) → given_by c n firings batch' ≡ []
      unfolding given_by by_rows
      given_none c = rw none refl

      pub back_out : out' ≡ out₀
      back_out = G.first ∙ ap (sets out (fired * g.width)) (given_none g) ∙ B.out_is

      pub back_other : other' ≡ other₀
      back_other = G.second ∙ ap (sets other (fired * h.width)) (given_none h) ∙ B.other_is

      pub back_ends : {x : Answer} (c : Counts) → x ≡ with_counts r.answer c → Leaves (record { answer = x; state = r.state }) raw rows most g h s₀ store₀ store' cells out₀ out' other₀ other' allowance
      back_ends c xe = record {
        ended = λ e. absurd (not_both e B.turned);
        refused = λ y e. (xe ∙ ap (λ (z : Answer). with_counts z c) back_answer ∙ (unfold answer_by in ap answer_by (sym B.turned ∙ e)), back_state, back_store, back_out, back_other);
      }
