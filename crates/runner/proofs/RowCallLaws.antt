-- A call on rows goes on from row to row.
use Prim.Native.Nat.{ℕ, ◌+◌, ◌-◌, ◌*◌, ◌≤◌, ◌<◌}
use mathlib.Core.List.{List, ◌++◌, append-nil}
use mathlib.Core.Path.{◌≡◌, refl, sym, ◌∙◌, ap}
use native.Mathlib.Nat.{add-zero, zero-mul, add-mul}
use native.Mathlib.Omega.{arith}
use lib.ListN.{length, get_or, take, drop, length-drop, length-append}
use lib.Seq.{drop-length, length-take-le}
use Rattle.model_run.specs.Kernels.{width}
use Rattle.model.specs.Values.{Trimmed}
use Rattle.model.specs.Iterations.{iterations_of}
use Rattle.model_run.specs.Clock.{Layout}
use Rattle.model_run.specs.Running.{Standing, Ending, Done, Spent, Starved, Stalled, Full, Ended, layout, written_by, width_of, call}
use Rattle.model.specs.declared.Kernel.{Kernel}
use Rattle.model.specs.declared.Order.{Order}
use Rattle.flow.specs.Machine.{Invariant}
use Rattle.run_laws.proofs.Layouts.{lawful}
use Rattle.rows.specs.declared.RowCourse.{RowCourse}
use Rattle.row_courses.specs.CourseTables.{lengths_above, LiesIn, RowOf}
use Rattle.row_courses.proofs.TableLaws.{row_of_lies}
use Rattle.loop_laws.specs.Standings.{counting, stand, ended_at}
use Rattle.loop_laws.specs.Stretches.{stretch, resumed}
use Rattle.loop_laws.proofs.CallLaws.{call_done}
use Rattle.loop_laws.proofs.StretchLaws.{all_fired, done_so, goes_on_lem, keeps_on}
use Rattle.run_glide.specs.Glides.{calls}
use Rattle.run_glide.proofs.FireLaws.{part_all}
use Rattle.runner.specs.Stretching.{ending_of, StretchedTo}
use Rattle.runner.specs.ByRows.{RowTables, iterations_above, row_of, AtRow, RowCall, RowsGone}
use Rattle.runner.specs.declared.End.TheVariants as end
use Rattle.runner.specs.declared.Stretched.{Stretched}
use Rattle.runner.proofs.RowTableLaws.{all_rows, few_rows, iterations_few, width_is, counters_small, row_ends, row_inside}

-- What is lent of a list from place o on, and the list where that part comes back.
abbrev pub behind : ℕ → List ℕ → List ℕ
behind o l = take (length l - o) (drop o l)

abbrev pub back : ℕ → List ℕ → (part : List ℕ) → List ℕ
back o l part = take o l ++ (part ++ drop (length l - o) (drop o l))

back_is : (o : ℕ) (l part : List ℕ) → back o l part ≡ take o l ++ part
back_is o l part =
    ap (λ (end : List ℕ). take o l ++ (part ++ end)) (ap (λ (m : ℕ). drop m (drop o l)) (sym (length-drop o l)) ∙ drop-length (drop o l))
    ∙ ap (λ (end : List ℕ). take o l ++ end) (append-nil part)

back_length : (o : ℕ) (l part : List ℕ) → o ≤ length l → length part ≡ length (behind o l) → length (back o l part) ≡ length l
back_length o l part h e =
    ap length (back_is o l part) ∙ length-append (take o l) part
    ∙ omega (arith, length-take-le o l h, ap length (part_all l o), length-drop o l)

-- A stretch that is not done ends the call.
stops : (e : Ending) → (e ≡ Done → ⊥) → (rest ended : Ended) → resumed e rest ended ≡ ended
stops Done n rest ended = absurd (n refl)
stops Spent n rest ended = refl
stops Starved n rest ended = refl
stops Stalled n rest ended = refl
stops Full n rest ended = refl

module _ {t : Trimmed} {kernel : Kernel} {order : Order} {n count cells centre : ℕ} {c : RowCourse} {rows above iterations caps bases tops : List ℕ} {fired : ℕ} {passed₀ store₀ : List ℕ}
    (R : RowCall t kernel order n count cells centre c rows above iterations caps bases tops fired passed₀ store₀) where
  abbrev T : RowTables t kernel order n count cells centre c rows above caps bases tops
  T = R.tables

  abbrev L : Layout
  L = layout t

  abbrev ahead : ℕ → ℕ
  ahead v = iterations_above count rows c v

  entry_is : (v : ℕ) → v ≤ c.height → get_or iterations v 0 ≡ ahead v
  entry_is v h = R.iterations_are.done v (omega arith)

  -- Every firing is made already.
  pub rows_none : (lent out : List ℕ) (allowance : ℕ) → get_or iterations c.height 0 ≤ fired
      → StretchedTo (record { end = end.Done; taken = 0; clocks = 0; firings = 0 }) L (written_by t) (width_of t) n (iterations_of t) fired passed₀ passed₀ store₀ store₀ out out lent allowance
  unfolding layout
  rows_none lent out allowance h = record {
    ends = rw (add-zero fired)
        (sym (call_done L (written_by t) (width_of t) lent allowance (stand fired (take n passed₀) store₀ out 0 0 0) (omega (arith, all_rows T, entry_is c.height (omega arith)))));
    there = R.counted.there;
    rest = refl;
    small = counters_small T R.counted;
    had = omega arith;
    allowed = omega arith;
    taken_fewer = omega arith;
    firings_fewer = omega arith;
    most = omega (arith, R.counted.holds.most);
    room = omega (arith, zero-mul (width_of t));
  }

  -- Some are left: the row of the next.
  pub row_found : {v : ℕ} → fired < get_or iterations c.height 0 → RowOf iterations c.height fired v → LiesIn iterations c.height fired v
  unfolding lengths_above
  row_found {v} h r = row_of_lies iterations c.height fired v (few_rows T) (omega (arith, entry_is 0 (omega arith))) h r

  -- A firing writes `size` words.
  module _ {size : ℕ} (E : size ≡ width kernel n) where
    size_is : size ≡ width_of t
    size_is = E ∙ sym (width_is T)

    module _ {lent out₀ : List ℕ} {allowance v taken made firings : ℕ} {passed store out : List ℕ}
        (G : RowsGone t n count rows c size fired passed₀ store₀ lent out₀ allowance v taken made firings passed store out) where
      -- Behind the last row.
      pub rows_done : c.height ≤ v → StretchedTo (record { end = end.Done; taken = taken; clocks = made; firings = firings }) L (written_by t) (width_of t) n (iterations_of t) fired passed₀ passed store₀ store out₀ out lent allowance
      unfolding layout
      rows_done h = record {
        ends = rw (← size_is) (sym (call_done L (written_by t) size lent (allowance - made) (stand (fired + firings) (take n passed) store out taken made firings) all) ∙ G.goes);
        there = G.counted.there;
        rest = G.rest;
        small = counters_small T G.counted;
        had = G.had;
        allowed = G.allowed;
        taken_fewer = G.taken_fewer;
        firings_fewer = G.firings_fewer;
        most = G.counted.holds.most;
        room = rw (← size_is) (omega (arith, G.room, G.same_out));
      }
        where
          all : iterations_of t ≤ fired + firings
          all = let e : v ≡ c.height = omega (arith, G.most) in omega (arith, all_rows T, rw e at G.from)

      out_so : (out' : List ℕ) → length out' ≡ length (behind (firings * size) out) → length (back (firings * size) out out') ≡ length out₀
      out_so out' lo = back_length (firings * size) out out' G.room lo ∙ G.same_out

      -- In row v.
      module _ (below : v < c.height) {from upto : ℕ} (ef : from ≡ get_or iterations v 0) (eu : upto ≡ get_or iterations (v + 1) 0) where
        from_is : from ≡ ahead v
        from_is = ef ∙ entry_is v (omega arith)

        upto_is : upto ≡ ahead (v + 1)
        upto_is = eu ∙ entry_is (v + 1) (omega arith)

        row_order : from ≤ upto
        row_order = omega (arith, from_is, upto_is, row_ends T below)

        row_begun : from ≤ fired + firings
        row_begun = omega (arith, from_is, G.from)

        abbrev j : ℕ
        j = fired + firings - from

        here : ahead v + j ≡ fired + firings
        here = omega (arith, from_is, row_begun)

        pub at_row : AtRow t n count rows c v (upto - from) j passed store
        at_row = record {
          below = below;
          size_is = omega (arith, from_is, upto_is, row_ends T below);
          within = omega (arith, from_is, upto_is, G.upto below);
          counted = rw here G.counted;
        }

        -- Its clocks are made.
        module _ {s : Stretched} {passed' store' out' : List ℕ}
            (S : StretchedTo s (row_of t count rows c v) (written_by t) (width kernel n) n (upto - from) j passed passed' store store' (behind (firings * size) out) out' (behind taken lent) (allowance - made)) where
          abbrev e : Ending
          e = ending_of s.end

          made_there : ended_at e (stand (j + s.firings) (take n passed') store' out' s.taken s.clocks s.firings)
              ≡ call (stretch (ahead v) (ahead (v + 1)) L) (written_by t) size (drop taken lent) (allowance - made) (stand j (take n passed) store (drop (firings * size) out) 0 0 0)
          made_there = rw (← part_all lent taken, ← part_all out (firings * size), E) (rw E at S.ends)

          abbrev now : Standing
          now = stand (fired + (firings + s.firings)) (take n passed') store' (take (firings * size) out ++ out') (taken + s.taken) (made + s.clocks) (firings + s.firings)

          then : ahead v + (j + s.firings) ≡ fired + (firings + s.firings)
          then = omega (arith, here)

          goes_so : resumed e (call L (written_by t) size lent (allowance - (made + s.clocks)) now) (ended_at e now) ≡ calls L (written_by t) size n fired passed₀ store₀ lent out₀ allowance
          unfolding layout
          goes_so =
              rw (here, then) at
              (goes_on_lem L (ahead v) (ahead (v + 1)) (row_inside T below) (written_by t) size lent out allowance taken made firings G.had G.room j (j + s.firings) s.taken s.clocks s.firings
              (take n passed) (take n passed') store store' out' e made_there)
              ∙ G.goes

          had_so : taken + s.taken ≤ length lent
          had_so = omega (arith, S.had, ap length (part_all lent taken), length-drop taken lent, G.had)

          allowed_so : made + s.clocks ≤ allowance
          allowed_so = omega (arith, S.allowed, G.allowed)

          fewer_so : firings + s.firings ≤ made + s.clocks
          fewer_so = omega (arith, S.firings_fewer, G.firings_fewer)

          fired_so : fired + (firings + s.firings) ≤ upto
          fired_so = omega (arith, S.most, row_order, row_begun)

          room_so : (firings + s.firings) * size ≤ length out
          room_so = rw (add-mul firings s.firings size) (omega (arith, G.room, rw (← E) at S.room, ap length (part_all out (firings * size)), length-drop (firings * size) out))

          -- The numbers after it.
          pub row_counts : (taken + s.taken ≤ length lent) × (made + s.clocks ≤ allowance) × (firings + s.firings ≤ made + s.clocks) × (fired + (firings + s.firings) ≤ 1048576)
          row_counts = (had_so, allowed_so, fewer_so, omega (arith, fired_so, upto_is, row_inside T below, iterations_few T))

          -- All its firings, and the call goes on;
          pub rows_on : upto ≤ fired + (firings + s.firings) → length store' ≡ length store → length out' ≡ length (behind (firings * size) out)
              → RowsGone t n count rows c size fired passed₀ store₀ lent out₀ allowance (v + 1) (taken + s.taken) (made + s.clocks) (firings + s.firings) passed' store' (back (firings * size) out out')
          unfolding layout
          rows_on h ls lo = record {
            goes = rw (back_is (firings * size) out out') (rw d at goes_so);
            most = omega arith;
            from = omega (arith, upto_is);
            upto = λ b. omega (arith, upto_is, fired_so, row_ends T b);
            counted = record { there = S.there; room = omega (arith, G.counted.room); holds = kept };
            rest = S.rest ∙ G.rest;
            had = had_so;
            allowed = allowed_so;
            taken_fewer = omega (arith, S.taken_fewer, G.taken_fewer);
            firings_fewer = fewer_so;
            room = omega (arith, room_so, out_so out' lo, G.same_out);
            same_store = ls ∙ G.same_store;
            same_out = out_so out' lo;
          }
            where
              d : e ≡ Done
              d =
                  done_so (stretch (ahead v) (ahead (v + 1)) L) (written_by t) size (drop taken lent) (allowance - made) (stand j (take n passed) store (drop (firings * size) out) 0 0 0)
                  (ended_at e (stand (j + s.firings) (take n passed') store' out' s.taken s.clocks s.firings)) made_there (omega (arith, upto_is, then))

              kept : Invariant L (counting (fired + (firings + s.firings)) (take n passed'))
              kept =
                  rw then at
                  (keeps_on L (ahead v) (ahead (v + 1)) (row_inside T below) (written_by t) size lent out allowance taken made firings G.had G.room (lawful t T.proper T.accepted) j (j + s.firings)
                  s.taken s.clocks s.firings (take n passed) (take n passed') store store' out' e made_there (rw here G.counted.holds))

          -- or fewer, and it ends.
          pub rows_stopped : fired + (firings + s.firings) < upto
              → StretchedTo (record { end = s.end; taken = taken + s.taken; clocks = made + s.clocks; firings = firings + s.firings }) L (written_by t) (width_of t) n (iterations_of t) fired passed₀ passed' store₀ store' out₀ (back (firings * size) out out') lent allowance
          unfolding layout
          rows_stopped h = record {
            ends = rw (← size_is, back_is (firings * size) out out') (sym (stops e more (call L (written_by t) size lent (allowance - (made + s.clocks)) now) (ended_at e now)) ∙ goes_so);
            there = S.there;
            rest = S.rest ∙ G.rest;
            small = S.small;
            had = had_so;
            allowed = allowed_so;
            taken_fewer = omega (arith, S.taken_fewer, G.taken_fewer);
            firings_fewer = fewer_so;
            most = omega (arith, upto_is, row_inside T below);
            room = rw (← size_is) (omega (arith, room_so, G.same_out));
          }
            where
              more : e ≡ Done → ⊥
              more d =
                  let all = all_fired (stretch (ahead v) (ahead (v + 1)) L) (written_by t) size (drop taken lent) (allowance - made) (stand j (take n passed) store (drop (firings * size) out) 0 0 0)
                  (ended_at e (stand (j + s.firings) (take n passed') store' out' s.taken s.clocks s.firings)) made_there d in
                  omega (arith, upto_is, then, all)
