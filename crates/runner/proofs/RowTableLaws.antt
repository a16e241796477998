-- An accepted value on rows: what its tables give the stretch of a row.
use Prim.Native.Nat.{ℕ, suc, ◌+◌, ◌≤◌, ◌<◌}
use mathlib.Core.List.{List, []}
use mathlib.Core.Path.{◌≡◌, refl, sym, ◌∙◌, ap, ap₂}
use native.Mathlib.Nat.{add-zero, zero-mul, div-one}
use native.Mathlib.Omega.{arith}
use lib.IntN.{ℤ}
use lib.ListN.{length, get_or, take, replicate}
use lib.Seq.{get_or-take}
use Rattle.model.specs.Lists.{up_to, sum}
use Rattle.model.specs.Vectors.{plus}
use Rattle.model.specs.Grounds.{Row, Ground, position}
use Rattle.model.specs.Courses.{count as counted, vector}
use Rattle.model.specs.Boxes.{Part, course}
use Rattle.model_run.specs.Kernels.{terms, written, width}
use Rattle.model.specs.Values.{Trimmed, rows_of, on_rows}
use Rattle.model.specs.Iterations.{iterations_of, reads_of, position_of, iteration_of, course_of}
use Rattle.model.specs.Sized.{Fitting}
use Rattle.model_run.specs.Store.{first_place}
use Rattle.model_run.specs.Running.{layout, terms_of, writes_of, written_by, width_of}
use Rattle.model.specs.declared.Kernel.{Kernel}
use Rattle.model.specs.declared.Order.{Order}
use Rattle.grid_laws.proofs.ChainLaws.{offsets_count}
use Rattle.grid_laws.proofs.Iterations.{at_most_cells}
use Rattle.run_laws.proofs.Accepts.{fitting_of}
use Rattle.run_laws.proofs.Layouts.{wants_read, lawful}
use Rattle.kernel_terms.specs.FilterTables.{filters_for}
use Rattle.geometry.specs.Parts.{Filled}
use Rattle.rows.specs.Courses.{looked, row_length}
use Rattle.rows.specs.declared.RowCourse.{RowCourse}
use Rattle.row_courses.specs.CourseTables.{read_at}
use Rattle.row_courses.proofs.TableLaws.{lengths_next, row_most}
use Rattle.row_courses.proofs.RunLaws.{iterations_are, reads_row, looked_is, row_below, few_rows_in}
use Rattle.loop_laws.specs.Standings.{stand}
use Rattle.loop_laws.specs.LoopTables.{walked, Rows}
use Rattle.loop_laws.proofs.StoredLaws.{holds_below}
use Rattle.loop_laws.proofs.CallLaws.{call_done}
use Rattle.loop_laws.proofs.StretchLaws.{stretch_lawful, stretch_invariant}
use Rattle.run_glide.specs.Glides.{Walks}
use Rattle.runner.specs.Loops.{Advanced}
use Rattle.runner.specs.Stretching.{Stretching, StretchedTo}
use Rattle.runner.specs.ByRows.{RowTables, Counted, iterations_above, row_of, AtRow}
use Rattle.runner.specs.declared.End.TheVariants as end
use Rattle.runner.proofs.PreparedLaws.{top}

-- Spans and strides of a row: iteration j reads j places behind the row's first.
abbrev ones : List ℕ
ones = replicate 4 1

walk_on : (j : ℕ) → walked ones ones 1 0 j ≡ j
unfolding walked
walk_on j = omega (arith, div-one j)

ones_walk : Walks 1 ones ones
ones_walk = record { few = omega arith; each = λ d h. let z : d ≡ 0 = omega arith in rw z (omega arith, omega arith) }

ones_rows : (size iterations : ℕ) → 0 < size → Rows (walked ones ones 1 0) size iterations
ones_rows size iterations h = record { some = h; on = λ f _ _. walk_on (suc f) ∙ ap suc (sym (walk_on f)) }

module _ {t : Trimmed} {kernel : Kernel} {order : Order} {n count cells centre : ℕ} {c : RowCourse} {rows above caps bases tops : List ℕ}
    (T : RowTables t kernel order n count cells centre c rows above caps bases tops) where
  abbrev rs : List Row
  rs = rows_of count rows

  -- The window on the rows, with no capacities: it reads the same.
  abbrev bare : Trimmed
  bare = on_rows count rows T.window T.bounds

  abbrev ahead : ℕ → ℕ
  ahead v = iterations_above count rows c v

  same_reads : (j k : ℕ) → reads_of t j k ≡ reads_of bare j k
  unfolding reads_of position_of iteration_of course_of
  same_reads j k =
      ap (λ (g : Ground). position g (plus (vector (course g t.offsets t.part) j) (get_or t.offsets k []))) T.ground_is
      ∙ ap (λ (os : List (List ℤ)). position bare.the_ground (plus (vector (course bare.the_ground os t.part) j) (get_or os k []))) T.offsets_are
      ∙ ap (λ (p : Part). position bare.the_ground (plus (vector (course bare.the_ground bare.offsets p) j) (get_or bare.offsets k []))) T.part_is

  same_iterations : iterations_of t ≡ iterations_of bare
  unfolding iterations_of course_of
  same_iterations =
      ap (λ (g : Ground). counted (course g t.offsets t.part)) T.ground_is
      ∙ ap (λ (os : List (List ℤ)). counted (course bare.the_ground os t.part)) T.offsets_are
      ∙ ap (λ (p : Part). counted (course bare.the_ground bare.offsets p)) T.part_is

  same_count : n ≡ T.window.count
  same_count = T.count_is ∙ sym T.proper.references ∙ ap length T.offsets_are ∙ offsets_count 2 T.window

  fit : Fitting t
  fit = fitting_of t T.proper T.accepted

  -- All iterations lie above the row behind the last.
  pub all_rows : iterations_of t ≡ ahead c.height
  all_rows = same_iterations ∙ iterations_are count rows T.window T.bounds c T.surveyed

  pub few_rows : c.height ≤ 512
  few_rows = few_rows_in count rows T.window T.bounds c T.surveyed

  pub few : n ≤ 32
  few = omega (arith, T.count_is, T.accepted.few)

  cells_few : cells ≤ 1048576
  cells_few = omega (arith, T.cells_are, T.accepted.cells)

  pub iterations_few : iterations_of t ≤ 1048576
  iterations_few = omega (arith, at_most_cells t fit, T.accepted.cells)

  writes_are : (ws : List ℕ) → written_by t ws ≡ written kernel centre (terms kernel centre (filters_for n order)) (up_to n) ws
  unfolding written_by terms_of writes_of
  writes_are ws = rw (T.filters_are, T.kernel_is, T.centre_is, T.count_is)

  pub width_is : width_of t ≡ width kernel n
  unfolding width_of
  width_is = sym (ap₂ width T.kernel_is T.count_is)

  pub counters_small : {fired : ℕ} {passed store : List ℕ} → Counted t n fired passed store → (k : ℕ) → k < n → get_or passed k 0 ≤ 1048576
  unfolding layout
  counters_small {fired} {passed} C k h =
      omega (arith, get_or-take n passed k 0 h, holds_below (layout t) fired 0 (layout t).cells k (take n passed) C.holds.all, T.cells_are, cells_few)

  -- Row v.
  module _ {v : ℕ} (below : v < c.height) where
    abbrev long : ℕ
    long = row_length rs c v

    pub row_ends : ahead (v + 1) ≡ ahead v + long
    row_ends = sym (lengths_next (row_length rs c) v)

    pub row_inside : ahead (v + 1) ≤ iterations_of t
    row_inside = omega (arith, row_ends, same_iterations, row_below count rows T.window T.bounds c T.surveyed v below)

    reads : (j k : ℕ) → j < long → k < n → (layout t).wants (ahead v + j) k ≡ read_at rs above c v k + j
    reads j k h g =
        wants_read t T.proper T.accepted (ahead v + j) k (omega (arith, row_ends, row_inside))
        ∙ same_reads (ahead v + j) k
        ∙ reads_row count rows T.window T.bounds c T.surveyed v j below h above (λ i b. T.above_are.done i (omega arith)) k (omega (arith, same_count))

    -- None of its iterations is left.
    pub row_none : {size j : ℕ} {passed store : List ℕ} → AtRow t n count rows c v size j passed store → size ≤ j → (lent out : List ℕ) (allowance : ℕ)
        → StretchedTo (record { end = end.Done; taken = 0; clocks = 0; firings = 0 }) (row_of t count rows c v) (written_by t) (width kernel n) n size j passed passed store store out out lent allowance
    row_none {j = j} {passed} {store} A none lent out allowance = record {
      ends = rw (add-zero j)
          (sym (call_done (row_of t count rows c v) (written_by t) (width kernel n) lent allowance (stand j (take n passed) store out 0 0 0) (omega (arith, row_ends, A.size_is))));
      there = A.counted.there;
      rest = refl;
      small = counters_small A.counted;
      had = omega arith;
      allowed = omega arith;
      taken_fewer = omega arith;
      firings_fewer = omega arith;
      most = omega (arith, A.within);
      room = omega (arith, zero-mul (width kernel n));
    }

    module _ {at : List ℕ} (F : Filled 32 0 (read_at rs above c v) (looked c) at) where
      at_are : (k : ℕ) → k < n → get_or at k 0 ≡ read_at rs above c v k
      at_are k h = F.done k (omega (arith, same_count, looked_is count rows T.window T.bounds c T.surveyed))

      -- No sum with an iteration's number leaves its width.
      pub at_small : {size j : ℕ} {passed store : List ℕ} → AtRow t n count rows c v size j passed store → j < size → (k : ℕ) → k < n → get_or at k 0 + j < 18446744073709551616
      unfolding layout
      at_small {j = j} A more k g =
          let h : j < long = omega (arith, A.size_is) in
          omega (arith, at_are k g, reads j k h g, T.accepted.cells, (lawful t T.proper T.accepted).within (ahead v + j) k (omega (arith, row_ends, row_inside)) (omega (arith, T.count_is)))

      -- Its iterations are a stretch with these tables.
      pub row_stretching : {size j : ℕ} {wants passed store : List ℕ} → AtRow t n count rows c v size j passed store → j < size → Advanced n j at wants
          → Stretching (row_of t count rows c v) (written_by t) kernel (terms kernel centre (filters_for n order)) n size size cells centre j 1 at wants caps bases tops ones ones passed store
      unfolding layout
      row_stretching {size} {j} {wants} {passed} {store} A more W = record {
        handed = record {
          tables = record {
            filters_are = sym T.count_is;
            cells_are = sym T.cells_are;
            iterations_are = omega (arith, row_ends, A.size_is);
            some = omega (arith, T.count_is, T.accepted.some);
            few = few;
            most = cells_few;
            lawful = stretch_lawful (layout t) (ahead v) (ahead (v + 1)) (lawful t T.proper T.accepted) (omega (arith, row_ends)) row_inside;
            reads = λ f k h g. reads f k (omega (arith, A.size_is)) g ∙ ap₂ ◌+◌ (sym (at_are k g)) (sym (walk_on f));
            small = λ k h. omega (arith, T.caps_are k h, place k h, T.accepted.places);
            places = record { bases_are = T.bases_are; caps_are = T.caps_are };
          };
          stands = record {
            there = A.counted.there;
            within = λ k h. omega (arith, T.bases_are k h, T.caps_are k h, place k h, A.counted.room);
            holds = stretch_invariant (layout t) (ahead v) (ahead (v + 1)) j (take n passed) (omega (arith, row_ends, A.size_is)) A.counted.holds;
          };
          more = more;
          wants_are = λ k h. omega (arith, W.on k h, at_are k h, reads j k (omega (arith, A.size_is)) h);
          tops_are = T.tops_are;
        };
        most = omega (arith, A.size_is, row_most rs c v);
        rows = ones_rows size size (omega arith);
        walks = ones_walk;
        writes_are = writes_are;
      }
        where
          place : (k : ℕ) → suc k < n → first_place (layout t).capacity k + get_or t.capacities k 0 ≤ sum t.capacities
          place k h = top t T.proper T.accepted k (omega (arith, T.count_is))
