-- The whole call: its iterations as one stretch, and what its ways out leave.
use Prim.Native.Nat.{ℕ, ◌+◌, ◌≤◌, ◌<◌, ◌^◌}
use mathlib.Core.Bool.{false}
use mathlib.Core.List.{List, []}
use mathlib.Core.Path.{◌≡◌, refl, sym, ◌∙◌, ap, subst}
use native.Mathlib.Nat.{zero-add, add-zero, sub-zero, zero-mul}
use native.Mathlib.Omega.{arith}
use lib.ListN.{length, get_or, take, drop}
use lib.Seq.{get_or-take}
use Rattle.model.specs.Lists.{up_to}
use Rattle.model_run.specs.Kernels.{terms, written, width}
use Rattle.model.specs.Values.{Trimmed, trimmed}
use Rattle.model.specs.Iterations.{iterations_of}
use Rattle.model_run.specs.Clock.{Layout}
use Rattle.model_run.specs.Running.{Ending, Done, Spent, Ended, outcome_of, layout, filters_of, written_by, width_of}
use Rattle.model.specs.declared.Order.{Order}
use Rattle.model.specs.declared.Chain.{Chain}
use Rattle.model.specs.declared.Outcome.{Outcome}
use Rattle.grid_laws.proofs.Iterations.{at_most_cells}
use Rattle.kernel_terms.specs.FilterTables.{filters_for}
use Rattle.kernel_terms.proofs.TableLaws.{filters_are}
use Rattle.flow.specs.Machine.{Invariant}
use Rattle.run_laws.proofs.Accepts.{trimmed_proper, fitting_of}
use Rattle.loop_laws.specs.Standings.{counting, stand, ended_at}
use Rattle.loop_laws.specs.LoopTables.{walked, Tables, Stands, Rows}
use Rattle.loop_laws.specs.Stretches.{stretch}
use Rattle.loop_laws.proofs.StoredLaws.{holds_below}
use Rattle.loop_laws.proofs.CallLaws.{call_done, call_spent}
use Rattle.loop_laws.proofs.StretchLaws.{stretch_lawful, stretch_invariant, ends_last}
use Rattle.grid_laws.proofs.ChainLaws.{dims_flat}
use Rattle.run_glide.specs.Glides.{Walks}
use Rattle.run_prepare.specs.Ready.{Prepared, Begins}
use Rattle.runner.specs.Stretching.{Stretching, ending_of, StretchedTo}
use Rattle.runner.specs.Clocks.{call_of, Ends}
use Rattle.runner.specs.declared.Stretched.{Stretched}
use Rattle.runner.specs.declared.Stopped.{Stopped}
use Rattle.runner.specs.declared.End.{End}
use Rattle.runner.specs.declared.End.TheVariants as end
use Rattle.runner.proofs.PreparedLaws.{walks, rows, tables, stands, writes_are}

abbrev pub no_clocks : End → Stretched
no_clocks x = record { end = x; taken = 0; clocks = 0; firings = 0 }

abbrev pub stopped_of : (fired : ℕ) → Stretched → Stopped
stopped_of fired r = record {
  outcome = outcome_of (ending_of r.end) (record { cells = r.taken; firings = r.firings; clocks = r.clocks });
  fired = record { 0 = fired + r.firings };
}

-- A call that ended there.
ends_there : (o : Outcome) (f : ℕ) (e : Ended) (x : Ending) (n taken made firings : ℕ) (passed passed' store out : List ℕ)
    → ended_at x (stand f (take n passed') store out taken made firings) ≡ e → o ≡ outcome_of x (record { cells = taken; firings = firings; clocks = made })
    → drop n passed' ≡ drop n passed → length passed' ≡ 32 → ((k : ℕ) → k < n → get_or passed' k 0 ≤ 1048576)
    → Ends (record { outcome = o; fired = record { 0 = f } }) e n passed passed' store out
ends_there o f e x n taken made firings passed passed' store out h eo er et es = rw (← h) record {
  outcome = eo;
  fired = refl;
  counters = refl;
  store = refl;
  output = refl;
  there = et;
  rest = er;
  small = es;
}

-- All that a call's clocks leave, where they are its layout's.
module _ (t : Trimmed) {n fired : ℕ} {passed passed' store store' lent out out' : List ℕ} {allowance : ℕ} {r : Stretched} (few : iterations_of t ≤ 1048576)
    (E : StretchedTo r (layout t) (written_by t) (width_of t) n (iterations_of t) fired passed passed' store store' out out' lent allowance) where
  -- The counts are at most the allowance, a 32-bit number.
  pub counts_small : allowance < 2 ^ 32 → (r.taken < 4294967296) × (r.clocks < 4294967296) × (fired + r.firings < 4294967296)
  counts_small l = (omega (arith, E.taken_fewer, E.allowed), omega (arith, E.allowed), omega (arith, E.most))

  pub ends_stretched : {s : Stopped} → s ≡ stopped_of fired r → Ends s (call_of t n fired passed store lent out allowance) n passed passed' store' out'
  ends_stretched e =
      rw e
      (ends_there _ (fired + r.firings) _ (ending_of r.end) n r.taken r.clocks r.firings passed passed' store' out' E.ends refl E.rest E.there E.small)

module _ (c : Chain) (flat : c.grid.skewed ≡ false) (row iterations cells centre : ℕ) (at caps bases tops spans strides : List ℕ)
    (P : Prepared (trimmed c []) row iterations cells centre at caps bases tops spans strides) (fired : ℕ) (wants passed store : List ℕ) (B : Begins (trimmed c []) fired wants passed store) where
  abbrev n : ℕ
  n = c.window.count

  T : Tables (layout (trimmed c [])) (walked spans strides c.grid.dims 0) n cells iterations at caps bases
  unfolding trimmed
  T =
      subst (λ (d : ℕ). Tables (layout (trimmed c [])) (walked spans strides d 0) n cells iterations at caps bases) (dims_flat c.grid flat)
      (tables (trimmed c []) (trimmed_proper c []) row iterations cells centre at caps bases tops spans strides P)

  S : Stands (layout (trimmed c [])) n fired caps bases passed store
  unfolding trimmed
  S = stands (trimmed c []) (trimmed_proper c []) row iterations cells centre at caps bases tops spans strides P fired wants passed store B

  pub iterations_small : iterations_of (trimmed c []) ≤ 1048576
  iterations_small = omega (arith, at_most_cells (trimmed c []) (fitting_of (trimmed c []) (trimmed_proper c []) P.accepted), P.accepted.cells)

  pub none_small : {x : End} {r : Stretched} → r ≡ no_clocks x → (r.taken < 4294967296) × (r.clocks < 4294967296) × (fired + r.firings < 4294967296)
  unfolding layout
  none_small e = rw e (omega arith, omega arith, omega (arith, B.holds.most, iterations_small))

  counters_small : (f : ℕ) (ps : List ℕ) → Invariant (layout (trimmed c [])) (counting f (take n ps)) → (k : ℕ) → k < n → get_or ps k 0 ≤ cells
  counters_small f ps i k h = omega (arith, get_or-take n ps k 0 h, holds_below (layout (trimmed c [])) f 0 (layout (trimmed c [])).cells k (take n ps) i.all, T.cells_are)

  -- Every firing is made already.
  pub ends_done : (lent out : List ℕ) (allowance : ℕ) (s : Stopped) → iterations ≤ fired → s ≡ stopped_of fired (no_clocks end.Done)
      → Ends s (call_of (trimmed c []) n fired passed store lent out allowance) n passed passed store out
  unfolding trimmed
  ends_done lent out allowance s h e =
      rw (e, add-zero)
      (ends_there _ fired _ Done n 0 0 0 passed passed store out
      (sym (call_done (layout (trimmed c [])) (written_by (trimmed c [])) (width_of (trimmed c [])) lent allowance (stand fired (take n passed) store out 0 0 0) (omega (arith, T.iterations_are))))
      refl refl B.there (λ k g. omega (arith, counters_small fired passed B.holds k g, T.most)))

  -- No clock is allowed.
  pub ends_none : (lent out : List ℕ) (allowance : ℕ) (s : Stopped) → fired < iterations → allowance ≡ 0 → s ≡ stopped_of fired (no_clocks end.Spent)
      → Ends s (call_of (trimmed c []) n fired passed store lent out allowance) n passed passed store out
  unfolding trimmed
  ends_none lent out allowance s h e es =
      rw (es, add-zero)
      (ends_there _ fired _ Spent n 0 0 0 passed passed store out
      (sym (call_spent (layout (trimmed c [])) (written_by (trimmed c [])) (width_of (trimmed c [])) lent allowance (stand fired (take n passed) store out 0 0 0) e (omega (arith, T.iterations_are))))
      refl refl B.there (λ k g. omega (arith, counters_small fired passed B.holds k g, T.most)))

  -- All iterations.
  abbrev all : Layout
  all = stretch 0 (layout (trimmed c [])).iterations (layout (trimmed c []))

  module _ (more : fired < iterations) where
    pub may_stretch : (order : Order) → order ≡ c.order
        → Stretching all (written_by (trimmed c [])) c.kernel (terms c.kernel centre (filters_for n order)) n row iterations cells centre fired c.grid.dims at wants caps bases tops spans strides passed store
    unfolding trimmed filters_of
    may_stretch order own = record {
      handed = record {
        tables = record {
          filters_are = T.filters_are;
          cells_are = T.cells_are;
          iterations_are = sub-zero (layout (trimmed c [])).iterations ∙ T.iterations_are;
          some = T.some;
          few = T.few;
          most = T.most;
          lawful = stretch_lawful (layout (trimmed c [])) 0 (layout (trimmed c [])).iterations T.lawful (omega arith) (omega arith);
          reads = λ f k h g. rw (zero-add f) (T.reads f k h g);
          small = T.small;
          places = T.places;
        };
        stands = record {
          there = B.there;
          within = S.within;
          holds = stretch_invariant (layout (trimmed c [])) 0 (layout (trimmed c [])).iterations fired (take n passed) (omega (arith, T.iterations_are)) (rw (zero-add fired) B.holds);
        };
        more = more;
        wants_are = λ k h. rw (zero-add fired) (B.wants_are k h);
        tops_are = P.tops_are;
      };
      most = omega (arith, P.iterations_are, iterations_small);
      rows =
          subst (λ (d : ℕ). Rows (walked spans strides d 0) row iterations) (dims_flat c.grid flat)
          (rows (trimmed c []) (trimmed_proper c []) row iterations cells centre at caps bases tops spans strides P);
      walks =
          subst (λ (d : ℕ). Walks d spans strides) (dims_flat c.grid flat)
          (walks (trimmed c []) (trimmed_proper c []) row iterations cells centre at caps bases tops spans strides P);
      writes_are = λ ws. writes_are (trimmed c []) (trimmed_proper c []) row iterations cells centre at caps bases tops spans strides P ws
          ∙ ap (λ (ks : List ℕ). written c.kernel centre (terms c.kernel centre ks) (up_to n) ws) (sym (ap (filters_for n) own ∙ filters_are n c.order));
    }

    -- They are the whole call's.
    pub stretched_whole : {lent out : List ℕ} {allowance : ℕ} {r : Stretched} {passed' store' out' : List ℕ}
        → StretchedTo r all (written_by (trimmed c [])) (width c.kernel n) n iterations fired passed passed' store store' out out' lent allowance
        → StretchedTo r (layout (trimmed c [])) (written_by (trimmed c [])) (width_of (trimmed c [])) n (iterations_of (trimmed c [])) fired passed passed' store store' out out' lent allowance
    unfolding trimmed layout width_of
    stretched_whole {lent} {out} {allowance} {r} {passed'} {store'} {out'} E = record {
      ends = whole;
      there = E.there;
      rest = E.rest;
      small = E.small;
      had = E.had;
      allowed = E.allowed;
      taken_fewer = E.taken_fewer;
      firings_fewer = E.firings_fewer;
      most = omega (arith, E.most, P.iterations_are);
      room = E.room;
    }
      where
        size : ℕ
        size = width c.kernel n

        whole : ended_at (ending_of r.end) (stand (fired + r.firings) (take n passed') store' out' r.taken r.clocks r.firings) ≡ call_of (trimmed c []) n fired passed store lent out allowance
        whole =
            rw (zero-mul size, sub-zero allowance, zero-add fired, zero-add (fired + r.firings), zero-add r.taken, zero-add r.clocks, zero-add r.firings) at
            (ends_last (layout (trimmed c [])) 0 (layout (trimmed c [])).iterations (omega arith) (written_by (trimmed c [])) size lent out allowance 0 0 0 (omega arith) (omega (arith, zero-mul size)) refl
            fired (fired + r.firings) r.taken r.clocks r.firings (take n passed) (take n passed') store store' out' (ending_of r.end)
            (rw (zero-mul size, sub-zero allowance) E.ends))
