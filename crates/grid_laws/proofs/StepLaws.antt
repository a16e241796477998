-- Laws of the three steps of planning (document 003, section 3.3), of every grid, window and box that 3 to 6 and 15 let pass.
use Prim.Native.Nat.{ℕ, suc, ◌+◌, ◌-◌, ◌≤◌, ◌<◌}
use mathlib.Core.Bool.{Bool, true, false}
use mathlib.Core.List.{List, [], ◌++◌}
use mathlib.Core.Path.{◌≡◌, refl, sym, ◌∙◌, ap}
use native.Mathlib.Omega.{arith}
use lib.ListN.{length, get_or}
use lib.IntN.{ℤ}
use Rattle.model.specs.Lists.{tabulate, any}
use Rattle.model.specs.Vectors.{before}
use Rattle.model.specs.Grounds.{dims}
use Rattle.model.specs.Courses.{count}
use Rattle.model.specs.Boxes.{course, bad_box}
use Rattle.model.specs.Boxes.Part.{whole}
use Rattle.model.specs.Sized.{Fitting}
use Rattle.model.specs.Values.{Trimmed, ground_of, dims_of, offsets_of, part_of, on_grid, window_of, capacity_array, filter_array, chain_of}
use Rattle.model.specs.Iterations.{iterations_of, distance_of}
use Rattle.model.specs.Answers.{Verdict, verdict_of, first_of, by_verdict, by_answer}
use Rattle.model.specs.Judging.{no_iteration, too_large, twice, bad_order, centred, window_checks, kernel_checks, chain_checks, value_checks, judged, judge_window, judge_behind}
use Rattle.model.specs.Steps.{falling, authors_order, sorted, distances, total, steps_of}
use Rattle.model.specs.Planning.{trimmed_request, judge_request, planned_chain, plan_of, chain_by}
use Rattle.model.specs.declared.Bounds.{Bounds}
use Rattle.model.specs.declared.Chain.{Chain}
use Rattle.model.specs.declared.Grid.{Grid}
use Rattle.model.specs.declared.Kernel.{Kernel}
use Rattle.model.specs.declared.Refusal.{Refusal}
use Rattle.model.specs.declared.Request.{Request}
use Rattle.model.specs.declared.Steps.{Steps}
use Rattle.std.specs.Prelude.{Result, Ok, Err}
use Rattle.model.specs.declared.Window.{Window}
use Rattle.grid_laws.proofs.ListLaws.{length_tabulate, get_d_tabulate}
use Rattle.grid_laws.proofs.Iterations.{some_covered}
use Rattle.grid_laws.proofs.SameCourses.{same_course}
use Rattle.grid_laws.proofs.SameWindows.{same_count, fitting_too}
use Rattle.grid_laws.proofs.SortLaws.{length_falling, falling_each, falling_no_other, sized_falling, falling_falls, repeats_falling}
use Rattle.grid_laws.proofs.ChainLaws.{ground_dims, grid_normal, offsets_count, offsets_sized, part_bounded, offsets_back, capacities_back}
use Rattle.grid_laws.proofs.CheckLaws.{then_checks, both_pass, verdict_back, WindowPasses, window_passes, few_dims, some_references, few_references}

-- 9 of the distances is 9 of their sum; a request has no order, so there is no 14.
by_total : (k : Kernel) (centred : Bool) (n : ℕ) (t : Trimmed) → first_of (kernel_checks k centred ++ chain_checks (distances t) n []) ≡ judge_behind k centred (total t)
unfolding judge_behind total chain_checks kernel_checks too_large bad_order twice any first_of
by_total k centred n t = refl

module _ (g : Grid) (rows : List ℕ) (w : Window) where
  -- The author's offsets, and these sorted.
  abbrev given : List (List ℤ)
  given = offsets_of (dims_of g) w

  abbrev arranged : List (List ℤ)
  arranged = falling given

  pub arranged_count : length arranged ≡ w.count
  arranged_count = length_falling given ∙ offsets_count (dims_of g) w

  pub arranged_sized : (k : ℕ) → k < w.count → length (get_or arranged k []) ≡ dims (ground_of g rows)
  arranged_sized k h = sized_falling (dims (ground_of g rows)) given (offsets_sized g rows w) k (omega (arith, arranged_count))

  module _ (bounds : Bounds) where
    -- What the steps give.
    abbrev pub taken : Steps
    taken = record {
      window = window_of w.count arranged;
      filters = filter_array (authors_order given);
      distances = capacity_array (distances (sorted (on_grid g rows w bounds)));
      total = total (sorted (on_grid g rows w bounds));
    }

    -- What the steps answer, by what comes before them.
    pub steps_verdict : verdict_of (steps_of g rows w bounds) ≡ judge_window g rows w bounds
    unfolding steps_of
    steps_verdict = go (judge_window g rows w bounds) refl
      where
        go : (v : Verdict) → judge_window g rows w bounds ≡ v → verdict_of (steps_of g rows w bounds) ≡ judge_window g rows w bounds
        go (Ok _) e = rw e
        go (Err x) e = rw e

    pub steps_passed : (s : Steps) → steps_of g rows w bounds ≡ Ok s → judge_window g rows w bounds ≡ Ok tt
    steps_passed s e = sym steps_verdict ∙ ap verdict_of e

    pub steps_refused : (x : Refusal) → judge_window g rows w bounds ≡ Err x → steps_of g rows w bounds ≡ Err x
    unfolding steps_of
    steps_refused x e = rw e

    -- Of a rectangle whatever is lent beside it plays no part.
    pub steps_flat : g.skewed ≡ false → steps_of g rows w bounds ≡ steps_of g [] w bounds
    unfolding steps_of ground_of
    steps_flat flat = rw flat

    module _ (e : judge_window g rows w bounds ≡ Ok tt) where
      pub steps_taken : steps_of g rows w bounds ≡ Ok taken
      unfolding steps_of sorted
      steps_taken = rw e

      pub steps_given : (s : Steps) → steps_of g rows w bounds ≡ Ok s → s ≡ taken
      steps_given s f = cc steps_taken

      pub passed : WindowPasses (on_grid g rows w bounds)
      passed = window_passes (on_grid g rows w bounds) e

      -- Window and box fit the grid, also with the offsets sorted.
      pub given_fits : Fitting (on_grid g rows w bounds)
      given_fits = record {
        references = offsets_count (dims_of g) w;
        suits = record {
          some = omega (arith, offsets_count (dims_of g) w, some_references w.count passed.count);
          entries = offsets_sized g rows w;
          bounded = part_bounded g rows bounds;
          fits = passed.fits;
        };
      }

      pub arranged_fits : Fitting (sorted (on_grid g rows w bounds))
      unfolding sorted
      arranged_fits =
          fitting_too (on_grid g rows w bounds) (sorted (on_grid g rows w bounds)) refl (falling_each given) (falling_no_other given) refl given_fits arranged_count
          (λ k h. arranged_sized k (omega (arith, arranged_count))) (part_bounded g rows bounds)

      -- The sorted window is let pass as the author's is.
      pub arranged_judged : first_of (window_checks (sorted (on_grid g rows w bounds))) ≡ Ok tt
      unfolding sorted window_checks no_iteration course
      arranged_judged = ap first_of same ∙ e
        where
          boxed : bad_box (ground_of g rows) arranged (part_of (dims_of g) bounds) ≡ false
          boxed = arranged_fits.suits.fits

          same : window_checks (sorted (on_grid g rows w bounds)) ≡ window_checks (on_grid g rows w bounds)
          same = rw (repeats_falling given, ap count (same_course arranged given (falling_no_other given) (falling_each given) (ground_of g rows) whole), boxed, passed.fits)

      few : w.count ≤ 32
      few = few_references w.count passed.count

      -- The offsets: in their array they are those sorted, each strictly before the one in front of it.
      pub arranged_back : offsets_of (dims_of g) (window_of w.count arranged) ≡ arranged
      arranged_back =
          offsets_back (dims_of g) w.count arranged arranged_count (λ k h. arranged_sized k h ∙ ground_dims g rows)
          (few_dims (dims_of g) (ground_of g rows) (ground_dims g rows) passed.grid) few

      pub arranged_falls : (k : ℕ) → suc k < w.count → before (get_or arranged (suc k) []) (get_or arranged k []) ≡ true
      arranged_falls k h = falling_falls (dims (ground_of g rows)) given (offsets_sized g rows w) passed.distinct k (omega (arith, arranged_count))

      -- The distances: of the sorted offsets, in their array.
      pub distance_there : (k : ℕ) → suc k < w.count → get_or (capacity_array (distances (sorted (on_grid g rows w bounds)))) k 0 ≡ distance_of (sorted (on_grid g rows w bounds)) k
      unfolding distances sorted
      distance_there k h =
          get_d_tabulate 31 _ k 0 (omega (arith, few)) ∙ get_d_tabulate (w.count - 1) (distance_of (sorted (on_grid g rows w bounds))) k 0 (omega arith)

      -- There is an iteration, of all and of those that a run covers.
      pub some_given : 0 < iterations_of (on_grid g rows w bounds)
      some_given = some_covered (on_grid g rows w bounds) (part_bounded g rows bounds) passed.fits passed.iterates

      pub some_arranged : 0 < iterations_of (sorted (on_grid g rows w bounds))
      unfolding sorted
      some_arranged =
          omega (arith, some_given, same_count (on_grid g rows w bounds) (sorted (on_grid g rows w bounds)) refl (falling_each given) (falling_no_other given) refl)

      -- Their sum: that of as many as there are pairs.
      pub distances_back : tabulate (w.count - 1) (λ k. get_or (capacity_array (distances (sorted (on_grid g rows w bounds)))) k 0) ≡ distances (sorted (on_grid g rows w bounds))
      unfolding distances sorted
      distances_back = capacities_back (w.count - 1) (distances (sorted (on_grid g rows w bounds))) (length_tabulate (w.count - 1) _) (omega (arith, few))

-- A request is judged by what comes before the steps, then by 7 and 8, then by 9 of their total,
module _ (r : Request) (rows : List ℕ) where
  abbrev steps : Result Steps Refusal
  steps = steps_of r.grid rows r.window r.bounds

  abbrev has_centre : Bool
  has_centre = centred (offsets_of (dims_of r.grid) r.window)

  pub judged_by_steps : judge_request r rows ≡ by_answer steps (λ s. judge_behind r.kernel has_centre s.total) Err
  unfolding judge_request judged value_checks trimmed_request window_checks
  judged_by_steps = then_checks (window_checks (trimmed_request r rows)) _ ∙ go (judge_window r.grid rows r.window r.bounds) refl
    where
      go : (v : Verdict) → judge_window r.grid rows r.window r.bounds ≡ v
          → by_verdict (judge_window r.grid rows r.window r.bounds) (first_of (kernel_checks r.kernel has_centre ++ chain_checks (distances (sorted (on_grid r.grid rows r.window r.bounds))) r.window.count [])) Err
          ≡ by_answer steps (λ s. judge_behind r.kernel has_centre s.total) Err
      go (Ok _) e = rw (e, steps_taken r.grid rows r.window r.bounds e) (by_total r.kernel has_centre r.window.count (sorted (on_grid r.grid rows r.window r.bounds)))
      go (Err x) e = rw (e, steps_refused r.grid rows r.window r.bounds x e)

  pub request_passes : judge_request r rows ≡ Ok tt → judge_window r.grid rows r.window r.bounds ≡ Ok tt
  unfolding judge_request judged value_checks trimmed_request window_checks
  request_passes e = (both_pass (window_checks (trimmed_request r rows)) _ e).0

  pub plan_verdict_lem : verdict_of (plan_of r rows) ≡ judge_request r rows
  unfolding plan_of
  plan_verdict_lem = verdict_back (judge_request r rows) (planned_chain r rows)

  pub plan_passed : (c : Chain) → plan_of r rows ≡ Ok c → judge_request r rows ≡ Ok tt
  plan_passed c e = sym plan_verdict_lem ∙ ap verdict_of e

  -- Of a request that is planned the chain is the planned one;
  pub plan_taken : judge_request r rows ≡ Ok tt → plan_of r rows ≡ Ok (planned_chain r rows)
  unfolding plan_of
  plan_taken e = rw e

  pub plan_chain : (c : Chain) → plan_of r rows ≡ Ok c → c ≡ planned_chain r rows
  plan_chain c e = cc (plan_taken (plan_passed c e))

  -- and its chain is made of their results.
  module _ (e : judge_window r.grid rows r.window r.bounds ≡ Ok tt) where
    pub chain_by_steps : planned_chain r rows ≡ chain_by r.grid r.bounds r.kernel (taken r.grid rows r.window r.bounds)
    unfolding planned_chain trimmed_request sorted chain_of
    chain_by_steps = rw (grid_normal r.grid rows)
