-- Iterations, distances and cells, and numbers 6 and 15: the proofs.
use Prim.Native.Nat.{ℕ, ◌<◌}
use mathlib.Core.Bool.{Bool, true, false, cond, true≢false, and-eq-true_iff}
use mathlib.Core.List.{List}
use mathlib.Core.Logic.{◌↔◌}
use mathlib.Core.Path.{◌≡◌, refl, sym, ◌∙◌, ap, subst}
use native.Mathlib.Decide.{dec_lt}
use native.Mathlib.Omega.{arith}
use lib.Dec.{eqb, ltb}
use lib.IntN.{ℤ}
use lib.ListN.{length}
use borrow.Author.Tests.{eqb-false, eqb-true, eq-eqb, ltb-true, lt-ltb}
use Rattle.model.specs.Grounds.{Ground, dims, is_iteration}
use Rattle.model.specs.Grounds.Ground.{rectangle}
use Rattle.model.specs.Courses.{count, all_iterations}
use Rattle.model.specs.Boxes.{between, in_part, crossed, bad_box}
use Rattle.model.specs.Boxes.Part.{whole, box}
use Rattle.model.specs.Values.{Trimmed, trimmed}
use Rattle.model.specs.Sized.{Sized, Bounded, Proper, Fitting}
use Rattle.model.specs.Iterations.{cells_of, is_cell_of, position_of, is_iteration_of, covers_of, course_of, iterations_of, iteration_of}
use Rattle.model.specs.Answers.{Verdict, number_of, verdict_number, first_of}
use Rattle.model.specs.Judging.{bad_ground, bad_count, repeats, no_iteration, centred, lacks_centre, bad_factor, too_large, bad_order, window_checks, kernel_checks, chain_checks, value_checks, judged}
use Rattle.model.specs.Planning.{trimmed_request}
use Rattle.model.specs.declared.Refusal.TheVariants as refusal
use Rattle.std.specs.Prelude.{Ok, Err}
use Rattle.grid_laws.proofs.Tests.{neither}
use Rattle.grid_laws.proofs.GroundLaws.{inside_order, inside_below, position_cell, inside_once}
use Rattle.grid_laws.proofs.WholeLaws.{whole_iterations, whole_complete}
use Rattle.grid_laws.proofs.BoxLaws.{none_whole, each_of_box}
use Rattle.grid_laws.proofs.RectangleBoxes.{corners}
use Rattle.grid_laws.proofs.Listed as run
use Rattle.grid_laws.proofs.Iterations.{fitting, distance_most, distance_reached, same_distance, newest_most, newest_read}
use Rattle.grid_laws.proofs.Iterations.{one_distance as pair-distance}
use Rattle.grid_laws.proofs.CheckLaws.{some_references}
use Rattle.run_laws.proofs.Accepts.{trimmed_proper, accepted_chain, fitting_of}
use Rattle.run_laws.proofs.Plans.{request_proper}
use Rattle.demands.specs.Iterations.{Passes, Enumerated, Placed, Empty, Number6, Number15, Geometry}
use Rattle.demands.proofs.FullBox.{full_box_runs}

module _ (t : Trimmed) where
  placed : Placed t
  unfolding cells_of is_cell_of position_of
  placed = record {
    in_order = λ v w a b. let same = inside_order t.the_ground v w a b in (λ e. ltb-true _ _ (sym same ∙ e), λ l. same ∙ lt-ltb _ _ l);
    below = inside_below t.the_ground;
    each = position_cell t.the_ground;
    once = inside_once t.the_ground;
  }

  module _ (f : Fitting t) where
    pub enumerated : Enumerated t
    unfolding iterations_of iteration_of course_of is_iteration_of covers_of
    enumerated = record {
      each = λ j h. (and-eq-true_iff _ _).1 (run.iterates t.the_ground t.offsets t.part f.suits j h, run.lies t.the_ground t.offsets t.part f.suits j h);
      no_other = λ v h. let (a, b) = (and-eq-true_iff (is_iteration_of t v) (in_part t.part v)).0 h in run.complete t.the_ground t.offsets t.part f.suits v a b;
      once = run.once t.the_ground t.offsets t.part f.suits;
      in_order = run.in_order_lem t.the_ground t.offsets t.part f.suits;
    }

  module _ (proper : Proper t) where
    -- There is no iteration exactly if their count is 0.
    none_listed : bad_count t.count ≡ false → no_iteration t.the_ground t.offsets ≡ true ↔ Empty t
    unfolding bad_count no_iteration is_iteration_of
    none_listed b = (
      λ e v. unlisted v (eqb-true all 0 e) (is_iteration t.the_ground t.offsets v) refl,
      λ empty. go empty (dec_lt 0 all),
    )
      where
        all : ℕ
        all = count (all_iterations t.the_ground t.offsets)

        some : 0 < length t.offsets
        some = let one = eqb-false t.count 0 (neither (eqb t.count 0) (ltb 32 t.count) b).0 in omega (arith, proper.references)

        unlisted : (v : List ℤ) → count (all_iterations t.the_ground t.offsets) ≡ 0 → (x : Bool) → is_iteration t.the_ground t.offsets v ≡ x → is_iteration t.the_ground t.offsets v ≡ false
        unlisted v z true e = absurd (omega (arith, (whole_complete t.the_ground t.offsets proper.entries some v e).1))
        unlisted v z false e = e

        go : Empty t → Dec (0 < count (all_iterations t.the_ground t.offsets)) → eqb (count (all_iterations t.the_ground t.offsets)) 0 ≡ true
        go empty (yes h) = absurd (true≢false (sym (whole_iterations t.the_ground t.offsets proper.entries 0 h) ∙ empty _))
        go empty (no h) = eq-eqb (count (all_iterations t.the_ground t.offsets)) 0 (omega arith)

-- 6 is answered exactly if its condition holds, whatever holds of 15, 7, 8, 9 and 14; and behind it 15 likewise.
from_15 : Bool → Bool → Bool → Bool → Bool → Verdict
from_15 a b c d e =
    cond a (Err refusal.BadBox)
    (cond b (Err refusal.NoCentre)
    (cond c (Err refusal.BadFactor) (cond d (Err refusal.TooLarge) (cond e (Err refusal.BadOrder) (Ok tt)))))

answers_15 : (a b c d e : Bool) → verdict_number (from_15 a b c d e) ≡ 15 ↔ a ≡ true
unfolding from_15 verdict_number number_of
answers_15 true b c d e = (λ _. refl, λ _. refl)
answers_15 false true c d e = (λ q. absurd (omega arith), λ q. absurd (true≢false (sym q)))
answers_15 false false true d e = (λ q. absurd (omega arith), λ q. absurd (true≢false (sym q)))
answers_15 false false false true e = (λ q. absurd (omega arith), λ q. absurd (true≢false (sym q)))
answers_15 false false false false true = (λ q. absurd (omega arith), λ q. absurd (true≢false (sym q)))
answers_15 false false false false false = (λ q. absurd (omega arith), λ q. absurd (true≢false (sym q)))

not_6 : (a b c d e : Bool) → verdict_number (from_15 a b c d e) ≡ 6 → ⊥
unfolding from_15 verdict_number number_of
not_6 true b c d e q = omega arith
not_6 false true c d e q = omega arith
not_6 false false true d e q = omega arith
not_6 false false false true e q = omega arith
not_6 false false false false true q = omega arith
not_6 false false false false false q = omega arith

from_6 : Bool → Verdict → Verdict
from_6 a v = cond a (Err refusal.NoIteration) v

answers_6 : (a : Bool) (v : Verdict) → (verdict_number v ≡ 6 → ⊥) → verdict_number (from_6 a v) ≡ 6 ↔ a ≡ true
unfolding from_6 verdict_number number_of
answers_6 true v n = (λ _. refl, λ _. refl)
answers_6 false v n = (λ q. absurd (n q), λ q. absurd (true≢false (sym q)))

module _ (t : Trimmed) where
  abbrev behind : Verdict
  behind =
      from_15 (bad_box t.the_ground t.offsets t.part) (lacks_centre t.kernel (centred t.offsets)) (bad_factor t.kernel) (too_large t.capacities) (bad_order t.count t.order)

  judged_from_6 : bad_ground t.dims t.the_ground ≡ false → bad_count t.count ≡ false → repeats t.offsets ≡ false → judged t ≡ from_6 (no_iteration t.the_ground t.offsets) behind
  unfolding judged value_checks window_checks kernel_checks chain_checks first_of from_6 from_15
  judged_from_6 g n d = rw (g, n, d)

number_6 : (t : Trimmed) → Proper t → Number6 t
number_6 t proper = record {
  condition = none_listed t proper;
  answer = λ g n d.
      let six = answers_6 (no_iteration t.the_ground t.offsets) (behind t) (not_6 _ _ _ _ _) in
      let none = none_listed t proper n in
      rw (judged_from_6 t g n d) (λ e. none.0 (six.0 e), λ e. six.1 (none.1 e));
}

-- 15 of a value with a box, and without one.
number_15 : (t : Trimmed) → Proper t → Number15 t
unfolding is_iteration_of from_6
number_15 t proper = record {
  none = λ e. no_box t e;
  condition = λ l h e n. boxed t proper l h e;
  corners = λ sizes i l h e n. cornered t proper sizes i l h e n;
  answer = λ g n d z. rw (judged_from_6 t g n d, z) (answers_15 (bad_box t.the_ground t.offsets t.part) _ _ _ _);
}
  where
    no_box : (t : Trimmed) → t.part ≡ whole → bad_box t.the_ground t.offsets t.part ≡ false
    no_box t e = ap (bad_box t.the_ground t.offsets) e ∙ none_whole t.the_ground t.offsets

    boxed : (t : Trimmed) (proper : Proper t) (l h : List ℤ) → t.part ≡ box l h
        → bad_box t.the_ground t.offsets t.part ≡ false ↔ ((crossed l h ≡ false) × ((v : List ℤ) → between l h v ≡ true → is_iteration t.the_ground t.offsets v ≡ true))
    boxed t proper l h e = rw e (each_of_box t.the_ground l h (subst (Bounded (dims t.the_ground)) e proper.bounded) t.offsets)

    cornered : (t : Trimmed) (proper : Proper t) (sizes : List ℕ) → t.the_ground ≡ rectangle sizes → (l h : List ℤ) → t.part ≡ box l h → bad_count t.count ≡ false
        → bad_box t.the_ground t.offsets t.part ≡ false ↔ ((crossed l h ≡ false) × (is_iteration t.the_ground t.offsets l ≡ true) × (is_iteration t.the_ground t.offsets h ≡ true))
    cornered t proper sizes i l h e n =
        rw (i, e) (corners sizes t.offsets (subst (λ (g : Ground). Sized (dims g) t.offsets) i proper.entries) (omega (arith, proper.references, some_references t.count n)) l h
        (subst (Bounded (length sizes)) e (subst (λ (g : Ground). Bounded (dims g) t.part) i proper.bounded)))

passing : (t : Trimmed) → Proper t → Passes t → Fitting t
passing t proper p = fitting t proper (some_references t.count p.references) p.part

pub geometry : Geometry
geometry = record {
  iterations = λ c rows p. enumerated (trimmed c rows) (passing (trimmed c rows) (trimmed_proper c rows) p);
  request_iterations = λ r rows p. enumerated (trimmed_request r rows) (passing (trimmed_request r rows) (request_proper r rows) p);
  newest = λ c rows p.
      let f = passing (trimmed c rows) (trimmed_proper c rows) p in
      record { none_newer = newest_most (trimmed c rows) f; read = newest_read (trimmed c rows) f };
  largest = λ c rows e.
      let ok = accepted_chain c rows e in
      let f = fitting_of (trimmed c rows) (trimmed_proper c rows) ok in
      record { most = distance_most (trimmed c rows) f; reached = λ k h. distance_reached (trimmed c rows) f k ok.iterates };
  distances = λ c rows sizes i p.
      let f = passing (trimmed c rows) (trimmed_proper c rows) p in
      record { pair = pair-distance (trimmed c rows) f sizes i; neighbours = same_distance (trimmed c rows) f sizes i };
  cells = λ c rows. placed (trimmed c rows);
  chain_6 = λ c rows. number_6 (trimmed c rows) (trimmed_proper c rows);
  request_6 = λ r rows. number_6 (trimmed_request r rows) (request_proper r rows);
  chain_15 = λ c rows. number_15 (trimmed c rows) (trimmed_proper c rows);
  request_15 = λ r rows. number_15 (trimmed_request r rows) (request_proper r rows);
  full_box_lem = full_box_runs;
}
