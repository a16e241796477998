-- Laws of finding 3 to 6, the centre and the shape together.
use Prim.Native.Nat.{ℕ, zero, suc, ◌+◌, ◌≤◌, ◌<◌}
use mathlib.Core.Bool.{Bool, true, false}
use mathlib.Core.List.{List, []}
use mathlib.Core.Path.{◌≡◌, refl, sym, ◌∙◌, ap}
use native.Mathlib.Decide.{ℕ_discrete, dec_le, dec_lt}
use native.Mathlib.Omega.{arith}
use lib.IntN.{ℤ}
use lib.ListN.{get_or}
use borrow.Author.Tests.{eq-eqb, ne_eqb}
use Rattle.model.specs.Lists.{tabulate, any}
use Rattle.model.specs.Vectors.{plus, equal}
use Rattle.model.specs.Grounds.{position}
use Rattle.model.specs.Grounds.Ground.{rectangle}
use Rattle.model.specs.Courses.{vector, all_iterations}
use Rattle.model.specs.Boxes.{course, bad_box}
use Rattle.model.specs.Answers.{first_of}
use Rattle.model.specs.Values.{sizes_of, offset_of, offsets_of, part_of}
use Rattle.model.specs.Iterations.{course_of}
use Rattle.model.specs.Judging.{bad_grid, bad_count, repeats, no_iteration, window_checks}
use Rattle.model.specs.declared.Bounds.{Bounds}
use Rattle.model.specs.declared.Grid.{Grid}
use Rattle.model.specs.declared.Refusal.TheVariants as refusal
use Rattle.std.specs.Prelude.{Ok, Err}
use Rattle.model.specs.declared.Window.{Window}
use Rattle.grid_laws.proofs.Rectangles.{iteration_count}
use Rattle.grid_laws.proofs.ListLaws.{get_d_tabulate}
use Rattle.grid_laws.proofs.OrderLaws.{equal_is}
use Rattle.grid_laws.proofs.WholeLaws.{rectangle_count}
use Rattle.geometry.specs.Parts.{part, number_at, offset_at, Falls}
use Rattle.shape.specs.Shapes.{shape_for, whole_shape, blank_shape, shape_of, survey_of, Whole}
use Rattle.shape.specs.declared.Shape.{Shape}
use Rattle.windows.specs.Windows.{repeats_in, centre_in}
use Rattle.geometry.proofs.PartLaws.{part_none, part_more, part_all}
use Rattle.windows.proofs.OffsetLaws.{repeats_held}
use Rattle.geometry.proofs.GridLaws.{few_dimensions, few_references}
use Rattle.shape.proofs.ShapeLaws.{blank_iterations, whole_shape_lem}
use Rattle.shape.proofs.Answers.{repeats_is, centre_is}

-- Numbers of which each is above the next.
module _ (f : ℕ → ℕ) where
  pub falls_to : (n m : ℕ) → m ≤ n → Falls f n → Falls f m
  falls_to n m h r k b = r k (omega arith)

  -- Each is above all behind it.
  falls_far : (n i j : ℕ) → Falls f n → i < j → j < n → f j < f i
  falls_far n i zero r h b = absurd (omega arith)
  falls_far n i (suc j) r h b =
      let e : j + 1 ≡ suc j = omega arith in
      let next : f (suc j) < f j = rw e at (r j (omega arith)) in
      at next (ℕ_discrete i j) (λ l. falls_far n i j r l (omega arith))
    where
      at : f (suc j) < f j → Dec (i ≡ j) → (i < j → f j < f i) → f (suc j) < f i
      at next (yes d) far = rw d next
      at next (no d) far = omega (arith, far (omega arith))

-- Vectors with numbers of their own that fall.
module _ (o : ℕ → List ℤ) (key : List ℤ → ℕ) (n : ℕ) (r : Falls (λ k. key (o k)) n) where
  differ : (i j : ℕ) → i < j → j < n → equal (o i) (o j) ≡ false
  differ i j h b = at (equal (o i) (o j)) refl
    where
      at : (t : Bool) → equal (o i) (o j) ≡ t → equal (o i) (o j) ≡ false
      at true e = absurd (omega (arith, ap key (equal_is (o i) (o j) e), falls_far (λ k. key (o k)) n i j r h b))
      at false e = e

  none_later : (m i j : ℕ) → i < j → n ≤ j + m → any (λ p. equal (o i) p) (part o j n) ≡ false
  unfolding any
  none_later zero i j h b = rw (part_none o j n (omega arith))
  none_later (suc m) i j h b = at (dec_lt j n) (none_later m i (j + 1) (omega arith) (omega arith))
    where
      at : Dec (j < n) → any (λ p. equal (o i) p) (part o (j + 1) n) ≡ false → any (λ p. equal (o i) p) (part o j n) ≡ false
      at (yes l) e = rw (part_more o j n l, differ i j h l, e)
      at (no l) e = rw (part_none o j n (omega arith))

  none_twice : (m i : ℕ) → n ≤ i + m → repeats (part o i n) ≡ false
  unfolding repeats
  none_twice zero i b = rw (part_none o i n (omega arith))
  none_twice (suc m) i b = at (dec_lt i n) (none_twice m (i + 1) (omega arith))
    where
      at : Dec (i < n) → repeats (part o (i + 1) n) ≡ false → repeats (part o i n) ≡ false
      at (yes l) e = rw (part_more o i n l, none_later n i (i + 1) (omega arith) (omega arith), e)
      at (no l) e = rw (part_none o i n (omega arith))

  all_differ : repeats (tabulate n o) ≡ false
  all_differ = ap repeats (sym (part_all o n)) ∙ none_twice n 0 (omega arith)

-- One offset alone is not repeated.
alone : (n : ℕ) (o : ℕ → List ℤ) → n ≤ 1 → repeats (tabulate n o) ≡ false
unfolding tabulate repeats any
alone zero o h = refl
alone (suc zero) o h = refl
alone (suc (suc n)) o h = absurd (omega arith)

module _ (g : Grid) (w : Window) (a : bad_grid g.dims (sizes_of g) ≡ false) (b : bad_count w.count ≡ false) where
  -- Offsets whose positions fall differ. Of a blank shape they fall for one reference only.
  pub fallen_differ : (s : Shape) → s ≡ shape_of g w → Falls (number_at s.at) w.count → repeats_in g.dims w ≡ false
  unfolding shape_for blank_shape offsets_of offset_of
  fallen_differ s e r =
      sym (repeats_held g.dims w (few_dimensions g a) (few_references w b)) ∙ at (ℕ_discrete (iteration_count (sizes_of g) (offsets_of g.dims w)) 0)
    where
      few : Dec (w.count ≤ 1) → blank_shape ≡ s → repeats (tabulate w.count (offset_at g.dims w.offsets)) ≡ false
      few (yes h) d = alone w.count (offset_at g.dims w.offsets) h
      few (no h) d =
          absurd (omega (
            arith,
            r 0 (omega arith),
            sym (ap (λ (t : Shape). number_at t.at 0) d) ∙ get_d_tabulate 32 (λ k. 0) 0 0 (omega arith),
            sym (ap (λ (t : Shape). number_at t.at 1) d) ∙ get_d_tabulate 32 (λ k. 0) 1 0 (omega arith),
          ))

      key : List ℤ → ℕ
      key v = position (rectangle (sizes_of g)) (plus (vector (all_iterations (rectangle (sizes_of g)) (offsets_of g.dims w)) 0) v)

      is_key : s ≡ whole_shape (sizes_of g) (offsets_of g.dims w) → (k : ℕ) → k < w.count → number_at s.at k ≡ key (offset_at g.dims w.offsets k)
      is_key d k h =
          ap (λ (t : Shape). number_at t.at k) d
          ∙ get_d_tabulate 32 (λ i. key (get_or (offsets_of g.dims w) i [])) k 0 (omega (arith, few_references w b))
          ∙ ap key (get_d_tabulate w.count (offset_at g.dims w.offsets) k [] h)

      at : Dec (iteration_count (sizes_of g) (offsets_of g.dims w) ≡ 0) → repeats (tabulate w.count (offset_at g.dims w.offsets)) ≡ false
      at (yes z) = few (dec_le w.count 1) (blank_iterations g w a b z ∙ sym e)
      at (no z) =
          let d = e ∙ sym (whole_shape_lem g w a b z) in
          all_differ (offset_at g.dims w.offsets) key w.count
          (λ k h. omega (arith, is_key d k (omega arith), is_key d (k + 1) (omega arith), r k h))

-- What is answered at each check, where those before it pass.
module _ (g : Grid) (w : Window) (x : Bounds) where
  pub survey_grid : bad_grid g.dims (sizes_of g) ≡ true → Err refusal.BadGrid ≡ survey_of g w x
  unfolding survey_of window_checks first_of
  survey_grid e = rw e

  module _ (a : bad_grid g.dims (sizes_of g) ≡ false) where
    pub survey_count : bad_count w.count ≡ true → Err refusal.BadCount ≡ survey_of g w x
    unfolding survey_of window_checks first_of
    survey_count e = rw (a, e)

    module _ (b : bad_count w.count ≡ false) where
      pub survey_repeats : repeats_in g.dims w ≡ true → Err refusal.EqualOffsets ≡ survey_of g w x
      unfolding survey_of window_checks first_of
      survey_repeats e = rw (a, b, sym (repeats_is g w a b) ∙ e)

      module _ (s : Shape) (d : s ≡ shape_of g w) where
        count_is : s.iterations ≡ iteration_count (sizes_of g) (offsets_of g.dims w)
        unfolding shape_for blank_shape
        count_is = at (ℕ_discrete (iteration_count (sizes_of g) (offsets_of g.dims w)) 0)
          where
            at : Dec (iteration_count (sizes_of g) (offsets_of g.dims w) ≡ 0) → s.iterations ≡ iteration_count (sizes_of g) (offsets_of g.dims w)
            at (yes z) = ap (λ (t : Shape). t.iterations) (d ∙ sym (blank_iterations g w a b z)) ∙ sym z
            at (no z) = ap (λ (t : Shape). t.iterations) (d ∙ sym (whole_shape_lem g w a b z)) ∙ rectangle_count (sizes_of g) (offsets_of g.dims w)

        module _ (c : repeats_in g.dims w ≡ false) where
          distinct : repeats (offsets_of g.dims w) ≡ false
          distinct = sym (repeats_is g w a b) ∙ c

          pub survey_iterations : s.iterations ≡ 0 → Err refusal.NoIteration ≡ survey_of g w x
          unfolding survey_of window_checks first_of no_iteration
          survey_iterations z = rw (a, b, distinct, eq-eqb _ 0 (rectangle_count (sizes_of g) (offsets_of g.dims w) ∙ sym count_is ∙ z))

          -- Past all of these 3 to 6 let pass.
          pub known : (m : ℕ) → (s.iterations ≡ 0 → ⊥) → m ≡ centre_in g.dims w → Whole g w m s
          unfolding no_iteration
          known m some e =
              let z : iteration_count (sizes_of g) (offsets_of g.dims w) ≡ 0 → ⊥ = λ q. some (count_is ∙ q) in
              record { grid = a; count = b; distinct = distinct; iterates = ne_eqb _ 0 (λ q. z (sym (rectangle_count (sizes_of g) (offsets_of g.dims w)) ∙ q)); centre_is = e ∙ centre_is g w a b; shape_is = d ∙ sym (whole_shape_lem g w a b z) }

-- Where no box stood, that is the survey.
pub surveyed : (g : Grid) (w : Window) (x : Bounds) (m : ℕ) (s : Shape) → Whole g w m s → x.stood ≡ false
    → Ok (record { centre = m; shape = s }) ≡ survey_of g w x
unfolding survey_of window_checks first_of course_of course part_of bad_box
surveyed g w x m s k e = rw (k.grid, k.count, k.distinct, k.iterates, e, k.centre_is, k.shape_is)
