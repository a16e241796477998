-- Values of the same grid, window and box: the same iterations, and which of them is right with the fewest places.
use Prim.Native.Nat.{ℕ, zero, suc, ◌+◌, ◌-◌, ◌≤◌, ◌<◌}
use mathlib.Core.Bool.{Bool, true, false, and-eq-true_iff}
use mathlib.Core.List.{List, [], ◌∷◌, map}
use mathlib.Core.Path.{◌≡◌, refl, sym, ◌∙◌, ap, ap₂}
use native.Mathlib.Nat.{suc_inj}
use native.Mathlib.Omega.{arith}
use lib.Dec.{eqb}
use lib.ListN.{length, get_or}
use lib.IntN.{ℤ}
use lib.Seq.{ext_get_or}
use Rattle.model.specs.Lists.{tabulate, sum, greatest, all}
use Rattle.model.specs.Vectors.{plus}
use Rattle.model.specs.Grounds.{Ground, dims, position, inside, is_iteration}
use Rattle.model.specs.Courses.{Course, count, vector}
use Rattle.model.specs.Boxes.{Part, box_course, course, bad_box}
use Rattle.model.specs.Boxes.Part.{whole, box}
use Rattle.model.specs.Windows.{Among, Members}
use Rattle.model.specs.Values.{Trimmed}
use Rattle.model.specs.Sized.{Sized, Bounded, Proper, Fitting}
use Rattle.model.specs.Iterations.{position_of, course_of, iterations_of, iteration_of, reads_of, firsts, distance_in, distance_of, newest_of, clock_of}
use Rattle.grid_laws.specs.Right.{Falls, Right, Planned}
use Rattle.grid_laws.proofs.ListLaws.{length_tabulate, get_d_tabulate, all_each, each_all, greatest_same}
use Rattle.grid_laws.proofs.BoxLaws.{box_passes, passes_box}
use Rattle.grid_laws.proofs.SameCourses.{same_course}
use Rattle.grid_laws.proofs.FallingLaws.{Falling, Stands, same_index, same_number}
use Rattle.grid_laws.proofs.Iterations.{falls}

-- Windows with the same offsets have the same iterations, and so 15 turns their boxes back alike.
pub same_iterations : (g : Ground) (a b : List (List ℤ)) → Members b a → (v : List ℤ) → is_iteration g a v ≡ true → is_iteration g b v ≡ true
unfolding is_iteration
same_iterations g a b n v e =
    let stays : List ℤ → Bool = λ o. inside g (plus v o) in
    let (entries, each) = (and-eq-true_iff (eqb (length v) (dims g)) (all stays a)).0 e in
    (and-eq-true_iff _ _).1 (entries, each_all stays b [] (λ k h. let (l, c, f) = n k h in rw f at (all_each stays a [] each l c)))

same_fits : (g : Ground) (a b : List (List ℤ)) (p : Part) → Members b a → Bounded (dims g) p → bad_box g a p ≡ false → bad_box g b p ≡ false
unfolding bad_box
same_fits g a b whole n bounded fits = refl
same_fits g a b (box l h) n bounded fits =
    let (x, f) = box_passes g l h bounded a fits in
    passes_box g l h bounded b x (λ j i. same_iterations g a b n (vector (box_course g l h) j) (f j i))

module _ (t u : Trimmed) (e : t.the_ground ≡ u.the_ground) (m : Members t.offsets u.offsets) (n : Members u.offsets t.offsets) (d : t.part ≡ u.part) where
  same_courses : course_of t ≡ course_of u
  unfolding course_of
  same_courses = same_course t.offsets u.offsets m n t.the_ground t.part ∙ ap₂ (λ (g : Ground) (p : Part). course g u.offsets p) e d

  pub same_count : iterations_of t ≡ iterations_of u
  unfolding iterations_of
  same_count = ap count same_courses

  pub same_iteration : (j : ℕ) → iteration_of t j ≡ iteration_of u j
  unfolding iteration_of
  same_iteration j = ap (λ (c : Course). vector c j) same_courses

  -- What a reference reads of the one, a reference reads of the other, in every iteration.
  pub read_too : (k : ℕ) → k < length t.offsets → (l : ℕ) × (l < length u.offsets) × ((j : ℕ) → reads_of u j l ≡ reads_of t j k)
  unfolding reads_of position_of
  read_too k b =
      let (l, c, f) = m k b in (
        l,
        c,
        λ j. ap₂ (λ (v o : List ℤ). position u.the_ground (plus v o)) (sym (same_iteration j)) f
            ∙ ap (λ (g : Ground). position g (plus (iteration_of t j) (get_or t.offsets k []))) (sym e),
      )

  -- And the other way round.
  read_back_lem : (k : ℕ) → k < length u.offsets → (l : ℕ) × (l < length t.offsets) × ((j : ℕ) → reads_of t j l ≡ reads_of u j k)
  unfolding reads_of position_of
  read_back_lem k b =
      let (l, c, f) = n k b in (
        l,
        c,
        λ j. ap₂ (λ (v o : List ℤ). position t.the_ground (plus v o)) (same_iteration j) f
            ∙ ap (λ (g : Ground). position g (plus (iteration_of u j) (get_or u.offsets k []))) e,
      )

  -- Where the one's box passes 15, so does the other's.
  pub fitting_too : Fitting t → length u.offsets ≡ u.count → Sized (dims u.the_ground) u.offsets → Bounded (dims u.the_ground) u.part → Fitting u
  fitting_too f count sized bounded =
      let (l, b, x) = m 0 f.suits.some in
      record {
        references = count;
        suits = record {
          some = omega arith;
          entries = sized;
          bounded = bounded;
          fits = rw (e, d) at (same_fits t.the_ground t.offsets u.offsets t.part n f.suits.bounded f.suits.fits);
        };
      }

  -- Where the offsets of both fall, they stand in one order.
  module _ (ft : Fitting t) (fu : Fitting u) (some : 0 < iterations_of t) (a : Falls t) (b : Falls u) where
    pub same_order : t.offsets ≡ u.offsets
    unfolding read_too
    same_order = ext_get_or [] t.offsets u.offsets (same_number (length t.offsets) (length u.offsets) (reads_of t 0) (reads_of u 0) ta ub there back) entry
      where
        ta : Falling (length t.offsets) (reads_of t 0)
        ta k h = (falls t ft 0 k (suc k) some (omega (arith, ft.references)) (omega (arith, ft.references))).0 (a k (omega (arith, ft.references)))

        ub : Falling (length u.offsets) (reads_of u 0)
        ub k h = (falls u fu 0 k (suc k) (omega (arith, same_count)) (omega (arith, fu.references)) (omega (arith, fu.references))).0 (b k (omega (arith, fu.references)))

        there : Stands (length t.offsets) (length u.offsets) (reads_of t 0) (reads_of u 0)
        there k h = let (l, b, f) = read_too k h in (l, b, f 0)

        back : Stands (length u.offsets) (length t.offsets) (reads_of u 0) (reads_of t 0)
        back k h = let (l, b, f) = read_back_lem k h in (l, b, f 0)

        entry : (k : ℕ) → k < length t.offsets → get_or t.offsets k [] ≡ get_or u.offsets k []
        entry k h =
            let (l, i, f) = m k h in
            sym f ∙ ap (λ (l : ℕ). get_or u.offsets l [])
            (same_index (length t.offsets) (length u.offsets) (reads_of t 0) (reads_of u 0) ta ub there back k l h i ((read_too k h).2 0))

    -- So each pair has the same distance.
    pub same_distances : (k : ℕ) → distance_of t k ≡ distance_of u k
    unfolding distance_of distance_in reads_of position_of iteration_of
    same_distances k =
        ap₂ (λ (g : Ground) (c : Course). greatest (map (λ j. position g (plus (vector c j) (get_or t.offsets k [])) - position g (plus (vector c j) (get_or t.offsets (suc k) []))) (firsts c.shape))) e same_courses
        ∙ ap (λ (os : List (List ℤ)). greatest (map (λ j. position u.the_ground (plus (vector (course_of u) j) (get_or os k [])) - position u.the_ground (plus (vector (course_of u) j) (get_or os (suc k) []))) (firsts (course_of u).shape))) same_order

-- Lists of numbers of which each is at most the other's.
sum_most : (xs ys : List ℕ) → length xs ≡ length ys → ((k : ℕ) → k < length xs → get_or xs k 0 ≤ get_or ys k 0) → sum xs ≤ sum ys
unfolding sum
sum_most [] ys n f = omega arith
sum_most (x ∷ xs) [] n f = absurd (omega arith)
sum_most (x ∷ xs) (y ∷ ys) n f = omega (arith, f 0 (omega arith), sum_most xs ys (suc_inj n) (λ k h. f (suc k) (omega arith)))

-- Of two values of the same grid, window and box the planned one has no more places than the other, if that is right.
pub fewest_places : (t u : Trimmed) → t.the_ground ≡ u.the_ground → Members t.offsets u.offsets → Members u.offsets t.offsets → t.part ≡ u.part
    → Proper t → Proper u → Fitting t → 0 < iterations_of t → Planned t → Right u → sum t.capacities ≤ sum u.capacities
fewest_places t u e m n d pt pu ft some planned right =
    sum_most t.capacities u.capacities (omega (arith, pt.fifos, pu.fifos, same_counts)) (λ k h.
    let g : suc k < t.count = omega (arith, pt.fifos) in
    let i : suc k < u.count = omega (arith, same_counts) in
    omega (arith, (planned k g).exact, (right k i).holds, same_distances t u e m n d ft fu some falls_t falls_u k))
  where
    fu : Fitting u
    fu = fitting_too t u e m n d ft pu.references pu.entries pu.bounded

    falls_t : Falls t
    falls_t k h = (planned k h).falls

    falls_u : Falls u
    falls_u k h = (right k h).falls

    same_counts : t.count ≡ u.count
    same_counts = sym pt.references ∙ ap (λ (os : List (List ℤ)). length os) (same_order t u e m n d ft fu some falls_t falls_u) ∙ pu.references

-- What goes by all that is read of the one is the same of the other: a number of each reference, the greatest of them.
same_greatest : (t u : Trimmed) (f : Trimmed → ℕ → ℕ) → ((k : ℕ) → k < length t.offsets → (l : ℕ) × (l < length u.offsets) × (f u l ≡ f t k))
    → ((k : ℕ) → k < length u.offsets → (l : ℕ) × (l < length t.offsets) × (f t l ≡ f u k))
    → greatest (tabulate (length t.offsets) (f t)) ≡ greatest (tabulate (length u.offsets) (f u))
same_greatest t u f there back =
    greatest_same (tabulate (length t.offsets) (f t)) (tabulate (length u.offsets) (f u)) 0 (side t u there) (side u t back)
  where
    side : (t u : Trimmed) → ((k : ℕ) → k < length t.offsets → (l : ℕ) × (l < length u.offsets) × (f u l ≡ f t k))
        → Among 0 (tabulate (length t.offsets) (f t)) (tabulate (length u.offsets) (f u))
    side t u g k h =
        let c = rw length_tabulate at h in
        let (l, b, x) = g k c in
        (l, rw length_tabulate b, get_d_tabulate (length u.offsets) (f u) l 0 b ∙ x ∙ sym (get_d_tabulate (length t.offsets) (f t) k 0 c))

module _ (t u : Trimmed) (e : t.the_ground ≡ u.the_ground) (m : Members t.offsets u.offsets) (n : Members u.offsets t.offsets) (d : t.part ≡ u.part) where
  -- They have the same newest cells
  pub same_newest : (j : ℕ) → newest_of t j ≡ newest_of u j
  unfolding newest_of
  same_newest j = same_greatest t u (λ v k. reads_of v j k)
      (λ k h. let (l, b, f) = read_too t u e m n d k h in (l, b, f j)) (λ k h. let (l, b, f) = read_back_lem t u e m n d k h in (l, b, f j))

  -- and the same clocks.
  pub same_clocks : (j : ℕ) → clock_of t j ≡ clock_of u j
  unfolding clock_of
  same_clocks zero = same_newest 0
  same_clocks (suc j) = ap₂ (λ (x y : ℕ). x + y) (same_clocks j)
      (same_greatest t u (λ v k. reads_of v (suc j) k - reads_of v j k)
      (λ k h. let (l, b, f) = read_too t u e m n d k h in (l, b, ap₂ (λ (x y : ℕ). x - y) (f (suc j)) (f j)))
      (λ k h. let (l, b, f) = read_back_lem t u e m n d k h in (l, b, ap₂ (λ (x y : ℕ). x - y) (f (suc j)) (f j))))
