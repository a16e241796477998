-- What stands past the counts plays no part.
use Prim.Native.Nat.{ℕ, zero, suc, ◌+◌, ◌-◌, ◌*◌, ◌<◌}
use mathlib.Core.Bool.{Bool, true, false, cond, true≢false}
use mathlib.Core.List.{List, [], ◌∷◌, ◌++◌, map, flat_map}
use mathlib.Core.Path.{◌≡◌, refl, sym, ◌∙◌, ap, ap₂}
use native.Mathlib.Omega.{arith}
use lib.Dec.{ltb}
use lib.IntN.{ℤ, pos}
use lib.ListN.{length, get_or, drop}
use Rattle.model.specs.Lists.{tabulate, up_to}
use Rattle.model.specs.Boxes.{Part}
use Rattle.model.specs.Boxes.Part.{whole, box}
use Rattle.model.specs.Grounds.{Row}
use Rattle.model.specs.Grounds.Ground.{rectangle, skewed}
use Rattle.model.specs.Values.{Trimmed, sizes_of, rows_of, ground_of, dims_of, offset_of, offsets_of, part_of, capacities_of, order_of, trimmed_of, on_grid, trimmed, chain_of, Same}
use Rattle.model.specs.Answers.{check, first_of, by_verdict}
use Rattle.model.specs.Judging.{judged, judge_chain}
use Rattle.model.specs.Steps.{sorted, distances}
use Rattle.model.specs.Planning.{trimmed_request, judge_request, planned_chain, plan_of}
use Rattle.model_sheet.specs.Frames.{framed}
use Rattle.model_sheet.specs.Numbers.{word_bytes, word_pattern}
use Rattle.model_sheet.specs.Writing.{ground_line, offset_line, index_pair, box_lines, capacity_line, order_lines, kernel_line, chain_lines, sheet_of, write_verdict, Written, write_of}
use Rattle.model.specs.declared.Bounds.{Bounds}
use Rattle.model.specs.declared.Grid.{Grid}
use Rattle.model.specs.declared.Window.{Window}
use Rattle.model.specs.declared.Kernel.{Kernel}
use Rattle.model.specs.declared.Kernel.TheVariants as kernel
use Rattle.model.specs.declared.Order.{Order}
use Rattle.model.specs.declared.Request.{Request}
use Rattle.model.specs.declared.Chain.{Chain}
use Rattle.model.specs.declared.Refusal.{Refusal}
use Rattle.model.specs.declared.Refusal.TheVariants as refusal
use Rattle.std.specs.Prelude.{Result, Ok, Err}
use Rattle.grid_laws.proofs.ListLaws.{get_d_tabulate, tabulate_same}
use Rattle.demands.specs.PastCounts.{GridsAgree, WindowsAgree, BoundsAgree, OrdersAgree, ChainsAgree, RequestsAgree, SameRequest, PastCounts}

-- Lists of equally many entries, the same at each place.
module _ {A : Type 0} where
  alike : (n m : ℕ) (f g : ℕ → A) → n ≡ m → ((k : ℕ) → k < n → f k ≡ g k) → tabulate n f ≡ tabulate m g
  alike n m f g e h = tabulate_same n f g h ∙ ap (λ (l : ℕ). tabulate l g) e

flat_alike : (n : ℕ) (h : ℕ → ℕ) (f g : ℕ → List ℕ) → ((k : ℕ) → k < n → f (h k) ≡ g (h k)) → flat_map f (tabulate n h) ≡ flat_map g (tabulate n h)
unfolding tabulate flat_map
flat_alike zero h f g e = refl
flat_alike (suc n) h f g e = ap₂ ◌++◌ (e 0 (omega arith)) (flat_alike n (λ i. h (suc i)) f g (λ k b. e (suc k) (omega arith)))

rows_alike : (n m : ℕ) (rows rows' : List ℕ) → n ≡ m → ((i : ℕ) → i < 2 * n → get_or rows i 0 ≡ get_or rows' i 0) → rows_of n rows ≡ rows_of m rows'
unfolding rows_of
rows_alike n m rows rows' e same =
    alike n m _ _ e (λ i h. ap₂ (λ (x y : ℕ). let r : Row = record { start = x; length = y } in r) (same (2 * i) (omega arith)) (same (2 * i + 1) (omega arith)))

module _ (g h : Grid) (rows rows' : List ℕ) (a : GridsAgree g rows h rows') where
  dims_alike : dims_of g ≡ dims_of h
  unfolding dims_of
  dims_alike = go g.skewed h.skewed refl a.skewed
    where
      go : (s t : Bool) → g.skewed ≡ s → s ≡ t → cond s 2 g.dims ≡ cond t 2 h.dims
      go true true e d = refl
      go false false e d = a.dims e
      go true false e d = absurd (true≢false d)
      go false true e d = absurd (true≢false (sym d))

  ground_alike : ground_of g rows ≡ ground_of h rows'
  unfolding ground_of sizes_of
  ground_alike = go g.skewed h.skewed refl a.skewed
    where
      go : (s t : Bool) → g.skewed ≡ s → s ≡ t
          → cond s (skewed (rows_of g.rows rows)) (rectangle (tabulate g.dims (λ d. get_or g.sizes d 0)))
          ≡ cond t (skewed (rows_of h.rows rows')) (rectangle (tabulate h.dims (λ d. get_or h.sizes d 0)))
      go true true e d = ap skewed (rows_alike g.rows h.rows rows rows' (a.count e) (a.lent e))
      go false false e d = ap rectangle (alike g.dims h.dims _ _ (a.dims e) (a.sizes e))
      go true false e d = absurd (true≢false d)
      go false true e d = absurd (true≢false (sym d))

offsets_alike : (n m : ℕ) (v w : Window) → n ≡ m → WindowsAgree n v w → offsets_of n v ≡ offsets_of m w
unfolding offsets_of offset_of
offsets_alike n m v w e a = alike v.count w.count _ _ a.count (λ k b. alike n m _ _ e (λ d c. a.entries k d b c))

parts_alike : (n m : ℕ) (a b : Bounds) → n ≡ m → BoundsAgree n a b → part_of n a ≡ part_of m b
unfolding part_of
parts_alike n m a b e x = go a.stood b.stood refl x.stood
  where
    go : (s t : Bool) → a.stood ≡ s → s ≡ t
        → cond s (box (tabulate n (λ d. get_or a.lowest d (pos 0))) (tabulate n (λ d. get_or a.highest d (pos 0)))) whole
        ≡ cond t (box (tabulate m (λ d. get_or b.lowest d (pos 0))) (tabulate m (λ d. get_or b.highest d (pos 0)))) whole
    go true true h d = ap₂ box (alike n m _ _ e (x.lowest h)) (alike n m _ _ e (x.highest h))
    go false false h d = refl
    go true false h d = absurd (true≢false d)
    go false true h d = absurd (true≢false (sym d))

trimmed_alike : (g h : Grid) (rows rows' : List ℕ) (v w : Window) (p q : Bounds) (xs ys : List ℕ) (s t : Bool) (os ps : List ℕ) (k l : Kernel)
    → GridsAgree g rows h rows' → WindowsAgree (dims_of g) v w → BoundsAgree (dims_of g) p q → xs ≡ ys → s ≡ t → os ≡ ps → k ≡ l
    → trimmed_of g rows v p xs s os k ≡ trimmed_of h rows' w q ys t ps l
trimmed_alike g h rows rows' v w p q xs ys s t os ps k l a b x capacities stood order kernel = λ i. record {
  dims = dims_alike g h rows rows' a i;
  the_ground = ground_alike g h rows rows' a i;
  count = b.count i;
  offsets = offsets_alike (dims_of g) (dims_of h) v w (dims_alike g h rows rows' a) b i;
  part = parts_alike (dims_of g) (dims_of h) p q (dims_alike g h rows rows' a) x i;
  capacities = capacities i;
  ordered = stood i;
  order = order i;
  kernel = kernel i;
}

orders_alike : (n m : ℕ) (o p : Order) → n ≡ m → OrdersAgree n o p → order_of n o ≡ order_of m p
unfolding order_of
orders_alike n m o p e a = go o.stood p.stood refl a.stood
  where
    go : (s t : Bool) → o.stood ≡ s → s ≡ t → cond s (tabulate n (λ i. get_or o.filters i 0)) [] ≡ cond t (tabulate m (λ i. get_or p.filters i 0)) []
    go true true h d = alike n m _ _ e (a.filters h)
    go false false h d = refl
    go true false h d = absurd (true≢false d)
    go false true h d = absurd (true≢false (sym d))

same_chains : (c d : Chain) (rows rows' : List ℕ) → ChainsAgree c rows d rows' → Same c rows d rows'
unfolding trimmed capacities_of
same_chains c d rows rows' a =
    trimmed_alike c.grid d.grid rows rows' c.window d.window c.bounds d.bounds (capacities_of c) (capacities_of d) c.order.stood d.order.stood
    (order_of c.window.count c.order) (order_of d.window.count d.order) c.kernel d.kernel a.grid a.window a.bounds
    (alike (c.window.count - 1) (d.window.count - 1) _ _ (ap (λ (n : ℕ). n - 1) a.window.count) a.capacities)
    a.order.stood (orders_alike c.window.count d.window.count c.order d.order a.window.count a.order) a.kernel

apart : (c d : Chain) (rows rows' : List ℕ) → c.order.stood ≡ true → d.order.stood ≡ false → Same c rows d rows' → ⊥
unfolding trimmed
apart c d rows rows' s n e = true≢false (sym s ∙ ap (λ (t : Trimmed). t.ordered) e ∙ n)

-- A box is not none.
boxed : Part → Bool
boxed whole = false
boxed (box lowest highest) = true

boxed_stood : (dims : ℕ) (b : Bounds) → boxed (part_of dims b) ≡ b.stood
unfolding boxed part_of
boxed_stood dims b = go b.stood
  where
    go : (t : Bool) → boxed (cond t (box (tabulate dims (λ d. get_or b.lowest d (pos 0))) (tabulate dims (λ d. get_or b.highest d (pos 0)))) whole) ≡ t
    go true = refl
    go false = refl

box_apart : (c d : Chain) (rows rows' : List ℕ) → c.bounds.stood ≡ true → d.bounds.stood ≡ false → Same c rows d rows' → ⊥
unfolding trimmed
box_apart c d rows rows' s n e =
    true≢false (sym s ∙ sym (boxed_stood (dims_of c.grid) c.bounds) ∙ ap (λ (t : Trimmed). boxed t.part) e ∙ boxed_stood (dims_of d.grid) d.bounds ∙ n)

box_asked : (r q : Request) (rows rows' : List ℕ) → r.bounds.stood ≡ true → q.bounds.stood ≡ false → SameRequest r rows q rows' → ⊥
unfolding trimmed_request
box_asked r q rows rows' s n e =
    true≢false (sym s ∙ sym (boxed_stood (dims_of r.grid) r.bounds) ∙ ap (λ (t : Trimmed). boxed t.part) e ∙ boxed_stood (dims_of q.grid) q.bounds ∙ n)

same_requests : (r q : Request) (rows rows' : List ℕ) → RequestsAgree r rows q rows' → SameRequest r rows q rows'
unfolding trimmed_request
same_requests r q rows rows' a =
    both r.kernel q.kernel (distances (sorted (on_grid r.grid rows r.window r.bounds))) (distances (sorted (on_grid q.grid rows' q.window q.bounds))) a.kernel
    (ap (λ (t : Trimmed). distances (sorted t)) (both kernel.Raw kernel.Raw [] [] refl refl))
  where
    both : (k l : Kernel) (xs ys : List ℕ) → k ≡ l → xs ≡ ys → trimmed_of r.grid rows r.window r.bounds xs false [] k ≡ trimmed_of q.grid rows' q.window q.bounds ys false [] l
    both k l xs ys f e = trimmed_alike r.grid q.grid rows rows' r.window q.window r.bounds q.bounds xs ys false false [] [] k l a.grid a.window a.bounds e refl refl f

-- What is written of a chain, from what plays a part.
box_from : (dims : ℕ) → Part → List (List ℕ)
box_from dims whole = []
box_from dims (box lowest highest) = (8 ∷ flat_map (λ d. word_bytes (word_pattern (get_or lowest d (pos 0))) ++ word_bytes (word_pattern (get_or highest d (pos 0)))) (up_to dims)) ∷ []

lines_from : Trimmed → List (List ℕ)
lines_from t = ground_line t.dims t.the_ground ∷ (map offset_line t.offsets ++ (box_from t.dims t.part ++ (map capacity_line t.capacities ++ (cond t.ordered ((6 ∷ t.order) ∷ []) [] ++ (kernel_line t.kernel ∷ [])))))

written_from : Trimmed → List ℕ → Written
written_from t output =
    let sheet = flat_map framed (lines_from t) in
    let last = first_of (check (ltb (length output) (length sheet)) refusal.ShortOutput ∷ []) in
    by_verdict (by_verdict (judged t) last Err)
    (record { answer = Ok (length sheet); output = sheet ++ drop (length sheet) output }) (λ x. record { answer = Err x; output = output })

box_from_lem : (dims : ℕ) (b : Bounds) → box_lines dims b ≡ box_from dims (part_of dims b)
unfolding box_lines index_pair box_from part_of up_to
box_from_lem dims b = go b.stood
  where
    pair : List ℤ → List ℤ → ℕ → List ℕ
    pair ls hs d = word_bytes (word_pattern (get_or ls d (pos 0))) ++ word_bytes (word_pattern (get_or hs d (pos 0)))

    low : List ℤ
    low = tabulate dims (λ d. get_or b.lowest d (pos 0))

    high : List ℤ
    high = tabulate dims (λ d. get_or b.highest d (pos 0))

    same : (d : ℕ) → d < dims → pair b.lowest b.highest d ≡ pair low high d
    same d h =
        ap₂ (λ (x y : ℤ). word_bytes (word_pattern x) ++ word_bytes (word_pattern y)) (sym (get_d_tabulate dims _ d (pos 0) h)) (sym (get_d_tabulate dims _ d (pos 0) h))

    go : (t : Bool) → cond t ((8 ∷ flat_map (pair b.lowest b.highest) (up_to dims)) ∷ []) [] ≡ box_from dims (cond t (box low high) whole)
    go true = ap (λ (bs : List ℕ). (8 ∷ bs) ∷ []) (flat_alike dims (λ k. k) (pair b.lowest b.highest) (pair low high) same)
    go false = refl

written_from_lem : (c : Chain) (rows output : List ℕ) → write_of c rows output ≡ written_from (trimmed c rows) output
unfolding write_of write_verdict sheet_of chain_lines order_lines judge_chain trimmed lines_from written_from
written_from_lem c rows output = rw (box_from_lem (dims_of c.grid) c.bounds)

written_alike : (c d : Chain) (rows rows' : List ℕ) → Same c rows d rows' → (output : List ℕ) → write_of c rows output ≡ write_of d rows' output
written_alike c d rows rows' e output = written_from_lem c rows output ∙ ap (λ (t : Trimmed). written_from t output) e ∙ sym (written_from_lem d rows' output)

-- What is planned of a request.
planned_from : Trimmed → Result Chain Refusal
planned_from t = by_verdict (judged t) (Ok (chain_of (sorted t))) Err

planned_from_lem : (r : Request) (rows : List ℕ) → plan_of r rows ≡ planned_from (trimmed_request r rows)
unfolding plan_of planned_chain judge_request planned_from
planned_from_lem r rows = refl

planned_alike : (r q : Request) (rows rows' : List ℕ) → SameRequest r rows q rows' → plan_of r rows ≡ plan_of q rows'
planned_alike r q rows rows' e = planned_from_lem r rows ∙ ap planned_from e ∙ sym (planned_from_lem q rows')

judged_alike : (r q : Request) (rows rows' : List ℕ) → SameRequest r rows q rows' → judge_request r rows ≡ judge_request q rows'
unfolding judge_request
judged_alike r q rows rows' e = ap judged e

pub past_counts : PastCounts
past_counts = record { same_chains = same_chains; same_requests = same_requests; apart = apart; box_apart = box_apart; box_asked = box_asked; written = written_alike; judged = judged_alike; planned = planned_alike }
