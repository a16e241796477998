-- The numbers behind a line's row count, as its characters arrive, are those of its bytes.
use Prim.Native.Nat.{ℕ, ◌+◌, ◌-◌, ◌*◌, ◌/◌, ◌%◌, ◌≤◌, ◌<◌}
use mathlib.Core.Bool.{Bool, true, false, cond}
use mathlib.Core.List.{List, [], ◌∷◌, ◌++◌, append_assoc, append-nil}
use mathlib.Core.Path.{◌≡◌, refl, sym, ap, ◌∙◌}
use native.Mathlib.Nat.{mod-eq_of_lt}
use native.Mathlib.Omega.{arith}
use lib.Dec.{leb}
use lib.ListN.{length, get_or, set, replicate, length-append, length-set, length-replicate, get_or-replicate, get_or-append, get_or-eq_default}
use lib.Seq.{set_out, get_or-set_same, get_or-set_other, get_or-append_seam}
use borrow.Author.Tests.{le-leb, lt-leb, eq-eqb, ne_eqb}
use Rattle.model.specs.declared.Frame.{Frame}
use Rattle.model.specs.declared.Reading.{Reading}
use Rattle.std.specs.Prelude.{Ok}
use Rattle.model.specs.Lists.{tabulate}
use Rattle.model_sheet.specs.Frames.{is_digit, value_of, whole, bytes_of, counted, Seen, seen_of, empty_frame, fed, feeds, shown, row_numbers, with_half, numbers_fed, numbers_feeds}
use Rattle.model_sheet.specs.Numbers.{byte_at, half_at}
use Rattle.model_sheet.specs.Reading.{numbers_on, line_verdict, step_of}
use Rattle.model_sheet.proofs.NumberLaws.{numbers_table}
use Rattle.grid_laws.proofs.ListLaws.{length_tabulate, get_d_tabulate, tabulate_same, tabulate_back}
use Rattle.sheet_laws.proofs.Cases.{by_bool, by_eq, by_lt, never, and_true}
use Rattle.sheet_laws.proofs.FrameLaws.{capped, capped_few, capped_many, standing, none_taken_lem, value_small, two_digits, unwhole_frame}
use Rattle.sheet_laws.proofs.AcceptedLines.{refused_accepted}
use Rattle.sheet_laws.proofs.FixedMemory.{Bounded, unsound_verdict, fixed_memory}

-- Two tables that differ in one place at most; a table of zeros.
pub set_table : (m at v : ℕ) (f g : ℕ → ℕ) → (at < m → g at ≡ v) → ((k : ℕ) → k < m → (k ≡ at → ⊥) → g k ≡ f k) → set (tabulate m f) at v ≡ tabulate m g
set_table m at v f g here there =
    sym (tabulate_back 0 (set (tabulate m f) at v) m g (length-set (tabulate m f) at v ∙ length_tabulate m f)
    (λ k h. by_eq k at
    (λ e. rw e (here (omega arith) ∙ sym (get_or-set_same (tabulate m f) at v 0 (omega (arith, length_tabulate m f)))))
    (λ n. there k h n ∙ sym (get_or-set_other (tabulate m f) at k v 0 n ∙ get_d_tabulate m f k 0 h))))

pub zero_table : (m : ℕ) (f : ℕ → ℕ) → ((k : ℕ) → k < m → f k ≡ 0) → replicate m 0 ≡ tabulate m f
zero_table m f zeros =
    sym (tabulate_back 0 (replicate m 0) m f (length-replicate {A = ℕ} m 0) (λ k h. zeros k h ∙ sym (get_or-replicate {A = ℕ} m k 0 0 h)))

-- The numbers on a line, one by one.
abbrev table_on : List ℕ → List ℕ
table_on bs = tabulate row_numbers (λ i. half_at bs (3 + 2 * i))

-- A byte behind others.
module _ (bs : List ℕ) (b : ℕ) where
  abbrev longer : List ℕ
  longer = bs ++ (b ∷ [])

  byte_other : (i : ℕ) → (i ≡ length bs → ⊥) → byte_at longer i ≡ byte_at bs i
  byte_other i n =
      by_lt i (length bs)
      (λ h. get_or-append bs (b ∷ []) 0 i h)
      (λ h. get_or-eq_default longer 0 {n = i} (omega (arith, length-append bs (b ∷ []))) ∙ sym (get_or-eq_default bs 0 {n = i} h))

  byte_here : (i : ℕ) → i ≡ length bs → byte_at longer i ≡ b
  byte_here i e = rw e (get_or-append_seam bs b [] 0)

  byte_past : (i : ℕ) → length bs ≤ i → byte_at bs i ≡ 0
  byte_past i h = get_or-eq_default bs 0 {n = i} h

  half_other : (i : ℕ) → (i ≡ length bs → ⊥) → (i + 1 ≡ length bs → ⊥) → half_at longer i ≡ half_at bs i
  unfolding half_at
  half_other i m n = rw (byte_other i m, byte_other (i + 1) n)

  half_upper : (i : ℕ) → i ≡ length bs → half_at longer i ≡ b * 256
  unfolding half_at
  half_upper i e = rw (byte_here i e, byte_other (i + 1) (λ f. omega arith), byte_past (i + 1) (omega arith)) (omega arith)

  half_lower : (i : ℕ) → i + 1 ≡ length bs → half_at longer i ≡ half_at bs i / 256 * 256 + b
  unfolding half_at
  half_lower i e = rw (byte_other i (λ f. omega arith), byte_here (i + 1) e, byte_past (i + 1) (omega arith)) (omega arith)

  -- One byte more, of a line that has its row count.
  numbers_byte : 3 ≤ length bs → with_half (table_on bs) (length bs - 3) b ≡ table_on longer
  unfolding with_half
  numbers_byte h =
      let n = length bs in
      let at = (n - 3) / 2 in
      by_eq ((n - 3) % 2) 0
      (λ e. rw (eq-eqb _ _ e)
      (set_table row_numbers at (b * 256) (λ i. half_at bs (3 + 2 * i)) (λ i. half_at longer (3 + 2 * i))
      (λ l. half_upper (3 + 2 * at) (omega arith))
      (λ k l d. half_other (3 + 2 * k) (λ f. omega arith) (λ f. omega arith))))
      (λ e. rw (ne_eqb _ _ e)
      (set_table row_numbers at (get_or (table_on bs) at 0 / 256 * 256 + b) (λ i. half_at bs (3 + 2 * i)) (λ i. half_at longer (3 + 2 * i))
      (λ l. half_lower (3 + 2 * at) (omega arith) ∙ ap (λ x. x / 256 * 256 + b) (sym (get_d_tabulate row_numbers (λ i. half_at bs (3 + 2 * i)) at 0 l)))
      (λ k l d. half_other (3 + 2 * k) (λ f. omega arith) (λ f. omega arith))))

  -- A byte of the kind or of the row count, and one behind all numbers.
  numbers_outside : ((k : ℕ) → k < row_numbers → (3 + 2 * k ≡ length bs → ⊥) × (3 + 2 * k + 1 ≡ length bs → ⊥)) → table_on bs ≡ table_on longer
  numbers_outside h = tabulate_same row_numbers _ _ (λ k l. sym (half_other (3 + 2 * k) (h k l).0 (h k l).1))

  past_numbers : with_half (table_on bs) (counted - 3) b ≡ table_on bs
  unfolding with_half
  past_numbers = set_out (table_on bs) row_numbers _ (omega (arith, length_tabulate row_numbers (λ i. half_at bs (3 + 2 * i))))

  -- One byte more, counted as a frame counts.
  numbers_push : cond (leb 3 (capped (length bs))) (with_half (table_on bs) (capped (length bs) - 3) b) (table_on bs) ≡ table_on longer
  numbers_push =
      by_lt (length bs) counted
      (λ c. by_lt (length bs) 3
      (λ l. rw (capped_few _ c, lt-leb _ _ l) (numbers_outside (λ k m. ((λ e. omega arith), (λ e. omega arith)))))
      (λ l. rw (capped_few _ c, le-leb _ _ l) (numbers_byte l)))
      (λ c. rw (capped_many _ c) (past_numbers ∙ numbers_outside (λ k m. ((λ e. omega arith), (λ e. omega arith)))))

-- Two digits are a byte.
numbers_digits : (bs : List ℕ) (a b : ℕ) → is_digit a ≡ true → is_digit b ≡ true
    → numbers_fed (numbers_fed (table_on bs) (standing bs) a) (fed (standing bs) a) b ≡ table_on (bs ++ ((value_of a * 16 + value_of b) ∷ []))
unfolding numbers_fed fed
numbers_digits bs a b p q = rw (p, q, mod-eq_of_lt (value_small a p)) (numbers_push bs (value_of a * 16 + value_of b))

numbers_from_lem : (bs ds : List ℕ) → whole ds ≡ true → numbers_feeds (table_on bs) (standing bs) ds ≡ table_on (bs ++ bytes_of ds)
unfolding whole bytes_of numbers_feeds
numbers_from_lem bs [] h = ap table_on (sym (append-nil bs))
numbers_from_lem bs (a ∷ []) h = absurd (never (sym h))
numbers_from_lem bs (a ∷ b ∷ ds) h =
    let p = and_true (is_digit a) _ h in
    let q = and_true (is_digit b) _ p.1 in
    let byte = value_of a * 16 + value_of b in
    ap (λ ns. numbers_feeds ns (fed (fed (standing bs) a) b) ds) (numbers_digits bs a b p.0 q.0)
    ∙ ap (λ f. numbers_feeds (table_on (bs ++ (byte ∷ []))) f ds) (two_digits bs a b p.0 q.0)
    ∙ numbers_from_lem (bs ++ (byte ∷ [])) ds q.1
    ∙ ap table_on (append_assoc bs (byte ∷ []) (bytes_of ds))

no_numbers : replicate row_numbers 0 ≡ table_on []
unfolding half_at
no_numbers = zero_table row_numbers (λ i. half_at [] (3 + 2 * i)) (λ k h. refl)

-- A whole line.
pub numbers_whole : (ds : List ℕ) → whole ds ≡ true → numbers_feeds (replicate row_numbers 0) empty_frame ds ≡ numbers_on (bytes_of ds)
numbers_whole ds h =
    ap (λ ns. numbers_feeds ns empty_frame ds) no_numbers
    ∙ ap (λ f. numbers_feeds (table_on []) f ds) (sym none_taken_lem)
    ∙ numbers_from_lem [] ds h
    ∙ sym (numbers_table (bytes_of ds))

-- A line that arrives in pieces.
pub numbers_pieces : (ns : List ℕ) (f : Frame) (a b : List ℕ) → numbers_feeds ns f (a ++ b) ≡ numbers_feeds (numbers_feeds ns f a) (feeds f a) b
unfolding numbers_feeds feeds
numbers_pieces ns f [] b = refl
numbers_pieces ns f (d ∷ ds) b = numbers_pieces (numbers_fed ns f d) (fed f d) ds b

-- A line of which the numbers are those that have arrived on it is judged and read as the whole line is.
unsound_step : (chain_sheet : Bool) (ns ms : List ℕ) (r : Reading) (l : Seen) → l.sound ≡ false → step_of chain_sheet ns r l ≡ step_of chain_sheet ms r l
unfolding step_of
unsound_step chain_sheet ns ms r l h = rw (unsound_verdict chain_sheet ns r l h, unsound_verdict chain_sheet ms r l h)

pub numbers_step : (chain_sheet : Bool) (r : Reading) (ds : List ℕ) → Bounded r
    → step_of chain_sheet (numbers_feeds (replicate row_numbers 0) empty_frame ds) r (shown (feeds empty_frame ds)) ≡ step_of chain_sheet (numbers_on (bytes_of ds)) r (seen_of true ds)
numbers_step chain_sheet r ds few =
    let arrived = numbers_feeds (replicate row_numbers 0) empty_frame ds in
    fixed_memory chain_sheet arrived r ds few
    ∙ by_bool (whole ds)
    (λ h. ap (λ ns. step_of chain_sheet ns r (seen_of true ds)) (numbers_whole ds h))
    (λ h. unsound_step chain_sheet arrived (numbers_on (bytes_of ds)) r (seen_of true ds) h)

-- Where it is accepted, they are its own.
pub numbers_accepted : (chain_sheet : Bool) (numbers : List ℕ) (r : Reading) (ds : List ℕ)
    → line_verdict chain_sheet numbers r (shown (feeds empty_frame ds)) ≡ Ok tt
    → numbers_feeds (replicate row_numbers 0) empty_frame ds ≡ numbers_on (bytes_of ds)
numbers_accepted chain_sheet numbers r ds e =
    by_bool (whole ds)
    (λ h. numbers_whole ds h)
    (λ h. absurd (refused_accepted (sym (unsound_verdict chain_sheet numbers r (shown (feeds empty_frame ds)) (unwhole_frame ds h)) ∙ e)))
