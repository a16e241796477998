-- What a chain read from a sheet holds: arrays of their lengths, entries of 16 bits, indices of 32, a dimension count and filter numbers of 8, factors that binary32 holds.
use Prim.Native.Nat.{ℕ, zero, suc, ◌+◌, ◌<◌}
use mathlib.Core.Bool.{Bool, true, false, cond}
use mathlib.Core.List.{List, [], ◌∷◌, map}
use mathlib.Core.Path.{◌≡◌, refl, ◌∙◌}
use native.Mathlib.Omega.{arith}
use lib.Dec.{eqb, ltb}
use lib.Ieee.{binary32}
use lib.Ieee.Bits.{of_bits-fits}
use lib.IntN.{ℤ, pos}
use lib.ListN.{length, get_or, set, length-set}
use lib.Seq.{sets}
use lib.Signed.{mag}
use borrow.Author.Tests.{ltb-true, ltb-false}
use Rattle.model.specs.Answers.{Verdict, by_verdict}
use Rattle.model_sheet.specs.Frames.{whole, Seen, seen_of}
use Rattle.model_sheet.specs.Lines.{Line, lines_of}
use Rattle.model.specs.Lists.{tabulate, all}
use Rattle.model_sheet.specs.NamedWindows.{windows, named_of, entries_of, with_references, window_named}
use Rattle.model_sheet.specs.Numbers.{byte_at, signed, signed_word, word_at}
use Rattle.model_sheet.specs.Reading.{with_grid, with_rows, with_offset, with_name, with_box, with_capacity, with_order, with_kernel, kernel_in, entries_in, lowest_in, highest_in, sizes_in, filters_in, taken, step_of, start, read_lines, line_verdict}
use Rattle.model.specs.declared.Bounds.{Bounds}
use Rattle.model.specs.declared.Chain.{Chain}
use Rattle.model.specs.declared.LineStep.{LineStep}
use Rattle.model.specs.declared.Order.{Order}
use Rattle.model.specs.declared.Reading.{Reading}
use Rattle.std.specs.Prelude.{Ok, Err}
use Rattle.model.specs.declared.Window.{Window}
use Rattle.model.specs.Values.{blank_window, with_reference}
use Rattle.grid_laws.proofs.ListLaws.{length_tabulate}
use Rattle.model_sheet.proofs.NameLaws.{by_name_lem}
use Rattle.sheet_laws.proofs.AcceptedLines.{admitted}
use Rattle.sheet_laws.proofs.Cases.{by_bool, and_true}
use Rattle.sheet_trips.specs.RoundTrips.{FactorsFit}
use Rattle.sheet_trips.proofs.Bytes.{small_bytes, small_at, small_padded, blank_at}
use Rattle.sheet_trips.proofs.LineGoes.{small_entries, small_fits}

abbrev Each : List ℤ → Type 0
Each l = (i : ℕ) → mag (get_or l i (pos 0)) < 32768

-- What holds of the function's values and of the default holds of every entry.
pub each_tabulate : {A : Type 0} (P : A → Type 0) (n : ℕ) (f : ℕ → A) (d : A) → ((i : ℕ) → P (f i)) → P d → (i : ℕ) → P (get_or (tabulate n f) i d)
unfolding tabulate
each_tabulate P zero f d h z i = z
each_tabulate P (suc n) f d h z zero = h 0
each_tabulate P (suc n) f d h z (suc i) = each_tabulate P n (λ j. f (suc j)) d (λ j. h (suc j)) z i

abbrev Byte : ℕ → Type 0
Byte b = b < 256

abbrev HeldWindow : Window → Type 0
HeldWindow w = (length w.offsets ≡ 128) × Each w.offsets

abbrev pub Index : ℤ → Type 0
Index z = mag z < 2147483648

abbrev pub Indices : List ℤ → Type 0
Indices l = (d : ℕ) → Index (get_or l d (pos 0))

abbrev pub HeldIndices : List ℤ → Type 0
HeldIndices l = (length l ≡ 4) × Indices l

abbrev pub HeldBounds : Bounds → Type 0
HeldBounds b = HeldIndices b.lowest × HeldIndices b.highest

abbrev HeldOrder : Order → Type 0
HeldOrder o = (length o.filters ≡ 32) × ((t : ℕ) → Byte (get_or o.filters t 0))

pub record Held (c : Chain) : Type 0 where
  pub dims : Byte c.grid.dims
  pub sizes : length c.grid.sizes ≡ 4
  pub window : HeldWindow c.window
  pub bounds : HeldBounds c.bounds
  pub capacities : length c.capacities ≡ 31
  pub order : HeldOrder c.order
  pub factors : FactorsFit c.kernel

each_set : (l : List ℤ) (k : ℕ) (v : ℤ) → mag v < 32768 → Each l → Each (set l k v)
each_set [] k v h e i = e i
each_set (x ∷ l) zero v h e zero = h
each_set (x ∷ l) zero v h e (suc i) = e (suc i)
each_set (x ∷ l) (suc k) v h e zero = e zero
each_set (x ∷ l) (suc k) v h e (suc i) = each_set l k v h (λ j. e (suc j)) i

each_sets : (vs l : List ℤ) (k : ℕ) → Each vs → Each l → Each (sets l k vs)
each_sets [] l k d e i = e i
each_sets (v ∷ vs) l k d e i = each_sets vs (set l k v) (suc k) (λ j. d (suc j)) (each_set l k v (d 0) e) i

length-sets : {A : Type 0} (vs l : List A) (k : ℕ) → length (sets l k vs) ≡ length l
length-sets [] l k = refl
length-sets (v ∷ vs) l k = length-sets vs (set l k v) (suc k) ∙ length-set l k v

pub signed_small : (w : ℕ) → mag (signed w) < 32768
unfolding signed
signed_small w = by_bool (ltb w 32768) (λ e. rw e (ltb-true w 32768 e)) (λ e. let h = ltb-false w 32768 e in rw e (omega arith))

pub signed_word_small : (w : ℕ) → Index (signed_word w)
unfolding signed_word
signed_word_small w = by_bool (ltb w 2147483648) (λ e. rw e (ltb-true w 2147483648 e)) (λ e. let h = ltb-false w 2147483648 e in rw e (omega arith))

each_entry : (x : List ℕ) → Each (entries_in x)
unfolding entries_in
each_entry x zero = signed_small _
each_entry x (suc zero) = signed_small _
each_entry x (suc (suc zero)) = signed_small _
each_entry x (suc (suc (suc zero))) = signed_small _
each_entry x (suc (suc (suc (suc i)))) = omega arith

each_index : (a b c d : ℕ) → HeldIndices (signed_word a ∷ signed_word b ∷ signed_word c ∷ signed_word d ∷ [])
each_index a b c d = (refl, each)
  where
    each : Indices (signed_word a ∷ signed_word b ∷ signed_word c ∷ signed_word d ∷ [])
    each zero = signed_word_small a
    each (suc zero) = signed_word_small b
    each (suc (suc zero)) = signed_word_small c
    each (suc (suc (suc zero))) = signed_word_small d
    each (suc (suc (suc (suc i)))) = omega arith

-- The window of a name.
each_reference : (es : List (List ℤ)) (w : Window) → all small_entries es ≡ true → HeldWindow w → HeldWindow (with_references w es)
unfolding all with_references
each_reference [] w h k = k
each_reference (e ∷ es) w h k =
    let b = and_true (small_entries e) (all small_entries es) h in
    each_reference es (with_reference w e) b.1 (length-sets e _ _ ∙ k.0, each_sets e _ _ (small_fits e b.0) k.1)

abbrev SmallNamed : ℕ → Type 0
SmallNamed name = all small_entries (map entries_of (named_of name).triples) ≡ true

small_named : (name : ℕ) → SmallNamed name
unfolding named_of windows all small_entries
small_named = by_name_lem SmallNamed refl refl refl refl refl refl (λ n. refl)

named_held : (name : ℕ) → HeldWindow (window_named name)
unfolding window_named
named_held name = each_reference (map entries_of (named_of name).triples) blank_window (small_named name) (refl, λ i. rw (blank_at 128 i (pos 0)) (omega arith))

kernel_fits : (x : List ℕ) → FactorsFit (kernel_in x)
unfolding kernel_in FactorsFit
kernel_fits x =
    by_bool (eqb (get_or x 1 0) 0) (λ e. rw e tt)
    (λ e.
    by_bool (eqb (get_or x 1 0) 1) (λ d. rw (e, d) tt)
    (λ d.
    by_bool (eqb (get_or x 1 0) 2) (λ f. rw (e, d, f) (of_bits-fits binary32 _)) (λ f. rw (e, d, f) (of_bits-fits binary32 _, of_bits-fits binary32 _))))

module _ (r : Reading) (x : List ℕ) (small : (i : ℕ) → Byte (byte_at x i)) (h : Held r.chain) where
  held_taken : Held (taken r x).chain
  unfolding taken with_grid with_rows with_offset with_name with_box with_capacity with_order with_kernel sizes_in lowest_in highest_in filters_in
  held_taken =
      by_bool (eqb (get_or x 0 0) 1)
      (λ e. rw e (record { dims = small 1; sizes = refl; window = h.window; bounds = h.bounds; capacities = h.capacities; order = h.order; factors = h.factors }))
      (λ e.
      by_bool (eqb (get_or x 0 0) 2)
      (λ d. rw (e, d)
      (record {
        dims = h.dims;
        sizes = h.sizes;
        window = (length-sets (entries_in x) _ _ ∙ h.window.0, each_sets (entries_in x) _ _ (each_entry x) h.window.1);
        bounds = h.bounds;
        capacities = h.capacities;
        order = h.order;
        factors = h.factors;
      }))
      (λ d.
      by_bool (eqb (get_or x 0 0) 3)
      (λ f. rw (e, d, f)
      (record {
        dims = h.dims;
        sizes = h.sizes;
        window = h.window;
        bounds = h.bounds;
        capacities = length-set r.chain.capacities r.given (word_at x 1) ∙ h.capacities;
        order = h.order;
        factors = h.factors;
      }))
      (λ f.
      by_bool (eqb (get_or x 0 0) 6)
      (λ o. rw (e, d, f, o) (record { dims = h.dims; sizes = h.sizes; window = h.window; bounds = h.bounds; capacities = h.capacities; order = order_held; factors = h.factors }))
      (λ o.
      by_bool (eqb (get_or x 0 0) 7)
      (λ g. rw (e, d, f, o, g) (record { dims = h.dims; sizes = h.sizes; window = named_held (get_or x 1 0); bounds = h.bounds; capacities = h.capacities; order = h.order; factors = h.factors }))
      (λ g.
      by_bool (eqb (get_or x 0 0) 8)
      (λ b. rw (e, d, f, o, g, b)
      (record { dims = h.dims; sizes = h.sizes; window = h.window; bounds = (each_index _ _ _ _, each_index _ _ _ _); capacities = h.capacities; order = h.order; factors = h.factors }))
      (λ b.
      by_bool (eqb (get_or x 0 0) 9)
      (λ k. rw (e, d, f, o, g, b, k)
      (record { dims = omega arith; sizes = refl; window = h.window; bounds = h.bounds; capacities = h.capacities; order = h.order; factors = h.factors }))
      (λ k. rw (e, d, f, o, g, b, k)
      (record { dims = h.dims; sizes = h.sizes; window = h.window; bounds = h.bounds; capacities = h.capacities; order = h.order; factors = kernel_fits x }))))))))
    where
      n : ℕ
      n = r.chain.window.count

      byte : (t : ℕ) (b : Bool) → Byte (cond b (byte_at x (1 + t)) 0)
      byte t true = small (1 + t)
      byte t false = omega arith

      order_held : HeldOrder (record { stood = true; filters = filters_in n x })
      order_held = (length_tabulate 32 (λ t. cond (ltb t n) (byte_at x (1 + t)) 0), each_tabulate Byte 32 (λ t. cond (ltb t n) (byte_at x (1 + t)) 0) 0 (λ t. byte t (ltb t n)) (omega arith))

-- A line that is not turned back holds bytes.
held_step : (chain_sheet : Bool) (rows : List ℕ) (r : Reading) (l : Line) → Held r.chain → Held (step_of chain_sheet rows r (seen_of l.ended l.chars)).reading.chain
unfolding step_of
held_step chain_sheet rows r l h = go (line_verdict chain_sheet rows r s) refl
  where
    s : Seen
    s = seen_of l.ended l.chars

    go : (v : Verdict) → line_verdict chain_sheet rows r s ≡ v → Held (by_verdict v (taken r s.first) (λ x. r)).chain
    go (Ok _) e =
        let digits = (and_true l.ended (whole l.chars) (admitted chain_sheet rows r s e).0).1 in
        held_taken r s.first (small_at (small_padded (small_bytes l.chars digits))) h
    go (Err x) e = h

held_either : (v : Verdict) (a b : LineStep) → Held a.reading.chain → Held b.reading.chain → Held (by_verdict v a (λ x. b)).reading.chain
held_either (Ok _) a b h k = h
held_either (Err x) a b h k = k

held_lines : (chain_sheet : Bool) (rows : List ℕ) (r : Reading) (ls : List Line) → Held r.chain → Held (read_lines chain_sheet rows r ls).reading.chain
unfolding read_lines
held_lines chain_sheet rows r [] h = h
held_lines chain_sheet rows r (l ∷ ls) h =
    let s = step_of chain_sheet rows r (seen_of l.ended l.chars) in
    let k = held_step chain_sheet rows r l h in
    held_either s.verdict (read_lines chain_sheet rows s.reading ls) s (held_lines chain_sheet rows s.reading ls k) k

pub held_read : (chain_sheet : Bool) (rows sheet : List ℕ) → Held (read_lines chain_sheet rows start (lines_of sheet)).reading.chain
unfolding FactorsFit
held_read chain_sheet rows sheet = held_lines chain_sheet rows start (lines_of sheet) held_start
  where
    held_start : Held start.chain
    held_start = record {
      dims = omega arith;
      sizes = refl;
      window = (refl, λ i. rw (blank_at 128 i (pos 0)) (omega arith));
      bounds = ((refl, λ d. rw (blank_at 4 d (pos 0)) (omega arith)), (refl, λ d. rw (blank_at 4 d (pos 0)) (omega arith)));
      capacities = refl;
      order = (refl, λ t. rw (blank_at {A = ℕ} 32 t 0) (omega arith));
      factors = tt;
    }
