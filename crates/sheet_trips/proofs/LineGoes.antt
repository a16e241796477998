-- A line of a sheet of either kind that takes the reading on, as it is written: on which no condition holds; and an offset's line.
use Prim.Native.Nat.{ℕ, zero, suc, ◌+◌, ◌*◌, ◌/◌, ◌%◌, ◌≤◌, ◌<◌}
use mathlib.Core.Bool.{Bool, true, false, ◌&&◌}
use mathlib.Core.List.{List, [], ◌∷◌, ◌++◌, flat_map}
use mathlib.Core.Logic.{◌⊎◌, inl, inr}
use mathlib.Core.Path.{◌≡◌, refl, ap, ◌∙◌}
use native.Mathlib.Omega.{arith}
use lib.Dec.{eqb, leb, ltb}
use lib.IntN.{ℤ, pos}
use lib.ListN.{length, take, get_or, replicate}
use lib.Signed.{mag}
use borrow.Author.Tests.{eq-eqb, ne_eqb, lt-leb, ltb-true}
use Rattle.model.specs.declared.Last.{Last}
use Rattle.model.specs.declared.Last.TheVariants as stood
use Rattle.model.specs.declared.Reading.{Reading}
use Rattle.std.specs.Prelude.{Ok}
use Rattle.model.specs.Lists.{all, any}
use Rattle.model.specs.Values.{rows_of, dims_of, with_reference, set_window}
use Rattle.model.specs.Answers.{first_of}
use Rattle.model.specs.Judging.{bad_dims, bad_sizes, bad_row, bad_row_count}
use Rattle.model_sheet.specs.Lines.{lines_of}
use Rattle.model_sheet.specs.Frames.{padded, framed, Seen}
use Rattle.model_sheet.specs.Numbers.{byte_at, half_at, half_bytes, signed, pattern}
use Rattle.model_sheet.specs.NamedWindows.{bad_name}
use Rattle.model_sheet.specs.Reading.{bad_form, malformed, next_in_request, next_in_chain, miscounted, among, misplaced, bad_length, sizes_in, entries_in, line_checks, line_verdict}
use Rattle.model_sheet.specs.Reading.{taken, with_offset, step_of, read_lines}
use Rattle.model_sheet.specs.Writing.{offset_line}
use Rattle.sheet_laws.proofs.Cases.{and_true}
use Rattle.sheet_laws.proofs.AcceptedLines.{taken_offset}
use Rattle.sheet_laws.proofs.SheetLength.{entries_length}
use Rattle.sheet_trips.proofs.Bytes.{Small, small_append, small_half, line_seen, seen_back, frame_line}
use Rattle.sheet_trips.proofs.Bytes.Small.{none, more}
use Rattle.sheet_trips.proofs.Values.{signed_pattern, pattern_small}

module _ (chain_sheet : Bool) (rows : List ℕ) where
  -- No condition holds.
  pub all_clear : (r : Reading) (l : Seen)
      → malformed l.sound l.len (byte_at l.first 0) (byte_at l.first 1) ≡ false
      → misplaced chain_sheet r.last r.given r.chain.window.count (byte_at l.first 0) ≡ false
      → (eqb (byte_at l.first 0) 1 && bad_dims (byte_at l.first 1)) ≡ false
      → (eqb (byte_at l.first 0) 9 && bad_row_count (half_at l.first 1)) ≡ false
      → bad_length l.len (byte_at l.first 0) (byte_at l.first 1) (half_at l.first 1) (dims_of r.chain.grid) r.chain.window.count ≡ false
      → (eqb (byte_at l.first 0) 1 && bad_sizes (take (byte_at l.first 1) (sizes_in l.first))) ≡ false
      → (eqb (byte_at l.first 0) 9 && any bad_row (rows_of (half_at l.first 1) rows)) ≡ false
      → (eqb (byte_at l.first 0) 2 && leb 32 r.chain.window.count) ≡ false
      → (eqb (byte_at l.first 0) 7 && bad_name (byte_at l.first 1) (dims_of r.chain.grid)) ≡ false
      → line_verdict chain_sheet rows r l ≡ Ok tt
  unfolding line_verdict line_checks first_of
  all_clear r l a b c d e f g h i = rw (a, b, c, d, e, f, g, h, i)

  -- A line of these bytes takes the reading r to t.
  abbrev pub Goes : Reading → List ℕ → Reading → Type 0
  Goes r bs t = (line_verdict chain_sheet rows r (line_seen bs) ≡ Ok tt) × (taken r (padded bs) ≡ t)

  step_goes : (r t : Reading) (bs : List ℕ) → Goes r bs t → step_of chain_sheet rows r (line_seen bs) ≡ record { verdict = Ok tt; reading = t }
  unfolding step_of
  step_goes r t bs g = rw (g.0, g.1)

  pub line_goes : (r t : Reading) (bs rest : List ℕ) → Small bs → Goes r bs t
      → read_lines chain_sheet rows r (lines_of (framed bs ++ rest)) ≡ read_lines chain_sheet rows t (lines_of rest)
  unfolding read_lines
  line_goes r t bs rest s g = rw (frame_line bs rest, seen_back s, step_goes r t bs g)

-- The entries of an offset as a window holds them: 0 past its end.
abbrev pub four : List ℤ → List ℤ
four o = take 4 (o ++ replicate 4 (pos 0))

-- Every entry has 16 bits.
abbrev pub Fits : List ℤ → Type 0
Fits o = (d : ℕ) → mag (get_or o d (pos 0)) < 32768

-- The same as a test.
unfoldable pub small_entries : List ℤ → Bool
small_entries o = all (λ e. ltb (mag e) 32768) o

pub small_fits : (o : List ℤ) → small_entries o ≡ true → Fits o
unfolding small_entries all
small_fits [] h d = omega arith
small_fits (e ∷ es) h zero = ltb-true (mag e) 32768 (and_true (ltb (mag e) 32768) (small_entries es) h).0
small_fits (e ∷ es) h (suc d) = small_fits es (and_true (ltb (mag e) 32768) (small_entries es) h).1 d

entry_back : (e : ℤ) → mag e < 32768 → signed (pattern e / 256 * 256 + pattern e % 256) ≡ e
entry_back e h =
    let z : pattern e / 256 * 256 + pattern e % 256 ≡ pattern e = omega arith in
    ap signed z ∙ signed_pattern e h

entries_back : (o : List ℤ) → length o ≤ 4 → Fits o → entries_in (padded (offset_line o)) ≡ four o
unfolding entries_in padded offset_line flat_map half_bytes half_at signed
entries_back [] few fits = refl
entries_back (a ∷ []) few fits = rw (entry_back a (fits 0))
entries_back (a ∷ b ∷ []) few fits = rw (entry_back a (fits 0), entry_back b (fits 1))
entries_back (a ∷ b ∷ c ∷ []) few fits = rw (entry_back a (fits 0), entry_back b (fits 1), entry_back c (fits 2))
entries_back (a ∷ b ∷ c ∷ d ∷ []) few fits = rw (entry_back a (fits 0), entry_back b (fits 1), entry_back c (fits 2), entry_back d (fits 3))
entries_back (a ∷ b ∷ c ∷ d ∷ e ∷ es) few fits = absurd (omega arith)

pub small_offset : (o : List ℤ) → Fits o → Small (offset_line o)
unfolding offset_line flat_map
small_offset o fits = more {b = 2} (omega arith) (entries o fits)
  where
    entries : (es : List ℤ) → Fits es → Small (flat_map (λ e. half_bytes (pattern e)) es)
    entries [] h = none
    entries (e ∷ es) h = small_append (small_half _ (pattern_small e (h 0))) (entries es (λ d. h (suc d)))

-- An offset's line behind the grid's or an offset's.
offset_comes : (chain_sheet : Bool) (last : Last) (given count : ℕ) → (last ≡ stood.Grid) ⊎ (last ≡ stood.Offset) → misplaced chain_sheet last given count 2 ≡ false
unfolding misplaced among any next_in_request next_in_chain miscounted
offset_comes true last given count (inl e) = rw e
offset_comes true last given count (inr e) = rw e
offset_comes false last given count (inl e) = rw e
offset_comes false last given count (inr e) = rw e

abbrev pub added : Reading → List ℤ → Reading
added r entries = record { last = stood.Offset; given = r.given; chain = set_window (with_reference r.chain.window entries) r.chain }

pub offset_goes : (chain_sheet : Bool) (rows : List ℕ) (r : Reading) (o : List ℤ) → (r.last ≡ stood.Grid) ⊎ (r.last ≡ stood.Offset)
    → length o ≡ dims_of r.chain.grid → length o ≤ 4 → Fits o → r.chain.window.count < 32 → Goes chain_sheet rows r (offset_line o) (added r (four o))
unfolding malformed bad_form bad_length padded offset_line with_offset
offset_goes chain_sheet rows r o last sized few fits room =
    let len : length (flat_map (λ e. half_bytes (pattern e)) o) ≡ 2 * length o = entries_length o in
    let due : length (offset_line o) ≡ 1 + 2 * dims_of r.chain.grid = omega (arith, len, sized) in
    let some : length (offset_line o) ≡ 0 → ⊥ = λ e. omega (arith, due) in (
      all_clear chain_sheet rows r (line_seen (offset_line o))
          (rw (ne_eqb _ _ some))
          (offset_comes chain_sheet r.last r.given r.chain.window.count last)
          refl
          refl
          (rw (eq-eqb _ _ due))
          refl
          refl
          (rw (lt-leb _ _ room))
          refl,
      taken_offset r (padded (offset_line o)) refl ∙ ap (added r) (entries_back o few fits),
    )
