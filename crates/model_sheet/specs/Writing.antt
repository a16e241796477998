-- Writing a chain sheet (document 01, "Lines of the sheet"; number 12; document 02, requests 2, 4 and 5).
use Rattle.std.specs.Prelude.{ℕ, cond, ltb, ℤ, pos, length, drop, get_or, Result, Ok, Err}
use mathlib.Core.List.{List, [], ◌∷◌, ◌++◌, map, flat_map}
use Rattle.std.specs.Float.Ieee.{to_bits}
use Rattle.std.specs.Float.{binary32}
use Rattle.model.specs.declared.Bounds.{Bounds}
use Rattle.model.specs.declared.Grid.{Grid}
use Rattle.model.specs.declared.Kernel.{Kernel}
use Rattle.model.specs.declared.Kernel.TheVariants as kernel
use Rattle.model.specs.declared.Order.{Order}
use Rattle.model.specs.declared.Chain.{Chain}
use Rattle.model.specs.declared.Refusal.{Refusal}
use Rattle.model.specs.declared.Refusal.TheVariants as refusal
use Rattle.model.specs.Lists.{up_to}
use Rattle.model.specs.Grounds.{Ground}
use Rattle.model.specs.Grounds.Ground.{rectangle, skewed}
use Rattle.model.specs.Values.{ground_of, dims_of, offsets_of, capacities_of, order_of}
use Rattle.model.specs.Answers.{Verdict, check, first_of, by_verdict}
use Rattle.model.specs.Judging.{judge_chain}
use Rattle.model_sheet.specs.Frames.{framed}
use Rattle.model_sheet.specs.Numbers.{half_bytes, word_bytes, pattern, word_pattern}

-- "`01` dimension count (1 byte), then each size (4 bytes)"; "A line `09` may stand in place of `01`: a row count, .. then
-- for each row a start .. and a length .., 2 bytes each number"
unfoldable pub ground_line : (dims : ℕ) → Ground → List ℕ
ground_line dims (rectangle sizes) = 1 ∷ dims ∷ flat_map word_bytes sizes
ground_line dims (skewed rs) = 9 ∷ (half_bytes (length rs) ++ flat_map (λ r. half_bytes r.start ++ half_bytes r.length) rs)

abbrev pub grid_line : Grid → (rows : List ℕ) → List ℕ
grid_line g rows = ground_line (dims_of g) (ground_of g rows)

-- "`02` one offset, 2 bytes an entry, two's complement"
unfoldable pub offset_line : List ℤ → List ℕ
offset_line o = 2 ∷ flat_map (λ e. half_bytes (pattern e)) o

-- "a line `08` just after the last `02` ..: for each dimension in turn the lowest, then the highest index of the iterations,
-- 4 bytes each, signed"; none where it did not stand
unfoldable pub index_pair : Bounds → ℕ → List ℕ
index_pair b d = word_bytes (word_pattern (get_or b.lowest d (pos 0))) ++ word_bytes (word_pattern (get_or b.highest d (pos 0)))

unfoldable pub box_lines : (dims : ℕ) → Bounds → List (List ℕ)
box_lines dims b = cond b.stood ((8 ∷ flat_map (index_pair b) (up_to dims)) ∷ []) []

-- "`03` one capacity, 4 bytes"
unfoldable pub capacity_line : ℕ → List ℕ
capacity_line places = 3 ∷ word_bytes places

-- "a line `06` just before `04`: n bytes, the filter number of each term in turn"; none where it did not stand
unfoldable pub order_lines : (n : ℕ) → Order → List (List ℕ)
order_lines n o = cond o.stood ((6 ∷ order_of n o) ∷ []) []

-- "`04` kernel: byte 00 raw, 01 difference, 02 scaled and its factor's bits (4 bytes), 03 blend and a, b (4 bytes each)"
unfoldable pub kernel_line : Kernel → List ℕ
kernel_line kernel.Raw = 4 ∷ 0 ∷ []
kernel_line kernel.Difference = 4 ∷ 1 ∷ []
kernel_line (kernel.Scaled f) = 4 ∷ 2 ∷ word_bytes (to_bits binary32 f)
kernel_line (kernel.Blend g) = 4 ∷ 3 ∷ (word_bytes (to_bits binary32 g.a) ++ word_bytes (to_bits binary32 g.b))

-- The lines of a chain sheet, as their bytes. "A chain sheet has n−1 `03` lines before the `04`, FIFO 0 first; its `02` lines
-- are filter 0 first".
unfoldable pub chain_lines : Chain → (rows : List ℕ) → List (List ℕ)
chain_lines c rows =
    grid_line c.grid rows
    ∷ (map offset_line (offsets_of (dims_of c.grid) c.window)
    ++ (box_lines (dims_of c.grid) c.bounds
    ++ (map capacity_line (capacities_of c)
    ++ (order_lines c.window.count c.order ++ (kernel_line c.kernel ∷ [])))))

unfoldable pub sheet_of : Chain → (rows : List ℕ) → List ℕ
sheet_of c rows = flat_map framed (chain_lines c rows)

-- No chain sheet has more characters.
abbrev pub longest_sheet : ℕ
longest_sheet = 4919

-- What turns the chain back as a value, then 12: "a sheet to be written is longer than the output lent; looked at last".
unfoldable pub write_verdict : Chain → (rows : List ℕ) → (room : ℕ) → Verdict
write_verdict c rows room =
    let last = first_of (check (ltb room (length (sheet_of c rows))) refusal.ShortOutput ∷ []) in
    by_verdict (judge_chain c rows) last Err

-- What a write call answers, how many bytes it wrote or why not, and the output as it leaves it.
pub record Written : Type 0 where
  pub answer : Result ℕ Refusal
  pub output : List ℕ

-- The sheet from the first place on; later places, and after a refusal all places, stay as they were.
unfoldable pub write_of : Chain → (rows : List ℕ) → List ℕ → Written
write_of c rows output =
    let v = write_verdict c rows (length output) in
    let sheet = sheet_of c rows in
    by_verdict v
    (record {
      answer = Ok (length sheet);
      output = sheet ++ drop (length sheet) output;
    })
    (λ r. record { answer = Err r; output = output })
