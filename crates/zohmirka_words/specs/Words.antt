-- A state, a chain, the rows beside it and a window of a pair as words.
use Rattle.std.specs.Prelude.{ℕ, ◌+◌, ◌-◌, ◌*◌, ◌%◌, cond, not, List, [], ◌∷◌, ◌++◌, eqb, ltb, ℤ, pos, length, get_or, drop, replicate}
use Rattle.model.specs.Lists.{tabulate}
use Rattle.model_sheet.specs.Numbers.{signed, pattern, signed_word, word_pattern}
use Rattle.model_run.specs.Kernels.{float, word}
use Rattle.model.specs.Values.{blank_window, blank_chain}
use Rattle.model.specs.declared.Bounds.{Bounds}
use Rattle.model.specs.declared.CellsPassed.{CellsPassed}
use Rattle.model.specs.declared.Chain.{Chain}
use Rattle.model.specs.declared.Grid.{Grid}
use Rattle.model.specs.declared.Kernel.{Kernel}
use Rattle.model.specs.declared.Kernel.TheVariants as kernel
use Rattle.model.specs.declared.Order.{Order}
use Rattle.model.specs.declared.Side.{Side}
use Rattle.model.specs.declared.State.{State}

abbrev pub word_at : List ℕ → ℕ → ℕ
word_at ws i = get_or ws i 0

-- The words of a list of words, from the first place on; later places stay.
abbrev pub laid : (ws old : List ℕ) → List ℕ
laid ws old = ws ++ drop (length ws) old

-- States: the input counters, then the firings made.

abbrev pub state_size : ℕ
state_size = 33

abbrev pub counter : ℕ → CellsPassed
counter p = record { 0 = p }

unfoldable pub state_word : State → ℕ → ℕ
state_word s i = cond (ltb i 32) (get_or s.passed i (counter 0)).0 s.fired.0

unfoldable pub state_words : State → List ℕ
state_words s = tabulate state_size (state_word s)

-- Too few words stay as they are.
unfoldable pub state_into : State → List ℕ → List ℕ
state_into s ws = cond (ltb (length ws) state_size) ws (laid (state_words s) ws)

-- Too few words are taken for a state with more firings than any accepted chain has iterations, which 11 turns back.
unfoldable pub state_in : List ℕ → State
state_in ws =
    cond (ltb (length ws) state_size)
    (record { passed = replicate 32 (counter 0); fired = record { 0 = 4294967295 } })
    (record { passed = tabulate 32 (λ k. counter (word_at ws k)); fired = record { 0 = word_at ws 32 } })

-- Chains: dimension count, sizes, number of references, entries, capacities, kernel and factors, whether the author's order
-- stood, its filters, whether the box stood, its lowest indices, its highest, whether the grid is skewed, how many rows it
-- has. The rows are lent beside them.

abbrev pub chain_size : ℕ
chain_size = 212

unfoldable pub kernel_words : Kernel → List ℕ
kernel_words kernel.Raw = 0 ∷ 0 ∷ 0 ∷ []
kernel_words kernel.Difference = 1 ∷ 0 ∷ 0 ∷ []
kernel_words (kernel.Scaled f) = 2 ∷ word f ∷ 0 ∷ []
kernel_words (kernel.Blend g) = 3 ∷ word g.a ∷ word g.b ∷ []

unfoldable pub box_word : Bounds → ℕ → ℕ
box_word b i =
    cond (ltb i 1) (cond b.stood 1 0)
    (cond (ltb i 5) (word_pattern (get_or b.lowest (i - 1) (pos 0)))
    (word_pattern (get_or b.highest (i - 5) (pos 0))))

unfoldable pub chain_word : Chain → ℕ → ℕ
chain_word c i =
    cond (ltb i 1) c.grid.dims
    (cond (ltb i 5) (get_or c.grid.sizes (i - 1) 0)
    (cond (ltb i 6) c.window.count
    (cond (ltb i 134) (pattern (get_or c.window.offsets (i - 6) (pos 0)))
    (cond (ltb i 165) (get_or c.capacities (i - 134) 0)
    (cond (ltb i 168) (get_or (kernel_words c.kernel) (i - 165) 0)
    (cond (ltb i 169) (cond c.order.stood 1 0)
    (cond (ltb i 201) (get_or c.order.filters (i - 169) 0)
    (cond (ltb i 210) (box_word c.bounds (i - 201))
    (cond (ltb i 211) (cond c.grid.skewed 1 0)
    c.grid.rows)))))))))

unfoldable pub chain_words : Chain → List ℕ
chain_words c = tabulate chain_size (chain_word c)

-- A count or a filter number of 8 bits; 255, which 3, 4 and 14 turn back where it plays a part, for all that are greater.
unfoldable pub count_in : ℕ → ℕ
count_in w = cond (ltb w 255) w 255

-- A kernel that is none of the four is taken for one with a factor that is not a number, which 8 turns back.
unfoldable pub kernel_in : (which a b : ℕ) → Kernel
kernel_in which a b =
    cond (eqb which 0) kernel.Raw
    (cond (eqb which 1) kernel.Difference
    (cond (eqb which 2) (kernel.Scaled (float a))
    (cond (eqb which 3) (kernel.Blend (record { a = float a; b = float b }))
    (kernel.Scaled (float 0x7FC00000)))))

-- The order stood if its first word is not 0.
unfoldable pub order_in : List ℕ → Order
order_in ws = record { stood = not (eqb (word_at ws 168) 0); filters = tabulate 32 (λ t. count_in (word_at ws (169 + t))) }

-- So did the box; its indices are 32 bits in two's complement.
unfoldable pub indices_in : List ℕ → (from : ℕ) → List ℤ
indices_in ws from = tabulate 4 (λ d. signed_word (word_at ws (from + d)))

unfoldable pub bounds_in : List ℕ → Bounds
bounds_in ws = record { stood = not (eqb (word_at ws 201) 0); lowest = indices_in ws 202; highest = indices_in ws 206 }

-- The entries of a window from a word on, 16 bits each in two's complement.
abbrev pub offsets_in : List ℕ → (from : ℕ) → List ℤ
offsets_in ws from = tabulate 128 (λ i. signed (word_at ws (from + i) % 65536))

-- Too few words are taken for the blank chain, which 3 turns back. The grid is skewed if the last word but one is not 0.
unfoldable pub chain_in : List ℕ → Chain
chain_in ws =
    cond (ltb (length ws) chain_size) blank_chain
    (record {
      grid = record {
        skewed = not (eqb (word_at ws 210) 0);
        rows = word_at ws 211;
        dims = count_in (word_at ws 0);
        sizes = word_at ws 1 ∷ word_at ws 2 ∷ word_at ws 3 ∷ word_at ws 4 ∷ [];
      };
      window = record { count = count_in (word_at ws 5); offsets = offsets_in ws 6 };
      bounds = bounds_in ws;
      capacities = tabulate 31 (λ k. word_at ws (134 + k));
      order = order_in ws;
      kernel = kernel_in (word_at ws 165) (word_at ws 166) (word_at ws 167);
    })

-- Too few words stay as they are.
unfoldable pub chain_into : Chain → List ℕ → List ℕ
chain_into c ws = cond (ltb (length ws) chain_size) ws (laid (chain_words c) ws)

-- A window of a pair: number of references, entries, kernel and factors.

abbrev pub side_size : ℕ
side_size = 132

-- Too few words are taken for a window without references, which 4 turns back.
abbrev pub blank_side : Side
blank_side = record { window = blank_window; kernel = kernel.Raw }

unfoldable pub side_in : List ℕ → Side
side_in ws =
    cond (ltb (length ws) side_size) blank_side
    (record {
      window = record { count = count_in (word_at ws 0); offsets = offsets_in ws 1 };
      kernel = kernel_in (word_at ws 129) (word_at ws 130) (word_at ws 131);
    })

-- Rows: a start and a length of each; a rectangle has none.

unfoldable pub row_places : Grid → ℕ
row_places g = cond g.skewed (2 * g.rows) 0

-- Those of a grid among these numbers, in which it has the first.
unfoldable pub row_words : Grid → (rows : List ℕ) → List ℕ
row_words g rows = tabulate (row_places g) (word_at rows)

-- Too few places stay as they are.
unfoldable pub rows_into : Grid → (rows ws : List ℕ) → List ℕ
rows_into g rows ws = cond (ltb (length ws) (row_places g)) ws (laid (row_words g rows) ws)
