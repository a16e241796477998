-- What this crate's functions answer of two windows, on any value: the model's definitions where the arrays hold them, and a
-- fixed answer elsewhere.
use Rattle.std.specs.Prelude.{ℕ, ◌+◌, ◌-◌, ◌/◌, ◌%◌, Bool, cond, ◌&&◌, List, [], ◌∷◌, ◌++◌, ◌≡◌, leb, ltb, ℤ, pos, length, get_or}
use Rattle.model.specs.Lists.{tabulate}
use Rattle.model.specs.Values.{offsets_of, window_of, blank_window}
use Rattle.model.specs.Pairs.{Own, own_of, union, not_union}
use Rattle.model.specs.declared.Kernel.TheVariants as kernel
use Rattle.model.specs.declared.Window.{Window}
use Rattle.geometry.specs.Parts.{part, offset_at}

-- The arrays have as many entries as the dimensions and the counts of two windows say.
unfoldable pub both_held : (dims n m : ℕ) → Bool
both_held dims n m = leb dims 4 && (leb n 32 && leb m 32)

-- A window as one of two; its kernel plays no part in their union.
abbrev pub own : (dims : ℕ) → Window → Own
own dims w = own_of dims (record { window = w; kernel = kernel.Raw })

-- The union; no offset where the arrays do not hold the windows.
unfoldable pub union_in : (dims : ℕ) → (a b : Window) → List (List ℤ)
union_in dims a b = cond (both_held dims a.count b.count) (union (own dims a) (own dims b)) []

-- The window of so many offsets; the blank one where no array holds them.
unfoldable pub union_window : List (List ℤ) → Window
union_window os = cond (leb (length os) 32) (window_of (length os) os) blank_window

-- 14: a chain's references are not the union. It does not hold where the arrays do not hold the windows.
unfoldable pub not_union_in : (dims : ℕ) → (chain a b : Window) → Bool
not_union_in dims c a b = leb c.count 32
    && (both_held dims a.count b.count && not_union (offsets_of dims c) (own dims a) (own dims b))

-- ---- of the arrays

-- f's first n, and behind them g's.
abbrev pub joined : {A : Type 0} → (n : ℕ) → (f g : ℕ → A) → ℕ → A
joined n f g i = cond (ltb i n) (f i) (g (i - n))

-- The offsets of a window of n references, and behind them those of another.
abbrev pub offsets_in : (dims n : ℕ) → (first second : List ℤ) → ℕ → List ℤ
offsets_in dims n first second = joined n (offset_at dims first) (offset_at dims second)

-- A window's offsets from reference `from` on, and those of two.
abbrev pub from_on : (dims : ℕ) → Window → (from : ℕ) → List (List ℤ)
from_on dims w from = part (offset_at dims w.offsets) from w.count

abbrev pub both_from_on : (dims : ℕ) → (a b : Window) → (from : ℕ) → List (List ℤ)
both_from_on dims a b from = part (offsets_in dims a.count a.offsets b.offsets) from (a.count + b.count)

-- Entry i of an array of offsets, 0 past the last; and the array.
abbrev pub entry_of : List (List ℤ) → ℕ → ℤ
entry_of os i = get_or (get_or os (i / 4) []) (i % 4) (pos 0)

abbrev pub entries_of : List (List ℤ) → List ℤ
entries_of os = tabulate 128 (entry_of os)

-- The array r has what the array `to` of k offsets has, and behind that the offset o.
abbrev pub Appended : (r to : List ℤ) (k : ℕ) (o : List ℤ) → Type 0
Appended r to k o = (os : List (List ℤ)) → k ≡ length os → to ≡ entries_of os → r ≡ entries_of (os ++ (o ∷ []))

-- The window of so many offsets, of which the array has the first 32.
abbrev pub gathered_of : List (List ℤ) → Window
gathered_of os = record { count = length os; offsets = entries_of os }
