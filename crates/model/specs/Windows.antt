-- Offsets counted from the window's lows, its centre, and windows with the same offsets.
use Rattle.std.specs.Prelude.{ℕ, suc, ◌<◌, cond, List, [], ◌∷◌, ◌≡◌, length, get_or, ℤ}
use Rattle.model.specs.Vectors.{above, is_zero}

-- How far each entry lies above the low of its dimension.
unfoldable pub relative : List ℤ → List ℤ → List ℕ
relative [] ls = []
relative (x ∷ xs) [] = []
relative (x ∷ xs) (l ∷ ls) = above x l ∷ relative xs ls

-- Which reference is the centre, the zero offset; their number where there is none.
unfoldable pub centre_of : List (List ℤ) → ℕ
centre_of [] = 0
centre_of (o ∷ os) = let behind = suc (centre_of os) in cond (is_zero o) 0 behind

-- Each entry of a stands in b. `d` plays no part: it is what `get_or` asks for past the end.
abbrev pub Among : {A : Type 0} → A → List A → List A → Type 0
Among d a b = (k : ℕ) → k < length a → (l : ℕ) × (l < length b) × (get_or b l d ≡ get_or a k d)

-- Each offset of the window a is one of the window b.
abbrev pub Members : List (List ℤ) → List (List ℤ) → Type 0
Members a b = Among [] a b
