-- Numbers on a line: "Numbers are most significant byte first."
use Rattle.std.specs.Prelude.{ℕ, ◌+◌, ◌-◌, ◌*◌, ◌/◌, ◌%◌, cond, List, [], ◌∷◌, ltb, ℤ, pos, negsuc, get_or}

abbrev pub byte_at : List ℕ → ℕ → ℕ
byte_at x i = get_or x i 0

-- Two bytes and four bytes, from byte i on.
unfoldable pub half_at : List ℕ → ℕ → ℕ
half_at x i = byte_at x i * 256 + byte_at x (i + 1)

-- The numbers of 2 bytes each in bytes, 0 past their end.
unfoldable pub halves_of : List ℕ → List ℕ
halves_of [] = []
halves_of (a ∷ []) = (a * 256) ∷ []
halves_of (a ∷ b ∷ bs) = (a * 256 + b) ∷ halves_of bs

unfoldable pub word_at : List ℕ → ℕ → ℕ
word_at x i = byte_at x i * 16777216 + byte_at x (i + 1) * 65536 + byte_at x (i + 2) * 256 + byte_at x (i + 3)

unfoldable pub half_bytes : ℕ → List ℕ
half_bytes w = w / 256 ∷ w % 256 ∷ []

unfoldable pub word_bytes : ℕ → List ℕ
word_bytes w = w / 16777216 ∷ w / 65536 % 256 ∷ w / 256 % 256 ∷ w % 256 ∷ []

-- "two's complement", in 16 bits, and in 32
unfoldable pub signed : ℕ → ℤ
signed w = cond (ltb w 32768) (pos w) (negsuc (65535 - w))

unfoldable pub pattern : ℤ → ℕ
pattern (pos n) = n
pattern (negsuc n) = 65535 - n

unfoldable pub signed_word : ℕ → ℤ
signed_word w = cond (ltb w 2147483648) (pos w) (negsuc (4294967295 - w))

unfoldable pub word_pattern : ℤ → ℕ
word_pattern (pos n) = n
word_pattern (negsuc n) = 4294967295 - n
