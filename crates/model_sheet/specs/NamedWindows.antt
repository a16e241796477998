-- Windows by name (document 02, request 1): the fixed list of windows, number 13, and what the names mean.
use Rattle.std.specs.Prelude.{ℕ, zero, suc, Bool, true, cond, not, ◌&&◌, ◌≡◌, refl, eqb, leb, ℤ, pos, length, take, get_or, replicate}
use mathlib.Core.List.{List, [], ◌∷◌, ◌++◌, map, flat_map}
use Rattle.model.specs.Vectors.{−1, same, before}
use Rattle.model.specs.Values.{blank_window, with_reference}
use Rattle.model.specs.Steps.{insert, falling}
use Rattle.model.specs.declared.Triple.{Triple}
use Rattle.model.specs.declared.Window.{Window}

-- A window of the list: its dimensions, and its offsets in falling order.
pub record Named : Type 0 where
  pub dims : ℕ
  pub triples : List Triple

abbrev named : ℕ → List Triple → Named
named dims triples = record { dims = dims; triples = triples }

abbrev triple : ℤ → ℤ → ℤ → Triple
triple a b c = record { 0 = a; 1 = b; 2 = c }

-- The zero offset.
abbrev pub centre : Triple
centre = triple (pos 0) (pos 0) (pos 0)

-- "01 five-point cross"
abbrev pub five_point_cross : List Triple
five_point_cross =
    triple (pos 1) (pos 0) (pos 0)
    ∷ triple (pos 0) (pos 1) (pos 0)
    ∷ triple (pos 0) (pos 0) (pos 0)
    ∷ triple (pos 0) −1 (pos 0)
    ∷ triple −1 (pos 0) (pos 0)
    ∷ []

-- "02 four neighbours"
abbrev pub four_neighbours : List Triple
four_neighbours =
    triple (pos 1) (pos 0) (pos 0)
    ∷ triple (pos 0) (pos 1) (pos 0)
    ∷ triple (pos 0) −1 (pos 0)
    ∷ triple −1 (pos 0) (pos 0)
    ∷ []

-- "03 the 3 by 3 square"
abbrev pub square : List Triple
square =
    triple (pos 1) (pos 1) (pos 0)
    ∷ triple (pos 1) (pos 0) (pos 0)
    ∷ triple (pos 1) −1 (pos 0)
    ∷ triple (pos 0) (pos 1) (pos 0)
    ∷ triple (pos 0) (pos 0) (pos 0)
    ∷ triple (pos 0) −1 (pos 0)
    ∷ triple −1 (pos 1) (pos 0)
    ∷ triple −1 (pos 0) (pos 0)
    ∷ triple −1 −1 (pos 0)
    ∷ []

-- "04 seven-point cross"
abbrev pub seven_point_cross : List Triple
seven_point_cross =
    triple (pos 1) (pos 0) (pos 0)
    ∷ triple (pos 0) (pos 1) (pos 0)
    ∷ triple (pos 0) (pos 0) (pos 1)
    ∷ triple (pos 0) (pos 0) (pos 0)
    ∷ triple (pos 0) (pos 0) −1
    ∷ triple (pos 0) −1 (pos 0)
    ∷ triple −1 (pos 0) (pos 0)
    ∷ []

-- "05 the 27 points of a cube less its 8 corners"
abbrev pub cube_less_corners : List Triple
cube_less_corners =
    triple (pos 1) (pos 1) (pos 0)
    ∷ triple (pos 1) (pos 0) (pos 1)
    ∷ triple (pos 1) (pos 0) (pos 0)
    ∷ triple (pos 1) (pos 0) −1
    ∷ triple (pos 1) −1 (pos 0)
    ∷ triple (pos 0) (pos 1) (pos 1)
    ∷ triple (pos 0) (pos 1) (pos 0)
    ∷ triple (pos 0) (pos 1) −1
    ∷ triple (pos 0) (pos 0) (pos 1)
    ∷ triple (pos 0) (pos 0) (pos 0)
    ∷ triple (pos 0) (pos 0) −1
    ∷ triple (pos 0) −1 (pos 1)
    ∷ triple (pos 0) −1 (pos 0)
    ∷ triple (pos 0) −1 −1
    ∷ triple −1 (pos 1) (pos 0)
    ∷ triple −1 (pos 0) (pos 1)
    ∷ triple −1 (pos 0) (pos 0)
    ∷ triple −1 (pos 0) −1
    ∷ triple −1 −1 (pos 0)
    ∷ []

-- "The offsets come from a fixed list of windows, each in falling order."
unfoldable pub windows : List Named
windows =
    named 2 five_point_cross ∷ named 2 four_neighbours ∷ named 2 square ∷ named 3 seven_point_cross ∷ named 3 cube_less_corners
    ∷ []

-- The bytes 01 to 05 are names; any other has a window without references.
unfoldable pub is_name : ℕ → Bool
is_name name = leb 1 name && leb name 5

abbrev unnamed : Named
unnamed = named 0 []

unfoldable pub named_of : ℕ → Named
named_of name = get_or (unnamed ∷ windows) name unnamed

-- 13: "the byte is not 01 to 05 or the window's dimensions (2, 2, 2, 3, 3) differ from the grid's"
unfoldable pub bad_name : (name dims : ℕ) → Bool
bad_name name dims = cond (is_name name) (not (eqb dims (named_of name).dims)) true

-- The entries of an offset as a window holds them, and the offset itself.
abbrev pub entries_of : Triple → List ℤ
entries_of t = t.0 ∷ t.1 ∷ t.2 ∷ pos 0 ∷ []

unfoldable pub offsets_named : ℕ → List (List ℤ)
offsets_named name = map (λ (t : Triple). take (named_of name).dims (entries_of t)) (named_of name).triples

-- A window with references of these entries more, and the window of a name.
unfoldable pub with_references : Window → List (List ℤ) → Window
with_references w [] = w
with_references w (entries ∷ more) = with_references (with_reference w entries) more

unfoldable pub window_named : ℕ → Window
window_named name = with_references blank_window (map entries_of (named_of name).triples)

-- What the names mean. The points of the cube with entries 1, 0 and -1, in falling order;
unfoldable pub cube : (dims : ℕ) → List (List ℤ)
cube zero = [] ∷ []
cube (suc d) = let behind = cube d in flat_map (λ (e : ℤ). map (λ (p : List ℤ). e ∷ p) behind) (pos 1 ∷ pos 0 ∷ −1 ∷ [])

-- how many entries of a point are not 0: the centre has none, its neighbours along an axis have one, a corner of the cube has
-- as many as there are dimensions;
unfoldable pub steps : List ℤ → ℕ
steps [] = 0
steps (e ∷ es) = let behind = steps es in cond (same e (pos 0)) behind (suc behind)

-- and the points that a rule picks by that.
unfoldable pub picked : (ℕ → Bool) → List (List ℤ) → List (List ℤ)
picked rule [] = []
picked rule (p ∷ ps) = let behind = picked rule ps in cond (rule (steps p)) (p ∷ behind) behind

-- A name: its dimensions, how many points it has, and the rule that picks them.
pub record Meaning : Type 0 where
  pub dims : ℕ
  pub count : ℕ
  pub rule : ℕ → Bool

abbrev meaning : (dims count : ℕ) → (ℕ → Bool) → Meaning
meaning dims count rule = record { dims = dims; count = count; rule = rule }

unfoldable pub meanings : List Meaning
meanings =
    -- the centre and its neighbours along the axes; these neighbours; all points
    meaning 2 5 (λ n. leb n 1)
    ∷ meaning 2 4 (λ n. eqb n 1)
    ∷ meaning 2 9 (λ n. true)
    -- in three dimensions: the centre and its neighbours along the axes; all points but the corners
    ∷ meaning 3 7 (λ n. leb n 1)
    ∷ meaning 3 19 (λ n. not (eqb n 3))
    ∷ []

-- A row of the table: dimensions, number of points, the entries that a window holds, and the points in falling order.
pub record Row : Type 0 where
  pub dims : ℕ
  pub count : ℕ
  pub entries : List (List ℤ)
  pub falls : List (List ℤ)

unfoldable pub listed : Named → Row
listed w =
    let entries = map entries_of w.triples in
    record {
      dims = w.dims;
      count = length w.triples;
      entries = entries;
      falls = falling (map (λ (es : List ℤ). take w.dims es) entries);
    }

unfoldable pub meant : Meaning → Row
meant m =
    let points = picked m.rule (cube m.dims) in
    record {
      dims = m.dims;
      count = m.count;
      entries = map (λ (p : List ℤ). take 4 (p ++ replicate 4 (pos 0))) points;
      falls = points;
    }

pub table : map listed windows ≡ map meant meanings
unfolding windows cube steps picked meanings listed meant flat_map same before insert falling
table = refl
