-- Windows whose offsets fit a grid, and values whose lists fit their counts.
use Rattle.std.specs.Prelude.{ℕ, ◌-◌, ◌<◌, false, cond, List, [], ◌≡◌, length, get_or, ℤ}
use Rattle.model.specs.Grounds.{Ground, dims}
use Rattle.model.specs.Boxes.{Part, bad_box}
use Rattle.model.specs.Boxes.Part.{whole, box}
use Rattle.model.specs.Values.{Trimmed}

-- Every offset has one entry for each of the grid's dimensions.
abbrev pub Sized : (dims : ℕ) → List (List ℤ) → Type 0
Sized dims offsets = (k : ℕ) → k < length offsets → length (get_or offsets k []) ≡ dims

-- A box has one lowest and one highest index for each dimension.
abbrev pub Bounded : (dims : ℕ) → Part → Type 0
Bounded dims whole = Unit {0}
Bounded dims (box lowest highest) = (length lowest ≡ dims) × (length highest ≡ dims)

-- What the laws of iterations ask of a window and a box on a ground: offsets and a box that fit it, an offset, and a box, if
-- there is one, that 15 does not turn back.
pub record Suits (g : Ground) (offsets : List (List ℤ)) (p : Part) : Type 0 where
  pub some : 0 < length offsets
  pub entries : Sized (dims g) offsets
  pub bounded : Bounded (dims g) p
  pub fits : bad_box g offsets p ≡ false

-- Lists of the lengths that the counts say.
pub record Proper (t : Trimmed) : Type 0 where
  pub references : length t.offsets ≡ t.count
  pub dimensions : dims t.the_ground ≡ t.dims
  pub entries : Sized (dims t.the_ground) t.offsets
  pub bounded : Bounded (dims t.the_ground) t.part
  pub fifos : length t.capacities ≡ t.count - 1
  pub terms : length t.order ≡ cond t.ordered t.count 0

-- What the laws of iterations ask of a value.
pub record Fitting (t : Trimmed) : Type 0 where
  pub references : length t.offsets ≡ t.count
  pub suits : Suits t.the_ground t.offsets t.part
