-- The windows of the five names, and the offsets of one put into a window from reference k on.
use Prim.Native.Nat.{ℕ, suc, ◌+◌, ◌*◌, ◌≤◌, ◌<◌}
use mathlib.Core.Bool.{Bool, true, false, cond, not, ◌&&◌}
use mathlib.Core.List.{List, [], ◌∷◌, map}
use mathlib.Core.Path.{◌≡◌, refl, sym, ap, ◌∙◌}
use native.Mathlib.Omega.{arith}
use lib.Dec.{eqb, leb}
use lib.IntN.{ℤ}
use lib.ListN.{length, get_or, set, drop, length-map, drop_of_length-le, get_or-map}
use lib.Seq.{sets, drop-cons}
use borrow.Author.Tests.{lt-leb}
use Rattle.model.specs.declared.Triple.{Triple}
use Rattle.model.specs.Values.{blank_window}
use Rattle.model_sheet.specs.NamedWindows.{centre, windows, is_name, named_of, bad_name, entries_of, with_references, window_named}
use Rattle.model_sheet.proofs.NameLaws.{by_name_lem, count_references, few_references}

-- A byte other than 01 to 05.
pub no_name : (name : ℕ) → (1 ≤ name → 5 < name) → (named_of name).triples ≡ []
unfolding named_of windows
no_name =
    by_name_lem (λ name. (1 ≤ name → 5 < name) → (named_of name).triples ≡ [])
    (λ h. refl)
    (λ h. absurd (let k = h (omega arith) in omega arith))
    (λ h. absurd (let k = h (omega arith) in omega arith))
    (λ h. absurd (let k = h (omega arith) in omega arith))
    (λ h. absurd (let k = h (omega arith) in omega arith))
    (λ h. absurd (let k = h (omega arith) in omega arith))
    (λ n h. refl)

pub no_dimensions : (name : ℕ) → (1 ≤ name → 5 < name) → (named_of name).dims ≡ 0
unfolding named_of windows
no_dimensions =
    by_name_lem (λ name. (1 ≤ name → 5 < name) → (named_of name).dims ≡ 0)
    (λ h. refl)
    (λ h. absurd (let k = h (omega arith) in omega arith))
    (λ h. absurd (let k = h (omega arith) in omega arith))
    (λ h. absurd (let k = h (omega arith) in omega arith))
    (λ h. absurd (let k = h (omega arith) in omega arith))
    (λ h. absurd (let k = h (omega arith) in omega arith))
    (λ n h. refl)

-- A name of a window of two dimensions, of three, and of none.
pub flat : (name dims : ℕ) → 1 ≤ name → name < 4 → bad_name name dims ≡ not (eqb dims 2)
unfolding bad_name is_name named_of windows
flat =
    by_name_lem (λ name. (dims : ℕ) → 1 ≤ name → name < 4 → bad_name name dims ≡ not (eqb dims 2))
    (λ d h k. absurd (omega arith))
    (λ d h k. refl)
    (λ d h k. refl)
    (λ d h k. refl)
    (λ d h k. absurd (omega arith))
    (λ d h k. absurd (omega arith))
    (λ n d h k. absurd (omega arith))

pub solid : (name dims : ℕ) → 4 ≤ name → name < 6 → bad_name name dims ≡ not (eqb dims 3)
unfolding bad_name is_name named_of windows
solid =
    by_name_lem (λ name. (dims : ℕ) → 4 ≤ name → name < 6 → bad_name name dims ≡ not (eqb dims 3))
    (λ d h k. absurd (omega arith))
    (λ d h k. absurd (omega arith))
    (λ d h k. absurd (omega arith))
    (λ d h k. absurd (omega arith))
    (λ d h k. refl)
    (λ d h k. refl)
    (λ n d h k. absurd (omega arith))

pub below_names : (name dims : ℕ) → name < 1 → bad_name name dims ≡ true
unfolding bad_name is_name
below_names name dims h = let z : name ≡ 0 = omega arith in rw z

pub above_names : (name dims : ℕ) → 6 ≤ name → bad_name name dims ≡ true
unfolding bad_name is_name
above_names name dims h = rw (lt-leb name 5 (omega arith)) (go (leb 1 name))
  where
    go : (b : Bool) → cond (b && false) (not (eqb dims (named_of name).dims)) true ≡ true
    go true = refl
    go false = refl

-- No name has more references than a window has places.
pub few : (name : ℕ) → length (named_of name).triples ≤ 32
unfolding window_named
few name =
    omega (arith, few_references name, count_references blank_window (map entries_of (named_of name).triples), length-map (named_of name).triples entries_of)

-- Four entries, set one after the other.
pub four_set : (o xs : List ℤ) (i : ℕ) (d : ℤ) → length xs ≡ 4
    → set (set (set (set o i (get_or xs 0 d)) (i + 1) (get_or xs 1 d)) (i + 2) (get_or xs 2 d)) (i + 3) (get_or xs 3 d) ≡ sets o i xs
four_set o [] i d h = absurd (omega arith)
four_set o (x ∷ []) i d h = absurd (omega arith)
four_set o (x ∷ y ∷ []) i d h = absurd (omega arith)
four_set o (x ∷ y ∷ z ∷ []) i d h = absurd (omega arith)
four_set o (x ∷ y ∷ z ∷ w ∷ []) i d h =
    let e : i + 1 ≡ suc i = omega arith in
    let f : i + 2 ≡ suc (suc i) = omega arith in
    let g : i + 3 ≡ suc (suc (suc i)) = omega arith in
    rw (e, f, g)
four_set o (x ∷ y ∷ z ∷ w ∷ v ∷ vs) i d h = absurd (omega arith)

-- A window's references from k on.
module _ (name : ℕ) where
  abbrev references : List (List ℤ)
  references = map entries_of (named_of name).triples

  abbrev pub From : ℕ → List ℤ → Type 0
  From k offsets = with_references (record { count = k; offsets = offsets }) (drop k references) ≡ window_named name

  pub from_first : From 0 blank_window.offsets
  unfolding window_named
  from_first = refl

  pub from_next : (k : ℕ) (offsets : List ℤ) (t : Triple) → k < length (named_of name).triples → t ≡ get_or (named_of name).triples k centre
      → From k offsets → From (k + 1) (sets offsets (4 * k) (entries_of t))
  unfolding with_references
  from_next k offsets t h e f =
      let q : k + 1 ≡ suc k = omega arith in
      let here : drop k references ≡ entries_of t ∷ drop (suc k) references =
      drop-cons references k (entries_of centre) (rw length-map h)
      ∙ ap (λ x. x ∷ drop (suc k) references) (get_or-map entries_of (named_of name).triples k centre ∙ ap entries_of (sym e)) in
      ap (λ m. with_references (record { count = k + 1; offsets = sets offsets (4 * k) (entries_of t) }) (drop m references)) q
      ∙ ap (with_references (record { count = k; offsets = offsets })) (sym here)
      ∙ f

  pub from_last : (k : ℕ) (offsets : List ℤ) → length (named_of name).triples ≤ k → From k offsets → record { count = k; offsets = offsets } ≡ window_named name
  unfolding with_references
  from_last k offsets h f =
      ap (with_references (record { count = k; offsets = offsets })) (sym (drop_of_length-le references {i = k} (rw length-map h))) ∙ f
