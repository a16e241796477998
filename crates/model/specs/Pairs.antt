-- Two kernels on one chain (document 02, request 6): the union of their windows, judging, planning.
use Rattle.std.specs.Prelude.{ℕ, Bool, true, false, not, cond, ◌||◌, List, [], ◌∷◌, ◌++◌, ℤ, length, Result, Ok, Err}
use Rattle.model.specs.Lists.{any, up_to}
use Rattle.model.specs.Vectors.{equal}
use Rattle.model.specs.Boxes.{bad_box}
use Rattle.model.specs.Values.{Trimmed, dims_of, offsets_of, window_of, chain_of, no_order, set_order, set_kernel}
use Rattle.model.specs.Answers.{Check, check, first_of, by_verdict}
use Rattle.model.specs.Judging.{bad_ground, ground_refusal, bad_count, repeats, no_iteration, centred, lacks_centre}
use Rattle.model.specs.Judging.{bad_factor, too_large}
use Rattle.model.specs.Steps.{sorted}
use Rattle.model.specs.Planning.{trimmed_request}
use Rattle.model.specs.declared.Bounds.{Bounds}
use Rattle.model.specs.declared.Chain.{Chain}
use Rattle.model.specs.declared.Grid.{Grid}
use Rattle.model.specs.declared.Kernel.{Kernel}
use Rattle.model.specs.declared.Kernel.TheVariants as kernel
use Rattle.model.specs.declared.Refusal.{Refusal}
use Rattle.model.specs.declared.Refusal.TheVariants as refusal
use Rattle.model.specs.declared.Request.{Request}
use Rattle.model.specs.declared.Side.{Side}

-- "Two kernels, each with its own references and output": what of one of them plays a part.
pub record Own : Type 0 where
  pub count : ℕ
  pub offsets : List (List ℤ)
  pub kernel : Kernel

unfoldable pub own_of : (dims : ℕ) → Side → Own
own_of dims s = record { count = s.window.count; offsets = offsets_of dims s.window; kernel = s.kernel }

-- ---- the union

unfoldable pub member : List (List ℤ) → List ℤ → Bool
member os o = any (λ p. equal o p) os

-- Each offset once.
unfoldable pub distinct : List (List ℤ) → List (List ℤ)
distinct [] = []
distinct (o ∷ os) = let behind = distinct os in cond (member os o) behind (o ∷ behind)

-- "the union of the windows"
unfoldable pub union : Own → Own → List (List ℤ)
union a b = distinct (a.offsets ++ b.offsets)

-- 14 also: "the chain's references are not the union": one of a window is none of the chain's, or one of the chain's is of
-- neither window.
unfoldable pub not_union : (offsets : List (List ℤ)) → Own → Own → Bool
not_union os a b = any (λ o. not (member os o)) (a.offsets ++ b.offsets)
    || any (λ o. not (member (a.offsets ++ b.offsets) o)) os

-- ---- judging

-- The chain without its own kernel and order: raw.
unfoldable pub raw_of : Trimmed → Trimmed
raw_of t = record {
  dims = t.dims;
  the_ground = t.the_ground;
  count = t.count;
  offsets = t.offsets;
  part = t.part;
  capacities = t.capacities;
  ordered = false;
  order = [];
  kernel = kernel.Raw;
}

-- The same of a chain handed over as a value.
abbrev pub raw_chain : Chain → Chain
raw_chain c = set_order no_order (set_kernel kernel.Raw c)

-- The checks of a chain and two windows, in the order of `value_checks`: "The centre rule and 5 apply to each window, 4 to each
-- and to the union"; "the chain's own kernel and order play no part".
unfoldable pub pair_checks : Trimmed → Own → Own → List Check
pair_checks t a b =
    check (bad_ground t.dims t.the_ground) (ground_refusal t.the_ground)
    ∷ check (any bad_count (t.count ∷ a.count ∷ b.count ∷ length (union a b) ∷ [])) refusal.BadCount
    ∷ check (any repeats (t.offsets ∷ a.offsets ∷ b.offsets ∷ [])) refusal.EqualOffsets
    ∷ check (no_iteration t.the_ground t.offsets) refusal.NoIteration
    ∷ check (bad_box t.the_ground t.offsets t.part) refusal.BadBox
    ∷ check (lacks_centre a.kernel (centred a.offsets) || lacks_centre b.kernel (centred b.offsets)) refusal.NoCentre
    ∷ check (bad_factor a.kernel || bad_factor b.kernel) refusal.BadFactor
    ∷ check (too_large t.capacities) refusal.TooLarge
    ∷ check (not_union t.offsets a b) refusal.BadOrder
    ∷ []

-- ---- planning

-- The request whose plan the two share: the union, raw.
unfoldable pub union_request : Grid → Bounds → Own → Own → Request
union_request g bounds a b = record {
  grid = g;
  window = window_of (length (union a b)) (union a b);
  bounds = bounds;
  kernel = kernel.Raw;
}

-- "raw and in falling order": its plan, with the order of its terms written as 0, 1, 2, ..
unfoldable pub planned_union : Request → (rows : List ℕ) → Trimmed
planned_union r rows =
    let t = sorted (trimmed_request r rows) in
    record {
      dims = t.dims;
      the_ground = t.the_ground;
      count = t.count;
      offsets = t.offsets;
      part = t.part;
      capacities = t.capacities;
      ordered = true;
      order = up_to t.count;
      kernel = t.kernel;
    }

-- What planning a pair answers.
unfoldable pub plan_pair_of : Grid → (rows : List ℕ) → Bounds → Side → Side → Result Chain Refusal
plan_pair_of g rows bounds x y =
    let a = own_of (dims_of g) x in
    let b = own_of (dims_of g) y in
    let r = union_request g bounds a b in
    let chain = chain_of (planned_union r rows) in
    by_verdict (first_of (pair_checks (trimmed_request r rows) a b)) (Ok chain) Err
