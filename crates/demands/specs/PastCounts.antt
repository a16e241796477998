-- "entries past its counts play no part, and chains that differ only there are the same" (document 01, "Turned back on
-- account of the input"). That such chains are judged and run alike stands in `Promises`. "A part of the record whose line is
-- absent plays no part" (document 02, request 2).
use Rattle.std.specs.Prelude.{ℕ, ◌-◌, ◌*◌, ◌<◌, true, false, List, ◌≡◌, pos, get_or}
use Rattle.model.specs.Values.{dims_of, entry_of, capacity_of, Same}
use Rattle.model.specs.Planning.{trimmed_request, judge_request, plan_of}
use Rattle.model_sheet.specs.Writing.{write_of}
use Rattle.model.specs.declared.Bounds.{Bounds}
use Rattle.model.specs.declared.Grid.{Grid}
use Rattle.model.specs.declared.Window.{Window}
use Rattle.model.specs.declared.Order.{Order}
use Rattle.model.specs.declared.Request.{Request}
use Rattle.model.specs.declared.Chain.{Chain}

-- Two grids, two windows and two boxes on a grid of some dimensions, two orders of n terms, two chains and two requests that
-- differ only past their counts or in an absent part. Beside a grid its rows are lent: of a rectangle the sizes play a part,
-- of a skewed grid how many rows it has, and two numbers for each of them.
pub record GridsAgree (g : Grid) (rows : List ℕ) (h : Grid) (rows' : List ℕ) : Type 0 where
  pub skewed : g.skewed ≡ h.skewed
  pub dims : g.skewed ≡ false → g.dims ≡ h.dims
  pub sizes : g.skewed ≡ false → (d : ℕ) → d < g.dims → get_or g.sizes d 0 ≡ get_or h.sizes d 0
  pub count : g.skewed ≡ true → g.rows ≡ h.rows
  pub lent : g.skewed ≡ true → (i : ℕ) → i < 2 * g.rows → get_or rows i 0 ≡ get_or rows' i 0

pub record WindowsAgree (dims : ℕ) (v w : Window) : Type 0 where
  pub count : v.count ≡ w.count
  pub entries : (k d : ℕ) → k < v.count → d < dims → entry_of v k d ≡ entry_of w k d

pub record OrdersAgree (n : ℕ) (o p : Order) : Type 0 where
  pub stood : o.stood ≡ p.stood
  pub filters : o.stood ≡ true → (i : ℕ) → i < n → get_or o.filters i 0 ≡ get_or p.filters i 0

pub record BoundsAgree (dims : ℕ) (a b : Bounds) : Type 0 where
  pub stood : a.stood ≡ b.stood
  pub lowest : a.stood ≡ true → (d : ℕ) → d < dims → get_or a.lowest d (pos 0) ≡ get_or b.lowest d (pos 0)
  pub highest : a.stood ≡ true → (d : ℕ) → d < dims → get_or a.highest d (pos 0) ≡ get_or b.highest d (pos 0)

pub record ChainsAgree (c : Chain) (rows : List ℕ) (d : Chain) (rows' : List ℕ) : Type 0 where
  pub grid : GridsAgree c.grid rows d.grid rows'
  pub window : WindowsAgree (dims_of c.grid) c.window d.window
  pub bounds : BoundsAgree (dims_of c.grid) c.bounds d.bounds
  pub capacities : (k : ℕ) → k < c.window.count - 1 → capacity_of c k ≡ capacity_of d k
  pub order : OrdersAgree c.window.count c.order d.order
  pub kernel : c.kernel ≡ d.kernel

pub record RequestsAgree (r : Request) (rows : List ℕ) (q : Request) (rows' : List ℕ) : Type 0 where
  pub grid : GridsAgree r.grid rows q.grid rows'
  pub window : WindowsAgree (dims_of r.grid) r.window q.window
  pub bounds : BoundsAgree (dims_of r.grid) r.bounds q.bounds
  pub kernel : r.kernel ≡ q.kernel

-- Two requests, each with its rows, are the same.
abbrev pub SameRequest : Request → (rows : List ℕ) → Request → (rows : List ℕ) → Type 0
SameRequest r rows q rows' = trimmed_request r rows ≡ trimmed_request q rows'

pub record PastCounts : Type 0 where
  -- "chains that differ only there are the same", and so are requests.
  pub same_chains : (c d : Chain) (rows rows' : List ℕ) → ChainsAgree c rows d rows' → Same c rows d rows'
  pub same_requests : (r q : Request) (rows rows' : List ℕ) → RequestsAgree r rows q rows' → SameRequest r rows q rows'
  -- A written order, the chain order too, is not the same as none.
  pub apart : (c d : Chain) (rows rows' : List ℕ) → c.order.stood ≡ true → d.order.stood ≡ false → Same c rows d rows' → ⊥
  -- "the record tells a written full box from none": any written box, in a chain and in a request.
  pub box_apart : (c d : Chain) (rows rows' : List ℕ) → c.bounds.stood ≡ true → d.bounds.stood ≡ false
      → Same c rows d rows' → ⊥
  pub box_asked : (r q : Request) (rows rows' : List ℕ) → r.bounds.stood ≡ true → q.bounds.stood ≡ false
      → SameRequest r rows q rows' → ⊥
  -- The same chain is written alike,
  pub written : (c d : Chain) (rows rows' : List ℕ) → Same c rows d rows' → (output : List ℕ)
      → write_of c rows output ≡ write_of d rows' output
  -- the same request judged and planned alike.
  pub judged : (r q : Request) (rows rows' : List ℕ) → SameRequest r rows q rows' → judge_request r rows ≡ judge_request q rows'
  pub planned : (r q : Request) (rows rows' : List ℕ) → SameRequest r rows q rows' → plan_of r rows ≡ plan_of q rows'
