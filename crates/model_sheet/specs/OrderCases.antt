-- What may stand where (document 01, "Lines of the sheet"; document 02, requests 1, 2, 4 and 5): of each sheet, by what stood
-- last, the first bytes that a line may have next; one table, computed for all first bytes up to 10.
use Rattle.std.specs.Prelude.{ℕ, Bool, true, false, cond, List, [], ◌∷◌, map, ◌≡◌, refl}
use Rattle.model.specs.Lists.{tabulate, up_to, any}
use Rattle.model.specs.declared.Last.{Last}
use Rattle.model.specs.declared.Last.TheVariants as stood
use Rattle.model_sheet.specs.Reading.{next_in_request, next_in_chain, miscounted, among, misplaced}

-- After a line of this kind: where one reference was read, and no capacity; two, and no capacity; two, and one; and one of
-- each, which no chain sheet reaches.
pub record Next : Type 0 where
  pub last : Last
  pub one : List ℕ
  pub lacking : List ℕ
  pub both : List ℕ
  pub over : List ℕ

abbrev after : Last → (one lacking both over : List ℕ) → Next
after last one lacking both over = record { last = last; one = one; lacking = lacking; both = both; over = over }

-- The same, however many were read.
abbrev always : Last → List ℕ → Next
always last kinds = after last kinds kinds kinds kinds

unfoldable pub requests : List Next
requests =
    -- "A request sheet is one `01`, one or more `02`, one `04`." "A line `09` may stand in place of `01`"
    always stood.Nothing (1 ∷ 9 ∷ [])
    -- "A line `07` .. may stand for all `02` lines"
    ∷ always stood.Grid (2 ∷ 7 ∷ [])
    -- "A request or chain sheet may carry a line `08` just after the last `02` or the `07`"
    ∷ always stood.Offset (2 ∷ 4 ∷ 8 ∷ [])
    ∷ always stood.Name (4 ∷ 8 ∷ [])
    ∷ always stood.Box (4 ∷ [])
    ∷ always stood.Kernel []
    -- of lines that it does not have
    ∷ always stood.Capacity []
    ∷ always stood.Order []
    ∷ []

unfoldable pub chains : List Next
chains =
    always stood.Nothing (1 ∷ 9 ∷ [])
    ∷ always stood.Grid (2 ∷ [])
    -- "A chain sheet has n−1 `03` lines before the `04`", and may carry "a line `06` just before `04`"
    ∷ after stood.Offset (2 ∷ 4 ∷ 6 ∷ 8 ∷ []) (2 ∷ 3 ∷ 8 ∷ []) (2 ∷ 4 ∷ 6 ∷ 8 ∷ []) (2 ∷ 8 ∷ [])
    ∷ after stood.Box (4 ∷ 6 ∷ []) (3 ∷ []) (4 ∷ 6 ∷ []) []
    ∷ after stood.Capacity (4 ∷ 6 ∷ []) (3 ∷ []) (4 ∷ 6 ∷ []) []
    ∷ after stood.Order (4 ∷ []) [] (4 ∷ []) []
    ∷ always stood.Kernel []
    -- of a line that it does not have
    ∷ always stood.Name []
    ∷ []

-- The numbers for which p does not hold.
unfoldable pub except : (ℕ → Bool) → List ℕ → List ℕ
except p [] = []
except p (k ∷ ks) = let later = except p ks in cond (p k) later (k ∷ later)

unfoldable pub allowed : (chain_sheet : Bool) → Last → (given count : ℕ) → List ℕ
allowed chain_sheet last given count = except (misplaced chain_sheet last given count) (up_to 11)

unfoldable pub answered : (chain_sheet : Bool) → Next → Next
answered chain_sheet n =
    let may = allowed chain_sheet n.last in
    after n.last (may 0 1) (may 0 2) (may 1 2) (may 1 1)

pub table : (map (answered false) requests ≡ requests) × (map (answered true) chains ≡ chains)
unfolding requests chains except allowed answered tabulate up_to any next_in_request next_in_chain miscounted among misplaced
table = (refl, refl)
