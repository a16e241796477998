-- Filter numbers in a table.
use Rattle.std.specs.Prelude.{ℕ, Bool, cond, List, Option, Some, None, length, get_or}
use Rattle.model.specs.Lists.{tabulate, without}
use Rattle.model.specs.declared.Order.{Order}
use Rattle.kernel_terms.specs.declared.Terms.{Terms}

-- The table of a list of at most 32.
unfoldable pub table_of : List ℕ → Terms
table_of ks = record { filters = tabulate 32 (λ i. get_or ks i 0); count = length ks }

-- The filter of term i: the author's, or, where the line did not stand, that of chain order;
abbrev pub term_of : (stood : Bool) (filters : List ℕ) (i : ℕ) → ℕ
term_of stood filters i = cond stood (get_or filters i 0) i

-- and those of n terms.
unfoldable pub filters_for : (n : ℕ) → Order → List ℕ
filters_for n o = tabulate n (term_of o.stood o.filters)

-- All filters but one, or all where none is left out.
unfoldable pub all_but : Option ℕ → List ℕ → List ℕ
all_but None ks = ks
all_but (Some c) ks = without c ks
