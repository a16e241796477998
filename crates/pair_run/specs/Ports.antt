-- Ports: how the words of a window of a pair come from the rows of the chain's firings.
use Rattle.std.specs.Prelude.{ℕ, ◌+◌, ◌*◌, ◌≤◌, ◌<◌, min, cond, List, ◌≡◌, ltb, length, get_or, take}
use Rattle.std.proofs.lemmas.List.Edits.{sets}
use Rattle.model.specs.Lists.{tabulate}
use Rattle.model.specs.Values.{no_order}
use Rattle.model_run.specs.Kernels.{written, width, terms as terms_of}
use Rattle.model_run.specs.PairRuns.{by_rows}
use Rattle.model.specs.declared.Side.{Side}
use Rattle.model.specs.declared.Window.{Window}
use Rattle.windows.specs.Windows.{centre_in}
use Rattle.kernel_terms.specs.FilterTables.{table_of, filters_for}
use Rattle.pair_tables.specs.Tables.{held_in, chain_order_in}
use Rattle.pair_run.specs.declared.ports.Port.{Port}

-- Entry k of a table of 32; 0 past its end.
unfoldable pub entry_of : (table : List ℕ) (k : ℕ) → ℕ
entry_of table k = cond (ltb k 32) (get_or table k 0) 0

-- The filters that hold the first m references of a table.
unfoldable pub through_of : (held references : List ℕ) (m : ℕ) → List ℕ
through_of held references m = tabulate 32 (λ i. cond (ltb i (min m 32)) (entry_of held (get_or references i 0)) 0)

-- The port of a window on a chain's: the tables of `kernel_terms` and `pair_tables`, whose references are numbered as the
-- window's author does, by the filters that hold these.
unfoldable pub port_of : (dims : ℕ) → (chain : Window) → Side → Port
port_of dims c s =
    let w = s.window in
    let centre = centre_in dims w in
    let held = held_in dims c w in
    let added = table_of (terms_of s.kernel centre (filters_for (min w.count 32) no_order)) in
    record {
      kernel = s.kernel;
      centre = entry_of held centre;
      adds = added.count;
      count = w.count;
      width = width s.kernel w.count;
      terms = through_of held added.filters added.count;
      writes = through_of held (chain_order_in dims c w).filters w.count;
    }

-- What its kernel gives of a row, and of `count` firings, each of which has n words in the batch.
unfoldable pub gives : Port → List ℕ → List ℕ
gives g ws = written g.kernel g.centre (take g.adds g.terms) (take g.count g.writes) ws

unfoldable pub given_by : Port → (n count : ℕ) → (batch : List ℕ) → List ℕ
given_by g n count batch = by_rows n (gives g) count batch

-- A port's tables have as many entries as it says.
pub record Sound (g : Port) : Type 0 where
  pub adds_few : g.adds ≤ 32
  pub count_few : g.count ≤ 32
  pub width_is : g.width ≡ width g.kernel g.count
  pub wide : 0 < g.width
  pub terms_there : length g.terms ≡ 32
  pub writes_there : length g.writes ≡ 32

-- There is room for what it gives.
pub record RoomBy (g : Port) (n count at batch out : ℕ) : Type 0 where
  pub sound : Sound g
  pub filled : 0 < n
  pub there : count * n ≤ batch
  pub fits : at + count * g.width ≤ out

-- Of both ports, behind the words of the firings before.
pub record RoomBoth (g h : Port) (n count fired batch out other : ℕ) : Type 0 where
  pub first : RoomBy g n count (fired * g.width) batch out
  pub second : RoomBy h n count (fired * h.width) batch other

pub record GivesBoth (g h : Port) (n count fired : ℕ) (batch out out' other other' : List ℕ) : Type 0 where
  pub first : out' ≡ sets out (fired * g.width) (given_by g n count batch)
  pub second : other' ≡ sets other (fired * h.width) (given_by h n count batch)
