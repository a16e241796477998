-- A run call of a pair: its tables give what the pair's definitions say, and its parts leave what they say.
use Prim.Native.Nat.{ℕ, zero, suc, ◌*◌, ◌/◌, ◌≤◌, ◌<◌, min}
use mathlib.Core.Bool.{Bool, true, false, not, false≢true}
use mathlib.Core.List.{List, ◌++◌, map}
use mathlib.Core.Path.{◌≡◌, refl, sym, ◌∙◌, ap, ap₂}
use native.Mathlib.Nat.{mul-le-mul_right, le-div_iff_mul-le}
use native.Mathlib.Omega.{arith}
use lib.ListN.{length, get_or, take, drop, replicate, length-map}
use borrow.Author.Tests.{le-leb}
use lib.Seq.{sets, length-take-le, get_or-take}
use Rattle.model.specs.Lists.{up_to, any}
use Rattle.model.specs.Steps.{which_of}
use Rattle.model.specs.Values.{Trimmed, trimmed, dims_of, offsets_of, no_order}
use Rattle.model.specs.Answers.{Verdict, Answer, first_of}
use Rattle.model.specs.Judging.{repeats, needs_centre, lacks_centre, centred}
use Rattle.model.specs.Windows.{centre_of}
use Rattle.model_run.specs.Kernels.{terms, width}
use Rattle.model_run.specs.Running.{Ended, ended, outcome_of, with_counters, judge_run}
use Rattle.std.specs.Prelude.{Ok, Err}
use Rattle.model.specs.declared.Chain.{Chain}
use Rattle.model.specs.declared.Ran.{Ran}
use Rattle.model.specs.declared.Refusal.{Refusal}
use Rattle.model.specs.declared.State.{State}
use Rattle.model.specs.declared.Window.{Window}
use Rattle.grid_laws.proofs.ListLaws.{length_tabulate}
use Rattle.grid_laws.proofs.CheckLaws.{then_checks, few_references, some_references, few_dims}
use Rattle.run_laws.proofs.Accepts.{trimmed_proper}
use Rattle.windows.specs.Windows.{centre_in}
use Rattle.windows.proofs.OffsetLaws.{is_held}
use Rattle.kernel_terms.specs.FilterTables.{table_of, filters_for}
use Rattle.kernel_terms.specs.declared.Terms.{Terms}
use Rattle.kernel_terms.proofs.TableLaws.{table_fits, table_terms, filters_are}
use Rattle.model.specs.Pairs.{Own, own_of, member, raw_of, pair_checks, not_union, raw_chain}
use Rattle.model_run.specs.PairRuns.{kept, held_by, in_chain_order, own_gives, own_words, own_width, room_for, by_rows, PairRun, judge_pair, pair_ended, pair_output, run_pair, run_pair_of}
use Rattle.model.specs.declared.Side.{Side}
use Rattle.grid_laws.proofs.PairPasses.{PairPasses, pair_passes, raw_trimmed, any_both}
use Rattle.grid_laws.proofs.ChainLaws.{offsets_count}
use Rattle.pair_laws.proofs.SideLaws.{kept_all, first_fits, second_fits, judged_alike}
use Rattle.pair_windows.specs.Unions.{both_held}
use Rattle.pair_tables.specs.Tables.{held_in, chain_order_in}
use Rattle.pair_tables.proofs.TableLaws.{held_back, order_back, order_few, held_long, order_long}
use Rattle.pair_run.specs.declared.ports.Port.{Port}
use Rattle.pair_run.specs.Ports.{entry_of, through_of, port_of, gives, Sound}
use Rattle.pair_run.proofs.PortLaws.{Below, entry_there, through_back, through_long, below_terms, below_order, written_through}
use Rattle.pair_run.specs.Rounds.{Begin, all_of, Leaves, room_of, Buffered}
use Rattle.pair_run.specs.Calls.{pair_ran, Judged}
use Rattle.grid_laws.proofs.Tests.{neither}
use Rattle.grid_laws.proofs.TermLaws.{centre_below}

-- ---- ports

module _ (t : Trimmed) (dims : ℕ) (chain : Window) (side : Side) (offsets_are : t.offsets ≡ offsets_of dims chain) (few : dims ≤ 4) (chain-few : chain.count ≤ 32) (own-few : side.window.count ≤ 32) where
  abbrev w : Window
  w = side.window

  abbrev own : Own
  own = own_of dims side

  abbrev g : Port
  g = port_of dims chain side

  both_there : both_held dims chain.count w.count ≡ true
  unfolding both_held
  both_there = rw (le-leb dims 4 few, le-leb chain.count 32 chain-few, le-leb w.count 32 own-few) refl

  own_offsets : own.offsets ≡ offsets_of dims w
  unfolding own_of
  own_offsets = refl

  abbrev added : Terms
  added = table_of (terms side.kernel (centre_in dims w) (filters_for (min w.count 32) no_order))

  pub port_sound : 0 < own_width own → Sound g
  unfolding port_of table_of own_width own_of
  port_sound some =
      let long : length added.filters ≡ 32 = length_tabulate 32 _ in
      record {
        adds_few = omega (arith, long, table_fits side.kernel (centre_in dims w) w.count no_order own-few added refl);
        count_few = own-few;
        width_is = refl;
        wide = some;
        terms_there = through_long (held_in dims chain w) added.filters added.count;
        writes_there = through_long (held_in dims chain w) (chain_order_in dims chain w).filters w.count;
      }

  centre_so : centre_in dims w ≡ centre_of (offsets_of dims w)
  unfolding centre_in
  centre_so = rw (is_held dims w few own-few) refl

  -- The filter that holds a reference.
  filter : ℕ → ℕ
  filter j = entry_of (held_in dims chain w) j

  held_so : take w.count (held_in dims chain w) ≡ held_by t own
  held_so = held_back dims chain w both_there t own offsets_are own_offsets

  held_count : length (held_by t own) ≡ w.count
  held_count = ap length (sym held_so) ∙ length-take-le w.count (held_in dims chain w) (omega (arith, held_long dims chain w, own-few))

  filter_held : (i : ℕ) → i < length (held_by t own) → filter i ≡ get_or (held_by t own) i 0
  unfolding filter
  filter_held i h = sym (entry_there (held_in dims chain w) i (omega (arith, held_count, own-few))) ∙ sym (ap (λ (l : List ℕ). get_or l i 0) (sym held_so) ∙ get_or-take w.count (held_in dims chain w) i 0 (omega (arith, held_count)))

  module _ (d : repeats own.offsets ≡ false) (dt : repeats t.offsets ≡ false) (All-there : any (λ o. not (member t.offsets o)) own.offsets ≡ false)
      (centre-there : lacks_centre side.kernel (centred own.offsets) ≡ false) where
    shown_all : (chain_order_in dims chain w).count ≡ w.count
    unfolding in_chain_order
    shown_all =
        sym (length-take-le (chain_order_in dims chain w).count (chain_order_in dims chain w).filters (omega (arith, order_few dims chain w both_there t own offsets_are own_offsets, order_long dims chain w)))
        ∙ ap length (order_back dims chain w both_there t own offsets_are own_offsets)
        ∙ length-map (kept (member own.offsets) t.offsets) (which_of own.offsets)
        ∙ kept_all own.offsets t.offsets d dt All-there ∙ ap length own_offsets ∙ offsets_count dims w

    own_count : length own.offsets ≡ length (held_by t own)
    own_count = ap length own_offsets ∙ offsets_count dims w ∙ sym held_count

    centre_held : needs_centre side.kernel ≡ true → centre_of (offsets_of dims w) < length (held_by t own)
    unfolding lacks_centre
    centre_held n = let c = centred_so (centred own.offsets) (rw n at centre-there) in omega (arith, centre_below (offsets_of dims w) (rw own_offsets at c), ap length own_offsets, own_count)
      where
        centred_so : (x : Bool) → not x ≡ false → x ≡ true
        centred_so true e = refl
        centred_so false e = absurd (false≢true (sym e))

    writes_so : take w.count (through_of (held_in dims chain w) (chain_order_in dims chain w).filters w.count) ≡ map filter (in_chain_order t own)
    unfolding filter
    writes_so =
        through_back (held_in dims chain w) (chain_order_in dims chain w).filters w.count own-few (order_long dims chain w)
        ∙ ap (map (entry_of (held_in dims chain w))) (ap (λ (m : ℕ). take m (chain_order_in dims chain w).filters) (sym shown_all) ∙ order_back dims chain w both_there t own offsets_are own_offsets)

    abbrev added_terms : List ℕ
    added_terms = terms side.kernel (centre_of (offsets_of dims w)) (up_to w.count)

    terms_so : take added.count (through_of (held_in dims chain w) added.filters added.count) ≡ map filter added_terms
    unfolding filter table_of
    terms_so =
        let long : length added.filters ≡ 32 = length_tabulate 32 _ in
        through_back (held_in dims chain w) added.filters added.count (omega (arith, long, table_fits side.kernel (centre_in dims w) w.count no_order own-few added refl)) long
        ∙ ap (map (entry_of (held_in dims chain w)))
        (table_terms side.kernel (centre_in dims w) w.count no_order own-few added refl ∙ ap (terms side.kernel (centre_in dims w)) (filters_are w.count no_order)
        ∙ ap (λ (c : ℕ). terms side.kernel c (up_to w.count)) centre_so)

    below_added : Below (length (held_by t own)) added_terms
    below_added = rw held_count (below_terms side.kernel (centre_of (offsets_of dims w)) w.count)

    below_shown : Below (length (held_by t own)) (in_chain_order t own)
    unfolding in_chain_order
    below_shown = rw (← own_count) (below_order own.offsets t.offsets)

    pub port_gives : (ws : List ℕ) → gives g ws ≡ own_words t own ws
    unfolding gives port_of own_words own_gives own_of offsets_of
    port_gives ws =
        rw (terms_so, writes_so, centre_so)
        (unfold filter in written_through filter (held_by t own) ws filter_held side.kernel (centre_of (offsets_of dims w)) added_terms (in_chain_order t own) centre_held below_added below_shown)

  pub port_width : g.width ≡ own_width own
  unfolding port_of own_width own_of
  port_width = refl

pub port_is : (dims : ℕ) (chain : Window) (side : Side) (n centre : ℕ) (added shown : Terms) (held ts us : List ℕ) (wide filter : ℕ)
    → n ≡ side.window.count → centre ≡ centre_in dims side.window → added ≡ table_of (terms side.kernel centre (filters_for (min n 32) no_order))
    → shown ≡ chain_order_in dims chain side.window → held ≡ held_in dims chain side.window → wide ≡ width side.kernel n
    → ts ≡ through_of held added.filters added.count → us ≡ through_of held shown.filters n → filter ≡ entry_of held centre
    → record { kernel = side.kernel; centre = filter; adds = added.count; count = n; width = wide; terms = ts; writes = us } ≡ port_of dims chain side
unfolding port_of
port_is dims chain side n centre added shown held ts us wide filter en ec et eo eh ew es eu ef = rw (ef, es, eu, eh, eo, ew, et, ec, en) refl

rows_same : (n : ℕ) (f g : List ℕ → List ℕ) → ((ws : List ℕ) → f ws ≡ g ws) → (m : ℕ) (l : List ℕ) → by_rows n f m l ≡ by_rows n g m l
unfolding by_rows
rows_same n f g e zero l = refl
rows_same n f g e (suc m) l = ap₂ (λ (x y : List ℕ). x ++ y) (e (take n l)) (rows_same n f g e m (drop n l))

-- ---- the buffer

room_left : (x y w v : ℕ) → 0 < w → min (x / w) (y / v) * w ≤ x
room_left x y w v some = let l : min (x / w) (y / v) ≤ x / w = omega arith in omega (arith, mul-le-mul_right w l, (le-div_iff_mul-le some).0 (let z : x / w ≤ x / w = omega arith in z))

room_right : (x y w v : ℕ) → 0 < v → min (x / w) (y / v) * v ≤ y
room_right x y w v some = let l : min (x / w) (y / v) ≤ y / v = omega arith in omega (arith, mul-le-mul_right v l, (le-div_iff_mul-le some).0 (let z : y / v ≤ y / v = omega arith in z))

pub batch_begins : {raw : Chain} {rows : List ℕ} {n : ℕ} {g h : Port} {batch : ℕ} → Buffered raw rows n g h batch → (most block out other allowance : ℕ)
    → most ≡ room_of out other g.width h.width → block ≡ batch / n → out < 4611686018427387904 → other < 4611686018427387904 → allowance < 4294967296
    → Begin raw rows n most block g h out other batch allowance
batch_begins {n = n} {g = g} {h = h} {batch = batch} b most block out other allowance em eb so sr sa = record {
  plain = b.plain;
  count = b.count;
  some = let x : 1 ≤ batch / n = (le-div_iff_mul-le b.filled).1 (omega (arith, b.few, b.batch_some)) in omega (arith, eb);
  filled = b.filled;
  first_sound = b.first_sound;
  second_sound = b.second_sound;
  there = let x : batch / n * n ≤ batch = (le-div_iff_mul-le b.filled).0 (let z : batch / n ≤ batch / n = omega arith in z) in rw eb x;
  fits = rw em (room_left out other g.width h.width b.first_sound.wide);
  fits_other = rw em (room_right out other g.width h.width b.second_sound.wide);
  batch_short = b.batch_short;
  out_short = so;
  other_short = sr;
  allowance_short = sa;
}

-- A batch of other length.
pub batch_of : {raw : Chain} {rows : List ℕ} {n : ℕ} {g h : Port} {batch : ℕ} → Buffered raw rows n g h batch → (other : ℕ) → 32 ≤ other → other < 4294967296
    → Buffered raw rows n g h other
batch_of b other some short = record {
  plain = b.plain;
  count = b.count;
  filled = b.filled;
  few = b.few;
  batch_some = some;
  batch_short = short;
  first_sound = b.first_sound;
  second_sound = b.second_sound;
}

-- ---- the pair's call

raw_twice : (t : Trimmed) → raw_of (raw_of t) ≡ raw_of t
unfolding raw_of
raw_twice t = refl

raw_count : (t : Trimmed) → (raw_of t).count ≡ t.count
unfolding raw_of
raw_count t = refl

same_run : {x x' : Answer} {s s' : State} {p p' q q' r r' : List ℕ} → x ≡ x' → s ≡ s' → p ≡ p' → q ≡ q' → r ≡ r'
    → (let u : PairRun = record { answer = x; state = s; store = p; first = q; second = r } in u) ≡ record { answer = x'; state = s'; store = p'; first = q'; second = r' }
same_run e1 e2 e3 e4 e5 = rw (e1, e2, e3, e4, e5) refl

refused_pair_lem : (t : Trimmed) (a b : Own) (s : State) (store lent first second : List ℕ) (allowance : ℕ) (x : Refusal) → judge_pair t a b s store ≡ Err x
    → (let u : PairRun = record { answer = Err x; state = s; store = store; first = first; second = second } in u) ≡ run_pair t a b s store lent first second allowance
unfolding run_pair
refused_pair_lem t a b s store lent first second allowance x e = rw e refl

accepted_pair : (t : Trimmed) (a b : Own) (s : State) (store lent first second : List ℕ) (allowance : ℕ) → judge_pair t a b s store ≡ Ok tt
    → (let e = pair_ended t a b s store lent first second allowance in let u : PairRun = record {
      answer = Ok (outcome_of e.ending e.standing.done);
      state = with_counters s e.standing.counters;
      store = e.standing.store;
      first = pair_output t a b s store lent first second allowance a first;
      second = pair_output t a b s store lent first second allowance b second;
    } in u)
    ≡ run_pair t a b s store lent first second allowance
unfolding run_pair
accepted_pair t a b s store lent first second allowance e = rw e refl

module _ (c : Chain) (rows : List ℕ) (x y : Side) (s : State) (store lent out other : List ℕ) (allowance : ℕ) where
  abbrev t : Trimmed
  t = trimmed c rows

  abbrev D : ℕ
  D = dims_of c.grid

  abbrev a : Own
  a = own_of D x

  abbrev b : Own
  b = own_of D y

  pub refused_first : (z : Refusal) → first_of (pair_checks t a b) ≡ Err z
      → pair_ran (record { answer = Err z; state = s }) store out other ≡ run_pair_of c rows x y s store lent out other allowance
  unfolding run_pair_of judge_pair
  refused_first z e = refused_pair_lem t a b s store lent out other allowance z (then_checks (pair_checks t a b) _ ∙ rw e)

  module _ (raw : Chain) (raw-is : raw ≡ raw_chain c) (judged : Judged c rows x y) (dims n : ℕ) (ed : dims ≡ D) (en : n ≡ c.window.count) (g h : Port) (G : g ≡ port_of dims c.window x) (H : h ≡ port_of dims c.window y) where
    p : PairPasses t a b
    p = pair_passes t a b judged

    T : trimmed raw rows ≡ raw_of t
    T = ap (λ (u : Chain). trimmed u rows) raw-is ∙ raw_trimmed c rows

    few : D ≤ 4
    unfolding trimmed
    few = few_dims t.dims t.the_ground (trimmed_proper c rows).dimensions p.grid

    sc : c.window.count ≤ 32
    unfolding trimmed
    sc = few_references t.count p.count

    sx : x.window.count ≤ 32
    unfolding own_of
    sx = few_references a.count p.first_count

    sy : y.window.count ≤ 32
    unfolding own_of
    sy = few_references b.count p.second_count

    os : t.offsets ≡ offsets_of D c.window
    unfolding trimmed
    os = refl

    there : (any (λ o. not (member t.offsets o)) a.offsets ≡ false) × (any (λ o. not (member t.offsets o)) b.offsets ≡ false)
    unfolding not_union
    there = any_both _ a.offsets b.offsets (neither _ _ p.is_union).0

    G' : g ≡ port_of D c.window x
    G' = G ∙ ap (λ (m : ℕ). port_of m c.window x) ed

    H' : h ≡ port_of D c.window y
    H' = H ∙ ap (λ (m : ℕ). port_of m c.window y) ed

    own_long : (z : Side) → length (own_of D z).offsets ≡ (own_of D z).count
    unfolding own_of offsets_of
    own_long z = length_tabulate z.window.count _

    gw : g.width ≡ own_width a
    gw = ap (λ (k : Port). k.width) G' ∙ port_width t D c.window x os few sc sx

    hw : h.width ≡ own_width b
    hw = ap (λ (k : Port). k.width) H' ∙ port_width t D c.window y os few sc sy

    count_so : (trimmed raw rows).count ≡ t.count
    count_so = ap (λ (u : Trimmed). u.count) T ∙ raw_count t

    n_so : n ≡ t.count
    unfolding trimmed
    n_so = en

    pub pair_buffered : Buffered raw rows n g h 1024
    pair_buffered = record {
      plain = ap raw_of T ∙ raw_twice t ∙ sym T;
      count = n_so ∙ sym count_so;
      filled = omega (arith, n_so, some_references t.count p.count);
      few = omega (arith, n_so, few_references t.count p.count);
      batch_some = omega arith;
      batch_short = omega arith;
      first_sound = rw G' (port_sound t D c.window x os few sc sx (first_fits t a b (own_long x) (own_long y) p).wide);
      second_sound = rw H' (port_sound t D c.window y os few sc sy (second_fits t a b (own_long x) (own_long y) p).wide);
    }

    abbrev most : ℕ
    most = room_of (length out) (length other) g.width h.width

    same_end : all_of raw rows most s store lent allowance ≡ pair_ended t a b s store lent out other allowance
    unfolding pair_ended room_for raw_of
    same_end =
        ap (λ (u : Trimmed). ended (raw_of u) s store lent (replicate (most * u.count) 0) allowance) T
        ∙ ap₂ (λ (w v : ℕ). ended (raw_of t) s store lent (replicate (min (length out / w) (length other / v) * t.count) 0) allowance) gw hw

    output_so : (k : Port) (o : Own) → ((ws : List ℕ) → gives k ws ≡ own_words t o ws) → (q q' : List ℕ)
        → (let e = all_of raw rows most s store lent allowance in q' ≡ sets q 0 (by_rows (trimmed raw rows).count (gives k) e.standing.done.firings e.standing.output))
        → q' ≡ pair_output t a b s store lent out other allowance o q
    unfolding pair_output
    output_so k o f q q' e =
        e ∙ ap (λ (m : ℕ). sets q 0 (by_rows m (gives k) (all_of raw rows most s store lent allowance).standing.done.firings (all_of raw rows most s store lent allowance).standing.output)) count_so
        ∙ ap (λ (u : Ended). sets q 0 (by_rows t.count (gives k) u.standing.done.firings u.standing.output)) same_end
        ∙ ap (sets q 0) (rows_same t.count (gives k) (own_words t o) f (pair_ended t a b s store lent out other allowance).standing.done.firings (pair_ended t a b s store lent out other allowance).standing.output)

    -- As the raw chain is judged, so is the pair.
    judged_as : judge_pair t a b s store ≡ judge_run (trimmed raw rows) s store
    judged_as = judged_alike t a b s store judged ∙ ap (λ (u : Trimmed). judge_run u s store) (sym T)

    pub pair_leaves : {r : Ran} {store' out' other' : List ℕ} → Leaves r raw rows most g h s store store' lent out out' other other' allowance
        → pair_ran r store' out' other' ≡ run_pair_of c rows x y s store lent out other allowance
    unfolding run_pair_of own_of
    pair_leaves {r = r} {store' = store'} {out' = out'} {other' = other'} l = go (judge_run (trimmed raw rows) s store) refl
      where
        go : (v : Verdict) → judge_run (trimmed raw rows) s store ≡ v → pair_ran r store' out' other' ≡ run_pair t a b s store lent out other allowance
        go (Ok _) e =
            let k = l.ended e in
            same_run
            (k.answer_is ∙ ap (λ (u : Ended). Ok (outcome_of u.ending u.standing.done)) same_end)
            (k.state_is ∙ ap (λ (u : Ended). with_counters s u.standing.counters) same_end)
            (k.store_is ∙ ap (λ (u : Ended). u.standing.store) same_end)
            (output_so g a (λ ws. ap (λ (q : Port). gives q ws) G' ∙ port_gives t D c.window x os few sc sx p.first_distinct p.distinct there.0 p.first_centre ws) out out' k.first_is)
            (output_so h b (λ ws. ap (λ (q : Port). gives q ws) H' ∙ port_gives t D c.window y os few sc sy p.second_distinct p.distinct there.1 p.second_centre ws) other other' k.second_is)
            ∙ accepted_pair t a b s store lent out other allowance (judged_as ∙ e)
        go (Err z) e =
            let k = l.refused z e in
            same_run k.0 k.1 k.2 k.3 k.4 ∙ refused_pair_lem t a b s store lent out other allowance z (judged_as ∙ e)
