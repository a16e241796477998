-- The loop over the clocks of aligned filters, as its function is handed it: one law for each way that a turn goes.
use Prim.Native.Nat.{ℕ, zero, suc, ◌+◌, ◌-◌, ◌*◌, ◌%◌, ◌≤◌, ◌<◌}
use mathlib.Core.Bool.{Bool}
use mathlib.Core.List.{List}
use mathlib.Core.Path.{◌≡◌, refl, sym, ◌∙◌, ap}
use native.Mathlib.Nat.{mod-lt, zero-add, add-zero, sub-zero, zero-mul, suc-mul}
use native.Mathlib.Numerals.{add-one}
use native.Mathlib.Omega.{arith}
use lib.ListN.{length, get_or, take}
use lib.Seq.{sets, get_or-take, length-take-le}
use Rattle.model_run.specs.Clock.{Layout}
use Rattle.model_run.specs.Running.{Done, Spent, Starved, Full}
use Rattle.model.specs.declared.Kernel.{Kernel}
use Rattle.flow.proofs.Invariant.{first_wanted}
use Rattle.loop_laws.specs.Passes.{of, ahead, Lent, lent_of, passing, heads}
use Rattle.loop_laws.specs.Standings.{counting, stand, ended_at}
use Rattle.loop_laws.specs.LoopTables.{walked}
use Rattle.loop_laws.proofs.FillLaws.{first_take}
use Rattle.loop_laws.proofs.GlideLaws.{
  Gliding,
  gliding_start,
  gliding_waits,
  gliding_fires,
  gliding_turns,
  due_next,
  ends_spent,
  ends_starved,
  ends_full,
  ends_done,
}
use Rattle.run_glide.proofs.RingLaws.{caps_at, puts_at, gets_at}
use Rattle.run_glide.specs.Glides.{fired_of, passes_of, fires_of, Starts, Glides, calls, GoodPlaces, Sound}

-- The terms and the width of a firing, by other names.
pub named : (L : Layout) (write : List ℕ → List ℕ) (kernel : Kernel) (ts ts' : List ℕ) (n row iterations cells centre w w' fired dims : ℕ) (at wants caps bases tops spans strides passed us gs store : List ℕ) → ts ≡ ts' → w ≡ w'
    → Glides L write kernel ts' n row iterations cells centre w' fired dims at wants caps bases tops spans strides passed us gs store
    → Glides L write kernel ts n row iterations cells centre w fired dims at wants caps bases tops spans strides passed us gs store
named L write kernel ts ts' n row iterations cells centre w w' fired dims at wants caps bases tops spans strides passed us gs store e d G = rw (e, d) G

module _ (L : Layout) (write : List ℕ → List ℕ) (kernel : Kernel) (ts : List ℕ) (n row iterations cells centre size fired₀ dims : ℕ) (at wants caps bases tops spans strides passed us₀ gs₀ store₀ : List ℕ)
    (lent out₀ : List ℕ) (allowance : ℕ) where
  abbrev pub Glide : (us gs store out : List ℕ) (fired wait left taken o : ℕ) → Type 0
  Glide = Gliding L (walked spans strides dims 0) write size n cells iterations row at caps bases tops passed lent fired₀ allowance us₀ gs₀ store₀ out₀

  module _ (G : Glides L write kernel ts n row iterations cells centre size fired₀ dims at wants caps bases tops spans strides passed us₀ gs₀ store₀) where
    first_small : get_or at 0 0 ≤ 1048576
    first_small =
        let zeroth : 0 < iterations = omega (arith, G.more) in
        omega (
          arith,
          G.tables.reads 0 0 zeroth G.tables.some,
          G.tables.lawful.within 0 0 (omega arith) G.tables.lawful.some,
          G.tables.cells_are,
          G.tables.most,
        )

    -- Filter 0 is not past the cell that it wants.
    due : get_or passed 0 0 ≤ get_or at 0 0 + walked spans strides dims 0 fired₀
    due =
        omega (
          arith,
          first_wanted L (counting fired₀ (take n passed)) G.stands.holds,
          first_take n passed G.tables.some (omega (arith, G.stands.there, G.tables.few)),
          G.tables.reads fired₀ 0 G.more G.tables.some,
        )

    wait_there : get_or passed 0 0 ≤ get_or wants 0 0
    wait_there = omega (arith, due, G.wanted)

    wanted_low : get_or wants 0 0 ≤ 1048576
    wanted_low =
        omega (
          arith,
          G.wanted,
          G.tables.reads fired₀ 0 G.more G.tables.some,
          G.tables.lawful.within fired₀ 0 (omega (arith, G.more, G.tables.iterations_are)) G.tables.lawful.some,
          G.tables.cells_are,
          G.tables.most,
        )

    ring : (k : ℕ) → k + 1 < n → GoodPlaces (get_or bases k 0) (get_or tops k 0) (get_or us₀ k 0) (get_or gs₀ k 0) (length store₀)
    ring k l =
        let h : suc k < n = rw (← add-one k) l in
        let ln : length (take n passed) ≡ n = length-take-le n passed (omega (arith, G.stands.there, G.tables.few)) in
        let c : 0 < get_or caps k 0 = rw zero-add at (caps_at (of at) (of caps) 0 k (take n passed) (omega (arith, ln)) G.rings.aligned) in
        let u : get_or us₀ k 0 ≡ get_or bases k 0 + get_or (take n passed) k 0 % get_or caps k 0 =
        sym (get_or-take (n - 1) us₀ k 0 (omega arith)) ∙ ap (λ (l : List ℕ). get_or l k 0) G.rings.at_puts
        ∙ (rw zero-add at (puts_at (of bases) (of caps) 0 k (take n passed) (omega (arith, ln)))) in
        let g : get_or gs₀ k 0 ≡ get_or bases k 0 + get_or (take n passed) (suc k) 0 % get_or caps k 0 =
        sym (get_or-take (n - 1) gs₀ k 0 (omega arith)) ∙ ap (λ (l : List ℕ). get_or l k 0) G.rings.at_gets
        ∙ (rw zero-add at (gets_at (of bases) (of caps) 0 k (take n passed) (omega (arith, ln)))) in
        let t = G.rings.tops_are k h in (
          omega arith,
          omega (arith, mod-lt (get_or (take n passed) k 0) c),
          omega (arith, mod-lt (get_or (take n passed) (suc k) 0) c),
          omega (arith, G.stands.within k h),
        )

    -- What a chain's call hands in passes the test.
    pub sound : Sound n dims row iterations (length store₀) at wants bases tops spans strides passed us₀ gs₀
    sound = record {
      in_rows = record { walks = G.walks; some = G.rows.some; most = G.most; first_low = first_small; wanted_low = wanted_low; due = wait_there };
      in_rings = record { some = G.tables.some; few = G.tables.few; each = ring };
    }

    pub glide_start : (full : Bool) (first position wait left : ℕ) → Starts full n row fired₀ first position wait left at wants caps passed
        → Glide us₀ (heads full us₀ gs₀) store₀ out₀ fired₀ wait left 0 0
    glide_start full first position wait left S =
        gliding_start _ _ _ _ _ _ _ _ _ _ _ _ _ _ _ _ _ _ _ _ G.tables G.stands G.rows G.rings full S.full_is wait left S.left_is
        (λ _. omega (arith, wait_there, G.wanted, S.wait_is))

    module _ (us gs store out : List ℕ) (fired wait left taken o : ℕ) (s : Glide us gs store out fired wait left taken o) where
      pub fired_most : fired₀ + (fired - fired₀) ≤ iterations
      fired_most = omega (arith, s.made, s.begun)

      due_after : fired < iterations → wait ≤ 0 → fired + 1 < iterations → get_or passed 0 0 + (taken + 1) ≤ get_or at 0 0 + walked spans strides dims 0 (fired + 1)
      due_after = due_next _ _ _ _ _ _ _ _ _ _ _ _ _ _ _ _ _ _ _ _ G.tables G.stands G.rows G.rings _ _ _ _ _ _ _ _ _ s

      -- A firing.
      module _ (us' gs' store' out' : List ℕ) (x : ℕ) (e : lent_of us' gs' store' out' ≡ fired_of kernel centre ts n o bases tops x (lent_of us gs store out))
          (ex : x ≡ get_or lent taken 0) (fl : fired < iterations) (al : taken ≡ allowance → ⊥) (tl : taken < length lent) (wl : wait ≤ 0) (r : size ≤ length out - o) where
        output : out' ≡ sets out o (write (passing (n - 1) x us gs store))
        output = ap (λ (l : Lent). l.words) e ∙ ap (λ (ws : List ℕ). sets out o ws) (sym (G.writes_are (passing (n - 1) x us gs store)))

        glide_fires : 0 < left - 1 → Glide us' gs' store' out' (fired + 1) wait (left - 1) (taken + 1) (o + size)
        glide_fires g =
            gliding_fires _ _ _ _ _ _ _ _ _ _ _ _ _ _ _ _ _ _ _ _ G.tables G.stands G.rows G.rings _ _ _ _ _ _ _ _ _ s us' gs' store' x
            (ap (λ (l : Lent). l.puts) e) (ap (λ (l : Lent). l.gets) e) (ap (λ (l : Lent). l.store) e) ex fl al tl out' wl r output g

        glide_turns : (w' : ℕ) → left - 1 ≤ 0 → (fired + 1 < iterations → get_or passed 0 0 + (taken + 1) + w' ≡ get_or at 0 0 + walked spans strides dims 0 (fired + 1))
            → Glide us' gs' store' out' (fired + 1) w' row (taken + 1) (o + size)
        glide_turns w' g ew =
            gliding_turns _ _ _ _ _ _ _ _ _ _ _ _ _ _ _ _ _ _ _ _ G.tables G.stands G.rows G.rings _ _ _ _ _ _ _ _ _ s us' gs' store' x
            (ap (λ (l : Lent). l.puts) e) (ap (λ (l : Lent). l.gets) e) (ap (λ (l : Lent). l.store) e) ex fl al tl out' wl r output w' g ew

      -- The ways out.
      pub glide_spent : fired < iterations → taken ≡ allowance
          → ended_at Spent (stand (fired₀ + (fired - fired₀)) (ahead taken (take n passed)) store out taken taken (fired - fired₀)) ≡ calls L write size n fired₀ passed store₀ lent out₀ allowance
      glide_spent h e = ends_spent _ _ _ _ _ _ _ _ _ _ _ _ _ _ _ _ _ _ _ _ G.tables G.stands G.rows G.rings _ _ _ _ _ _ _ _ _ s h e

      pub glide_starved : fired < iterations → (taken ≡ allowance → ⊥) → length lent ≤ taken
          → ended_at Starved (stand (fired₀ + (fired - fired₀)) (ahead taken (take n passed)) store out taken taken (fired - fired₀)) ≡ calls L write size n fired₀ passed store₀ lent out₀ allowance
      glide_starved h e l = ends_starved _ _ _ _ _ _ _ _ _ _ _ _ _ _ _ _ _ _ _ _ G.tables G.stands G.rows G.rings _ _ _ _ _ _ _ _ _ s h e l

      pub glide_full : fired < iterations → (taken ≡ allowance → ⊥) → taken < length lent → wait ≤ 0 → length out - o < size
          → ended_at Full (stand (fired₀ + (fired - fired₀)) (ahead taken (take n passed)) store out taken taken (fired - fired₀)) ≡ calls L write size n fired₀ passed store₀ lent out₀ allowance
      glide_full h e l w r = ends_full _ _ _ _ _ _ _ _ _ _ _ _ _ _ _ _ _ _ _ _ G.tables G.stands G.rows G.rings _ _ _ _ _ _ _ _ _ s h e l w r

      pub glide_done : iterations ≤ fired
          → ended_at Done (stand (fired₀ + (fired - fired₀)) (ahead taken (take n passed)) store out taken taken (fired - fired₀)) ≡ calls L write size n fired₀ passed store₀ lent out₀ allowance
      glide_done h = ends_done _ _ _ _ _ _ _ _ _ _ _ _ _ _ _ _ _ _ _ _ G.tables G.stands G.rows G.rings _ _ _ _ _ _ _ _ _ s h

    -- Many clocks.
    module _ (us gs store out : List ℕ) (fired wait left taken o : ℕ) (s : Glide us gs store out fired wait left taken o) where
      -- So many clocks without a firing.
      glide_passes : (words : List ℕ) (m : ℕ) → fired < iterations → m ≤ wait → taken + m ≤ allowance → taken + m ≤ length lent
          → let l = passes_of n 0 bases tops lent taken 0 m (lent_of us gs store words) in Glide l.puts l.gets l.store out fired (wait - m) left (taken + m) o
      unfolding fires_of
      glide_passes words zero fl wl al tl = rw (sub-zero wait, add-zero taken) s
      glide_passes words (suc i) fl wl al tl =
          let l = passes_of n 0 bases tops lent taken 0 i (lent_of us gs store words) in
          let h = glide_passes words i fl (omega arith) (omega arith) (omega arith) in
          let l' = passes_of n 0 bases tops lent taken 0 (suc i) (lent_of us gs store words) in
          let g = gliding_waits _ _ _ _ _ _ _ _ _ _ _ _ _ _ _ _ _ _ _ _ G.tables G.stands G.rows G.rings _ _ _ _ _ _ _ _ _ h l'.puts l'.gets l'.store
          (get_or lent (taken + i) 0) refl refl refl refl fl (omega arith) (omega arith) (omega arith) in
          let e₁ : wait - suc i ≡ wait - i - 1 = omega arith in
          let e₂ : taken + suc i ≡ taken + i + 1 = omega arith in
          rw (e₁, e₂) g

      -- So many firings, of which none is the last of its row;
      module _ (fl : fired < iterations) (wl : wait ≤ 0) where
        glide_fires_on : (m : ℕ) → m < left → fired + m ≤ iterations → taken + m ≤ allowance → taken + m ≤ length lent → m * size ≤ length out - o
            → let l = fires_of kernel centre ts n size bases tops lent taken o m (lent_of us gs store out) in Glide l.puts l.gets l.store l.words (fired + m) wait (left - m) (taken + m) (o + m * size)
        unfolding fires_of
        glide_fires_on zero ll il al tl r = rw (add-zero fired, sub-zero left, add-zero taken, zero-mul size, add-zero o) s
        glide_fires_on (suc i) ll il al tl r =
            let l = fires_of kernel centre ts n size bases tops lent taken o i (lent_of us gs store out) in
            let w : suc i * size ≡ i * size + size = suc-mul i size in
            let h = glide_fires_on i (omega arith) (omega arith) (omega arith) (omega arith) (omega arith) in
            let l' = fired_of kernel centre ts n (o + i * size) bases tops (get_or lent (taken + i) 0) l in
            let g = glide_fires l.puts l.gets l.store l.words (fired + i) wait (left - i) (taken + i) (o + i * size) h l'.puts l'.gets l'.store l'.words
            (get_or lent (taken + i) 0) refl refl (omega arith) (omega arith) (omega arith) wl (omega (arith, w, h.out_length, s.out_length, s.room)) (omega arith) in
            let e₁ : fired + suc i ≡ fired + i + 1 = omega arith in
            let e₂ : left - suc i ≡ left - i - 1 = omega arith in
            let e₃ : taken + suc i ≡ taken + i + 1 = omega arith in
            let e₄ : o + suc i * size ≡ o + i * size + size = omega (arith, w) in
            rw (e₁, e₂, e₃, e₄) g

        -- and so many whose last is: `w'` is the wait in the next row, as it is found.
        glide_fires_out : (full : Bool) (first position wait₀ left₀ : ℕ) → Starts full n row fired₀ first position wait₀ left₀ at wants caps passed
            → (m : ℕ) → 0 < m → m ≤ left → left - m ≤ 0 → fired + m ≤ iterations → taken + m ≤ allowance → taken + m ≤ length lent → m * size ≤ length out - o → (w' : ℕ)
            → (fired + m < iterations → position + (taken + m) ≤ first + walked spans strides dims 0 (fired + m) → position + (taken + m) + w' ≡ first + walked spans strides dims 0 (fired + m))
            → let l = fires_of kernel centre ts n size bases tops lent taken o m (lent_of us gs store out) in Glide l.puts l.gets l.store l.words (fired + m) w' row (taken + m) (o + m * size)
        unfolding fires_of
        glide_fires_out full first position wait₀ left₀ S zero ml ll le il al tl r w' f = absurd (omega arith)
        glide_fires_out full first position wait₀ left₀ S (suc i) ml ll le il al tl r w' f =
            let l = fires_of kernel centre ts n size bases tops lent taken o i (lent_of us gs store out) in
            let w : suc i * size ≡ i * size + size = suc-mul i size in
            let h = glide_fires_on i (omega arith) (omega arith) (omega arith) (omega arith) (omega arith) in
            let l' = fired_of kernel centre ts n (o + i * size) bases tops (get_or lent (taken + i) 0) l in
            let e₁ : fired + suc i ≡ fired + i + 1 = omega arith in
            let e₃ : taken + suc i ≡ taken + i + 1 = omega arith in
            let e₄ : o + suc i * size ≡ o + i * size + size = omega (arith, w) in
            let due = due_after l.puts l.gets l.store l.words (fired + i) wait (left - i) (taken + i) (o + i * size) h (omega arith) wl in
            let f' = rw (e₁, e₃) at f in
            let g = glide_turns l.puts l.gets l.store l.words (fired + i) wait (left - i) (taken + i) (o + i * size) h l'.puts l'.gets l'.store l'.words
            (get_or lent (taken + i) 0) refl refl (omega arith) (omega arith) (omega arith) wl (omega (arith, w, h.out_length, s.out_length, s.room)) w' (omega arith)
            (λ z. omega (arith, S.first_is, S.position_is, f' z (omega (arith, S.first_is, S.position_is, due z)))) in
            rw (e₁, e₃, e₄) g

        -- The same, of what is left.
        module _ (us' gs' store' out' : List ℕ) (m : ℕ) (e : lent_of us' gs' store' out' ≡ fires_of kernel centre ts n size bases tops lent taken o m (lent_of us gs store out))
            (il : fired + m ≤ iterations) (al : taken + m ≤ allowance) (tl : taken + m ≤ length lent) (r : m * size ≤ length out - o) where
          pub glide_fired : 0 < left - m → Glide us' gs' store' out' (fired + m) wait (left - m) (taken + m) (o + m * size)
          glide_fired h =
              rw (ap (λ (l : Lent). l.puts) e, ap (λ (l : Lent). l.gets) e, ap (λ (l : Lent). l.store) e, ap (λ (l : Lent). l.words) e)
              (glide_fires_on m (omega arith) il al tl r)

          pub glide_turned : (full : Bool) (first position wait₀ left₀ : ℕ) → Starts full n row fired₀ first position wait₀ left₀ at wants caps passed → 0 < m → m ≤ left → left - m ≤ 0 → (w' : ℕ)
              → (fired + m < iterations → position + (taken + m) ≤ first + walked spans strides dims 0 (fired + m) → position + (taken + m) + w' ≡ first + walked spans strides dims 0 (fired + m))
              → Glide us' gs' store' out' (fired + m) w' row (taken + m) (o + m * size)
          glide_turned full first position wait₀ left₀ S ml ll le w' f =
              rw (ap (λ (l : Lent). l.puts) e, ap (λ (l : Lent). l.gets) e, ap (λ (l : Lent). l.store) e, ap (λ (l : Lent). l.words) e)
              (glide_fires_out full first position wait₀ left₀ S m ml ll le il al tl r w' f)

      pub glide_waited : (us' gs' store' words words' : List ℕ) (m : ℕ) → lent_of us' gs' store' words' ≡ passes_of n 0 bases tops lent taken 0 m (lent_of us gs store words) → fired < iterations
          → m ≤ wait → taken + m ≤ allowance → taken + m ≤ length lent → Glide us' gs' store' out fired (wait - m) left (taken + m) o
      glide_waited us' gs' store' words words' m e fl wl al tl =
          rw (ap (λ (l : Lent). l.puts) e, ap (λ (l : Lent). l.gets) e, ap (λ (l : Lent). l.store) e) (glide_passes words m fl wl al tl)
