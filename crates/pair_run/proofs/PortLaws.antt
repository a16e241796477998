-- Ports: tables by the filters that hold a window's references, and what a kernel gives by them.
use Prim.Native.Nat.{ℕ, zero, suc, ◌≤◌, ◌<◌, min}
use mathlib.Core.Bool.{Bool, true, false, cond}
use mathlib.Core.List.{List, [], ◌∷◌, map}
use mathlib.Core.Path.{◌≡◌, refl, sym, ◌∙◌, ap, ap₂}
use native.Mathlib.Omega.{arith}
use lib.IntN.{ℤ}
use lib.ListN.{length, get_or, take}
use lib.Seq.{sets, length-take-le, get_or-take}
use lib.Dec.{eqb, ltb}
use borrow.Author.Tests.{lt-ltb, le-ltb, ltb-true}
use Rattle.model.specs.Lists.{tabulate, up_to, without}
use Rattle.model.specs.Steps.{which_of}
use Rattle.model.specs.Judging.{needs_centre}
use Rattle.model.specs.Pairs.{member}
use Rattle.model_run.specs.Kernels.{words_at, terms, difference, scaled, blend, written, width}
use Rattle.model_run.specs.PairRuns.{kept}
use Rattle.model.specs.declared.Kernel.{Kernel}
use Rattle.model.specs.declared.Kernel.TheVariants as kernel
use Rattle.grid_laws.proofs.ListLaws.{length_tabulate, get_d_tabulate, map_tabulate, tabulate_back}
use Rattle.run_laws.proofs.Between.{written_width}
use Rattle.kernel_words.proofs.SumLaws.{word_there}
use Rattle.kernel_rows.specs.Given.{given_to}
use Rattle.kernel_rows.proofs.GivenLaws.{given_fits}
use Rattle.geometry.specs.Parts.{Filled}
use Rattle.geometry.proofs.FillLaws.{filled_all}
use Rattle.pair_tables.proofs.TableLaws.{which_below}
use Rattle.pair_run.specs.declared.ports.Port.{Port}
use Rattle.pair_run.specs.Ports.{entry_of, through_of, gives, given_by, Sound, RoomBy}

-- ---- tables

pub entry_there : (table : List ℕ) (k : ℕ) → k < 32 → get_or table k 0 ≡ entry_of table k
unfolding entry_of
entry_there table k h = rw (lt-ltb k 32 h) refl

module _ (held references : List ℕ) (m : ℕ) where
  abbrev entry : ℕ → ℕ
  entry i = entry_of held (get_or references i 0)

  pub through_all : (last : ℕ) (filters : List ℕ) → last ≡ min m 32 → Filled 32 0 entry last filters → filters ≡ through_of held references m
  unfolding through_of
  through_all last filters e r =
      filled_all 32 0 entry (λ i. cond (ltb i (min m 32)) (entry i) 0) last filters (λ i h. rw (lt-ltb i (min m 32) (omega arith)) refl) (λ i h. rw (le-ltb i (min m 32) (omega arith)) refl) r

  -- The first m of it.
  pub through_back : m ≤ 32 → length references ≡ 32 → take m (through_of held references m) ≡ map (entry_of held) (take m references)
  unfolding through_of
  through_back few long =
      let f : ℕ → ℕ = λ i. cond (ltb i (min m 32)) (entry i) 0 in
      let own = length-take-le m references (omega arith) in
      sym (tabulate_back 0 (take m (tabulate 32 f)) m entry (length-take-le m (tabulate 32 f) (omega (arith, length_tabulate 32 f)))
      (λ i h. sym (get_or-take m (tabulate 32 f) i 0 h ∙ get_d_tabulate 32 f i 0 (omega arith) ∙ rw (lt-ltb i (min m 32) (omega arith)) refl)))
      ∙ sym (map_tabulate (entry_of held) m (λ i. get_or references i 0))
      ∙ ap (map (entry_of held)) (tabulate_back 0 (take m references) m (λ i. get_or references i 0) own (λ i h. sym (get_or-take m references i 0 h)))

pub through_long : (held references : List ℕ) (m : ℕ) → length (through_of held references m) ≡ 32
unfolding through_of
through_long held references m = length_tabulate 32 _

-- ---- numbers below n

abbrev pub Below : (n : ℕ) → List ℕ → Type 0
Below n [] = Unit {0}
Below n (k ∷ ks) = (k < n) × Below n ks

below_tabulate : (n m : ℕ) (f : ℕ → ℕ) → ((i : ℕ) → i < m → f i < n) → Below n (tabulate m f)
unfolding tabulate
below_tabulate n zero f h = tt
below_tabulate n (suc m) f h = (h 0 (omega arith), below_tabulate n m (λ i. f (suc i)) (λ i l. h (suc i) (omega arith)))

below_without : (n c : ℕ) (ks : List ℕ) → Below n ks → Below n (without c ks)
unfolding without
below_without n c [] b = tt
below_without n c (k ∷ ks) b = go (eqb k c) (below_without n c ks b.1)
  where
    go : (x : Bool) → Below n (without c ks) → Below n (cond x (without c ks) (k ∷ without c ks))
    go true r = r
    go false r = (b.0, r)

pub below_terms : (k : Kernel) (c n : ℕ) → Below n (terms k c (up_to n))
unfolding terms up_to
below_terms kernel.Raw c n = tt
below_terms kernel.Difference c n = below_without n c _ (below_tabulate n n (λ i. i) (λ i h. h))
below_terms (kernel.Scaled f) c n = below_tabulate n n (λ i. i) (λ i h. h)
below_terms (kernel.Blend g) c n = below_without n c _ (below_tabulate n n (λ i. i) (λ i h. h))

pub below_order : (os cs : List (List ℤ)) → Below (length os) (map (which_of os) (kept (member os) cs))
unfolding kept
below_order os [] = tt
below_order os (c ∷ cs) = go (member os c) (which_below os c) (below_order os cs)
  where
    go : (x : Bool) → ltb (which_of os c) (length os) ≡ x → Below (length os) (map (which_of os) (kept (member os) cs))
        → Below (length os) (map (which_of os) (cond x (c ∷ kept (member os) cs) (kept (member os) cs)))
    go true e r = (ltb-true (which_of os c) (length os) e, r)
    go false e r = r

-- ---- a kernel by the filters that hold its references

module _ (f : ℕ → ℕ) (hs ws : List ℕ) (same : (i : ℕ) → i < length hs → f i ≡ get_or hs i 0) where
  word_through : (i : ℕ) → i < length hs → get_or ws (f i) 0 ≡ get_or (words_at hs ws) i 0
  word_through i h = ap (λ (j : ℕ). get_or ws j 0) (same i h) ∙ sym (word_there hs ws i h)

  words_through : (ks : List ℕ) → Below (length hs) ks → words_at (map f ks) ws ≡ words_at ks (words_at hs ws)
  unfolding words_at
  words_through [] b = refl
  words_through (k ∷ ks) b = ap₂ (λ (x : ℕ) (l : List ℕ). x ∷ l) (unfold words_at in word_through k b.0) (words_through ks b.1)

  pub written_through : (k : Kernel) (c : ℕ) (ts us : List ℕ) → (needs_centre k ≡ true → c < length hs) → Below (length hs) ts → Below (length hs) us
      → written k (f c) (map f ts) (map f us) ws ≡ written k c ts us (words_at hs ws)
  unfolding written difference scaled blend needs_centre
  written_through kernel.Raw c ts us h bt bu = words_through us bu
  written_through kernel.Difference c ts us h bt bu = rw (words_through ts bt, word_through c (h refl)) refl
  written_through (kernel.Scaled g) c ts us h bt bu = rw (words_through ts bt) refl
  written_through (kernel.Blend g) c ts us h bt bu = rw (words_through ts bt, word_through c (h refl)) refl

-- ---- ports

pub gives_long : (g : Port) → Sound g → (ws : List ℕ) → length (gives g ws) ≡ g.width
unfolding gives
gives_long g s ws =
    let w = length-take-le g.count g.writes (omega (arith, s.count_few, s.writes_there)) in
    written_width g.kernel g.centre (take g.adds g.terms) (take g.count g.writes) ws ∙ ap (width g.kernel) w ∙ sym s.width_is

pub given_so : (g : Port) (n count at : ℕ) (batch out : List ℕ) → RoomBy g n count at (length batch) (length out)
    → given_to g.kernel g.centre (take g.adds g.terms) (take g.count g.writes) n count batch at out ≡ sets out at (given_by g n count batch)
unfolding given_by gives
given_so g n count at batch out r =
    let s = r.sound in
    let us = take g.count g.writes in
    let w : width g.kernel (length us) ≡ g.width = ap (width g.kernel) (length-take-le g.count g.writes (omega (arith, s.count_few, s.writes_there))) ∙ sym s.width_is in
    given_fits g.kernel g.centre (take g.adds g.terms) us n count batch at out r.filled (rw w s.wide) r.there (rw w r.fits)
