-- What a firing leaves, by the two ways that its words go.
use Prim.Native.Nat.{ℕ, ◌+◌, ◌-◌, ◌≤◌, ◌<◌}
use mathlib.Core.List.{List, [], ◌∷◌, ◌++◌, append-nil}
use mathlib.Core.Logic.{inl, inr}
use mathlib.Core.Path.{◌≡◌, refl, sym, ◌∙◌, ap, ap₂}
use native.Mathlib.Nat.{add-zero}
use native.Mathlib.Decide.{dec_lt}
use native.Mathlib.Omega.{arith}
use lib.ListN.{length, get_or, take, drop, length-drop, get_or-append, get_or-eq_default}
use lib.Seq.{slice, sets, sets-eq, length-sets, get_or-append-add, get_or-drop, take_all, drop-length, length-take-le}
use Rattle.model.specs.Lists.{up_to}
use Rattle.model_run.specs.Kernels.{words_at, difference, scaled, blend, written, width}
use Rattle.model.specs.declared.Kernel.{Kernel}
use Rattle.model.specs.declared.Kernel.TheVariants as kernels
use Rattle.model_run.proofs.KernelLaws.{words_of_all}
use Rattle.model.specs.contracts.Kernel.{the_type}
use Rattle.kernel.specs.Applied.{applied}
use Rattle.kernel.proofs.AppliedLaws.{applied_fits}
use types.Run.{OneOf}
use denote.Enum.Declared.{tag_of}
use Rattle.loop_laws.specs.Passes.{Lent, lent_of, passing, pass_of, InStore}
use Rattle.loop_laws.proofs.FlowLaws.{length_flowed}
use Rattle.loop_laws.proofs.CallLaws.{sets_part}
use Rattle.run_glide.specs.Glides.{Blank, fired_of}

pub part_all : (l : List ℕ) (o : ℕ) → take (length l - o) (drop o l) ≡ drop o l
part_all l o = take_all (length l - o) (drop o l) (omega (arith, length-drop o l))

-- A row that was written from its start: past the words it is 0.
module _ (n : ℕ) (row vs : List ℕ) (B : Blank n row) (e : length vs ≡ n) (few : n ≤ 32) where
  all : sets row 0 vs ≡ vs ++ drop (0 + length vs) row
  all = sets-eq vs row 0 (omega (arith, B.there))

  pub entry : (k : ℕ) → get_or (sets row 0 vs) k 0 ≡ get_or vs k 0
  entry k = ap (λ (l : List ℕ). get_or l k 0) all ∙ go (dec_lt k n)
    where
      go : Dec (k < n) → get_or (vs ++ drop (0 + length vs) row) k 0 ≡ get_or vs k 0
      go (yes l) = get_or-append vs (drop (0 + length vs) row) 0 k (omega arith)
      go (no l) =
          let s : length vs + (k - n) ≡ k = omega arith in
          let z : get_or (vs ++ drop (0 + length vs) row) (length vs + (k - n)) 0 ≡ 0 =
          get_or-append-add vs (drop (0 + length vs) row) (k - n) 0 ∙ get_or-drop (0 + length vs) row (k - n) 0 ∙ B.rest (0 + length vs + (k - n)) (omega arith) in
          rw s at z ∙ sym (get_or-eq_default vs 0 (omega arith))

  pub blank_on : Blank n (sets row 0 vs)
  blank_on = record { there = length-sets row 0 vs ∙ B.there; rest = λ k l. entry k ∙ get_or-eq_default vs 0 (omega arith) }

-- What is written of two rows with the same words.
words_same : (ks row vs : List ℕ) → ((k : ℕ) → get_or row k 0 ≡ get_or vs k 0) → words_at ks row ≡ words_at ks vs
unfolding words_at
words_same [] row vs f = refl
words_same (k ∷ ks) row vs f = ap₂ (λ (x : ℕ) (l : List ℕ). x ∷ l) (f k) (words_same ks row vs f)

written_same : (k : Kernel) (c : ℕ) (ks us row vs : List ℕ) → ((i : ℕ) → get_or row i 0 ≡ get_or vs i 0) → written k c ks us row ≡ written k c ks us vs
unfolding written difference scaled blend
written_same kernels.Raw c ks us row vs f = words_same us row vs f
written_same kernels.Difference c ks us row vs f = rw (f c, words_same ks row vs f)
written_same (kernels.Scaled g) c ks us row vs f = rw (words_same ks row vs f)
written_same (kernels.Blend g) c ks us row vs f = rw (f c, words_same ks row vs f)

-- A kernel that is not raw writes no filter's word as it is.
pub never_zero : OneOf (1 ∷ 2 ∷ 3 ∷ []) 0 → ⊥
never_zero (inl e) = omega arith
never_zero (inr (inl e)) = omega arith
never_zero (inr (inr e)) = omega arith

module _ (k : Kernel) (other : OneOf (1 ∷ 2 ∷ 3 ∷ []) (tag_of the_type k)) where
  no_writes : (c : ℕ) (ks us vs ws : List ℕ) → written k c ks us ws ≡ written k c ks vs ws
  unfolding written
  no_writes c ks us vs ws = go k other
    where
      go : (k : Kernel) → OneOf (1 ∷ 2 ∷ 3 ∷ []) (tag_of the_type k) → written k c ks us ws ≡ written k c ks vs ws
      go kernels.Raw e = absurd (never_zero e)
      go kernels.Difference e = refl
      go (kernels.Scaled f) e = refl
      go (kernels.Blend g) e = refl

  one_width : (n m : ℕ) → width k n ≡ width k m
  unfolding width
  one_width n m = go k other
    where
      go : (k : Kernel) → OneOf (1 ∷ 2 ∷ 3 ∷ []) (tag_of the_type k) → width k n ≡ width k m
      go kernels.Raw e = absurd (never_zero e)
      go kernels.Difference e = refl
      go (kernels.Scaled f) e = refl
      go (kernels.Blend g) e = refl

module _ (n o : ℕ) (bases tops : List ℕ) (word : ℕ) (puts gets store out : List ℕ) (some : 0 < n) (inside : InStore (n - 1) puts gets store) where
  vs : List ℕ
  vs = passing (n - 1) word puts gets store

  -- A word for each filter.
  words_count : length vs ≡ n
  unfolding vs
  words_count =
      let lp : length (slice 0 (n - 1) puts) ≡ n - 1 = length-take-le (n - 1) puts inside.puts_there in
      let lg : length (slice 0 (n - 1) gets) ≡ n - 1 = length-take-le (n - 1) gets inside.gets_there in
      omega (arith, length_flowed word (slice 0 (n - 1) gets) (slice 0 (n - 1) puts) store (omega arith))

  -- Raw: the words go where they are written.
  pub fires_raw : (puts' gets' store' words words' out' : List ℕ)
      → lent_of puts' gets' store' words' ≡ pass_of (n - 1) bases tops word (lent_of puts gets store words) → words ≡ drop o out
      → out' ≡ take o out ++ (words' ++ drop (length out - o) (drop o out))
      → lent_of puts' gets' store' out' ≡ fired_of kernels.Raw 0 [] n o bases tops word (lent_of puts gets store out)
  unfolding vs written
  fires_raw puts' gets' store' words words' out' e ep eo =
      let none : drop (length out - o) (drop o out) ≡ [] = rw (length-drop o out) at (drop-length (drop o out)) in
      let ew : words' ≡ sets (drop o out) 0 vs = ap (λ (l : Lent). l.words) e ∙ rw ep in
      let e₁ : out' ≡ sets out o (words_at (up_to n) vs) =
      eo ∙ rw (none, append-nil, ew, sets_part out o 0 vs, add-zero, words_of_all vs n words_count) in
      rw e₁ (ap (λ (l : Lent). lent_of l.puts l.gets l.store (sets out o (words_at (up_to n) vs))) e)

  -- The other kernels: the words go to the row.
  pub fires_kernel : (kernel : Kernel) (centre size : ℕ) (ts puts' gets' store' row row' out' : List ℕ) → Blank n row → n ≤ 32 → size ≡ width kernel n → o + size ≤ length out
      → lent_of puts' gets' store' row' ≡ pass_of (n - 1) bases tops word (lent_of puts gets store row)
      → OneOf (1 ∷ 2 ∷ 3 ∷ []) (tag_of the_type kernel) → out' ≡ applied kernel centre ts ts row' o out
      → (lent_of puts' gets' store' out' ≡ fired_of kernel centre ts n o bases tops word (lent_of puts gets store out)) × Blank n row'
  unfolding vs
  fires_kernel kernel centre size ts puts' gets' store' row row' out' blank few es fits e other eo =
      let er : row' ≡ sets row 0 vs = ap (λ (l : Lent). l.words) e in
      let room : o + width kernel (length ts) ≤ length out = rw (one_width kernel other (length ts) n, ← es) fits in
      let w : written kernel centre ts ts row' ≡ written kernel centre ts (up_to n) vs =
      ap (λ (r : List ℕ). written kernel centre ts ts r) er ∙ written_same kernel centre ts ts (sets row 0 vs) vs (entry n row vs blank words_count few)
      ∙ no_writes kernel other centre ts ts (up_to n) vs in
      let e₁ : out' ≡ sets out o (written kernel centre ts (up_to n) vs) =
      eo ∙ applied_fits kernel centre ts ts row' o out room ∙ ap (λ (ws : List ℕ). sets out o ws) w in
      (rw e₁ (ap (λ (l : Lent). lent_of l.puts l.gets l.store (sets out o (written kernel centre ts (up_to n) vs))) e), rw er (blank_on n row vs blank words_count few))
