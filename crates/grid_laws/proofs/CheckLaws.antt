-- Laws of checks in an order, and what the checks of a value say where none of them holds.
use Prim.Native.Nat.{ℕ, ◌≤◌, ◌<◌}
use mathlib.Core.Bool.{Bool, true, false, cond}
use mathlib.Core.List.{List, [], ◌∷◌, ◌++◌}
use mathlib.Core.Path.{◌≡◌, refl, sym, ◌∙◌}
use native.Mathlib.Omega.{arith}
use lib.Dec.{eqb, ltb}
use borrow.Author.Tests.{eqb-false, ltb-false}
use Rattle.model.specs.Boxes.{bad_box}
use Rattle.model.specs.Values.{Trimmed}
use Rattle.model.specs.Answers.{Verdict, Check, check, first_of, by_verdict, verdict_of}
use Rattle.model.specs.Grounds.{Ground, dims}
use Rattle.model.specs.Grounds.Ground.{rectangle, skewed}
use Rattle.model.specs.Judging.{bad_dims, bad_sizes, bad_grid, bad_ground, bad_count, repeats, no_iteration, centred, lacks_centre, bad_factor, too_large, bad_order, window_checks, kernel_checks, chain_checks, value_checks}
use Rattle.model.specs.declared.Kernel.{Kernel}
use Rattle.model.specs.declared.Refusal.{Refusal}
use Rattle.std.specs.Prelude.{Result, Ok, Err}
use Rattle.grid_laws.proofs.Tests.{neither}

-- Where nothing is answered, the first condition does not hold, nor does any other.
pub passes : (b : Bool) (r : Refusal) (cs : List Check) → first_of (check b r ∷ cs) ≡ Ok tt → (b ≡ false) × (first_of cs ≡ Ok tt)
unfolding first_of
passes true r cs e = absurd (let z : ◌≡◌ {A = ℕ} 0 1 = cc in omega arith)
passes false r cs e = (refl, e)

-- Checks behind others answer only where these pass.
pub then_checks : (cs ds : List Check) → first_of (cs ++ ds) ≡ by_verdict (first_of cs) (first_of ds) Err
unfolding first_of
then_checks [] ds = refl
then_checks (c ∷ cs) ds = go c.holds (then_checks cs ds)
  where
    go : (t : Bool) → first_of (cs ++ ds) ≡ by_verdict (first_of cs) (first_of ds) Err
        → cond t (Err c.refusal) (first_of (cs ++ ds)) ≡ by_verdict (cond t (Err c.refusal) (first_of cs)) (first_of ds) Err
    go true e = refl
    go false e = e

pub both_pass : (cs ds : List Check) → first_of (cs ++ ds) ≡ Ok tt → (first_of cs ≡ Ok tt) × (first_of ds ≡ Ok tt)
both_pass cs ds e = go (first_of cs) refl (sym (then_checks cs ds) ∙ e)
  where
    go : (v : Verdict) → first_of cs ≡ v → by_verdict v (first_of ds) Err ≡ Ok tt → (first_of cs ≡ Ok tt) × (first_of ds ≡ Ok tt)
    go (Ok _) h d = (h, d)
    go (Err x) h d = absurd (let z : ◌≡◌ {A = ℕ} 0 1 = cc in omega arith)

-- An answer that a verdict lets through has that verdict.
pub verdict_back : {A : Type 0} (v : Verdict) (a : A) → verdict_of (by_verdict {A = Result A Refusal} v (Ok a) Err) ≡ v
verdict_back (Ok _) a = refl
verdict_back (Err x) a = refl

-- It is the one that is let through.
pub answer_back : {A : Type 0} (v : Verdict) (a b : A) → by_verdict {A = Result A Refusal} v (Ok a) Err ≡ Ok b → b ≡ a
answer_back (Ok _) a b h = cc
answer_back (Err x) a b h = absurd (let z : ◌≡◌ {A = ℕ} 0 1 = cc in omega arith)

-- What each group says where none of its checks holds.
pub record WindowPasses (t : Trimmed) : Type 0 where
  pub grid : bad_ground t.dims t.the_ground ≡ false
  pub count : bad_count t.count ≡ false
  pub distinct : repeats t.offsets ≡ false
  pub iterates : no_iteration t.the_ground t.offsets ≡ false
  pub fits : bad_box t.the_ground t.offsets t.part ≡ false

pub window_passes : (t : Trimmed) → first_of (window_checks t) ≡ Ok tt → WindowPasses t
unfolding window_checks
window_passes t e =
    let p3 = passes _ _ _ e in
    let p4 = passes _ _ _ p3.1 in
    let p5 = passes _ _ _ p4.1 in
    let p6 = passes _ _ _ p5.1 in
    let p15 = passes _ _ _ p6.1 in
    record { grid = p3.0; count = p4.0; distinct = p5.0; iterates = p6.0; fits = p15.0 }

-- What 3 and 4, where they pass, say of the counts.
pub few_dims : (d : ℕ) (g : Ground) → dims g ≡ d → bad_ground d g ≡ false → d ≤ 4
unfolding bad_grid bad_dims
few_dims d (rectangle sizes) same e = ltb-false 4 d (neither (eqb d 0) (ltb 4 d) (neither (bad_dims d) (bad_sizes sizes) e).0).1
few_dims d (skewed rs) same e = omega arith

pub some_references : (n : ℕ) → bad_count n ≡ false → 0 < n
unfolding bad_count
some_references n e = omega (arith, eqb-false n 0 (neither (eqb n 0) (ltb 32 n) e).0)

pub few_references : (n : ℕ) → bad_count n ≡ false → n ≤ 32
unfolding bad_count
few_references n e = ltb-false 32 n (neither (eqb n 0) (ltb 32 n) e).1

pub record KernelPasses (k : Kernel) (centred : Bool) : Type 0 where
  pub centre : lacks_centre k centred ≡ false
  pub factors : bad_factor k ≡ false

pub kernel_passes : (k : Kernel) (centred : Bool) → first_of (kernel_checks k centred) ≡ Ok tt → KernelPasses k centred
unfolding kernel_checks
kernel_passes k centred e =
    let p7 = passes _ _ _ e in
    let p8 = passes _ _ _ p7.1 in
    record { centre = p7.0; factors = p8.0 }

pub record ChainPasses (capacities : List ℕ) (n : ℕ) (order : List ℕ) : Type 0 where
  pub places : too_large capacities ≡ false
  pub once : bad_order n order ≡ false

pub chain_passes : (capacities : List ℕ) (n : ℕ) (order : List ℕ) → first_of (chain_checks capacities n order) ≡ Ok tt → ChainPasses capacities n order
unfolding chain_checks
chain_passes capacities n order e =
    let p9 = passes _ _ _ e in
    let p14 = passes _ _ _ p9.1 in
    record { places = p9.0; once = p14.0 }

-- A value that no number turns back passes every group.
pub record Passes (t : Trimmed) : Type 0 where
  pub window : WindowPasses t
  pub kernel : KernelPasses t.kernel (centred t.offsets)
  pub chain : ChainPasses t.capacities t.count t.order

pub value_passes : (t : Trimmed) → first_of (value_checks t) ≡ Ok tt → Passes t
unfolding value_checks
value_passes t e =
    let w = both_pass (window_checks t) _ e in
    let k = both_pass (kernel_checks t.kernel (centred t.offsets)) _ w.1 in
    record {
      window = window_passes t w.0;
      kernel = kernel_passes t.kernel (centred t.offsets) k.0;
      chain = chain_passes t.capacities t.count t.order k.1;
    }
