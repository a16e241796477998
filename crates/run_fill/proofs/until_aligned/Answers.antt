use Prim.Native.Nat.{ℕ, suc, ◌+◌, ◌-◌, ◌≤◌, ◌<◌}
use mathlib.Core.Path.{◌≡◌, refl}
use native.Mathlib.Nat.{sub-zero}
use native.Mathlib.Omega.{arith}
use lib.ListN.{length, get_or}
use Rattle.loop_laws.specs.Passes.{of}
use Rattle.loop_laws.specs.Sweeps.{Again}
use Rattle.loop_laws.proofs.AgainLaws.{goes_most, again_now, again_on, cells_last, swept_none}
use Rattle.loop_laws.proofs.FillLaws.{filling_again, idle, in_place, at_small, small, may_turn, stops_spent, stops_starved, stops_stalled}
use Rattle.run_fill.proofs.until_aligned.Goals as goal
use Rattle.run_fill.proofs.until_aligned.Goals.{After-movers, After-span-t, In-loop}

pub returns-then-cells-taken : goal.returns-then-cells-taken
returns-then-cells-taken c =
    λ L walk iterations fired F.
    let s = c.loop-clocks.invariant L walk iterations fired F in
    record {
      lines = λ e. absurd (let z : ◌≡◌ {A = ℕ} 0 1 = cc in let y : ⊥ = omega arith in y);
      puts_there = s.puts_there;
      gets_there = s.gets_there;
      rings = s.rings;
      holds = s.holds;
      rest = s.rest;
      there = s.there;
      had = s.had;
      allowed = s.allowed;
      fewer = s.fewer;
      resumes = stops_starved _ _ _ _ _ _ _ _ _ _ _ _ _ _ _ _ _ F _ _ _ _ _ _ s c.loop-clocks-test.true c.if-cells-taken.true;
    }

pub lined-requires : goal.lined-requires
lined-requires c =
    let F = c.requires.fills in
    let s = c.loop-clocks.invariant _ _ _ _ F in
    record { n_bound = F.tables.few; by_index = small _ _ _ _ _ _ _ _ _ _ _ _ _ _ _ _ _ F _ _ _ _ _ _ s; by_index_2 = at_small _ _ _ _ _ _ _ _ _ _ _ _ _ _ _ c.args.cells.now c.args.allowance F }

pub returns-then-lined : goal.returns-then-lined
returns-then-lined c =
    λ L walk iterations fired F.
    let s = c.loop-clocks.invariant L walk iterations fired F in
    record {
      lines = λ _. c.lined.ensures.0 c.if-lined.true;
      puts_there = s.puts_there;
      gets_there = s.gets_there;
      rings = s.rings;
      holds = s.holds;
      rest = s.rest;
      there = s.there;
      had = s.had;
      allowed = s.allowed;
      fewer = s.fewer;
      resumes = s.goes;
    }

pub movers-requires : goal.movers-requires
movers-requires c =
    let F = c.requires.fills in
    let s = c.loop-clocks.invariant _ _ _ _ F in
    record { n_bound = (F.tables.few, refl); by_index = small _ _ _ _ _ _ _ _ _ _ _ _ _ _ _ _ _ F _ _ _ _ _ _ s; by_index_2 = F.tables.small }

pub returns-then-movers-eq0 : goal.returns-then-movers-eq0
returns-then-movers-eq0 c =
    λ L walk iterations fired F.
    let s = c.loop-clocks.invariant L walk iterations fired F in
    let stays = swept_none c.args.n c.args.size c.args.wants.now c.args.caps.now c.loop-clocks.passed _ c.movers.ensures.1 (c.movers.ensures.2.none c.if-movers-eq0.true) (omega (arith, s.there, F.tables.few)) in
    record {
      lines = λ e. absurd (let z : ◌≡◌ {A = ℕ} 0 1 = cc in let y : ⊥ = omega arith in y);
      puts_there = s.puts_there;
      gets_there = s.gets_there;
      rings = s.rings;
      holds = s.holds;
      rest = s.rest;
      there = s.there;
      had = s.had;
      allowed = s.allowed;
      fewer = s.fewer;
      resumes = stops_stalled _ _ _ _ _ _ _ _ _ _ _ _ _ _ _ _ _ F _ _ _ _ _ _ s _ stays (idle _ _ _ _ _ _ _ _ _ _ _ _ _ _ _ _ _ F _ _ _ _ _ _ s (c.lined.ensures.1 c.if-lined.false))
          c.loop-clocks-test.true c.if-cells-taken.false refl;
    }

pub span-t-requires : goal.span-t-requires
span-t-requires c =
    let F = c.requires.fills in
    let s = c.loop-clocks.invariant _ _ _ _ F in
    record { n_bound = (F.tables.few, in_place _ _ _ _ _ _ _ _ _ _ _ _ _ _ _ _ _ F _ _ _ _ _ _ s); by_index = small _ _ _ _ _ _ _ _ _ _ _ _ _ _ _ _ _ F _ _ _ _ _ _ s; by_index_2 = F.tables.small }

-- How long the same filters move.
spans : (p : After-span-t) →
    (0 < p.span-t.result) × (p.span-t.result ≤ p.reach-most.result)
    × Again p.args.n p.args.size (of p.args.wants.now) (of p.args.caps.now) (of p.movers.new.goes) (of p.loop-clocks.passed) p.span-t.result
spans p =
    p.span-t.ensures p.movers.ensures.1 (p.reach-most.ensures.0 (omega arith) (omega (arith, p.loop-clocks-test.true)))

-- Filter 0 goes one cell on at most.
goes-few : (m : After-movers) → get_or m.movers.new.goes 0 0 ≤ 1
goes-few m = goes_most _ _ _ _ _ _ m.movers.ensures.1 0 m.requires.fills.tables.some

-- The clock has a cell.
presented : (i : In-loop) → i.loop.taken < length i.args.cells.now
presented i = omega (arith, i.loop.invariant.1 0 (omega (arith, i.loop-test.true)))

pub loop-init : goal.loop-init
loop-init c =
    let A = spans (goal.at.loop-init c).After-span-t in (
      rw sub-zero A.2,
      (λ j h. cells_last _ _ _ _ _ c.if-cells-taken.false (goes-few (goal.at.loop-init c).After-movers) A.1 c.reach-most.ensures.2 j (omega arith)),
      λ L walk iterations fired p u g s F f. let z : c.loop-clocks.clocks + 0 ≡ c.loop-clocks.clocks = omega arith in rw z f,
    )

pub offset_bounds-cells-taken : goal.offset_bounds-cells-taken
offset_bounds-cells-taken c = omega (arith, presented (goal.at.offset_bounds-cells-taken c).In-loop)

pub bounds-cells-taken : goal.bounds-cells-taken
bounds-cells-taken c = presented (goal.at.bounds-cells-taken c).In-loop

pub go-requires : goal.go-requires
go-requires c =
    let F = c.requires.fills in
    record {
      capacity = _;
      cells = c.args.size;
      wants = c.args.wants.now;
      caps = c.args.caps.now;
      turns = may_turn _ _ _ _ _ _ _ _ _ _ _ _ _ _ _ _ _ F _ _ _ _ _ _ (c.loop.invariant.2 _ _ _ _ _ _ _ _ F (c.loop-clocks.invariant _ _ _ _ F));
      each = again_now _ _ _ _ _ _ _ (omega (arith, c.loop-test.true)) c.loop.invariant.0;
    }

pub overflow_add-taken : goal.overflow_add-taken
overflow_add-taken c =
    omega (arith, presented (goal.at.overflow_add-taken c).In-loop, goes-few (goal.at.overflow_add-taken c).After-movers)

pub loop-preserved : goal.loop-preserved
loop-preserved c =
    let F₀ = c.requires.fills in
    let S₀ = c.loop.invariant.2 _ _ _ _ _ _ _ _ F₀ (c.loop-clocks.invariant _ _ _ _ F₀) in
    let G = again_now _ _ _ _ _ _ _ (omega (arith, c.loop-test.true)) c.loop.invariant.0 in
    let who = c.movers.ensures.2.one (omega (arith, c.if-movers-eq0.false)) in
    let r₀ = c.go.ensures _ c.args.size c.args.wants.now c.args.caps.now (may_turn _ _ _ _ _ _ _ _ _ _ _ _ _ _ _ _ _ F₀ _ _ _ _ _ _ S₀) G in
    let one : c.span-t.result - c.loop.counter ≡ suc (c.span-t.result - (c.loop.counter + 1)) = omega (arith, c.loop-test.true) in
    let next : c.loop-clocks.clocks + c.loop.counter + 1 ≡ c.loop-clocks.clocks + (c.loop.counter + 1) = omega arith in (
      again_on _ _ _ _ _ _ _ _ r₀.on (rw one at c.loop.invariant.0),
      (λ j h. omega (arith, c.loop.invariant.1 (suc j) (omega arith))),
      λ L walk iterations fired p₀ u₀ g₀ s₀ F f.
          let S = c.loop.invariant.2 L walk iterations fired p₀ u₀ g₀ s₀ F f in
          let r = c.go.ensures _ c.args.size c.args.wants.now c.args.caps.now (may_turn _ _ _ _ _ _ _ _ _ _ _ _ _ _ _ _ _ F _ _ _ _ _ _ S) G in
          rw next at
          (filling_again _ _ _ _ _ _ _ _ _ _ _ _ _ _ _ _ _ F _ _ _ _ _ _ S _ _ _ _ _ _ _ G
          (omega (arith, c.loop-test.true, (spans (goal.at.loop-preserved c).After-span-t).1, c.reach-most.ensures.1, c.loop-clocks-test.true)) (presented (goal.at.loop-preserved c).In-loop) refl who.1 who.2 r),
    )

pub loop-clocks-preserved : goal.loop-clocks-preserved
loop-clocks-preserved c =
    let all : c.loop.counter ≡ c.span-t.result = omega (arith, c.loop-test.false) in
    λ L walk iterations fired F. rw all at (c.loop.invariant.2 L walk iterations fired _ _ _ _ F (c.loop-clocks.invariant L walk iterations fired F))

pub returns : goal.returns
returns c =
    λ L walk iterations fired F.
    let s = c.loop-clocks.invariant L walk iterations fired F in
    record {
      lines = λ e. absurd (let z : ◌≡◌ {A = ℕ} 0 1 = cc in let y : ⊥ = omega arith in y);
      puts_there = s.puts_there;
      gets_there = s.gets_there;
      rings = s.rings;
      holds = s.holds;
      rest = s.rest;
      there = s.there;
      had = s.had;
      allowed = s.allowed;
      fewer = s.fewer;
      resumes = stops_spent _ _ _ _ _ _ _ _ _ _ _ _ _ _ _ _ _ F _ _ _ _ _ _ s c.loop-clocks-test.false;
    }
