-- Lists of calls that come to their end: Done or Stalled.
use Prim.Native.Nat.{ℕ, ◌+◌, ◌*◌, ◌≤◌, ◌<◌}
use mathlib.Core.Bool.{Bool, false, false≢true}
use mathlib.Core.List.{List, [], ◌∷◌}
use mathlib.Core.Logic.{◌⊎◌, inl, inr}
use mathlib.Core.Path.{◌≡◌, refl, sym, ◌∙◌, ap, ap₂, subst}
use native.Mathlib.Omega.{arith}
use lib.ListN.{length, length-append}
use Rattle.model.specs.Lists.{sum}
use Rattle.model.specs.Values.{Trimmed}
use Rattle.model_run.specs.Clock.{Layout, Counters, fresh}
use Rattle.model_run.specs.Running.{layout, counters_of, Done, Stalled, outcome_of}
use Rattle.model_run.specs.CallLists.{Lending, Between, call_run, call_events, after, after_all, runs, clocks_made, firings_made}
use Rattle.model_run.specs.Reports.{clocks_of, firings_of}
use Rattle.flow.specs.Machine.{live, Ran}
use Rattle.flow.proofs.Laws.{few_clocks, stopped_same}
use Rattle.demands.specs.Demand3.{ListOfCalls, runs_of, events_of, handed_on, one_more, chain_in}
use Rattle.demands.specs.Promises.{Piece, Over, SameRun, SameOutcome, EndAlike, Pieces, SmallPieces}
use Rattle.run_laws.proofs.Layouts.{lawful}
use Rattle.run_laws.proofs.Traces.{Traced, traced_ran, still_traced}
use Rattle.run_laws.proofs.Traces as trace
use Rattle.run_laws.proofs.Between.{Setting, Reached, now, after_reached, reached_fired}
use Rattle.run_laws.proofs.CallEnds.{call_clocks}
use Rattle.run_laws.proofs.Words.{fired_after}
use Rattle.demands.proofs.Finishing.{setting, start, reached, numbered}
use Rattle.demands.proofs.Again.{makes, done_at, stalled_at, over_dead}
use Rattle.demands.proofs.SameHandedOn.{traced_call}

-- One more call that ends so brings a list to where there is no clock to make, after n clocks.
record Stops (t : Trimmed) (n : ℕ) (s : Counters) : Type 0 where
  ran : Ran (layout t) (fresh (layout t)) n s
  dead : live (layout t) s ≡ false

module _ (q : ListOfCalls) (l : Lending) (over : Over (one_more q l)) where
  -- The counters at its end.
  abbrev last : Counters
  last = counters_of (chain_in q).count (after (chain_in q) q.stream l (handed_on q)).state

  stops : Stops (chain_in q) (clocks_made (runs_of q) + clocks_of (one_more q l)) last
  stops =
      let t = chain_in q in
      let r = after_reached (setting q) l (handed_on q) (reached q) in
      record {
        ran = subst (λ (n : ℕ). Ran (layout t) (fresh (layout t)) n last)
            (length-append (events_of q) (call_events t q.stream l (handed_on q))
            ∙ ap₂ (λ (x y : ℕ). x + y) (numbered q).clocks (sym (call_clocks (setting q) l (handed_on q) (reached q)))) (traced_ran (layout t) r.traced);
        dead = over_dead (setting q) l (handed_on q) (reached q) over;
      }

  all_firings : firings_made (runs_of q) + firings_of (one_more q l) ≡ last.fired
  all_firings = omega (arith, fired_after (setting q) l (handed_on q) (reached q), reached_fired (setting q) (reached q), (numbered q).firings)

module _ (p q : ListOfCalls) (same : SameRun p q) (l m : Lending) where
  ends_same : (x : Over (one_more p l)) (y : Over (one_more q m)) → (clocks_made (runs_of p) + clocks_of (one_more p l) ≡ clocks_made (runs_of q) + clocks_of (one_more q m)) × (last p l x ≡ last q m y)
  ends_same x y =
      let s = stops p l x in
      let e = subst (λ (t : Trimmed). Stops t (clocks_made (runs_of q) + clocks_of (one_more q m)) (last q m y)) (sym same.chain) (stops q m y) in
      stopped_same (layout (chain_in p)) s.ran s.dead e.ran e.dead

  same_outcome : (x : Over (one_more p l)) (y : Over (one_more q m)) → last p l x ≡ last q m y → SameOutcome (one_more p l) (one_more q m)
  unfolding outcome_of
  same_outcome (inl x) (inl y) e = record { ending = Done; first = x; second = y }
  same_outcome (inr x) (inr y) e = record { ending = Stalled; first = x; second = y }
  same_outcome (inl x) (inr y) e =
      absurd (omega (
        arith,
        ap (λ (c : Counters). c.fired) e,
        ap (λ (t : Trimmed). (layout t).iterations) same.chain,
        done_at (setting p) l (handed_on p) (reached p) x,
        (stalled_at (setting q) m (handed_on q) (reached q) y).0,
      ))
  same_outcome (inr x) (inl y) e =
      absurd (omega (
        arith,
        ap (λ (c : Counters). c.fired) e,
        ap (λ (t : Trimmed). (layout t).iterations) same.chain,
        done_at (setting q) m (handed_on q) (reached q) y,
        (stalled_at (setting p) l (handed_on p) (reached p) x).0,
      ))

  pub ends_alike : Over (one_more p l) → Over (one_more q m) → EndAlike p q l m
  unfolding after
  ends_alike x y =
      let s = ends_same x y in
      record {
        clocks = s.0;
        firings = all_firings p l x ∙ ap (λ (c : Counters). c.fired) s.1 ∙ sym (all_firings q m y);
        counters = s.1;
        outcome = same_outcome x y s.1;
      }

still_same : (L : Layout) {s s' : Counters} {es : List Bool} → Traced L s es s' → live L s ≡ false → s' ≡ s
still_same L trace.ended e = refl
still_same L (trace.clocked v r) e = absurd (false≢true (sym e ∙ v))

module _ (S : Setting) where
  open S use {trimmed as t, stream}

  stays_dead : (ls : List Lending) (b : Between) (es : List Bool) → Reached S b es → live (layout t) (now S b) ≡ false → live (layout t) (now S (after_all t stream ls b)) ≡ false
  unfolding after_all
  stays_dead [] b es r dead = dead
  stays_dead (l ∷ ls) b es r dead = stays_dead ls (after t stream l b) _ (after_reached S l b r) (rw (still_same (layout t) (traced_call S l b r) dead) dead)

  -- Each piece makes a clock, until there is none to make.
  pieces_on : (ls : List Lending) (b : Between) (es : List Bool) → Reached S b es → Pieces t stream ls b
      → (length ls ≤ clocks_made (runs t stream ls b)) ⊎ (live (layout t) (now S (after_all t stream ls b)) ≡ false)
  unfolding after_all runs clocks_made sum
  pieces_on [] b es r h = inl (omega arith)
  pieces_on (l ∷ ls) b es r h = go (makes S l b r h.0) (pieces_on ls (after t stream l b) _ (after_reached S l b r) h.1)
    where
      go : (0 < clocks_of (call_run t stream l b)) ⊎ Over (call_run t stream l b)
          → (length ls ≤ clocks_made (runs t stream ls (after t stream l b))) ⊎ (live (layout t) (now S (after_all t stream ls (after t stream l b))) ≡ false)
          → (length (l ∷ ls) ≤ clocks_made (runs t stream (l ∷ ls) b)) ⊎ (live (layout t) (now S (after_all t stream (l ∷ ls) b)) ≡ false)
      go (inl x) (inl y) = inl (omega arith)
      go (inl x) (inr y) = inr y
      go (inr x) y = inr (stays_dead ls (after t stream l b) _ (after_reached S l b r) (over_dead S l b r x))

-- After n times the number of cells pieces there is none.
pieces_over : (q : ListOfCalls) → Pieces (chain_in q) q.stream q.calls q.start → (chain_in q).count * (layout (chain_in q)).cells ≤ length q.calls
    → (l : Lending) → Piece (chain_in q) l (handed_on q) → Over (one_more q l)
unfolding layout
pieces_over q pieces many l piece = go (makes (setting q) l (handed_on q) (reached q) piece) (pieces_on (setting q) q.calls q.start [] (start q) pieces)
  where
    t : Trimmed
    t = chain_in q

    go : (0 < clocks_of (one_more q l)) ⊎ Over (one_more q l) → (length q.calls ≤ clocks_made (runs_of q)) ⊎ (live (layout t) (now (setting q) (handed_on q)) ≡ false)
        → Over (one_more q l)
    go (inr x) y = x
    go (inl x) (inl y) =
        absurd (omega (
          arith,
          few_clocks (layout t) (lawful t (setting q).proper (setting q).accepted) (traced_ran (layout t) (after_reached (setting q) l (handed_on q) (reached q)).traced),
          length-append (events_of q) (call_events t q.stream l (handed_on q)),
          (numbered q).clocks,
          call_clocks (setting q) l (handed_on q) (reached q),
        ))
    go (inl x) (inr y) =
        absurd (omega (
          arith,
          call_clocks (setting q) l (handed_on q) (reached q),
          ap length (still_traced (layout t) (traced_call (setting q) l (handed_on q) (reached q)) y),
        ))

pub small_pieces : SmallPieces
small_pieces = record { alike = ends_alike; over = pieces_over }
