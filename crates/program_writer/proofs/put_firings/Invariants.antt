-- The loop's invariant: with the lines that remain laid from `at` on, the output is what it is with all of them laid from 0 on.
use Prim.Native.Nat.{◌+◌, ◌-◌, ◌*◌}
use mathlib.Core.Path.{◌≡◌}
use lib.ListN.{drop}
use lib.Seq.{sets}
use Rattle.model_program.specs.Programs.{firings_text}
use Rattle.program_writer.proofs.put_firings.Given as goal

abbrev pub invariant-loop-i : goal.invariant-loop-i
invariant-loop-i l =
    (l.at ≡ l.i * (8 * l.size + 11))
    × (sets l.out l.at (firings_text l.size (l.index + l.i) (l.lines - l.i) (drop (l.i * l.size) l.words)) ≡ sets l.initial.out 0 (firings_text l.size l.index l.lines l.words))
