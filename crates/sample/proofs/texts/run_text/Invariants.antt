-- `run_text` lends parts that are there. Assumes nothing.
use Prim.Native.Nat.{◌≤◌}
use mathlib.Core.Path.{◌≡◌}
use lib.ListN.{length}
use Rattle.program_writer.specs.Texts.{Within}
use Rattle.sample.proofs.texts.run_text.Given as goal

abbrev pub invariant-loop : goal.invariant-loop
invariant-loop l =
    (length l.text ≡ length l.initial.text) × (length l.rows ≡ 1024) × (length l.store ≡ 16384) × (length l.cells ≡ 5) × (length l.words ≡ 40) × (length l.part ≡ 300) × (l.at ≤ length l.input) × Within l.done l.text
