use Prim.Native.Nat.{◌+◌, ◌%◌}
use mathlib.Core.Path.{◌∙◌, ap}
use native.Mathlib.Omega.{arith}
use lib.IntN.{pos}
use lib.ListN.{replicate, length-replicate}
use mir.Facts.{to_z-of_z}
use mir.Syntax.{w16}
use Rattle.model_sheet.specs.Numbers.{signed}
use Rattle.zohmirka_words.specs.Words.{word_at}
use Rattle.zohmirka_words.proofs.WordLaws.{front_none, front_more, front_whole}
use Rattle.zohmirka_words.proofs.offsets_in.Goals as goal

pub loop-i-init : goal.loop-i-init
loop-i-init c = front_none (λ j. signed (word_at c.args.words.now (c.args.from + j) % 65536)) (replicate 128 (pos 0))

pub loop-i-preserved : goal.loop-i-preserved
loop-i-preserved c =
    front_more (λ j. signed (word_at c.args.words.now (c.args.from + j) % 65536)) c.loop-i.i (replicate 128 (pos 0)) c.loop-i.offsets _ (rw length-replicate (omega arith))
    (to_z-of_z {w = w16} {z = c.entry.result} (record { sfits = c.entry.type_inv }) ∙ c.entry.ensures ∙ ap signed c.low_half.ensures) c.loop-i.invariant

pub returns : goal.returns
returns c =
    front_whole (λ j. signed (word_at c.args.words.now (c.args.from + j) % 65536)) 128 (pos 0) c.loop-i.i c.loop-i.offsets (omega arith) (omega arith) c.loop-i.invariant
