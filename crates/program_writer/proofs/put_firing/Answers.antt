use native.Mathlib.Omega.{arith}
use lib.ListN.{length-set}
use Rattle.program_writer.proofs.FiringLaws.{firing_laid}
use Rattle.program_writer.proofs.put_firing.Goals as goal

pub shape_of-out : goal.shape_of-out
shape_of-out c = simp length-set (omega arith)

pub returns : goal.returns
returns c = (
  omega arith,
  rw (c.put_words-p.ensures.1, c.put_word.ensures, c.put_byte.ensures)
      (firing_laid c.args.words.now c.args.from c.args.size c.requires.1 c.args.out.now c.args.at c.put_words-p.result c.args.index c.put_words-p.ensures.0),
)
