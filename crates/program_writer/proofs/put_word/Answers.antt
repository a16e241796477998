use Rattle.program_writer.proofs.DigitLaws.{word_laid}
use Rattle.program_writer.proofs.put_word.Goals as goal

pub returns : goal.returns
returns c =
    rw (c.put_byte-4.ensures, c.put_byte-3.ensures, c.put_byte-2.ensures, c.put_byte.ensures) (word_laid _ _ _)
