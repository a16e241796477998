use Rattle.sheet_fields.proofs.FactorLaws.{nan_word, number_word}
use Rattle.sheet_fields.proofs.factor.Goals as goal

pub returns-then-w-gt2139095040 : goal.returns-then-w-gt2139095040
returns-then-w-gt2139095040 c = nan_word _ c.if-w-gt2139095040.true

pub float_from_bits-result : goal.float_from_bits-result
float_from_bits-result c = number_word _ c.if-w-gt2139095040.false
