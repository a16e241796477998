use Rattle.sheet_fields.proofs.FactorLaws.{nan_bits_lem, no_nan}
use Rattle.sheet_fields.proofs.bits_of.Goals as goal

pub returns-then-f : goal.returns-then-f
returns-then-f c = nan_bits_lem _ c.if-f.true

pub float_to_bits-result : goal.float_to_bits-result
float_to_bits-result c = no_nan _ c.if-f.false
