-- `all_but` enters the filters but the centre into a table. The loop's invariant: the first t are entered. Assumes nothing.
use Rattle.kernel_terms.specs.FilterTables.{term_of}
use Rattle.kernel_terms.proofs.TableLaws.{Listed}
use Rattle.kernel_terms.proofs.all_but.Given as goal

abbrev pub invariant-loop-t : goal.invariant-loop-t
invariant-loop-t l = Listed l.centre (term_of l.order.stood l.order.filters) l.t l.filters l.count
