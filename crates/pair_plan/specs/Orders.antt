-- The order of the terms of a planned union.
use Rattle.std.specs.Prelude.{ℕ, true}
use Rattle.model.specs.Lists.{up_to}
use Rattle.model.specs.Values.{filter_array}
use Rattle.model.specs.declared.Order.{Order}

-- 0, 1, 2, .. of n filters.
abbrev pub rising_order : (n : ℕ) → Order
rising_order n = record { stood = true; filters = filter_array (up_to n) }
