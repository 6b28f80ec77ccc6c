-- The conversions that 02 adds, from bytes (the byte form, "Calls"): the table and the arguments are read, the call answers, and its answer is bytes.
use Rattle.std.specs.Prelude.{List, ℕ}
use Rattle.exponents.specs.Outcome.{Outcome, apply}
use Rattle.quantities.specs.Calls as quantities
use Rattle.wire.specs.Records.{quantity_bytes}
use Rattle.wire.specs.Arguments.{list_from, quantity_from, table_from}

module _ (t : List ℕ) where
  unfoldable pub convert_merged : List ℕ → List ℕ → Outcome (List ℕ)
  convert_merged q l = apply quantity_bytes (quantities.convert_merged (table_from t) (quantity_from q) (list_from l))
