-- The counted conversions, from bytes (02, order 5; the byte form, "Calls"): the table and the arguments are read, the call answers, and its answer is bytes.
use Rattle.std.specs.Prelude.{List, ℕ}
use Rattle.exponents.specs.Outcome.{Outcome, apply}
use Rattle.counted.specs.Calls as counted
use Rattle.wire.specs.Arguments.{list_from, quantity_from, table_from}
use Rattle.askcounted.specs.Records.{counted_bytes}

module _ (t : List ℕ) where
  unfoldable pub convert_to_counted : List ℕ → List ℕ → Outcome (List ℕ)
  convert_to_counted q l = apply counted_bytes (counted.convert_to_counted (table_from t) (quantity_from q) (list_from l))

  unfoldable pub convert_merged_counted : List ℕ → List ℕ → Outcome (List ℕ)
  convert_merged_counted q l = apply counted_bytes (counted.convert_merged_counted (table_from t) (quantity_from q) (list_from l))
