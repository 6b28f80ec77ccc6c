-- The calls on quantities from bytes (the byte form, "Calls"): the table and the arguments are read, the call answers, and its answer is bytes.
use Rattle.std.specs.Prelude.{List, ℕ}
use Rattle.exponents.specs.Outcome.{Outcome, apply}
use Rattle.values.specs.Calls as values
use Rattle.quantities.specs.Calls as quantities
use Rattle.sums.specs.Calls as sums
use Rattle.powers.specs.Calls as powers
use Rattle.wire.specs.Records.{quantity_bytes}
use Rattle.wire.specs.Arguments.{list_from, quantity_from, table_from}
use Rattle.replies.specs.Replies.{verdict_bytes, order_bytes}

module _ (t : List ℕ) where
  unfoldable pub reduce : List ℕ → Outcome (List ℕ)
  reduce q = apply quantity_bytes (values.reduce (table_from t) (quantity_from q))

  unfoldable pub negate : List ℕ → Outcome (List ℕ)
  negate q = apply quantity_bytes (values.negate (table_from t) (quantity_from q))

  unfoldable pub magnitude : List ℕ → Outcome (List ℕ)
  magnitude q = apply quantity_bytes (values.magnitude (table_from t) (quantity_from q))

  unfoldable pub no_simplify : List ℕ → Outcome (List ℕ)
  no_simplify q = apply quantity_bytes (values.no_simplify (table_from t) (quantity_from q))

  unfoldable pub multiply : List ℕ → List ℕ → Outcome (List ℕ)
  multiply q p = apply quantity_bytes (values.multiply (table_from t) (quantity_from q) (quantity_from p))

  unfoldable pub checked_div : List ℕ → List ℕ → Outcome (List ℕ)
  checked_div q p = apply quantity_bytes (values.checked_div (table_from t) (quantity_from q) (quantity_from p))

  unfoldable pub checked_power : List ℕ → List ℕ → Outcome (List ℕ)
  checked_power q p = apply quantity_bytes (powers.checked_power (table_from t) (quantity_from q) (quantity_from p))

  unfoldable pub convert_to : List ℕ → List ℕ → Outcome (List ℕ)
  convert_to q l = apply quantity_bytes (quantities.convert_to (table_from t) (quantity_from q) (list_from l))

  unfoldable pub add : List ℕ → List ℕ → Outcome (List ℕ)
  add q p = apply quantity_bytes (sums.add (table_from t) (quantity_from q) (quantity_from p))

  unfoldable pub subtract : List ℕ → List ℕ → Outcome (List ℕ)
  subtract q p = apply quantity_bytes (sums.subtract (table_from t) (quantity_from q) (quantity_from p))

  unfoldable pub equal : List ℕ → List ℕ → Outcome (List ℕ)
  equal q p = apply verdict_bytes (quantities.equal (table_from t) (quantity_from q) (quantity_from p))

  unfoldable pub compare : List ℕ → List ℕ → Outcome (List ℕ)
  compare q p = apply order_bytes (quantities.compare (table_from t) (quantity_from q) (quantity_from p))
