-- The two simplifications from bytes (the byte form, "Calls"): the table and the arguments are read, the call answers, and its answer is bytes.
use Rattle.std.specs.Prelude.{List, ℕ}
use Rattle.exponents.specs.Outcome.{Outcome, apply}
use Rattle.simplification.specs.Calls as simplification
use Rattle.registry.specs.Calls as registry
use Rattle.wire.specs.Records.{quantity_bytes}
use Rattle.wire.specs.Arguments.{quantity_from, table_from, candidates_from}

module _ (t : List ℕ) where
  unfoldable pub full_simplify : List ℕ → Outcome (List ℕ)
  full_simplify q = apply quantity_bytes (simplification.full_simplify (table_from t) (quantity_from q))

  unfoldable pub full_simplify_with : List ℕ → List ℕ → Outcome (List ℕ)
  full_simplify_with q c = apply quantity_bytes (registry.full_simplify_with (table_from t) (quantity_from q) (candidates_from c))
