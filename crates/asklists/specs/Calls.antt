-- The calls on lists from bytes (the byte form, "Calls"), and the prefix factor: the table and the arguments are read, the call answers, and its answer is bytes.
use Rattle.std.specs.Prelude.{List, ℕ}
use Rattle.exponents.specs.Outcome.{Outcome, apply}
use Rattle.units.specs.Prefixes as prefixes
use Rattle.lists.specs.Calls as lists
use Rattle.wire.specs.Arguments.{prefix_from, exponent_from, list_from, table_from}
use Rattle.replies.specs.Replies.{unit_bytes, value_bytes, reduced_bytes, verdict_bytes, multiple_bytes}

unfoldable pub prefix_factor : List ℕ → Outcome (List ℕ)
prefix_factor p = apply value_bytes (prefixes.prefix_factor (prefix_from p))

module _ (t : List ℕ) where
  unfoldable pub product : List ℕ → List ℕ → Outcome (List ℕ)
  product a b = apply unit_bytes (lists.product (table_from t) (list_from a) (list_from b))

  unfoldable pub quotient : List ℕ → List ℕ → Outcome (List ℕ)
  quotient a b = apply unit_bytes (lists.quotient (table_from t) (list_from a) (list_from b))

  unfoldable pub list_power : List ℕ → List ℕ → Outcome (List ℕ)
  list_power l e = apply unit_bytes (lists.list_power (table_from t) (list_from l) (exponent_from e))

  unfoldable pub canonical : List ℕ → Outcome (List ℕ)
  canonical l = apply unit_bytes (lists.canonical (table_from t) (list_from l))

  unfoldable pub same_list : List ℕ → List ℕ → Outcome (List ℕ)
  same_list a b = apply verdict_bytes (lists.same_lists (table_from t) (list_from a) (list_from b))

  unfoldable pub reduce_list : List ℕ → Outcome (List ℕ)
  reduce_list l = apply reduced_bytes (lists.reduction (table_from t) (list_from l))

  unfoldable pub smaller_unit : List ℕ → List ℕ → Outcome (List ℕ)
  smaller_unit a b = apply unit_bytes (lists.smaller_unit (table_from t) (list_from a) (list_from b))

  unfoldable pub is_multiple_of : List ℕ → List ℕ → Outcome (List ℕ)
  is_multiple_of a b = apply multiple_bytes (lists.multiple (table_from t) (list_from a) (list_from b))
