-- The calls on knot vectors from bytes (the byte form of 02's order 4): the table, the knots and the rule are read, the call answers, and its answer is bytes.
use Rattle.std.specs.Prelude.{List, ℕ}
use Rattle.exponents.specs.Outcome.{Outcome, apply}
use Rattle.wire.specs.Arguments.{table_from}
use Rattle.replies.specs.Replies.{value_bytes}
use Rattle.knots.specs.Calls as knots
use Rattle.knots.specs.Calls.{knots_in}
use Rattle.askknots.specs.Records.{rule_from, span_from, vector_bytes}

module _ (t : List ℕ) where
  unfoldable pub knot_vector : List ℕ → List ℕ → Outcome (List ℕ)
  knot_vector ks u = apply vector_bytes (knots.knot_vector (table_from t) (knots_in ks) (rule_from u))

  unfoldable pub span_quotient : List ℕ → List ℕ → Outcome (List ℕ)
  span_quotient ks a = apply value_bytes (knots.span_quotient (table_from t) (knots_in ks) (span_from a))
