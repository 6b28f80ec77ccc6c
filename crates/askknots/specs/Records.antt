-- The records of 02's order 4 in bytes (the byte form of 02, "Records"): rules, and runs as distinct values. Bytes of the wrong length read as a rule that has a bad degree.
use Rattle.std.specs.Prelude.{List, ◌++◌, ℕ, ◌+◌, eqb, length}
use Rattle.std.specs.Float.{binary64}
use Rattle.std.specs.Float.Ieee.{of_bits, to_bits}
use Rattle.exponents.specs.Words.{pick}
use Rattle.wire.specs.Bytes.{le, bytes_of, run_bytes}
use Rattle.wire.specs.Records.{list_at}
use Rattle.wire.specs.Arguments.{bad_list}
use Rattle.knotruns.specs.Runs.{Run}
use Rattle.knots.specs.declared.Rule.{Rule}
use Rattle.knots.specs.declared.Span.{Span}

-- tolerance, degree, unit
unfoldable pub rule_at : List ℕ → ℕ → Rule
rule_at s i = record { unit = list_at s (i + 12); tolerance = of_bits binary64 (le 8 s i); degree = le 4 s (i + 8) }

-- no degree is 0
abbrev pub bad_rule : Rule
bad_rule = record { unit = bad_list; tolerance = of_bits binary64 0; degree = 0 }

unfoldable pub rule_from : List ℕ → Rule
rule_from s = pick (eqb (length s) 336) (rule_at s 0) bad_rule

-- a rule, x, and the place of the left knot
unfoldable pub span_at : List ℕ → Span
span_at s = record { rule = rule_at s 0; x = of_bits binary64 (le 8 s 336); at = le 4 s 344 }

abbrev pub bad_span : Span
bad_span = record { rule = bad_rule; x = of_bits binary64 0; at = 0 }

unfoldable pub span_from : List ℕ → Span
span_from s = pick (eqb (length s) 352) (span_at s) bad_span

-- a distinct value and its multiplicity
unfoldable pub distinct_bytes : Run → List ℕ
distinct_bytes r = bytes_of 8 (to_bits binary64 r.first) ++ (bytes_of 4 r.times ++ bytes_of 4 0)

-- behind their number
unfoldable pub vector_bytes : List Run → List ℕ
vector_bytes rs = bytes_of 4 (length rs) ++ (bytes_of 4 0 ++ run_bytes distinct_bytes rs)
