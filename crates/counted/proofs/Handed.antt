-- A call's own work, where it counts.
use mathlib.Core.List.{List}
use Prim.Native.Nat.{ℕ}
use lib.Ieee.{Float}
use Rattle.exponents.specs.Outcome.{Outcome, apply}
use Rattle.floats.specs.Power.{tally}
use Rattle.floats.specs.declared.Tally.{Tally}
use Rattle.units.specs.declared.Factor.{Factor}
use Rattle.units.specs.declared.Quantity.{Quantity}
use Rattle.units.specs.declared.Rows.{Rows}
use Rattle.tables.specs.Rows.{Facts}
use Rattle.tables.specs.Rules.{Rules, rules_in, counted}
use Rattle.values.specs.Quantities.{fresh}

-- by f
abbrev pub work : (Rules Tally → List Factor → List Factor → Tally → Outcome Tally) → Rows → Float → List Facts → List Factor → List Factor → Outcome (Quantity × ℕ)
work f t y ks fs gs = apply (λ v. (fresh v.value gs, v.count)) (f (counted (rules_in t ks)) fs gs (tally y 0))
