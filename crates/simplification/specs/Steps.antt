-- The three steps (01, "Simplification") of a value whose mark permits it: conversion to scalar, one factor, groups. Only UNITS lets simplification go on to its next step; other refusals are answered at once.
use Rattle.std.specs.Prelude.{List, [], ◌∷◌, ◌++◌, eqb, Float}
use Rattle.std.specs.Float.{binary64}
use Rattle.std.specs.Float.Ieee.{mul}
use Rattle.exponents.specs.Words.{pick}
use Rattle.exponents.specs.Outcome.{Refusal, Outcome, Ok, Err, UNITS, number, apply, bind}
use Rattle.floats.specs.Power.{one}
use Rattle.units.specs.declared.Factor.{Factor}
use Rattle.units.specs.declared.Quantity.{Quantity}
use Rattle.tables.specs.Rules.{Rules}
use Rattle.canonical.specs.Canonical.{canon}
use Rattle.targets.specs.Single.{single}
use Rattle.targets.specs.Groups.{groups, target}
use Rattle.values.specs.Quantities.{fresh}
use Rattle.conversion.specs.Conversion.{convert}

-- a value and its list
abbrev pub Amount : Type 0
Amount = Float × List Factor

-- as a new quantity
abbrev pub quantity_of : Amount → Quantity
quantity_of a = fresh a.0 a.1

-- ---- from step to step

-- the next step after UNITS
unfoldable pub go_on : Refusal → Outcome Amount → Outcome Amount
go_on r next = pick (eqb (number r) (number UNITS)) next (Err r)

-- a conversion to the list m that answers ends the search
unfoldable pub attempt : Outcome Float → List Factor → Outcome Amount → Outcome Amount
attempt (Ok v) m next = Ok (v, m)
attempt (Err r) m next = go_on r next

module _ (R : Rules Float) where
  -- ---- third step: factors grouped by key

  -- s is the product and u the joined targets of the groups before g: its target, then 1 of it converted
  unfoldable pub grown : Float → List Factor → List Factor → Outcome Amount
  grown s u g = bind (target R g) (λ m. apply (λ x. (mul binary64 s x, u ++ m)) (convert R g m one))

  -- the groups in order; the joined targets in canonical form
  unfoldable pub converted : Float → List Factor → List (List Factor) → Outcome Amount
  converted s u [] = apply (λ c. (s, c)) (canon R.order u)
  converted s u (g ∷ gs) = bind (grown s u g) (λ p. converted p.0 p.1 gs)

  -- the own value times the product
  unfoldable pub by_groups : Float → List Factor → Outcome Amount
  by_groups v c = apply (λ p. (mul binary64 v p.0, p.1)) (converted one [] (groups R.alike c))

  -- ---- second step: to the one factor m, if there is one
  unfoldable pub toward : Float → List Factor → List Factor → Outcome Amount → Outcome Amount
  toward v l [] next = next
  toward v l (f ∷ m) next = attempt (convert R l (f ∷ m) v) (f ∷ m) next

  -- what follows the conversion to scalar; c is the canonical form
  unfoldable pub further : Float → List Factor → Outcome Amount
  further v l = bind (canon R.order l) (λ c. bind (single R.bases c) (λ m. toward v l m (by_groups v c)))

  unfoldable pub simplify : Float → List Factor → Outcome Amount
  simplify v l = attempt (convert R l [] v) [] (further v l)
