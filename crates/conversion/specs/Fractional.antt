-- Where a scale has no value (01, "Powers and scales"): a size other than 1 meets an exponent that isn't whole.
use Rattle.std.specs.Prelude.{Bool, false, ◌||◌, ◌&&◌, not, List, [], ◌∷◌, eqb}
use Rattle.units.specs.declared.Factor.{Factor}
use Rattle.tables.specs.Rules.{Rules}

module _ {A : Type 0} (R : Rules A) where
  unfoldable pub fractional : List Factor → Bool
  fractional [] = false
  fractional (f ∷ l) = (not (eqb f.exponent.den 1) && not (R.numbers.exactly_one (R.size f))) || fractional l
