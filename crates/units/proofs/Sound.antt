-- A factor without a fault can be inverted.
use mathlib.Core.Path.{◌≡◌, ap}
use mathlib.Core.Bool.{false}
use Rattle.exponents.specs.Outcome.{Refusal, Ok, Err}
use Rattle.exponents.specs.Fractions.{faulty}
use Rattle.exponents.specs.Held.{neg?}
use Rattle.exponents.specs.declared.Exponent.{Exponent}
use Rattle.exponents.proofs.InRange.{or_right}
use Rattle.exponents.proofs.Numbers.{negated_is, always_negated}
use Rattle.units.specs.declared.Factor.{Factor}
use Rattle.units.specs.Prefixes.{prefix_fault}
use Rattle.units.specs.Lists.{factor_fault, with_exponent, inverted}

module _ (f : Factor) (h : factor_fault f ≡ false) where
  pub exponent_sound : faulty f.exponent ≡ false
  unfolding factor_fault
  exponent_sound = or_right (prefix_fault f.prefix) (faulty f.exponent) h

  pub inverted_by : (x : Exponent) → Ok x ≡ neg? f.exponent → with_exponent f x ≡ inverted f
  unfolding inverted
  inverted_by x e = ap (with_exponent f) (negated_is f.exponent exponent_sound x e)

  pub never_refused : (r : Refusal) → Err r ≡ neg? f.exponent → ⊥
  never_refused r e = always_negated f.exponent exponent_sound r e
