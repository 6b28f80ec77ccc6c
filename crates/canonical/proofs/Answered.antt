-- Where the base exponents of lists answer, so do their sum, difference and multiple, and those are the base exponents of product, quotient and power: none of the laws of `Sums` is empty.
use mathlib.Core.Path.{◌≡◌, sym, ◌∙◌, ap, ap₂, subst}
use mathlib.Core.List.{List, ◌++◌, map}
use Prim.Native.Nat.{ℕ, zero, ◌<◌}
use native.Mathlib.Nat.{mul-pos}
use Rattle.exponents.specs.Outcome.{Ok, each}
use Rattle.exponents.specs.Fractions.{neg, add, mul, ranged, add?, mul?}
use Rattle.exponents.specs.declared.Exponent.{Exponent}
use Rattle.exponents.proofs.Exact as fl
use Rattle.exponents.proofs.Exact.{Low}
use Rattle.exponents.proofs.Holds.{take_out}
use Rattle.exponents.proofs.InRange.{ranged_given}
use Rattle.exponents.proofs.Rationals.{q≡, norm, times, plus, minus, add_low, add_norm, mul_norm, times_plus, value}
use Rattle.exponents.proofs.Totals.{worth}
use Rattle.units.specs.declared.Factor.{Factor}
use Rattle.units.specs.Lists.{inverted, raised}
use Rattle.tables.proofs.Sound.{Sound, base_at_sound}
use Rattle.canonical.proofs.Algebra.{exact_join, exact_over, exact_power}
use Rattle.canonical.proofs.Sums.{Has, has_worth}

-- what is worth as much as an exponent that keeps the rule is in range
settled : (w z : Exponent) → Low w → Sound z → worth value z ≡ worth value w → ranged w ≡ Ok z
settled w z h s e = ap ranged (sym (value.low_same z w s.low h e)) ∙ ranged_given z s.range

worth_add : (x y : Exponent) → Low x → Low y → worth value (add x y) ≡ plus (worth value x) (worth value y)
worth_add x y p q = ap (λ a. times a value.one) (add_norm x y (add_low p q).some) ∙ times_plus (norm x) (norm y) value.one

module _ (e x : Exponent) (p : zero < e.den) (q : zero < x.den) where
  low_mul : Low (mul e x)
  low_mul = subst Low (sym (fl.mul_is e x)) (fl.lowest_low _ _ (mul-pos p q))

  worth_mul : worth value (mul e x) ≡ value.act e (worth value x)
  worth_mul = ap (λ a. times a value.one) (mul_norm e x low_mul.some) ∙ q≡ (fl.mul_assoc_frac (norm e).1 (norm x).1 value.one.1)

module _ (b : ℕ → Exponent) where
  has_sound : (l : List Factor) (x : Exponent) → Has b l x → Sound x
  has_sound l x h = take_out (base_at_sound l b) h

  pub product-answers : (l m : List Factor) (x y z : Exponent) → Has b l x → Has b m y → Has b (l ++ m) z → add? x y ≡ Ok z
  product-answers l m x y z p q r =
      settled (add x y) z (add_low (has_sound l x p).low (has_sound m y q).low) (has_sound (l ++ m) z r)
      (has_worth value b (l ++ m) z r ∙ exact_join value l m b
      ∙ sym (worth_add x y (has_sound l x p).low (has_sound m y q).low ∙ ap₂ plus (has_worth value b l x p) (has_worth value b m y q)))

  pub quotient-answers : (l m : List Factor) (x y z : Exponent) → Has b l x → Has b m y → Has b (l ++ map inverted m) z → add? x (neg y) ≡ Ok z
  quotient-answers l m x y z p q r =
      let i = (has_sound l x p).low in
      let j = fl.neg_low (has_sound m y q).low in
      settled (add x (neg y)) z (add_low i j) (has_sound (l ++ map inverted m) z r)
      (has_worth value b (l ++ map inverted m) z r ∙ exact_over value l m b
      ∙ sym (worth_add x (neg y) i j ∙ ap₂ plus (has_worth value b l x p) (value.neg_act y value.one ∙ ap minus (has_worth value b m y q))))

  pub power-answers : (e : Exponent) (l p : List Factor) (x z : Exponent) → zero < e.den → each (raised e) l ≡ Ok p → Has b l x → Has b p z → mul? e x ≡ Ok z
  power-answers e l p x z d g q r =
      let i = (has_sound l x q).low.some in
      settled (mul e x) z (low_mul e x d i) (has_sound p z r)
      (has_worth value b p z r ∙ take_out (exact_power value e l b) g ∙ sym (worth_mul e x d i ∙ ap (value.act e) (has_worth value b l x q)))
