-- The algebra of base exponents in the exponents that 01 works out, not in what they are worth: of a product the sum, of a quotient the difference, of a power the multiple, of the canonical form the same.
use mathlib.Core.Path.{◌≡◌, sym, ◌∙◌, ap, ap₂}
use mathlib.Core.List.{List, ◌++◌, map}
use Prim.Native.Nat.{ℕ, Ordering}
use Rattle.exponents.specs.Outcome.{Outcome, Ok, each}
use Rattle.exponents.specs.Fractions.{neg, add?, mul?}
use Rattle.exponents.specs.declared.Exponent.{Exponent}
use Rattle.exponents.proofs.Holds.{Holds, take_out, holds_imp, holds_both}
use Rattle.exponents.proofs.Value.{Value}
use Rattle.exponents.proofs.Totals.{worth, sums_worth, sums_low}
use Rattle.units.specs.declared.Factor.{Factor}
use Rattle.units.specs.Lists.{inverted, raised}
use Rattle.tables.specs.Lists.{base_at}
use Rattle.tables.proofs.Total.{Total}
use Rattle.tables.specs.Order.{Atom}
use Rattle.canonical.specs.Canonical.{canon}
use Rattle.canonical.proofs.Algebra.{term, exact, exact_join, exact_inverse, exact_over, exact_power, exact_canon, exact_equal}

-- x is the base exponent of l at b, as 01 works it out
abbrev pub Has : (ℕ → Exponent) → List Factor → Exponent → Type 0
Has b l x = base_at l b ≡ Ok x

module _ (W : Value) (b : ℕ → Exponent) where
  term_is : (f : Factor) → Holds (λ t. worth W t ≡ term W b f) (mul? f.exponent (b f.row))
  term_is f = holds_imp (W.mul?-act f.exponent (b f.row)) λ t h. h W.one

  pub has_worth : (l : List Factor) (x : Exponent) → Has b l x → worth W x ≡ exact W l b
  unfolding base_at exact
  has_worth l x e = sums_worth W _ (term W b) term_is l x e

  pub has_low : (l : List Factor) (x : Exponent) → Has b l x → W.Low x
  unfolding base_at
  has_low l x e = sums_low W _ (term W b) term_is l x e

  -- what is worth the same, in lowest terms, is the same
  has_is : (l : List Factor) (z : Exponent) {o : Outcome Exponent} → Has b l z → Holds W.Low o → Holds (λ s. worth W s ≡ exact W l b) o → Holds (λ s. z ≡ s) o
  has_is l z r h k = holds_imp (holds_both h k) λ s q. W.low_same z s (has_low l z r) q.0 (has_worth l z r ∙ sym q.1)

  -- of a product the sum
  pub product : (l m : List Factor) (x y z : Exponent) → Has b l x → Has b m y → Has b (l ++ m) z → Holds (λ s. z ≡ s) (add? x y)
  product l m x y z p q r =
      has_is (l ++ m) z r (W.add?-low x y)
      (holds_imp (W.add?-act x y) λ s h. h W.one ∙ ap₂ W.add (has_worth l x p) (has_worth m y q) ∙ sym (exact_join W l m b))

  -- of a list with its exponents negated the negative
  pub inverse : (m : List Factor) (y z : Exponent) → Has b m y → Has b (map inverted m) z → z ≡ neg y
  inverse m y z q r =
      W.low_same z (neg y) (has_low _ z r) (W.neg_low y (has_low m y q))
      (has_worth _ z r ∙ exact_inverse W m b ∙ sym (W.neg_act y W.one ∙ ap W.opp (has_worth m y q)))

  -- of a quotient the difference
  pub quotient : (l m : List Factor) (x y z : Exponent) → Has b l x → Has b m y → Has b (l ++ map inverted m) z → Holds (λ s. z ≡ s) (add? x (neg y))
  quotient l m x y z p q r =
      has_is (l ++ map inverted m) z r (W.add?-low x (neg y))
      (holds_imp (W.add?-act x (neg y)) λ s h.
      h W.one ∙ ap₂ W.add (has_worth l x p) (W.neg_act y W.one ∙ ap W.opp (has_worth m y q)) ∙ sym (exact_over W l m b))

  -- of a power the multiple
  pub power : (e : Exponent) (l p : List Factor) (x z : Exponent) → each (raised e) l ≡ Ok p → Has b l x → Has b p z → Holds (λ s. z ≡ s) (mul? e x)
  power e l p x z g q r =
      has_is p z r (W.mul?-low e x)
      (holds_imp (W.mul?-act e x) λ s h. h W.one ∙ ap (W.act e) (has_worth l x q) ∙ sym (take_out (exact_power W e l b) g))

  -- lists with the same base exponents have the same answers
  has_same : (l m : List Factor) (x y : Exponent) → Has b l x → Has b m y → exact W l b ≡ exact W m b → x ≡ y
  has_same l m x y p q h = W.low_same x y (has_low l x p) (has_low m y q) (has_worth l x p ∙ h ∙ sym (has_worth m y q))

  module _ (cmp : Atom → Atom → Ordering) (O : Total cmp) where
    -- of the canonical form the same
    pub canonical : (l c : List Factor) (x y : Exponent) → canon cmp l ≡ Ok c → Has b l x → Has b c y → x ≡ y
    canonical l c x y e p q = has_same l c x y p q (sym (take_out (exact_canon W cmp O l b) e))

    -- lists with the same canonical form have the same base exponents
    pub equal : (l m c : List Factor) (x y : Exponent) → canon cmp l ≡ Ok c → canon cmp m ≡ Ok c → Has b l x → Has b m y → x ≡ y
    equal l m c x y d e p q = has_same l m x y p q (exact_equal W cmp O l m c d e b)
