-- Division of the rational numbers by exponents: what the algebra of a group's target asks beside `Value`.
use mathlib.Core.Path.{◌≡◌, sym, ◌∙◌, ap, ap₂}
use Prim.Native.Nat.{zero, ◌<◌}
use Rattle.exponents.specs.Fractions.{mul, invert, div, div?}
use Rattle.exponents.specs.declared.Exponent.{Exponent}
use Rattle.exponents.proofs.Exact as fl
use Rattle.exponents.proofs.Exact.{Low}
use Rattle.exponents.proofs.Holds.{Holds}
use Rattle.exponents.proofs.InRange.{ranged_holds}
use Rattle.exponents.proofs.Rationals.{Q, q≡, times, norm, norm_low, of-pos, mul_norm, value}
use Rattle.exponents.proofs.Totals.{worth}
use Rattle.exponents.proofs.Value.{Value}
use Rattle.keys.proofs.Proportional.{Some}

pub record Division (W : Value) : Type 0 where
  pub act_comm : (e f : Exponent) (a : W.Q) → W.act e (W.act f a) ≡ W.act f (W.act e a)
  pub act_cancel : (r : Exponent) → Some r → (a b : W.Q) → W.act r a ≡ W.act r b → a ≡ b
  pub div?-act : (e r : Exponent) → Some r → Holds (λ g. (a : W.Q) → W.act r (W.act g a) ≡ W.act e a) (div? e r)

-- ---- the rational numbers have it

times_comm : (a b : Q) → times a b ≡ times b a
times_comm a b = q≡ (fl.mul_comm_frac a.0 b.0)

times_assoc : (a b c : Q) → times (times a b) c ≡ times a (times b c)
times_assoc a b c = q≡ (fl.mul_assoc_frac a.1 b.1 c.1)

times_one : (a : Q) → times a value.one ≡ a
times_one a = q≡ (fl.mul-unit a.1)

one_times : (a : Q) → times value.one a ≡ a
one_times a = times_comm value.one a ∙ times_one a

module _ (r : Exponent) (h : Some r) where
  -- r · 1/r is 1
  inverse : times (norm r) (norm (invert r)) ≡ value.one
  unfolding invert
  inverse =
      q≡ (ap₂ mul (of-pos r.num r.den h.low.some) (of-pos _ _ (fl.flip-pos r.num r.den h.some))
      ∙ fl.mul-lowest _ _ _ _ h.low.some (fl.flip-pos r.num r.den h.some)
      ∙ sym (fl.mul_is r (invert r)) ∙ fl.mul_inverse h.low h.some)

  back : (a : Q) → times (norm (invert r)) (times (norm r) a) ≡ a
  back a = sym (times_assoc (norm (invert r)) (norm r) a) ∙ ap (λ t. times t a) (times_comm (norm (invert r)) (norm r) ∙ inverse) ∙ one_times a

  cancels : (a b : Q) → times (norm r) a ≡ times (norm r) b → a ≡ b
  cancels a b e = sym (back a) ∙ ap (times (norm (invert r))) e ∙ back b

  -- r · (e / r) is e
  divided : (e : Exponent) → zero < (div e r).den → (a : Q) → times (norm r) (times (norm (div e r)) a) ≡ times (norm e) a
  unfolding div
  divided e i a =
      sym (times_assoc (norm r) (norm (div e r)) a)
      ∙ ap (λ t. times t a)
      (ap (times (norm r)) (mul_norm e (invert r) i ∙ times_comm (norm e) (norm (invert r)))
      ∙ sym (times_assoc (norm r) (norm (invert r)) (norm e)) ∙ ap (λ t. times t (norm e)) inverse ∙ one_times (norm e))

pub division : Division value
division = record {
  act_comm = λ e f a. sym (times_assoc (norm e) (norm f) a) ∙ ap (λ t. times t a) (times_comm (norm e) (norm f)) ∙ times_assoc (norm f) (norm e) a;
  act_cancel = cancels;
  div?-act = λ e r h. ranged_holds _ _ λ i a. divided r h e i.some a;
}

-- exponents of equal products are worth the same, acting crosswise
pub worth_cross : (r x s y : Exponent) → Low r → Low x → Low s → Low y → mul x r ≡ mul y s → value.act r (worth value x) ≡ value.act s (worth value y)
worth_cross r x s y hr hx hs hy e = ap (times (norm r)) (times_one (norm x)) ∙ q≡ line ∙ sym (ap (times (norm s)) (times_one (norm y)))
  where
    line : mul (norm r).0 (norm x).0 ≡ mul (norm s).0 (norm y).0
    line = ap₂ mul (norm_low r hr) (norm_low x hx) ∙ fl.mul_comm_frac r x ∙ e ∙ fl.mul_comm_frac y s ∙ sym (ap₂ mul (norm_low s hs) (norm_low y hy))
