-- Outcomes told apart, by the answer or the refusal, and the refusals' numbers.
use mathlib.Core.Path.{◌≡◌, refl, sym, ◌∙◌}
use mathlib.Core.Bool.{Bool, true, false}
use Prim.Native.Nat.{ℕ, ◌<◌}
use native.Mathlib.Omega.{arith}
use Rattle.exponents.specs.declared.refusals.Refusal.TheVariants.{Table, Shape, Unknown, Room, Range, Units, Fraction, DivZero, ZeroNeg, NonWhole, Nan, Format, Denominator, Order, Multiple, Argument}
use Rattle.exponents.specs.Outcome.{Refusal, number, Outcome, Ok, Err, unless, apply, tested}
use Rattle.exponents.specs.Fractions.{neg, faulty}
use Rattle.exponents.specs.Held.{neg?}
use Rattle.exponents.specs.declared.Exponent.{Exponent}
use Rattle.exponents.proofs.InRange.{neg?-given}
use Rattle.exponents.proofs.Holds.{one_answer}

pub number-pos : (r : Refusal) → 0 < number r
number-pos Table = omega arith
number-pos Shape = omega arith
number-pos Unknown = omega arith
number-pos Room = omega arith
number-pos Range = omega arith
number-pos Units = omega arith
number-pos Fraction = omega arith
number-pos DivZero = omega arith
number-pos ZeroNeg = omega arith
number-pos NonWhole = omega arith
number-pos Nan = omega arith
number-pos Format = omega arith
number-pos Denominator = omega arith
number-pos Order = omega arith
number-pos Multiple = omega arith
number-pos Argument = omega arith

-- an answer is no refusal
pub clash : {A : Type 0} {a : A} {r : Refusal} → Ok a ≡ Err r → ⊥
clash p = let z : ◌≡◌ {A = ℕ} 0 1 = cc in omega arith

pub one_refusal : {A : Type 0} {r s : Refusal} → ◌≡◌ {A = Outcome A} (Err r) (Err s) → r ≡ s
one_refusal p = cc

-- o answers
pub record Answers {A : Type 0} (o : Outcome A) : Type 0 where
  pub answer : A
  pub is : o ≡ Ok answer

module _ {A : Type 0} where
  -- a test that was passed, and one that wasn't
  pub answers : (o : Outcome A) (u : Unit {0}) → Ok u ≡ tested o → Answers o
  answers (Ok a) u e = record { answer = a; is = refl }
  answers (Err r) u e = absurd (clash e)

  pub refuses : (o : Outcome A) (r : Refusal) → Err r ≡ tested o → o ≡ Err r
  refuses (Ok a) r e = absurd (clash (sym e))
  refuses (Err s) r e = let h : s ≡ r = cc in rw h

  -- a fault that was passed
  pub unless_passed : (t : Bool) (r : Refusal) (o : Outcome A) (a : A) → unless t r o ≡ Ok a → t ≡ false
  unfolding unless
  unless_passed true r o a h = absurd (clash (sym h))
  unless_passed false r o a h = refl

-- what is made of an answer: refused as the outcome is, and answered from its answer
pub apply_refuses : {A B : Type 0} (f : A → B) (o : Outcome A) (r : Refusal) → apply f o ≡ Err r → o ≡ Err r
apply_refuses f (Ok a) r e = absurd (clash e)
apply_refuses f (Err s) r e = let h : s ≡ r = cc in rw h

pub record From {A B : Type 0} (f : A → B) (o : Outcome A) (b : B) : Type 0 where
  pub answer : A
  pub is : o ≡ Ok answer
  pub made : f answer ≡ b

pub apply_answers : {A B : Type 0} (f : A → B) (o : Outcome A) (b : B) → apply f o ≡ Ok b → From f o b
apply_answers f (Ok a) b e = record { answer = a; is = refl; made = cc }
apply_answers f (Err r) b e = absurd (clash (sym e))

pub tested_map : {A B : Type 0} (f : A → B) (o : Outcome A) → tested (apply f o) ≡ tested o
tested_map f (Ok a) = refl
tested_map f (Err r) = refl

-- ---- an exponent that keeps its rule, negated as code does it
module _ (x : Exponent) (h : faulty x ≡ false) where
  pub negated_is : (y : Exponent) → Ok y ≡ neg? x → y ≡ neg x
  negated_is y e = one_answer (e ∙ neg?-given x h)

  pub always_negated : (r : Refusal) → Err r ≡ neg? x → ⊥
  always_negated r e = clash (sym (neg?-given x h) ∙ sym e)
