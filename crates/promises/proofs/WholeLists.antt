-- The exponent algebra over whole lists of base exponents, as 01 works them out: what holds at each base row holds of the lists.
use mathlib.Core.Path.{◌≡◌, refl, sym, ◌∙◌, ap, ap₂, subst}
use mathlib.Core.Bool.{true, true≢false}
use mathlib.Core.List.{List, [], ◌∷◌, ◌++◌, map}
use Prim.Native.Nat.{ℕ, zero, ◌<◌}
use Rattle.exponents.specs.Outcome.{Outcome, Ok, each}
use Rattle.exponents.specs.Fractions.{same, neg, add?, mul?}
use Rattle.exponents.specs.declared.Exponent.{Exponent}
use Rattle.exponents.proofs.Equality.{and_left, and_right, same_is}
use Rattle.exponents.proofs.Holds.{take_out, holds_eq, bind_given}
use Rattle.exponents.proofs.Rationals.{value}
use Rattle.units.specs.declared.Factor.{Factor}
use Rattle.units.specs.Lists.{inverted, raised}
use Rattle.tables.specs.Lists.{base_at, base}
use Rattle.exponents.proofs.Each.{Along, done, next, each_holds}
use Rattle.canonical.specs.Canonical.{same_all}
use Rattle.canonical.proofs.Answered.{product-answers, quotient-answers, power-answers}
use Rattle.canonical.proofs.Bases.{Agree}
use Rattle.canonical.proofs.Sums.{Has}
use Rattle.simplification.proofs.Agreed.{agree_self, same_agree, agree_same}
use Rattle.promises.specs.Demand.{sums, differences, multiples}

-- ---- place by place

module _ {A : Type 0} where
  -- two lists along a third, in one sum
  zip-sums : {P Q R : A → Exponent → Type 0} → ((a : A) (x y z : Exponent) → P a x → Q a y → R a z → add? x y ≡ Ok z) →
      {l : List A} {xs ys zs : List Exponent} → Along P l xs → Along Q l ys → Along R l zs → sums xs ys ≡ Ok zs
  unfolding sums
  zip-sums f done done done = refl
  zip-sums f (next {a = a} p ps) (next q qs) (next r rs) = rw (f a _ _ _ p q r, zip-sums f ps qs rs) (bind_given _ refl)

  zip-each : {P R : A → Exponent → Type 0} (g : Exponent → Outcome Exponent) → ((a : A) (x z : Exponent) → P a x → R a z → g x ≡ Ok z) →
      {l : List A} {xs zs : List Exponent} → Along P l xs → Along R l zs → each g xs ≡ Ok zs
  unfolding each
  zip-each g f done done = refl
  zip-each g f (next {a = a} p ps) (next r rs) = rw (f a _ _ p r, zip-each g f ps rs) (bind_given _ refl)

  along_map : {P : A → Exponent → Type 0} {Q : A → Exponent → Type 0} (g : Exponent → Exponent) → ((a : A) (x : Exponent) → P a x → Q a (g x)) → {l : List A} {xs : List Exponent} → Along P l xs → Along Q l (map g xs)
  along_map g f done = done
  along_map g f (next {a = a} p ps) = next (f a _ p) (along_map g f ps)

-- ---- the base rows bs
module _ (bs : List (ℕ → Exponent)) where
  along : (l : List Factor) (xs : List Exponent) → base bs l ≡ Ok xs → Along (λ b x. Has b l x) bs xs
  unfolding base
  along l xs e = take_out (each_holds (base_at l) (λ b. holds_eq (base_at l b)) bs) e

  module _ (l m : List Factor) (xs ys zs : List Exponent) (p : base bs l ≡ Ok xs) (q : base bs m ≡ Ok ys) where
    -- of a product the sums
    pub joined-sums : base bs (l ++ m) ≡ Ok zs → sums xs ys ≡ Ok zs
    joined-sums r = zip-sums (λ b x y z. product-answers b l m x y z) (along l xs p) (along m ys q) (along (l ++ m) zs r)

    -- of a quotient the differences
    pub over-differences : base bs (l ++ map inverted m) ≡ Ok zs → differences xs ys ≡ Ok zs
    over-differences r =
        zip-sums {Q = λ b w. (y : Exponent) × (w ≡ neg y) × Has b m y} (λ b x w z h k i. ap (add? x) k.1 ∙ quotient-answers b l m x k.0 z h k.2 i)
        (along l xs p) (along_map neg (λ b y h. (y, refl, h)) (along m ys q)) (along (l ++ map inverted m) zs r)

  -- of a power the multiples
  pub raised-multiples : (e : Exponent) (l p : List Factor) (xs zs : List Exponent) → zero < e.den → each (raised e) l ≡ Ok p → base bs l ≡ Ok xs → base bs p ≡ Ok zs → multiples e xs ≡ Ok zs
  raised-multiples e l p xs zs d g q r = zip-each (mul? e) (λ b x z. power-answers b e l p x z d g) (along l xs q) (along p zs r)

  -- ---- equal lists of them are those of units that agree

  all_same : (xs ys : List Exponent) → same_all xs ys ≡ true → xs ≡ ys
  unfolding same_all
  all_same [] [] e = refl
  all_same [] (y ∷ ys) e = absurd (true≢false (sym e))
  all_same (x ∷ xs) [] e = absurd (true≢false (sym e))
  all_same (x ∷ xs) (y ∷ ys) e = ap₂ ◌∷◌ (same_is x y (and_left (same x y) (same_all xs ys) e)) (all_same xs ys (and_right (same x y) (same_all xs ys) e))

  module _ (l m : List Factor) (xs ys : List Exponent) (p : base bs l ≡ Ok xs) (q : base bs m ≡ Ok ys) where
    pub agree_is : Agree value bs l m → xs ≡ ys
    agree_is a = all_same xs ys (agree_same value bs l m xs ys p q a)

    pub is_agree : xs ≡ ys → Agree value bs l m
    is_agree e = same_agree value bs l m xs ys p q (subst (λ z. same_all xs z ≡ true) e (agree_same value bs l l xs xs p p (agree_self value bs l)))
