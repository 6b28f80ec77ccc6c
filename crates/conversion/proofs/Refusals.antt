-- Which refusals the steps of a conversion have: a canonical form and base exponents only those of what leaves the range, a scale only FRACTION, and that exactly where it is fractional.
use mathlib.Core.Path.{◌≡◌}
use mathlib.Core.Bool.{Bool, true, false, ◌||◌, ◌&&◌, not}
use mathlib.Core.List.{List, [], ◌∷◌}
use Prim.Native.Nat.{ℕ, Ordering}
use native.Mathlib.Omega.{arith}
use lib.Dec.{eqb}
use Rattle.exponents.specs.Outcome.{Refusal, UNITS, FRACTION, Outcome, Ok, Err, apply, bind, each}
use Rattle.exponents.specs.Fractions.{nought, sum?}
use Rattle.exponents.specs.declared.Exponent.{Exponent}
use Rattle.exponents.proofs.Holds.{Only, fine, only, only_map, only_bind}
use Rattle.exponents.proofs.Halves.{OutOfRange, by_numerator, by_denominator, ranged_only}
use Rattle.units.specs.declared.Factor.{Factor}
use Rattle.tables.specs.Lists.{base_at, base}
use Rattle.tables.specs.Scale.{raise, raised_to, scale_from_lem}
use Rattle.tables.specs.Rules.{Rules}
use Rattle.tables.specs.Order.{Atom}
use Rattle.canonical.specs.Canonical.{place, insert, gather, canon}
use Rattle.conversion.specs.Conversion.{rescaled}
use Rattle.conversion.specs.Fractional.{fractional}

-- ---- an answer is no refusal, and those of what leaves the range, UNITS and FRACTION are others
pub given_not_refused : {A : Type 0} {a : A} {r : Refusal} → Ok a ≡ Err r → ⊥
given_not_refused e = let z : ◌≡◌ {A = ℕ} 0 1 = cc in omega arith

pub range_not_units : (r : Refusal) → OutOfRange r → r ≡ UNITS → ⊥
range_not_units r by_numerator e = let z : ◌≡◌ {A = ℕ} 0 1 = cc in omega arith
range_not_units r by_denominator e = let z : ◌≡◌ {A = ℕ} 0 1 = cc in omega arith

pub range_not_fraction : (r : Refusal) → OutOfRange r → r ≡ FRACTION → ⊥
range_not_fraction r by_numerator e = let z : ◌≡◌ {A = ℕ} 0 1 = cc in omega arith
range_not_fraction r by_denominator e = let z : ◌≡◌ {A = ℕ} 0 1 = cc in omega arith

pub units_not_fraction : UNITS ≡ FRACTION → ⊥
units_not_fraction e = let z : ◌≡◌ {A = ℕ} 0 1 = cc in omega arith

-- ---- the ranged steps: if S holds of what leaves the range, they refuse only with what S holds of
module _ (S : Refusal → Type 0) (range : (r : Refusal) → OutOfRange r → S r) where
  pub sum_only : {A : Type 0} (term : A → Outcome Exponent) → ((a : A) → Only S (term a)) → (s : Exponent) (l : List A) → Only S (sum? term s l)
  unfolding sum?
  sum_only term h s [] = fine
  sum_only term h s (a ∷ l) = only_bind _ _ (h a) λ t _. only_bind _ _ (ranged_only S range _) λ u _. sum_only term h u l

  pub each_only : {A B : Type 0} (f : A → Outcome B) → ((a : A) → Only S (f a)) → (l : List A) → Only S (each f l)
  unfolding each
  each_only f h [] = fine
  each_only f h (a ∷ l) = only_bind _ _ (h a) λ b _. only_map _ (each_only f h l)

  pub base_only : (bs : List (ℕ → Exponent)) (l : List Factor) → Only S (base bs l)
  unfolding base base_at
  base_only bs l = each_only (base_at l) (λ b. sum_only _ (λ f. ranged_only S range _) nought l) bs

  module _ (cmp : Atom → Atom → Ordering) where
    place_only : (o : Ordering) (x y : Factor) (ys : List Factor) (r : Outcome (List Factor)) → Only S r → Only S (place o x y ys r)
    unfolding place
    place_only Ordering.lt x y ys r h = fine
    place_only Ordering.eq x y ys r h = only_map _ (ranged_only S range _)
    place_only Ordering.gt x y ys r h = only_map _ h

    insert_only : (x : Factor) (l : List Factor) → Only S (insert cmp x l)
    unfolding insert
    insert_only x [] = fine
    insert_only x (y ∷ ys) = place_only _ x y ys _ (insert_only x ys)

    gather_only : (a l : List Factor) → Only S (gather cmp a l)
    unfolding gather
    gather_only a [] = fine
    gather_only a (x ∷ l) = only_bind _ _ (insert_only x a) λ b _. gather_only b l

    pub canon_only : (l : List Factor) → Only S (canon cmp l)
    unfolding canon
    canon_only l = only_map _ (gather_only [] l)

-- ---- a scale

-- refused by FRACTION, or worked out
pub data Fraction {A : Type 0} : Bool → Outcome A → Type 0 where
  fraction : Fraction true (Err FRACTION)
  worked : {p : A} → Fraction false (Ok p)

pub fraction_only : {A : Type 0} (S : Refusal → Type 0) → S FRACTION → {t : Bool} {o : Outcome A} → Fraction t o → Only S o
fraction_only S h fraction = only h
fraction_only S h worked = fine

module _ {A : Type 0} (R : Rules A) where
  raise_is : (w o : Bool) (p u : A) (k : A → Outcome A) (t : Bool) → ((q : A) → Fraction t (k q)) → Fraction ((not w && not o) || t) (bind (raise w o p u) k)
  unfolding raise bind
  raise_is true o p u k t h = h p
  raise_is false true p u k t h = h u
  raise_is false false p u k t h = fraction

  -- FRACTION exactly where a size other than 1 meets an exponent that isn't whole
  pub scale_is : (s : A) (l : List Factor) → Fraction (fractional R l) (scale_from_lem R.numbers R.size s l)
  unfolding scale_from_lem raised_to fractional
  scale_is s [] = worked
  scale_is s (f ∷ l) = raise_is (eqb f.exponent.den 1) (R.numbers.exactly_one (R.size f)) _ _ _ (fractional R l) λ q. scale_is (R.numbers.times s q) l

  both_is : (a b : Bool) (o p : Outcome A) (f : A → A → A) → Fraction a o → Fraction b p → Fraction (a || b) (bind o (λ s. apply (f s) p))
  unfolding bind
  both_is true b o p f fraction k = fraction
  both_is false true o p f worked fraction = fraction
  both_is false false o p f worked worked = worked

  -- the quotient of two scales: FRACTION exactly where one of them is
  pub rescaled_is : (own target : List Factor) (v : A) → Fraction (fractional R own || fractional R target) (rescaled R own target v)
  unfolding rescaled
  rescaled_is own target v = both_is _ _ _ _ (λ s t. R.numbers.divide (R.numbers.times v s) t) (scale_is R.numbers.one own) (scale_is R.numbers.one target)
