-- Which half of the fraction leaves its range (02, order 2): RANGE tells a numerator, DENOMINATOR a denominator. A ranged step has no other refusal.
use mathlib.Core.Path.{◌≡◌, refl, sym}
use mathlib.Core.Bool.{Bool, true, false, ◌||◌, or-true, true≢false}
use mathlib.Core.Logic.{◌↔◌, ◌⊎◌, inl, inr}
use Prim.Native.Nat.{ℕ, ◌≤◌, ◌<◌}
use native.Mathlib.Omega.{arith}
use lib.IntN.{nat_abs}
use lib.Dec.{ltb}
use borrow.Author.Tests.{ltb-true, ltb-false, lt-ltb, le-ltb}
use Rattle.exponents.specs.Outcome.{Refusal, RANGE, DENOMINATOR, Ok, Err, unless}
use Rattle.exponents.specs.Gcd.{lcm}
use Rattle.exponents.specs.Fractions.{most, numerator_beyond, denominator_beyond, ranged, lcm?}
use Rattle.exponents.specs.declared.Exponent.{Exponent}
use Rattle.exponents.proofs.Holds.{Only, fine, only_unless}

-- ---- the bundle: the refusals of what leaves the range
pub data OutOfRange : Refusal → Type 0 where
  by_numerator : OutOfRange RANGE
  by_denominator : OutOfRange DENOMINATOR

module _ (S : Refusal → Type 0) where
  -- a ranged step has one of the two
  pub ranged_only : ((r : Refusal) → OutOfRange r → S r) → (x : Exponent) → Only S (ranged x)
  unfolding ranged
  ranged_only range x = only_unless _ RANGE (range RANGE by_numerator) (only_unless _ DENOMINATOR (range DENOMINATOR by_denominator) fine)

  -- a common multiple has the denominators'
  pub lcm_only : S DENOMINATOR → (a b : ℕ) → Only S (lcm? a b)
  unfolding lcm?
  lcm_only s a b = only_unless _ DENOMINATOR s fine

-- ---- exactly where

-- a denominator that leaves its range
abbrev pub Outside : ℕ → Type 0
Outside d = (d < 1) ⊎ (most < d)

outside : (d : ℕ) → denominator_beyond d ≡ true → Outside d
outside d h = go (ltb d 1) (ltb most d) refl refl h
  where
    go : (a b : Bool) → ltb d 1 ≡ a → ltb most d ≡ b → (a || b) ≡ true → Outside d
    go true b e f k = inl (ltb-true d 1 e)
    go false true e f k = inr (ltb-true most d f)
    go false false e f k = absurd (true≢false (sym k))

outside_beyond : (d : ℕ) → Outside d → denominator_beyond d ≡ true
outside_beyond d (inl h) = rw (lt-ltb d 1 h)
outside_beyond d (inr h) = rw (lt-ltb most d h, or-true)

-- the two tests in turn: what either refusal tells
module _ {A : Type 0} (a : A) where
  first-told : (s t : Bool) → unless s RANGE (unless t DENOMINATOR (Ok a)) ≡ Err RANGE → s ≡ true
  unfolding unless
  first-told true t e = refl
  first-told false true e = absurd (let z : ◌≡◌ {A = ℕ} 0 1 = cc in omega arith)
  first-told false false e = absurd (let z : ◌≡◌ {A = ℕ} 0 1 = cc in omega arith)

  second-told : (s t : Bool) → unless s RANGE (unless t DENOMINATOR (Ok a)) ≡ Err DENOMINATOR → (s ≡ false) × (t ≡ true)
  unfolding unless
  second-told true t e = absurd (let z : ◌≡◌ {A = ℕ} 0 1 = cc in omega arith)
  second-told false true e = (refl, refl)
  second-told false false e = absurd (let z : ◌≡◌ {A = ℕ} 0 1 = cc in omega arith)

module _ (x : Exponent) where
  -- THEOREM: RANGE exactly where the numerator leaves its range
  pub range_exactly : (ranged x ≡ Err RANGE) ↔ (most < nat_abs x.num)
  unfolding ranged unless
  range_exactly = (λ e. ltb-true _ _ (first-told x (numerator_beyond x.num) (denominator_beyond x.den) e), λ h. rw (lt-ltb most (nat_abs x.num) h))

  -- THEOREM: DENOMINATOR exactly where the numerator is in its range and the denominator leaves it
  pub denominator_exactly : (ranged x ≡ Err DENOMINATOR) ↔ ((nat_abs x.num ≤ most) × Outside x.den)
  unfolding ranged unless
  denominator_exactly = (
    λ e. let k = second-told x (numerator_beyond x.num) (denominator_beyond x.den) e in (ltb-false _ _ k.0, outside x.den k.1),
    λ h. rw (le-ltb most (nat_abs x.num) h.0, outside_beyond x.den h.1),
  )

-- THEOREM: a common multiple is refused by DENOMINATOR exactly where it leaves a denominator's range
pub multiple_exactly : (a b : ℕ) → (lcm? a b ≡ Err DENOMINATOR) ↔ Outside (lcm a b)
unfolding lcm? unless
multiple_exactly a b = (λ e. outside (lcm a b) (second-told (lcm a b) false (denominator_beyond (lcm a b)) e).1, λ h. rw (outside_beyond (lcm a b) h))
