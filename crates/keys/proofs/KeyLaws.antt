-- What the code of keys works out: the common multiple, each number by its size and its sign, and one turn of each loop.
use mathlib.Core.Path.{◌≡◌, refl, sym, ◌∙◌, ap, ap₂}
use mathlib.Core.Bool.{Bool, true, false}
use mathlib.Core.List.{List, [], ◌∷◌, map}
use Prim.Native.Nat.{ℕ, zero, suc, ◌*◌, ◌/◌, ◌<◌, ◌≤◌}
use mathlib.Core.Logic.{◌⊎◌, inl, inr}
use native.Mathlib.Nat.{mod-one, div-one, div-zero, zero-div, div-le_self, mul-one, mul-zero, zero-mul}
use native.Mathlib.Omega.{arith}
use lib.IntN.{ℤ, pos, negsuc, nat_abs, neg_ℤ-neg_ℤ}
use lib.Signed.{quot_z, lt_z}
use lib.Dec.{ltb}
use borrow.Author.Tests.{ltb-false, le-ltb}
use Rattle.std.specs.Prelude.{IfOk}
use Rattle.exponents.specs.Outcome.{Outcome, Ok, Err, DENOMINATOR, unless}
use Rattle.exponents.specs.Gcd.{gcd, lcm}
use Rattle.exponents.specs.Held.{with_sign, xor}
use Rattle.exponents.specs.Fractions.{most, denominator_beyond, lcm?}
use Rattle.exponents.specs.declared.Exponent.{Exponent}
use Rattle.exponents.proofs.Divisors.{gcd_suc, gcd-zero}
use Rattle.exponents.proofs.Exact.{nat_abs_scale, quot_neg}
use Rattle.exponents.proofs.Holds.{Holds, held, moot, holds_unless}
use Rattle.exponents.proofs.InRange.{or_left, or_right}
use Rattle.exponents.proofs.WithSign.{sign_scale}
use Rattle.keys.specs.Key.{whole, wholes, divisor, below, turn, shrink, reduce}
use Rattle.keys.specs.Held.{part}

-- ---- the common multiple

abbrev pub Denominator : ℕ → Type 0
Denominator m = (1 ≤ m) × (m ≤ most)

-- what answers is a denominator again
pub lcm_range : (a b : ℕ) → Holds Denominator (lcm? a b)
unfolding lcm?
lcm_range a b =
    holds_unless (denominator_beyond (lcm a b)) DENOMINATOR λ e.
    held (ltb-false _ _ (or_left (ltb (lcm a b) 1) (ltb most (lcm a b)) e), ltb-false _ _ (or_right (ltb (lcm a b) 1) (ltb most (lcm a b)) e))

pub lcm_sound : (a b : ℕ) → IfOk (lcm? a b) (λ n. (1 ≤ n) × (n ≤ most))
lcm_sound a b = go (lcm? a b) (lcm_range a b)
  where
    go : (o : Outcome ℕ) → Holds Denominator o → IfOk o (λ n. (1 ≤ n) × (n ≤ most))
    go (Ok n) (held h) = h
    go (Err r) moot = tt

-- a denominator 1 changes nothing
pub lcm-one : (m : ℕ) → 1 ≤ m → m ≤ most → lcm? m 1 ≡ Ok m
unfolding lcm? lcm unless
lcm-one m h k =
    let g : gcd m 1 ≡ 1 = gcd_suc m 0 ∙ ap (gcd 1) (mod-one m) ∙ gcd-zero 1 in
    let e : m / gcd m 1 * 1 ≡ m = ap (λ t. m / t * 1) g ∙ mul-one (m / 1) ∙ div-one m in
    rw (e, le-ltb m 1 h, le-ltb most m k)

pub ruleset joining = (lcm-one, lcm_sound)

-- ---- a number by its size and its sign

sign_is : (m : ℕ) (x : Exponent) → with_sign (lt_z x.num (pos 0)) (nat_abs (whole m x)) ≡ whole m x
unfolding whole
sign_is m x = ap (with_sign (lt_z x.num (pos 0))) (nat_abs_scale x.num (m / x.den)) ∙ sign_scale x.num (m / x.den)

-- with the terms that the code worked out
module _ (m : ℕ) (x : Exponent) (n b : ℕ) (p : n ≡ nat_abs x.num) (q : b ≡ x.den) where
  pub size_is : n * (m / b) ≡ nat_abs (whole m x)
  unfolding whole
  size_is = ap₂ (λ s t. s * (m / t)) p q ∙ sym (nat_abs_scale x.num (m / x.den))

  pub no_top : n ≡ 0 → 0 ≡ nat_abs (whole m x)
  no_top h = sym (ap (λ s. s * (m / b)) h ∙ zero-mul (m / b)) ∙ size_is

  pub no_bottom : b ≡ 0 → 0 ≡ nat_abs (whole m x)
  no_bottom h = sym (ap (λ t. n * (m / t)) h ∙ ap (λ t. n * t) (div-zero m) ∙ mul-zero n) ∙ size_is

pub turn_quot : (s t : Bool) (n g : ℕ) → with_sign (xor s t) (n / g) ≡ quot_z (turn s (with_sign t n)) (pos g)
unfolding turn
turn_quot false false n g = refl
turn_quot false true n g = sym (quot_neg n g)
turn_quot true false n g = sym (quot_neg n g)
turn_quot true true n g = ap (λ z. quot_z z (pos g)) (sym (neg_ℤ-neg_ℤ (pos n)))

-- with the size that the code worked out
module _ (s : Bool) (g m : ℕ) (x : Exponent) (n : ℕ) (e : n ≡ nat_abs (whole m x)) where
  pub part_is : with_sign (xor s (lt_z x.num (pos 0))) (n / g) ≡ part s g m x
  unfolding part
  part_is = turn_quot s (lt_z x.num (pos 0)) n g ∙ ap (λ z. quot_z (turn s z) (pos g)) (ap (with_sign (lt_z x.num (pos 0))) e ∙ sign_is m x)

  pub part_zero : n / g ≡ 0 → pos 0 ≡ part s g m x
  part_zero h = sym (no_sign (xor s (lt_z x.num (pos 0)))) ∙ ap (with_sign (xor s (lt_z x.num (pos 0)))) (sym h) ∙ part_is
    where
      no_sign : (t : Bool) → with_sign t 0 ≡ pos 0
      no_sign true = refl
      no_sign false = refl

-- where nothing is to be divided, or by nothing
pub no_part : (s : Bool) (g m : ℕ) (x : Exponent) (n : ℕ) → n ≡ nat_abs (whole m x) → (n ≡ 0) ⊎ (g ≡ 0) → pos 0 ≡ part s g m x
no_part s g m x n e (inl h) = part_zero s g m x n e (ap (λ n. n / g) h ∙ zero-div g)
no_part s g m x n e (inr h) = part_zero s g m x n e (ap (λ g. n / g) h ∙ div-zero n)

pub quotient_small : (m b : ℕ) → m < 4294967296 → m / b < 4294967296
quotient_small m b h = omega (arith, div-le_self m b)

-- ---- the sign

-- a number of size n
module _ (m : ℕ) (x : Exponent) (l : List ℤ) (n : ℕ) (e : n ≡ nat_abs (whole m x)) where
  pub below_none : n ≡ 0 → below (whole m x ∷ l) ≡ below l
  unfolding below
  below_none z = without (whole m x) (sym e ∙ z)
    where
      without : (w : ℤ) → nat_abs w ≡ 0 → below (w ∷ l) ≡ below l
      without (pos zero) z = refl
      without (pos (suc n)) z = absurd (omega arith)
      without (negsuc n) z = absurd (omega arith)

  pub below_some : (n ≡ 0 → ⊥) → below (whole m x ∷ l) ≡ lt_z x.num (pos 0)
  unfolding below
  below_some z = ap (λ w. below (w ∷ l)) (sym (ap (with_sign (lt_z x.num (pos 0))) e ∙ sign_is m x)) ∙ signed_below (lt_z x.num (pos 0)) n z
    where
      signed_below : (s : Bool) (n : ℕ) → (n ≡ 0 → ⊥) → below (with_sign s n ∷ l) ≡ s
      signed_below s zero z = absurd (z refl)
      signed_below true (suc n) z = refl
      signed_below false (suc n) z = refl

-- ---- the key

shrink-wholes : (s : Bool) (g m : ℕ) (d : List Exponent) → map (part s g m) d ≡ shrink s g (wholes m d)
unfolding shrink wholes part
shrink-wholes s g m [] = refl
shrink-wholes s g m (x ∷ d) = ap (λ l. part s g m x ∷ l) (shrink-wholes s g m d)

pub reduced_is : (m : ℕ) (d : List Exponent) (s : Bool) (g : ℕ) → s ≡ below (wholes m d) → g ≡ divisor 0 (wholes m d) → map (part s g m) d ≡ reduce (wholes m d)
unfolding reduce
reduced_is m d s g p q = shrink-wholes s g m d ∙ ap₂ (λ (s : Bool) (g : ℕ). shrink s g (wholes m d)) p q
