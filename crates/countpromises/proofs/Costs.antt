-- What factors take (02, order 5): the power of the prefix, and that to a whole exponent; a scale takes what its factors take, and a factor that keeps its rule at most 80, 19 for its prefix and 61 for its exponent.
use mathlib.Core.Path.{◌≡◌, refl}
use mathlib.Core.Bool.{Bool, true, false, cond, ◌&&◌}
use mathlib.Core.List.{List, [], ◌∷◌, ◌++◌}
use Prim.Native.Nat.{ℕ, zero, suc, ◌+◌, ◌*◌, ◌≤◌, ◌<◌}
use native.Mathlib.Omega.{arith}
use lib.Dec.{eqb, leb}
use borrow.Author.Tests.{eqb-true, eqb-false, leb-true, ltb-false}
use lib.IntN.{ℤ, pos, negsuc, nat_abs}
use lib.Ieee.{Float}
use lib.ListN.{length}
use Rattle.exponents.specs.Outcome.{Ok}
use Rattle.exponents.specs.Fractions.{faulty}
use Rattle.exponents.specs.declared.Exponent.{Exponent}
use Rattle.exponents.proofs.Equality.{and_left, and_right}
use Rattle.exponents.proofs.Holds.{Holds, moot, held, take_out, holds_imp, holds_bind}
use Rattle.exponents.proofs.InRange.{or_left, or_right, sound}
use Rattle.floats.specs.Power.{bits_of, bits, multiplications, power_count}
use Rattle.floats.specs.declared.Tally.{Tally}
use Rattle.floats.proofs.Counting.{magnitude_most}
use Rattle.units.specs.declared.Factor.{Factor}
use Rattle.units.specs.declared.Prefix.{Prefix}
use Rattle.units.specs.declared.Prefix.TheVariants.{Metric, Binary}
use Rattle.units.specs.Prefixes.{number_fault, prefix_fault, factor_count}
use Rattle.units.specs.Lists.{factor_fault, some}
use Rattle.units.proofs.Sound.{exponent_sound}
use Rattle.tables.specs.Scale.{Numbers, counting, counted_size, raise, raised_to, scale_from_lem}

-- the power to a whole exponent; exactly 1 takes none to another
abbrev pub raising : Exponent → ℕ
raising e = cond (eqb e.den 1) (power_count e.num) 0

unfoldable pub cost : Factor → ℕ
cost f = factor_count f.prefix + raising f.exponent

-- the sum over a list
unfoldable pub total : (Factor → ℕ) → List Factor → ℕ
total w [] = 0
total w (f ∷ l) = w f + total w l

abbrev pub costs : List Factor → ℕ
costs = total cost

pub costs_append : (l m : List Factor) → costs (l ++ m) ≡ costs l + costs m
unfolding total
costs_append [] m = omega arith
costs_append (f ∷ l) m = omega (arith, costs_append l m)

-- ---- a scale

nothing : power_count (pos 0) ≡ 0
unfolding bits_of multiplications
nothing = refl

raise-count : (w o : Bool) (p u : Tally) (k n : ℕ) → p.count ≡ k + n → u.count ≡ k → Holds (λ t. t.count ≡ k + cond w n 0) (raise w o p u)
unfolding raise
raise-count true o p u k n e g = held {a = p} e
raise-count false true p u k n e g = held {a = u} (omega arith)
raise-count false false p u k n e g = moot

module _ (N : Numbers Float) (size : Factor → Float) where
  raised-count : (f : Factor) → Holds (λ t. t.count ≡ cost f) (raised_to (counting N) (counted_size size f) f.exponent)
  unfolding raised_to cost
  raised-count f = raise-count (eqb f.exponent.den 1) (N.exactly_one (size f)) _ _ (factor_count f.prefix) (power_count f.exponent.num) refl (omega (arith, nothing))

  pub scale_holds : (s : Tally) (l : List Factor) → Holds (λ w. w.count ≡ s.count + costs l) (scale_from_lem (counting N) (counted_size size) s l)
  unfolding scale_from_lem total
  scale_holds s [] = held {a = s} (omega arith)
  scale_holds s (f ∷ l) = holds_bind _ (raised-count f) λ t e. holds_imp (scale_holds ((counting N).times s t) l) λ w h. omega arith

  -- THEOREM (02, order 5): a scale takes exactly what its factors take, and what was counted before it
  pub scale_count : (s : Tally) (l : List Factor) (w : Tally) → scale_from_lem (counting N) (counted_size size) s l ≡ Ok w → w.count ≡ s.count + costs l
  scale_count s l w e = take_out (scale_holds s l) e

-- ---- prefixes

-- a test that all numbers below n pass
unfoldable pub all : (ℕ → Bool) → ℕ → Bool
all test zero = true
all test (suc n) = test n && all test n

pub one_of : (test : ℕ → Bool) (m n : ℕ) → all test m ≡ true → n < m → test n ≡ true
unfolding all
one_of test zero n h l = absurd (omega arith)
one_of test (suc m) n h l = go (eqb n m) refl (and_left (test m) (all test m) h) (one_of test m n (and_right (test m) (all test m) h))
  where
    go : (b : Bool) → eqb n m ≡ b → test m ≡ true → (n < m → test n ≡ true) → test n ≡ true
    go true e t h = rw (eqb-true n m e) t
    go false e t h = h (let z = eqb-false n m e in omega arith)

prefixes_known : all (λ n. leb (multiplications (bits n)) 19) 1101 ≡ true
unfolding all bits_of multiplications
prefixes_known = refl

prefixes_most : (n : ℕ) → n < 1101 → multiplications (bits n) ≤ 19
prefixes_most n h = leb-true (multiplications (bits n)) 19 (one_of (λ n. leb (multiplications (bits n)) 19) 1101 n prefixes_known h)

in_rule : (n : ℤ) → number_fault n ≡ false → nat_abs n < 1101
in_rule (pos n) h = omega (arith, ltb-false 1100 n (or_right false _ h))
in_rule (negsuc n) h = omega (arith, ltb-false 1099 n (or_left _ false h))

-- THEOREM (02, order 5): no prefix power takes more than 19
pub prefix_most : (p : Prefix) → prefix_fault p ≡ false → factor_count p ≤ 19
prefix_most (Metric n) h = prefixes_most (nat_abs n) (in_rule n h)
prefix_most (Binary n) h = prefixes_most (nat_abs n) (in_rule n h)

-- and those to ±1023 do; and 61 are met
pub most_met : (factor_count (Metric (pos 1023)) ≡ 19) × (factor_count (Binary (negsuc 1022)) ≡ 19) × (power_count (pos 2147483647) ≡ 61)
unfolding bits_of multiplications
most_met = (refl, refl, refl)

-- ---- factors that keep their rule

pub raising_most : (e : Exponent) → faulty e ≡ false → raising e ≤ 61
raising_most e h = go (eqb e.den 1)
  where
    go : (b : Bool) → cond b (power_count e.num) 0 ≤ 61
    go true = magnitude_most (nat_abs e.num) (omega (arith, (sound e h).0.numerator))
    go false = omega arith

pub its_prefix : (f : Factor) → factor_fault f ≡ false → factor_count f.prefix ≤ 19
unfolding factor_fault
its_prefix f h = prefix_most f.prefix (or_left (prefix_fault f.prefix) (faulty f.exponent) h)

-- THEOREM (02, order 5): so no factor takes more than 80
pub cost_most : (f : Factor) → factor_fault f ≡ false → cost f ≤ 80
unfolding cost
cost_most f h = omega (arith, its_prefix f h, raising_most f.exponent (exponent_sound f h))

-- nor n factors more than 80 each
pub costs_most : (n : ℕ) (l : List Factor) → length l ≤ n → some factor_fault l ≡ false → costs l ≤ 80 * n
unfolding total some
costs_most n [] s h = omega arith
costs_most zero (f ∷ l) s h = absurd (omega arith)
costs_most (suc n) (f ∷ l) s h = omega (arith, cost_most f (or_left (factor_fault f) (some factor_fault l) h), costs_most n l (omega arith) (or_right (factor_fault f) (some factor_fault l) h))
