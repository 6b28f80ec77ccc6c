-- What two exponents share, and what is left of the second (02, order 5): together they take less than two powers can, since their numbers have a sum of 31 bits.
use mathlib.Core.Path.{◌≡◌, refl, sym, ◌∙◌, ap, ap₂, subst}
use mathlib.Core.Bool.{Bool, true, false, cond, ◌||◌, ◌&&◌, true≢false, false≢true}
use Prim.Native.Nat.{ℕ, zero, suc, ◌+◌, ◌*◌, ◌-◌, ◌/◌, ◌%◌, ◌^◌, ◌≤◌, ◌<◌}
use native.Mathlib.Nat.{pow-suc, one-dvd}
use native.Mathlib.Omega.{arith}
use lib.Dec.{eqb, leb, ltb}
use borrow.Author.Tests.{eqb-true, leb-true, ltb-true, ltb-false, lt-leb}
use lib.IntN.{ℤ, pos, negsuc, nat_abs, ◌+ℤ◌, ◌*ℤ◌, one, *ℤ-one}
use lib.Signed.{quot_z, lt_z}
use lib.ListN.{length}
use Rattle.exponents.specs.Outcome.{Ok}
use Rattle.exponents.specs.Fractions.{lowest, add, neg, add?, less, nought, faulty, most}
use Rattle.exponents.specs.declared.Exponent.{Exponent}
use Rattle.exponents.proofs.Divisors.{gcd-one}
use Rattle.exponents.proofs.Exact.{Low, quot_back, neg_low, add_is, add_comm, add_assoc, add-nought, add-neg}
use Rattle.exponents.proofs.Equality.{and_left, and_right}
use Rattle.exponents.proofs.Holds.{take_out}
use Rattle.exponents.proofs.InRange.{sound, ranged_exact}
use Rattle.exponents.proofs.Sound.{add_sound}
use Rattle.exponents.proofs.Words.{pick_by}
use Rattle.floats.specs.Power.{bits_of, bits, multiplications, power_count}
use Rattle.floats.proofs.Laws.{bits_step}
use Rattle.floats.proofs.Counting.{set, bit-most, count_none, power_formula, magnitude_most}
use Rattle.std.specs.Prelude.{Option, Some, None}
use Rattle.common.specs.Common.{meet}
use Rattle.countpromises.proofs.Costs.{all, one_of, raising, raising_most}

-- ---- numbers

-- set bits plus bits: one more than the multiplications of n, if it isn't 0
abbrev weight : ℕ → ℕ
weight n = set (bits n) + length (bits n)

-- a bit more weighs at most 2
weight_half : (n : ℕ) → weight n ≤ weight (n / 2) + 2
unfolding set bits_of
weight_half zero = omega arith
weight_half (suc n) = omega (arith, ap set (bits_step (suc n) (omega arith)), ap length (bits_step (suc n) (omega arith)), bit-most (eqb (suc n % 2) 1))

abbrev light : ℕ → ℕ → Bool
light x z = leb 16 (x + z) || (leb (2 * weight x + weight z) 18 && leb (weight x + weight z) 12)

light_known : all (λ x. all (light x) 16) 16 ≡ true
unfolding all bits_of set
light_known = refl

below-sixteen : (x z : ℕ) → x + z < 16 → (2 * weight x + weight z ≤ 18) × (weight x + weight z ≤ 12)
below-sixteen x z h = go (leb 16 (x + z)) (lt-leb 16 (x + z) h) (one_of (light x) 16 z (one_of (λ x. all (light x) 16) 16 x light_known (omega arith)) (omega arith))
  where
    go : (b : Bool) → b ≡ false → (b || (leb (2 * weight x + weight z) 18 && leb (weight x + weight z) 12)) ≡ true → (2 * weight x + weight z ≤ 18) × (weight x + weight z ≤ 12)
    go true e t = absurd (true≢false e)
    go false e t = (leb-true _ 18 (and_left _ (leb (weight x + weight z) 12) t), leb-true _ 12 (and_right (leb (2 * weight x + weight z) 18) _ t))

-- their sum has at most k bits more than four
few_more : (k x z : ℕ) → x + z < 16 * 2 ^ k → (2 * weight x + weight z ≤ 18 + 6 * k) × (weight x + weight z ≤ 12 + 4 * k)
few_more zero x z h = below-sixteen x z (omega arith)
few_more (suc k) x z h =
    let r = few_more k (x / 2) (z / 2) (omega (arith, pow-suc 2 k)) in
    (omega (arith, r.0, weight_half x, weight_half z), omega (arith, r.1, weight_half x, weight_half z))

-- THEOREM: powers to numbers whose sum is in range take at most 118, and 177 with the first once more
pub two-most : (x z : ℕ) → x + z ≤ most → (multiplications (bits x) + (multiplications (bits x) + multiplications (bits z)) ≤ 177) × (multiplications (bits x) + multiplications (bits z) ≤ 118)
two-most zero z h = (omega (arith, count_none 0 refl, magnitude_most z (omega arith)), omega (arith, count_none 0 refl, magnitude_most z (omega arith)))
two-most (suc x) zero h = (omega (arith, count_none 0 refl, magnitude_most (suc x) (omega arith)), omega (arith, count_none 0 refl, magnitude_most (suc x) (omega arith)))
two-most (suc x) (suc z) h =
    let r = few_more 27 (suc x) (suc z) (omega arith) in
    let p = power_formula (suc x) (omega arith) in
    let q = power_formula (suc z) (omega arith) in
    (omega (arith, r.0), omega (arith, r.1))

-- ---- exponents

-- x lies between zero and y
pub data Inner (x y : Exponent) : Type 0 where
  up : less nought x ≡ true → less x y ≡ true → Inner x y
  down : less x nought ≡ true → less y nought ≡ true → less x y ≡ false → Inner x y

-- what is shared is the second exponent, or the first where it is the inner one
data Meets (x y : Exponent) : Option Exponent → Type 0 where
  second : Meets x y (Some y)
  first : Inner x y → Meets x y (Some x)
  none : Meets x y None

meets : (x y : Exponent) → Meets x y (meet x y)
unfolding meet
meets x y =
    pick_by (Meets x y) (less nought x && less nought y)
    (λ p. pick_by (Meets x y) (less x y) (λ q. first (up (and_left _ (less nought y) p) q)) (λ q. second))
    (λ _. pick_by (Meets x y) (less x nought && less y nought)
    (λ p. pick_by (Meets x y) (less x y) (λ q. second) (λ q. first (down (and_left _ (less y nought) p) (and_right (less x nought) _ p) q)))
    (λ _. none))

-- ---- whole exponents
abbrev whole : ℤ → Exponent
whole z = record { num = z; den = 1 }

times_one : (z : ℤ) → z *ℤ pos 1 ≡ z
unfolding one
times_one z = *ℤ-one z

lowest-whole : (z : ℤ) → lowest z 1 ≡ whole z
unfolding lowest
lowest-whole z = ap (λ g. record { num = quot_z z (pos g); den = 1 / g }) (gcd-one (nat_abs z)) ∙ ap whole (sym (times_one (quot_z z (pos 1))) ∙ quot_back z 1 (one-dvd (nat_abs z)))

less-whole : (a b : ℤ) → less (whole a) (whole b) ≡ lt_z a b
unfolding less
less-whole a b = ap₂ lt_z (times_one a) (times_one b)

add-whole : (a b : ℤ) → add (whole a) (whole b) ≡ whole (a +ℤ b)
add-whole a b = add_is (whole a) (whole b) ∙ ap (λ z. lowest z 1) (ap₂ ◌+ℤ◌ (times_one a) (times_one b)) ∙ lowest-whole (a +ℤ b)

-- what is between zero and a sum has the sign of the other summand
data Between (a b : ℤ) : Type 0 where
  up : lt_z (pos 0) a ≡ true → lt_z a b ≡ true → Between a b
  down : lt_z a (pos 0) ≡ true → lt_z b (pos 0) ≡ true → lt_z a b ≡ false → Between a b

between : (a b : ℤ) → Inner (whole a) (whole b) → Between a b
between a b (up p q) = up (sym (less-whole (pos 0) a) ∙ p) (sym (less-whole a b) ∙ q)
between a b (down p q r) = down (sym (less-whole a (pos 0)) ∙ p) (sym (less-whole b (pos 0)) ∙ q) (sym (less-whole a b) ∙ r)

sizes_add : (a c : ℤ) → Between a (c +ℤ a) → nat_abs a + nat_abs c ≡ nat_abs (c +ℤ a)
sizes_add (pos n) (pos m) h = omega arith
sizes_add (negsuc n) (negsuc m) h = omega arith
sizes_add (pos n) (negsuc m) (up p q) = absurd (go (ltb n (suc m)) refl q)
  where
    go : (b : Bool) → ltb n (suc m) ≡ b → lt_z (pos n) (cond b (negsuc (suc m - suc n)) (pos (n - suc m))) ≡ true → ⊥
    go true e q = false≢true q
    go false e q = omega (arith, ltb-true n (n - suc m) q, ltb-false n (suc m) e)
sizes_add (pos n) (negsuc m) (down p q r) = absurd (omega (arith, ltb-true n 0 p))
sizes_add (negsuc n) (pos m) (up p q) = absurd (false≢true p)
sizes_add (negsuc n) (pos m) (down p q r) = go (ltb m (suc n)) refl q r
  where
    go : (b : Bool) → ltb m (suc n) ≡ b → lt_z (cond b (negsuc (suc n - suc m)) (pos (m - suc n))) (pos 0) ≡ true → lt_z (negsuc n) (cond b (negsuc (suc n - suc m)) (pos (m - suc n))) ≡ false →
        suc n + m ≡ nat_abs (cond b (negsuc (suc n - suc m)) (pos (m - suc n)))
    go true e q r = omega (arith, ltb-true m (suc n) e, ltb-false (suc n - suc m) n r)
    go false e q r = absurd (omega (arith, ltb-true (m - suc n) 0 q))

-- ---- what is left of y where x is taken out

back : (x y : Exponent) → Low x → Low y → add (add y (neg x)) x ≡ y
back x y hx hy = add_assoc hy (neg_low hx) hx ∙ ap (add y) (add_comm (neg x) x ∙ add-neg hx) ∙ add-nought hy

as_whole : (x : Exponent) → x.den ≡ 1 → x ≡ whole x.num
as_whole x h i = record { num = x.num; den = h i }

inner_sizes : (x y e : Exponent) → Low x → Low y → Inner x y → add y (neg x) ≡ e → x.den ≡ 1 → e.den ≡ 1 → nat_abs x.num + nat_abs e.num ≡ nat_abs y.num
inner_sizes x y e hx hy h p wx we =
    let s : y ≡ whole (e.num +ℤ x.num) = sym (back x y hx hy) ∙ ap₂ add (p ∙ as_whole e we) (as_whole x wx) ∙ add-whole e.num x.num in
    let k : Inner (whole x.num) (whole (e.num +ℤ x.num)) = subst (λ u. Inner (whole x.num) u) s (subst (λ u. Inner u y) (as_whole x wx) h) in
    sizes_add x.num e.num (between x.num (e.num +ℤ x.num) k) ∙ sym (ap (λ (u : Exponent). nat_abs u.num) s)

-- ---- what both take
raising_nought : raising nought ≡ 0
unfolding bits_of multiplications
raising_nought = refl

module _ (x y e : Exponent) (fx : faulty x ≡ false) (fy : faulty y ≡ false) where
  -- s is shared
  abbrev pub Most : Exponent → Type 0
  Most s = add? y (neg s) ≡ Ok e → (raising x + (raising s + raising e) ≤ 177) × (raising s + raising e ≤ 118)

  -- the inner one is taken out: either isn't whole, or their sizes add up to that of y
  inner_most : Inner x y → Most x
  inner_most h p = go (eqb x.den 1) (eqb e.den 1) refl refl (raising_most x fx) (raising_most e (take_out (add_sound y (neg x)) p))
    where
      go : (b c : Bool) → eqb x.den 1 ≡ b → eqb e.den 1 ≡ c → cond b (power_count x.num) 0 ≤ 61 → cond c (power_count e.num) 0 ≤ 61 →
          (cond b (power_count x.num) 0 + (cond b (power_count x.num) 0 + cond c (power_count e.num) 0) ≤ 177) × (cond b (power_count x.num) 0 + cond c (power_count e.num) 0 ≤ 118)
      go true true u v l m =
          let n = inner_sizes x y e (sound x fx).1 (sound y fy).1 h (ranged_exact (add y (neg x)) e p).0 (eqb-true x.den 1 u) (eqb-true e.den 1 v) in
          two-most (nat_abs x.num) (nat_abs e.num) (omega (arith, n, (sound y fy).0.numerator))
      go true false u v l m = (omega arith, omega arith)
      go false c u v l m = (omega arith, omega arith)

  -- y itself is: nothing is left
  outer_most : Most y
  outer_most p =
      let z : raising e ≡ 0 = ap raising (sym (ranged_exact (add y (neg y)) e p).0 ∙ add-neg (sound y fy).1) ∙ raising_nought in
      (omega (arith, z, raising_most x fx, raising_most y fy), omega (arith, z, raising_most y fy))

  by_meet : (s : Exponent) {o : Option Exponent} → Meets x y o → o ≡ Some s → Most s
  by_meet s second g = subst Most (let n : y ≡ s = cc in n) outer_most
  by_meet s (first h) g = subst Most (let n : x ≡ s = cc in n) (inner_most h)
  by_meet s none g = let z : ◌≡◌ {A = ℕ} 0 1 = cc in absurd (omega arith)

  -- THEOREM: what x and y share, and what is left of y, take at most 118, and 177 with x
  pub shared_most : (s : Exponent) → meet x y ≡ Some s → Most s
  shared_most s = by_meet s (meets x y)
