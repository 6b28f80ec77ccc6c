-- How many multiplications a power takes (02, order 5): as many as its exponent has set bits, and one fewer than it has bits; so never more than 61.
use mathlib.Core.Path.{◌≡◌, refl, ◌∙◌, ap, ap₂}
use mathlib.Core.Bool.{Bool, true, false, cond}
use mathlib.Core.List.{List, [], ◌∷◌}
use Prim.Native.Nat.{ℕ, zero, suc, ◌+◌, ◌*◌, ◌/◌, ◌%◌, ◌^◌, ◌≤◌, ◌<◌}
use native.Mathlib.Nat.{pow-suc}
use native.Mathlib.Omega.{arith}
use lib.Dec.{eqb}
use borrow.Author.Tests.{eq-eqb, ne_eqb, eqb-true, eqb-false}
use lib.IntN.{ℤ, pos, negsuc, nat_abs}
use lib.Signed.{lt_z}
use lib.Ieee.{Float, binary64, div}
use lib.ListN.{length}
use mir.Syntax.{w32}
use mir.Val.{SFits}
use Rattle.floats.specs.Power.{one, bits_of, bits, raise, power, multiplications, power_count, tally}
use Rattle.floats.specs.declared.Tally.{Tally}
use Rattle.floats.proofs.Laws.{bits_none, bits_step, power_answer}

-- ---- a turn of the loop

pub count_none : (n : ℕ) → n ≡ 0 → multiplications (bits n) ≡ 0
unfolding multiplications bits_of
count_none n h = rw h

-- the lowest bit, where no other remains
pub count_last : (n : ℕ) → 0 < n → n / 2 ≡ 0 → multiplications (bits n) ≡ cond (eqb (n % 2) 1) 1 0
unfolding multiplications
count_last n h e = rw (bits_step n h, e, bits_none)

count_with : (b : Bool) (n : ℕ) → 0 < n → multiplications (b ∷ bits n) ≡ cond b 1 0 + 1 + multiplications (bits n)
unfolding multiplications bits_of
count_with b zero h = absurd (omega arith)
count_with b (suc n) h = refl

-- the lowest bit, and those that remain
pub count-more : (n : ℕ) → 0 < n → 0 < n / 2 → multiplications (bits n) ≡ cond (eqb (n % 2) 1) 1 0 + 1 + multiplications (bits (n / 2))
count-more n h g = rw (bits_step n h) (count_with (eqb (n % 2) 1) (n / 2) g)

-- a turn that has counted k and leaves j: the lowest bit is counted if it is set, and one more if another remains
pub turn_more : (n k j i : ℕ) → 0 < n → 0 < n / 2 → j ≡ k + cond (eqb (n % 2) 1) 1 0 → i ≡ j + 1 → i + multiplications (bits (n / 2)) ≡ k + multiplications (bits n)
turn_more n k j i h g e f = omega (arith, count-more n h g)

pub turn_last : (n k j : ℕ) → 0 < n → n / 2 ≡ 0 → j ≡ k + cond (eqb (n % 2) 1) 1 0 → j + multiplications (bits (n / 2)) ≡ k + multiplications (bits n)
turn_last n k j h g e = omega (arith, count_last n h g, count_none (n / 2) g)

pub bit-most : (b : Bool) → cond b 1 0 ≤ 1
bit-most true = omega arith
bit-most false = omega arith

pub counted-set : (n k : ℕ) → n % 2 ≡ 1 → k + 1 ≡ k + cond (eqb (n % 2) 1) 1 0
counted-set n k h = rw (eq-eqb (n % 2) 1 h)

pub counted_clear : (n k : ℕ) → (n % 2 ≡ 1 → ⊥) → k ≡ k + cond (eqb (n % 2) 1) 1 0
counted_clear n k h = rw (ne_eqb (n % 2) 1 h) (omega arith)

-- ---- the formula

-- how many bits are set
unfoldable pub set : List Bool → ℕ
set [] = 0
set (b ∷ l) = cond b 1 0 + set l

-- set bits plus bits minus one, of a number that has bits
pub formula : (l : List Bool) → 0 < length l → multiplications l + 1 ≡ set l + length l
unfolding multiplications set
formula [] h = absurd (omega arith)
formula (b ∷ []) h = omega arith
formula (b ∷ c ∷ l) h = omega (arith, formula (c ∷ l) (omega arith))

pub set-most : (l : List Bool) → set l ≤ length l
unfolding set
set-most [] = omega arith
set-most (true ∷ l) = omega (arith, set-most l)
set-most (false ∷ l) = omega (arith, set-most l)

some_bits : (n : ℕ) → 0 < n → 0 < length (bits n)
some_bits n h = omega (arith, ap length (bits_step n h))

-- THEOREM (02, order 5): the multiplications of a power to a nonzero n are its set bits plus its bit length minus one; to zero there are none
pub power_formula : (n : ℕ) → 0 < n → multiplications (bits n) + 1 ≡ set (bits n) + length (bits n)
power_formula n h = formula (bits n) (some_bits n h)

-- ---- bounds

half_bits : (n k : ℕ) → length (bits (n / 2)) ≤ k → length (bits n) ≤ suc k
half_bits zero k h = omega (arith, ap length bits_none)
half_bits (suc n) k h = omega (arith, ap length (bits_step (suc n) (omega arith)))

-- a number below 2 to the k has at most k bits
pub few_bits : (k n : ℕ) → n < 2 ^ k → length (bits n) ≤ k
few_bits zero n h = let e : n ≡ 0 = omega arith in omega (arith, ap (λ n. length (bits n)) e, ap length bits_none)
few_bits (suc k) n h = half_bits n k (few_bits k (n / 2) (omega (arith, pow-suc 2 k)))

-- and its power takes at most one multiplication fewer than twice as many
pub few : (k n : ℕ) → 0 < k → n < 2 ^ k → multiplications (bits n) + 1 ≤ 2 * k
few k zero p h = omega (arith, count_none 0 refl)
few k (suc n) p h = omega (arith, power_formula (suc n) (omega arith), set-most (bits (suc n)), few_bits k (suc n) h)

least-of-all : multiplications (bits 2147483648) ≡ 32
unfolding multiplications bits_of
least-of-all = refl

pub magnitude_most : (m : ℕ) → m ≤ 2147483648 → multiplications (bits m) ≤ 61
magnitude_most m h = go (eqb m 2147483648) refl
  where
    go : (b : Bool) → eqb m 2147483648 ≡ b → multiplications (bits m) ≤ 61
    go true e = omega (arith, ap (λ m. multiplications (bits m)) (eqb-true m 2147483648 e), least-of-all)
    go false e = omega (arith, few 31 m (omega arith) (let z = eqb-false m 2147483648 e in omega arith))

-- THEOREM (02, order 5): no power to a number of 32 bits takes more than 61
pub power-most : (n : ℤ) → SFits w32 n → power_count n ≤ 61
power-most (pos n) f = magnitude_most n (omega (arith, f.sfits))
power-most (negsuc n) f = magnitude_most (suc n) (omega (arith, f.sfits))

-- what is answered, from t = the base to the m = |n|: b tells whether n is negative
pub counted_answer : (x : Float) (n : ℤ) (m : ℕ) (t : Tally) (b : Bool) → SFits w32 n → lt_z n (pos 0) ≡ b → m ≡ nat_abs n → t ≡ tally (raise (bits m) one x) (multiplications (bits m)) →
    (tally (cond b (div binary64 one t.value) t.value) t.count ≡ tally (power x n) (power_count n)) × (t.count ≤ 61)
counted_answer x n m t b f h e g =
    let k : t.count ≡ power_count n = ap (λ (t : Tally). t.count) g ∙ ap (λ m. multiplications (bits m)) e in
    (ap₂ tally (power_answer x n m t.value b h e (ap (λ (t : Tally). t.value) g)) k, omega (arith, k, power-most n f))
