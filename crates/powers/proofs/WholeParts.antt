-- A value without its fraction: a whole one leaves nothing, and of any other what is left is what a division by 1 leaves.
use Rattle.std.proofs.Common.{◌≡◌, ◌&&◌, ℕ, zero, suc, ◌+◌, ◌-◌, ◌*◌, ◌/◌, ◌%◌, ◌^◌, ◌<◌, Bool, true, false, T, pos, sym, refl, ap, ◌∙◌, arith}
use mathlib.Core.Bool.{true≢false}
use mathlib.Core.Logic.{inl, inr}
use lib.IntN.{ℤ, negsuc}
use lib.Dec.{ltb, eqb, leb, ltb→lt, eqb→eq}
use lib.Pow.{pow-add, pow_pos}
use native.Mathlib.Nat.{mul-pos, mul_assoc, mul-one, div-add-mod', div-one, mul-lt-mul_of_pos_right, mul-le-mul_left, eq-zero-or-pos, pow-succ'}
use borrow.Author.Tests.{le-ltb, lt-ltb}
use lib.Ieee.{Float, nan, inf, fin, binary64, prec, emax, low, up, down, fits, of_bits, neg, add, sub, rem, eq, round, sum}
use lib.Ieee.Fits.{down_pos, and_l, and_r, round-fits}
use lib.Ieee.Back.{round_whole, whole_unique}
use lib.Ieee.Exact.{HasValue, round_exact}
use lib.Ieee.Scale.{round_same}
use Rattle.std.specs.Float.{trunc, fract, round_with}
use Rattle.floats.specs.Power.{one}
use Rattle.powers.specs.Whole.{zero as none, is_whole}

-- ---- what a value that binary64 holds is made of: an odd number below 2 ^ 53, times a power of two
module _ (s : Bool) (m : ℕ) (e : ℤ) (h : T (fits binary64 (fin s (suc m) e))) where
  odd_digits : suc m % 2 ≡ 1
  unfolding fits
  odd_digits =
      let A = eqb (suc m % 2) 1 in
      let B = ltb (suc m) (2 ^ prec binary64) in
      let C = leb (down e) (2 ^ low binary64) in
      let D = ltb (suc m * up e) (2 ^ suc (emax binary64) * down e) in
      eqb→eq _ _ (and_l A B (and_l (A && B) C (and_l (A && B && C) D h)))

  few_digits : suc m < 2 ^ prec binary64
  unfolding fits
  few_digits =
      let A = eqb (suc m % 2) 1 in
      let B = ltb (suc m) (2 ^ prec binary64) in
      let C = leb (down e) (2 ^ low binary64) in
      let D = ltb (suc m * up e) (2 ^ suc (emax binary64) * down e) in
      ltb→lt _ _ (and_r A B (and_l (A && B) C (and_l (A && B && C) D h)))

  finite_size : suc m * up e < 2 ^ suc (emax binary64) * down e
  unfolding fits
  finite_size =
      let A = eqb (suc m % 2) 1 in
      let B = ltb (suc m) (2 ^ prec binary64) in
      let C = leb (down e) (2 ^ low binary64) in
      let D = ltb (suc m * up e) (2 ^ suc (emax binary64) * down e) in
      ltb→lt _ _ (and_r (A && B && C) D h)

-- ---- a whole value: it is its own whole part, and nothing is left
whole_value : (s : Bool) (m k : ℕ) → T (fits binary64 (fin s m (pos k))) → HasValue (round binary64 s (m * 2 ^ k) 1) s (m * 2 ^ k) 1
whole_value s zero k h = round_whole binary64 s (0 * 2 ^ k) (omega arith)
whole_value s (suc m) k h =
    let scaled : suc m * 2 ^ k * 2 ^ 1074 ≡ suc m * 2 ^ (k + 1074) = mul_assoc (suc m) (2 ^ k) (2 ^ 1074) ∙ ap (λ (z : ℕ). suc m * z) (sym (pow-add 2 k 1074)) in
    let below = mul-lt-mul_of_pos_right (finite_size s m (pos k) h) (pow_pos 1074) in
    round_exact binary64 s (suc m * 2 ^ k) 1 (suc m) (k + 1074) (omega arith) (few_digits s m (pos k) h)
    (omega (arith, below, scaled, pow-add 2 1074 1024)) (omega (arith, scaled))

own_part : (s : Bool) (m k : ℕ) → T (fits binary64 (fin s m (pos k))) → fin s m (pos k) ≡ round binary64 s (m * 2 ^ k) 1
own_part s m k h = whole_unique binary64 (fin s m (pos k)) (round binary64 s (m * 2 ^ k) 1) s (m * 2 ^ k) h (round-fits binary64 s (m * 2 ^ k) 1) (refl, refl) (whole_value s m k h)

zero_is_none : (s : Bool) → eq (round binary64 s 0 1) none ≡ true
unfolding round eq of_bits
zero_is_none true = refl
zero_is_none false = refl

nothing_of : (a : ℕ) → eq (round binary64 false (a - a) 1) none ≡ true
nothing_of a = let z : a - a ≡ 0 = omega arith in ap (λ (n : ℕ). eq (round binary64 false n 1) none) z ∙ zero_is_none false

nothing_left : (s : Bool) (m k : ℕ) → eq (sub binary64 (fin s m (pos k)) (fin s m (pos k))) none ≡ true
unfolding sub add neg sum
nothing_left true m k = rw (le-ltb (m * 2 ^ k * 1) (m * 2 ^ k * 1) (omega arith)) (nothing_of (m * 2 ^ k * 1))
nothing_left false m k = rw (le-ltb (m * 2 ^ k * 1) (m * 2 ^ k * 1) (omega arith)) (nothing_of (m * 2 ^ k * 1))

-- a division by 1 leaves nothing of it either
rest_of_whole : (s : Bool) (m k : ℕ) → eq (rem binary64 (fin s m (pos k)) one) none ≡ true
unfolding rem of_bits
rest_of_whole s m k =
    let z : m * 2 ^ k * 1 % 1 ≡ 0 = omega arith in
    ap (λ (n : ℕ). eq (round binary64 s n 1) none) z ∙ zero_is_none s

-- ---- any other value: what is left of it is what a division by 1 leaves

-- m / d less the whole number q, which is a / g: over d * g, and over d
difference : (m q a g d : ℕ) → a * 1 ≡ q * g → q * d < m → 0 < g → (a * d < m * 1 * g) × ((m * 1 * g - a * d) * d ≡ (m - q * d) * (d * g))
difference m q a g d e h p =
    let off : a * d ≡ q * g * d = omega (arith, ap (λ (n : ℕ). n * d) e) in
    let over : q * d * g < m * g = mul-lt-mul_of_pos_right h p in
    let r = m - q * d in
    let whole : m * g ≡ (q * d + r) * g = ap (λ (n : ℕ). n * g) (omega arith) in
    let rest : m * 1 * g - a * d ≡ r * g = omega arith in
    (omega arith, omega (arith, ap (λ (n : ℕ). n * d) rest))

-- a value, less the whole number q in it that t is
taken_off : (s : Bool) (m k q : ℕ) (t : Float) → HasValue t s q 1 → q * 2 ^ suc k < m → sub binary64 (fin s m (negsuc k)) t ≡ round binary64 s (m - q * 2 ^ suc k) (2 ^ suc k)
unfolding sub add neg sum
taken_off s m k q nan v h = absurd v
taken_off s m k q (inf u) v h = absurd v
taken_off true m k q (fin false n g) v h = absurd (true≢false (sym v.0))
taken_off false m k q (fin true n g) v h = absurd (true≢false v.0)
taken_off true m k q (fin true n g) v h =
    let d = difference m q (n * up g) (down g) (2 ^ suc k) v.1 h (down_pos g) in
    rw (le-ltb (m * 1 * down g) (n * up g * 2 ^ suc k) (omega arith), lt-ltb (n * up g * 2 ^ suc k) (m * 1 * down g) d.0)
    (round_same binary64 true _ _ _ _ (mul-pos (pow_pos (suc k)) (down_pos g)) (pow_pos (suc k)) d.1)
taken_off false m k q (fin false n g) v h =
    let d = difference m q (n * up g) (down g) (2 ^ suc k) v.1 h (down_pos g) in
    rw (le-ltb (m * 1 * down g) (n * up g * 2 ^ suc k) (omega arith))
    (round_same binary64 false _ _ _ _ (mul-pos (pow_pos (suc k)) (down_pos g)) (pow_pos (suc k)) d.1)

-- the whole part is less than an odd number over a power of two
inside : (m k : ℕ) → m % 2 ≡ 1 → m / 2 ^ suc k * 2 ^ suc k < m
inside m k o =
    let d = 2 ^ suc k in
    let parts = div-add-mod' m d in
    elim (eq-zero-or-pos (m % d)) [
      | inl z ↦ absurd (omega (arith, ap (λ (n : ℕ). m / d * n) (pow-succ' 2 k)))
      | inr p ↦ omega arith
    ]

-- ---- any value
whole_part : (s : Bool) (m : ℕ) (e : ℤ) → trunc binary64 (fin s m e) ≡ round binary64 s (m * up e / down e) 1
unfolding round_with
whole_part true m e = refl
whole_part false m e = refl

of_nan : eq (fract binary64 nan) none ≡ is_whole nan
unfolding is_whole rem sub add round_with eq
of_nan = refl

of_inf : (s : Bool) → eq (fract binary64 (inf s)) none ≡ is_whole (inf s)
unfolding is_whole rem sub add neg round_with eq
of_inf true = refl
of_inf false = refl

no_power : (s : Bool) (k : ℕ) → T (fits binary64 (fin s zero (negsuc k))) → ⊥
unfolding fits
no_power s k h = omega (arith, eqb→eq (1 * 2 ^ suc k) 1 h, pow-succ' 2 k, pow_pos k)

rest_of_other : (s : Bool) (m k : ℕ) → rem binary64 (fin s m (negsuc k)) one ≡ round binary64 s (m - m / 2 ^ suc k * 2 ^ suc k) (2 ^ suc k)
unfolding rem of_bits
rest_of_other s m k =
    let d = 2 ^ suc k in
    let a : m * 1 * 1 ≡ m = omega arith in
    let b : 1 * d ≡ d = omega arith in
    let c : d * 1 ≡ d = omega arith in
    let r : m % d ≡ m - m / d * d = omega (arith, div-add-mod' m d) in
    (λ i. round binary64 s (a i % b i) (c i)) ∙ ap (λ (n : ℕ). round binary64 s n d) r

pub fraction_tells : (x : Float) → T (fits binary64 x) → eq (fract binary64 x) none ≡ is_whole x
unfolding is_whole
fraction_tells nan h = of_nan
fraction_tells (inf s) h = of_inf s
fraction_tells (fin s m (pos k)) h =
    let t : trunc binary64 (fin s m (pos k)) ≡ fin s m (pos k) = whole_part s m (pos k) ∙ ap (λ (n : ℕ). round binary64 s n 1) (div-one (m * 2 ^ k)) ∙ sym (own_part s m k h) in
    ap (λ (y : Float). eq (sub binary64 (fin s m (pos k)) y) none) t ∙ nothing_left s m k ∙ sym (rest_of_whole s m k)
fraction_tells (fin s zero (negsuc k)) h = absurd (no_power s k h)
fraction_tells (fin s (suc m) (negsuc k)) h =
    let q = suc m / 2 ^ suc k in
    let in_it : q * 2 ^ suc k < suc m = inside (suc m) k (odd_digits s m (negsuc k) h) in
    let t = round_whole binary64 s q (omega (arith, few_digits s m (negsuc k) h, mul-le-mul_left q (pow_pos (suc k)))) in
    let l : sub binary64 (fin s (suc m) (negsuc k)) (round binary64 s q 1) ≡ round binary64 s (suc m - q * 2 ^ suc k) (2 ^ suc k) = taken_off s (suc m) k q _ t in_it in
    ap (λ (y : Float). eq (sub binary64 (fin s (suc m) (negsuc k)) y) none) (whole_part s (suc m) (negsuc k) ∙ ap (λ (n : ℕ). round binary64 s (n / 2 ^ suc k) 1) (mul-one (suc m)))
    ∙ ap (λ (y : Float). eq y none) (l ∙ sym (rest_of_other s (suc m) k))
