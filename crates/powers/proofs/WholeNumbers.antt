-- A whole value within ±2147483647 is a 32 bit number: its truncation fits, and each test of the code ends as the definition does.
use Rattle.std.proofs.Common.{◌≡◌, ℕ, ◌+◌, ◌*◌, ◌/◌, ◌^◌, ◌<◌, ◌≤◌, min, Bool, true, false, ◌&&◌, ◌||◌, T, eqb, ltb, ℤ, pos, sym, refl, ap, ◌∙◌, subst, div-lt_iff_lt-mul, mul-one, arith, to_z-of_z, w32, w64, SFits, to_z, of_z, ltb-true, lt-ltb, eqb-true}
use mathlib.Core.Bool.{false≢true}
use lib.Signed.{mag}
use lib.Ieee.{Float, nan, inf, fin, of_bits, le, lt, up, down, to_signed}
use lib.Ieee.Fits.{down_pos}
use Rattle.exponents.proofs.Size.{mag_neg}
use Rattle.exponents.specs.Outcome.{Ok, Err, NONWHOLE, RANGE, unless}
use Rattle.powers.specs.Whole.{most, least, is_whole, is_beyond, whole_exponent}

-- ---- how the code ends
module _ (x : Float) where
  pub not_whole : is_whole x ≡ false → Err NONWHOLE ≡ whole_exponent x
  unfolding whole_exponent unless
  not_whole w = rw w

  module _ (w : is_whole x ≡ true) where
    pub too_great : le x most ≡ false → Err RANGE ≡ whole_exponent x
    unfolding whole_exponent is_beyond unless
    too_great h = rw (w, h)

    pub too_small : le x most ≡ true → le least x ≡ false → Err RANGE ≡ whole_exponent x
    unfolding whole_exponent is_beyond unless
    too_small h g = rw (w, h, g)

    pub whole-number : le x most ≡ true → le least x ≡ true → (n : ℤ) → n ≡ to_signed 63 x → Ok n ≡ whole_exponent x
    unfolding whole_exponent is_beyond unless
    whole-number h g n e = rw (w, h, g) (ap Ok e)

-- ---- a value between the ends

-- finite, its magnitude at most 2147483647
data Small : Float → Type 0 where
  small : (s : Bool) (m : ℕ) (e : ℤ) → m * up e * 1 ≤ 2147483647 * down e → Small (fin s m e)

either : {A : Type 0} (p q : Bool) → (p ≡ true → A) → (q ≡ true → A) → (p || q) ≡ true → A
either true q f g h = f refl
either false q f g h = g h

first : (p q : Bool) → (p && q) ≡ true → p ≡ true
first true q h = refl
first false q h = absurd (false≢true h)

-- a comparison of magnitudes of one sign is `≤`
at_most : (a b : ℕ) (p q : Bool) → (p ≡ true → a ≤ b) → (ltb a b || (p && q)) ≡ true → a ≤ b
at_most a b p q f = either (ltb a b) (p && q) (λ h. omega (arith, ltb-true a b h)) (λ h. f (first p q h))

between : (x : Float) → le x most ≡ true → le least x ≡ true → Small x
unfolding of_bits le
between nan h g = absurd (false≢true h)
between (inf true) h g = absurd (false≢true g)
between (inf false) h g = absurd (false≢true h)
between (fin true m e) h g = let a = m * up e * 1 in let b = 2147483647 * down e in small true m e (at_most a b (eqb b a) _ (λ z. omega (arith, eqb-true b a z)) g)
between (fin false m e) h g = let a = m * up e * 1 in let b = 2147483647 * down e in small false m e (at_most a b (eqb a b) _ (λ z. omega (arith, eqb-true a b z)) h)

whole_below : (a d : ℕ) → 0 < d → a * 1 ≤ 2147483647 * d → a / d < 2147483648
whole_below a d p h = (div-lt_iff_lt-mul p).1 (omega (arith, mul-one a))

truncated : (x : Float) → Small x → mag (to_signed 63 x) < 2 ^ 31
unfolding to_signed
truncated x (small true m e h) = omega (arith, mag_neg (min (m * up e / down e) 9223372036854775808), whole_below (m * up e) (down e) (down_pos e) h)
truncated x (small false m e h) = omega (arith, whole_below (m * up e) (down e) (down_pos e) h)

-- it lies within the ends of a 64 bit number
above_end : (x : Float) → Small x → le (fin true 1 (pos 63)) x ≡ true
unfolding le
above_end x (small true m e h) = rw (lt-ltb (m * up e * 1) (9223372036854775808 * down e) (omega (arith, down_pos e)))
above_end x (small false m e h) = rw (lt-ltb 0 (9223372036854775808 * down e + m * up e * 1) (omega (arith, down_pos e)))

below_end : (x : Float) → Small x → lt x (fin false 1 (pos 63)) ≡ true
unfolding lt
below_end x (small true m e h) = lt-ltb 0 (m * up e * 1 + 9223372036854775808 * down e) (omega (arith, down_pos e))
below_end x (small false m e h) = lt-ltb (m * up e * 1) (9223372036854775808 * down e) (omega (arith, down_pos e))

-- ---- its truncation r, read as 64 bits and then as 32
module _ (x : Float) (h : le x most ≡ true) (g : le least x ≡ true) where
  pub truncates : T (le (fin true 1 (pos 63)) x) × T (lt x (fin false 1 (pos 63)))
  truncates = let s = between x h g in (subst T (sym (above_end x s)) tt, subst T (sym (below_end x s)) tt)

  module _ (r : ℤ) (e : r ≡ to_signed 63 x) where
    read64 : to_z w64 (of_z w64 r) ≡ to_signed 63 x
    read64 = let s = truncated x (between x h g) in to_z-of_z (subst (λ (y : ℤ). SFits w64 y) (sym e) (record { sfits = omega arith })) ∙ e

    pub fits32 : SFits w32 (to_z w64 (of_z w64 r))
    fits32 = subst (λ (y : ℤ). SFits w32 y) (sym read64) (record { sfits = truncated x (between x h g) })

    pub read32 : to_z w32 (of_z w32 (to_z w64 (of_z w64 r))) ≡ to_signed 63 x
    read32 = to_z-of_z fits32 ∙ read64
