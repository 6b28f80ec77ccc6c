-- Where x lies in a span from left to right, (x - left) / (right - left) lies from 0 to 1: 0 at x = left, exactly 1 at x = right.
use mathlib.Core.Path.{◌≡◌, refl, sym, ap, ◌∙◌, subst}
use mathlib.Core.Bool.{Bool, true, false, not, ◌&&◌, true≢false}
use Prim.Native.Nat.{ℕ, zero, suc, ◌+◌, ◌*◌, ◌≤◌, ◌<◌}
use native.Mathlib.Nat.{zero-mul, mul-pos, add-mul, mul_assoc, mul_comm, mul_left_comm}
use native.Mathlib.Omega.{arith}
use lib.IntN.{ℤ, pos}
use lib.Dec.{T, eqb}
use lib.Ieee.{Float, nan, inf, fin, Format, binary64, unlike, up, down, of_bits, round, sub, div, eq, le}
use lib.Ieee.Fits.{up_pos, down_pos}
use lib.Ieee.Order.{round_mono}
use lib.Ieee.Scale.{round_same, finite}
use lib.Ieee.Positive.{den, den_pos}
use borrow.Author.Tests.{eqb-false}
use Rattle.floats.specs.Power.{one}
use Rattle.floats.specs.Values.{is_zero}
use Rattle.floatlaws.proofs.Signed.{sign, plus, minus, signed, signed_more, signed_less, sub_is, Three, more, less, same, three, le→under, eq→even, even→eq}
use Rattle.floatlaws.proofs.Order.{zero_of, round-zero, round-one, AtLeastZero, positive_part, zero_at_least, round_at_least}
use Rattle.floatlaws.proofs.Differences.{sub-equal, sub_self}
use Rattle.floatlaws.proofs.Comparison.{finite_number, between_finite}
use Rattle.floatlaws.proofs.Monotone.{sub_mono_finite}

abbrev pub one_of : Float
one_of = fin false 1 (pos 0)

pub one_is : one ≡ one_of
unfolding of_bits
one_is = refl

pub plus_zero_is : of_bits binary64 0 ≡ zero_of false
unfolding of_bits
plus_zero_is = refl

pub above_zero : (k : ℕ) (g : ℤ) (c : ℕ) → eqb k 0 ≡ false → 0 < c → 0 < k * up g * c
above_zero zero g c h C = absurd (eqb-false 0 0 h refl)
above_zero (suc k) g c h C = mul-pos (mul-pos {m = suc k} {n = up g} (omega arith) (up_pos g)) C

at_most_one : (f : Format) (a b : ℕ) → 0 < b → a ≤ b → T (le (round f false a b) one_of)
at_most_one f a b B h = rw (round-one f false 1 (omega arith)) at (round_mono f a b 1 1 B (omega arith) (omega arith))

-- ---- n / d for 0 ≤ n ≤ d
pub record Share (f : Format) (n d : Float) : Type 0 where
  pub low : AtLeastZero (div f n d)
  pub high : T (le (div f n d) one_of)

pub div_is : (f : Format) (s : Bool) (m : ℕ) (e : ℤ) (t : Bool) (k : ℕ) (g : ℤ) → eqb k 0 ≡ false → div f (fin s m e) (fin t k g) ≡ round f (unlike s t) (m * up e * down g) (k * up g * down e)
unfolding div
div_is f s m e t k g z = rw z

no_part : (a c b : ℕ) → 0 < a → a ≤ b * c → b ≤ 0 → ⊥
no_part a c b A h z = let e : b ≡ 0 = omega arith in omega (arith, simp (e, zero-mul) at h)

pub gone : (b c : ℕ) → b ≤ 0 → b * c ≡ 0
gone b c h = let e : b ≡ 0 = omega arith in simp (e, zero-mul)

pub nothing_share : (f : Format) (m : ℕ) (e : ℤ) (k : ℕ) (g : ℤ) → eqb k 0 ≡ false → m * up e ≤ 0 → div f (fin true m e) (fin false k g) ≡ zero_of true
nothing_share f m e k g z h = rw (div_is f true m e false k g z, gone (m * up e) (down g) h) (round-zero f true (k * up g * down e) (above_zero k g (down e) z (down_pos e)))

pub share : (f : Format) (n d : Float) → T (finite d) → is_zero d ≡ false → AtLeastZero n → T (le n d) → Share f n d
share f nan d p z h k = absurd (unfold le in h)
share f (inf true) d p z h k = absurd (unfold le in h)
share f (inf false) nan p z h k = absurd p
share f (inf false) (inf t) p z h k = absurd p
share f (inf false) (fin t k g) p z h l = absurd (unfold le in l)
share f (fin s m e) nan p z h k = absurd p
share f (fin s m e) (inf t) p z h k = absurd p
share f (fin true m e) (fin false k g) p z h l =
    let q = nothing_share f m e k g z (positive_part (fin true m e) tt h) in
    record { low = rw q (zero_at_least true); high = rw q (unfold le in tt) }
share f (fin false m e) (fin false k g) p z h l =
    let B = above_zero k g (down e) z (down_pos e) in
    record {
      low = rw (div_is f false m e false k g z) (round_at_least f (m * up e * down g) (k * up g * down e) B);
      high = rw (div_is f false m e false k g z) (at_most_one f (m * up e * down g) (k * up g * down e) B (omega (arith, le→under (fin false m e) (fin false k g) tt tt l)));
    }
share f (fin false m e) (fin true k g) p z h l = absurd (omega (arith, le→under (fin false m e) (fin true k g) tt tt l, above_zero k g (down e) z (down_pos e)))
share f (fin true m e) (fin true k g) p z h l =
    absurd (no_part (k * up g * down e) (down g) (m * up e) (above_zero k g (down e) z (down_pos e)) (omega (arith, le→under (fin true m e) (fin true k g) tt tt l)) (positive_part (fin true m e) tt h))

-- 0 / d, and d / d
pub share_none : (f : Format) (s : Bool) (d : Float) → is_zero d ≡ false → AtLeastZero d → div f (zero_of s) d ≡ zero_of s
share_none f s nan z h = absurd (unfold le in h)
share_none f s (inf true) z h = absurd (unfold le in h)
share_none f true (inf false) z h = unfold div in refl
share_none f false (inf false) z h = unfold div in refl
share_none f s (fin true k g) z h = absurd (omega (arith, positive_part (fin true k g) tt h, above_zero k g 1 z (omega arith)))
share_none f true (fin false k g) z h = rw (div_is f true 0 (pos 0) false k g z, gone 0 (down g) (omega arith)) (round-zero f true (k * up g * 1) (above_zero k g 1 z (omega arith)))
share_none f false (fin false k g) z h = rw (div_is f false 0 (pos 0) false k g z, gone 0 (down g) (omega arith)) (round-zero f false (k * up g * 1) (above_zero k g 1 z (omega arith)))

pub share_all : (f : Format) (d : Float) → T (finite d) → is_zero d ≡ false → div f d d ≡ one_of
share_all f nan p z = absurd p
share_all f (inf t) p z = absurd p
share_all f (fin true k g) p z = div_is f true k g true k g z ∙ round-one f false (k * up g * down g) (above_zero k g (down g) z (down_pos g))
share_all f (fin false k g) p z = div_is f false k g false k g z ∙ round-one f false (k * up g * down g) (above_zero k g (down g) z (down_pos g))

-- ---- x in the span from l to r

-- values that are equal have the same difference from l, if it is not zero
same_numbers : (Px Mx X Py My Y Pl Ml L : ℕ) → Px * Y + My * X ≡ Py * X + Mx * Y → (Px * L + Ml * X) * (Y * L) + (My * L + Pl * Y) * (X * L) ≡ (Py * L + Ml * Y) * (X * L) + (Mx * L + Pl * X) * (Y * L)
same_numbers Px Mx X Py My Y Pl Ml L h =
    let k = simp (add-mul, mul_assoc, mul_comm) at (ap (λ z. z * (L * L)) h) in
    simp (add-mul, mul_assoc, mul_comm, mul_left_comm) (omega arith)

signed_value : (f : Format) (s t : Bool) (p n c p' n' c' : ℕ) → 0 < c → 0 < c' → p * c' + n' * c ≡ p' * c + n * c' → (p' ≡ n' → ⊥) → signed f s p n c ≡ signed f t p' n' c'
signed_value f s t p n c p' n' c' C C' h u = go (three p n) (three p' n')
  where
    go : Three p n → Three p' n' → signed f s p n c ≡ signed f t p' n' c'
    go (more d e z) (more d' e' z') = rw (signed_more f s p n c d e z, signed_more f t p' n' c' d' e' z') (round_same f false d c d' c' C C' (omega (arith, simp (e, e', add-mul) at h)))
    go (more d e z) (less d' e' z') = absurd (omega (arith, simp (e, e', add-mul) at h, mul-pos z C'))
    go (less d e z) (more d' e' z') = absurd (omega (arith, simp (e, e', add-mul) at h, mul-pos z C'))
    go (less d e z) (less d' e' z') = rw (signed_less f s p n c d e z, signed_less f t p' n' c' d' e' z') (round_same f true d c d' c' C C' (omega (arith, simp (e, e', add-mul) at h)))
    go (same e) (more d' e' z') = absurd (omega (arith, simp (e, e', add-mul) at h, mul-pos z' C))
    go (same e) (less d' e' z') = absurd (omega (arith, simp (e, e', add-mul) at h, mul-pos z' C))
    go t (same e') = absurd (u e')

pub sub_same : (f : Format) (x y l : Float) → T (finite x) → T (finite y) → T (finite l) → eq x y ≡ true → is_zero (sub f y l) ≡ false → sub f x l ≡ sub f y l
sub_same f x y l p q r h z =
    rw (sub_is f x l p r, sub_is f y l q r)
    (signed_value f _ _ _ _ _ _ _ _ (mul-pos (den_pos x) (den_pos l)) (mul-pos (den_pos y) (den_pos l))
    (same_numbers (plus x) (minus x) (den x) (plus y) (minus y) (den y) (plus l) (minus l) (den l) (eq→even x y p q (rw h tt)))
    (λ e. true≢false (sym (ap is_zero (sub-equal f y l q r (even→eq y l q r (omega arith)))) ∙ z)))

pub from_left : (f : Format) (l x : Float) → T (finite l) → T (finite x) → T (le l x) → AtLeastZero (sub f x l)
from_left f l x p q h = subst (λ y. T (le y (sub f x l))) (sub_self f l p) (sub_mono_finite f l x l p q (finite_number l p) h)

module _ (f : Format) (l r : Float) (p : T (finite l)) (q : T (finite r)) (z : is_zero (sub f r l) ≡ false) where
  -- the part of the span that lies before x
  abbrev pub quotient : Float → Float
  quotient x = div f (sub f x l) (sub f r l)

  -- THEOREM: at x = left it is +0; where x is -0 and left +0 it is -0
  pub at_left-equal : (x : Float) → T (le l r) → T (finite x) → eq x l ≡ true → quotient x ≡ zero_of (sign x && not (sign l))
  at_left-equal x h g e = rw (sub-equal f x l g p e) (share_none f (sign x && not (sign l)) (sub f r l) z (from_left f l r p q h))

  pub at_left : T (le l r) → quotient l ≡ zero_of false
  at_left h = rw (sub_self f l p) (share_none f false (sub f r l) z (from_left f l r p q h))

  -- the divisor is no infinity
  module _ (d : T (finite (sub f r l))) where
    -- THEOREM: it lies from 0 to 1
    pub within : (x : Float) → T (le l x) → T (le x r) → AtLeastZero (quotient x) × T (le (quotient x) one_of)
    within x h k =
        let g = between_finite l x r p q h k in
        let s = share f (sub f x l) (sub f r l) d z (from_left f l x p g h) (sub_mono_finite f x r l g q (finite_number l p) k) in
        (s.low, s.high)

    -- THEOREM: at x = right it is exactly 1, also where one is -0 and the other +0
    pub at_right : (x : Float) → T (finite x) → eq x r ≡ true → quotient x ≡ one_of
    at_right x g e = rw (sub_same f x r l g q p e z) (share_all f (sub f r l) d z)
