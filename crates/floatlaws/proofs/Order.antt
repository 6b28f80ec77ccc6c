-- A rounded difference keeps order: `signed` of a larger fraction is no smaller.
use mathlib.Core.Path.{◌≡◌, refl, ◌∙◌}
use mathlib.Core.Bool.{Bool, true, false, not, ◌||◌}
use Prim.Native.Nat.{ℕ, ◌+◌, ◌*◌, ◌≤◌, ◌<◌}
use native.Mathlib.Nat.{mul_comm, mul-pos, add-mul, mul_assoc, mul_left_comm, mul-le-mul_right}
use native.Mathlib.Omega.{arith}
use lib.IntN.{pos}
use lib.Dec.{T}
use lib.Count.{count_trailing_zeros}
use lib.Ieee.{Float, nan, inf, fin, Format, binary32, binary64, span, climb, size, odd, units, round, neg, add, le}
use lib.Ieee.Order.{round_mono}
use lib.Ieee.Scale.{round_same, finite}
use lib.Ieee.Positive.{den, den_pos}
use Rattle.floatlaws.proofs.Signed.{plus, minus, round-neg, signed, signed_more, signed_less, signed_same, add_is, Three, more, less, same, three, finite_neg, plus_neg, minus_neg, den_neg, Under, le→under, under→le}

-- ---- zero of either sign, and one
abbrev pub zero_of : Bool → Float
zero_of s = fin s 0 (pos 0)

round-zero-one : (f : Format) (s : Bool) → round f s 0 1 ≡ zero_of s
unfolding round size span climb units odd
round-zero-one binary32 s = refl
round-zero-one binary64 s = refl

pub round-zero : (f : Format) (s : Bool) (c : ℕ) → 0 < c → round f s 0 c ≡ zero_of s
round-zero f s c h = round_same f s 0 c 0 1 h (omega arith) (omega arith) ∙ round-zero-one f s

round-one-one : (f : Format) (s : Bool) → round f s 1 1 ≡ fin s 1 (pos 0)
unfolding round size span climb units odd count_trailing_zeros
round-one-one binary32 s = refl
round-one-one binary64 s = refl

pub round-one : (f : Format) (s : Bool) (c : ℕ) → 0 < c → round f s c c ≡ fin s 1 (pos 0)
round-one f s c h = round_same f s c c 1 1 h (omega arith) (omega arith) ∙ round-one-one f s

-- ---- the order turned by `neg`
under_neg : (x y : Float) → Under x y → Under (neg y) (neg x)
under_neg x y h = rw (plus_neg x, plus_neg y, minus_neg x, minus_neg y, den_neg x, den_neg y) (omega arith)

pub le-neg : (x y : Float) → T (le x y) → T (le (neg y) (neg x))
le-neg nan y h = absurd (unfold le in h)
le-neg (inf s) nan h = absurd (no s (unfold le in h))
  where
    no : (s : Bool) → T (false || false) → ⊥
    no s h = h
le-neg (inf true) (inf true) h = unfold le neg in tt
le-neg (inf true) (inf false) h = unfold le neg in tt
le-neg (inf false) (inf true) h = absurd (unfold le in h)
le-neg (inf false) (inf false) h = unfold le neg in tt
le-neg (inf true) (fin t n d) h = unfold le neg in tt
le-neg (inf false) (fin t n d) h = absurd (unfold le in h)
le-neg (fin s m e) nan h = absurd (unfold le in h)
le-neg (fin s m e) (inf true) h = absurd (unfold le in h)
le-neg (fin s m e) (inf false) h = unfold le neg in tt
le-neg (fin s m e) (fin t n d) h =
    under→le (neg (fin t n d)) (neg (fin s m e)) (finite_neg (fin t n d) tt) (finite_neg (fin s m e) tt) (under_neg (fin s m e) (fin t n d) (le→under (fin s m e) (fin t n d) tt tt h))

-- ---- not below zero
abbrev pub AtLeastZero : Float → Type 0
AtLeastZero x = T (le (zero_of false) x)

pub positive_part : (x : Float) → T (finite x) → AtLeastZero x → minus x ≤ plus x
positive_part x p h = omega (arith, le→under (zero_of false) x tt p h)

pub zero_at_least : (s : Bool) → AtLeastZero (zero_of s)
unfolding le
zero_at_least true = tt
zero_at_least false = tt

pub round_at_least : (f : Format) (a c : ℕ) → 0 < c → AtLeastZero (round f false a c)
round_at_least f a c h = rw (round-zero-one f false) at (round_mono f 0 1 a c (omega arith) h (omega arith))

-- ---- what is not above zero is below what is not below zero
under_over : (x y : Float) → minus x ≤ plus x → minus y ≤ plus y → Under (neg x) y
under_over x y h k = rw (plus_neg x, minus_neg x, den_neg x) (omega (arith, mul-le-mul_right (den y) h, mul-le-mul_right (den x) k))

pub neg-le : (x y : Float) → AtLeastZero x → AtLeastZero y → T (le (neg x) y)
neg-le nan y h k = absurd (unfold le in h)
neg-le (inf true) y h k = absurd (unfold le in h)
neg-le (inf false) nan h k = absurd (unfold le in k)
neg-le (inf false) (inf true) h k = absurd (unfold le in k)
neg-le (inf false) (inf false) h k = unfold le neg in tt
neg-le (inf false) (fin t n d) h k = unfold le neg in tt
neg-le (fin s m e) nan h k = absurd (unfold le in k)
neg-le (fin s m e) (inf true) h k = absurd (unfold le in k)
neg-le (fin s m e) (inf false) h k = unfold le neg in tt
neg-le (fin s m e) (fin t n d) h k =
    under→le (neg (fin s m e)) (fin t n d) (finite_neg (fin s m e) tt) tt (under_over (fin s m e) (fin t n d) (positive_part (fin s m e) tt h) (positive_part (fin t n d) tt k))

zero-neg : (s : Bool) → zero_of s ≡ neg (zero_of (not s))
unfolding neg
zero-neg true = refl
zero-neg false = refl

-- ---- (p - n) / c ≤ (p' - n') / c'
gap : (p n c d p' n' c' d' : ℕ) → p * c' + n' * c ≤ p' * c + n * c' → p ≡ n + d → p' ≡ n' + d' → d * c' ≤ d' * c
gap p n c d p' n' c' d' h e e' = omega (arith, simp (e, e', add-mul) at h)

apart : (p n c d p' n' c' : ℕ) → 0 < c' → p * c' + n' * c ≤ p' * c + n * c' → p ≡ n + d → 0 < d → p' ≤ n' → ⊥
apart p n c d p' n' c' C h e z k = omega (arith, simp (e, add-mul) at h, mul-le-mul_right c k, mul-pos z C)

pub signed_mono : (f : Format) (s t : Bool) (p n c p' n' c' : ℕ) → 0 < c → 0 < c' → p * c' + n' * c ≤ p' * c + n * c' → T (le (signed f s p n c) (signed f t p' n' c'))
signed_mono f s t p n c p' n' c' C C' h = go (three p n) (three p' n')
  where
    go : Three p n → Three p' n' → T (le (signed f s p n c) (signed f t p' n' c'))
    go (more d e z) (more d' e' z') = rw (signed_more f s p n c d e z, signed_more f t p' n' c' d' e' z') (round_mono f d c d' c' C C' (gap p n c d p' n' c' d' h e e'))
    go (more d e z) (less d' e' z') = absurd (apart p n c d p' n' c' C' h e z (omega arith))
    go (more d e z) (same e') = absurd (apart p n c d p' n' c' C' h e z (omega arith))
    go (less d e z) (more d' e' z') = rw (signed_less f s p n c d e z, signed_more f t p' n' c' d' e' z', round-neg f false d c) (neg-le _ _ (round_at_least f d c C) (round_at_least f d' c' C'))
    go (less d e z) (less d' e' z') =
        rw (signed_less f s p n c d e z, signed_less f t p' n' c' d' e' z', round-neg f false d c, round-neg f false d' c')
        (le-neg _ _ (round_mono f d' c' d c C' C (gap n' p' c' d' n p c d (omega arith) e' e)))
    go (less d e z) (same e') = rw (signed_less f s p n c d e z, signed_same f t p' n' c' e', round-neg f false d c, round-zero f t c' C') (neg-le _ _ (round_at_least f d c C) (zero_at_least t))
    go (same e) (more d' e' z') = rw (signed_same f s p n c e, signed_more f t p' n' c' d' e' z', round-zero f s c C, zero-neg s) (neg-le _ _ (zero_at_least (not s)) (round_at_least f d' c' C'))
    go (same e) (less d' e' z') = absurd (apart n' p' c' d' n p c C (omega arith) e' z' (omega arith))
    go (same e) (same e') = rw (signed_same f s p n c e, signed_same f t p' n' c' e', round-zero f s c C, round-zero f t c' C', zero-neg s) (neg-le _ _ (zero_at_least (not s)) (zero_at_least t))

-- ---- sums
spread : (Pa Ma A Pb Mb B Px Mx X : ℕ) → Pa * B + Mb * A ≤ Pb * A + Ma * B →
    (Pa * X + Px * A) * (B * X) + (Mb * X + Mx * B) * (A * X) ≤ (Pb * X + Px * B) * (A * X) + (Ma * X + Mx * A) * (B * X)
spread Pa Ma A Pb Mb B Px Mx X h =
    let k = simp (add-mul, mul_assoc, mul_comm) at (mul-le-mul_right (X * X) h) in
    simp (add-mul, mul_assoc, mul_comm, mul_left_comm) (omega arith)

pub add_finite_mono : (f : Format) (a b x : Float) → T (finite a) → T (finite b) → T (finite x) → T (le a b) → T (le (add f a x) (add f b x))
add_finite_mono f a b x p q r h =
    rw (add_is f a x p r, add_is f b x q r)
    (signed_mono f _ _ _ _ _ _ _ _ (mul-pos (den_pos a) (den_pos x)) (mul-pos (den_pos b) (den_pos x))
    (spread (plus a) (minus a) (den a) (plus b) (minus b) (den b) (plus x) (minus x) (den x) (le→under a b p q h)))
