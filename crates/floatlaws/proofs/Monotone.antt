-- Sums and differences keep order, whatever the values, as long as no NaN comes of it. A difference above t ≥ 0 tells the order of its terms.
use mathlib.Core.Path.{◌≡◌, refl}
use mathlib.Core.Bool.{Bool, true, false}
use Prim.Native.Nat.{ℕ, zero, suc, ◌<◌}
use native.Mathlib.Nat.{zero-mul, mul-pos}
use native.Mathlib.Omega.{arith}
use lib.Dec.{T, eqb-suc-zero}
use lib.Ieee.{Float, nan, inf, fin, Format, round, neg, add, sub, is_nan, lt, le}
use lib.Ieee.Scale.{finite}
use lib.Ieee.Positive.{den_pos}
use Rattle.floats.specs.Values.{is_zero}
use Rattle.floatlaws.proofs.Signed.{round-neg, signed, signed_less, signed_same, sub_is, finite_neg, Three, more, less, same, three, below→lt, under→le}
use Rattle.floatlaws.proofs.Comparison.{Number, least, greatest, le_self, le-number, finite_number, le_chain, lt_not_le}
use Rattle.floatlaws.proofs.Order.{zero_of, round-zero, le-neg, AtLeastZero, round_at_least, neg-le, add_finite_mono}
use Rattle.floatlaws.proofs.Differences.{add_either}

-- THEOREM: a sum grows with its terms
pub add_mono : (f : Format) (a b x : Float) → T (le a b) → Number (add f a x) → Number (add f b x) → T (le (add f a x) (add f b x))
unfolding add
add_mono f nan b x h p q = absurd (unfold le in h)
add_mono f (inf true) b nan h p q = absurd (unfold add is_nan in p)
add_mono f (inf true) b (inf true) h p q = least (add f b (inf true)) q
add_mono f (inf true) b (inf false) h p q = absurd (unfold add is_nan in p)
add_mono f (inf true) b (fin u k g) h p q = least (add f b (fin u k g)) q
add_mono f (inf false) nan x h p q = absurd (unfold le in h)
add_mono f (inf false) (inf true) x h p q = absurd (unfold le in h)
add_mono f (inf false) (inf false) x h p q = le_self (add f (inf false) x) p
add_mono f (inf false) (fin t n d) x h p q = absurd (unfold le in h)
add_mono f (fin s m e) nan x h p q = absurd (unfold le in h)
add_mono f (fin s m e) (inf true) x h p q = absurd (unfold le in h)
add_mono f (fin s m e) (inf false) nan h p q = absurd (unfold add is_nan in p)
add_mono f (fin s m e) (inf false) (inf true) h p q = absurd (unfold add is_nan in q)
add_mono f (fin s m e) (inf false) (inf false) h p q = greatest (add f (fin s m e) (inf false)) p
add_mono f (fin s m e) (inf false) (fin u k g) h p q = greatest (add f (fin s m e) (fin u k g)) p
add_mono f (fin s m e) (fin t n d) nan h p q = absurd (unfold add is_nan in p)
add_mono f (fin s m e) (fin t n d) (inf u) h p q = le_self (add f (fin s m e) (inf u)) p
add_mono f (fin s m e) (fin t n d) (fin u k g) h p q = add_finite_mono f (fin s m e) (fin t n d) (fin u k g) tt tt tt h

-- THEOREM: a difference grows with its first term, and shrinks as its second grows
pub sub_mono : (f : Format) (a b x : Float) → T (le a b) → Number (sub f a x) → Number (sub f b x) → T (le (sub f a x) (sub f b x))
unfolding sub
sub_mono f a b x h p q = add_mono f a b (neg x) h p q

pub sub_anti : (f : Format) (a b x : Float) → T (le a b) → Number (sub f x a) → Number (sub f x b) → T (le (sub f x b) (sub f x a))
unfolding sub
sub_anti f a b x h p q =
    rw (add_either f x (neg b), add_either f x (neg a))
    (add_mono f (neg b) (neg a) x (le-neg a b h) (rw (add_either f x (neg b)) at q) (rw (add_either f x (neg a)) at p))

-- ---- where no NaN comes of it: one of the two is finite, and the other not a NaN
pub add-number : (f : Format) (a x : Float) → T (finite a) → Number x → Number (add f a x)
add-number f nan x p q = absurd p
add-number f (inf s) x p q = absurd p
add-number f (fin s m e) nan p q = absurd (unfold is_nan in q)
add-number f (fin s m e) (inf t) p q = unfold add is_nan in tt
add-number f (fin s m e) (fin t n d) p q = (le-number _ _ (add_finite_mono f (fin s m e) (fin s m e) (fin t n d) tt tt tt (le_self (fin s m e) (finite_number (fin s m e) tt)))).0

neg-number : (x : Float) → Number x → Number (neg x)
unfolding neg is_nan
neg-number nan h = absurd h
neg-number (inf s) h = tt
neg-number (fin s m e) h = tt

-- a finite value less any number, and any number less a finite value
pub sub_number : (f : Format) (a x : Float) → T (finite a) → Number x → Number (sub f a x)
unfolding sub
sub_number f a x p q = add-number f a (neg x) p (neg-number x q)

pub sub_number' : (f : Format) (a x : Float) → T (finite a) → Number x → Number (sub f x a)
unfolding sub
sub_number' f a x p q = rw (add_either f x (neg a)) (add-number f (neg a) x (finite_neg a p) q)

-- THEOREM: for finite a ≤ b and any x that is not a NaN
pub sub_mono_finite : (f : Format) (a b x : Float) → T (finite a) → T (finite b) → Number x → T (le a b) → T (le (sub f a x) (sub f b x))
sub_mono_finite f a b x p q r h = sub_mono f a b x h (sub_number f a x p r) (sub_number f b x q r)

pub sub_anti_finite : (f : Format) (a b x : Float) → T (finite a) → T (finite b) → Number x → T (le a b) → T (le (sub f x b) (sub f x a))
sub_anti_finite f a b x p q r h = sub_anti f a b x h (sub_number' f a x p r) (sub_number' f b x q r)

-- the difference as `signed` has it
settle : (f : Format) (t : Float) (s : Bool) (p n c : ℕ) → 0 < c → AtLeastZero t → T (lt t (signed f s p n c)) → n < p
settle f t s p n c C z h = go (three p n)
  where
    low : (s : Bool) → T (le (round f s 0 c) t)
    low true = rw (round-neg f false 0 c) (neg-le (round f false 0 c) t (round_at_least f 0 c C) z)
    low false = rw (round-zero f false c C) z

    go : Three p n → n < p
    go (more d e k) = omega arith
    go (less d e k) = absurd (lt_not_le t (neg (round f false d c)) (rw (signed_less f s p n c d e k, round-neg f false d c) at h) (neg-le (round f false d c) t (round_at_least f d c C) z))
    go (same e) = absurd (lt_not_le t (round f s 0 c) (rw (signed_same f s p n c e) at h) (low s))

finite_apart : (f : Format) (a b t : Float) → T (finite a) → T (finite b) → AtLeastZero t → T (lt t (sub f b a)) → T (lt a b)
finite_apart f a b t p q z h = below→lt a b p q (omega (arith, settle f t _ _ _ _ (mul-pos (den_pos b) (den_pos a)) z (rw (sub_is f b a q p) at h)))

above_nan : (x : Float) → T (lt x nan) → ⊥
unfolding lt
above_nan nan h = h
above_nan (inf s) h = h
above_nan (fin s m e) h = h

above-least : (x : Float) → T (lt x (inf true)) → ⊥
unfolding lt
above-least nan h = h
above-least (inf true) h = h
above-least (inf false) h = h
above-least (fin s m e) h = h

-- THEOREM: b - a above t ≥ 0 says a < b; nothing is asked of a and b
pub apart : (f : Format) (a b t : Float) → AtLeastZero t → T (lt t (sub f b a)) → T (lt a b)
apart f nan nan t z h = absurd (above_nan t (unfold sub add neg in h))
apart f nan (inf v) t z h = absurd (above_nan t (unfold sub add neg in h))
apart f nan (fin v n d) t z h = absurd (above_nan t (unfold sub add neg in h))
apart f (inf true) nan t z h = absurd (above_nan t (unfold sub add neg in h))
apart f (inf true) (inf true) t z h = absurd (above_nan t (unfold sub add neg in h))
apart f (inf true) (inf false) t z h = unfold lt in tt
apart f (inf true) (fin v n d) t z h = unfold lt in tt
apart f (inf false) nan t z h = absurd (above_nan t (unfold sub add neg in h))
apart f (inf false) (inf true) t z h = absurd (above-least t (unfold sub add neg in h))
apart f (inf false) (inf false) t z h = absurd (above_nan t (unfold sub add neg in h))
apart f (inf false) (fin v n d) t z h = absurd (above-least t (unfold sub add neg in h))
apart f (fin s m e) nan t z h = absurd (above_nan t (unfold sub add neg in h))
apart f (fin s m e) (inf true) t z h = absurd (above-least t (unfold sub add neg in h))
apart f (fin s m e) (inf false) t z h = unfold lt in tt
apart f (fin s m e) (fin v n d) t z h = finite_apart f (fin s m e) (fin v n d) t tt tt z h

-- what exceeds t ≥ 0 isn't zero
pub nonzero : (t y : Float) → AtLeastZero t → T (lt t y) → is_zero y ≡ false
nonzero t nan z h = refl
nonzero t (inf s) z h = refl
nonzero t (fin s zero e) z h = absurd (lt_not_le t (fin s 0 e) h (le_chain (fin s 0 e) (zero_of false) t (null s) z))
  where
    null : (s : Bool) → T (le (fin s 0 e) (zero_of false))
    null true = under→le (fin true 0 e) (zero_of false) tt tt (simp zero-mul (omega arith))
    null false = under→le (fin false 0 e) (zero_of false) tt tt (simp zero-mul (omega arith))
nonzero t (fin s (suc m) e) z h = eqb-suc-zero m
