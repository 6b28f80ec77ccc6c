-- A sum in either order; a difference turned round.
use mathlib.Core.Path.{◌≡◌, refl, sym, ap, ◌∙◌}
use mathlib.Core.Bool.{Bool, true, false, not, ◌&&◌, and_comm, and-not_self, true≢false, false≢true}
use Prim.Native.Nat.{ℕ, ◌*◌}
use native.Mathlib.Nat.{add_comm, mul_comm, mul-pos}
use native.Mathlib.Omega.{arith}
use lib.Dec.{T}
use lib.Ieee.{Float, nan, inf, fin, Format, neg, add, sub, eq}
use lib.Ieee.Scale.{finite}
use lib.Ieee.Positive.{den, den_pos}
use Rattle.floats.specs.Values.{abs_of}
use Rattle.floatlaws.proofs.Signed.{sign, plus, minus, round-neg, signed, signed_more, signed_less, signed_same, add_is, sub_is, Three, more, less, same, three, even→eq, eq→even}
use Rattle.floatlaws.proofs.Order.{zero_of, round-zero}

-- THEOREM: the same value in either order, a NaN and the sign of a zero included
pub add_either : (f : Format) (x y : Float) → add f x y ≡ add f y x
add_either f nan nan = unfold add in refl
add_either f nan (inf t) = unfold add in refl
add_either f nan (fin t n d) = unfold add in refl
add_either f (inf s) nan = unfold add in refl
add_either f (inf true) (inf true) = unfold add in refl
add_either f (inf true) (inf false) = unfold add in refl
add_either f (inf false) (inf true) = unfold add in refl
add_either f (inf false) (inf false) = unfold add in refl
add_either f (inf s) (fin t n d) = unfold add in refl
add_either f (fin s m e) nan = unfold add in refl
add_either f (fin s m e) (inf t) = unfold add in refl
add_either f (fin s m e) (fin t n d) = both (fin s m e) (fin t n d) tt tt
  where
    both : (x y : Float) → T (finite x) → T (finite y) → add f x y ≡ add f y x
    both x y p q =
        add_is f x y p q
        ∙ rw (and_comm (sign x) (sign y), add_comm (plus x * den y) (plus y * den x), add_comm (minus x * den y) (minus y * den x), mul_comm (den x) (den y)) (sym (add_is f y x q p))

-- ---- a difference turned round
signed_turned : (f : Format) (s t : Bool) (p n c : ℕ) → (p ≡ n → ⊥) → signed f s p n c ≡ neg (signed f t n p c)
signed_turned f s t p n c h = go (three p n)
  where
    go : Three p n → signed f s p n c ≡ neg (signed f t n p c)
    go (more d e z) = signed_more f s p n c d e z ∙ round-neg f true d c ∙ ap neg (sym (signed_less f t n p c d e z))
    go (less d e z) = signed_less f s p n c d e z ∙ round-neg f false d c ∙ ap neg (sym (signed_more f t n p c d e z))
    go (same e) = absurd (h e)

finite_turned : (f : Format) (x y : Float) → T (finite x) → T (finite y) → eq x y ≡ false → sub f x y ≡ neg (sub f y x)
finite_turned f x y p q h =
    rw (sub_is f x y p q, sub_is f y x q p, mul_comm (den y) (den x), add_comm (plus y * den x) (minus x * den y), add_comm (minus y * den x) (plus x * den y))
    (signed_turned f _ _ _ _ _ (λ e. true≢false (sym (even→eq x y p q (omega arith)) ∙ h)))

-- THEOREM: values that differ have differences that are each other's negative
pub sub_turned : (f : Format) (x y : Float) → eq x y ≡ false → sub f x y ≡ neg (sub f y x)
sub_turned f nan nan h = unfold sub add neg in refl
sub_turned f nan (inf t) h = unfold sub add neg in refl
sub_turned f nan (fin t n d) h = unfold sub add neg in refl
sub_turned f (inf s) nan h = unfold sub add neg in refl
sub_turned f (inf true) (inf true) h = absurd (true≢false (unfold eq in h))
sub_turned f (inf true) (inf false) h = unfold sub add neg in refl
sub_turned f (inf false) (inf true) h = unfold sub add neg in refl
sub_turned f (inf false) (inf false) h = absurd (true≢false (unfold eq in h))
sub_turned f (inf true) (fin t n d) h = unfold sub add neg in refl
sub_turned f (inf false) (fin t n d) h = unfold sub add neg in refl
sub_turned f (fin s m e) nan h = unfold sub add neg in refl
sub_turned f (fin s m e) (inf t) h = unfold sub add neg in refl
sub_turned f (fin s m e) (fin t n d) h = finite_turned f (fin s m e) (fin t n d) tt tt h

-- THEOREM: finite values that are equal differ by +0, but -0 - +0 is -0
pub sub-equal : (f : Format) (x y : Float) → T (finite x) → T (finite y) → eq x y ≡ true → sub f x y ≡ zero_of (sign x && not (sign y))
sub-equal f x y p q h =
    sub_is f x y p q ∙ signed_same f _ _ _ _ (let k = eq→even x y p q (rw h tt) in omega arith) ∙ round-zero f _ _ (mul-pos (den_pos x) (den_pos y))

pub eq_self : (x : Float) → T (finite x) → eq x x ≡ true
eq_self x p = even→eq x x p p refl

pub sub_self : (f : Format) (x : Float) → T (finite x) → sub f x x ≡ zero_of false
sub_self f x p = rw (sub-equal f x x p p (eq_self x p), and-not_self (sign x))

abs_neg : (x : Float) → abs_of (neg x) ≡ abs_of x
unfolding neg
abs_neg nan = refl
abs_neg (inf s) = refl
abs_neg (fin s m e) = refl

-- THEOREM: the magnitude of a difference is the same either way, for all values
pub sub_distance : (f : Format) (x y : Float) → abs_of (sub f x y) ≡ abs_of (sub f y x)
sub_distance f x y = go (eq x y) refl
  where
    equal : (x y : Float) → eq x y ≡ true → abs_of (sub f x y) ≡ abs_of (sub f y x)
    equal nan y h = absurd (false≢true (unfold eq in h))
    equal (inf s) nan h = absurd (false≢true (unfold eq in h))
    equal (inf true) (inf true) h = refl
    equal (inf true) (inf false) h = absurd (false≢true (unfold eq in h))
    equal (inf false) (inf true) h = absurd (false≢true (unfold eq in h))
    equal (inf false) (inf false) h = refl
    equal (inf s) (fin t n d) h = absurd (false≢true (unfold eq in h))
    equal (fin s m e) nan h = absurd (false≢true (unfold eq in h))
    equal (fin s m e) (inf t) h = absurd (false≢true (unfold eq in h))
    equal (fin s m e) (fin t n d) h =
        let k = eq→even (fin s m e) (fin t n d) tt tt (rw h tt) in
        ap abs_of (sub-equal f (fin s m e) (fin t n d) tt tt h) ∙ sym (ap abs_of (sub-equal f (fin t n d) (fin s m e) tt tt (even→eq (fin t n d) (fin s m e) tt tt (sym k))))

    go : (b : Bool) → eq x y ≡ b → abs_of (sub f x y) ≡ abs_of (sub f y x)
    go true h = equal x y h
    go false h = ap abs_of (sub_turned f x y h) ∙ abs_neg (sub f y x)
