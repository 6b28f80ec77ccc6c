-- The quotient of a span keeps order: of two values in the span the larger has a quotient that is no smaller.
use mathlib.Core.Path.{◌≡◌}
use mathlib.Core.Bool.{true, false}
use Prim.Native.Nat.{ℕ, ◌+◌, ◌*◌, ◌≤◌, ◌<◌}
use native.Mathlib.Nat.{zero-mul, mul_comm, mul_assoc, mul_left_comm, mul-le-mul_right, le_of_mul-le-mul_right}
use native.Mathlib.Omega.{arith}
use lib.IntN.{ℤ}
use lib.Dec.{T, eqb}
use lib.Ieee.{Float, nan, inf, fin, Format, up, down, sub, div, le}
use lib.Ieee.Fits.{down_pos}
use lib.Ieee.Order.{round_mono}
use lib.Ieee.Scale.{finite}
use Rattle.floats.specs.Values.{is_zero}
use Rattle.floatlaws.proofs.Signed.{le→under}
use Rattle.floatlaws.proofs.Order.{zero_of, round-zero, AtLeastZero, positive_part, zero_at_least, round_at_least}
use Rattle.floatlaws.proofs.Comparison.{finite_number, between_finite, le_chain}
use Rattle.floatlaws.proofs.Monotone.{sub_mono_finite}
use Rattle.floatlaws.proofs.Spans.{div_is, gone, nothing_share, above_zero, from_left}

vanish : (a c b : ℕ) → 0 < c → a * c + b ≤ 0 → a ≤ 0
vanish a c b C h = le_of_mul-le-mul_right {k = c} (omega (arith, zero-mul c)) C

zero_low : (z : Float) → AtLeastZero z → T (le (zero_of true) z)
zero_low z h = le_chain (zero_of true) (zero_of false) z (unfold le in tt) h

crossed : (X e Y i K g : ℕ) → X * i ≤ Y * e → X * g * (K * i) ≤ Y * g * (K * e)
crossed X e Y i K g h = simp (mul_assoc, mul_comm, mul_left_comm) (simp (mul_assoc, mul_comm) at (mul-le-mul_right (g * K) h))

module _ (f : Format) (k : ℕ) (g : ℤ) (z : eqb k 0 ≡ false) where
  low : (n : Float) → T (finite n) → AtLeastZero n → AtLeastZero (div f n (fin false k g))
  low nan p h = absurd p
  low (inf s) p h = absurd p
  low (fin true m e) p h = rw (nothing_share f m e k g z (positive_part (fin true m e) tt h)) (zero_at_least true)
  low (fin false m e) p h = rw (div_is f false m e false k g z) (round_at_least f (m * up e * down g) (k * up g * down e) (above_zero k g (down e) z (down_pos e)))

  ordered : (n n' : Float) → T (finite n) → T (finite n') → AtLeastZero n → AtLeastZero n' → T (le n n') → T (le (div f n (fin false k g)) (div f n' (fin false k g)))
  ordered nan n' p q h i l = absurd p
  ordered (inf s) n' p q h i l = absurd p
  ordered (fin s m e) nan p q h i l = absurd q
  ordered (fin s m e) (inf t) p q h i l = absurd q
  ordered (fin true m e) (fin t n d) p q h i l = rw (nothing_share f m e k g z (positive_part (fin true m e) tt h)) (zero_low (div f (fin t n d) (fin false k g)) (low (fin t n d) tt i))
  ordered (fin false m e) (fin true n d) p q h i l =
      let v = vanish (m * up e) (down d) (n * up d * down e) (down_pos d) (simp zero-mul at (le→under (fin false m e) (fin true n d) tt tt l)) in
      rw (div_is f false m e false k g z, gone (m * up e) (down g) v, round-zero f false (k * up g * down e) (above_zero k g (down e) z (down_pos e))) (low (fin true n d) tt i)
  ordered (fin false m e) (fin false n d) p q h i l =
      rw (div_is f false m e false k g z, div_is f false n d false k g z)
      (round_mono f (m * up e * down g) (k * up g * down e) (n * up d * down g) (k * up g * down d) (above_zero k g (down e) z (down_pos e)) (above_zero k g (down d) z (down_pos d))
      (crossed (m * up e) (down e) (n * up d) (down d) (k * up g) (down g) (omega (arith, le→under (fin false m e) (fin false n d) tt tt l))))

pub share_mono : (f : Format) (n n' d : Float) → T (finite n) → T (finite n') → T (finite d) → is_zero d ≡ false → AtLeastZero d → AtLeastZero n → AtLeastZero n' → T (le n n') → T (le (div f n d) (div f n' d))
share_mono f n n' nan p q r z w h i l = absurd r
share_mono f n n' (inf s) p q r z w h i l = absurd r
share_mono f n n' (fin true k g) p q r z w h i l = absurd (omega (arith, positive_part (fin true k g) tt w, above_zero k g 1 z (omega arith)))
share_mono f n n' (fin false k g) p q r z w h i l = ordered f k g z n n' p q h i l

-- THEOREM: for l ≤ x ≤ y ≤ r the quotient of x is at most that of y
pub quotient_mono : (f : Format) (l r : Float) (p : T (finite l)) (q : T (finite r)) (z : is_zero (sub f r l) ≡ false) (d : T (finite (sub f r l)))
    → (x y : Float) → T (le l x) → T (le x y) → T (le y r) → T (le (div f (sub f x l) (sub f r l)) (div f (sub f y l) (sub f r l)))
quotient_mono f l r p q z d x y h k i =
    let fx = between_finite l x r p q h (le_chain x y r k i) in
    let fy = between_finite l y r p q (le_chain l x y h k) i in
    let lr = le_chain l y r (le_chain l x y h k) i in
    let nl = finite_number l p in
    let ax = from_left f l x p fx h in
    let ay = from_left f l y p fy (le_chain l x y h k) in
    let ar = from_left f l r p q lr in
    let mx = sub_mono_finite f x r l fx q nl (le_chain x y r k i) in
    let my = sub_mono_finite f y r l fy q nl i in
    share_mono f (sub f x l) (sub f y l) (sub f r l)
    (between_finite (zero_of false) (sub f x l) (sub f r l) tt d ax mx) (between_finite (zero_of false) (sub f y l) (sub f r l) tt d ay my)
    d z ar ax ay (sub_mono_finite f x y l fx fy nl k)
