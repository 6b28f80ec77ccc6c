-- A key's numbers fit 64 signed bits: exponents in range give numbers of at most 2147483647² in magnitude.
use mathlib.Core.Path.{◌≡◌, sym, ◌∙◌, ap, subst}
use mathlib.Core.Bool.{Bool}
use mathlib.Core.List.{List, [], ◌∷◌}
use Prim.Native.Nat.{ℕ, ◌/◌, ◌≤◌}
use native.Mathlib.Nat.{mul-le-mul, div-le_self, le_trans}
use native.Mathlib.Omega.{arith}
use lib.IntN.{ℤ, pos, negsuc, nat_abs}
use lib.Signed.{quot_z, lt_z}
use mir.Syntax.{w64}
use mir.Val.{SFits}
use Rattle.exponents.specs.Fractions.{most}
use Rattle.exponents.specs.Held.{xor}
use Rattle.exponents.specs.declared.Exponent.{Exponent}
use Rattle.exponents.proofs.Exact.{nat_abs_scale}
use Rattle.exponents.proofs.Holds.{Holds, held, holds_map, holds_bind}
use Rattle.exponents.proofs.InRange.{InRange}
use Rattle.exponents.proofs.WithSign.{nat_abs_sign, sign_abs}
use Rattle.keys.specs.Key.{multiple, whole, wholes, turn, shrink, reduce, key}
use Rattle.exponents.specs.Words.{All}
use Rattle.keys.proofs.KeyLaws.{Denominator, lcm_range, turn_quot}

abbrev pub Fits : ℤ → Type 0
Fits z = nat_abs z ≤ 4611686014132420609

pub fits_64 : (z : ℤ) → Fits z → SFits w64 z
fits_64 (pos n) h = record { sfits = omega arith }
fits_64 (negsuc n) h = record { sfits = omega arith }

pub multiple_range : (m : ℕ) (d : List Exponent) → Denominator m → Holds Denominator (multiple m d)
unfolding multiple
multiple_range m [] h = held h
multiple_range m (x ∷ d) h = holds_bind _ (lcm_range m x.den) λ n p. multiple_range n d p

whole-fits : (m : ℕ) (x : Exponent) → m ≤ most → InRange x → Fits (whole m x)
unfolding whole
whole-fits m x h r = subst (λ t. t ≤ 4611686014132420609) (sym (nat_abs_scale x.num (m / x.den))) (mul-le-mul r.numerator (le_trans (div-le_self m x.den) h))

wholes_fit : (m : ℕ) (d : List Exponent) → m ≤ most → All InRange d → All Fits (wholes m d)
unfolding wholes
wholes_fit m [] h r = tt
wholes_fit m (x ∷ d) h r = (whole-fits m x h r.0, wholes_fit m d h r.1)

quot_size : (s : Bool) (w : ℤ) (g : ℕ) → nat_abs (quot_z (turn s w) (pos g)) ≡ nat_abs w / g
quot_size s w g =
    ap (λ z. nat_abs (quot_z (turn s z) (pos g))) (sym (sign_abs w))
    ∙ ap nat_abs (sym (turn_quot s (lt_z w (pos 0)) (nat_abs w) g))
    ∙ nat_abs_sign (xor s (lt_z w (pos 0))) (nat_abs w / g)

shrink_fit : (s : Bool) (g : ℕ) (ws : List ℤ) → All Fits ws → All Fits (shrink s g ws)
unfolding shrink
shrink_fit s g [] h = tt
shrink_fit s g (w ∷ ws) h = (subst (λ t. t ≤ 4611686014132420609) (sym (quot_size s w g)) (le_trans (div-le_self (nat_abs w) g) h.0), shrink_fit s g ws h.1)

-- THEOREM
pub key_fits : (d : List Exponent) → All InRange d → Holds (λ k. All Fits k) (key d)
unfolding key reduce
key_fits d r = holds_map _ (multiple_range 1 d (omega arith, omega arith)) λ m p. shrink_fit _ _ _ (wholes_fit m d p.1 r)
