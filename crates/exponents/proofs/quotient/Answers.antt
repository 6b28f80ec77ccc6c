use mathlib.Core.Path.{◌∙◌, ap₂}
use Prim.Native.Nat.{◌*◌, ℕ, ◌<◌, ◌^◌}
use native.Mathlib.Omega.{arith}
use lib.IntN.{◌*ℤ◌, ℤ, nat_abs, pos}
use lib.Signed.{lt_z}
use Rattle.exponents.proofs.Size.{cross, product-fits}
use Rattle.exponents.proofs.WithSign.{sign_abs, mul_signs}
use Rattle.exponents.proofs.Ranged.{inverse_num, inverse_den}
use Rattle.exponents.specs.Fractions.{mul, div, lowest, ranged}
use Rattle.exponents.specs.Held.{with_sign, xor}
use Rattle.exponents.proofs.quotient.Goals as goal

pub overflow_mul-m : goal.overflow_mul-m
overflow_mul-m c = record { fits = omega (arith, cross c.top.ensures.1 c.bottom.ensures.1) }

pub overflow_mul-d : goal.overflow_mul-d
overflow_mul-d c =
    let k : c.top-2.result < 2 ^ 32 = omega (arith, c.top-2.ensures.1) in
    product-fits c.bottom-2.ensures.1 k

pub returns : goal.returns
unfolding div mul
returns c =
    let a = c.args in
    c.reduced.ensures
    ∙ ap₂ (λ (z : ℤ) (d : ℕ). ranged (lowest z d))
    (ap₂ with_sign (c.unlike-s.ensures ∙ ap₂ xor c.below.ensures c.below-2.ensures) (ap₂ ◌*◌ c.top.ensures.0 c.bottom.ensures.0)
    ∙ mul_signs (lt_z a.x.num (pos 0)) (lt_z a.y.num (pos 0)) (nat_abs a.x.num) a.y.den
    ∙ ap₂ ◌*ℤ◌ (sign_abs a.x.num) (inverse_num a.y))
    (ap₂ ◌*◌ c.bottom-2.ensures.0 (c.top-2.ensures.0 ∙ inverse_den a.y))
