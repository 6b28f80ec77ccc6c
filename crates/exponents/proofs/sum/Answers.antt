use mathlib.Core.Path.{◌∙◌, ap₂}
use Prim.Native.Nat.{◌*◌, ℕ}
use native.Mathlib.Omega.{arith}
use lib.IntN.{◌+ℤ◌, ℤ}
use Rattle.exponents.proofs.Size.{cross, product-fits}
use Rattle.exponents.proofs.WithSign.{sign_scale}
use Rattle.exponents.specs.Fractions.{add, lowest, ranged}
use Rattle.exponents.specs.Held.{with_sign}
use Rattle.exponents.proofs.sum.Goals as goal

pub overflow_mul-p : goal.overflow_mul-p
overflow_mul-p c = record { fits = omega (arith, cross c.top.ensures.1 c.bottom.ensures.1) }

pub overflow_mul-q : goal.overflow_mul-q
overflow_mul-q c = record { fits = omega (arith, cross c.top-2.ensures.1 c.bottom-2.ensures.1) }

pub plus-n-requires : goal.plus-n-requires
plus-n-requires c = omega (arith, cross c.top.ensures.1 c.bottom.ensures.1, cross c.top-2.ensures.1 c.bottom-2.ensures.1)

pub overflow_mul-d : goal.overflow_mul-d
overflow_mul-d c = product-fits c.bottom-3.ensures.1 c.bottom-4.ensures.1

pub returns : goal.returns
unfolding add
returns c =
    let a = c.args in
    c.reduced.ensures
    ∙ ap₂ (λ (z : ℤ) (d : ℕ). ranged (lowest z d))
    (c.plus-n.ensures
    ∙ ap₂ ◌+ℤ◌
    (ap₂ with_sign c.below.ensures (ap₂ ◌*◌ c.top.ensures.0 c.bottom.ensures.0) ∙ sign_scale a.x.num a.y.den)
    (ap₂ with_sign c.below-2.ensures (ap₂ ◌*◌ c.top-2.ensures.0 c.bottom-2.ensures.0) ∙ sign_scale a.y.num a.x.den))
    (ap₂ ◌*◌ c.bottom-3.ensures.0 c.bottom-4.ensures.0)
