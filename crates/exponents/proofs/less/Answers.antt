use Prim.Native.Nat.{◌*◌}
use mathlib.Core.Path.{◌∙◌, ap₂}
use native.Mathlib.Omega.{arith}
use lib.Signed.{lt_z}
use Rattle.exponents.proofs.Size.{cross}
use Rattle.exponents.proofs.WithSign.{sign_scale}
use Rattle.exponents.specs.Fractions.{less}
use Rattle.exponents.specs.Held.{with_sign}
use Rattle.exponents.proofs.less.Goals as goal

pub overflow_mul-p : goal.overflow_mul-p
overflow_mul-p c = record { fits = omega (arith, cross c.top.ensures.1 c.bottom.ensures.1) }

pub overflow_mul-q : goal.overflow_mul-q
overflow_mul-q c = record { fits = omega (arith, cross c.top-2.ensures.1 c.bottom-2.ensures.1) }

pub returns : goal.returns
unfolding less
returns c =
    let a = c.args in
    c.lesser.ensures
    ∙ ap₂ lt_z
    (ap₂ with_sign c.below.ensures (ap₂ ◌*◌ c.top.ensures.0 c.bottom.ensures.0) ∙ sign_scale a.x.num a.y.den)
    (ap₂ with_sign c.below-2.ensures (ap₂ ◌*◌ c.top-2.ensures.0 c.bottom-2.ensures.0) ∙ sign_scale a.y.num a.x.den)
