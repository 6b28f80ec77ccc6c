use mathlib.Core.Path.{◌∙◌, ap}
use Prim.Native.Nat.{◌<◌, ◌^◌}
use native.Mathlib.Omega.{arith}
use lib.IntN.{pos}
use lib.Signed.{mag, lt_z}
use Rattle.exponents.proofs.Size.{back}
use Rattle.exponents.proofs.signs.below.Goals as goal

pub returns : goal.returns
returns c =
    let z = c.args.x.num in
    let h : mag z < 2 ^ 31 = omega arith in
    c.negative.ensures ∙ ap (λ z. lt_z z (pos 0)) (back z h)
