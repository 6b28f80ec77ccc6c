use mathlib.Core.Path.{sym, ◌∙◌, ap, subst}
use Prim.Native.Nat.{◌<◌, ◌^◌}
use native.Mathlib.Omega.{arith}
use lib.IntN.{pos}
use mir.Syntax.{w32, w64}
use mir.Val.{SFits}
use mir.Facts.{to_z-of_z, to_z_pos}
use Rattle.exponents.proofs.Size.{neg-fits, zero_minus, minus_narrow, minus_read}
use Rattle.exponents.specs.Held.{with_sign}
use Rattle.exponents.proofs.signs.signed.Goals as goal

pub overflow_sub-result : goal.overflow_sub-result
overflow_sub-result c =
    let p : c.args.m < 2 ^ 63 = omega arith in
    simp (to_z_pos w64, zero_minus) (neg-fits p)

pub overflow_cast-result : goal.overflow_cast-result
overflow_cast-result c = subst (SFits w32) (sym (minus_narrow c.args.m (omega arith))) (neg-fits {m = c.args.m} (omega arith))

pub overflow_cast-result-else-neg : goal.overflow_cast-result-else-neg
overflow_cast-result-else-neg c =
    let p : c.args.m < 2 ^ 63 = omega arith in
    let q : c.args.m < 2 ^ 31 = omega arith in
    simp (to_z_pos w64) (record { sfits = q })

pub returns-then-neg : goal.returns-then-neg
returns-then-neg c = minus_read c.args.m (omega arith) ∙ ap (λ b. with_sign b c.args.m) (sym c.if-neg.true)

pub returns-else-neg : goal.returns-else-neg
returns-else-neg c =
    let p : c.args.m < 2 ^ 63 = omega arith in
    let q : c.args.m < 2 ^ 31 = omega arith in
    let g : SFits w32 (pos c.args.m) = record { sfits = q } in
    simp (to_z_pos w64, to_z-of_z, c.if-neg.false)
