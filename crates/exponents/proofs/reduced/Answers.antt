-- `reduced` meets its contract.
use mathlib.Core.Path.{◌∙◌, ap}
use Prim.Native.Nat.{◌<◌, ◌/◌}
use native.Mathlib.Nat.{pos_of_ne-zero}
use native.Mathlib.Omega.{arith}
use Rattle.exponents.proofs.Ranged.{low, whole, div-pos, den_pos, over_num, over_den, over-nought, within}
use mir.Facts.{to_z-of_z}
use mir.Syntax.{w32}
use mathlib.Core.Bool.{true}
use Rattle.exponents.specs.Outcome.{Ok}
use Rattle.exponents.proofs.reduced.Goals as goal

-- `reduced` meets its contract.
pub returns-then-m-gt2147483647 : goal.returns-then-m-gt2147483647
returns-then-m-gt2147483647 c =
    let a = c.args in
    over_num a.neg a.m 1 c.if-m-gt2147483647.true ∙ whole a.neg a.m a.d c.if-d-eq1.true

pub returns-then-d-eq1 : goal.returns-then-d-eq1
returns-then-d-eq1 c =
    let a = c.args in
    ap (λ z. Ok (record { num = z; den = 1 })) (to_z-of_z {w = w32} (record { sfits = c.signed.type_inv }) ∙ c.signed.ensures)
    ∙ within a.neg a.m 1 c.if-m-gt2147483647.false (omega arith) (omega arith)
    ∙ whole a.neg a.m a.d c.if-d-eq1.true

pub returns-then-d-eq0 : goal.returns-then-d-eq0
returns-then-d-eq0 c =
    let a = c.args in
    over-nought a.neg a.m a.d c.if-d-eq0.true

pub nonzero_div-a : goal.nonzero_div-a
nonzero_div-a c = let a = c.args in div-pos true a.m a.d _ c.gcd-g.ensures (pos_of_ne-zero c.if-d-eq0.false)

pub nonzero_div-b : goal.nonzero_div-b
nonzero_div-b c = let a = c.args in div-pos true a.m a.d _ c.gcd-g.ensures (pos_of_ne-zero c.if-d-eq0.false)

pub returns-then-a-gt2147483647 : goal.returns-then-a-gt2147483647
returns-then-a-gt2147483647 c =
    let a = c.args in
    let g = c.gcd-g.result in
    over_num a.neg (a.m / g) (a.d / g) c.if-a-gt2147483647.true ∙ low a.neg a.m a.d g c.gcd-g.ensures

pub returns-then-b-gt2147483647 : goal.returns-then-b-gt2147483647
returns-then-b-gt2147483647 c =
    let a = c.args in
    let g = c.gcd-g.result in
    over_den a.neg (a.m / g) (a.d / g) c.if-a-gt2147483647.false c.if-b-gt2147483647.true ∙ low a.neg a.m a.d g c.gcd-g.ensures

pub returns : goal.returns
returns c =
    let a = c.args in
    let g = c.gcd-g.result in
    let e = c.gcd-g.ensures in
    let h : 0 < a.d = pos_of_ne-zero c.if-d-eq0.false in
    ap (λ z. Ok (record { num = z; den = a.d / g })) (to_z-of_z {w = w32} (record { sfits = c.signed-2.type_inv }) ∙ c.signed-2.ensures)
    ∙ within a.neg (a.m / g) (a.d / g) c.if-a-gt2147483647.false (den_pos true a.m a.d g e h) c.if-b-gt2147483647.false
    ∙ low a.neg a.m a.d g e
