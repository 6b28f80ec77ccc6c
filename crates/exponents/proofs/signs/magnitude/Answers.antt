use lib.IntN.{pos, ◌-ℤ◌}
use mir.Syntax.{w32, w64}
use mir.Val.{SFits}
use mir.Facts.{to_z-of_z, sfits_widen}
use Rattle.exponents.proofs.Size.{minus_fits, minus_nat_abs, minus_cast, plus_cast}
use Rattle.exponents.proofs.signs.magnitude.Goals as goal

pub overflow_cast-w : goal.overflow_cast-w
overflow_cast-w c = rw (to_z-of_z c.ranges.n) (sfits_widen tt c.ranges.n)

pub overflow_sub-result : goal.overflow_sub-result
overflow_sub-result c =
    let f : SFits w32 c.args.n = c.ranges.n in
    let g : SFits w64 c.args.n = sfits_widen tt f in
    simp to_z-of_z (minus_fits f)

pub overflow_cast-result : goal.overflow_cast-result
overflow_cast-result c =
    let f : SFits w32 c.args.n = c.ranges.n in
    let g : SFits w64 c.args.n = sfits_widen tt f in
    let h : SFits w64 (pos 0 -ℤ c.args.n) = minus_fits f in
    simp to_z-of_z (minus_cast f (simp to_z-of_z at c.if-w-lt0.true))

pub overflow_cast-result-else-w-lt0 : goal.overflow_cast-result-else-w-lt0
overflow_cast-result-else-w-lt0 c =
    let f : SFits w32 c.args.n = c.ranges.n in
    let g : SFits w64 c.args.n = sfits_widen tt f in
    simp to_z-of_z (plus_cast f (simp to_z-of_z at c.if-w-lt0.false))

pub returns-then-w-lt0 : goal.returns-then-w-lt0
returns-then-w-lt0 c =
    let f : SFits w32 c.args.n = c.ranges.n in
    let g : SFits w64 c.args.n = sfits_widen tt f in
    let h : SFits w64 (pos 0 -ℤ c.args.n) = minus_fits f in
    simp to_z-of_z (minus_nat_abs c.args.n)

pub returns-else-w-lt0 : goal.returns-else-w-lt0
returns-else-w-lt0 c =
    let f : SFits w32 c.args.n = c.ranges.n in
    let g : SFits w64 c.args.n = sfits_widen tt f in
    simp to_z-of_z
