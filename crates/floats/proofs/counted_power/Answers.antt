-- `floats::counted_power` meets its contract: its two ways out are the definition's two cases.
use mathlib.Core.Path.{ap, ◌∙◌}
use mathlib.Core.Bool.{true, false}
use native.Mathlib.Omega.{arith}
use mir.Syntax.{w32}
use mir.Val.{SFits}
use mir.Facts.{to_z-of_z}
use Rattle.floats.specs.declared.Tally.{Tally}
use Rattle.floats.proofs.Counting.{counted_answer}
use Rattle.floats.proofs.counted_power.Goals as goal

pub returns-then-n-lt0 : goal.returns-then-n-lt0
returns-then-n-lt0 c =
    let r = c in
    let s = c in
    let f : SFits w32 c.args.n = c.ranges.n in
    let p = counted_answer _ c.args.n _ c.raised-t.result true f (simp to_z-of_z at c.if-n-lt0.true) (simp to_z-of_z at c.magnitude.ensures) c.raised-t.ensures in
    (c.inverse.ensures ∙ p.0, omega (arith, ap (λ (t : Tally). t.count) c.inverse.ensures, p.1))

pub returns-else-n-lt0 : goal.returns-else-n-lt0
returns-else-n-lt0 c =
    let s = c in
    let f : SFits w32 c.args.n = c.ranges.n in
    counted_answer _ c.args.n _ c.raised-t.result false f (simp to_z-of_z at c.if-n-lt0.false) (simp to_z-of_z at c.magnitude.ensures) c.raised-t.ensures
