-- `first_exponent` meets its contract. The invariant: the places before i are zero.
use borrow.Author.Rules.{rules}
use mathlib.Core.Path.{◌≡◌, sym, ap, ◌∙◌}
use native.Mathlib.Omega.{arith}
use mir.Syntax.{w32}
use mir.Val.{to_z, of_z}
use Rattle.targets.proofs.Fitted.{first_start, first_on, first_here, first_none}
use Rattle.targets.proofs.groups.first_exponent.Goals as goal

pub loop-i-init : goal.loop-i-init
loop-i-init c = first_start _ _ _

pub returns-then-x-ne0 : goal.returns-then-x-ne0
returns-then-x-ne0 c =
    let k = c.loop-i in
    first_here _ k.i (omega arith) c.exponent_of-x.result c.exponent_of-x.ensures (λ e. c.if-x-ne0.true (ap (of_z w32) e)) ∙ sym k.invariant

pub loop-i-preserved : goal.loop-i-preserved
loop-i-preserved c =
    let k = c.loop-i in
    let z = c.exponent_of-x.result.num in
    let r : to_z w32 (of_z w32 z) ≡ z = search rules in
    k.invariant ∙ first_on _ k.i (omega arith) c.exponent_of-x.result c.exponent_of-x.ensures (sym r ∙ ap (to_z w32) c.if-x-ne0.false)

pub returns : goal.returns
returns c =
    let k = c.loop-i in
    first_none _ k.i (omega arith) ∙ sym k.invariant
