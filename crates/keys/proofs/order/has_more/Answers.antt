-- `has_more` meets its contract. The invariant: zeros stand from p up to i.
use mathlib.Core.Path.{refl, sym, ◌∙◌, ap}
use native.Mathlib.Omega.{arith}
use lib.IntN.{pos}
use lib.ListN.{drop_of_length-le}
use mir.Syntax.{w64}
use mir.Val.{of_z}
use Rattle.keys.specs.Held.{more, key_at}
use Rattle.keys.proofs.KeyOrder.{bits-zero, more_on, more_here}
use Rattle.exponents.proofs.Places.{part_long, part_at}
use Rattle.keys.proofs.order.has_more.Goals as goal

pub loop-i-init : goal.loop-i-init
loop-i-init c = refl

pub returns-then-keys-a-ne0 : goal.returns-then-keys-a-ne0
returns-then-keys-a-ne0 c =
    let s = c in
    let l = c.loop-i in
    let k = c.args.keys.now in
    let z = part_long k c.args.a c.requires.1 in
    let e = part_at k c.args.a l.i (pos 0) (omega arith) in
    more_here (key_at c.args.a k) l.i (omega arith) (λ q. c.if-keys-a-ne0.true (ap (of_z w64) (sym e ∙ q))) ∙ sym l.invariant

pub loop-i-preserved : goal.loop-i-preserved
loop-i-preserved c =
    let s = c in
    let l = c.loop-i in
    let k = c.args.keys.now in
    let z = part_long k c.args.a c.requires.1 in
    let e = part_at k c.args.a l.i (pos 0) (omega arith) in
    l.invariant ∙ more_on (key_at c.args.a k) l.i (omega arith) (e ∙ bits-zero (record { sfits = omega arith }) c.if-keys-a-ne0.false)

pub returns : goal.returns
unfolding more
returns c =
    let s = c in
    let l = c.loop-i in
    let z = part_long c.args.keys.now c.args.a c.requires.1 in
    sym (l.invariant ∙ ap more (drop_of_length-le (key_at c.args.a c.args.keys.now) {i = l.i} (omega arith)))
