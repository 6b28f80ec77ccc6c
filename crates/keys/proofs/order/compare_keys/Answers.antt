-- `compare_keys` meets its contract. The invariant: the places before i are the same, so that those from i on decide.
use mathlib.Core.Path.{◌≡◌, refl, sym, ◌∙◌, ap, ap₂}
use native.Mathlib.Omega.{arith}
use lib.IntN.{pos}
use Prim.Native.Nat.{◌+◌}
use lib.ListN.{drop_of_length-le, get_or}
use mir.Syntax.{w64}
use mir.Val.{of_z}
use Rattle.keys.specs.Key.{entries}
use Rattle.keys.specs.Orders.{lists, pairs}
use Rattle.keys.specs.Held.{sense_of, key_at}
use Rattle.keys.proofs.KeyOrder.{bits-same, same_on}
use Rattle.exponents.proofs.Places.{part_long, part_at}
use Rattle.keys.proofs.order.compare_keys.Goals as goal

pub loop-i-init : goal.loop-i-init
loop-i-init c = refl

pub parted-requires : goal.parted-requires
parted-requires c =
    let s = c in
    let l = c.loop-i in
    let k = c.args.keys.now in
    (omega arith, c.requires.0, c.requires.1, λ e. c.if-keys-a.true (ap (of_z w64) (sym (part_at k c.args.a l.i (pos 0) (omega arith)) ∙ e ∙ part_at k c.args.b l.i (pos 0) (omega arith))))

pub returns-then-keys-a : goal.returns-then-keys-a
returns-then-keys-a c = c.parted.ensures ∙ sym (ap sense_of c.loop-i.invariant)

pub loop-i-preserved : goal.loop-i-preserved
loop-i-preserved c =
    let y = c in
    let s = c in
    let l = c.loop-i in
    let k = c.args.keys.now in
    let z = part_long k c.args.a c.requires.0 in
    let w = part_long k c.args.b c.requires.1 in
    let e : get_or k (c.args.a + l.i) (pos 0) ≡ get_or k (c.args.b + l.i) (pos 0) = bits-same (record { sfits = omega arith }) (record { sfits = omega arith }) c.if-keys-a.false in
    let f = part_at k c.args.a l.i (pos 0) (omega arith) ∙ e ∙ sym (part_at k c.args.b l.i (pos 0) (omega arith)) in
    l.invariant ∙ same_on (key_at c.args.a k) (key_at c.args.b k) l.i (omega arith) (omega arith) f

pub returns : goal.returns
unfolding entries
returns c =
    let s = c in
    let l = c.loop-i in
    let k = c.args.keys.now in
    let z = part_long k c.args.a c.requires.0 in
    let w = part_long k c.args.b c.requires.1 in
    sym
    (ap sense_of l.invariant
    ∙ ap₂ (λ m n. sense_of (lists pairs (entries l.i m) (entries l.i n))) (drop_of_length-le (key_at c.args.a k) {i = l.i} (omega arith)) (drop_of_length-le (key_at c.args.b k) {i = l.i} (omega arith)))
