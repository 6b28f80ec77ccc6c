-- `read_up_to` meets its contract.
use Rattle.groups.specs.Numbers.{groups?}
use Rattle.groups.proofs.Walk.{joined, ended, read_cut, read_over, number_padded, number_high, number_found, number_again}
use native.Mathlib.Omega.{arith}
use Prim.Native.Nat.{◌-◌}
use lib.ListN.{length, drop, get_or}
use mathlib.Core.Path.{◌≡◌, refl, sym, ap, ◌∙◌}
use Rattle.groups.proofs.read_up_to.Goals as goal

pub loop-k-init : goal.loop-k-init
unfolding joined
loop-k-init c = (omega arith, refl)

pub returns-then-i-s : goal.returns-then-i-s
returns-then-i-s c =
    let k = c.loop-k in
    sym (ended k.k k.v (5 - k.k) c.args.most (drop c.args.at c.args.s.now) (drop k.i c.args.s.now) (length c.args.s.now) k.invariant.1 (read_cut k.k k.v (5 - k.k) k.i c.args.s.now c.if-i-s.true))

pub returns-then-b-k : goal.returns-then-b-k
returns-then-b-k c =
    let k = c.loop-k in
    number_padded c.args.s.now c.args.at k.k k.v k.i (get_or c.args.s.now k.i 0) c.args.most c.loop-k-test.true c.if-i-s.false refl k.invariant.0 k.invariant.1 c.if-b-lt128.true c.if-b-k.true

pub returns-then-v-most : goal.returns-then-v-most
returns-then-v-most c =
    let k = c.loop-k in
    number_high c.args.s.now c.args.at k.k k.v k.i (get_or c.args.s.now k.i 0) c.args.most c.loop-k-test.true c.if-i-s.false refl k.invariant.0 k.invariant.1 c.if-b-lt128.true c.if-b-k.false c.if-v-most.true

pub overflow_cast-result : goal.overflow_cast-result
overflow_cast-result c = record { fits = omega (arith, c.if-v-most.false, c.ranges.most.fits) }

pub returns-then-b-lt128 : goal.returns-then-b-lt128
returns-then-b-lt128 c =
    let k = c.loop-k in
    number_found c.args.s.now c.args.at k.k k.v k.i (get_or c.args.s.now k.i 0) c.args.most c.loop-k-test.true c.if-i-s.false refl k.invariant.0 k.invariant.1 c.if-b-lt128.true c.if-b-k.false c.if-v-most.false

pub loop-k-preserved : goal.loop-k-preserved
loop-k-preserved c =
    let n =
    let k = c.loop-k in
    number_again c.args.s.now c.args.at k.k k.v k.i (get_or c.args.s.now k.i 0) c.args.most c.loop-k-test.true c.if-i-s.false refl k.invariant.0 k.invariant.1 c.if-b-lt128.false in
    n

pub returns : goal.returns
returns c =
    let k = c.loop-k in
    let z : 5 - k.k ≡ 0 = omega arith in
    sym (ended k.k k.v (5 - k.k) c.args.most (drop c.args.at c.args.s.now) (drop k.i c.args.s.now) (length c.args.s.now) k.invariant.1 (ap (λ w. joined k.k k.v (groups? w (drop k.i c.args.s.now))) z ∙ read_over k.k k.v (drop k.i c.args.s.now)))
