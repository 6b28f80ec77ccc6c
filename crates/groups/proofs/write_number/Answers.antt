-- `write_number` meets its contract.
use Rattle.groups.proofs.Walk.{group_turn, group_end, stored_turn}
use native.Mathlib.Omega.{arith}
use Prim.Native.Nat.{◌+◌, ◌-◌}
use lib.ListN.{length, length-set}
use mathlib.Core.Path.{◌≡◌, ap, ◌∙◌}
use Rattle.groups.proofs.write_number.Goals as goal

pub loop-y-preserved : goal.loop-y-preserved
loop-y-preserved c =
    let s = c.args in
    let k = c.loop-y in
    let t = group_turn (k.i - s.at) k.y k.invariant.1 k.invariant.2 c.loop-y-test.true in
    let n = ap length t.2 in
    let a : k.i + 1 - s.at ≡ k.i - s.at + 1 = omega arith in
    (omega arith, omega arith, rw a t.1, simp length-set k.invariant.3, rw a (omega arith), stored_turn k.out s.at k.i k.y k.invariant.0 k.invariant.1 k.invariant.2 c.loop-y-test.true ∙ k.invariant.5)

pub returns : goal.returns
returns c =
    let k = c.loop-y in
    let s = c.args in
    let g = group_end (k.i - s.at) k.y k.invariant.1 (omega arith) in
    let n = ap length g in
    (rw g at k.invariant.5, simp length-set k.invariant.3, omega arith)
