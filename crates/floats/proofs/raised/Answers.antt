-- `floats::raised` meets its contract. The invariant: what is left to do gives the whole, and takes what is left of its multiplications.
use mathlib.Core.Path.{◌≡◌, refl, sym, ◌∙◌, ap₂}
use mathlib.Core.Bool.{cond}
use Prim.Native.Nat.{◌+◌, ◌%◌}
use native.Mathlib.Omega.{arith}
use lib.Dec.{eqb}
use lib.Ieee.{of_bits}
use Rattle.floats.specs.Power.{taken, tally}
use Rattle.floats.proofs.Laws.{turn, turn_end, taken-set, taken_clear}
use Rattle.floats.proofs.Counting.{few, count_none, turn_more, turn_last, counted-set, counted_clear, bit-most}
use Rattle.floats.proofs.raised.Goals as goal
use Rattle.floats.proofs.raised.Goals.{then-left-eq1, else-left-eq1}

pub loop-left-init : goal.loop-left-init
unfolding of_bits
loop-left-init c = (refl, omega arith)

pub overflow_add-count : goal.overflow_add-count
overflow_add-count c = omega (arith, c.loop-left.invariant.1, few 64 c.args.m (omega arith) (omega arith))

pub overflow_add-count-then-left-gt0 : goal.overflow_add-count-then-left-gt0
overflow_add-count-then-left-gt0 c =
    let k = c.loop-left in
    let n : c.if-left-eq1.count ≡ k.count + cond (eqb (k.left % 2) 1) 1 0 = elim c.if-left-eq1.branch [ then-left-eq1 w ↦ w.count-is ∙ counted-set k.left k.count w.if-left-eq1.true | else-left-eq1 w ↦ w.count-is ∙ counted_clear k.left k.count w.if-left-eq1.false ] in
    omega (arith, n, bit-most (eqb (c.loop-left.left % 2) 1), c.loop-left.invariant.1, few 64 c.args.m (omega arith) (omega arith))

pub loop-left-preserved-then-left-gt0 : goal.loop-left-preserved-then-left-gt0
loop-left-preserved-then-left-gt0 c =
    let k = c.loop-left in
    let r : c.if-left-eq1.r ≡ taken (eqb (k.left % 2) 1) k.r k.a = elim c.if-left-eq1.branch [ then-left-eq1 w ↦ w.r-is ∙ taken-set k.left k.r k.a w.if-left-eq1.true | else-left-eq1 w ↦ w.r-is ∙ taken_clear k.left k.r k.a w.if-left-eq1.false ] in
    let n : c.if-left-eq1.count ≡ k.count + cond (eqb (k.left % 2) 1) 1 0 = elim c.if-left-eq1.branch [ then-left-eq1 w ↦ w.count-is ∙ counted-set k.left k.count w.if-left-eq1.true | else-left-eq1 w ↦ w.count-is ∙ counted_clear k.left k.count w.if-left-eq1.false ] in
    (turn k.left k.r k.a _ _ (omega arith) r (λ h. refl) ∙ k.invariant.0, turn_more k.left k.count _ _ (omega arith) (omega arith) n refl ∙ k.invariant.1)

pub loop-left-preserved : goal.loop-left-preserved
loop-left-preserved c =
    let k = c.loop-left in
    let r : c.if-left-eq1.r ≡ taken (eqb (k.left % 2) 1) k.r k.a = elim c.if-left-eq1.branch [ then-left-eq1 w ↦ w.r-is ∙ taken-set k.left k.r k.a w.if-left-eq1.true | else-left-eq1 w ↦ w.r-is ∙ taken_clear k.left k.r k.a w.if-left-eq1.false ] in
    let n : c.if-left-eq1.count ≡ k.count + cond (eqb (k.left % 2) 1) 1 0 = elim c.if-left-eq1.branch [ then-left-eq1 w ↦ w.count-is ∙ counted-set k.left k.count w.if-left-eq1.true | else-left-eq1 w ↦ w.count-is ∙ counted_clear k.left k.count w.if-left-eq1.false ] in
    (turn k.left k.r k.a _ _ (omega arith) r (λ h. absurd (omega arith)) ∙ k.invariant.0, turn_last k.left k.count _ (omega arith) (omega arith) n ∙ k.invariant.1)

pub returns : goal.returns
returns c =
    let k = c.loop-left in
    ap₂ tally (sym (turn_end k.left k.r k.a (omega arith)) ∙ k.invariant.0) (omega (arith, k.invariant.1, count_none k.left (omega arith)))
