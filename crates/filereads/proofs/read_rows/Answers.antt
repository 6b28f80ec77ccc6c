-- `read_rows` meets its contract.
use Prim.Native.Nat.{◌+◌}
use mathlib.Core.Path.{sym, subst}
use Rattle.filereads.proofs.Walked.{row_found, row_missing, Kept, kept_none, kept_on, kept_past, kept_off, kept_end}
use Rattle.filereads.proofs.read_rows.Goals as goal
use Rattle.filereads.proofs.read_rows.Goals.{then-i-lt128, else-i-lt128}

pub loop-i-init : goal.loop-i-init
loop-i-init c = kept_none _ _ _ _ c.requires (simp c.no_row-none.ensures)

pub returns-in_default : goal.returns-in_default
returns-in_default c =
    let s = c.args in
    let k = c.loop-i in
    kept_off s.s.now s.at s.n k.a k.p k.i k.invariant c.loop-i-test.true (row_missing s.s.now k.p _ c.read_row.ensures c.in_default.is)

pub loop-i-preserved : goal.loop-i-preserved
loop-i-preserved c =
    let s = c.args in
    let k = c.loop-i in
    let q = c.in-Some.q in
    let r = row_found s.s.now k.p q c.in-Some.row _ c.read_row.ensures c.in-Some.is in
    elim c.if-i-lt128.branch [
      | then-i-lt128 w ↦ subst (λ b. Kept s.s.now s.at s.n b q (k.i + 1)) (sym w.a-is) (kept_on s.s.now s.at s.n k.a k.p k.i k.invariant _ _ c.loop-i-test.true r)
      | else-i-lt128 w ↦ subst (λ b. Kept s.s.now s.at s.n b q (k.i + 1)) (sym w.a-is) (kept_past s.s.now s.at s.n k.a k.p k.i k.invariant _ _ c.loop-i-test.true w.if-i-lt128.false r)
    ]

pub returns : goal.returns
returns c =
    let s = c.args in
    let k = c.loop-i in
    kept_end s.s.now s.at s.n k.a k.p k.i k.invariant c.loop-i-test.false
