-- `joined` meets its contract. The invariant: the items of m before i stand behind those of l.
use mathlib.Core.Path.{sym, ◌∙◌, ap}
use mathlib.Core.List.{◌++◌, append-nil}
use native.Mathlib.Omega.{arith}
use lib.Seq.{take_all}
use Rattle.tables.specs.Held.{pack_items}
use Rattle.canonical.proofs.Seen.{len_items, read_items}
use Rattle.targets.proofs.Grouping.{joined_long, joined_on}
use Rattle.targets.proofs.groups.joined.Goals as goal
use Rattle.targets.proofs.groups.joined.Goals.{then-k-lt16, else-k-lt16}

pub loop-i-init : goal.loop-i-init
loop-i-init c v fs gs r s h = r.is ∙ ap (pack_items v) (sym (append-nil fs))

pub loop-i-preserved : goal.loop-i-preserved
loop-i-preserved c v fs gs r s h =
    let k = c.loop-i in
    let b = c.args.m in
    let n = len_items v gs b s.is in
    let same = c.capped-i-end.ensures.1 (omega arith) in
    let done = k.invariant v fs gs r s h in
    let long = joined_long v fs gs k.i k.o done (omega arith) in
    elim c.if-k-lt16.branch [
      | then-k-lt16 w ↦ w.o-is ∙ joined_on v fs gs k.i k.o done _ (omega arith) h (read_items v gs b s.is k.i _ (omega arith))
      | else-k-lt16 w ↦ absurd (omega (arith, w.if-k-lt16.false))
    ]

pub returns : goal.returns
returns c v fs gs r s h =
    let k = c.loop-i in
    let n = len_items v gs c.args.m s.is in
    let same = c.capped-i-end.ensures.1 (omega arith) in
    k.invariant v fs gs r s h ∙ ap (λ l. pack_items v (fs ++ l)) (take_all k.i gs (omega arith))
