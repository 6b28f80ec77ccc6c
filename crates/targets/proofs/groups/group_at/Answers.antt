-- `group_at` meets its contract. The invariant: the places from i to j are one class and stand in g, which has as many as that.
use mathlib.Core.Path.{ap, ◌∙◌}
use Prim.Native.Nat.{◌-◌}
use native.Mathlib.Omega.{arith}
use Rattle.tables.specs.Held.{pack_items}
use Rattle.canonical.proofs.Seen.{len_items, read_items}
use Rattle.targets.proofs.Grouping.{one_len, by_class, grown_one, grown_on, grown_off, grown_end, class_same, class_other}
use Rattle.targets.proofs.groups.group_at.Goals as goal

pub loop-j-init : goal.loop-j-init
loop-j-init c =
    let a = c.args in
    let z = one_len _ _ c.alone-g.ensures in (
      omega arith,
      omega arith,
      λ v fs r k. grown_one v fs a.i _ _ k (read_items v fs a.c r.is a.i _ k) c.alone-g.ensures,
    )

pub returns-then-y-z : goal.returns-then-y-z
returns-then-y-z c =
    let k = c.loop-j in
    let a = c.args in (
      (omega arith, omega arith),
      λ v fs r l.
          let n = len_items v fs a.c r.is in
          let h = r.short in
          let same = c.capped-j-end.ensures.1 (omega arith) in
          grown_off v fs a.i k.g k.j (k.invariant.2 v fs r l) (omega arith) (class_other v fs a.c r.is (k.j - 1) k.j (omega arith) (omega arith) _ c.if-y-z.true)
          ∙ ap (pack_items v) (by_class r a.i),
    )

pub loop-j-preserved : goal.loop-j-preserved
loop-j-preserved c =
    let k = c.loop-j in
    let a = c.args in (
      omega arith,
      omega arith,
      λ v fs r l.
          let n = len_items v fs a.c r.is in
          let h = r.short in
          let same = c.capped-j-end.ensures.1 (omega arith) in
          grown_on v fs a.i k.g k.j (k.invariant.2 v fs r l) (omega arith) (class_same v fs a.c r.is (k.j - 1) k.j (omega arith) (omega arith) _ c.if-y-z.false) (omega arith) (omega arith) _
          (read_items v fs a.c r.is k.j _ (omega arith)),
    )

pub returns : goal.returns
returns c =
    let k = c.loop-j in
    let a = c.args in (
      (omega arith, omega arith),
      λ v fs r l.
          let n = len_items v fs a.c r.is in
          let h = r.short in
          let same = c.capped-j-end.ensures.1 (omega arith) in
          grown_end v fs a.i k.g k.j (k.invariant.2 v fs r l) (omega arith) ∙ ap (pack_items v) (by_class r a.i),
    )
