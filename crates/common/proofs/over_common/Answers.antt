-- `over_common` meets its contract. It compares by place; at the end the table's order says the same. The invariant: the factors before i are done, and what they share are the first k items.
use mathlib.Core.Path.{ap, ◌∙◌}
use mathlib.Core.List.{map}
use native.Mathlib.Omega.{arith}
use lib.ListN.{get_or}
use Rattle.units.specs.Lists.{no_factor, inverted}
use Rattle.tables.specs.Held.{pack_items}
use Rattle.reduction.proofs.Resolved.{nil_item, items_len, item_at}
use Rattle.common.proofs.Sharing.{gathered_none, own_place, gathered_past, gathered_on, gathered_end, moved}
use Rattle.common.proofs.Resolved.{common_placed}
use Rattle.common.proofs.over_common.Goals as goal
use Rattle.common.proofs.over_common.Goals.{in-Some, in_default}

pub loop-i-init : goal.loop-i-init
loop-i-init c = (omega arith, λ v fs gs p q hf hg sf sg. gathered_none v fs gs _ c.no_items-o.ensures)

pub loop-i-preserved : goal.loop-i-preserved
loop-i-preserved c =
    let k = c.loop-i in
    let a = c.args in (
      elim c.match-shared_with.branch [ in-Some t ↦ omega arith | in_default t ↦ omega arith ],
      λ v fs gs p q hf hg sf sg.
          let n = items_len v a.l fs p in
          let all = c.capped-i-end.ensures.1 (omega arith) in
          let is = item_at v a.l fs p k.i nil_item no_factor (omega arith) in
          let shares = c.shared_with.ensures v gs q hg (own_place v _ (get_or fs k.i no_factor) is) in
          let so_far = k.invariant.1 v fs gs p q hf hg sf sg in
          elim c.match-shared_with.branch [
            | in-Some t ↦ moved t.o-is t.k-is (gathered_on v fs gs k.o k.k k.i so_far (omega arith) _ is _ shares sf sg (omega arith) _ t.in-Some.is _ _ t.inverted_to.ensures)
            | in_default t ↦ moved t.o-is t.k-is (gathered_past v fs gs k.o k.k k.i so_far (omega arith) _ is _ shares t.in_default.is)
          ],
    )

pub returns : goal.returns
returns c v fs gs rl rm =
    let k = c.loop-i in
    let a = c.args in
    let n = items_len v a.l fs rl.is in
    let h = rl.short in
    let same = c.capped-i-end.ensures.1 (omega arith) in
    gathered_end v fs gs k.o k.k k.i (k.invariant.1 v fs gs rl.is rm.is h rm.short rl.shaped rm.shaped) (omega arith)
    ∙ ap (λ l. pack_items v (map inverted l)) (common_placed v fs gs rl rm)
