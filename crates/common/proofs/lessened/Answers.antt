-- `lessened` meets its contract. It compares by place; at the end the table's order says the same. The invariant: the factors before i are done, with the first j of c, and what is left of them are the first k items.
use borrow.Author.Rules.{rules}
use mathlib.Core.Path.{◌≡◌, refl, sym, ap, ◌∙◌}
use mathlib.Core.List.{List}
use Prim.Native.Nat.{◌≤◌}
use native.Mathlib.Omega.{arith}
use lib.ListN.{length, drop, get_or}
use Rattle.exponents.specs.Outcome.{Ok}
use Rattle.units.specs.declared.Factor.{Factor}
use Rattle.units.specs.Lists.{no_factor}
use Rattle.tables.specs.Held.{View, pack_items, by_place}
use Rattle.canonical.specs.Held.{form_of}
use Rattle.reduction.proofs.Resolved.{nil_item, items_len, item_at}
use Rattle.common.proofs.Lessening.{left_by, left_none, left-next, lessens_none, lessens_whole, lessens_part, lessens_gone, lessens_refused, lessens_end, moved}
use Rattle.common.proofs.Resolved.{lessen_placed}
use Rattle.common.proofs.lessened.Goals as goal
use Rattle.common.proofs.lessened.Goals.{then-j-u+in_ok-left, else-j-u, in-None, in-Some, then-not-same, else-not-same}

pub loop-i-init : goal.loop-i-init
loop-i-init c = (omega arith, omega arith, λ v gs cs p q hg hc. lessens_none v gs cs _ c.no_items-o.ensures)

pub returns-in_err-left : goal.returns-in_err-left
returns-in_err-left c v gs cs rm rc =
    let k = c.loop-i in
    let a = c.args in
    let n = items_len v a.m gs rm.is in
    let u = items_len v a.c cs rc.is in
    let h = rm.short in
    let g = rc.short in
    let same = c.capped-i-end.ensures.1 (omega arith) in
    let alike = c.capped-u.ensures.1 (omega arith) in
    let y = item_at v a.m gs rm.is k.i nil_item no_factor (omega arith) in
    let x = item_at v a.c cs rc.is k.j nil_item no_factor (omega arith) in
    let q = lessens_refused v gs cs k.o k.k k.j k.i (k.invariant.2 v gs cs rm.is rc.is h g) (omega arith) _
    (sym (c.in_err-left.ensures ∙ left-next v _ (get_or gs k.i no_factor) y cs k.j (omega arith) _ x))
    ∙ ap (form_of v) (lessen_placed v gs cs rm rc) in
    search (rules, q)

pub loop-i-preserved : goal.loop-i-preserved
loop-i-preserved c =
    let told : (v : View) → (gs : List Factor) → (cs : List Factor) → (p : c.args.m ≡ pack_items v gs) → (q : c.args.c ≡ pack_items v cs) → (hg : length gs ≤ 16) → (hc : length cs ≤ 16) → Ok c.if-j-u.left ≡ left_by (by_place v) (get_or gs c.loop-i.i no_factor) (drop c.loop-i.j cs) = λ v gs cs p q hg hc.
    let k = c.loop-i in
    let a = c.args in
    let n = items_len v a.m gs p in
    let u = items_len v a.c cs q in
    let same = c.capped-i-end.ensures.1 (omega arith) in
    let alike = c.capped-u.ensures.1 (omega arith) in
    let y = item_at v a.m gs p k.i nil_item no_factor (omega arith) in
    elim c.if-j-u.branch [ then-j-u+in_ok-left w ↦ ap Ok w.left-is ∙ w.in_ok-left.ensures ∙ left-next v _ (get_or gs k.i no_factor) y cs k.j (omega arith) _ (item_at v a.c cs q k.j nil_item no_factor (omega arith)) | else-j-u w ↦ ap Ok w.left-is ∙ left_none v _ (get_or gs k.i no_factor) y cs k.j (omega arith) ] in
    let k = c.loop-i in
    let a = c.args in (
      elim c.match-left.branch [ in-None w ↦ omega arith | in-Some w ↦ elim w.if-not-same.branch [ then-not-same t ↦ omega arith | else-not-same t ↦ omega arith ] ],
      elim c.match-left.branch [ in-None w ↦ omega arith | in-Some w ↦ omega arith ],
      λ v gs cs p q hg hc.
          let n = items_len v a.m gs p in
          let same = c.capped-i-end.ensures.1 (omega arith) in
          let y = item_at v a.m gs p k.i nil_item no_factor (omega arith) in
          let left = told v gs cs p q hg hc in
          let so_far = k.invariant.2 v gs cs p q hg hc in
          elim c.match-left.branch [
            | in-None w ↦ moved w.o-is w.k-is w.j-is (lessens_whole v gs cs k.o k.k k.j k.i so_far (omega arith) (omega arith) _ _ y (sym left ∙ ap Ok w.in-None.is))
            | in-Some w ↦ moved w.o-is w.k-is w.j-is
                (elim w.if-not-same.branch [
                  | then-not-same t ↦ moved t.o-is t.k-is refl (lessens_part v gs cs k.o k.k k.j k.i so_far (omega arith) _ (sym left ∙ ap Ok w.in-Some.is) (sym w.same.ensures ∙ t.if-not-same.true) (omega arith) _ _ _ y t.with_exponent.ensures)
                  | else-not-same t ↦ moved t.o-is t.k-is refl (lessens_gone v gs cs k.o k.k k.j k.i so_far (omega arith) _ (sym left ∙ ap Ok w.in-Some.is) (sym w.same.ensures ∙ t.if-not-same.false))
                ])
          ],
    )

pub returns : goal.returns
returns c v gs cs rm rc =
    let k = c.loop-i in
    let n = items_len v c.args.m gs rm.is in
    let h = rm.short in
    let same = c.capped-i-end.ensures.1 (omega arith) in
    lessens_end v gs cs k.o k.k k.j k.i (k.invariant.2 v gs cs rm.is rc.is h rc.short) (omega arith)
    ∙ ap (form_of v) (lessen_placed v gs cs rm rc)
