-- `full_simplify_with_over` meets its contract.
use mathlib.Core.Path.{sym, ap, subst, ◌∙◌}
use mathlib.Core.List.{[], ◌++◌}
use lib.ListN.{length}
use Rattle.exponents.specs.Outcome.{Outcome, Ok, apply, tested}
use Rattle.exponents.proofs.Handed.{handed_on}
use Rattle.exponents.proofs.Holds.{take_out, bind_given}
use Rattle.exponents.proofs.Numbers.{answers, refuses, From, apply_answers}
use Rattle.units.specs.declared.Quantity.{Quantity}
use Rattle.units.specs.Lists.{checked}
use Rattle.tables.specs.Rows.{admit, base_rows}
use Rattle.tables.specs.Held.{view_of, Admits}
use Rattle.lists.proofs.Checks.{Accepted, admitted_by, table_refuses}
use Rattle.simplification.specs.Steps.{Amount, quantity_of, simplify}
use Rattle.simplification.proofs.Sounding.{simplify_checked}
use Rattle.registry.specs.Registry.{candidate_lists, registered}
use Rattle.registry.specs.Held.{Table, rules_of, Stored, Offers, Left}
use Rattle.registry.proofs.Looking.{rows-known, stored, reads, lends_rows, rules_are}
use Rattle.registry.proofs.Answering.{Alone, alone_refuses, alone, none_left, table_stops, list_stops, candidates_stop, unmarked, marked}
use Rattle.registry.proofs.full_simplify_with_over.Goals as goal

pub returns-in_err-t : goal.returns-in_err-t
returns-in_err-t c rows h =
    let s = c.args in
    handed_on _ _ c.from_residual.ensures.1 ∙ sym (table_stops rows s.q s.c _ (table_refuses (base_rows rows) (admit rows) _ (sym c.in_err-t.was ∙ h.is)))

pub returns-in_err-o : goal.returns-in_err-o
returns-in_err-o c rows h =
    let s = c.args in
    let t = c.in_ok-t.t in
    let tabled : Accepted (base_rows rows) (admit rows) t = admitted_by (base_rows rows) (admit rows) t (sym c.in_ok-t.was ∙ h.is) in
    let tb : Table = record { rows = rows; known = tabled.rows; admits = tabled.is } in
    let a : Admits rows (Ok t) s.columns.now.nums s.columns.now.dens s.columns.now.scales s.columns.now.ranks s.columns.now.based = subst (λ r. Admits rows r s.columns.now.nums s.columns.now.dens s.columns.now.scales s.columns.now.ranks s.columns.now.based) c.in_ok-t.was h in
    let held : Stored tb t.len t.slots.len s.columns.now.nums s.columns.now.dens s.columns.now.scales s.columns.now.ranks s.columns.now.based = stored tb a in
    let resolved = c.in_err-o.ensures tb.known (reads held c.no_items-blank.ensures) in
    handed_on _ _ c.from_residual-in_err-o.ensures.1
    ∙ sym (list_stops rows s.q s.c tb.known (rows-known tb) _ (alone_refuses tb.known s.q.unit c.empty-none.result c.empty-none.ensures _ resolved))

pub returns-in_err-check_candidates : goal.returns-in_err-check_candidates
returns-in_err-check_candidates c rows h =
    let s = c.args in
    let t = c.in_ok-t.t in
    let tabled : Accepted (base_rows rows) (admit rows) t = admitted_by (base_rows rows) (admit rows) t (sym c.in_ok-t.was ∙ h.is) in
    let tb : Table = record { rows = rows; known = tabled.rows; admits = tabled.is } in
    let a : Admits rows (Ok t) s.columns.now.nums s.columns.now.dens s.columns.now.scales s.columns.now.ranks s.columns.now.based = subst (λ r. Admits rows r s.columns.now.nums s.columns.now.dens s.columns.now.scales s.columns.now.ranks s.columns.now.based) c.in_ok-t.was h in
    let held : Stored tb t.len t.slots.len s.columns.now.nums s.columns.now.dens s.columns.now.scales s.columns.now.ranks s.columns.now.based = stored tb a in
    let l : Alone tb.known s.q.unit c.in_ok-o.o = alone tb.known s.q.unit c.empty-none.result c.empty-none.ensures c.in_ok-o.o (c.in_ok-o.ensures tb.known (reads held c.no_items-blank.ensures)) in
    let fault_is = c.in_err-check_candidates.ensures ∙ ap (λ n. tested (candidate_lists n s.c)) held.long in
    handed_on _ _ c.from_residual-in_err-check_candidates.ensures.1
    ∙ sym (candidates_stop rows s.q s.c tb.known (rows-known tb) l.fs l.is _ (refuses (candidate_lists (length tb.known) s.c) _ fault_is))

pub returns-in_err-rest : goal.returns-in_err-rest
returns-in_err-rest c rows h =
    let s = c.args in
    let t = c.in_ok-t.t in
    let tabled : Accepted (base_rows rows) (admit rows) t = admitted_by (base_rows rows) (admit rows) t (sym c.in_ok-t.was ∙ h.is) in
    let tb : Table = record { rows = rows; known = tabled.rows; admits = tabled.is } in
    let a : Admits rows (Ok t) s.columns.now.nums s.columns.now.dens s.columns.now.scales s.columns.now.ranks s.columns.now.based = subst (λ r. Admits rows r s.columns.now.nums s.columns.now.dens s.columns.now.scales s.columns.now.ranks s.columns.now.based) c.in_ok-t.was h in
    let held : Stored tb t.len t.slots.len s.columns.now.nums s.columns.now.dens s.columns.now.scales s.columns.now.ranks s.columns.now.based = stored tb a in
    let l : Alone tb.known s.q.unit c.in_ok-o.o = alone tb.known s.q.unit c.empty-none.result c.empty-none.ensures c.in_ok-o.o (c.in_ok-o.ensures tb.known (reads held c.no_items-blank.ensures)) in
    let ms = answers (candidate_lists (length tb.known) s.c) _ (c.in_ok-check_candidates.ensures ∙ ap (λ n. tested (candidate_lists n s.c)) held.long) in
    let steps : Outcome Amount = simplify (rules_of tb) s.q.value l.fs in
    let steps_are = c.in_err-rest.ensures (view_of tb.known (l.fs ++ [])) l.fs (lends_rows held (l.fs ++ [])) l.has ∙ ap (λ R. apply quantity_of (simplify R s.q.value l.fs)) (rules_are held (l.fs ++ [])) in
    handed_on _ _ c.from_residual-in_err-rest.ensures.1
    ∙ none_left steps (registered (rules_of tb) (base_rows rows) ms.answer) _ steps_are
    ∙ sym (marked rows s.q s.c tb.known (rows-known tb) l.fs l.is ms.answer ms.is c.if-q.true)

pub returns-then-q : goal.returns-then-q
returns-then-q c rows h =
    let s = c.args in
    let t = c.in_ok-t.t in
    let tabled : Accepted (base_rows rows) (admit rows) t = admitted_by (base_rows rows) (admit rows) t (sym c.in_ok-t.was ∙ h.is) in
    let tb : Table = record { rows = rows; known = tabled.rows; admits = tabled.is } in
    let a : Admits rows (Ok t) s.columns.now.nums s.columns.now.dens s.columns.now.scales s.columns.now.ranks s.columns.now.based = subst (λ r. Admits rows r s.columns.now.nums s.columns.now.dens s.columns.now.scales s.columns.now.ranks s.columns.now.based) c.in_ok-t.was h in
    let held : Stored tb t.len t.slots.len s.columns.now.nums s.columns.now.dens s.columns.now.scales s.columns.now.ranks s.columns.now.based = stored tb a in
    let l : Alone tb.known s.q.unit c.in_ok-o.o = alone tb.known s.q.unit c.empty-none.result c.empty-none.ensures c.in_ok-o.o (c.in_ok-o.ensures tb.known (reads held c.no_items-blank.ensures)) in
    let ms = answers (candidate_lists (length tb.known) s.c) _ (c.in_ok-check_candidates.ensures ∙ ap (λ n. tested (candidate_lists n s.c)) held.long) in
    let offers : Offers tb s.c = record { lists = ms.answer; are = ms.is } in
    let steps : Outcome Amount = simplify (rules_of tb) s.q.value l.fs in
    let steps_are = c.in_ok-rest.ensures (view_of tb.known (l.fs ++ [])) l.fs (lends_rows held (l.fs ++ [])) l.has ∙ ap (λ R. apply quantity_of (simplify R s.q.value l.fs)) (rules_are held (l.fs ++ [])) in
    let stepped : From quantity_of steps c.in_ok-rest.rest = apply_answers quantity_of steps c.in_ok-rest.rest (sym steps_are) in
    let ok = take_out (simplify_checked (rules_of tb) (length tb.known) s.q.unit l.fs l.is s.q.value) stepped.is in
    let left : Left tb c.in_ok-rest.rest = record { amount = stepped.answer; is = sym stepped.made; passes = ap (λ (q : Quantity). checked (length tb.known) q.unit) (sym stepped.made) ∙ ok } in
    c.registered.ensures tb left offers a
    ∙ sym (marked rows s.q s.c tb.known (rows-known tb) l.fs l.is ms.answer ms.is c.if-q.true ∙ ap (apply quantity_of) (bind_given _ stepped.is))

pub returns : goal.returns
returns c rows h =
    let s = c.args in
    let t = c.in_ok-t.t in
    let tabled : Accepted (base_rows rows) (admit rows) t = admitted_by (base_rows rows) (admit rows) t (sym c.in_ok-t.was ∙ h.is) in
    let tb : Table = record { rows = rows; known = tabled.rows; admits = tabled.is } in
    let a : Admits rows (Ok t) s.columns.now.nums s.columns.now.dens s.columns.now.scales s.columns.now.ranks s.columns.now.based = subst (λ r. Admits rows r s.columns.now.nums s.columns.now.dens s.columns.now.scales s.columns.now.ranks s.columns.now.based) c.in_ok-t.was h in
    let held : Stored tb t.len t.slots.len s.columns.now.nums s.columns.now.dens s.columns.now.scales s.columns.now.ranks s.columns.now.based = stored tb a in
    let l : Alone tb.known s.q.unit c.in_ok-o.o = alone tb.known s.q.unit c.empty-none.result c.empty-none.ensures c.in_ok-o.o (c.in_ok-o.ensures tb.known (reads held c.no_items-blank.ensures)) in
    let ms = answers (candidate_lists (length tb.known) s.c) _ (c.in_ok-check_candidates.ensures ∙ ap (λ n. tested (candidate_lists n s.c)) held.long) in
    ap Ok (c.with_mark.ensures l.fs (c.factors_of-l.ensures (view_of tb.known (l.fs ++ [])) l.fs l.has))
    ∙ sym (unmarked rows s.q s.c tb.known (rows-known tb) l.fs l.is ms.answer ms.is c.if-q.false)
