-- `open_over` meets its contract.
use mathlib.Core.Path.{sym, ap, ◌∙◌, subst}
use lib.ListN.{length}
use Rattle.exponents.proofs.Numbers.{apply_refuses}
use Rattle.units.specs.Lists.{both}
use Rattle.tables.specs.Rows.{admit, Admission, known, base_rows}
use Rattle.tables.specs.Held.{Pages}
use Rattle.resolution.specs.Held.{Reads}
use Rattle.resolution.proofs.Keyed.{admit_keyed}
use Rattle.lists.proofs.Checks.{admitted_by, table_refuses, table_stops, lists_stop, opens}
use Rattle.exponents.proofs.Handed.{handed_on}
use Rattle.lists.proofs.opening.open_over.Goals as goal

pub returns-in_err-t : goal.returns-in_err-t
returns-in_err-t c rows k =
    let s = c.args in
    handed_on _ _ c.from_residual.ensures.1 ∙ table_stops rows s.a s.b (base_rows rows) _ (table_refuses (base_rows rows) (admit rows) _ (sym c.in_err-t.was ∙ k.is))

pub returns-in_err-l : goal.returns-in_err-l
returns-in_err-l c rows k =
    let s = c.args in
    let h = admitted_by (base_rows rows) (admit rows) c.in_ok-t.t (sym c.in_ok-t.was ∙ k.is) in
    let reads : Reads h.rows c.in_ok-t.t.len c.no_items-none.result s.columns.now.nums s.columns.now.dens s.columns.now.scales s.columns.now.ranks s.columns.now.based = record {
      all = h.len;
      empty = c.no_items-none.ensures;
      paged = subst (λ (a : Admission). Pages a s.columns.now.nums s.columns.now.dens s.columns.now.scales s.columns.now.ranks s.columns.now.based) h.is k.pages;
      keyed = admit_keyed rows h.rows h.is;
    } in
    handed_on _ _ c.from_residual-in_err-l.ensures.1 ∙ lists_stop rows s.a s.b h.rows (ap known h.is) (base_rows rows) _ (apply_refuses _ (both (length h.rows) s.a s.b) _ (sym (c.in_err-l.ensures h.rows reads)))

pub returns : goal.returns
returns c rows k =
    let s = c.args in
    let h = admitted_by (base_rows rows) (admit rows) c.in_ok-t.t (sym c.in_ok-t.was ∙ k.is) in
    let reads : Reads h.rows c.in_ok-t.t.len c.no_items-none.result s.columns.now.nums s.columns.now.dens s.columns.now.scales s.columns.now.ranks s.columns.now.based = record {
      all = h.len;
      empty = c.no_items-none.ensures;
      paged = subst (λ (a : Admission). Pages a s.columns.now.nums s.columns.now.dens s.columns.now.scales s.columns.now.ranks s.columns.now.based) h.is k.pages;
      keyed = admit_keyed rows h.rows h.is;
    } in
    opens rows s.a s.b h.rows (ap known h.is) (base_rows rows) c.in_ok-l.l _ (c.in_ok-l.ensures h.rows reads) h.slots
