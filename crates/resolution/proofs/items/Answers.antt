-- `items` meets its contract. The invariant: the factors of the list before i are resolved.
use borrow.Author.Rules.{rules}
use mathlib.Core.Path.{◌≡◌, ap, ◌∙◌}
use native.Mathlib.Omega.{arith}
use lib.ListN.{length}
use lib.Seq.{take_all}
use Rattle.units.specs.Lists.{list_of}
use Rattle.units.proofs.Laws.{listed}
use Rattle.tables.specs.Held.{view_of, pack_items}
use Rattle.exponents.proofs.Words.{unmapped}
use Rattle.tables.proofs.Terms.{nil_factor}
use Rattle.tables.proofs.Resolved.{no_items}
use Rattle.resolution.proofs.Resolving.{items_more, item_of_lem}
use Rattle.resolution.proofs.items.Goals as goal

pub loop-i-init : goal.loop-i-init
loop-i-init c ks fs h = h.empty ∙ no_items (view_of ks fs)

pub loop-i-preserved : goal.loop-i-preserved
loop-i-preserved c =
    let full : length c.args.l.at ≡ 16 = search (rules, unmapped) in
    let o = c.loop-i in
    let l = c.args.l in
    let d = c.count_of-c in
    λ ks fs h.
    items_more (view_of ks fs) (list_of l) o.i nil_factor o.o c.item.result (omega (arith, listed l (full) c.requires.0)) (omega arith) (o.invariant ks fs h)
    (item_of_lem h o.i (omega arith) (omega arith) nil_factor d.result c.item.result (d.ensures ks fs h.counts) c.item.ensures)

pub returns : goal.returns
returns c ks fs h =
    let full : length c.args.l.at ≡ 16 = search (rules, unmapped) in
    let o = c.loop-i in
    let l = c.args.l in
    o.invariant ks fs h ∙ ap (pack_items (view_of ks fs)) (take_all o.i (list_of l) (omega (arith, listed l (full) c.requires.0)))
