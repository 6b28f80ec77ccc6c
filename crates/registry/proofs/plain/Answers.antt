-- `plain` meets its contract. The invariant: the factors before i are handed out with what is known of their rows.
use borrow.Author.Rules.{rules}
use mathlib.Core.Path.{◌≡◌, sym, ap, ◌∙◌}
use mathlib.Core.List.{List}
use Prim.Native.Nat.{ℕ, ◌<◌}
use native.Mathlib.Omega.{arith}
use lib.ListN.{length, get_or}
use lib.Seq.{take_all}
use lib.Ieee.{nan}
use Rattle.exponents.specs.Outcome.{Ok}
use Rattle.floats.specs.Power.{one}
use Rattle.units.specs.declared.Factor.{Factor}
use Rattle.units.specs.Lists.{checked}
use Rattle.tables.specs.Held.{item_of, pack_items}
use Rattle.tables.proofs.Terms.{get_any, nil_factor}
use Rattle.exponents.proofs.Words.{unmapped}
use Rattle.tables.proofs.Resolved.{no_items}
use Rattle.resolution.proofs.Resolving.{items_more}
use Rattle.registry.specs.Held.{plain_view}
use Rattle.registry.proofs.GivenLists.{listed, list_long, factor_at_lem, row_there}
use Rattle.registry.proofs.Looking.{plain_item}
use Rattle.registry.proofs.plain.Goals as goal

pub loop-i-init : goal.loop-i-init
loop-i-init c ks fs h sized basic p = c.no_items-o.ensures ∙ no_items (plain_view ks fs)

pub returns-then-row-ge128 : goal.returns-then-row-ge128
returns-then-row-ge128 c ks fs h sized basic p =
    let full : length c.args.l.at ≡ 16 = search (rules, unmapped) in
    let turns : (rows : ℕ) → (fs : List Factor) → (p : checked rows c.args.l ≡ Ok fs) → length fs ≡ c.capped-n.result = λ rows fs p. list_long (listed p) (full) ∙ sym (c.capped-n.ensures.1 (listed p).short) in
    let there : (rows : ℕ) → (fs : List Factor) → (p : checked rows c.args.l ≡ Ok fs) → (get_or c.args.l.at c.loop-i.i nil_factor).row < rows = λ rows fs p.
    let n = turns rows fs p in
    let m = list_long (listed p) (full) in
    rw (factor_at_lem (listed p) c.loop-i.i nil_factor (omega arith)) (row_there (listed p) c.loop-i.i nil_factor (omega arith)) in
    absurd (omega (arith, there (length ks) fs p, h))

pub loop-i-preserved : goal.loop-i-preserved
loop-i-preserved c ks fs h sized basic p =
    let full : length c.args.l.at ≡ 16 = search (rules, unmapped) in
    let turns : (rows : ℕ) → (fs : List Factor) → (p : checked rows c.args.l ≡ Ok fs) → length fs ≡ c.capped-n.result = λ rows fs p. list_long (listed p) (full) ∙ sym (c.capped-n.ensures.1 (listed p).short) in
    let there : (rows : ℕ) → (fs : List Factor) → (p : checked rows c.args.l ≡ Ok fs) → (get_or c.args.l.at c.loop-i.i nil_factor).row < rows = λ rows fs p.
    let n = turns rows fs p in
    let m = list_long (listed p) (full) in
    rw (factor_at_lem (listed p) c.loop-i.i nil_factor (omega arith)) (row_there (listed p) c.loop-i.i nil_factor (omega arith)) in
    let a = c.args in
    let f = get_or a.l.at c.loop-i.i nil_factor in
    let n = turns (length ks) fs p in
    let m = list_long (listed p) (full) in
    items_more (plain_view ks fs) fs c.loop-i.i nil_factor c.loop-i.o _ (omega arith) (omega arith) (c.loop-i.invariant ks fs h sized basic p)
    (plain_item ks fs f _ _ (get_any a.columns.now.scales f.row nan one (omega arith) ∙ sized f.row (there (length ks) fs p)) (basic f.row (there (length ks) fs p)) ∙ ap (item_of (plain_view ks fs)) (factor_at_lem (listed p) c.loop-i.i nil_factor (omega arith)))

pub returns : goal.returns
returns c ks fs h sized basic p =
    let full : length c.args.l.at ≡ 16 = search (rules, unmapped) in
    let turns : (rows : ℕ) → (fs : List Factor) → (p : checked rows c.args.l ≡ Ok fs) → length fs ≡ c.capped-n.result = λ rows fs p. list_long (listed p) (full) ∙ sym (c.capped-n.ensures.1 (listed p).short) in
    let n = turns (length ks) fs p in
    c.loop-i.invariant ks fs h sized basic p ∙ ap (pack_items (plain_view ks fs)) (take_all c.loop-i.i fs (omega arith))
