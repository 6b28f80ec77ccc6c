-- `registered` meets its contract.
use mathlib.Core.Path.{◌≡◌, sym, ap, ap₂, ◌∙◌}
use mathlib.Core.Bool.{◌&&◌}
use mathlib.Core.List.{List, []}
use Prim.Native.Nat.{◌≤◌}
use native.Mathlib.Omega.{arith}
use lib.Ieee.{Float}
use lib.ListN.{length}
use Rattle.exponents.specs.Outcome.{Ok}
use Rattle.exponents.specs.declared.Exponent.{Exponent}
use Rattle.exponents.proofs.Handed.{handed_on}
use Rattle.exponents.proofs.Numbers.{From, apply_answers, apply_refuses}
use Rattle.units.specs.declared.Factor.{Factor}
use Rattle.units.specs.declared.Quantity.{Quantity}
use Rattle.units.specs.Lists.{checked, pack}
use Rattle.tables.specs.Lists.{base}
use Rattle.tables.specs.Rows.{base_rows}
use Rattle.tables.specs.Held.{View, Resolved, pack_exps, exps_of}
use Rattle.reduction.specs.Reduction.{reduced}
use Rattle.reduction.proofs.Reducing.{reduced-packed}
use Rattle.conversion.specs.Conversion.{convert}
use Rattle.registry.specs.Registry.{near_one, is_single}
use Rattle.registry.specs.Held.{plain_view, rules_of, Stored, Checks, BaseExps}
use Rattle.registry.proofs.GivenLists.{listed}
use Rattle.registry.proofs.Looking.{plain_resolved, keyed, slots-are, stored, lends_rows, lends_plain, plain-bases, base_sized}
use Rattle.registry.proofs.Choosing.{amount_long}
use Rattle.registry.proofs.BaseList.{base_list_few, base_list_checked}
use Rattle.registry.proofs.Settling.{few_left, range_stops, fraction_stops, unit_stops, unit-taken, to_candidates}
use Rattle.registry.proofs.registered.Goals as goal

pub returns-then-l-lt2 : goal.returns-then-l-lt2
returns-then-l-lt2 c tb l k a =
    let rest_long : c.args.rest.unit.len ≡ length l.amount.1 = amount_long l.amount c.args.rest l.is in
    ap Ok l.is ∙ sym (few_left (rules_of tb) (base_rows tb.rows) k.lists l.amount (omega (arith, rest_long, c.if-l-lt2.true)))

pub returns-in_err-e : goal.returns-in_err-e
returns-in_err-e c tb l k a =
    let ls : List Factor = l.amount.1 in
    let rest_long : c.args.rest.unit.len ≡ length ls = amount_long l.amount c.args.rest l.is in
    let two : 2 ≤ length ls = omega (arith, rest_long, c.if-l-lt2.false) in
    let held : Stored tb c.args.t.len c.args.t.slots.len c.args.columns.now.nums c.args.columns.now.dens c.args.columns.now.scales c.args.columns.now.ranks c.args.columns.now.based = stored tb a in
    let view : View = plain_view tb.known ls in
    let seen : Resolved view c.plain-p.result ls = plain_resolved (listed l.passes) tb.known (c.plain-p.ensures tb.known ls (keyed tb).few held.paged.sized held.paged.basic l.passes) in
    let exps = c.in_err-e.ensures view ls (lends_plain held ls) seen ∙ ap (λ bs. exps_of (base bs ls)) (plain-bases held ls) in
    handed_on _ _ c.from_residual.ensures.1
    ∙ sym (range_stops (rules_of tb) (base_rows tb.rows) k.lists l.amount two _ (apply_refuses pack_exps (base (rules_of tb).bases ls) _ (sym exps)))

pub returns-in_err-s : goal.returns-in_err-s
returns-in_err-s c tb l k a =
    let ls : List Factor = l.amount.1 in
    let rest_long : c.args.rest.unit.len ≡ length ls = amount_long l.amount c.args.rest l.is in
    let two : 2 ≤ length ls = omega (arith, rest_long, c.if-l-lt2.false) in
    let held : Stored tb c.args.t.len c.args.t.slots.len c.args.columns.now.nums c.args.columns.now.dens c.args.columns.now.scales c.args.columns.now.ranks c.args.columns.now.based = stored tb a in
    let view : View = plain_view tb.known ls in
    let seen : Resolved view c.plain-p.result ls = plain_resolved (listed l.passes) tb.known (c.plain-p.ensures tb.known ls (keyed tb).few held.paged.sized held.paged.basic l.passes) in
    let exps = c.in_ok-e.ensures view ls (lends_plain held ls) seen ∙ ap (λ bs. exps_of (base bs ls)) (plain-bases held ls) in
    let xs : From pack_exps (base (rules_of tb).bases ls) c.in_ok-e.e = apply_answers pack_exps (base (rules_of tb).bases ls) c.in_ok-e.e (sym exps) in
    handed_on _ _ c.from_residual-in_err-s.ensures.1
    ∙ sym (fraction_stops (rules_of tb) (base_rows tb.rows) k.lists l.amount two xs.answer xs.is _ (sym (c.in_err-s.ensures view ls seen)))

pub returns-in_err-w : goal.returns-in_err-w
returns-in_err-w c tb l k a =
    let ls : List Factor = l.amount.1 in
    let rest_long : c.args.rest.unit.len ≡ length ls = amount_long l.amount c.args.rest l.is in
    let two : 2 ≤ length ls = omega (arith, rest_long, c.if-l-lt2.false) in
    let held : Stored tb c.args.t.len c.args.t.slots.len c.args.columns.now.nums c.args.columns.now.dens c.args.columns.now.scales c.args.columns.now.ranks c.args.columns.now.based = stored tb a in
    let view : View = plain_view tb.known ls in
    let seen : Resolved view c.plain-p.result ls = plain_resolved (listed l.passes) tb.known (c.plain-p.ensures tb.known ls (keyed tb).few held.paged.sized held.paged.basic l.passes) in
    let exps = c.in_ok-e.ensures view ls (lends_plain held ls) seen ∙ ap (λ bs. exps_of (base bs ls)) (plain-bases held ls) in
    let known_exps : From pack_exps (base (rules_of tb).bases ls) c.in_ok-e.e = apply_answers pack_exps (base (rules_of tb).bases ls) c.in_ok-e.e (sym exps) in
    let base_exps : BaseExps tb c.in_ok-e.e = record { exps = known_exps.answer; are = sym known_exps.made; sized = base_sized held ls known_exps.answer known_exps.is } in
    let xs : List Exponent = base_exps.exps in
    let fs : List Factor = reduced (base_rows tb.rows) xs in
    let size : Float = c.in_ok-s.s in
    let size_is = sym (c.in_ok-s.ensures view ls seen) in
    let unit_is : c.base_factors-u.result ≡ pack fs = c.base_factors-u.ensures (lends_rows held []).few ∙ ap pack (reduced-packed c.args.t.slots (base_rows tb.rows) c.in_ok-e.e xs (slots-are tb a) base_exps.are base_exps.sized) in
    let unit_checked : Checks tb c.base_factors-u.result = record { factors = fs; is = ap (checked (length tb.known)) unit_is ∙ base_list_checked tb.rows xs tb.known (rules_of tb).bases ls tb.admits known_exps.is } in
    let test_is : (c.is_single.result && c.near_one.result) ≡ (is_single fs && near_one size) = ap₂ ◌&&◌ (c.is_single.ensures fs unit_is (base_list_few tb.rows xs)) c.near_one.ensures in
    let into = sym (c.in_err-w.ensures tb (record { factors = ls; is = l.passes }) unit_checked held ∙ ap (λ (q : Quantity). convert (rules_of tb) ls fs q.value) l.is) in
    handed_on _ _ c.from_residual-in_err-w.ensures.1
    ∙ sym (unit_stops (rules_of tb) (base_rows tb.rows) k.lists l.amount two xs known_exps.is size size_is (sym test_is ∙ c.if-is_single-near_one.true) _ into)

pub returns-then-is_single-near_one : goal.returns-then-is_single-near_one
returns-then-is_single-near_one c tb l k a =
    let ls : List Factor = l.amount.1 in
    let rest_long : c.args.rest.unit.len ≡ length ls = amount_long l.amount c.args.rest l.is in
    let two : 2 ≤ length ls = omega (arith, rest_long, c.if-l-lt2.false) in
    let held : Stored tb c.args.t.len c.args.t.slots.len c.args.columns.now.nums c.args.columns.now.dens c.args.columns.now.scales c.args.columns.now.ranks c.args.columns.now.based = stored tb a in
    let view : View = plain_view tb.known ls in
    let seen : Resolved view c.plain-p.result ls = plain_resolved (listed l.passes) tb.known (c.plain-p.ensures tb.known ls (keyed tb).few held.paged.sized held.paged.basic l.passes) in
    let exps = c.in_ok-e.ensures view ls (lends_plain held ls) seen ∙ ap (λ bs. exps_of (base bs ls)) (plain-bases held ls) in
    let known_exps : From pack_exps (base (rules_of tb).bases ls) c.in_ok-e.e = apply_answers pack_exps (base (rules_of tb).bases ls) c.in_ok-e.e (sym exps) in
    let base_exps : BaseExps tb c.in_ok-e.e = record { exps = known_exps.answer; are = sym known_exps.made; sized = base_sized held ls known_exps.answer known_exps.is } in
    let xs : List Exponent = base_exps.exps in
    let fs : List Factor = reduced (base_rows tb.rows) xs in
    let size : Float = c.in_ok-s.s in
    let size_is = sym (c.in_ok-s.ensures view ls seen) in
    let unit_is : c.base_factors-u.result ≡ pack fs = c.base_factors-u.ensures (lends_rows held []).few ∙ ap pack (reduced-packed c.args.t.slots (base_rows tb.rows) c.in_ok-e.e xs (slots-are tb a) base_exps.are base_exps.sized) in
    let unit_checked : Checks tb c.base_factors-u.result = record { factors = fs; is = ap (checked (length tb.known)) unit_is ∙ base_list_checked tb.rows xs tb.known (rules_of tb).bases ls tb.admits known_exps.is } in
    let test_is : (c.is_single.result && c.near_one.result) ≡ (is_single fs && near_one size) = ap₂ ◌&&◌ (c.is_single.ensures fs unit_is (base_list_few tb.rows xs)) c.near_one.ensures in
    let into = sym (c.in_ok-w.ensures tb (record { factors = ls; is = l.passes }) unit_checked held ∙ ap (λ (q : Quantity). convert (rules_of tb) ls fs q.value) l.is) in
    ap Ok (c.with_mark.ensures fs unit_is)
    ∙ sym (unit-taken (rules_of tb) (base_rows tb.rows) k.lists l.amount two xs known_exps.is size size_is (sym test_is ∙ c.if-is_single-near_one.true) c.in_ok-w.w into)

pub returns : goal.returns
returns c tb l k a =
    let ls : List Factor = l.amount.1 in
    let rest_long : c.args.rest.unit.len ≡ length ls = amount_long l.amount c.args.rest l.is in
    let two : 2 ≤ length ls = omega (arith, rest_long, c.if-l-lt2.false) in
    let held : Stored tb c.args.t.len c.args.t.slots.len c.args.columns.now.nums c.args.columns.now.dens c.args.columns.now.scales c.args.columns.now.ranks c.args.columns.now.based = stored tb a in
    let view : View = plain_view tb.known ls in
    let seen : Resolved view c.plain-p.result ls = plain_resolved (listed l.passes) tb.known (c.plain-p.ensures tb.known ls (keyed tb).few held.paged.sized held.paged.basic l.passes) in
    let exps = c.in_ok-e.ensures view ls (lends_plain held ls) seen ∙ ap (λ bs. exps_of (base bs ls)) (plain-bases held ls) in
    let known_exps : From pack_exps (base (rules_of tb).bases ls) c.in_ok-e.e = apply_answers pack_exps (base (rules_of tb).bases ls) c.in_ok-e.e (sym exps) in
    let base_exps : BaseExps tb c.in_ok-e.e = record { exps = known_exps.answer; are = sym known_exps.made; sized = base_sized held ls known_exps.answer known_exps.is } in
    let xs : List Exponent = base_exps.exps in
    let fs : List Factor = reduced (base_rows tb.rows) xs in
    let size : Float = c.in_ok-s.s in
    let size_is = sym (c.in_ok-s.ensures view ls seen) in
    let unit_is : c.base_factors-u.result ≡ pack fs = c.base_factors-u.ensures (lends_rows held []).few ∙ ap pack (reduced-packed c.args.t.slots (base_rows tb.rows) c.in_ok-e.e xs (slots-are tb a) base_exps.are base_exps.sized) in
    let test_is : (c.is_single.result && c.near_one.result) ≡ (is_single fs && near_one size) = ap₂ ◌&&◌ (c.is_single.ensures fs unit_is (base_list_few tb.rows xs)) c.near_one.ensures in
    c.chosen.ensures tb l k base_exps held
    ∙ sym (to_candidates (rules_of tb) (base_rows tb.rows) k.lists l.amount two xs known_exps.is size size_is (sym test_is ∙ c.if-is_single-near_one.false))
