-- `by_rule` meets its contract.
use mathlib.Core.Bool.{Bool, true}
use mathlib.Core.Path.{◌≡◌, refl, sym, ◌∙◌, ap}
use mathlib.Core.List.{List, map}
use Rattle.exponents.proofs.Handed.{handed_on}
use Rattle.floats.specs.Power.{tally}
use Rattle.floats.specs.declared.Tally.{Tally}
use Rattle.units.specs.declared.Factor.{Factor}
use Rattle.units.specs.Lists.{inverted}
use Rattle.tables.specs.Held.{View, rules_by}
use Rattle.tables.specs.Rules.{Rules, counted}
use Rattle.canonical.specs.Canonical.{canon}
use Rattle.canonical.proofs.Seen.{len_items}
use Rattle.canonical.proofs.Judged.{canon_formed, unformed}
use Rattle.common.specs.Common.{common}
use Rattle.common.proofs.Resolved.{over_resolved, over-merged, own_merged}
use Rattle.conversion.specs.Conversion.{standing, convert_by}
use Rattle.conversion.specs.Held.{ready_if, counted_by}
use Rattle.conversion.proofs.Rating.{count_refused, count_same, either_kept, neither_kept}
use Rattle.conversion.proofs.Converting.{form_stops, target_form_stops, keeps_value, by_scales, goes_on, own_given, none_common, none_lessened}
use Rattle.conversion.proofs.convert.by_rule.Goals as goal

-- the flag as code has tested it
by_flag : (R : Rules Tally) (v : View) (fs gs : List Factor) (x : Tally) {t u : Bool} → u ≡ t → convert_by R (ready_if v.order t) fs gs x ≡ convert_by R (ready_if v.order u) fs gs x
by_flag R v fs gs x e = ap (λ t. convert_by R (ready_if v.order t) fs gs x) (sym e)

pub returns-in_err-p : goal.returns-in_err-p
returns-in_err-p c v fs gs lends rl rm w only =
    let g = c.args in
    ap (λ o. counted_by o w) (handed_on _ _ c.from_residual.ensures.1)
    ∙ count_refused _ w
    ∙ form_stops (counted (rules_by v g.n)) (ready_if v.order g.merging) fs gs (tally w 0) _ (unformed v (canon v.order fs) _ (c.in_err-p.ensures v fs rl))

pub returns-in_err-q : goal.returns-in_err-q
returns-in_err-q c v fs gs lends rl rm w only =
    let g = c.args in
    let a = canon_formed v g.l fs _ rl (c.in_ok-p.ensures v fs rl) in
    ap (λ o. counted_by o w) (handed_on _ _ c.from_residual-in_err-q.ensures.1)
    ∙ count_refused _ w
    ∙ target_form_stops (counted (rules_by v g.n)) (ready_if v.order g.merging) fs gs (tally w 0) a.answer a.is _ (unformed v (canon v.order gs) _ (c.in_err-q.ensures v gs rm))

pub returns-then-zero-same : goal.returns-then-zero-same
returns-then-zero-same c v fs gs lends rl rm w only =
    let g = c.args in
    let a = canon_formed v g.l fs _ rl (c.in_ok-p.ensures v fs rl) in
    let b = canon_formed v g.m gs _ rm (c.in_ok-q.ensures v gs rm) in
    count_same w
    ∙ keeps_value (counted (rules_by v g.n)) (ready_if v.order g.merging) fs gs (tally w 0) a.answer a.is b.answer b.is
    (either_kept g.zero (c.same.ensures v a.answer b.answer a.list b.list) only c.if-zero-same.true)

pub returns-then-c-eq0 : goal.returns-then-c-eq0
returns-then-c-eq0 c v fs gs lends rl rm w only =
    let g = c.args in
    let R = counted (rules_by v g.n) in
    let a = canon_formed v g.l fs _ rl (c.in_ok-p.ensures v fs rl) in
    let b = canon_formed v g.m gs _ rm (c.in_ok-q.ensures v gs rm) in
    let cs = map inverted (common v.order a.answer b.answer) in
    let r = c.over_common-c.ensures v a.answer b.answer a.list b.list in
    by_scales R (ready_if v.order true) fs gs (tally w 0) a.answer a.is b.answer b.is w refl refl _ (λ h.
    c.apart.ensures v a.answer b.answer lends a.list b.list w
    ∙ none_lessened R a.answer b.answer (tally w 0) cs (sym (len_items v cs _ r) ∙ c.if-c-eq0.true)
    ∙ goes_on R (ready_if v.order true) fs gs (tally w 0) a.answer a.is b.answer b.is _ _ (own_merged v fs gs rl rm a.answer b.answer a.is b.is) (over-merged v fs gs rl rm a.answer b.answer a.is b.is)
    (neither_kept g.zero (c.same.ensures v a.answer b.answer a.list b.list) h c.if-zero-same.false))
    ∙ by_flag R v fs gs (tally w 0) c.if-merging.true

pub returns-then-merging : goal.returns-then-merging
returns-then-merging c v fs gs lends rl rm w only =
    let g = c.args in
    let R = counted (rules_by v g.n) in
    let a = canon_formed v g.l fs _ rl (c.in_ok-p.ensures v fs rl) in
    let b = canon_formed v g.m gs _ rm (c.in_ok-q.ensures v gs rm) in
    let cs = map inverted (common v.order a.answer b.answer) in
    let r = over_resolved v a.answer b.answer a.list b.list _ (c.over_common-c.ensures v a.answer b.answer a.list b.list) in
    by_scales R (ready_if v.order true) fs gs (tally w 0) a.answer a.is b.answer b.is w refl refl _ (λ h.
    c.lessening.ensures v a.answer b.answer cs lends a.list b.list r w
    ∙ goes_on R (ready_if v.order true) fs gs (tally w 0) a.answer a.is b.answer b.is _ _ (own_merged v fs gs rl rm a.answer b.answer a.is b.is) (over-merged v fs gs rl rm a.answer b.answer a.is b.is)
    (neither_kept g.zero (c.same.ensures v a.answer b.answer a.list b.list) h c.if-zero-same.false))
    ∙ by_flag R v fs gs (tally w 0) c.if-merging.true

pub returns-then-c-eq0-2 : goal.returns-then-c-eq0-2
returns-then-c-eq0-2 c v fs gs lends rl rm w only =
    let g = c.args in
    let R = counted (rules_by v g.n) in
    let a = canon_formed v g.l fs _ rl (c.in_ok-p.ensures v fs rl) in
    let b = canon_formed v g.m gs _ rm (c.in_ok-q.ensures v gs rm) in
    let cs = map inverted (common v.order a.answer b.answer) in
    let r = c.over_common-c.ensures v a.answer b.answer a.list b.list in
    by_scales R standing fs gs (tally w 0) a.answer a.is b.answer b.is w refl refl _ (λ h.
    c.apart-then-c-eq0-2.ensures v fs b.answer lends rl b.list w
    ∙ none_common R fs b.answer (tally w 0) cs (sym (len_items v cs _ r) ∙ c.if-c-eq0-2.true)
    ∙ own_given R standing fs gs (tally w 0) a.answer a.is b.answer b.is _ _ refl (over-merged v fs gs rl rm a.answer b.answer a.is b.is)
    (neither_kept g.zero (c.same.ensures v a.answer b.answer a.list b.list) h c.if-zero-same.false) _ refl)
    ∙ by_flag R v fs gs (tally w 0) c.if-merging.false

pub returns : goal.returns
returns c v fs gs lends rl rm w only =
    let g = c.args in
    let R = counted (rules_by v g.n) in
    let a = canon_formed v g.l fs _ rl (c.in_ok-p.ensures v fs rl) in
    let b = canon_formed v g.m gs _ rm (c.in_ok-q.ensures v gs rm) in
    let cs = map inverted (common v.order a.answer b.answer) in
    let r = over_resolved v a.answer b.answer a.list b.list _ (c.over_common-c.ensures v a.answer b.answer a.list b.list) in
    by_scales R standing fs gs (tally w 0) a.answer a.is b.answer b.is w refl refl _ (λ h.
    c.unlike.ensures v fs b.answer cs lends rl b.list r w
    ∙ own_given R standing fs gs (tally w 0) a.answer a.is b.answer b.is _ _ refl (over-merged v fs gs rl rm a.answer b.answer a.is b.is)
    (neither_kept g.zero (c.same.ensures v a.answer b.answer a.list b.list) h c.if-zero-same.false) _ refl)
    ∙ by_flag R v fs gs (tally w 0) c.if-merging.false
