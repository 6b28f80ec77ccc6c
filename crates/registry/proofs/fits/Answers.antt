-- `fits` meets its contract.
use borrow.Author.Rules.{rules}
use mathlib.Core.Path.{◌≡◌, sym, ap, ◌∙◌}
use native.Mathlib.Omega.{arith}
use lib.ListN.{length}
use Rattle.exponents.specs.Outcome.{Ok}
use Rattle.exponents.proofs.Handed.{handed_on}
use Rattle.exponents.proofs.Numbers.{From, apply_answers, apply_refuses}
use Rattle.exponents.proofs.Words.{unmapped}
use Rattle.tables.specs.Lists.{base}
use Rattle.tables.specs.Held.{pack_exps, exps_of, Resolved}
use Rattle.canonical.specs.Canonical.{same_all}
use Rattle.registry.specs.Held.{plain_view, rules_of}
use Rattle.registry.proofs.GivenLists.{listed, list_long}
use Rattle.registry.proofs.Looking.{plain_resolved, keyed, lends_plain, plain-bases, bases-same}
use Rattle.registry.proofs.Tested.{too_long, no_base, other_units, no_scale, compared}
use Rattle.registry.proofs.fits.Goals as goal

pub returns-then-most-m : goal.returns-then-most-m
returns-then-most-m c tb len k x g =
    let a = c.args in
    let l : length k.factors ≡ c.args.m.len = list_long (listed k.is) (search (rules, unmapped)) in
    too_long (rules_of tb) a.most x.exps a.s k.factors (omega arith)

pub returns-in_err-ys : goal.returns-in_err-ys
returns-in_err-ys c tb len k x g =
    let seen : Resolved (plain_view tb.known k.factors) c.plain-l.result k.factors = plain_resolved (listed k.is) tb.known (c.plain-l.ensures tb.known k.factors (keyed tb).few g.paged.sized g.paged.basic k.is) in
    let a = c.args in
    let l : length k.factors ≡ c.args.m.len = list_long (listed k.is) (search (rules, unmapped)) in
    let based = c.in_err-ys.ensures (plain_view tb.known k.factors) k.factors (lends_plain g k.factors) seen ∙ ap (λ bs. exps_of (base bs k.factors)) (plain-bases g k.factors) in
    handed_on _ _ c.from_residual.ensures.1
    ∙ no_base (rules_of tb) a.most x.exps a.s k.factors (omega arith) _ (apply_refuses pack_exps (base (rules_of tb).bases k.factors) _ (sym based))

pub returns-then-not-same_exponents : goal.returns-then-not-same_exponents
returns-then-not-same_exponents c tb len k x g =
    let seen : Resolved (plain_view tb.known k.factors) c.plain-l.result k.factors = plain_resolved (listed k.is) tb.known (c.plain-l.ensures tb.known k.factors (keyed tb).few g.paged.sized g.paged.basic k.is) in
    let based = c.in_ok-ys.ensures (plain_view tb.known k.factors) k.factors (lends_plain g k.factors) seen ∙ ap (λ bs. exps_of (base bs k.factors)) (plain-bases g k.factors) in
    let y : From pack_exps (base (rules_of tb).bases k.factors) c.in_ok-ys.ys = apply_answers pack_exps (base (rules_of tb).bases k.factors) c.in_ok-ys.ys (sym based) in
    let same : c.same_exponents.result ≡ same_all y.answer x.exps = c.same_exponents.ensures ∙ bases-same g k.factors y.answer _ _ x y.is (sym y.made) in
    let a = c.args in
    let l : length k.factors ≡ c.args.m.len = list_long (listed k.is) (search (rules, unmapped)) in
    other_units (rules_of tb) a.most x.exps a.s k.factors (omega arith) y.answer y.is (sym same ∙ c.if-not-same_exponents.true)

pub returns-in_err-u : goal.returns-in_err-u
returns-in_err-u c tb len k x g =
    let seen : Resolved (plain_view tb.known k.factors) c.plain-l.result k.factors = plain_resolved (listed k.is) tb.known (c.plain-l.ensures tb.known k.factors (keyed tb).few g.paged.sized g.paged.basic k.is) in
    let based = c.in_ok-ys.ensures (plain_view tb.known k.factors) k.factors (lends_plain g k.factors) seen ∙ ap (λ bs. exps_of (base bs k.factors)) (plain-bases g k.factors) in
    let y : From pack_exps (base (rules_of tb).bases k.factors) c.in_ok-ys.ys = apply_answers pack_exps (base (rules_of tb).bases k.factors) c.in_ok-ys.ys (sym based) in
    let same : c.same_exponents.result ≡ same_all y.answer x.exps = c.same_exponents.ensures ∙ bases-same g k.factors y.answer _ _ x y.is (sym y.made) in
    let a = c.args in
    let l : length k.factors ≡ c.args.m.len = list_long (listed k.is) (search (rules, unmapped)) in
    handed_on _ _ c.from_residual-in_err-u.ensures.1
    ∙ no_scale (rules_of tb) a.most x.exps a.s k.factors (omega arith) y.answer y.is (sym same ∙ c.if-not-same_exponents.false) _ (sym (c.in_err-u.ensures (plain_view tb.known k.factors) k.factors seen))

pub returns : goal.returns
returns c tb len k x g =
    let seen : Resolved (plain_view tb.known k.factors) c.plain-l.result k.factors = plain_resolved (listed k.is) tb.known (c.plain-l.ensures tb.known k.factors (keyed tb).few g.paged.sized g.paged.basic k.is) in
    let based = c.in_ok-ys.ensures (plain_view tb.known k.factors) k.factors (lends_plain g k.factors) seen ∙ ap (λ bs. exps_of (base bs k.factors)) (plain-bases g k.factors) in
    let y : From pack_exps (base (rules_of tb).bases k.factors) c.in_ok-ys.ys = apply_answers pack_exps (base (rules_of tb).bases k.factors) c.in_ok-ys.ys (sym based) in
    let same : c.same_exponents.result ≡ same_all y.answer x.exps = c.same_exponents.ensures ∙ bases-same g k.factors y.answer _ _ x y.is (sym y.made) in
    let a = c.args in
    let l : length k.factors ≡ c.args.m.len = list_long (listed k.is) (search (rules, unmapped)) in
    ap Ok c.close.ensures
    ∙ compared (rules_of tb) a.most x.exps a.s k.factors (omega arith) y.answer y.is (sym same ∙ c.if-not-same_exponents.false) _ (sym (c.in_ok-u.ensures (plain_view tb.known k.factors) k.factors seen))
