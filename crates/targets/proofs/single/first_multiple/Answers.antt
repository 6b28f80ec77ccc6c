-- `first_multiple` meets its contract. The outer invariant: no factor before i fits. The inner one: `all` tells whether the products before s are x's; with all of them worked out, some differ or the quotient isn't whole.
use borrow.Author.Rules.{rules}
use borrow.Author.Tests.{eqb-true, eq-eqb}
use mathlib.Core.Path.{◌≡◌, refl, sym, ap, ◌∙◌, subst}
use mathlib.Core.Bool.{false}
use Prim.Native.Nat.{◌+◌, ◌<◌}
use native.Mathlib.Omega.{arith}
use lib.ListN.{length}
use Rattle.exponents.specs.Fractions.{nought, unit, faulty}
use Rattle.exponents.proofs.Handed.{handed_on}
use Rattle.exponents.proofs.Words.{unmapped}
use Rattle.tables.specs.declared.Item.{Item}
use Rattle.tables.specs.Order.{atom, of}
use Rattle.canonical.specs.Canonical.{same_all}
use Rattle.canonical.specs.Held.{with_factor}
use Rattle.reduction.proofs.Fitting.{fits_start, fits_on, fits_off, multiple-one}
use Rattle.reduction.proofs.Resolved.{nil_item, items_len}
use Rattle.targets.proofs.Searching.{last_off, last_on, unit_rule, by_scalar, by_zero, by_division, Had, Turn, single, whole, item_is, base_off, multiple_off, passed, found, fits_found, fits_passed, none_left, Ended, nothing, one, ended}
use Rattle.targets.proofs.single.first_multiple.Goals as goal
use Rattle.targets.proofs.single.first_multiple.Goals.{else-factors-test, then-factors-test+in_ok-y+then-same_exponents, then-factors-test+in_ok-y+else-same_exponents+then-k-lt16+then-not-same+in_ok-w+then-loop-s-test+in_ok-e+then-s-all, then-k-lt16+then-not-same+in_ok-w+else-loop-s-test, then-k-lt16+else-not-same, else-k-lt16}

pub factors-init : goal.factors-init
factors-init c = (refl, λ v cs xs g. refl)

pub returns-in_err-y : goal.returns-in_err-y
returns-in_err-y c v cs xs lends r f b =
    let g : Had v c.args.n c.args.bases.nums.now c.args.bases.dens.now c.args.c c.args.x cs xs = record { lends = lends; list = r; exps = f; based = b } in
    let n = items_len v c.args.c cs g.list.is in
    let long : c.capped-i-end.result ≡ length cs = c.capped-i-end.ensures.1 (omega (arith, g.list.short)) ∙ n in
    let here : c.factors.i < length cs = omega (arith, long, c.factors-test.true) in
    let t : Turn v c.args.n cs c.factors.i = record { so_far = c.factors.invariant.1 v cs xs g; here = here } in
    handed_on _ _ c.from_residual.ensures.1 ∙ base_off g t _ (c.in_err-y.ensures v (single cs c.factors.i unit) g.lends (item_is g c.factors.i nil_item _ unit here c.at_exponent-it.ensures) unit_rule)

pub loop-s-init : goal.loop-s-init
loop-s-init c = (refl, λ n. absurd (omega arith), λ h. fits_start _ _ _)

pub returns-in_err-w : goal.returns-in_err-w
returns-in_err-w c v cs xs lends r f b =
    let g : Had v c.args.n c.args.bases.nums.now c.args.bases.dens.now c.args.c c.args.x cs xs = record { lends = lends; list = r; exps = f; based = b } in
    let n = items_len v c.args.c cs g.list.is in
    let long : c.capped-i-end.result ≡ length cs = c.capped-i-end.ensures.1 (omega (arith, g.list.short)) ∙ n in
    let here : c.factors.i < length cs = omega (arith, long, c.factors-test.true) in
    let t : Turn v c.args.n cs c.factors.i = record { so_far = c.factors.invariant.1 v cs xs g; here = here } in
    let own = c.in_ok-y.ensures v (single cs c.factors.i unit) g.lends (item_is g c.factors.i nil_item _ unit here c.at_exponent-it.ensures) unit_rule in
    let long_x : length c.args.x ≡ 16 = search rules in
    let long_y : length c.in_ok-y.y ≡ 16 = search (rules, unmapped) in
    let apart : same_all c.args.x c.in_ok-y.y ≡ false = sym c.same_exponents.ensures ∙ c.if-same_exponents.false in
    let d = by_division c.args.x c.in_ok-y.y apart _ c.first_base-k.ensures long_x long_y c.if-k-lt16.true _ (sym c.same.ensures ∙ c.if-not-same.true) in
    handed_on _ _ c.from_residual-in_err-w.ensures.1 ∙ multiple_off g t own _ (d.ends _ _ c.in_err-w.ensures)

pub returns-in_err-e : goal.returns-in_err-e
returns-in_err-e c v cs xs lends r f b =
    let g : Had v c.args.n c.args.bases.nums.now c.args.bases.dens.now c.args.c c.args.x cs xs = record { lends = lends; list = r; exps = f; based = b } in
    let n = items_len v c.args.c cs g.list.is in
    let long : c.capped-i-end.result ≡ length cs = c.capped-i-end.ensures.1 (omega (arith, g.list.short)) ∙ n in
    let here : c.factors.i < length cs = omega (arith, long, c.factors-test.true) in
    let t : Turn v c.args.n cs c.factors.i = record { so_far = c.factors.invariant.1 v cs xs g; here = here } in
    let own = c.in_ok-y.ensures v (single cs c.factors.i unit) g.lends (item_is g c.factors.i nil_item _ unit here c.at_exponent-it.ensures) unit_rule in
    let long_x : length c.args.x ≡ 16 = search rules in
    let long_y : length c.in_ok-y.y ≡ 16 = search (rules, unmapped) in
    let apart : same_all c.args.x c.in_ok-y.y ≡ false = sym c.same_exponents.ensures ∙ c.if-same_exponents.false in
    let d = by_division c.args.x c.in_ok-y.y apart _ c.first_base-k.ensures long_x long_y c.if-k-lt16.true _ (sym c.same.ensures ∙ c.if-not-same.true) in
    let rule : faulty c.in_ok-w.w ≡ false = d.rule _ _ c.in_ok-w.ensures in
    let in_loop = c.loop-s-test.true in
    handed_on _ _ c.from_residual-in_err-e.ensures.1
    ∙ multiple_off g t own _
    (fits_off c.args.x c.in_ok-y.y c.in_ok-w.w c.loop-s.all c.loop-s.s (c.loop-s.invariant.2 rule) nought _ (omega (arith, in_loop, long_x)) (omega (arith, in_loop, long_y)) _ (c.in_err-e.ensures rule)
    ∙ d.goes_on _ _ c.in_ok-w.ensures)

pub loop-s-preserved : goal.loop-s-preserved
loop-s-preserved c =
    let long_x : length c.args.x ≡ 16 = search rules in
    let long_y : length c.in_ok-y.y ≡ 16 = search (rules, unmapped) in
    let in_loop = c.loop-s-test.true in
    let more = λ (h : faulty c.in_ok-w.w ≡ false). fits_on c.args.x c.in_ok-y.y c.in_ok-w.w c.loop-s.all c.loop-s.s (c.loop-s.invariant.2 h) _ _ (omega (arith, in_loop, long_x)) (omega (arith, in_loop, long_y)) _ (c.in_ok-e.ensures h) c.same-all.result c.same-all.ensures in
    (c.loop-s.invariant.0, λ n. let m : c.loop-s.s ≡ 15 = omega arith in last_off _ _ _ c.if-s-all.false (eq-eqb _ _ m), more)

pub factors-preserved : goal.factors-preserved
factors-preserved c = (
  elim c.if-k-lt16.branch [ then-k-lt16+then-not-same+in_ok-w+else-loop-s-test w ↦ w.found-is ∙ w.loop-s.invariant.0 ∙ c.factors.invariant.0 | then-k-lt16+else-not-same w ↦ w.found-is ∙ c.factors.invariant.0 | else-k-lt16 w ↦ w.found-is ∙ c.factors.invariant.0 ],
  λ v cs xs g.
      let n = items_len v c.args.c cs g.list.is in
      let long : c.capped-i-end.result ≡ length cs = c.capped-i-end.ensures.1 (omega (arith, g.list.short)) ∙ n in
      let here : c.factors.i < length cs = omega (arith, long, c.factors-test.true) in
      let t : Turn v c.args.n cs c.factors.i = record { so_far = c.factors.invariant.1 v cs xs g; here = here } in
      let own = c.in_ok-y.ensures v (single cs c.factors.i unit) g.lends (item_is g c.factors.i nil_item _ unit here c.at_exponent-it.ensures) unit_rule in
      let long_x : length c.args.x ≡ 16 = search rules in
      let long_y : length c.in_ok-y.y ≡ 16 = search (rules, unmapped) in
      let apart : same_all c.args.x c.in_ok-y.y ≡ false = sym c.same_exponents.ensures ∙ c.if-same_exponents.false in
      elim c.if-k-lt16.branch [
        | then-k-lt16+then-not-same+in_ok-w+else-loop-s-test w ↦
            let d = by_division c.args.x c.in_ok-y.y apart _ c.first_base-k.ensures long_x long_y w.if-k-lt16.true _ (sym w.same.ensures ∙ w.if-not-same.true) in
            let rule : faulty w.in_ok-w.w ≡ false = d.rule _ _ w.in_ok-w.ensures in
            let over = w.loop-s-test.false in
            fits_passed g t own w.in_ok-w.w (d.goes_on _ _ w.in_ok-w.ensures) w.loop-s.s (omega (arith, over, long_x)) (omega (arith, over, long_y)) w.loop-s.all (w.loop-s.invariant.2 rule) (w.loop-s.invariant.1 (omega (arith, over)))
        | then-k-lt16+else-not-same w ↦ passed g t own (by_zero c.args.x c.in_ok-y.y apart _ c.first_base-k.ensures long_x long_y w.if-k-lt16.true _ (sym w.same.ensures ∙ w.if-not-same.false))
        | else-k-lt16 w ↦ passed g t own (by_scalar c.args.x c.in_ok-y.y apart _ c.first_base-k.ensures long_x long_y w.if-k-lt16.false)
      ],
)

pub returns : goal.returns
returns c v cs xs lends r f b =
    let g : Had v c.args.n c.args.bases.nums.now c.args.bases.dens.now c.args.c c.args.x cs xs = record { lends = lends; list = r; exps = f; based = b } in
    let n = items_len v c.args.c cs g.list.is in
    let long : c.capped-i-end.result ≡ length cs = c.capped-i-end.ensures.1 (omega (arith, g.list.short)) ∙ n in
    let after : Ended v (whole v c.args.n cs) c.factors-test.found =
    elim c.factors-test.branch [
      | else-factors-test w ↦ subst (Ended v (whole v c.args.n cs)) (sym (w.found-is ∙ c.factors.invariant.0)) (nothing (none_left v c.args.n cs c.factors.i (c.factors.invariant.1 v cs xs g) (omega (arith, w.factors-test.false, long))))
      | then-factors-test+in_ok-y+then-same_exponents w ↦
          let here : c.factors.i < length cs = omega (arith, long, w.factors-test.true) in
          let t : Turn v c.args.n cs c.factors.i = record { so_far = c.factors.invariant.1 v cs xs g; here = here } in
          let is = item_is g c.factors.i nil_item _ unit here w.at_exponent-it.ensures in
          let own = w.in_ok-y.ensures v (single cs c.factors.i unit) g.lends is unit_rule in
          subst (Ended v (whole v c.args.n cs)) (sym w.found-is)
          (one (single cs c.factors.i unit) is (found g t own unit (multiple-one _ _ (sym w.same_exponents.ensures ∙ w.if-same_exponents.true)) refl))
      | then-factors-test+in_ok-y+else-same_exponents+then-k-lt16+then-not-same+in_ok-w+then-loop-s-test+in_ok-e+then-s-all w ↦
          let here : c.factors.i < length cs = omega (arith, long, w.factors-test.true) in
          let t : Turn v c.args.n cs c.factors.i = record { so_far = c.factors.invariant.1 v cs xs g; here = here } in
          let own = w.in_ok-y.ensures v (single cs c.factors.i unit) g.lends (item_is g c.factors.i nil_item _ unit here w.at_exponent-it.ensures) unit_rule in
          let long_x : length c.args.x ≡ 16 = search rules in
          let long_y : length w.in_ok-y.y ≡ 16 = search (rules, unmapped) in
          let apart : same_all c.args.x w.in_ok-y.y ≡ false = sym w.same_exponents.ensures ∙ w.if-same_exponents.false in
          let d = by_division c.args.x w.in_ok-y.y apart _ c.first_base-k.ensures long_x long_y w.if-k-lt16.true _ (sym w.same.ensures ∙ w.if-not-same.true) in
          let rule : faulty w.in_ok-w.w ≡ false = d.rule _ _ w.in_ok-w.ensures in
          let in_loop = w.loop-s-test.true in
          let more = λ (h : faulty w.in_ok-w.w ≡ false). fits_on c.args.x w.in_ok-y.y w.in_ok-w.w w.loop-s.all w.loop-s.s (w.loop-s.invariant.2 h) _ _ (omega (arith, in_loop, long_x)) (omega (arith, in_loop, long_y)) _ (w.in_ok-e.ensures h) w.same-all.result w.same-all.ensures in
          let e = last_on _ _ _ w.if-s-all.true in
          let n : w.loop-s.s ≡ 15 = eqb-true _ _ e.0 in
          let is = item_is g c.factors.i nil_item _ w.in_ok-w.w here (w.at_exponent.ensures ∙ ap (λ (y : Item). with_factor y (of (atom y.factor) w.in_ok-w.w)) w.at_exponent-it.ensures) in
          subst (Ended v (whole v c.args.n cs)) (sym w.found-is)
          (one (single cs c.factors.i w.in_ok-w.w) is
          (fits_found g t own w.in_ok-w.w (d.goes_on _ _ w.in_ok-w.ensures) (w.loop-s.s + 1) (omega (arith, n, long_x)) (omega (arith, n, long_y)) _ (more rule) e.1 e.2))
    ]
    in
    ended after c.listed.result c.listed.ensures
