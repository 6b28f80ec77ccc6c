-- `fits` meets its contract. The invariant: `all` tells whether the products before i were those of a.
use mathlib.Core.Path.{◌∙◌}
use native.Mathlib.Omega.{arith}
use Rattle.exponents.proofs.Handed.{handed_on}
use Rattle.exponents.specs.Fractions.{nought}
use Rattle.reduction.proofs.Fitting.{fits_start, fits_on, fits_off, fits_all, fits_not}
use Rattle.reduction.proofs.multiples.fits.Goals as goal

pub loop-i-init : goal.loop-i-init
loop-i-init c h = fits_start c.args.a c.args.b c.args.q

pub returns-in_err-w : goal.returns-in_err-w
returns-in_err-w c h =
    let k = c.loop-i in
    let a = c.args in
    handed_on _ _ c.from_residual.ensures.1 ∙ (fits_off a.a a.b a.q k.all k.i (k.invariant h) nought _ (omega arith) (omega arith) _ (c.in_err-w.ensures h))

pub loop-i-preserved : goal.loop-i-preserved
loop-i-preserved c h =
    let k = c.loop-i in
    let a = c.args in
    fits_on a.a a.b a.q k.all k.i (k.invariant h) _ _ (omega arith) (omega arith) _ (c.in_ok-w.ensures h) c.same-same.result c.same-same.ensures

pub returns-then-all : goal.returns-then-all
returns-then-all c h =
    let k = c.loop-i in
    let a = c.args in
    fits_all a.a a.b a.q k.all k.i (k.invariant h) (omega arith) (omega arith) c.if-all.true

pub returns-else-all : goal.returns-else-all
returns-else-all c h =
    let k = c.loop-i in
    let a = c.args in
    fits_not a.a a.b a.q k.all k.i (k.invariant h) (omega arith) (omega arith) c.if-all.false
