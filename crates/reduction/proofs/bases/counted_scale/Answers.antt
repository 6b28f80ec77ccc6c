-- `counted_scale` meets its contract. The invariant: the factors before the next are in `acc`, and what they took in `count`.
use mathlib.Core.Path.{refl, sym}
use native.Mathlib.Omega.{arith}
use Rattle.std.proofs.lemmas.Result.{err_from_is_err_and}
use Rattle.units.specs.Lists.{no_factor}
use Rattle.reduction.proofs.Resolved.{taken_few, taken_len, taken_at, item_on, item_off, items_end}
use Rattle.reduction.proofs.bases.counted_scale.Goals as goal

pub loop-it-init : goal.loop-it-init
loop-it-init c = (omega arith, λ v fs r. refl)

pub overflow_add-count : goal.overflow_add-count
overflow_add-count c = omega (arith, c.counted_factor-g.ensures.1, c.in_ok-t.ensures.1)

pub overflow_add-count-in-loop-it : goal.overflow_add-count-in-loop-it
overflow_add-count-in-loop-it c =
    omega (arith, c.loop-it.invariant.0, taken_few c.capped.result c.args.l.at c.capped.ensures.0, c.counted_factor-g.ensures.1, c.in_ok-t.ensures.1)

pub returns-in_err-t : goal.returns-in_err-t
returns-in_err-t c =
    let p = err_from_is_err_and c.from_residual.result c.from_residual.ensures.1 in
    let k = c.loop-it in
    let l = c.args.l in
    let m = c.capped.result in
    rw (p.1, p.2) (
      tt,
      λ v fs r.
          let long = taken_len v l fs r m c.capped.ensures in
          item_off v fs k.it-index no_factor (omega arith) _ (taken_at v l fs r m c.capped.ensures k.it-index _ no_factor (omega arith)) c.counted_factor-g.result c.counted_factor-g.ensures.0 c.args.start k.acc k.count (k.invariant.1 v fs r) _
          (sym c.in_err-t.ensures.0),
    )

pub loop-it-preserved : goal.loop-it-preserved
loop-it-preserved c =
    let k = c.loop-it in
    let l = c.args.l in
    let m = c.capped.result in (
      omega (arith, k.invariant.0, c.counted_factor-g.ensures.1, c.in_ok-t.ensures.1),
      λ v fs r.
          let long = taken_len v l fs r m c.capped.ensures in
          item_on v fs k.it-index no_factor (omega arith) _ (taken_at v l fs r m c.capped.ensures k.it-index _ no_factor (omega arith)) c.counted_factor-g.result c.counted_factor-g.ensures.0 c.args.start k.acc k.count (k.invariant.1 v fs r) _
          (sym c.in_ok-t.ensures.0),
    )

pub returns : goal.returns
returns c =
    let k = c.loop-it in
    let l = c.args.l in
    let m = c.capped.result in (
      omega (arith, k.invariant.0, taken_few m l.at c.capped.ensures.0),
      λ v fs r.
          let long = taken_len v l fs r m c.capped.ensures in
          items_end v fs k.it-index c.args.start k.acc k.count (omega arith) (k.invariant.1 v fs r),
    )
