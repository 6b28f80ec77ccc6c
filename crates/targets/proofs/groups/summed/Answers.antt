-- `summed` meets its contract. The invariant: what the items before i have is in `acc`.
use mathlib.Core.Path.{◌∙◌}
use Prim.Native.Nat.{◌<◌}
use native.Mathlib.Omega.{arith}
use lib.ListN.{length, get_or}
use Rattle.exponents.proofs.Handed.{handed_on}
use Rattle.units.specs.Lists.{no_factor}
use Rattle.reduction.proofs.Resolved.{nil_item, items_len, item_at}
use Rattle.targets.proofs.Fitted.{summed_start, summed_on, summed_off, summed_end}
use Rattle.targets.proofs.groups.summed.Goals as goal

pub loop-i-init : goal.loop-i-init
loop-i-init c v b fs lends r = summed_start v c.args.d fs

pub returns-in_err-acc : goal.returns-in_err-acc
returns-in_err-acc c v b fs lends r =
    let k = c.loop-i in
    let a = c.args in
    let n = items_len v a.l fs r.is in
    let h = r.short in
    let same = c.capped-i-end.ensures.1 (omega arith) in
    let i : k.i < length fs = omega arith in
    handed_on _ _ c.from_residual.ensures.1 ∙ summed_off v a.d fs k.i k.acc (k.invariant v b fs lends r) no_factor i _ (c.in_err-acc.ensures v b (get_or fs k.i no_factor) lends (item_at v a.l fs r.is k.i nil_item no_factor i))

pub loop-i-preserved : goal.loop-i-preserved
loop-i-preserved c v b fs lends r =
    let k = c.loop-i in
    let a = c.args in
    let n = items_len v a.l fs r.is in
    let h = r.short in
    let same = c.capped-i-end.ensures.1 (omega arith) in
    let i : k.i < length fs = omega arith in
    summed_on v a.d fs k.i k.acc (k.invariant v b fs lends r) no_factor i _ (c.in_ok-acc.ensures v b (get_or fs k.i no_factor) lends (item_at v a.l fs r.is k.i nil_item no_factor i))

pub returns : goal.returns
returns c v b fs lends r =
    let k = c.loop-i in
    let a = c.args in
    let n = items_len v a.l fs r.is in
    let h = r.short in
    let same = c.capped-i-end.ensures.1 (omega arith) in
    summed_end v a.d fs k.i k.acc (k.invariant v b fs lends r) (omega arith)
