-- `with_list` meets its contract. The invariant: the factors before the next are in.
use mathlib.Core.List.{◌++◌}
use native.Mathlib.Omega.{arith}
use lib.ListN.{take, get_or}
use Rattle.units.specs.Lists.{no_factor}
use Rattle.reduction.proofs.Resolved.{taken_len, taken_at, sound_at}
use Rattle.reduction.proofs.Adding.{along_none, along_on, along_end}
use Rattle.reduction.proofs.bases.with_list.Goals as goal

pub loop-it-init : goal.loop-it-init
loop-it-init c v n fs gs lends r so = along_none v n fs gs c.args.p so

pub loop-it-preserved : goal.loop-it-preserved
loop-it-preserved c v n fs gs lends r so =
    let k = c.loop-it in
    let l = c.args.l in
    let i = k.it-index in
    let m = c.capped.result in
    let long = taken_len v l gs r m c.capped.ensures in
    along_on v n fs gs c.with_factor-o.result i no_factor (omega arith)
    (c.with_factor-o.ensures v n (fs ++ take i gs) (get_or gs i no_factor) lends (taken_at v l gs r m c.capped.ensures i _ no_factor (omega arith)) (sound_at gs i no_factor (omega arith) r.shaped) (k.invariant v n fs gs lends r so))

pub returns : goal.returns
returns c v n fs gs lends r so =
    let k = c.loop-it in
    let long = taken_len v c.args.l gs r c.capped.result c.capped.ensures in
    along_end v n fs gs k.o k.it-index (omega arith) (k.invariant v n fs gs lends r so)
