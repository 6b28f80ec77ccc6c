use native.Mathlib.Omega.{arith}
use Rattle.units.specs.Lists.{raised}
use Rattle.units.proofs.Laws.{listed}
use Rattle.units.proofs.Powers.{upto_end}
use Rattle.units.proofs.lists.each_power.Goals as goal

pub returns : goal.returns
returns c =
    let a = c.args in
    let n = listed a.l c.well_formed.1.0.1.1.0.1.0.1 (omega arith) in
    upto_end (raised a.e) a.l c.loop-i.o.at c.loop-i.i c.loop-i.invariant (omega arith) (omega arith) n
