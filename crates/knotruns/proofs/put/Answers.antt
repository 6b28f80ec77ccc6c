-- `knotruns::put` meets its contract: behind the loop one run is left to write.
use native.Mathlib.Omega.{arith}
use Rattle.knotruns.specs.Runs.{runs}
use Rattle.knotruns.proofs.Turns.{last, written_all}
use Rattle.knotruns.proofs.put.Goals as goal

pub returns : goal.returns
returns c =
    let a = c.args in
    let w = c.loop-x.invariant in
    let e = last a.tolerance c.loop-x.first c.loop-x.k _ c.loop-x.x-index c.loop-x-test.false in (
      written_all (λ r. r.first) _ _ (runs a.tolerance a.values.now) _ _ _ e w.values w.number (omega arith) w.values_kept,
      written_all (λ r. r.times) _ _ (runs a.tolerance a.values.now) _ _ _ e w.counts w.number (omega arith) w.counts_kept,
    )
