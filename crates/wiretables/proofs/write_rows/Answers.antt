-- `write_rows` meets its contract.
use borrow.Author.Rules.{rules}
use mathlib.Core.Path.{◌≡◌, refl, ◌∙◌}
use native.Mathlib.Omega.{arith}
use lib.ListN.{length}
use Rattle.exponents.proofs.Words.{unmapped}
use Rattle.wire.specs.Bytes.{run_bytes}
use Rattle.wire.specs.Records.{row_bytes}
use Rattle.wiretables.proofs.Appending.{run_length, run-turn}
use Rattle.wiretables.proofs.write_rows.Goals as goal

pub loop-i-init : goal.loop-i-init
unfolding run_bytes
loop-i-init c = (refl, refl, refl)

pub loop-i-preserved : goal.loop-i-preserved
loop-i-preserved c =
    let sized : length c.args.rows.at ≡ 128 = search (rules, unmapped) in
    let k = c.loop-i in
    let p = c.put.ensures in
    let z = sized in (
      p.0 ∙ run-turn row_bytes 176 k.i c.args.rows.at _ (omega arith) k.invariant.2 _ _ _ k.invariant.0,
      omega arith,
      run_length row_bytes 176 k.i c.args.rows.at _ (omega arith) k.invariant.2 p.2,
    )

pub returns : goal.returns
returns c =
    let n : c.loop-i.i ≡ c.args.n = omega arith in
    rw (← n) c.loop-i.invariant
