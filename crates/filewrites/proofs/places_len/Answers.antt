-- `places_len` meets its contract.
use native.Mathlib.Omega.{arith}
use lib.ListN.{length-take}
use Rattle.tables.specs.Rows.{def_of}
use Rattle.files.specs.Records.{factor_file}
use Rattle.filewrites.proofs.Written.{length_on, length_done}
use Rattle.filewrites.proofs.places_len.Goals as goal

pub loop-f-preserved : goal.loop-f-preserved
loop-f-preserved c =
    let k = c.loop-f in
    (omega arith, length_on factor_file (def_of c.args.r) _ k.f-index k.n _ _ c.loop-f-test.true k.invariant.1 c.factor_len-n.ensures.0)

pub returns : goal.returns
returns c =
    let k = c.loop-f in
    (length_done factor_file (def_of c.args.r) k.f-index k.n _ c.loop-f-test.false k.invariant.1, omega (arith, length-take c.args.r.len c.args.r.def))
