-- `write_places` meets its contract.
use Rattle.tables.specs.Rows.{def_of}
use Rattle.files.specs.Records.{factor_file}
use Rattle.filewrites.proofs.Written.{storing_room, storing_on, storing_end}
use Rattle.filewrites.proofs.write_places.Goals as goal

pub write_factor-p-requires : goal.write_factor-p-requires
write_factor-p-requires c =
    let k = c.loop-f in
    storing_room factor_file (def_of c.args.r) _ _ _ _ _ k.f-index c.loop-f-test.true k.invariant c.requires.1

pub loop-f-preserved : goal.loop-f-preserved
loop-f-preserved c =
    let k = c.loop-f in
    let w = c.write_factor-p.ensures in
    storing_on factor_file (def_of c.args.r) _ _ _ k.out k.p k.f-index _ _ c.loop-f-test.true k.invariant w.0 w.1 w.2

pub returns : goal.returns
returns c =
    let k = c.loop-f in
    storing_end factor_file (def_of c.args.r) _ _ k.out k.p k.f-index c.loop-f-test.false k.invariant
