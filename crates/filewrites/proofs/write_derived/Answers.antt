-- `write_derived` meets its contract: the kind, the factor, the number of factors, the factors.
use native.Mathlib.Omega.{arith}
use Rattle.filewrites.proofs.Written.{kind_length, derived_written}
use Rattle.filewrites.proofs.write_derived.Goals as goal

pub returns : goal.returns
returns c =
    let z = kind_length c.args.x c.args.r in
    (derived_written _ _ _ _ _ _ _ _ _ c.args.x c.args.r c.write_number-i.ensures.0 c.write_number-i.ensures.2 c.store.ensures.0 c.bits_of.ensures c.write_number-j.ensures.0 c.write_number-j.ensures.2 c.write_places.ensures.0, omega arith, omega arith)
