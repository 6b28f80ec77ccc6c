-- `base_of` meets its contract.
use mathlib.Core.List.{[]}
use Rattle.reduction.proofs.bases.base_of.Goals as goal

pub returns : goal.returns
returns c v fs lends r =
    let n = c.args.n in
    c.finished.ensures v n fs lends.few (c.with_list-p.ensures v n [] fs lends r (c.none_yet-none.ensures v lends.few))
