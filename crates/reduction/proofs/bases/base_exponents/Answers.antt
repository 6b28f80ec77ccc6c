-- `base_exponents` meets its contract.
use mathlib.Core.List.{[], ◌++◌}
use Rattle.reduction.proofs.bases.base_exponents.Goals as goal

pub returns : goal.returns
returns c v fs gs lends r s =
    let n = c.args.n in
    let first = c.with_list-p.ensures v n [] fs lends r (c.none_yet-none.ensures v lends.few) in
    c.finished.ensures v n (fs ++ gs) lends.few (c.with_list-q.ensures v n fs gs lends s first)
