-- `base_of_item` meets its contract.
use mathlib.Core.List.{[], ◌∷◌}
use Rattle.reduction.proofs.bases.base_of_item.Goals as goal

pub returns : goal.returns
returns c v f lends e h =
    let n = c.args.n in
    c.finished.ensures v n (f ∷ []) lends.few (c.with_factor-p.ensures v n [] f lends e h (c.none_yet-none.ensures v lends.few))
