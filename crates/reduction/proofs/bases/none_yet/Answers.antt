-- `none_yet` meets its contract.
use Rattle.reduction.proofs.Adding.{summed_none}
use Rattle.reduction.proofs.bases.none_yet.Goals as goal

-- `none_yet` meets its contract.
pub returns : goal.returns
returns c v h = summed_none v c.args.n h
