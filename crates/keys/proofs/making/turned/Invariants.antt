-- The numbers before x are zero, so that those from x on decide.
use Rattle.std.proofs.Common.{◌≡◌, drop}
use Rattle.keys.specs.Key as spec
use Rattle.keys.proofs.making.turned.Given as goal

abbrev pub invariant-loop-x : goal.invariant-loop-x
invariant-loop-x l = spec.below (spec.wholes l.m (drop l.x-index l.x-items)) ≡ spec.below (spec.wholes l.m l.x-items)
