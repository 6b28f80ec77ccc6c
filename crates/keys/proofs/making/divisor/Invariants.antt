-- What is left is the divisor of g and the numbers from x on.
use Rattle.std.proofs.Common.{◌≡◌, drop}
use Rattle.keys.specs.Key as spec
use Rattle.keys.proofs.making.divisor.Given as goal

abbrev pub invariant-loop-x : goal.invariant-loop-x
invariant-loop-x l = spec.divisor l.g (spec.wholes l.m (drop l.x-index l.x-items)) ≡ spec.divisor 0 (spec.wholes l.m l.x-items)
