-- What is left is the common multiple of m and the denominators from x on.
use Rattle.std.proofs.Common.{◌≡◌, ◌≤◌, drop}
use Rattle.exponents.specs.Fractions.{most}
use Rattle.keys.specs.Key as spec
use Rattle.keys.proofs.making.multiple.Given as goal

abbrev pub invariant-loop-x : goal.invariant-loop-x
invariant-loop-x l = record {
  least : 1 ≤ l.m;
  small : l.m ≤ most;
  so_far : spec.multiple l.m (drop l.x-index l.x-items) ≡ spec.multiple 1 l.x-items;
}
