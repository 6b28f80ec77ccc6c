-- `knotruns::survey` meets its contract. The invariant: the run at hand and the knots left decide what the whole does.
use Prim.Native.Nat.{◌+◌, ◌≤◌}
use lib.ListN.{length, drop}
use mathlib.Core.Path.{◌≡◌}
use Rattle.knotruns.specs.Runs.{runs_from, runs, crowded}
use Rattle.knotruns.proofs.survey.Given as goal

abbrev pub invariant-loop-x : goal.invariant-loop-x
invariant-loop-x l = record {
  many : l.times ≤ l.x-index + 1;
  few : l.number ≤ l.x-index;
  crowd : crowded l.most (runs_from l.tolerance l.first l.times (drop l.x-index l.x-items)) ≡ crowded l.most (runs l.tolerance l.values);
  number : l.number + length (runs_from l.tolerance l.first l.times (drop l.x-index l.x-items)) ≡ length (runs l.tolerance l.values);
}
