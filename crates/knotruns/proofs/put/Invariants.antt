-- `knotruns::put` meets its contract. The invariant: the runs written and those to come are all.
use Prim.Native.Nat.{◌+◌, ◌≤◌, ◌<◌}
use lib.ListN.{length, take, drop}
use mathlib.Core.List.{◌++◌}
use mathlib.Core.Path.{◌≡◌}
use Rattle.knotruns.specs.Runs.{runs_from, runs, firsts, multiplicities}
use Rattle.knotruns.proofs.put.Given as goal

abbrev pub invariant-loop-x : goal.invariant-loop-x
invariant-loop-x l =
    let left = runs_from l.tolerance l.first l.k (drop l.x-index l.x-items) in
    let all = runs l.tolerance l.values in
    record {
      many : l.k ≤ l.x-index + 1;
      some : 0 < length left;
      number : l.j + length left ≡ length all;
      values : take l.j l.firsts ++ firsts left ≡ firsts all;
      counts : take l.j l.times ++ multiplicities left ≡ multiplicities all;
      values_kept : drop (length all) l.firsts ≡ drop (length all) l.initial.firsts;
      counts_kept : drop (length all) l.times ≡ drop (length all) l.initial.times;
    }
