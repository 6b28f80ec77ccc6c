-- `knotruns::unordered` meets its contract. The invariant: what is left to look at behind the last value decides.
use lib.ListN.{drop}
use mathlib.Core.Path.{◌≡◌}
use Rattle.knotruns.specs.Values.{unordered}
use Rattle.knotruns.proofs.Turns.{behind}
use Rattle.knotruns.proofs.unordered.Given as goal

abbrev pub invariant-loop-x : goal.invariant-loop-x
invariant-loop-x l = behind l.last (drop l.x-index l.values) ≡ unordered l.values
