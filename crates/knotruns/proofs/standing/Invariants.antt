-- `knotruns::standing` meets its contract. The invariant: the walk stands where its definition does.
use mathlib.Core.Path.{◌≡◌}
use Rattle.knotruns.specs.Held.{standing}
use Rattle.knotruns.proofs.standing.Given as goal

abbrev pub invariant-loop-next : goal.invariant-loop-next
invariant-loop-next l = l.first ≡ standing l.tolerance l.values l.next-index
