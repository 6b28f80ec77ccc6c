-- `resolve` meets its contract. The invariant: the rows and the keys of the factors before i of both lists are gathered.
use mathlib.Core.List.{List}
use Rattle.tables.specs.Rows.{Facts}
use Rattle.resolution.specs.Held.{Reads}
use Rattle.resolution.proofs.Gathering.{Gathers}
use Rattle.resolution.proofs.resolve.Given as goal

abbrev pub invariant-loop-i : goal.invariant-loop-i
invariant-loop-i l = Gathers l.len l.a l.b l.i l.named l.keys (λ (ks : List Facts). Reads ks l.len l.none l.columns.nums l.columns.dens l.columns.scales l.columns.ranks l.columns.based)
