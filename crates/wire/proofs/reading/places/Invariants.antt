-- `places` meets its contract.
use mathlib.Core.Path.{◌≡◌}
use Rattle.wire.specs.Records.{places_at}
use Rattle.wire.proofs.reading.places.Given as goal

abbrev pub invariant-loop-i : goal.invariant-loop-i
invariant-loop-i g l = l.a ≡ places_at g.row.N l.i l.s l.at
