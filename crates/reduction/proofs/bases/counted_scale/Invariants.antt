-- `counted_scale` meets its contract. The invariant: the factors before the next are in `acc`, and what they took in `count`.
use mathlib.Core.Path.{◌≡◌}
use mathlib.Core.List.{List}
use Prim.Native.Nat.{◌*◌, ◌≤◌}
use lib.ListN.{drop}
use Rattle.units.specs.declared.Factor.{Factor}
use Rattle.floats.specs.Power.{tally}
use Rattle.tables.specs.Scale.{doubles, counting, scale_from_lem}
use Rattle.tables.specs.Held.{View, Resolved}
use Rattle.reduction.proofs.Resolved.{sizes}
use Rattle.reduction.proofs.bases.counted_scale.Given as goal

abbrev pub invariant-loop-it : goal.invariant-loop-it
invariant-loop-it l =
    (l.count ≤ l.it-index * 122)
    × ((v : View) (fs : List Factor) → Resolved v l.fn.l fs → scale_from_lem (counting doubles) (sizes v) (tally l.acc l.count) (drop l.it-index fs) ≡ scale_from_lem (counting doubles) (sizes v) (tally l.fn.start 0) fs)
