-- `put_exps` meets its contract. The invariant: those from s on are still to be put.
use mathlib.Core.Path.{◌≡◌}
use Prim.Native.Nat.{◌+◌}
use lib.ListN.{length, drop}
use lib.Seq.{sets}
use Rattle.tables.specs.Held.{tops, bottoms}
use Rattle.tables.proofs.pages.put_exps.Given as goal

abbrev pub invariant-loop-s : goal.invariant-loop-s
invariant-loop-s l =
    (length l.nums ≡ length l.initial.nums) × (length l.dens ≡ length l.initial.dens)
    × (sets l.nums (l.at + l.s) (tops (drop l.s l.e)) ≡ sets l.initial.nums l.at (tops l.e)) × (sets l.dens (l.at + l.s) (bottoms (drop l.s l.e)) ≡ sets l.initial.dens l.at (bottoms l.e))
