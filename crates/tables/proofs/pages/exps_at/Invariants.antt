-- `exps_at` meets its contract. The invariant: the first s exponents are read.
use mathlib.Core.Path.{◌≡◌}
use lib.ListN.{length, take, drop}
use Rattle.tables.specs.Held.{tops, bottoms}
use Rattle.tables.proofs.pages.exps_at.Given as goal

abbrev pub invariant-loop-s : goal.invariant-loop-s
invariant-loop-s l =
    (length l.e ≡ 16) × (take l.s (tops l.e) ≡ take l.s (take 16 (drop l.at l.bases.nums.now))) × (take l.s (bottoms l.e) ≡ take l.s (take 16 (drop l.at l.bases.dens.now)))
