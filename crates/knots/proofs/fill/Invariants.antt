-- `fill` meets its contract. The invariant: the conversion at hand and the shelf serve their places, and the values so far are the conversions'.
use mathlib.Core.Path.{◌≡◌}
use lib.ListN.{length}
use Rattle.units.specs.declared.Rows.{Rows}
use Rattle.tables.specs.Held.{Admits}
use Rattle.knots.proofs.Filling.{Hand, Upto}
use Rattle.knots.proofs.fill.Given as goal

abbrev pub invariant-loop-i : goal.invariant-loop-i
invariant-loop-i l = record {
  size : length l.values ≡ length l.initial.values;
  hand : Hand (λ rows. Admits rows l.t l.columns.nums l.columns.dens l.columns.scales l.columns.ranks l.columns.based) l.target l.knots l.rate l.place l.shelf;
  so_far : (rows : Rows) → Admits rows l.t l.columns.nums l.columns.dens l.columns.scales l.columns.ranks l.columns.based → Upto rows l.target l.knots l.n l.i l.values;
}
