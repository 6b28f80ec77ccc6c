-- The base rows before s are worked out.
use Rattle.std.proofs.Common.{◌≡◌, List, length}
use Rattle.tables.specs.Rows.{Facts, bases}
use Rattle.tables.specs.Held.{Reaching, Filed}
use Rattle.tables.proofs.Terms.{Exping}
use Rattle.tables.proofs.rows.exps_of.Given as goal

abbrev pub invariant-loop-s : goal.invariant-loop-s
invariant-loop-s l = record {
  long : length l.out ≡ 16;
  so_far : (ks : List Facts) → Reaching ks l.def → Filed ks l.lent.nums.now l.lent.dens.now → Exping l.def (bases l.n ks) l.out l.s;
}
