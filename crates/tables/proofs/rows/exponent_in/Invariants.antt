-- What is left, from `acc` on, is the whole sum.
use Rattle.std.proofs.Common.{◌≡◌, List, false, drop}
use Rattle.exponents.specs.Fractions.{sum?, faulty}
use Rattle.tables.specs.Lists.{base_at}
use Rattle.tables.specs.Rows.{Facts, exp_at}
use Rattle.tables.specs.Held.{Reaching, Filed}
use Rattle.tables.proofs.Terms.{term_at}
use Rattle.tables.proofs.rows.exponent_in.Given as goal

abbrev pub invariant-loop-f : goal.invariant-loop-f
invariant-loop-f l = record {
  sound : faulty l.acc ≡ false;
  so_far : (ks : List Facts) → Reaching ks l.def → Filed ks l.lent.nums.now l.lent.dens.now → sum? (term_at ks l.s) l.acc (drop l.f-index l.def) ≡ base_at l.def (exp_at ks l.s);
}
