-- `chosen` meets its contract. The invariant: `best` is the best of the candidates before i, and those from i on choose from there as all do from the start.
use Rattle.registry.specs.Held.{Table, rules_of, Stored, Offers, Left, BaseExps}
use Rattle.registry.proofs.Choosing.{Underway}
use Rattle.registry.proofs.chosen.Given as goal

abbrev pub invariant-loop-i : goal.invariant-loop-i
invariant-loop-i l = (tb : Table) (r : Left tb l.rest) (k : Offers tb l.c) (x : BaseExps tb l.xs) → Stored tb l.len l.n l.columns.nums l.columns.dens l.columns.scales l.columns.ranks l.columns.based → Underway (rules_of tb) x.exps l.s r.amount k.lists l.best l.i
