-- `simplified` meets its contract.
use mathlib.Core.Path.{sym, ap}
use mathlib.Core.List.{[]}
use Rattle.tables.specs.Held.{rules_by}
use Rattle.tables.proofs.Resolved.{none_resolved}
use Rattle.simplification.specs.Steps.{further, simplify}
use Rattle.simplification.specs.Held.{handed}
use Rattle.simplification.proofs.Stepping.{attempt_refused}
use Rattle.simplification.proofs.steps.simplified.Goals as goal

pub returns-in_default : goal.returns-in_default
unfolding simplify
returns-in_default c v fs lends l =
    let s = c.args in
    sym (ap handed (attempt_refused [] (further (rules_by v s.n) s.x fs) _ c.in_default.not-Units (sym (c.in-Err.ensures v fs [] lends l (none_resolved v l.placed _ c.no_items-scalar.ensures)))))
