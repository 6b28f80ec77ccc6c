-- `toward` meets its contract.
use mathlib.Core.Path.{sym, ap, ◌∙◌}
use Rattle.canonical.proofs.Seen.{len_items}
use Rattle.tables.specs.Held.{rules_by}
use Rattle.simplification.specs.Steps.{by_groups}
use Rattle.simplification.specs.Held.{handed}
use Rattle.simplification.proofs.Stepping.{attempt_refused, toward_one}
use Rattle.simplification.proofs.steps.toward.Goals as goal

pub returns-in_default : goal.returns-in_default
returns-in_default c v fs ms cs lends l t r =
    let s = c.args in
    let next = by_groups (rules_by v s.n) s.x cs in
    sym (ap handed (toward_one (rules_by v s.n) s.x fs ms next (λ z. c.if-t-eq0.false (len_items v ms s.t t.is ∙ z)) ∙ attempt_refused ms next _ c.in_default.not-Units (sym (c.in-Err.ensures v fs ms lends l t))))
