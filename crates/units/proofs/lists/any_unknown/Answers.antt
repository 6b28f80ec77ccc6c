use Rattle.std.proofs.Common.{rules, tests, ◌∙◌}
use Rattle.std.proofs.lemmas.Iterator.{YieldsList-from_slice}
use Rattle.std.proofs.lemmas.Iterator.Search.{any_from_yields_List}
use Rattle.units.specs.Lists.{unknown}
use Rattle.units.proofs.Laws.{any_is}
use Rattle.units.proofs.lists.any_unknown.Goals as goal

pub returns : goal.returns
returns c = any_from_yields_List (unknown c.args.rows) _ _ c.any.result c.any.ensures.ran (YieldsList-from_slice c.args.factors.now cc) (λ x b q k. search (rules, tests)) ∙ any_is (unknown c.args.rows) _
