use Rattle.std.proofs.Common.{rules, tests, ◌∙◌}
use Rattle.std.proofs.lemmas.Iterator.{YieldsList-from_slice}
use Rattle.std.proofs.lemmas.Iterator.Search.{any_from_yields_List}
use Rattle.units.specs.Lists.{factor_fault}
use Rattle.units.proofs.Laws.{any_is}
use Rattle.units.proofs.lists.any_fault.Goals as goal

pub returns : goal.returns
returns c = any_from_yields_List factor_fault _ _ c.any.result c.any.ensures.ran (YieldsList-from_slice c.args.factors.now cc) (λ x b q k. search (rules, tests)) ∙ any_is factor_fault _
