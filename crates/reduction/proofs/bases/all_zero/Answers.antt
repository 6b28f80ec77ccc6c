-- `all_zero` meets its contract.
use Rattle.std.proofs.Common.{rules, tests, refl, ◌∙◌, ◌&&◌}
use Rattle.std.proofs.lemmas.Iterator.{YieldsList-from_slice}
use Rattle.std.proofs.lemmas.Iterator.Search.{all_from_yields_List}
use Rattle.std.proofs.lemmas.List.Recursion.{same_from_clauses}
use Rattle.std.specs.List.{list_all}
use Rattle.exponents.specs.declared.Exponent.{Exponent}
use Rattle.exponents.specs.Fractions.{nought, same}
use Rattle.canonical.specs.Canonical.{all_nought}
use Rattle.reduction.proofs.bases.all_zero.Goals as goal

pub returns : goal.returns
unfolding all_nought
returns c =
    all_from_yields_List (λ (x : Exponent). same x nought) _ _ c.all.result c.all.ensures.ran (YieldsList-from_slice c.args.a cc) (λ x b q k. search (rules, tests))
    ∙ same_from_clauses (list_all (λ (x : Exponent). same x nought)) all_nought (λ x r. same x nought && r) refl (λ _ _. refl) (λ _ _. refl) c.args.a
