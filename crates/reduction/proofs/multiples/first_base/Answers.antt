-- `first_base` meets its contract.
use Rattle.std.proofs.Common.{rules, tests, ◌≡◌, ap, ◌∙◌, not, length}
use Rattle.std.proofs.lemmas.Iterator.{YieldsList-from_slice}
use Rattle.std.proofs.lemmas.Iterator.Search.{position_from_yields_List}
use Rattle.std.specs.Option.{unwrap_or}
use Rattle.exponents.specs.declared.Exponent.{Exponent}
use Rattle.exponents.specs.Fractions.{nought, same}
use Rattle.exponents.proofs.Words.{unmapped}
use Rattle.reduction.proofs.Fitting.{first_found}
use Rattle.reduction.proofs.multiples.first_base.Goals as goal

pub returns : goal.returns
returns c =
    let full : length c.args.a ≡ 16 = search (rules, unmapped) in
    c.unwrap_or.ensures
    ∙ ap (λ o. unwrap_or o 16) (position_from_yields_List (λ (x : Exponent). not (same x nought)) _ _ c.position.result c.position.ensures.ran (YieldsList-from_slice c.args.a cc) (λ x b q k. search (rules, tests)))
    ∙ first_found c.args.a full
