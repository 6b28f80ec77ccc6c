-- `finished` meets its contract.
use borrow.Author.Rules.{rules}
use mathlib.Core.Path.{◌≡◌}
use lib.ListN.{length}
use Rattle.exponents.proofs.Words.{unmapped}
use Rattle.reduction.proofs.Adding.{summed_refused, summed_given}
use Rattle.reduction.proofs.bases.finished.Goals as goal

pub returns-in-Some : goal.returns-in-Some
returns-in-Some c v n fs h so = summed_refused v n fs c.args.p so c.in-Some.r c.in-Some.is

pub returns-in-None : goal.returns-in-None
returns-in-None c v n fs h so =
    let sums-full : length c.args.p.at ≡ 16 = search (rules, unmapped) in
    summed_given v n fs c.args.p so c.in-None.is h sums-full
