-- `admitted` meets its contract.
use borrow.Author.Rules.{rules}
use Rattle.intake.proofs.admitted.Goals as goal

pub returns : goal.returns
returns c = c.admit_bytes.ensures.is
