-- `clear` meets its contract.
use Rattle.tables.proofs.Telling.{blank_filled}
use Rattle.tables.proofs.pages.Columns.clear.Goals as goal

pub returns : goal.returns
returns c = blank_filled _ _ _ c.requires (c.fill.ensures.after (λ y e. e))
