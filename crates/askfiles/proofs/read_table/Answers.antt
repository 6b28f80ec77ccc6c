-- `read_table` meets its contract.
use mathlib.Core.List.{[]}
use mathlib.Core.Path.{sym, ◌∙◌}
use Rattle.exponents.proofs.Handed.{handed_on}
use Rattle.askfiles.proofs.Rowed.{read_refused, read_short, read_sent}
use Rattle.askfiles.proofs.read_table.Goals as goal

pub returns-in_err-rows : goal.returns-in_err-rows
returns-in_err-rows c = read_refused _ _ _ _ (sym c.in_err-rows.was ∙ c.read_table.ensures) _ (handed_on _ _ c.from_residual.ensures.1)

pub rows_behind-requires : goal.rows_behind-requires
rows_behind-requires c = read_short _ _ [] _ (sym c.in_ok-rows.was ∙ c.read_table.ensures)

pub returns : goal.returns
returns c = read_sent _ _ _ _ (sym c.in_ok-rows.was ∙ c.read_table.ensures) _ _ c.rows_behind.ensures
