-- `zeros` meets its contract.
use native.Mathlib.Omega.{arith}
use Rattle.tables.proofs.Telling.{blank_new}
use Rattle.tables.proofs.pages.Columns.zeros.Goals as goal

pub returns : goal.returns
returns c i = (blank_new 2048 2048).top i (omega arith)
