-- `row_at` meets its contract.
use borrow.Author.Rules.{rules}
use mathlib.Core.Path.{◌≡◌}
use lib.ListN.{length}
use Rattle.exponents.proofs.Words.{unmapped}
use Rattle.resolution.proofs.Gathering.{row_first, row_second}
use Rattle.resolution.proofs.row_at.Goals as goal

pub returns-then-i-a : goal.returns-then-i-a
returns-then-i-a c = row_first c.args.a.now c.args.b.now c.requires.0 c.requires.1 c.args.i _ c.if-i-a.true

pub returns-else-i-a : goal.returns-else-i-a
returns-else-i-a c =
    let b = c.args.b.now in
    let full : length b.at ≡ 16 = search (rules, unmapped) in
    row_second c.args.a.now b c.requires.0 c.requires.1 c.args.i _ full c.requires.2 c.if-i-a.false c.requires.3
