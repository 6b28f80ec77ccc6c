-- `rate_at` meets its contract.
use mathlib.Core.Path.{sym, ap, ◌∙◌}
use Rattle.tables.specs.Rows.{base_rows}
use Rattle.lists.specs.Held.{opening, opened_of}
use Rattle.lists.proofs.Ends.{tells_of}
use Rattle.knots.proofs.rate_at.Goals as goal

pub returns : goal.returns
returns c rows a =
    let m = c.args.target in
    record { so = λ q e. c.merged_rate_over.ensures rows q m (record { is = c.open_over-o.ensures rows a ∙ ap (λ u. opened_of (base_rows rows) (opening rows u m)) (c.read_list-l.ensures ∙ sym e); tells = tells_of rows _ _ _ _ _ a.pages }) }
