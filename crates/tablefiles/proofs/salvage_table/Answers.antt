-- `salvage_table` meets its contract: no count, all rows that are whole, or those before the first that isn't admitted.
use Prim.Native.Nat.{min}
use mathlib.Core.Path.{◌≡◌, sym, ap, ◌∙◌}
use Rattle.groups.proofs.Steps.{number_gives, number_ends}
use Rattle.tablefiles.proofs.Salvage.{no_kept, all_kept, some_kept}
use Rattle.tablefiles.proofs.salvage_table.Goals as goal

pub returns-in_default : goal.returns-in_default
returns-in_default c =
    let s = c.args in
    c.handed.ensures ∙ ap (λ r. record { rows = r; told = record { rows = r.len; byte = 0 } }) c.no_rows.ensures
    ∙ no_kept s.places s.file.now (number_ends s.file.now 0 4294967295 (sym c.read_number.ensures ∙ c.in_default.is))

pub returns-in-Ok : goal.returns-in-Ok
returns-in-Ok c =
    let s = c.args in
    let n = c.in-Some in
    let g = number_gives s.file.now 0 4294967295 n.n n.at (sym c.read_number.ensures ∙ n.is) in
    let most : c.min-most.result ≡ min n.n (min s.places 128) = cc in
    c.handed-in-Ok.ensures ∙ all_kept s.places s.file.now n.n n.at g.0 _ most _ c.read_rows-f.ensures _ (sym c.admitted.ensures ∙ c.in-Ok.is)

pub returns-in-Err : goal.returns-in-Err
returns-in-Err c =
    let s = c.args in
    let n = c.in-Some in
    let g = number_gives s.file.now 0 4294967295 n.n n.at (sym c.read_number.ensures ∙ n.is) in
    let most : c.min-most.result ≡ min n.n (min s.places 128) = cc in
    c.handed-in-Err.ensures ∙ some_kept s.places s.file.now n.n n.at g.0 _ most _ c.read_rows-f.ensures _ (sym c.admitted.ensures ∙ c.in-Err.is) _ c.read_rows-g.ensures
