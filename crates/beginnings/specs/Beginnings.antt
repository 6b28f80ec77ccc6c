-- How many of a table's rows stand before the first fault (02, order 1, "unit tables between sites").
use Rattle.std.specs.Prelude.{List, [], ℕ, length}
use Rattle.units.specs.declared.Row.{Row}
use Rattle.tables.specs.Rows.{slots, Admission, admitted, stopped, admit_from}

-- rows admitted from the first on
abbrev pub admitting : List Row → Admission
admitting rs = admit_from (slots rs) [] rs

-- how many rows stand before the first fault
abbrev pub before : Admission → ℕ
before (admitted ks) = length ks
before (stopped r ks) = length ks
