-- How code hands over what it has read: with the place behind it, in m bytes.
use Rattle.std.specs.Prelude.{List, ℕ, ◌-◌, length, Option, Some, None}
use Rattle.units.specs.declared.Factor.{Factor}
use Rattle.units.specs.declared.Row.{Row}
use Rattle.units.specs.declared.Rows.{Rows}
use Rattle.units.specs.Lists.{no_factor}
use Rattle.lent.specs.Lent.{lent_rows_lem}
use Rattle.wire.specs.Bytes.{pad_to}
use Rattle.groups.specs.Taken.{Taken, nothing, taken, then}
use Rattle.groups.specs.Numbers.{signed?}
use Rattle.files.specs.Records.{factor?, derived?, row?, table?}
use Rattle.filereads.specs.declared.Front.{Front}

abbrev pub places_of : ℕ → Taken (List Factor) → Option (List Factor × ℕ)
places_of m nothing = None
places_of m (taken fs s) = Some (pad_to no_factor 8 fs, m - length s)

abbrev pub front_of : ℕ → List Row × List ℕ → Front
front_of m f = record { rows = lent_rows_lem f.0; next = m - length f.1 }

abbrev pub rows_read_of : Taken (List Row) → Option Rows
rows_read_of nothing = None
rows_read_of (taken rs s) = Some (lent_rows_lem rs)

-- `unfolding steps` opens what a factor, a row and a table are read by
unfoldable pub steps : Unit {0}
unfolding then signed? factor? derived? row? table?
steps = tt
