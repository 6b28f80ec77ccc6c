-- Quantities as the calls make them (01, "Records and sizes").
use Rattle.std.specs.Prelude.{Bool, true, List, Float}
use Rattle.units.specs.declared.Factor.{Factor}
use Rattle.units.specs.declared.Quantity.{Quantity}
use Rattle.units.specs.Lists.{pack}

-- a value of a list, with a mark
abbrev pub made : Bool → Float → List Factor → Quantity
made mark v fs = record { unit = pack fs; value = v; mark = mark }

-- a new quantity has the mark
abbrev pub fresh : Float → List Factor → Quantity
fresh v fs = made true v fs
