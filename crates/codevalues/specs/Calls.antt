-- By their codes (the byte form, "Calls"), the calls on quantities: one line for each.
use Rattle.std.specs.Prelude.{List, [], ◌∷◌}
use Rattle.codes.specs.Codes.{Call, two, three}
use Rattle.askvalues.specs.Calls as values

unfoldable pub calls : List Call
calls =
    two 8 values.reduce
    ∷ three 9 values.convert_to
    ∷ three 10 values.add
    ∷ three 11 values.subtract
    ∷ three 12 values.multiply
    ∷ three 13 values.checked_div
    ∷ three 14 values.checked_power
    ∷ two 15 values.negate
    ∷ two 16 values.magnitude
    ∷ three 17 values.equal
    ∷ three 18 values.compare
    ∷ two 23 values.no_simplify
    ∷ []
