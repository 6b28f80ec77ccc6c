-- By their codes (the byte form of 02, "Calls"), the calls that 02 adds: one line for each. Room and places of a table file are numbers of four bytes.
use Rattle.std.specs.Prelude.{List, [], ◌∷◌}
use Rattle.codes.specs.Codes.{Call, two, three}
use Rattle.wiretables.specs.Arguments.{word_from}
use Rattle.askfiles.specs.Calls as files
use Rattle.askconversions.specs.Calls as conversions
use Rattle.askknots.specs.Calls as knots
use Rattle.askcounted.specs.Calls as counted

unfoldable pub calls : List Call
calls =
    two 24 (λ table room. files.write_table table (word_from room))
    ∷ two 25 (λ file places. files.read_table file (word_from places))
    ∷ two 26 (λ file places. files.salvage_table file (word_from places))
    ∷ three 27 conversions.convert_merged
    ∷ three 28 knots.knot_vector
    ∷ three 29 knots.span_quotient
    ∷ three 30 counted.convert_to_counted
    ∷ three 31 counted.convert_merged_counted
    ∷ []
