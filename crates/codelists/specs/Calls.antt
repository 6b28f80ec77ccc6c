-- By their codes (the byte form, "Calls"), the calls on lists, and the prefix factor: one line for each.
use Rattle.std.specs.Prelude.{List, [], ◌∷◌}
use Rattle.codes.specs.Codes.{Call, one, two, three}
use Rattle.asklists.specs.Calls as lists

unfoldable pub calls : List Call
calls =
    one 1 lists.prefix_factor
    ∷ three 2 lists.product
    ∷ three 3 lists.quotient
    ∷ three 4 lists.list_power
    ∷ two 5 lists.canonical
    ∷ three 6 lists.same_list
    ∷ two 7 lists.reduce_list
    ∷ three 19 lists.smaller_unit
    ∷ three 20 lists.is_multiple_of
    ∷ []
