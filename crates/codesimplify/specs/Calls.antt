-- By their codes (the byte form, "Calls"), the two simplifications: one line for each.
use Rattle.std.specs.Prelude.{List, [], ◌∷◌}
use Rattle.codes.specs.Codes.{Call, two, three}
use Rattle.asksimplify.specs.Calls as simplify

unfoldable pub calls : List Call
calls =
    two 21 simplify.full_simplify
    ∷ three 22 simplify.full_simplify_with
    ∷ []
