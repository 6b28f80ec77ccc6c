-- The calls by their codes (the byte form, "Calls"): those of each kind.
use Rattle.std.specs.Prelude.{List, ◌++◌, ℕ}
use Rattle.codes.specs.Codes.{Call, look}
use Rattle.codelists.specs.Calls as lists
use Rattle.codevalues.specs.Calls as values
use Rattle.codesimplify.specs.Calls as simplify
use Rattle.codeadded.specs.Calls as added

unfoldable pub calls : List Call
calls = lists.calls ++ (values.calls ++ (simplify.calls ++ added.calls))

unfoldable pub call_of : ℕ → Call
call_of n = look calls n
