-- Each of these calls has a code below 23 and one to three arguments.
use mathlib.Core.Path.{◌≡◌, refl}
use mathlib.Core.Bool.{true}
use Rattle.codes.proofs.Codes.{proper}
use Rattle.codesimplify.specs.Calls.{calls}

pub calls_proper : proper 23 calls ≡ true
unfolding calls
calls_proper = refl
