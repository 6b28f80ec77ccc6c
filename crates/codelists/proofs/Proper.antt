-- Each of these calls has a code below 21 and one to three arguments.
use mathlib.Core.Path.{◌≡◌, refl}
use mathlib.Core.Bool.{true}
use Rattle.codes.proofs.Codes.{proper}
use Rattle.codelists.specs.Calls.{calls}

pub calls_proper : proper 21 calls ≡ true
unfolding calls
calls_proper = refl
