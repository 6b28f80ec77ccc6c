-- Each of these calls has a code below 24 and one to three arguments.
use mathlib.Core.Path.{◌≡◌, refl}
use mathlib.Core.Bool.{true}
use Rattle.codes.proofs.Codes.{proper}
use Rattle.codevalues.specs.Calls.{calls}

pub calls_proper : proper 24 calls ≡ true
unfolding calls
calls_proper = refl
