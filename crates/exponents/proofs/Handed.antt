-- What `?` hands on: the refusal that it met.
use mathlib.Core.Path.{◌≡◌, ap, ◌∙◌}
use Rattle.std.specs.Result.{IsErrAnd}
use Rattle.std.proofs.lemmas.Result.{err_from_is_err_and}
use Rattle.exponents.specs.Outcome.{Refusal, Outcome, Err}

pub handed_on : {A : Type 0} (o : Outcome A) (r : Refusal) → IsErrAnd o (λ s. s ≡ r) → o ≡ Err r
handed_on o r h = let p = err_from_is_err_and o h in p.1 ∙ ap Err p.2
