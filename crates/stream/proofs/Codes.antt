-- The call of a code, by how many arguments a call of each kind with this code has, 0 where the kind has none: it is the first such call.
use mathlib.Core.Path.{◌≡◌, sym, ◌∙◌}
use mathlib.Core.List.{◌++◌}
use Prim.Native.Nat.{ℕ}
use Rattle.codes.specs.Codes.{look}
use Rattle.codes.proofs.Codes.{look-first, look-second}
use Rattle.codelists.specs.Calls as lists
use Rattle.codelists.proofs.Proper as in-lists
use Rattle.codevalues.specs.Calls as values
use Rattle.codevalues.proofs.Proper as in-values
use Rattle.codesimplify.specs.Calls as simplify
use Rattle.codesimplify.proofs.Proper as in-simplify
use Rattle.codeadded.specs.Calls as added
use Rattle.stream.specs.Calls.{calls, call_of}

module _ (n k : ℕ) (e : k ≡ (look lists.calls n).arity) where
  pub of_lists : (k ≡ 0 → ⊥) → call_of n ≡ look lists.calls n
  unfolding call_of calls
  of_lists h = look-first lists.calls _ n (λ z. h (e ∙ z))

  module _ (z : k ≡ 0) (m : ℕ) (f : m ≡ (look values.calls n).arity) where
    pub of_values : (m ≡ 0 → ⊥) → call_of n ≡ look values.calls n
    unfolding call_of calls
    of_values h = look-second _ lists.calls _ n in-lists.calls_proper (sym e ∙ z) ∙ look-first values.calls _ n (λ y. h (f ∙ y))

    module _ (y : m ≡ 0) (l : ℕ) (g : l ≡ (look simplify.calls n).arity) where
      behind : call_of n ≡ look (simplify.calls ++ added.calls) n
      unfolding call_of calls
      behind = look-second _ lists.calls _ n in-lists.calls_proper (sym e ∙ z) ∙ look-second _ values.calls _ n in-values.calls_proper (sym f ∙ y)

      pub of_simplify : (l ≡ 0 → ⊥) → call_of n ≡ look simplify.calls n
      of_simplify h = behind ∙ look-first simplify.calls _ n (λ x. h (g ∙ x))

      pub of_added : l ≡ 0 → call_of n ≡ look added.calls n
      of_added x = behind ∙ look-second _ simplify.calls _ n in-simplify.calls_proper (sym g ∙ x)
