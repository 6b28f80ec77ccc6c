-- What `unless`, `bind` and `each` do, as equations: for crates above the library, which unfold none of its definitions.
use mathlib.Core.Path.{◌≡◌, refl}
use mathlib.Core.Bool.{true, false}
use mathlib.Core.List.{List, [], ◌∷◌}
use Rattle.exponents.specs.Outcome.{Refusal, Outcome, Ok, Err, unless, apply, bind, each}

module _ {A : Type 0} where
  pub unless_on : (r : Refusal) (o : Outcome A) → unless true r o ≡ Err r
  unfolding unless
  unless_on r o = refl

  pub unless_off : (r : Refusal) (o : Outcome A) → unless false r o ≡ o
  unfolding unless
  unless_off r o = refl

module _ {A B : Type 0} where
  pub bind_on : (a : A) (f : A → Outcome B) → bind (Ok a) f ≡ f a
  unfolding bind
  bind_on a f = refl

  pub bind_off : (r : Refusal) (f : A → Outcome B) → bind (Err r) f ≡ Err r
  unfolding bind
  bind_off r f = refl

  pub each_none : (f : A → Outcome B) → each f [] ≡ Ok []
  unfolding each
  each_none f = refl

  pub each_first : (f : A → Outcome B) (a : A) (l : List A) → each f (a ∷ l) ≡ bind (f a) (λ b. apply (λ m. b ∷ m) (each f l))
  unfolding each
  each_first f a l = refl
