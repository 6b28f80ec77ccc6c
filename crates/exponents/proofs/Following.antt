-- How outcomes follow one another: `apply` after `apply`, `bind` after `bind`, and each after the other.
use mathlib.Core.Path.{◌≡◌, refl}
use Rattle.exponents.specs.Outcome.{Outcome, Ok, Err, apply, bind}

pub apply_same : {A : Type 0} (o : Outcome A) → apply (λ a. a) o ≡ o
apply_same (Ok a) = refl
apply_same (Err r) = refl

pub bind_same : {A B : Type 0} (o : Outcome A) (f g : A → Outcome B) → ((a : A) → f a ≡ g a) → bind o f ≡ bind o g
unfolding bind
bind_same (Ok a) f g h = h a
bind_same (Err r) f g h = refl

module _ {A B C : Type 0} where
  pub apply_apply : (f : A → B) (g : B → C) (o : Outcome A) → apply g (apply f o) ≡ apply (λ a. g (f a)) o
  apply_apply f g (Ok a) = refl
  apply_apply f g (Err r) = refl

  pub bind_apply : (o : Outcome A) (f : A → B) (g : B → Outcome C) → bind (apply f o) g ≡ bind o (λ a. g (f a))
  unfolding bind
  bind_apply (Ok a) f g = refl
  bind_apply (Err r) f g = refl

  pub apply_bind : (o : Outcome A) (f : A → Outcome B) (g : B → C) → apply g (bind o f) ≡ bind o (λ a. apply g (f a))
  unfolding bind
  apply_bind (Ok a) f g = refl
  apply_bind (Err r) f g = refl

  pub bind_bind : (o : Outcome A) (f : A → Outcome B) (g : B → Outcome C) → bind (bind o f) g ≡ bind o (λ a. bind (f a) g)
  unfolding bind
  bind_bind (Ok a) f g = refl
  bind_bind (Err r) f g = refl
