-- What is told of the answer to a call on arguments that were read is told of the call on what they are read as, with one argument and with two; and a list alone is opened beside none.
use mathlib.Core.Path.{◌≡◌, subst}
use mathlib.Core.List.{List, []}
use Prim.Native.Nat.{ℕ}
use lib.IntN.{ℤ}
use Rattle.units.specs.declared.Factors.{Factors}
use Rattle.units.specs.declared.Rows.{Rows}
use Rattle.units.specs.Lists.{pack}
use Rattle.exponents.specs.Outcome.{Outcome}
use Rattle.lists.specs.declared.opening.Opened.{Opened}
use Rattle.lists.specs.Held.{Opens}

module _ {O R : Type 0} {of : O → R} {r : R} {P : O → Type 0} (told : (o : O) → r ≡ of o → P o) where
  pub with_one : {A : Type 0} → (f : A → O) → {x a : A} → r ≡ of (f x) → x ≡ a → P (f a)
  with_one f e p = told (f _) (cc)

  pub with_two : {A B : Type 0} → (f : A → B → O) → {x a : A} → {y b : B} → r ≡ of (f x y) → x ≡ a → y ≡ b → P (f a b)
  with_two f e p q = told (f _ _) (cc)

-- a call on one list opens it beside the empty one
pub alone : (t : Rows) (l : Factors) {o : Outcome Opened} {none : Factors} {nums : List ℤ} {dens : List ℕ} → Opens t l none o nums dens → none ≡ pack [] → Opens t l (pack []) o nums dens
alone t l {o} {none} {nums} {dens} h n = subst (λ b. Opens t l b o nums dens) n h
