-- Laws of the words that every layer uses.
use mathlib.Core.Path.{◌≡◌, refl, sym, ◌∙◌}
use mathlib.Core.Bool.{Bool, true, false}
use mathlib.Core.List.{List, map}
use Prim.Native.Nat.{ℕ}
use lib.ListN.{length, length-map}
use Rattle.exponents.specs.Words.{pick}

-- what holds of both holds of the one picked
pub pick_is : {A : Type 0} (P : A → Type 0) (t : Bool) {a b : A} → P a → P b → P (pick t a b)
pick_is P true p q = p
pick_is P false p q = q

-- what holds of each where the test says so holds of the one picked
pub pick_by : {A : Type 0} (P : A → Type 0) (t : Bool) {a b : A} → (t ≡ true → P a) → (t ≡ false → P b) → P (pick t a b)
pick_by P true p q = p refl
pick_by P false p q = q refl

-- an array that is a field: its length stands at a map of the list
pub unmapped : {A B : Type 0} (f : A → B) (l : List A) (n : ℕ) → length (map f l) ≡ n → length l ≡ n
unmapped f l n p = sym (length-map l f) ∙ p
