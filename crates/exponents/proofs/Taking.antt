-- A loop over the first n of a list: what is left of them at place i.
use Rattle.std.proofs.Common.{◌≡◌, ℕ, ◌+◌, ◌<◌, ◌≤◌, List, [], ◌∷◌, length, get_or, take, drop, arith}
use Rattle.std.proofs.lemmas.Grind.{common_steps}

pub take_step_of : {A : Type 0} (xs : List A) (d : A) (n i : ℕ) → i < n → n ≤ length xs → drop i (take n xs) ≡ get_or xs i d ∷ drop (i + 1) (take n xs)
take_step_of xs d n i a b = grind (arith, common_steps)

pub take_end_of : {A : Type 0} (xs : List A) (n i : ℕ) → n ≤ i → drop i (take n xs) ≡ []
take_end_of xs n i a = grind (arith, common_steps)

-- and over a whole list
pub drop_step_of : {A : Type 0} (xs : List A) (d : A) (i : ℕ) → i < length xs → drop i xs ≡ get_or xs i d ∷ drop (i + 1) xs
drop_step_of xs d i a = grind (arith, common_steps)

pub drop_end_of : {A : Type 0} (xs : List A) (i : ℕ) → length xs ≤ i → drop i xs ≡ []
drop_end_of xs i a = grind (arith, common_steps)
