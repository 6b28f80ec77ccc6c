-- Bytes read from the front: what they read as and the bytes behind it, or nothing.
use Rattle.std.specs.Prelude.{Bool, List, [], ◌∷◌, ℕ, zero, suc}
use Rattle.exponents.specs.Words.{pick}

pub data Taken (A : Type 0) : Type 0 where
  nothing : Taken A
  taken : A → List ℕ → Taken A

-- only where the test holds
abbrev pub provided : {A : Type 0} → Bool → Taken A → Taken A
provided t o = pick t o nothing

-- read on behind what was read
unfoldable pub then : {A B : Type 0} → Taken A → (A → List ℕ → Taken B) → Taken B
then nothing f = nothing
then (taken a s) f = f a s

-- n of them, one behind the other
unfoldable pub run? : {A : Type 0} → (List ℕ → Taken A) → ℕ → List ℕ → Taken (List A)
run? r zero s = taken [] s
run? r (suc n) s = then (r s) (λ a s₁. then (run? r n s₁) (λ l s₂. taken (a ∷ l) s₂))
