-- A test that decides a statement.
use mathlib.Core.Path.{◌≡◌, refl}
use mathlib.Core.Bool.{Bool, true, false, ◌&&◌, true≢false, false≢true}

pub record Decides (P : Type 0) (t : Bool) : Type 0 where
  pub yea : t ≡ true → P
  pub nay : t ≡ false → P → ⊥

pub decides_imp : {P Q : Type 0} {t : Bool} → Decides P t → (P → Q) → (Q → P) → Decides Q t
decides_imp d f g = record { yea = λ e. f (d.yea e); nay = λ e q. d.nay e (g q) }

pub always : {P : Type 0} → P → Decides P true
always p = record { yea = λ _. p; nay = λ e _. true≢false e }

pub never : {P : Type 0} → (P → ⊥) → Decides P false
never n = record { yea = λ e. absurd (false≢true e); nay = λ _. n }

pub and_decides : {P Q : Type 0} (s t : Bool) → Decides P s → Decides Q t → Decides (P × Q) (s && t)
and_decides true t p q = record { yea = λ e. (p.yea refl, q.yea e); nay = λ e h. q.nay e h.1 }
and_decides false t p q = never λ h. p.nay refl h.0

-- what holds is found, and what doesn't
module _ {P : Type 0} where
  pub found : (t : Bool) → Decides P t → P → t ≡ true
  found true d p = refl
  found false d p = absurd (d.nay refl p)

  pub missed : (t : Bool) → Decides P t → (P → ⊥) → t ≡ false
  missed true d n = absurd (n (d.yea refl))
  missed false d n = refl
