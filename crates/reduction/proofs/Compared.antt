-- Lists of base exponents compared, also as code holds them, in sixteen places.
use mathlib.Core.Path.{◌≡◌, refl, sym, ap, ap₂, ◌∙◌}
use mathlib.Core.Bool.{true, ◌&&◌}
use Rattle.std.specs.Ordering.{int_eq}
use Rattle.std.specs.Cmp.Lexicographic.{pointwise}
use lib.Dec.{eqb}
use mathlib.Core.List.{List, [], ◌∷◌, ◌++◌}
use Prim.Native.Nat.{ℕ, zero, suc, ◌-◌}
use native.Mathlib.Omega.{arith}
use lib.ListN.{length, replicate}
use Rattle.exponents.specs.Fractions.{nought, same_z, same}
use Rattle.exponents.specs.declared.Exponent.{Exponent}
use Rattle.tables.specs.Held.{pack_exps}
use Rattle.exponents.proofs.Equality.{same_eq}
use Rattle.canonical.specs.Canonical.{same_all, all_nought}

-- what `==` answers of two arrays
pub array_same : (a b : List Exponent) → pointwise (λ (x y : Exponent). int_eq x.num y.num && eqb x.den y.den) a b ≡ same_all a b
unfolding same_all
array_same [] [] = refl
array_same [] (y ∷ b) = refl
array_same (x ∷ a) [] = refl
array_same (x ∷ a) (y ∷ b) = ap₂ (λ s t. s && t) (same_eq x y) (array_same a b)

-- ---- the zeros past the base rows make no difference
noughts : (k : ℕ) → all_nought (replicate k nought) ≡ true
unfolding all_nought same same_z
noughts zero = refl
noughts (suc k) = noughts k

noughts_same : (k : ℕ) → same_all (replicate k nought) (replicate k nought) ≡ true
unfolding same_all same same_z
noughts_same zero = refl
noughts_same (suc k) = noughts_same k

padded_same : (k : ℕ) (es fs : List Exponent) → length es ≡ length fs → same_all (es ++ replicate k nought) (fs ++ replicate k nought) ≡ same_all es fs
unfolding same_all
padded_same k [] [] e = noughts_same k
padded_same k [] (f ∷ fs) e = absurd (omega arith)
padded_same k (e ∷ es) [] q = absurd (omega arith)
padded_same k (e ∷ es) (f ∷ fs) q = ap (λ t. same e f && t) (padded_same k es fs (omega arith))

padded_nought : (k : ℕ) (es : List Exponent) → all_nought (es ++ replicate k nought) ≡ all_nought es
unfolding all_nought
padded_nought k [] = noughts k
padded_nought k (e ∷ es) = ap (λ t. same e nought && t) (padded_nought k es)

pub packed-same : (es fs : List Exponent) → length es ≡ length fs → same_all (pack_exps es) (pack_exps fs) ≡ same_all es fs
unfolding pack_exps
packed-same es fs e = ap (λ n. same_all (es ++ replicate (16 - length es) nought) (fs ++ replicate (16 - n) nought)) (sym e) ∙ padded_same (16 - length es) es fs e

pub packed-nought : (es : List Exponent) → all_nought (pack_exps es) ≡ all_nought es
unfolding pack_exps
packed-nought es = padded_nought (16 - length es) es
