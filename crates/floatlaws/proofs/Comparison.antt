-- Values compared: ≤ from a value to itself and through a third; of two numbers either ≤ one way or < the other; what lies between finite values.
use mathlib.Core.Path.{◌≡◌, refl}
use mathlib.Core.Logic.{◌⊎◌, inl, inr}
use mathlib.Core.Bool.{Bool, true, false, not}
use Prim.Native.Nat.{ℕ, ◌+◌, ◌*◌, ◌≤◌, ◌<◌}
use native.Mathlib.Nat.{le_refl, add-mul, mul_comm, mul_assoc, mul_left_comm, mul-le-mul_right, le_of_mul-le-mul_right}
use native.Mathlib.Omega.{arith}
use lib.Dec.{T, ltb}
use lib.Ieee.{Float, nan, inf, fin, is_nan, lt, le}
use lib.Ieee.Scale.{finite}
use lib.Ieee.Positive.{den, den_pos}
use borrow.Author.Tests.{ltb-true, ltb-false}
use Rattle.floatlaws.proofs.Signed.{or_l, plus, minus, lt→below, below→lt, le→under, under→le}

-- not a NaN
abbrev pub Number : Float → Type 0
Number x = T (not (is_nan x))

-- ---- the least and the greatest
pub least : (y : Float) → Number y → T (le (inf true) y)
unfolding le is_nan
least nan h = absurd h
least (inf true) h = tt
least (inf false) h = tt
least (fin s m e) h = tt

pub greatest : (y : Float) → Number y → T (le y (inf false))
unfolding le is_nan
greatest nan h = absurd h
greatest (inf true) h = tt
greatest (inf false) h = tt
greatest (fin s m e) h = tt

pub le_self : (x : Float) → Number x → T (le x x)
le_self nan h = absurd (unfold is_nan in h)
le_self (inf true) h = unfold le in tt
le_self (inf false) h = unfold le in tt
le_self (fin s m e) h = under→le (fin s m e) (fin s m e) tt tt (le_refl _)

pub le-number : (x y : Float) → T (le x y) → Number x × Number y
unfolding le is_nan
le-number nan y h = absurd h
le-number (inf s) nan h = absurd h
le-number (inf s) (inf t) h = (tt, tt)
le-number (inf s) (fin t n d) h = (tt, tt)
le-number (fin s m e) nan h = absurd h
le-number (fin s m e) (inf t) h = (tt, tt)
le-number (fin s m e) (fin t n d) h = (tt, tt)

pub finite_number : (x : Float) → T (finite x) → Number x
unfolding is_nan
finite_number nan h = absurd h
finite_number (inf s) h = absurd h
finite_number (fin s m e) h = tt

-- ---- through a third
through : (Px Mx X Py My Y Pz Mz Z : ℕ) → 0 < Y → Px * Y + My * X ≤ Py * X + Mx * Y → Py * Z + Mz * Y ≤ Pz * Y + My * Z → Px * Z + Mz * X ≤ Pz * X + Mx * Z
through Px Mx X Py My Y Pz Mz Z P h k =
    let a = simp (add-mul, mul_assoc, mul_comm) at (mul-le-mul_right Z h) in
    let b = simp (add-mul, mul_assoc, mul_comm, mul_left_comm) at (mul-le-mul_right X k) in
    le_of_mul-le-mul_right {k = Y} (simp (add-mul, mul_assoc, mul_comm) (omega arith)) P

-- THEOREM: ≤ goes through a third value
pub le_chain : (x y z : Float) → T (le x y) → T (le y z) → T (le x z)
le_chain nan y z h k = absurd (unfold le in h)
le_chain (inf true) y z h k = least z (le-number y z k).1
le_chain (inf false) nan z h k = absurd (unfold le in h)
le_chain (inf false) (inf true) z h k = absurd (unfold le in h)
le_chain (inf false) (inf false) z h k = k
le_chain (inf false) (fin t n d) z h k = absurd (unfold le in h)
le_chain (fin s m e) nan z h k = absurd (unfold le in h)
le_chain (fin s m e) (inf true) z h k = absurd (unfold le in h)
le_chain (fin s m e) (inf false) nan h k = absurd (unfold le in k)
le_chain (fin s m e) (inf false) (inf true) h k = absurd (unfold le in k)
le_chain (fin s m e) (inf false) (inf false) h k = unfold le in tt
le_chain (fin s m e) (inf false) (fin u i g) h k = absurd (unfold le in k)
le_chain (fin s m e) (fin t n d) nan h k = absurd (unfold le in k)
le_chain (fin s m e) (fin t n d) (inf true) h k = absurd (unfold le in k)
le_chain (fin s m e) (fin t n d) (inf false) h k = unfold le in tt
le_chain (fin s m e) (fin t n d) (fin u i g) h k =
    let x = fin s m e in
    let y = fin t n d in
    let z = fin u i g in
    under→le x z tt tt (through (plus x) (minus x) (den x) (plus y) (minus y) (den y) (plus z) (minus z) (den z) (den_pos y) (le→under x y tt tt h) (le→under y z tt tt k))

-- ---- ≤ against <
pub lt_not_le : (x y : Float) → T (lt x y) → T (le y x) → ⊥
lt_not_le nan y h k = unfold lt in h
lt_not_le (inf s) nan h k = unfold lt in h
lt_not_le (inf true) (inf true) h k = unfold lt in h
lt_not_le (inf true) (inf false) h k = unfold le in k
lt_not_le (inf false) (inf t) h k = unfold lt in h
lt_not_le (inf true) (fin t n d) h k = unfold le in k
lt_not_le (inf false) (fin t n d) h k = unfold lt in h
lt_not_le (fin s m e) nan h k = unfold lt in h
lt_not_le (fin s m e) (inf true) h k = unfold lt in h
lt_not_le (fin s m e) (inf false) h k = unfold le in k
lt_not_le (fin s m e) (fin t n d) h k = omega (arith, lt→below (fin s m e) (fin t n d) tt tt h, le→under (fin t n d) (fin s m e) tt tt k)

cross : (x y : Float) → T (finite x) → T (finite y) → (b : Bool) → ltb (plus y * den x + minus x * den y) (plus x * den y + minus y * den x) ≡ b → T (le x y) ⊎ T (lt y x)
cross x y p q true h = inr (below→lt y x q p (ltb-true _ _ h))
cross x y p q false h = inl (under→le x y p q (ltb-false _ _ h))

-- THEOREM: of two values that are no NaN, the first is at most the second or the second is less
pub either_way : (x y : Float) → Number x → Number y → T (le x y) ⊎ T (lt y x)
either_way nan y p q = absurd (unfold is_nan in p)
either_way (inf true) y p q = inl (least y q)
either_way (inf false) nan p q = absurd (unfold is_nan in q)
either_way (inf false) (inf true) p q = inr (unfold lt in tt)
either_way (inf false) (inf false) p q = inl (unfold le in tt)
either_way (inf false) (fin t n d) p q = inr (unfold lt in tt)
either_way (fin s m e) nan p q = absurd (unfold is_nan in q)
either_way (fin s m e) (inf true) p q = inr (unfold lt in tt)
either_way (fin s m e) (inf false) p q = inl (unfold le in tt)
either_way (fin s m e) (fin t n d) p q = cross (fin s m e) (fin t n d) tt tt _ refl

pub not_le : (x y : Float) → Number x → Number y → le x y ≡ false → T (lt y x)
not_le x y p q h = elim (either_way x y p q) [ inl k ↦ absurd (rw h at k) | inr k ↦ k ]

pub not_lt : (x y : Float) → Number x → Number y → lt y x ≡ false → T (le x y)
not_lt x y p q h = elim (either_way x y p q) [ inl k ↦ k | inr k ↦ absurd (rw h at k) ]

pub lt_le : (x y : Float) → T (lt x y) → T (le x y)
unfolding le
lt_le x y h = or_l (lt x y) _ h

-- THEOREM: what is less than a value is less than all that is no less than it
pub lt_chain : (x y z : Float) → T (lt x y) → T (le y z) → T (lt x z)
lt_chain x y z h k =
    elim (either_way z x (le-number y z k).1 (le-number x y (lt_le x y h)).0) [ inl g ↦ absurd (lt_not_le x y h (le_chain y z x k g)) | inr g ↦ g ]

-- what lies between finite values is finite
pub between_finite : (l x r : Float) → T (finite l) → T (finite r) → T (le l x) → T (le x r) → T (finite x)
between_finite nan x r p q h k = absurd p
between_finite (inf s) x r p q h k = absurd p
between_finite (fin s m e) nan r p q h k = absurd (unfold le in h)
between_finite (fin s m e) (inf true) r p q h k = absurd (unfold le in h)
between_finite (fin s m e) (inf false) nan p q h k = absurd q
between_finite (fin s m e) (inf false) (inf t) p q h k = absurd q
between_finite (fin s m e) (inf false) (fin t n d) p q h k = absurd (unfold le in k)
between_finite (fin s m e) (fin u g i) r p q h k = tt
