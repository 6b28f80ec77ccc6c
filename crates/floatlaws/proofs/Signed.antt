-- A finite value as (plus - minus) / den, one of plus and minus being 0; a sum as one rounding of such a difference; order by cross products.
use mathlib.Core.Path.{◌≡◌, refl, sym, ◌∙◌}
use mathlib.Core.Logic.{◌⊎◌, inl, inr}
use mathlib.Core.Bool.{Bool, true, false, not, ◌&&◌, ◌||◌, cond}
use Prim.Native.Nat.{ℕ, zero, suc, ◌+◌, ◌-◌, ◌*◌, ◌^◌, ◌≤◌, ◌<◌}
use native.Mathlib.Nat.{zero-mul}
use native.Mathlib.Omega.{arith}
use lib.Dec.{T, ltb, eqb, ltb→lt, lt→ltb, eqb→eq}
use lib.Ieee.{Float, nan, inf, fin, Format, prec, emax, low, up, down, odd, units, round, neg, sum, add, sub, below, level, lt, eq, le}
use lib.Ieee.Fits.{and_l, and_r}
use lib.Ieee.Scale.{finite}
use lib.Ieee.Positive.{den}
use borrow.Author.Tests.{lt-ltb, le-ltb, eq-eqb, ltb-true, ltb-false}

-- the sign, and the two parts of the numerator
abbrev pub sign : Float → Bool
sign nan = false
sign (inf s) = s
sign (fin s m e) = s

abbrev pub plus : Float → ℕ
plus nan = 0
plus (inf s) = 0
plus (fin true m e) = 0
plus (fin false m e) = m * up e

abbrev pub minus : Float → ℕ
minus nan = 0
minus (inf s) = 0
minus (fin true m e) = m * up e
minus (fin false m e) = 0

-- ---- the sign goes through `round`
odd_neg : (d : ℕ) (s : Bool) (q k l : ℕ) → odd d (not s) q k l ≡ neg (odd d s q k l)
unfolding odd neg
odd_neg d s zero k l = refl
odd_neg d s (suc q) k l = refl

cond-neg : (b s : Bool) (x : Float) → cond b (neg x) (inf (not s)) ≡ neg (cond b x (inf s))
unfolding neg
cond-neg true s x = refl
cond-neg false s x = refl

units_neg : (f : Format) (s : Bool) (q k : ℕ) → units f (not s) q k ≡ neg (units f s q k)
unfolding units
units_neg f s q k = rw odd_neg (cond-neg (ltb (q * 2 ^ k) (2 ^ (low f + suc (emax f)))) s (odd (suc (prec f)) s q k (low f)))

pub round-neg : (f : Format) (s : Bool) (a c : ℕ) → round f (not s) a c ≡ neg (round f s a c)
unfolding round
round-neg f s a c = units_neg f s _ _

-- ---- (p - n) / c rounded; s is the sign of a zero
unfoldable pub signed : Format → Bool → ℕ → ℕ → ℕ → Float
signed f s p n c = cond (ltb n p) (round f false (p - n) c) (cond (ltb p n) (round f true (n - p) c) (round f s 0 c))

pub signed_more : (f : Format) (s : Bool) (p n c d : ℕ) → p ≡ n + d → 0 < d → signed f s p n c ≡ round f false d c
unfolding signed
signed_more f s p n c d e h = let g : p - n ≡ d = omega arith in rw (lt-ltb n p (omega arith), g)

pub signed_less : (f : Format) (s : Bool) (p n c d : ℕ) → n ≡ p + d → 0 < d → signed f s p n c ≡ round f true d c
unfolding signed
signed_less f s p n c d e h = let g : n - p ≡ d = omega arith in rw (le-ltb n p (omega arith), lt-ltb p n (omega arith), g)

pub signed_same : (f : Format) (s : Bool) (p n c : ℕ) → p ≡ n → signed f s p n c ≡ round f s 0 c
unfolding signed
signed_same f s p n c h = rw (le-ltb n p (omega arith), le-ltb p n (omega arith))

-- one of three
pub data Three (p n : ℕ) : Type 0 where
  more : (d : ℕ) → p ≡ n + d → 0 < d → Three p n
  less : (d : ℕ) → n ≡ p + d → 0 < d → Three p n
  same : p ≡ n → Three p n

pub three : (p n : ℕ) → Three p n
three p n = go (ltb n p) (ltb p n) refl refl
  where
    go : (a b : Bool) → ltb n p ≡ a → ltb p n ≡ b → Three p n
    go true b h k = let u = ltb-true n p h in more (p - n) (omega arith) (omega arith)
    go false true h k = let u = ltb-true p n k in less (n - p) (omega arith) (omega arith)
    go false false h k = let u = ltb-false n p h in let v = ltb-false p n k in same (omega arith)

-- ---- a sum is one such rounding
sum_is : (f : Format) (s : Bool) (a : ℕ) (t : Bool) (b c : ℕ) → sum f s a t b c ≡ signed f (s && t) (cond s 0 a + cond t 0 b) (cond s a 0 + cond t b 0) c
unfolding sum
sum_is f false a false b c = go (three (a + b) 0)
  where
    go : Three (a + b) 0 → round f false (a + b) c ≡ signed f false (a + b) (0 + 0) c
    go (more d e h) = sym (signed_more f false (a + b) (0 + 0) c (a + b) (omega arith) (omega arith))
    go (less d e h) = absurd (omega arith)
    go (same h) = rw h (sym (signed_same f false 0 (0 + 0) c (omega arith)))
sum_is f true a true b c = go (three (a + b) 0)
  where
    go : Three (a + b) 0 → round f true (a + b) c ≡ signed f true (0 + 0) (a + b) c
    go (more d e h) = sym (signed_less f true (0 + 0) (a + b) c (a + b) (omega arith) (omega arith))
    go (less d e h) = absurd (omega arith)
    go (same h) = rw h (sym (signed_same f true (0 + 0) 0 c (omega arith)))
sum_is f false a true b c = go (three a b)
  where
    go : Three a b → cond (ltb a b) (round f true (b - a) c) (round f false (a - b) c) ≡ signed f false (a + 0) (0 + b) c
    go (more d e h) = let g : a - b ≡ d = omega arith in rw (le-ltb a b (omega arith), g) (sym (signed_more f false (a + 0) (0 + b) c d (omega arith) h))
    go (less d e h) = let g : b - a ≡ d = omega arith in rw (lt-ltb a b (omega arith), g) (sym (signed_less f false (a + 0) (0 + b) c d (omega arith) h))
    go (same h) = let g : a - b ≡ 0 = omega arith in rw (le-ltb a b (omega arith), g) (sym (signed_same f false (a + 0) (0 + b) c (omega arith)))
sum_is f true a false b c = go (three a b)
  where
    go : Three a b → cond (ltb a b) (round f false (b - a) c) (round f (ltb b a) (a - b) c) ≡ signed f false (0 + b) (a + 0) c
    go (more d e h) = let g : a - b ≡ d = omega arith in rw (le-ltb a b (omega arith), lt-ltb b a (omega arith), g) (sym (signed_less f false (0 + b) (a + 0) c d (omega arith) h))
    go (less d e h) = let g : b - a ≡ d = omega arith in rw (lt-ltb a b (omega arith), g) (sym (signed_more f false (0 + b) (a + 0) c d (omega arith) h))
    go (same h) = let g : a - b ≡ 0 = omega arith in rw (le-ltb a b (omega arith), le-ltb b a (omega arith), g) (sym (signed_same f false (0 + b) (a + 0) c (omega arith)))

pub add_is : (f : Format) (x y : Float) → T (finite x) → T (finite y) →
    add f x y ≡ signed f (sign x && sign y) (plus x * den y + plus y * den x) (minus x * den y + minus y * den x) (den x * den y)
unfolding add
add_is f nan y p q = absurd p
add_is f (inf s) y p q = absurd p
add_is f (fin s m e) nan p q = absurd q
add_is f (fin s m e) (inf t) p q = absurd q
add_is f (fin false m e) (fin false n d) p q = simp zero-mul (sum_is f false (m * up e * down d) false (n * up d * down e) (down e * down d))
add_is f (fin false m e) (fin true n d) p q = simp zero-mul (sum_is f false (m * up e * down d) true (n * up d * down e) (down e * down d))
add_is f (fin true m e) (fin false n d) p q = simp zero-mul (sum_is f true (m * up e * down d) false (n * up d * down e) (down e * down d))
add_is f (fin true m e) (fin true n d) p q = simp zero-mul (sum_is f true (m * up e * down d) true (n * up d * down e) (down e * down d))

-- ---- the negated value
pub finite_neg : (x : Float) → T (finite x) → T (finite (neg x))
unfolding neg
finite_neg nan p = p
finite_neg (inf s) p = p
finite_neg (fin s m e) p = p

pub plus_neg : (x : Float) → plus (neg x) ≡ minus x
unfolding neg
plus_neg nan = refl
plus_neg (inf s) = refl
plus_neg (fin true m e) = refl
plus_neg (fin false m e) = refl

pub minus_neg : (x : Float) → minus (neg x) ≡ plus x
unfolding neg
minus_neg nan = refl
minus_neg (inf s) = refl
minus_neg (fin true m e) = refl
minus_neg (fin false m e) = refl

pub den_neg : (x : Float) → den (neg x) ≡ den x
unfolding neg
den_neg nan = refl
den_neg (inf s) = refl
den_neg (fin s m e) = refl

pub sign_neg : (x : Float) → T (finite x) → sign (neg x) ≡ not (sign x)
unfolding neg
sign_neg nan p = absurd p
sign_neg (inf s) p = absurd p
sign_neg (fin s m e) p = refl

pub sub_is : (f : Format) (x y : Float) → T (finite x) → T (finite y) →
    sub f x y ≡ signed f (sign x && not (sign y)) (plus x * den y + minus y * den x) (minus x * den y + plus y * den x) (den x * den y)
unfolding sub
sub_is f x y p q = add_is f x (neg y) p (finite_neg y q) ∙ rw (sign_neg y q, plus_neg y, minus_neg y, den_neg y)

-- ---- order by cross products
or_split : (a b : Bool) → T (a || b) → T a ⊎ T b
or_split true b t = inl tt
or_split false b t = inr t

pub or_l : (a b : Bool) → T a → T (a || b)
or_l true b t = tt
or_l false b t = absurd t

or_r : (a b : Bool) → T b → T (a || b)
or_r true b t = tt
or_r false b t = t

le_numbers : (s t : Bool) (a b : ℕ) → T (below s a t b || level s a t b) → cond s 0 a + cond t b 0 ≤ cond t 0 b + cond s a 0
le_numbers false false a b h = elim (or_split (ltb a b) (eqb a b && true) h) [ inl u ↦ omega (arith, ltb→lt a b u) | inr u ↦ omega (arith, eqb→eq a b (and_l (eqb a b) true u)) ]
le_numbers true true a b h = elim (or_split (ltb b a) (eqb a b && true) h) [ inl u ↦ omega (arith, ltb→lt b a u) | inr u ↦ omega (arith, eqb→eq a b (and_l (eqb a b) true u)) ]
le_numbers false true a b h = omega (arith, eqb→eq a b (and_l (eqb a b) (eqb a 0) h), eqb→eq a 0 (and_r (eqb a b) (eqb a 0) h))
le_numbers true false a b h = omega arith

numbers_le : (s t : Bool) (a b : ℕ) → cond s 0 a + cond t b 0 ≤ cond t 0 b + cond s a 0 → T (below s a t b || level s a t b)
numbers_le false false a b h = go (three a b)
  where
    go : Three a b → T (ltb a b || (eqb a b && true))
    go (more d e k) = absurd (omega arith)
    go (less d e k) = or_l (ltb a b) (eqb a b && true) (lt→ltb a b (omega arith))
    go (same e) = or_r (ltb a b) (eqb a b && true) (rw (eq-eqb a b e) tt)
numbers_le true true a b h = go (three b a)
  where
    go : Three b a → T (ltb b a || (eqb a b && true))
    go (more d e k) = absurd (omega arith)
    go (less d e k) = or_l (ltb b a) (eqb a b && true) (lt→ltb b a (omega arith))
    go (same e) = or_r (ltb b a) (eqb a b && true) (rw (eq-eqb a b (sym e)) tt)
numbers_le false true a b h = rw (eq-eqb a b (omega arith), eq-eqb a 0 (omega arith)) tt
numbers_le true false a b h = go (three 0 (a + b))
  where
    go : Three 0 (a + b) → T (ltb 0 (a + b) || (eqb a b && eqb a 0))
    go (more d e k) = absurd (omega arith)
    go (less d e k) = or_l (ltb 0 (a + b)) (eqb a b && eqb a 0) (lt→ltb 0 (a + b) (omega arith))
    go (same e) = or_r (ltb 0 (a + b)) (eqb a b && eqb a 0) (rw (eq-eqb a b (omega arith), eq-eqb a 0 (omega arith)) tt)

-- x ≤ y as one of whole numbers
abbrev pub Under : Float → Float → Type 0
Under x y = plus x * den y + minus y * den x ≤ plus y * den x + minus x * den y

pub le→under : (x y : Float) → T (finite x) → T (finite y) → T (le x y) → Under x y
unfolding le
le→under nan y p q h = absurd p
le→under (inf s) y p q h = absurd p
le→under (fin s m e) nan p q h = absurd q
le→under (fin s m e) (inf t) p q h = absurd q
le→under (fin false m e) (fin false n d) p q h = simp zero-mul (le_numbers false false (m * up e * down d) (n * up d * down e) h)
le→under (fin false m e) (fin true n d) p q h = simp zero-mul (le_numbers false true (m * up e * down d) (n * up d * down e) h)
le→under (fin true m e) (fin false n d) p q h = simp zero-mul (le_numbers true false (m * up e * down d) (n * up d * down e) h)
le→under (fin true m e) (fin true n d) p q h = simp zero-mul (le_numbers true true (m * up e * down d) (n * up d * down e) h)

pub under→le : (x y : Float) → T (finite x) → T (finite y) → Under x y → T (le x y)
unfolding le
under→le nan y p q h = absurd p
under→le (inf s) y p q h = absurd p
under→le (fin s m e) nan p q h = absurd q
under→le (fin s m e) (inf t) p q h = absurd q
under→le (fin false m e) (fin false n d) p q h = numbers_le false false (m * up e * down d) (n * up d * down e) (simp zero-mul at h)
under→le (fin false m e) (fin true n d) p q h = numbers_le false true (m * up e * down d) (n * up d * down e) (simp zero-mul at h)
under→le (fin true m e) (fin false n d) p q h = numbers_le true false (m * up e * down d) (n * up d * down e) (simp zero-mul at h)
under→le (fin true m e) (fin true n d) p q h = numbers_le true true (m * up e * down d) (n * up d * down e) (simp zero-mul at h)

-- ---- x < y, and x = y
lt_numbers : (s t : Bool) (a b : ℕ) → T (below s a t b) → cond s 0 a + cond t b 0 < cond t 0 b + cond s a 0
lt_numbers false false a b h = omega (arith, ltb→lt a b h)
lt_numbers false true a b h = absurd h
lt_numbers true false a b h = omega (arith, ltb→lt 0 (a + b) h)
lt_numbers true true a b h = omega (arith, ltb→lt b a h)

numbers_lt : (s t : Bool) (a b : ℕ) → cond s 0 a + cond t b 0 < cond t 0 b + cond s a 0 → T (below s a t b)
numbers_lt false false a b h = lt→ltb a b (omega arith)
numbers_lt false true a b h = absurd (omega arith)
numbers_lt true false a b h = lt→ltb 0 (a + b) (omega arith)
numbers_lt true true a b h = lt→ltb b a (omega arith)

numbers_eq : (s t : Bool) (a b : ℕ) → cond s 0 a + cond t b 0 ≡ cond t 0 b + cond s a 0 → level s a t b ≡ true
numbers_eq false false a b h = rw (eq-eqb a b (omega arith))
numbers_eq false true a b h = rw (eq-eqb a b (omega arith), eq-eqb a 0 (omega arith))
numbers_eq true false a b h = rw (eq-eqb a b (omega arith), eq-eqb a 0 (omega arith))
numbers_eq true true a b h = rw (eq-eqb a b (omega arith))

eq_numbers : (s t : Bool) (a b : ℕ) → T (level s a t b) → cond s 0 a + cond t b 0 ≡ cond t 0 b + cond s a 0
eq_numbers false false a b h = omega (arith, eqb→eq a b (and_l (eqb a b) true h))
eq_numbers false true a b h = omega (arith, eqb→eq a b (and_l (eqb a b) (eqb a 0) h), eqb→eq a 0 (and_r (eqb a b) (eqb a 0) h))
eq_numbers true false a b h = omega (arith, eqb→eq a b (and_l (eqb a b) (eqb a 0) h), eqb→eq a 0 (and_r (eqb a b) (eqb a 0) h))
eq_numbers true true a b h = omega (arith, eqb→eq a b (and_l (eqb a b) true h))

abbrev pub Below : Float → Float → Type 0
Below x y = plus x * den y + minus y * den x < plus y * den x + minus x * den y

abbrev pub Even : Float → Float → Type 0
Even x y = plus x * den y + minus y * den x ≡ plus y * den x + minus x * den y

pub lt→below : (x y : Float) → T (finite x) → T (finite y) → T (lt x y) → Below x y
unfolding lt
lt→below nan y p q h = absurd p
lt→below (inf s) y p q h = absurd p
lt→below (fin s m e) nan p q h = absurd q
lt→below (fin s m e) (inf t) p q h = absurd q
lt→below (fin false m e) (fin false n d) p q h = simp zero-mul (lt_numbers false false (m * up e * down d) (n * up d * down e) h)
lt→below (fin false m e) (fin true n d) p q h = absurd h
lt→below (fin true m e) (fin false n d) p q h = simp zero-mul (lt_numbers true false (m * up e * down d) (n * up d * down e) h)
lt→below (fin true m e) (fin true n d) p q h = simp zero-mul (lt_numbers true true (m * up e * down d) (n * up d * down e) h)

pub below→lt : (x y : Float) → T (finite x) → T (finite y) → Below x y → T (lt x y)
unfolding lt
below→lt nan y p q h = absurd p
below→lt (inf s) y p q h = absurd p
below→lt (fin s m e) nan p q h = absurd q
below→lt (fin s m e) (inf t) p q h = absurd q
below→lt (fin false m e) (fin false n d) p q h = numbers_lt false false (m * up e * down d) (n * up d * down e) (simp zero-mul at h)
below→lt (fin false m e) (fin true n d) p q h = numbers_lt false true (m * up e * down d) (n * up d * down e) (simp zero-mul at h)
below→lt (fin true m e) (fin false n d) p q h = numbers_lt true false (m * up e * down d) (n * up d * down e) (simp zero-mul at h)
below→lt (fin true m e) (fin true n d) p q h = numbers_lt true true (m * up e * down d) (n * up d * down e) (simp zero-mul at h)

pub even→eq : (x y : Float) → T (finite x) → T (finite y) → Even x y → eq x y ≡ true
unfolding eq
even→eq nan y p q h = absurd p
even→eq (inf s) y p q h = absurd p
even→eq (fin s m e) nan p q h = absurd q
even→eq (fin s m e) (inf t) p q h = absurd q
even→eq (fin false m e) (fin false n d) p q h = numbers_eq false false (m * up e * down d) (n * up d * down e) (simp zero-mul at h)
even→eq (fin false m e) (fin true n d) p q h = numbers_eq false true (m * up e * down d) (n * up d * down e) (simp zero-mul at h)
even→eq (fin true m e) (fin false n d) p q h = numbers_eq true false (m * up e * down d) (n * up d * down e) (simp zero-mul at h)
even→eq (fin true m e) (fin true n d) p q h = numbers_eq true true (m * up e * down d) (n * up d * down e) (simp zero-mul at h)

pub eq→even : (x y : Float) → T (finite x) → T (finite y) → T (eq x y) → Even x y
unfolding eq
eq→even nan y p q h = absurd p
eq→even (inf s) y p q h = absurd p
eq→even (fin s m e) nan p q h = absurd q
eq→even (fin s m e) (inf t) p q h = absurd q
eq→even (fin false m e) (fin false n d) p q h = simp zero-mul (eq_numbers false false (m * up e * down d) (n * up d * down e) h)
eq→even (fin false m e) (fin true n d) p q h = simp zero-mul (eq_numbers false true (m * up e * down d) (n * up d * down e) h)
eq→even (fin true m e) (fin false n d) p q h = simp zero-mul (eq_numbers true false (m * up e * down d) (n * up d * down e) h)
eq→even (fin true m e) (fin true n d) p q h = simp zero-mul (eq_numbers true true (m * up e * down d) (n * up d * down e) h)
