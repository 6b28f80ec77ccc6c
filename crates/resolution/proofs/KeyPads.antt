-- Base exponents with zeros behind them have the same key with zeros behind it, and so the same entries: code works a key out on sixteen places.
use mathlib.Core.Path.{◌≡◌, refl, sym, ◌∙◌, ap, ap₂}
use mathlib.Core.Bool.{Bool, true, false}
use mathlib.Core.List.{List, [], ◌∷◌, ◌++◌}
use Prim.Native.Nat.{ℕ, zero, suc, ◌-◌, ◌/◌}
use native.Mathlib.Nat.{zero-div, zero-mul}
use native.Mathlib.Omega.{arith}
use lib.IntN.{ℤ, pos, negsuc, nat_abs}
use lib.ListN.{length, replicate}
use lib.Signed.{quot_z}
use Rattle.exponents.specs.Outcome.{Outcome, Ok, Err, bind, apply}
use Rattle.exponents.specs.Gcd.{gcd}
use Rattle.exponents.specs.Fractions.{nought}
use Rattle.exponents.specs.declared.Exponent.{Exponent}
use Rattle.exponents.proofs.Divisors.{gcd-zero}
use Rattle.exponents.proofs.Holds.{holds_all, Holds, held, moot, take_out, bind_given}
use Rattle.keys.specs.Key.{multiple, whole, wholes, divisor, below, turn, shrink, reduce, key, entry, entries}
use Rattle.tables.specs.Held.{pack_exps}
use Rattle.resolution.specs.Held.{pack_key}
use Rattle.keys.proofs.KeyLaws.{Denominator, lcm_range, lcm-one}

abbrev noughts : ℕ → List Exponent
noughts n = replicate n nought

abbrev zeros : ℕ → List ℤ
zeros n = replicate n (pos 0)

-- ---- the common multiple: a denominator 1 changes nothing

bind_same : {A B : Type 0} {P : A → Type 0} {o : Outcome A} (f g : A → Outcome B) → Holds P o → ((a : A) → P a → f a ≡ g a) → bind o f ≡ bind o g
unfolding bind
bind_same f g moot h = refl
bind_same f g (held {a = a} p) h = h a p

multiple_noughts : (n m : ℕ) → Denominator m → multiple m (noughts n) ≡ Ok m
unfolding multiple
multiple_noughts zero m r = refl
multiple_noughts (suc n) m r = bind_given _ (lcm-one m r.0 r.1) ∙ multiple_noughts n m r

multiple_pad : (n m : ℕ) (d : List Exponent) → Denominator m → multiple m (d ++ noughts n) ≡ multiple m d
unfolding multiple
multiple_pad n m [] r = multiple_noughts n m r
multiple_pad n m (x ∷ d) r = bind_same _ _ (lcm_range m x.den) λ k s. multiple_pad n k d s

-- ---- the numbers

wholes_noughts : (n m : ℕ) → wholes m (noughts n) ≡ zeros n
unfolding wholes whole
wholes_noughts zero m = refl
wholes_noughts (suc n) m = ap₂ (λ (a : ℕ) (l : List ℤ). pos a ∷ l) (zero-mul (m / 1)) (wholes_noughts n m)

wholes_pad : (n m : ℕ) (d : List Exponent) → wholes m (d ++ noughts n) ≡ wholes m d ++ zeros n
unfolding wholes
wholes_pad n m [] = wholes_noughts n m
wholes_pad n m (x ∷ d) = ap (λ l. whole m x ∷ l) (wholes_pad n m d)

divisor_zeros : (n g : ℕ) → divisor g (zeros n) ≡ g
unfolding divisor
divisor_zeros zero g = refl
divisor_zeros (suc n) g = ap (λ k. divisor k (zeros n)) (gcd-zero g) ∙ divisor_zeros n g

divisor_pad : (n g : ℕ) (w : List ℤ) → divisor g (w ++ zeros n) ≡ divisor g w
unfolding divisor
divisor_pad n g [] = divisor_zeros n g
divisor_pad n g (z ∷ w) = divisor_pad n (gcd g (nat_abs z)) w

below_zeros : (n : ℕ) → below (zeros n) ≡ false
unfolding below
below_zeros zero = refl
below_zeros (suc n) = below_zeros n

below_pad : (n : ℕ) (w : List ℤ) → below (w ++ zeros n) ≡ below w
unfolding below
below_pad n [] = below_zeros n
below_pad n (pos zero ∷ w) = below_pad n w
below_pad n (pos (suc k) ∷ w) = refl
below_pad n (negsuc k ∷ w) = refl

quot_nothing : (s : Bool) (g : ℕ) → quot_z (turn s (pos 0)) (pos g) ≡ pos 0
unfolding turn
quot_nothing true g = ap pos (zero-div g)
quot_nothing false g = ap pos (zero-div g)

shrink_pad : (n : ℕ) (s : Bool) (g : ℕ) (w : List ℤ) → shrink s g (w ++ zeros n) ≡ shrink s g w ++ zeros n
unfolding shrink
shrink_pad zero s g [] = refl
shrink_pad (suc n) s g [] = ap₂ (λ (z : ℤ) (l : List ℤ). z ∷ l) (quot_nothing s g) (shrink_pad n s g [])
shrink_pad n s g (z ∷ w) = ap (λ l. quot_z (turn s z) (pos g) ∷ l) (shrink_pad n s g w)

reduce_pad : (n : ℕ) (w : List ℤ) → reduce (w ++ zeros n) ≡ reduce w ++ zeros n
unfolding reduce
reduce_pad n w = ap₂ (λ (s : Bool) (g : ℕ). shrink s g (w ++ zeros n)) (below_pad n w) (divisor_pad n 0 w) ∙ shrink_pad n (below w) (divisor 0 w) w

-- ---- the key

key_pad : (n : ℕ) (d : List Exponent) → key (d ++ noughts n) ≡ apply (λ k. k ++ zeros n) (key d)
unfolding key
key_pad n d = ap (apply (λ m. reduce (wholes m (d ++ noughts n)))) (multiple_pad n 1 d (omega arith, omega arith)) ∙ go (multiple 1 d)
  where
    go : (o : Outcome ℕ) → apply (λ m. reduce (wholes m (d ++ noughts n))) o ≡ apply (λ k. k ++ zeros n) (apply (λ m. reduce (wholes m d)) o)
    go (Ok m) = ap (λ w. Ok (reduce w)) (wholes_pad n m d) ∙ ap Ok (reduce_pad n (wholes m d))
    go (Err r) = refl

long_wholes : (m : ℕ) (d : List Exponent) → length (wholes m d) ≡ length d
unfolding wholes
long_wholes m [] = refl
long_wholes m (x ∷ d) = ap suc (long_wholes m d)

long_shrink : (s : Bool) (g : ℕ) (w : List ℤ) → length (shrink s g w) ≡ length w
unfolding shrink
long_shrink s g [] = refl
long_shrink s g (z ∷ w) = ap suc (long_shrink s g w)

-- a key has a number for each base row
pub long_key : (d : List Exponent) (k : List ℤ) → key d ≡ Ok k → length k ≡ length d
unfolding key reduce
long_key d k e = take_out {P = λ k. length k ≡ length d} (holds_all _ (multiple 1 d) λ m. long_shrink (below (wholes m d)) (divisor 0 (wholes m d)) (wholes m d) ∙ long_wholes m d) e

-- on sixteen places
pub key-packed : (d : List Exponent) (k : List ℤ) → key d ≡ Ok k → key (pack_exps d) ≡ Ok (pack_key k)
unfolding pack_exps pack_key
key-packed d k e = key_pad (16 - length d) d ∙ ap (apply (λ k. k ++ zeros (16 - length d))) e ∙ ap (λ n. Ok (k ++ zeros (16 - n))) (sym (long_key d k e))

-- ---- entries

entries_zeros : (n p : ℕ) → entries p (zeros n) ≡ []
unfolding entries entry
entries_zeros zero p = refl
entries_zeros (suc n) p = entries_zeros n (suc p)

entries_pad : (n p : ℕ) (k : List ℤ) → entries p (k ++ zeros n) ≡ entries p k
unfolding entries
entries_pad n p [] = entries_zeros n p
entries_pad n p (z ∷ k) = ap (entry z p) (entries_pad n (suc p) k)

pub entries-packed : (k : List ℤ) → entries 0 (pack_key k) ≡ entries 0 k
unfolding pack_key
entries-packed k = entries_pad (16 - length k) 0 k
