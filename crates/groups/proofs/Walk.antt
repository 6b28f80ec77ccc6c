-- The loops over the groups of a number: one group more, and the last one. Masks and shifts as remainders and quotients.
use mathlib.Core.Path.{◌≡◌, refl, sym, ap, ap₂, ◌∙◌}
use mathlib.Core.Bool.{Bool, true, false, not, ◌&&◌}
use mathlib.Core.List.{List, [], ◌∷◌}
use Prim.Native.Nat.{ℕ, zero, suc, ◌+◌, ◌-◌, ◌*◌, ◌/◌, ◌%◌, ◌^◌, ◌≤◌, ◌<◌}
use native.Mathlib.Nat.{pow-suc, add_assoc, mul-le-mul_right, add-mul, mul_assoc, mul_comm}
use native.Mathlib.Numerals.{add-one}
use native.Mathlib.Omega.{arith}
use borrow.Author.Tests.{ltb-true, ltb-false, eqb-false, lt-ltb, le-ltb, le-leb, lt-leb, ne_eqb}
use lib.Bits.{bit_and, bit_or, and_mask, or_shifted_r}
use lib.Dec.{ltb, eqb}
use lib.ListN.{length, get_or, set, drop, drop_of_length-le, length-drop}
use lib.Pow.{pow-add, shl_exact}
use lib.Seq.{sets}
use Rattle.exponents.specs.Words.{pick}
use Rattle.exponents.proofs.Places.{rest}
use Rattle.groups.specs.Taken.{Taken, nothing, taken, then}
use Rattle.groups.specs.Numbers.{groups, above, groups?, up_to?}
use Rattle.groups.specs.Held.{handed}
use Rattle.std.specs.declared.option.Option.TheVariants.{None, Some}

-- ---- masks and shifts

pub low_group : (b : ℕ) → bit_and b 127 ≡ b % 128
low_group b = and_mask b 7

-- seven bits put above those of v
pub group_joined : (k v b : ℕ) → k < 5 → v < 2 ^ (7 * k) → bit_or v (bit_and b 127 * 2 ^ (7 * k) % 2 ^ 64) ≡ b % 128 * 2 ^ (7 * k) + v
group_joined k v b h q =
    let a = shl_exact {a = b % 128} 7 (7 * k) 64 (omega arith) (omega arith) in
    rw (low_group b, a) (or_shifted_r (b % 128) (7 * k) v q)

power_up : (k : ℕ) → 2 ^ (7 * suc k) ≡ 2 ^ (7 * k) * 128
power_up k =
    let e : 7 * suc k ≡ 7 * k + 7 = omega arith in
    ap (λ n. 2 ^ n) e ∙ pow-add 2 (7 * k) 7

-- x groups of seven bits take so many bits
pub group_bound : (k v b : ℕ) → v < 2 ^ (7 * k) → b % 128 * 2 ^ (7 * k) + v < 2 ^ (7 * (k + 1))
group_bound k v b h = rw (add-one k, power_up k) (go (2 ^ (7 * k)) (b % 128) h (omega arith))
  where
    go : (p g : ℕ) → v < p → g < 128 → g * p + v < p * 128
    go p g h q = omega (arith, mul_up p g q)
      where
        mul_up : (p g : ℕ) → g < 128 → g * p + p ≤ p * 128
        mul_up p g q = omega (arith, mul-le-mul_right p q)

-- the high bit alone
pub high_set : (y : ℕ) → bit_or (bit_and y 127) 128 ≡ y % 128 + 128
high_set y = rw (low_group y) (or_shifted_r 1 7 (y % 128) (omega arith) ∙ omega arith)

-- ---- read: k groups before these hold v

unfoldable pub joined : ℕ → ℕ → Taken ℕ → Taken ℕ
joined zero v o = o
joined (suc k) v o = then o (λ x s. pick (eqb x 0) nothing (taken (x * 2 ^ (7 * suc k) + v) s))

joined-zero : (v : ℕ) (o : Taken ℕ) → joined 0 v o ≡ o
unfolding joined
joined-zero v o = refl

on_zero : (v b : ℕ) (o : Taken ℕ) → v ≡ 0 → then o (above (b % 128)) ≡ joined 1 (b % 128 * 2 ^ (7 * 0) + v) o
unfolding joined then above
on_zero v b nothing e = refl
on_zero v b (taken x s) e =
    let n : b % 128 * 2 ^ (7 * 0) + v ≡ b % 128 = omega arith in
    rw n

on_more : (k v b : ℕ) (o : Taken ℕ) → joined (suc k) v (then o (above (b % 128))) ≡ joined (suc (suc k)) (b % 128 * 2 ^ (7 * suc k) + v) o
unfolding joined then above
on_more k v b nothing = refl
on_more k v b (taken x s) = go (eqb x 0) refl
  where
    number : (p g : ℕ) → (x * 128 + g) * p + v ≡ x * (p * 128) + (g * p + v)
    number p g = rw (add-mul (x * 128) g p, mul_assoc x 128 p, mul_comm 128 p) (add_assoc (x * (p * 128)) (g * p) v)

    go : (p : Bool) → eqb x 0 ≡ p
        → then (pick p nothing (taken (x * 128 + b % 128) s)) (λ x s. pick (eqb x 0) nothing (taken (x * 2 ^ (7 * suc k) + v) s)) ≡ pick p nothing (taken (x * 2 ^ (7 * suc (suc k)) + (b % 128 * 2 ^ (7 * suc k) + v)) s)
    go true e = refl
    go false e =
        let n = eqb-false x 0 e in
        let m : eqb (x * 128 + b % 128) 0 ≡ false = ne_eqb (x * 128 + b % 128) 0 (λ (z : x * 128 + b % 128 ≡ 0). n (omega arith)) in
        rw (m, power_up (suc k)) (ap (λ y. taken y s) (number (2 ^ (7 * suc k)) (b % 128)))

pub read_turn : (k v w b : ℕ) (s : List ℕ) → v < 2 ^ (7 * k) → 128 ≤ b → joined k v (groups? (suc w) (b ∷ s)) ≡ joined (suc k) (b % 128 * 2 ^ (7 * k) + v) (groups? w s)
unfolding groups?
read_turn k v w b s h q = rw (le-ltb b 128 q) (go k h)
  where
    go : (k : ℕ) → v < 2 ^ (7 * k) → joined k v (then (groups? w s) (above (b % 128))) ≡ joined (suc k) (b % 128 * 2 ^ (7 * k) + v) (groups? w s)
    go zero h = joined-zero v (then (groups? w s) (above (b % 128))) ∙ on_zero v b (groups? w s) (omega arith)
    go (suc k) h = on_more k v b (groups? w s)

-- the last group, and a last group of 0 behind another
pub read_last : (k v w b : ℕ) (s : List ℕ) → v < 2 ^ (7 * k) → b < 128 → (eqb b 0 && not (eqb k 0)) ≡ false → joined k v (groups? (suc w) (b ∷ s)) ≡ taken (b * 2 ^ (7 * k) + v) s
unfolding groups? joined then
read_last zero v w b s h q z =
    let e : b ≡ b * 2 ^ (7 * 0) + v = omega arith in
    rw (lt-ltb b 128 q) (ap (λ x. taken x s) e)
read_last (suc k) v w b s h q z = rw (lt-ltb b 128 q) (go (eqb b 0) (rw (ne_eqb (suc k) 0 (λ (y : suc k ≡ 0). omega arith)) at z))
  where
    go : (p : Bool) → (p && true) ≡ false → pick p nothing (taken (b * 2 ^ (7 * suc k) + v) s) ≡ taken (b * 2 ^ (7 * suc k) + v) s
    go true z = let y : ◌≡◌ {A = ℕ} 0 1 = cc in absurd (omega arith)
    go false z = refl

pub read_padded : (k v w b : ℕ) (s : List ℕ) → b < 128 → (eqb b 0 && not (eqb k 0)) ≡ true → joined k v (groups? (suc w) (b ∷ s)) ≡ nothing
unfolding groups? joined then
read_padded zero v w b s q z = absurd (go (eqb b 0) z)
  where
    go : (p : Bool) → (p && false) ≡ true → ⊥
    go true z = let y : ◌≡◌ {A = ℕ} 0 1 = cc in omega arith
    go false z = let y : ◌≡◌ {A = ℕ} 0 1 = cc in omega arith
read_padded (suc k) v w b s q z = rw (lt-ltb b 128 q) (go (eqb b 0) (rw (ne_eqb (suc k) 0 (λ (y : suc k ≡ 0). omega arith)) at z))
  where
    go : (p : Bool) → (p && true) ≡ true → pick p nothing (taken (b * 2 ^ (7 * suc k) + v) s) ≡ nothing
    go true z = refl
    go false z = let y : ◌≡◌ {A = ℕ} 0 1 = cc in absurd (omega arith)

pub read_none : (k v : ℕ) → joined k v nothing ≡ nothing
unfolding joined then
read_none zero v = refl
read_none (suc k) v = refl

-- the rest of the walk reads nothing
pub ended : (k v w most : ℕ) (s u : List ℕ) (n : ℕ) → joined k v (groups? w u) ≡ groups? 5 s → joined k v (groups? w u) ≡ nothing → handed n (up_to? most s) ≡ None
unfolding up_to? then
ended k v w most s u n e f = rw (sym e ∙ f)

-- or a number
pub too_high : (k v w most x : ℕ) (s u t : List ℕ) (n : ℕ) → joined k v (groups? w u) ≡ groups? 5 s → joined k v (groups? w u) ≡ taken x t → most < x → handed n (up_to? most s) ≡ None
unfolding up_to? then
too_high k v w most x s u t n e f h = rw (sym e ∙ f, lt-leb x most h)

pub found : (k v w most x : ℕ) (s u t : List ℕ) (n : ℕ) → joined k v (groups? w u) ≡ groups? 5 s → joined k v (groups? w u) ≡ taken x t → x ≤ most → handed n (up_to? most s) ≡ Some (x, n - length t)
unfolding up_to? then
found k v w most x s u t n e f h = rw (sym e ∙ f, le-leb x most h)

-- no bytes, and no groups
pub read_cut : (k v w i : ℕ) (s : List ℕ) → length s ≤ i → joined k v (groups? w (drop i s)) ≡ nothing
unfolding groups?
read_cut k v w i s h = rw (drop_of_length-le s {i = i} h) (cut w)
  where
    cut : (w : ℕ) → joined k v (groups? w []) ≡ nothing
    cut zero = read_none k v
    cut (suc w) = read_none k v

pub read_over : (k v : ℕ) (s : List ℕ) → joined k v (groups? 0 s) ≡ nothing
unfolding groups?
read_over k v s = read_none k v

-- one byte of the walk: k groups before it hold v
module _ (s : List ℕ) (at k v i b most : ℕ) (h : k < 5) (l : i < length s) (q : b ≡ get_or s i 0) (m : v < 2 ^ (7 * k)) (inv : joined k v (groups? (5 - k) (drop i s)) ≡ groups? 5 (drop at s)) where
  abbrev joined_up : ℕ
  joined_up = bit_or v (bit_and b 127 * 2 ^ (7 * k) % 18446744073709551616)

  here : joined k v (groups? (suc (4 - k)) (b ∷ drop (i + 1) s)) ≡ groups? 5 (drop at s)
  here =
      let a : 5 - k ≡ suc (4 - k) = omega arith in
      let c : drop i s ≡ b ∷ drop (i + 1) s = rest s 0 i l ∙ ap (λ x. x ∷ drop (i + 1) s) (sym q) in
      sym (ap₂ (λ w u. joined k v (groups? w u)) a c) ∙ inv

  up : b % 128 * 2 ^ (7 * k) + v ≡ joined_up
  up = sym (group_joined k v b h m)

  last_up : b < 128 → b * 2 ^ (7 * k) + v ≡ joined_up
  last_up z =
      let e : b % 128 ≡ b = omega arith in
      ap (λ x. x * 2 ^ (7 * k) + v) (sym e) ∙ up

  pub number_padded : b < 128 → (eqb b 0 && not (eqb k 0)) ≡ true → None ≡ handed (length s) (up_to? most (drop at s))
  number_padded z p = sym (ended k v (suc (4 - k)) most (drop at s) (b ∷ drop (i + 1) s) (length s) here (read_padded k v (4 - k) b (drop (i + 1) s) (omega arith) p))

  pub number_high : b < 128 → (eqb b 0 && not (eqb k 0)) ≡ false → most < joined_up → None ≡ handed (length s) (up_to? most (drop at s))
  number_high z p g =
      sym (too_high k v (suc (4 - k)) most joined_up (drop at s) (b ∷ drop (i + 1) s) (drop (i + 1) s) (length s) here
      (read_last k v (4 - k) b (drop (i + 1) s) m (omega arith) p ∙ ap (λ x. taken x (drop (i + 1) s)) (last_up z)) g)

  pub number_found : b < 128 → (eqb b 0 && not (eqb k 0)) ≡ false → joined_up ≤ most → Some (joined_up, i + 1) ≡ handed (length s) (up_to? most (drop at s))
  number_found z p g =
      let n : length s - length (drop (i + 1) s) ≡ i + 1 = omega (arith, length-drop (i + 1) s) in
      sym (found k v (suc (4 - k)) most joined_up (drop at s) (b ∷ drop (i + 1) s) (drop (i + 1) s) (length s) here
      (read_last k v (4 - k) b (drop (i + 1) s) m (omega arith) p ∙ ap (λ x. taken x (drop (i + 1) s)) (last_up z)) g ∙ ap (λ y. Some (joined_up, y)) n)

  pub number_again : 128 ≤ b → (joined_up < 2 ^ (7 * (k + 1))) × (joined (k + 1) joined_up (groups? (5 - (k + 1)) (drop (i + 1) s)) ≡ groups? 5 (drop at s))
  number_again z =
      let a : 5 - (k + 1) ≡ 4 - k = omega arith in
      (rw (← up) (group_bound k v b m), rw (a, add-one k, ← up) (sym (read_turn k v (4 - k) b (drop (i + 1) s) m z) ∙ here))

-- ---- written: k groups before these

pub group_turn : (k y : ℕ) → k ≤ 4 → y < 128 ^ (5 - k) → 128 ≤ y
    → (k < 4) × (y / 128 < 128 ^ (5 - (k + 1))) × (groups (5 - k) y ≡ (y % 128 + 128) ∷ groups (5 - (k + 1)) (y / 128))
unfolding groups
group_turn k y h q l =
    let a : 5 - k ≡ suc (5 - (k + 1)) = omega arith in
    let b : y < 128 ^ (5 - (k + 1)) * 128 = rw (a, pow-suc 128 (5 - (k + 1))) at q in
    (four k h q, omega arith, rw (a, le-ltb y 128 l))
  where
    four : (k : ℕ) → k ≤ 4 → y < 128 ^ (5 - k) → k < 4
    four k h q = go (ltb k 4) refl
      where
        go : (p : Bool) → ltb k 4 ≡ p → k < 4
        go true e = ltb-true k 4 e
        go false e =
            let z : 5 - k ≡ 1 = omega (arith, ltb-false k 4 e) in
            let q' : y < 128 ^ 1 = rw z at q in
            absurd (omega arith)

pub group_end : (k y : ℕ) → k ≤ 4 → y < 128 → groups (5 - k) y ≡ y ∷ []
unfolding groups
group_end k y h q =
    let a : 5 - k ≡ suc (4 - k) = omega arith in
    rw (a, lt-ltb y 128 q)

-- a byte stored at place i, with the group's high bit set
pub stored_turn : (out : List ℕ) (at i y : ℕ) → at ≤ i → i - at ≤ 4 → y < 128 ^ (5 - (i - at)) → 128 ≤ y
    → sets (set out i (bit_or (bit_and y 127) 128)) (i + 1) (groups (5 - (i + 1 - at)) (y / 128)) ≡ sets out i (groups (5 - (i - at)) y)
stored_turn out at i y p h q l =
    let t = group_turn (i - at) y h q l in
    let a : i + 1 - at ≡ i - at + 1 = omega arith in
    rw (t.2, high_set y, a, add-one i)
