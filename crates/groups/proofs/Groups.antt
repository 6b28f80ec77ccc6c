-- Numbers in groups of seven bits: what is written is read back, what is read was written so, and folding loses nothing.
use mathlib.Core.Path.{◌≡◌, refl, ap}
use mathlib.Core.Bool.{Bool, true, false}
use mathlib.Core.List.{List, [], ◌∷◌, ◌++◌}
use Prim.Native.Nat.{ℕ, zero, suc, ◌+◌, ◌*◌, ◌/◌, ◌%◌, ◌^◌, ◌≤◌, ◌<◌}
use native.Mathlib.Nat.{pow-suc, pow-zero, pow-le-pow_right}
use native.Mathlib.Omega.{arith}
use borrow.Author.Tests.{ltb-true, ltb-false, leb-true, eqb-true, eqb-false, le-ltb, le-leb, ne_eqb}
use lib.Dec.{ltb, leb, eqb}
use lib.IntN.{ℤ, pos, negsuc}
use lib.Signed.{mag}
use lib.ListN.{length}
use Rattle.exponents.specs.Words.{pick}
use Rattle.groups.specs.Taken.{Taken, nothing, taken, provided, then}
use Rattle.groups.specs.Numbers.{groups, number_bytes, above, groups?, up_to?, folded, unfolded, signed?}
use Rattle.groups.proofs.Behind.{Behind, Leaves, Then, first, parted, met, taken_leaves, then_leaves, provided_leaves, further, one_on, Bytes, Only, Form, Any}

-- ---- written and read back

one_group : (w x : ℕ) (s : List ℕ) → ltb x 128 ≡ true → groups? (suc w) (groups (suc w) x ++ s) ≡ taken x s
unfolding groups groups?
one_group w x s e = rw e (rw e)

more-groups : (w x : ℕ) (s : List ℕ) → ltb x 128 ≡ false → groups? w (groups w (x / 128) ++ s) ≡ taken (x / 128) s
    → groups? (suc w) (groups (suc w) x ++ s) ≡ taken x s
unfolding groups groups? then above
more-groups w x s e h =
    let k = ltb-false x 128 e in
    let a : ltb (x % 128 + 128) 128 ≡ false = le-ltb (x % 128 + 128) 128 (omega arith) in
    let b : eqb (x / 128) 0 ≡ false = ne_eqb (x / 128) 0 (λ z. omega arith) in
    let c : x / 128 * 128 + (x % 128 + 128) % 128 ≡ x = omega arith in
    rw e (rw (a, h, b, c))

groups_by : (w x : ℕ) (s : List ℕ) → x < 128 ^ suc w → (0 < w → x / 128 < 128 ^ w → groups? w (groups w (x / 128) ++ s) ≡ taken (x / 128) s)
    → (p : Bool) → ltb x 128 ≡ p → groups? (suc w) (groups (suc w) x ++ s) ≡ taken x s
groups_by w x s h i true e = one_group w x s e
groups_by zero x s h i false e = absurd (omega (arith, pow-suc 128 0, pow-zero 128, ltb-false x 128 e))
groups_by (suc w) x s h i false e = more-groups (suc w) x s e (i (omega arith) (omega (arith, pow-suc 128 (suc w))))

pub groups_back : (w x : ℕ) (s : List ℕ) → 0 < w → x < 128 ^ w → groups? w (groups w x ++ s) ≡ taken x s
groups_back zero x s k h = absurd (omega arith)
groups_back (suc w) x s k h = groups_by w x s h (groups_back w (x / 128) s) (ltb x 128) refl

-- ---- read, and written so

above_leaves : (g v : ℕ) → Leaves (above g v)
unfolding above
above_leaves g v s x t e = pass (eqb v 0) e
  where
    pass : (p : Bool) → pick p nothing (taken (v * 128 + g) s) ≡ taken x t → Behind s t
    pass true e = let z : ◌≡◌ {A = ℕ} 0 1 = cc in absurd (omega arith)
    pass false e = taken_leaves (v * 128 + g) s x t e

pub groups_leaves : (w : ℕ) → Leaves (groups? w)
unfolding groups?
groups_leaves zero s x t e = let z : ◌≡◌ {A = ℕ} 0 1 = cc in absurd (omega arith)
groups_leaves (suc w) [] x t e = let z : ◌≡◌ {A = ℕ} 0 1 = cc in absurd (omega arith)
groups_leaves (suc w) (b ∷ s) x t e = further (one_on b s) (go (groups_leaves w) (ltb b 128) e)
  where
    go : Leaves (groups? w) → (p : Bool) → pick p (taken b s) (then (groups? w s) (above (b % 128))) ≡ taken x t → Behind s t
    go i true e = taken_leaves b s x t e
    go i false e = then_leaves {r = groups? w} i (above_leaves (b % 128)) s x t e

pub up_leaves : (n : ℕ) → Leaves (up_to? n)
unfolding up_to?
up_leaves n = then_leaves {r = groups? 5} (groups_leaves 5) (λ v. provided_leaves (leb v n) (taken_leaves v))

above_only : (g v : ℕ) (s : List ℕ) (x : ℕ) (t : List ℕ) → above g v s ≡ taken x t → (0 < v) × (x ≡ v * 128 + g) × (s ≡ t)
unfolding above
above_only g v s x t e = pass (eqb v 0) refl e
  where
    pass : (p : Bool) → eqb v 0 ≡ p → pick p nothing (taken (v * 128 + g) s) ≡ taken x t → (0 < v) × (x ≡ v * 128 + g) × (s ≡ t)
    pass true q e = let z : ◌≡◌ {A = ℕ} 0 1 = cc in absurd (omega arith)
    pass false q e =
        let k = eqb-false v 0 q in
        (omega (arith, k), cc, cc)

module _ (w b : ℕ) (s : List ℕ) (x : ℕ) (t : List ℕ) where
  last_only : Bytes s → ltb b 128 ≡ true → taken b s ≡ taken x t → Only (λ y. y < 128 ^ suc w) Any (groups (suc w)) x (b ∷ s) t
  unfolding groups
  last_only h q e =
      let a : b ≡ x = cc in
      let c : s ≡ t = cc in
      let k = ltb-true b 128 q in
      record {
        written = λ _. rw (← a, q, c);
        fits = omega (arith, pow-le-pow_right {n = 128} (omega arith) {i = 1} {j = suc w} (omega arith), pow-suc 128 0, pow-zero 128);
        rest = rw (← c) h;
      }

  more_only : b < 256 → ltb b 128 ≡ false → (v : ℕ) (u : List ℕ) → Only (λ y. y < 128 ^ w) Any (groups w) v s u → above (b % 128) v u ≡ taken x t
      → Only (λ y. y < 128 ^ suc w) Any (groups (suc w)) x (b ∷ s) t
  unfolding groups
  more_only h q v u o r =
      let k = ltb-false b 128 q in
      let a = above_only (b % 128) v u x t r in
      let d : x / 128 ≡ v = omega arith in
      let m : x % 128 + 128 ≡ b = omega arith in
      let n : ltb x 128 ≡ false = le-ltb x 128 (omega arith) in
      record {
        written = λ _. rw (n, d, m, ← a.2) (ap (λ l. b ∷ l) (o.written tt));
        fits = omega (arith, o.fits, pow-suc 128 w);
        rest = rw (← a.2) o.rest;
      }

  any_only : Bytes (b ∷ s) → ((v : ℕ) (u : List ℕ) → groups? w s ≡ taken v u → Only (λ y. y < 128 ^ w) Any (groups w) v s u)
      → (p : Bool) → ltb b 128 ≡ p → pick p (taken b s) (then (groups? w s) (above (b % 128))) ≡ taken x t → Only (λ y. y < 128 ^ suc w) Any (groups (suc w)) x (b ∷ s) t
  any_only h i true q e = last_only h.1 q e
  any_only h i false q e = go (parted (groups? w s) (above (b % 128)) x t e)
    where
      go : Then (groups? w s) (above (b % 128)) x t → Only (λ y. y < 128 ^ suc w) Any (groups (suc w)) x (b ∷ s) t
      go (first v u p r) = more_only h.0 q v u (i v u p) r

pub groups_only : (w : ℕ) (s : List ℕ) (x : ℕ) (t : List ℕ) → Bytes s → groups? w s ≡ taken x t → Only (λ y. y < 128 ^ w) Any (groups w) x s t
unfolding groups?
groups_only zero s x t h e = let z : ◌≡◌ {A = ℕ} 0 1 = cc in absurd (omega arith)
groups_only (suc w) [] x t h e = let z : ◌≡◌ {A = ℕ} 0 1 = cc in absurd (omega arith)
groups_only (suc w) (b ∷ s) x t h e = any_only w b s x t h (λ v u. groups_only w s v u h.1) (ltb b 128) refl e

-- a number of at most n, where n fits the groups
pub up_form : (n : ℕ) → n < 128 ^ 5 → Form (λ x. x ≤ n) Any (up_to? n) number_bytes
unfolding up_to? number_bytes then
up_form n h = record {
  back = λ x s k. rw (groups_back 5 x s (omega arith) (omega arith)) (back_then x s k);
  only = λ s x t b e. go s x t b (parted (groups? 5 s) _ x t e);
}
  where
    back_then : (x : ℕ) (s : List ℕ) → x ≤ n → then (taken x s) (λ v s₁. provided (leb v n) (taken v s₁)) ≡ taken x s
    back_then x s k = rw (le-leb x n k)

    go : (s : List ℕ) (x : ℕ) (t : List ℕ) → Bytes s → Then (groups? 5 s) (λ v s₁. provided (leb v n) (taken v s₁)) x t → Only (λ y. y ≤ n) Any (groups 5) x s t
    go s x t b (first v u p q) =
        let m = met (leb v n) (taken v u) x t q in
        let a : v ≡ x = cc m.1 in
        let c : u ≡ t = cc m.1 in
        let o = groups_only 5 s v u b p in
        record { written = λ _. rw (← a, ← c) (o.written tt); fits = rw (← a) (leb-true v n m.0); rest = rw (← c) o.rest }

-- ---- at most w bytes, at least one

pub groups-short : (w x : ℕ) → length (groups w x) ≤ w
unfolding groups
groups-short zero x = omega arith
groups-short (suc w) x = go (groups-short w (x / 128)) (ltb x 128)
  where
    go : length (groups w (x / 128)) ≤ w → (p : Bool) → length (pick p (x ∷ []) ((x % 128 + 128) ∷ groups w (x / 128))) ≤ suc w
    go i true = omega arith
    go i false = omega arith

pub number_short : (x : ℕ) → length (number_bytes x) ≤ 5
unfolding number_bytes
number_short x = groups-short 5 x

-- ---- folding

pub unfolded-folded : (z : ℤ) → unfolded (folded z) ≡ z
unfolding unfolded
unfolded-folded (pos n) =
    let a : 2 * n % 2 ≡ 0 = omega arith in
    let b : 2 * n / 2 ≡ n = omega arith in
    rw (a, b)
unfolded-folded (negsuc n) =
    let a : (2 * n + 1) % 2 ≡ 1 = omega arith in
    let b : (2 * n + 1) / 2 ≡ n = omega arith in
    rw (a, b)

pub folded-unfolded : (x : ℕ) → folded (unfolded x) ≡ x
unfolding unfolded
folded-unfolded x = go (eqb (x % 2) 0) refl
  where
    go : (p : Bool) → eqb (x % 2) 0 ≡ p → folded (pick p (pos (x / 2)) (negsuc (x / 2))) ≡ x
    go true e = omega (arith, eqb-true (x % 2) 0 e)
    go false e = let k = eqb-false (x % 2) 0 e in omega (arith, k)

-- 32 bits with a sign are 32 bits without
pub folded_fits : (z : ℤ) → mag z < 2147483648 → folded z ≤ 4294967295
folded_fits (pos n) h = omega arith
folded_fits (negsuc n) h = omega arith

pub unfolded-fits : (x : ℕ) → x ≤ 4294967295 → mag (unfolded x) < 2147483648
unfolding unfolded
unfolded-fits x h = go (eqb (x % 2) 0)
  where
    go : (p : Bool) → mag (pick p (pos (x / 2)) (negsuc (x / 2))) < 2147483648
    go true = omega arith
    go false = omega arith

-- ---- the same bytes, told as something else
pub told : {A B : Type 0} {P : A → Type 0} {P' : B → Type 0} {read : List ℕ → Taken A} {bytes : A → List ℕ} → Form P Any read bytes
    → (to : A → B) (from : B → A) → ((b : B) → P' b → P (from b)) → ((b : B) → to (from b) ≡ b) → ((a : A) → P a → P' (to a)) → ((a : A) → P a → from (to a) ≡ a)
    → Form P' Any (λ s. then (read s) (λ a s₁. taken (to a) s₁)) (λ b. bytes (from b))
unfolding then
told {A} {B} {P} {P'} {read} {bytes} f to from p e q g = record {
  back = λ b s h. rw (f.back (from b) s (p b h), e b);
  only = λ s b t h i. go s b t h (parted (read s) _ b t i);
}
  where
    go : (s : List ℕ) (b : B) (t : List ℕ) → Bytes s → Then (read s) (λ a s₁. taken (to a) s₁) b t → Only P' Any (λ b. bytes (from b)) b s t
    go s b t h (first a u i j) =
        let k : to a ≡ b = cc in
        let c : u ≡ t = cc in
        let o = f.only s a u h i in
        record { written = λ _. rw (← k, g a o.fits, ← c) (o.written tt); fits = rw (← k) (q a o.fits); rest = rw (← c) o.rest }

pub signed_form : Form (λ z. mag z < 2147483648) Any signed? (λ z. number_bytes (folded z))
unfolding signed?
signed_form = told (up_form 4294967295 (omega arith)) unfolded folded folded_fits unfolded-folded unfolded-fits (λ x _. folded-unfolded x)

pub signed_leaves : Leaves signed?
unfolding signed?
signed_leaves = then_leaves {r = up_to? 4294967295} (up_leaves 4294967295) (λ v. taken_leaves (unfolded v))
