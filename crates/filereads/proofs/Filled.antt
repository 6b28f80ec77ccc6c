-- The code of a row: factors read into its places one after the other, and the row from its parts.
use mathlib.Core.Path.{◌≡◌, refl, sym, ap, ap₂, ◌∙◌}
use mathlib.Core.List.{List, [], ◌∷◌, ◌++◌, append_assoc, append-nil}
use Prim.Native.Nat.{ℕ, zero, suc, ◌+◌, ◌-◌, ◌*◌, ◌≤◌, ◌<◌}
use native.Mathlib.Nat.{add_assoc, sub-zero}
use native.Mathlib.Omega.{arith}
use borrow.Author.Tests.{le-leb, lt-leb}
use lib.Ieee.{Float, binary64, of_bits}
use lib.ListN.{length, set, drop, replicate, length-append, length-drop}
use lib.Seq.{get_or-drop, drop-drop}
use Rattle.units.specs.declared.Factor.{Factor}
use Rattle.units.specs.declared.Kind.TheVariants.{Derived}
use Rattle.units.specs.Lists.{no_factor}
use Rattle.wire.specs.Bytes.{le, pad_to}
use Rattle.wire.proofs.Runs.{pad_push}
use Rattle.groups.specs.Taken.{Taken, nothing, taken, then, run?}
use Rattle.groups.specs.Numbers.{up_to?}
use Rattle.files.specs.Records.{factor?, eight?, derived?}
use Rattle.groups.specs.Held.{handed}
use Rattle.filereads.specs.Held.{places_of}
use Rattle.std.specs.declared.option.Option.{Option}
use Rattle.std.specs.declared.option.Option.TheVariants.{None, Some}
use Rattle.groups.proofs.Behind.{Then, first, parted, run_leaves}
use Rattle.groups.proofs.Steps.{Read, read_at, behind, found, missing}
use Rattle.files.proofs.Forms.{factor_leaves}

-- ---- a factor found

pub factor_found : (s : List ℕ) (at i : ℕ) (f : Factor) (x : Option (Factor × ℕ)) → x ≡ handed (length s) (factor? (drop at s)) → x ≡ Some (f, i) → Read factor? s at f i
factor_found s at i f x d e = found {r = factor?} factor_leaves s at x d f i e

pub factor_missing : (s : List ℕ) (at : ℕ) (x : Option (Factor × ℕ)) → x ≡ handed (length s) (factor? (drop at s)) → x ≡ None → factor? (drop at s) ≡ nothing
factor_missing s at x d e = missing {r = factor?} factor_leaves s at x d e

-- ---- n factors: those held so far, and those to come

unfoldable pub onto : {A : Type 0} → List A → Taken (List A) → Taken (List A)
onto l o = then o (λ m u. taken (l ++ m) u)

onto_cons : {A : Type 0} (l : List A) (a : A) (o : Taken (List A)) → onto l (then o (λ m u. taken (a ∷ m) u)) ≡ onto (l ++ (a ∷ [])) o
unfolding onto then
onto_cons l a nothing = refl
onto_cons l a (taken m u) = ap (λ x. taken x u) (sym (append_assoc l (a ∷ []) m))

onto_nil : {A : Type 0} (o : Taken (List A)) → onto [] o ≡ o
unfolding onto then
onto_nil nothing = refl
onto_nil (taken m u) = refl

pub record Filled (s : List ℕ) (at n : ℕ) (a : List Factor) (p i : ℕ) : Type 0 where
  pub held : List Factor
  pub count : length held ≡ i
  pub within : i ≤ n
  pub places : a ≡ pad_to no_factor 8 held
  pub inside : p ≤ length s
  pub rest : onto held (run? factor? (n - i) (drop p s)) ≡ run? factor? n (drop at s)

pub filled_none : (s : List ℕ) (at n : ℕ) (a : List Factor) → at ≤ length s → a ≡ replicate 8 no_factor → Filled s at n a at 0
unfolding pad_to
filled_none s at n a h e = record { held = []; count = refl; within = omega arith; places = e; inside = h; rest = rw (sub-zero n) (onto_nil (run? factor? n (drop at s))) }

pub filled_on : (s : List ℕ) (at n : ℕ) (a : List Factor) (p i : ℕ) (f : Factor) (q : ℕ) → i < n → n ≤ 8 → Filled s at n a p i → Read factor? s p f q → Filled s at n (set a i f) q (i + 1)
unfolding run? then
filled_on s at n a p i f q h k z r =
    let e : n - i ≡ suc (n - (i + 1)) = omega arith in
    let l = z.held in
    record {
      held = l ++ (f ∷ []);
      count = simp length-append (ap (λ x. x + 1) z.count);
      within = omega arith;
      places = ap (λ x. set x i f) z.places ∙ ap (λ x. set (pad_to no_factor 8 l) x f) (sym z.count) ∙ pad_push no_factor 8 l f (omega (arith, z.count));
      inside = r.inside;
      rest = sym (onto_cons l f (run? factor? (n - (i + 1)) (drop q s))) ∙ ap (onto l) (sym (ap (λ x. run? factor? x (drop p s)) e ∙ ap (λ o. then o (λ b s₁. then (run? factor? (n - (i + 1)) s₁) (λ m u. taken (b ∷ m) u))) r.reads)) ∙ z.rest;
    }

pub filled_off : (s : List ℕ) (at n : ℕ) (a : List Factor) (p i : ℕ) → i < n → Filled s at n a p i → factor? (drop p s) ≡ nothing → None ≡ places_of (length s) (run? factor? n (drop at s))
unfolding run? then onto
filled_off s at n a p i h z r =
    let e : n - i ≡ suc (n - (i + 1)) = omega arith in
    let g : onto z.held (run? factor? (n - i) (drop p s)) ≡ nothing = rw (e, r) in
    ap (places_of (length s)) (sym g ∙ z.rest)

pub filled_end : (s : List ℕ) (at n : ℕ) (a : List Factor) (p i : ℕ) → n ≤ i → Filled s at n a p i → Some (a, p) ≡ places_of (length s) (run? factor? n (drop at s))
unfolding run? then onto
filled_end s at n a p i h z =
    let e : n - i ≡ 0 = omega (arith, z.within) in
    let g : onto z.held (run? factor? (n - i) (drop p s)) ≡ taken z.held (drop p s) = rw (e, append-nil) in
    rw (sym z.rest ∙ g, z.places, behind s p z.inside)

-- how many were read
pub run-count : (n : ℕ) (s : List ℕ) (l : List Factor) (t : List ℕ) → run? factor? n s ≡ taken l t → length l ≡ n
unfolding run?
run-count zero s l t e = let x : [] ≡ l = cc in ap length (sym x)
run-count (suc n) s l t e = go (run-count n) (parted (factor? s) _ l t e)
  where
    last : (a : Factor) → ((s : List ℕ) (l : List Factor) (t : List ℕ) → run? factor? n s ≡ taken l t → length l ≡ n) → (u : List ℕ) → Then (run? factor? n u) (λ m v. taken (a ∷ m) v) l t → length l ≡ suc n
    last a i u (first m v p q) = let x : a ∷ m ≡ l = cc in ap length (sym x) ∙ ap suc (i u m v p)

    go : ((s : List ℕ) (l : List Factor) (t : List ℕ) → run? factor? n s ≡ taken l t → length l ≡ n) → Then (factor? s) (λ a s₁. then (run? factor? n s₁) (λ m v. taken (a ∷ m) v)) l t → length l ≡ suc n
    go i (first a u p q) = last a i u (parted (run? factor? n u) _ l t q)

pub record PlacesRead (s : List ℕ) (l n : ℕ) (def : List Factor) (next : ℕ) : Type 0 where
  pub factors : List Factor
  pub read : Read (run? factor? n) s l factors next
  pub places : def ≡ pad_to no_factor 8 factors
  pub count : length factors ≡ n

pub places_read : (s : List ℕ) (l n : ℕ) (def : List Factor) (next : ℕ) → places_of (length s) (run? factor? n (drop l s)) ≡ Some (def, next) → PlacesRead s l n def next
places_read s l n def next e = go (run? factor? n (drop l s)) refl e
  where
    go : (o : Taken (List Factor)) → run? factor? n (drop l s) ≡ o → places_of (length s) o ≡ Some (def, next) → PlacesRead s l n def next
    go nothing p e = let w : ◌≡◌ {A = ℕ} 0 1 = cc in absurd (omega arith)
    go (taken fs t) p e =
        let q : ◌≡◌ {A = List Factor × ℕ} (pad_to no_factor 8 fs, length s - length t) (def, next) = cc in
        record {
          factors = fs;
          read = read_at {r = run? factor? n} (run_leaves {r = factor?} factor_leaves n) s l fs t next p (sym (ap (λ y. y.1) q));
          places = sym (ap (λ y. y.0) q);
          count = run-count n (drop l s) fs t p;
        }

pub places_missing : (s : List ℕ) (l n : ℕ) → places_of (length s) (run? factor? n (drop l s)) ≡ None → run? factor? n (drop l s) ≡ nothing
places_missing s l n e = go (run? factor? n (drop l s)) refl e
  where
    go : (o : Taken (List Factor)) → run? factor? n (drop l s) ≡ o → places_of (length s) o ≡ None → run? factor? n (drop l s) ≡ nothing
    go nothing p e = p
    go (taken fs t) p e = let w : ◌≡◌ {A = ℕ} 0 1 = cc in absurd (omega arith)

-- ---- a derived row

le-drop : (w at : ℕ) (s : List ℕ) (i : ℕ) → le w (drop at s) i ≡ le w s (at + i)
unfolding le
le-drop zero at s i = refl
le-drop (suc w) at s i = ap₂ (λ a b. a + 256 * b) (get_or-drop at s i 0) (le-drop w at s (i + 1) ∙ ap (le w s) (sym (add_assoc at i 1)))

pub eight_at : (s : List ℕ) (at : ℕ) → at + 8 ≤ length s → eight? (drop at s) ≡ taken (le 8 s at) (drop (at + 8) s)
unfolding eight?
eight_at s at h =
    let n : 8 ≤ length (drop at s) = omega (arith, length-drop at s) in
    let e : le 8 (drop at s) 0 ≡ le 8 s at = le-drop 8 at s 0 ∙ ap (le 8 s) (omega arith) in
    rw (le-leb 8 (length (drop at s)) n, e, drop-drop 8 at s)

pub eight_cut : (s : List ℕ) (at : ℕ) → length s < at + 8 → eight? (drop at s) ≡ nothing
unfolding eight?
eight_cut s at h = rw (lt-leb 8 (length (drop at s)) (omega (arith, length-drop at s)))

pub derived_read : (s : List ℕ) (at rank n l : ℕ) (x : Float) (def : List Factor) (next : ℕ) → at + 8 ≤ length s → up_to? 8 (drop (at + 8) s) ≡ taken n (drop l s) → PlacesRead s l n def next → x ≡ of_bits binary64 (le 8 s at)
    → Some (record { def = def; len = n; rank = rank; kind = Derived x }, next) ≡ handed (length s) (derived? rank (drop at s))
unfolding derived? then
derived_read s at rank n l x def next h p q e = rw (eight_at s at h, p, q.read.reads, behind s next q.read.inside, e, q.places, q.count)
