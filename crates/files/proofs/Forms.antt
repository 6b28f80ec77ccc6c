-- The forms of a factor, a row and a table: what is written is read back whatever follows, and what reads as it was written so.
use mathlib.Core.Path.{◌≡◌, refl, sym, ap, ◌∙◌}
use mathlib.Core.Bool.{true, not}
use mathlib.Core.List.{List, [], ◌∷◌, ◌++◌, map, map-id, append_assoc}
use Prim.Native.Nat.{ℕ, zero, suc, ◌+◌, ◌*◌, ◌^◌, ◌/◌, ◌%◌, ◌≤◌, ◌<◌}
use native.Mathlib.Nat.{pow-suc, pow-zero}
use native.Mathlib.Omega.{arith}
use borrow.Author.Tests.{leb-true, le-leb}
use lib.Dec.{T, leb, eqb}
use lib.Ieee.{Float, binary64, to_bits, fits, is_nan}
use lib.Ieee.Bits.{of_bits-to_bits, to_bits-lt}
use lib.IntN.{ℤ}
use lib.Signed.{mag}
use lib.ListN.{length, drop, length-append}
use lib.Seq.{drop_at}
use Rattle.units.specs.declared.Prefix.{Prefix}
use Rattle.units.specs.declared.Prefix.TheVariants.{Metric, Binary}
use Rattle.units.specs.declared.Factor.{Factor}
use Rattle.units.specs.declared.Kind.{Kind}
use Rattle.units.specs.declared.Kind.TheVariants.{Base, Derived}
use Rattle.units.specs.declared.Row.{Row}
use Rattle.exponents.specs.Words.{pick}
use Rattle.tables.specs.Rows.{def_of}
use Rattle.exponents.specs.Words.{All}
use Rattle.wire.specs.Bytes.{le, bytes_of, run_bytes}
use Rattle.wire.specs.Records.{prefix_of, prefix_kind, prefix_number}
use Rattle.wire.proofs.Digits.{length-bytes_of}
use Rattle.wire.proofs.Round.{FactorFits}
use Rattle.wire.proofs.Round as wire
use Rattle.groups.specs.Taken.{Taken, taken, provided, then, run?}
use Rattle.groups.specs.Numbers.{number_bytes, up_to?, number?, folded, signed?}
use Rattle.files.specs.Records.{factor_file, factor?, kind_file, row_file, eight?, base_row, derived_row, derived?, clean, cleaned, row?}
use Rattle.groups.proofs.Behind.{Leaves, Then, first, parted, met, then_leaves, taken_leaves, dropped, Bytes, Only, Form, Any}
use Rattle.groups.proofs.Groups.{up_form, up_leaves, signed_form, signed_leaves}

-- ---- one step of a reader that reads on
pub record Stepped {A B : Type 0} (P Q : A → Type 0) (bytes : A → List ℕ) (f : A → List ℕ → Taken B) (s : List ℕ) (b : B) (t : List ℕ) : Type 0 where
  pub value : A
  pub left : List ℕ
  pub split : Q value → s ≡ bytes value ++ left
  pub fits : P value
  pub rest : Bytes left
  pub on : f value left ≡ taken b t

pub step : {A B : Type 0} {P Q : A → Type 0} {read : List ℕ → Taken A} {bytes : A → List ℕ} → Form P Q read bytes → (f : A → List ℕ → Taken B) (s : List ℕ) (b : B) (t : List ℕ)
    → Bytes s → then (read s) f ≡ taken b t → Stepped P Q bytes f s b t
step {A} {B} {P} {Q} {read} {bytes} o f s b t h e = go (parted (read s) f b t e)
  where
    go : Then (read s) f b t → Stepped P Q bytes f s b t
    go (first a u p q) =
        let k = o.only s a u h p in
        record { value = a; left = u; split = k.written; fits = k.fits; rest = k.rest; on = q }

-- ---- a factor

prefix_kind_lem : (k : ℕ) (n : ℤ) → k ≤ 1 → (prefix_kind (prefix_of k n) ≡ k) × (prefix_number (prefix_of k n) ≡ n)
unfolding prefix_of
prefix_kind_lem zero n h = (refl, refl)
prefix_kind_lem (suc zero) n h = (refl, refl)
prefix_kind_lem (suc (suc k)) n h = absurd (omega arith)

prefix_same : (p : Prefix) → (prefix_kind p ≤ 1) × (prefix_of (prefix_kind p) (prefix_number p) ≡ p)
unfolding prefix_of
prefix_same (Metric n) = (omega arith, refl)
prefix_same (Binary n) = (omega arith, refl)

abbrev pub number_form : Form (λ x. x ≤ 4294967295) Any number? number_bytes
number_form = up_form 4294967295 (omega arith)

abbrev pub bit_form : Form (λ x. x ≤ 1) Any (up_to? 1) number_bytes
bit_form = up_form 1 (omega arith)

factor_back : (f : Factor) (s : List ℕ) → FactorFits f → factor? (factor_file f ++ s) ≡ taken f s
unfolding factor? factor_file then
factor_back f s h =
    let p = prefix_same f.prefix in
    simp append_assoc (rw (
      number_form.back f.row _ (omega (arith, h.row)),
      bit_form.back (prefix_kind f.prefix) _ p.0,
      signed_form.back (prefix_number f.prefix) _ h.prefix.number,
      signed_form.back f.exponent.num _ h.exponent.num,
      number_form.back f.exponent.den s (omega (arith, h.exponent.den)),
      p.1,
    ))

factor_split : (s s₁ s₂ s₃ s₄ s₅ : List ℕ) (row k : ℕ) (n num : ℤ) (den : ℕ) (f : Factor) (t : List ℕ)
    → (row ≤ 4294967295) × (k ≤ 1) × (mag n < 2147483648) × (mag num < 2147483648) × (den ≤ 4294967295) × Bytes s₅
    → s ≡ number_bytes row ++ s₁ → s₁ ≡ number_bytes k ++ s₂ → s₂ ≡ number_bytes (folded n) ++ s₃ → s₃ ≡ number_bytes (folded num) ++ s₄ → s₄ ≡ number_bytes den ++ s₅
    → taken (record { row = row; prefix = prefix_of k n; exponent = record { num = num; den = den } }) s₅ ≡ taken f t → Only FactorFits Any factor_file f s t
unfolding factor_file
factor_split s s₁ s₂ s₃ s₄ s₅ row k n num den f t h a b c d e g =
    let p = prefix_kind_lem k n h.1 in
    let x : record { row = row; prefix = prefix_of k n; exponent = record { num = num; den = den } } ≡ f = cc in
    let y : s₅ ≡ t = cc in
    record {
      written = λ _. rw (← x, p.0, p.1, a, b, c, d, e, y) (simp append_assoc);
      fits = rw (← x) (record { row = omega arith; prefix = record { number = rw p.1 h.2 }; exponent = record { num = h.3; den = omega arith } });
      rest = rw (← y) h.5;
    }

factor_only : (s : List ℕ) (f : Factor) (t : List ℕ) → Bytes s → factor? s ≡ taken f t → Only FactorFits Any factor_file f s t
unfolding factor?
factor_only s f t h e =
    let a = step number_form _ s f t h e in
    let b = step bit_form _ a.left f t a.rest a.on in
    let c = step signed_form _ b.left f t b.rest b.on in
    let d = step signed_form _ c.left f t c.rest c.on in
    let g = step number_form _ d.left f t d.rest d.on in
    factor_split s a.left b.left c.left d.left g.left a.value b.value c.value d.value g.value f t
    (a.fits, b.fits, c.fits, d.fits, g.fits, g.rest) (a.split tt) (b.split tt) (c.split tt) (d.split tt) (g.split tt) g.on

pub factor_form : Form FactorFits Any factor? factor_file
factor_form = record { back = factor_back; only = factor_only }

pub factor_leaves : Leaves factor?
unfolding factor?
factor_leaves =
    then_leaves {r = number?} (up_leaves 4294967295) (λ row.
    then_leaves {r = up_to? 1} (up_leaves 1) (λ k.
    then_leaves {r = signed?} signed_leaves (λ n.
    then_leaves {r = signed?} signed_leaves (λ num.
    then_leaves {r = number?} (up_leaves 4294967295) (λ den.
    taken_leaves _)))))

-- ---- a run

-- what reads back as f of it
pub run_to : {A B : Type 0} {P : A → Type 0} (read : List ℕ → Taken B) (bytes : A → List ℕ) (f : A → B) → ((a : A) (s : List ℕ) → P a → read (bytes a ++ s) ≡ taken (f a) s)
    → (l : List A) (s : List ℕ) → All P l → run? read (length l) (run_bytes bytes l ++ s) ≡ taken (map f l) s
unfolding run? run_bytes then
run_to read bytes f back [] s h = refl
run_to read bytes f back (a ∷ l) s h = rw (append_assoc (bytes a) (run_bytes bytes l) s, back a (run_bytes bytes l ++ s) h.0, run_to read bytes f back l s h.1)

module _ {A : Type 0} {P Q : A → Type 0} {read : List ℕ → Taken A} {bytes : A → List ℕ} (o : Form P Q read bytes) where
  pub run_back : (l : List A) (s : List ℕ) → All P l → run? read (length l) (run_bytes bytes l ++ s) ≡ taken l s
  run_back l s h = run_to read bytes (λ a. a) o.back l s h ∙ ap (λ m. taken m s) (map-id l)

  -- l was read as n of them
  pub record RunOnly (n : ℕ) (l : List A) (s t : List ℕ) : Type 0 where
    pub count : length l ≡ n
    pub only : Only (All P) (All Q) (run_bytes bytes) l s t

  run_cons : (n : ℕ) (a : A) (l m : List A) (s u v t : List ℕ) → (Q a → s ≡ bytes a ++ u) → P a → RunOnly n l u v → taken (a ∷ l) v ≡ taken m t → RunOnly (suc n) m s t
  unfolding run_bytes
  run_cons n a l m s u v t e p r q =
      let x : a ∷ l ≡ m = cc in
      let y : v ≡ t = cc in
      record {
        count = rw (← x) (ap suc r.count);
        only = rw (← x, ← y) (record {
          written = λ h. e h.0 ∙ ap (λ z. bytes a ++ z) (r.only.written h.1) ∙ sym (append_assoc (bytes a) (run_bytes bytes l) v);
          fits = (p, r.only.fits);
          rest = r.only.rest;
        });
      }

  pub run_only : (n : ℕ) (s : List ℕ) (l : List A) (t : List ℕ) → Bytes s → run? read n s ≡ taken l t → RunOnly n l s t
  unfolding run? run_bytes
  run_only zero s l t h e =
      let x : [] ≡ l = cc in
      let y : s ≡ t = cc in
      record { count = rw (← x); only = rw (← x, ← y) (record { written = λ _. refl; fits = tt; rest = h }) }
  run_only (suc n) s l t h e =
      let a = step o _ s l t h e in
      go a.left a.value a.split a.fits a.rest (run_only n a.left) (parted (run? read n a.left) _ l t a.on)
    where
      go : (u : List ℕ) (a : A) → (Q a → s ≡ bytes a ++ u) → P a → Bytes u → ((m : List A) (v : List ℕ) → Bytes u → run? read n u ≡ taken m v → RunOnly n m u v)
          → Then (run? read n u) (λ l₁ s₂. taken (a ∷ l₁) s₂) l t → RunOnly (suc n) l s t
      go u a e p b i (first m v q r) = run_cons n a m l s u v t e p (i m v b q) r

-- ---- eight bytes

le_cons : (w b : ℕ) (s : List ℕ) → le (suc w) (b ∷ s) 0 ≡ b + 256 * le w s 0
unfolding le
le_cons w b s = ap (λ x. b + 256 * x) ((wire.number_form w).skips (b ∷ []) s 0)

le_split : (w : ℕ) (s : List ℕ) → Bytes s → w ≤ length s → (s ≡ bytes_of w (le w s 0) ++ drop w s) × (le w s 0 < 256 ^ w) × Bytes (drop w s)
unfolding le bytes_of
le_split zero s h k = (refl, omega (arith, pow-zero 256), h)
le_split (suc w) [] h k = absurd (omega arith)
le_split (suc w) (b ∷ s) h k =
    let i = le_split w s h.1 (omega arith) in
    let e = le_cons w b s in
    let x = le w s 0 in
    let a : (b + 256 * x) % 256 ≡ b = omega (arith, h.0) in
    let c : (b + 256 * x) / 256 ≡ x = omega (arith, h.0) in
    (rw (e, a, c) (ap (λ l. b ∷ l) i.0), rw (e, pow-suc 256 w) (omega (arith, i.1, h.0)), i.2)

pub eight_form : Form (λ x. x < 256 ^ 8) Any eight? (bytes_of 8)
unfolding eight?
eight_form = record { back = eight_back; only = λ s x t h e. eight_only s x t h (met (leb 8 (length s)) _ x t e) }
  where
    eight_back : (x : ℕ) (s : List ℕ) → x < 256 ^ 8 → provided (leb 8 (length (bytes_of 8 x ++ s))) (taken (le 8 (bytes_of 8 x ++ s) 0) (drop 8 (bytes_of 8 x ++ s))) ≡ taken x s
    eight_back x s h =
        let n : 8 ≤ length (bytes_of 8 x ++ s) = omega (arith, length-append (bytes_of 8 x) s, length-bytes_of 8 x) in
        rw (le-leb 8 _ n, (wire.number_form 8).back x s h, drop_at (bytes_of 8 x) s 8 (length-bytes_of 8 x))

    eight_only : (s : List ℕ) (x : ℕ) (t : List ℕ) → Bytes s → (leb 8 (length s) ≡ true) × (taken (le 8 s 0) (drop 8 s) ≡ taken x t) → Only (λ x. x < 256 ^ 8) Any (bytes_of 8) x s t
    eight_only s x t h e =
        let k = le_split 8 s h (leb-true 8 (length s) e.0) in
        let a : le 8 s 0 ≡ x = cc e.1 in
        let b : drop 8 s ≡ t = cc e.1 in
        record { written = λ _. rw (← a, ← b) k.0; fits = rw (← a) k.1; rest = rw (← b) k.2 }

pub eight_leaves : Leaves eight?
unfolding eight?
eight_leaves s x t e =
    let m = met (leb 8 (length s)) _ x t e in
    let b : drop 8 s ≡ t = cc m.1 in
    rw (← b) (dropped s 8)

-- ---- a row

-- what a kind asks of its row
abbrev pub KindFits : Kind → Row → Type 0
KindFits Base r = Unit {0}
KindFits (Derived x) r = T (fits binary64 x) × (r.len ≤ 8) × (length (def_of r) ≡ r.len) × All FactorFits (def_of r)

pub record RowFits (r : Row) : Type 0 where
  pub rank : r.rank ≤ 65535
  pub kind : KindFits r.kind r

-- as it comes from a file
pub record RowClean (r : Row) : Type 0 where
  pub row : RowFits r
  pub same : cleaned r ≡ r

-- its factor isn't NaN, so that its bits are its own
abbrev pub Plain : Kind → Type 0
Plain Base = Unit {0}
Plain (Derived x) = T (not (is_nan x))

derived_back : (r : Row) (x : Float) (s : List ℕ) → KindFits (Derived x) r
    → derived? r.rank (bytes_of 8 (to_bits binary64 x) ++ (number_bytes r.len ++ (run_bytes factor_file (def_of r) ++ s))) ≡ taken (derived_row r.rank x (def_of r)) s
unfolding derived? then
derived_back r x s h =
    let e = ap (λ n. run? factor? n (run_bytes factor_file (def_of r) ++ s)) (sym h.2) ∙ run_back factor_form (def_of r) s h.3 in
    rw (eight_form.back (to_bits binary64 x) _ (to_bits-lt binary64 x h.0), (up_form 8 (omega arith)).back r.len _ h.1, e, of_bits-to_bits binary64 x h.0)

kind_back : (k : Kind) (r : Row) (s : List ℕ) → KindFits k r → r.rank ≤ 65535
    → then (up_to? 1 (kind_file k r ++ s)) (λ k s₂. pick (eqb k 0) (taken (base_row r.rank) s₂) (derived? r.rank s₂)) ≡ taken (clean k r) s
unfolding kind_file clean then
kind_back Base r s h k = rw (bit_form.back 0 s (omega arith))
kind_back (Derived x) r s h k =
    simp append_assoc (rw (bit_form.back 1 (bytes_of 8 (to_bits binary64 x) ++ (number_bytes r.len ++ (run_bytes factor_file (def_of r) ++ s))) (omega arith)) (derived_back r x s h))

pub row_back : (r : Row) (s : List ℕ) → RowFits r → row? (row_file r ++ s) ≡ taken (cleaned r) s
unfolding row? row_file then
row_back r s h =
    rw (append_assoc (number_bytes r.rank) (kind_file r.kind r) s, (up_form 65535 (omega arith)).back r.rank (kind_file r.kind r ++ s) h.rank) (kind_back r.kind r s h.kind h.rank)
