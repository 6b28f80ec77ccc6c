-- What reads as a row or a table was written so: one table has one file. What is whole of a file that is cut or wrong.
use mathlib.Core.Path.{◌≡◌, refl, sym, ap, ◌∙◌}
use mathlib.Core.Bool.{Bool, true, false}
use mathlib.Core.List.{List, [], ◌∷◌, ◌++◌, map, append_assoc, append-nil}
use Prim.Native.Nat.{ℕ, zero, suc, ◌^◌, ◌≤◌, ◌<◌}
use native.Mathlib.Omega.{arith}
use borrow.Author.Tests.{leb-true, le-leb}
use lib.Dec.{leb, eqb}
use lib.Ieee.{binary64, of_bits}
use lib.Ieee.Bits.{to_bits-of_bits, of_bits-fits}
use lib.ListN.{length, take}
use lib.Seq.{take-append_seam}
use Rattle.units.specs.declared.Factor.{Factor}
use Rattle.units.specs.declared.Row.{Row}
use Rattle.units.specs.Lists.{no_factor}
use Rattle.exponents.specs.Words.{pick}
use Rattle.exponents.specs.Words.{All}
use Rattle.wire.specs.Bytes.{bytes_of, run_bytes, pad_to}
use Rattle.wire.proofs.Round.{FactorFits}
use Rattle.groups.specs.Taken.{taken, provided, then, run?}
use Rattle.groups.specs.Numbers.{number_bytes, up_to?}
use Rattle.files.specs.Records.{factor_file, factor?, kind_file, row_file, eight?, base_row, derived_row, derived?, clean, cleaned, row?, table_file, is_nil, table?}
use Rattle.groups.proofs.Behind.{Leaves, Then, first, parted, met, then_leaves, taken_leaves, run_leaves, Bytes, Only, Form, Any}
use Rattle.groups.proofs.Groups.{up_form, up_leaves}
use Rattle.files.proofs.Forms.{step, number_form, bit_form, factor_form, factor_leaves, run_to, run_only, eight_form, eight_leaves, RowFits, RowClean, Plain, row_back}

-- ---- a row

def_back : (fs : List Factor) → take (length fs) (pad_to no_factor 8 fs) ≡ fs
unfolding pad_to
def_back fs = take-append_seam fs _

base_split : (s s₁ s₂ : List ℕ) (rank : ℕ) (r : Row) (t : List ℕ) → rank ≤ 65535 → Bytes s₂ → s ≡ number_bytes rank ++ s₁ → s₁ ≡ number_bytes 0 ++ s₂ → taken (base_row rank) s₂ ≡ taken r t
    → Only RowClean (λ r. Plain r.kind) row_file r s t
unfolding row_file kind_file clean
base_split s s₁ s₂ rank r t h k a b e =
    let x : base_row rank ≡ r = cc in
    let y : s₂ ≡ t = cc in
    rw (← x) (record {
      written = λ _. rw (a, b, y) (simp append_assoc);
      fits = record { row = record { rank = h; kind = tt }; same = refl };
      rest = rw (← y) k;
    })

derived_split : (s s₁ s₂ s₃ s₄ s₅ : List ℕ) (rank x n : ℕ) (fs : List Factor) (r : Row) (t : List ℕ) → (rank ≤ 65535) × (x < 256 ^ 8) × (n ≤ 8) × (length fs ≡ n) × All FactorFits fs × Bytes s₅
    → s ≡ number_bytes rank ++ s₁ → s₁ ≡ number_bytes 1 ++ s₂ → s₂ ≡ bytes_of 8 x ++ s₃ → s₃ ≡ number_bytes n ++ s₄ → s₄ ≡ run_bytes factor_file fs ++ s₅
    → taken (derived_row rank (of_bits binary64 x) fs) s₅ ≡ taken r t → Only RowClean (λ r. Plain r.kind) row_file r s t
unfolding row_file kind_file clean
derived_split s s₁ s₂ s₃ s₄ s₅ rank x n fs r t h a b c d e g =
    let z : derived_row rank (of_bits binary64 x) fs ≡ r = cc in
    let y : s₅ ≡ t = cc in
    let k = def_back fs in
    let l : length fs ≤ 8 = omega (arith, h.3, h.2) in
    let v = derived_row rank (of_bits binary64 x) fs in
    rw (← z) (record {
      written = λ p. rw (a, b, c, d, e, y, to_bits-of_bits binary64 x h.1 p, k, h.3) (simp append_assoc);
      fits = record {
        row = record { rank = h.0; kind = (of_bits-fits binary64 x, l, ap length k, rw k h.4) };
        same = ap (derived_row rank (of_bits binary64 x)) k;
      };
      rest = rw (← y) h.5;
    })

derived_only : (s s₁ s₂ : List ℕ) (rank : ℕ) (r : Row) (t : List ℕ) → rank ≤ 65535 → Bytes s₂ → s ≡ number_bytes rank ++ s₁ → s₁ ≡ number_bytes 1 ++ s₂ → derived? rank s₂ ≡ taken r t
    → Only RowClean (λ r. Plain r.kind) row_file r s t
unfolding derived?
derived_only s s₁ s₂ rank r t h k a b e =
    let c = step eight_form _ s₂ r t k e in
    let d = step (up_form 8 (omega arith)) _ c.left r t c.rest c.on in
    go c.left d.left c.value d.value c.fits d.fits d.rest (c.split tt) (d.split tt) (parted (run? factor? d.value d.left) _ r t d.on)
  where
    go : (s₃ s₄ : List ℕ) (x n : ℕ) → x < 256 ^ 8 → n ≤ 8 → Bytes s₄ → s₂ ≡ bytes_of 8 x ++ s₃ → s₃ ≡ number_bytes n ++ s₄
        → Then (run? factor? n s₄) (λ fs s₅. taken (derived_row rank (of_bits binary64 x) fs) s₅) r t → Only RowClean (λ r. Plain r.kind) row_file r s t
    go s₃ s₄ x n p q m c d (first fs s₅ i j) =
        let o = run_only factor_form n s₄ fs s₅ m i in
        derived_split s s₁ s₂ s₃ s₄ s₅ rank x n fs r t (h, p, q, o.count, o.only.fits, o.only.rest) a b c d (o.only.written (any_all fs)) j
      where
        any_all : (l : List Factor) → All Any l
        any_all [] = tt
        any_all (f ∷ l) = (tt, any_all l)

row_only : (s : List ℕ) (r : Row) (t : List ℕ) → Bytes s → row? s ≡ taken r t → Only RowClean (λ r. Plain r.kind) row_file r s t
unfolding row?
row_only s r t h e =
    let a = step (up_form 65535 (omega arith)) _ s r t h e in
    let b = step bit_form _ a.left r t a.rest a.on in
    go a.left b.left a.value b.value a.fits b.fits b.rest (a.split tt) (b.split tt) b.on
  where
    go : (s₁ s₂ : List ℕ) (rank k : ℕ) → rank ≤ 65535 → k ≤ 1 → Bytes s₂ → s ≡ number_bytes rank ++ s₁ → s₁ ≡ number_bytes k ++ s₂
        → pick (eqb k 0) (taken (base_row rank) s₂) (derived? rank s₂) ≡ taken r t → Only RowClean (λ r. Plain r.kind) row_file r s t
    go s₁ s₂ rank zero p q m a b e = base_split s s₁ s₂ rank r t p m a b e
    go s₁ s₂ rank (suc zero) p q m a b e = derived_only s s₁ s₂ rank r t p m a b e
    go s₁ s₂ rank (suc (suc k)) p q m a b e = absurd (omega arith)

pub row_form : Form RowClean (λ r. Plain r.kind) row? row_file
row_form = record { back = λ r s h. row_back r s h.row ∙ ap (λ x. taken x s) h.same; only = row_only }

pub row_leaves : Leaves row?
unfolding row? derived?
row_leaves =
    then_leaves {r = up_to? 65535} (up_leaves 65535) (λ rank.
    then_leaves {r = up_to? 1} (up_leaves 1) (λ k. chosen rank (eqb k 0)))
  where
    chosen : (rank : ℕ) (p : Bool) → Leaves (λ s. pick p (taken (base_row rank) s) (derived? rank s))
    chosen rank true = taken_leaves (base_row rank)
    chosen rank false =
        then_leaves {r = eight?} eight_leaves (λ x.
        then_leaves {r = up_to? 8} (up_leaves 8) (λ n.
        then_leaves {r = run? factor? n} (run_leaves {r = factor?} factor_leaves n) (λ fs. taken_leaves (derived_row rank (of_bits binary64 x) fs))))

-- ---- a table

pub table_back : (places : ℕ) (rs : List Row) → length rs ≤ places → length rs ≤ 4294967295 → All RowFits rs → table? places (table_file rs) ≡ taken (map cleaned rs) []
unfolding table? table_file then
table_back places rs h k a =
    let e = number_form.back (length rs) (run_bytes row_file rs) k in
    let g = ap (run? row? (length rs)) (sym (append-nil (run_bytes row_file rs))) ∙ run_to row? row_file cleaned row_back rs [] a in
    rw (e, le-leb (length rs) places h, g)

pub record TableOnly (places : ℕ) (rs : List Row) (s : List ℕ) : Type 0 where
  pub written : All (λ r. Plain r.kind) rs → s ≡ table_file rs
  pub rows : All RowClean rs
  pub room : length rs ≤ places
  pub count : length rs ≤ 4294967295

pub nil : (s : List ℕ) → is_nil s ≡ true → s ≡ []
nil [] e = refl
nil (b ∷ s) e = let z : ◌≡◌ {A = ℕ} 0 1 = cc in absurd (omega arith)

pub table_only : (places : ℕ) (s : List ℕ) (rs : List Row) (t : List ℕ) → Bytes s → table? places s ≡ taken rs t → TableOnly places rs s
unfolding table? table_file
table_only places s rs t b e =
    let a = step number_form _ s rs t b e in
    go a.left a.value a.fits a.rest (a.split tt) (parted (provided (leb a.value places) (run? row? a.value a.left)) _ rs t a.on)
  where
    go : (s₁ : List ℕ) (n : ℕ) → n ≤ 4294967295 → Bytes s₁ → s ≡ number_bytes n ++ s₁ → Then (provided (leb n places) (run? row? n s₁)) (λ rs s₂. provided (is_nil s₂) (taken rs s₂)) rs t → TableOnly places rs s
    go s₁ n p q a (first l u i j) =
        let f = met (leb n places) (run? row? n s₁) l u i in
        let m = met (is_nil u) (taken l u) rs t j in
        let x : l ≡ rs = cc m.1 in
        let o = run_only row_form n s₁ l u q f.1 in
        rw (← x) (record {
          written = λ w. rw (a, o.only.written w, nil u m.0, o.count, append-nil);
          rows = o.only.fits;
          room = omega (arith, o.count, leb-true n places f.0);
          count = omega (arith, o.count);
        })
