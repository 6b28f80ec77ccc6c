-- A file cut anywhere: a number or a row that is cut isn't read, and of rows exactly those are read that are whole.
use mathlib.Core.Path.{◌≡◌, refl, sym, ap, subst, ◌∙◌}
use mathlib.Core.Bool.{Bool, true, false}
use mathlib.Core.List.{List, [], ◌∷◌, ◌++◌, map, append-nil}
use Prim.Native.Nat.{ℕ, zero, suc, ◌+◌, ◌-◌, ◌≤◌, ◌<◌}
use native.Mathlib.Omega.{arith}
use borrow.Author.Tests.{leb-true, leb-false}
use lib.Dec.{leb}
use lib.ListN.{length, take, drop, length-append, length-drop, take-append-drop}
use lib.Seq.{length-take-le, take-nil, take-append-le, take-append-add, drop-append-add}
use Rattle.exponents.specs.Words.{All}
use Rattle.units.specs.declared.Row.{Row}
use Rattle.wire.specs.Bytes.{run_bytes}
use Rattle.groups.specs.Taken.{Taken, nothing, taken, then}
use Rattle.groups.specs.Numbers.{number_bytes, groups?, up_to?, number?}
use Rattle.files.specs.Records.{row_file, cleaned, row?, table_file, front}
use Rattle.files.proofs.Forms.{number_form, RowFits, row_back}
use Rattle.filelaws.proofs.Growing.{Grows, up_grows, row_grows}

-- what takes all of its bytes takes no fewer
pub cut : {A : Type 0} {r : List ℕ → Taken A} → Grows r → (s : List ℕ) (a : A) → r s ≡ taken a [] → (j : ℕ) → j < length s → r (take j s) ≡ nothing
cut {A} {r} g s a e j h = go (r (take j s)) refl
  where
    go : (o : Taken A) → r (take j s) ≡ o → o ≡ nothing
    go nothing p = refl
    go (taken b t) p =
        let q = sym (ap r (take-append-drop j s)) ∙ g (take j s) b t (drop j s) p in
        let n : [] ≡ t ++ drop j s = cc in
        absurd (omega (arith, ap length n, length-append t (drop j s), length-drop j s))

pub number_cut : (x : ℕ) → x ≤ 4294967295 → (j : ℕ) → j < length (number_bytes x) → number? (take j (number_bytes x)) ≡ nothing
number_cut x h = cut {r = number?} (up_grows 4294967295) (number_bytes x) x (ap number? (sym (append-nil (number_bytes x))) ∙ number_form.back x [] h)

pub row_cut : (r : Row) → RowFits r → (j : ℕ) → j < length (row_file r) → row? (take j (row_file r)) ≡ nothing
row_cut r h = cut {r = row?} row_grows (row_file r) (cleaned r) (ap row? (sym (append-nil (row_file r))) ∙ row_back r [] h)

-- ---- rows

-- how many bytes the first k rows take
abbrev pub bytes_to : ℕ → List Row → ℕ
bytes_to k rs = length (run_bytes row_file (take k rs))

-- k of the rows are whole within c bytes: the next one, if there is one, isn't
pub record Whole (rs : List Row) (c k : ℕ) : Type 0 where
  pub few : k ≤ length rs
  pub inside : bytes_to k rs ≤ c
  pub next : k < length rs → c < bytes_to (suc k) rs

-- the rows of n that are read from c bytes, and the bytes from the first that is cut
abbrev Left : ℕ → List Row → ℕ → ℕ → Type 0
Left n rs c k = front n (take c (run_bytes row_file rs)) ≡ (map cleaned (take k rs), drop (bytes_to k rs) (take c (run_bytes row_file rs)))

none_left : (n : ℕ) (s : List ℕ) → row? s ≡ nothing → front n s ≡ ([], s)
unfolding front
none_left zero s e = refl
none_left (suc n) s e = rw e

first_cut : (n : ℕ) (r : Row) (rs : List Row) (c : ℕ) → RowFits r → c < length (row_file r) → Left n (r ∷ rs) c 0
unfolding run_bytes
first_cut n r rs c h k = let t : c ≤ length (row_file r) = omega arith in rw (take-append-le c (row_file r) (run_bytes row_file rs) t) (none_left n (take c (row_file r)) (row_cut r h c k))

first-whole : (n : ℕ) (r : Row) (rs : List Row) (c k : ℕ) → RowFits r → Left n rs c k → Left (suc n) (r ∷ rs) (length (row_file r) + c) (suc k)
unfolding run_bytes front
first-whole n r rs c k h i =
    let m = length-append (row_file r) (run_bytes row_file (take k rs)) in
    rw (m, take-append-add (row_file r) (run_bytes row_file rs) c, row_back r (take c (run_bytes row_file rs)) h, drop-append-add (row_file r) (take c (run_bytes row_file rs)) (bytes_to k rs))
    (ap (λ (p : List Row × List ℕ). (cleaned r ∷ p.0, p.1)) i)

no_row_lem : row? [] ≡ nothing
unfolding row? up_to? groups? then
no_row_lem = refl

pub rows_cut : (n : ℕ) (rs : List Row) (c k : ℕ) → All RowFits rs → k ≤ n → Whole rs c k
    → front n (take c (run_bytes row_file rs)) ≡ (map cleaned (take k rs), drop (bytes_to k rs) (take c (run_bytes row_file rs)))
unfolding run_bytes
rows_cut n [] c zero h m w = rw take-nil (none_left n [] no_row_lem)
rows_cut n [] c (suc k) h m w = absurd (omega arith)
rows_cut n (r ∷ rs) c zero h m w = first_cut n r rs c h.0 (omega (arith, w.next (omega arith), length-append (row_file r) []))
rows_cut zero (r ∷ rs) c (suc k) h m w = absurd (omega arith)
rows_cut (suc n) (r ∷ rs) c (suc k) h m w =
    let a = length-append (row_file r) (run_bytes row_file (take k rs)) in
    let e : length (row_file r) + (c - length (row_file r)) ≡ c = omega arith in
    let v : Whole rs (c - length (row_file r)) k = record { few = omega arith; inside = omega arith; next = λ p. omega (arith, w.next (omega arith), length-append (row_file r) (run_bytes row_file (take (suc k) rs))) } in
    subst (λ x. Left (suc n) (r ∷ rs) x (suc k)) e (first-whole n r rs (c - length (row_file r)) k h.0 (rows_cut n rs (c - length (row_file r)) k h.1 (omega arith) v))

pub left-length : (rs : List Row) (c k : ℕ) → c ≤ length (run_bytes row_file rs) → length (drop (bytes_to k rs) (take c (run_bytes row_file rs))) ≡ c - bytes_to k rs
left-length rs c k h = rw (length-drop, length-take-le c (run_bytes row_file rs) h)

pub bytes_inside : (k : ℕ) (rs : List Row) → bytes_to k rs ≤ length (run_bytes row_file rs)
unfolding run_bytes
bytes_inside zero rs = omega arith
bytes_inside (suc k) [] = omega arith
bytes_inside (suc k) (r ∷ rs) = omega (arith, bytes_inside k rs, length-append (row_file r) (run_bytes row_file (take k rs)), length-append (row_file r) (run_bytes row_file rs))

-- so many are whole
pub how_many : (rs : List Row) (c : ℕ) → (k : ℕ) × Whole rs c k
unfolding run_bytes
how_many [] c = (0, record { few = omega arith; inside = omega arith; next = λ p. absurd (omega arith) })
how_many (r ∷ rs) c = go (leb (length (row_file r)) c) refl (how_many rs (c - length (row_file r)))
  where
    go : (p : Bool) → leb (length (row_file r)) c ≡ p → (k : ℕ) × Whole rs (c - length (row_file r)) k → (k : ℕ) × Whole (r ∷ rs) c k
    go true e (k, w) =
        let l = leb-true (length (row_file r)) c e in (
          suc k,
          record {
            few = omega arith;
            inside = omega (arith, length-append (row_file r) (run_bytes row_file (take k rs)));
            next = λ p. omega (arith, w.next (omega arith), length-append (row_file r) (run_bytes row_file (take (suc k) rs)));
          },
        )
    go false e i = (0, record { few = omega arith; inside = omega arith; next = λ p. omega (arith, leb-false (length (row_file r)) c e, length-append (row_file r) []) })

-- ---- the count in front of the rows

pub count_cut : (rs : List Row) (c : ℕ) → length rs ≤ 4294967295 → c < length (number_bytes (length rs)) → number? (take c (table_file rs)) ≡ nothing
unfolding table_file
count_cut rs c h k = let t : c ≤ length (number_bytes (length rs)) = omega arith in rw (take-append-le c (number_bytes (length rs)) (run_bytes row_file rs) t) (number_cut (length rs) h c k)

pub count-whole : (rs : List Row) (c : ℕ) → length rs ≤ 4294967295 → number? (take (length (number_bytes (length rs)) + c) (table_file rs)) ≡ taken (length rs) (take c (run_bytes row_file rs))
unfolding table_file
count-whole rs c h = rw (take-append-add (number_bytes (length rs)) (run_bytes row_file rs) c) (number_form.back (length rs) (take c (run_bytes row_file rs)) h)
