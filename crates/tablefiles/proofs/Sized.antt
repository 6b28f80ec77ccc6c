-- How many rows are read or kept, that each has its eight places, and that no file is empty.
use mathlib.Core.Path.{◌≡◌, refl, sym, ap, subst, ◌∙◌}
use mathlib.Core.Bool.{Bool, true, false}
use mathlib.Core.List.{List, [], ◌++◌}
use Prim.Native.Nat.{ℕ, zero, suc, ◌≤◌, ◌<◌}
use native.Mathlib.Omega.{arith}
use borrow.Author.Tests.{leb-true, eqb-true, eqb-false}
use lib.Dec.{leb, eqb}
use lib.Ieee.{binary64, of_bits}
use lib.ListN.{length, length-append, length-replicate}
use Rattle.exponents.specs.Words.{pick, All}
use Rattle.exponents.specs.Outcome.{Outcome, Ok, Err, apply, bind}
use Rattle.units.specs.declared.Factor.{Factor}
use Rattle.units.specs.declared.Row.{Row}
use Rattle.units.specs.declared.Rows.{Rows}
use Rattle.units.specs.Lists.{no_factor}
use Rattle.lent.specs.Lent.{lent_rows_lem}
use Rattle.tables.specs.Rows.{Facts, table, rows_of}
use Rattle.wire.specs.Bytes.{pad_to, run_bytes}
use Rattle.beginnings.specs.Beginnings.{admitting, before}
use Rattle.beginnings.proofs.Counted.{before-short}
use Rattle.groups.specs.Taken.{Taken, nothing, taken, provided, then, run?}
use Rattle.groups.specs.Numbers.{number_bytes, up_to?, number?}
use Rattle.groups.proofs.Behind.{Then, first, parted, met}
use Rattle.groups.proofs.Steps.{up_bound}
use Rattle.files.specs.Records.{factor?, row_file, table_file, eight?, base_row, derived_row, derived?, row?, is_nil, table?, front_on, front}
use Rattle.files.proofs.Tables.{nil}
use Rattle.files.proofs.Fronts.{front-all, front-some}
use Rattle.filereads.proofs.Filled.{run-count}
use Rattle.filelaws.proofs.Beginnings.{front_bound}
use Rattle.filelaws.proofs.Lengths.{number-some}
use Rattle.tablefiles.specs.Calls.{formed, write_table, read_table, least, kept_from, salvage_on, salvage}
use Rattle.tablefiles.proofs.Admissions.{rows-length, not_over}
use Rattle.tablefiles.proofs.Salvage.{least-left, least_right}

-- ---- what a file that is read has told

pub record Read (places : ℕ) (s : List ℕ) (rs : List Row) : Type 0 where
  pub known : List Facts
  pub admitted : table (lent_rows_lem rs) ≡ Ok known
  pub left : List ℕ
  pub formed : table? places s ≡ taken rs left

pub read_told : (places : ℕ) (s : List ℕ) (rs : List Row) → read_table places s ≡ Ok rs → Read places s rs
unfolding read_table bind
read_told places s rs e = go (table? places s) refl e
  where
    last : (l : List Row) (t : List ℕ) → table? places s ≡ taken l t → (o : Outcome (List Facts)) → table (lent_rows_lem l) ≡ o → apply (λ ks. l) o ≡ Ok rs → Read places s rs
    last l t p (Ok ks) q e = let x : l ≡ rs = cc in subst (Read places s) x (record { known = ks; admitted = q; left = t; formed = p })
    last l t p (Err r) q e = absurd (let z : ◌≡◌ {A = ℕ} 0 1 = cc in omega arith)

    go : (o : Taken (List Row)) → table? places s ≡ o → bind (formed o) (λ l. apply (λ ks. l) (table (lent_rows_lem l))) ≡ Ok rs → Read places s rs
    go nothing p e = absurd (let z : ◌≡◌ {A = ℕ} 0 1 = cc in omega arith)
    go (taken l t) p e = last l t p (table (lent_rows_lem l)) refl e

-- the count is read, the rows are the front, and nothing is left
pub record Counted (places : ℕ) (s : List ℕ) (rs : List Row) : Type 0 where
  pub count : ℕ
  pub left : List ℕ
  pub number : number? s ≡ taken count left
  pub room : count ≤ places
  pub rows : front count left ≡ (rs, [])
  pub all : length rs ≡ count

pub counted : (places : ℕ) (s : List ℕ) (rs : List Row) (t : List ℕ) → table? places s ≡ taken rs t → Counted places s rs
unfolding table?
counted places s rs t e = go (parted (number? s) _ rs t e)
  where
    rows : (n : ℕ) (u : List ℕ) (l : List Row) (v : List ℕ) → run? row? n u ≡ taken l v → (length l ≡ n) × (front n u ≡ (l, v))
    rows n u l v p = here (eqb (length (front n u).0) n) refl
      where
        here : (b : Bool) → eqb (length (front n u).0) n ≡ b → (length l ≡ n) × (front n u ≡ (l, v))
        here true q =
            let k = eqb-true (length (front n u).0) n q in
            let h = sym (front-all n u k) ∙ p in
            let x : (front n u).0 ≡ l = cc in
            let y : (front n u).1 ≡ v = cc in
            (ap length (sym x) ∙ k, λ i. (x i, y i))
        here false q = absurd (let h = sym (front-some n u (eqb-false (length (front n u).0) n q)) ∙ p in let z : ◌≡◌ {A = ℕ} 0 1 = cc in omega arith)

    last : (n : ℕ) (u : List ℕ) → number? s ≡ taken n u → Then (provided (leb n places) (run? row? n u)) (λ l v. provided (is_nil v) (taken l v)) rs t → Counted places s rs
    last n u p (first l v q j) =
        let f = met (leb n places) (run? row? n u) l v q in
        let m = met (is_nil v) (taken l v) rs t j in
        let x : l ≡ rs = cc m.1 in
        let r = rows n u l v f.1 in
        subst (Counted places s) x (record { count = n; left = u; number = p; room = leb-true n places f.0; rows = r.1 ∙ ap (λ w. (l, w)) (nil v m.0); all = r.0 })

    go : Then (number? s) (λ n s₁. then (provided (leb n places) (run? row? n s₁)) (λ l s₂. provided (is_nil s₂) (taken l s₂))) rs t → Counted places s rs
    go (first n u p q) = last n u p (parted (provided (leb n places) (run? row? n u)) _ rs t q)

-- ---- how many

pub read_few : (places : ℕ) (s : List ℕ) (rs : List Row) → read_table places s ≡ Ok rs → (length rs ≤ 128) × (length rs ≤ places)
read_few places s rs e =
    let r = read_told places s rs e in
    let c = counted places s rs r.left r.formed in
    (omega (arith, not_over (lent_rows_lem rs) r.known r.admitted, rows-length rs), omega (arith, c.all, c.room))

kept_bound : (m : ℕ) (s : List ℕ) → length (kept_from m s).0 ≤ m
unfolding kept_from
kept_bound m s = omega (arith, front_bound (before (admitting (front m s).0)) s, before-short (front m s).0, front_bound m s)

pub kept_few : (places : ℕ) (s : List ℕ) → (length (salvage places s).0 ≤ 128) × (length (salvage places s).0 ≤ places)
unfolding salvage
kept_few places s = go (number? s)
  where
    go : (o : Taken ℕ) → (length (salvage_on places (length s) o).0 ≤ 128) × (length (salvage_on places (length s) o).0 ≤ places)
    go nothing = (omega arith, omega arith)
    go (taken n t) =
        let k = kept_bound (least n (least places 128)) t in
        let a = least_right n (least places 128) in
        (omega (arith, least_right places 128), omega (arith, least-left places 128))

-- ---- each row has its eight places

padded : (fs : List Factor) → length fs ≤ 8 → length (pad_to no_factor 8 fs) ≡ 8
unfolding pad_to
padded fs h = simp (length-append, length-replicate) (omega arith)

row_full : (s : List ℕ) (r : Row) (t : List ℕ) → row? s ≡ taken r t → length r.def ≡ 8
unfolding row? derived?
row_full s r t e = ranked (parted (up_to? 65535 s) _ r t e)
  where
    factors : (rank : ℕ) (x : ℕ) (n : ℕ) (u : List ℕ) → n ≤ 8 → Then (run? factor? n u) (λ fs s₃. taken (derived_row rank (of_bits binary64 x) fs) s₃) r t → length r.def ≡ 8
    factors rank x n u h (first fs v p q) =
        let z : derived_row rank (of_bits binary64 x) fs ≡ r = cc in
        ap (λ (y : Row). length y.def) (sym z) ∙ padded fs (omega (arith, run-count n u fs v p))

    numbered : (rank : ℕ) (x : ℕ) (u : List ℕ) → Then (up_to? 8 u) (λ n s₂. then (run? factor? n s₂) (λ fs s₃. taken (derived_row rank (of_bits binary64 x) fs) s₃)) r t → length r.def ≡ 8
    numbered rank x u (first n v p q) = factors rank x n v (up_bound 8 u n v p) (parted (run? factor? n v) _ r t q)

    derived : (rank : ℕ) (u : List ℕ) → Then (eight? u) (λ x s₁. then (up_to? 8 s₁) (λ n s₂. then (run? factor? n s₂) (λ fs s₃. taken (derived_row rank (of_bits binary64 x) fs) s₃))) r t → length r.def ≡ 8
    derived rank u (first x v p q) = numbered rank x v (parted (up_to? 8 v) _ r t q)

    either : (rank : ℕ) (u : List ℕ) (b : Bool) → pick b (taken (base_row rank) u) (derived? rank u) ≡ taken r t → length r.def ≡ 8
    either rank u true e = let z : base_row rank ≡ r = cc in ap (λ (y : Row). length y.def) (sym z) ∙ length-replicate {A = Factor} 8 no_factor
    either rank u false e = derived rank u (parted (eight? u) _ r t e)

    kinded : (rank : ℕ) (u : List ℕ) → Then (up_to? 1 u) (λ k s₂. pick (eqb k 0) (taken (base_row rank) s₂) (derived? rank s₂)) r t → length r.def ≡ 8
    kinded rank u (first k v p q) = either rank v (eqb k 0) q

    ranked : Then (up_to? 65535 s) (λ rank s₁. then (up_to? 1 s₁) (λ k s₂. pick (eqb k 0) (taken (base_row rank) s₂) (derived? rank s₂))) r t → length r.def ≡ 8
    ranked (first rank u p q) = kinded rank u (parted (up_to? 1 u) _ r t q)

-- what holds of each row that is read holds of the front
pub front-each : (P : Row → Type 0) → ((s : List ℕ) (r : Row) (t : List ℕ) → row? s ≡ taken r t → P r) → (n : ℕ) (s : List ℕ) → All P (front n s).0
unfolding front
front-each P h zero s = tt
front-each P h (suc n) s = go (front-each P h n) (row? s) refl
  where
    go : ((s : List ℕ) → All P (front n s).0) → (o : Taken Row) → row? s ≡ o → All P (front_on o s (λ r t. front n t)).0
    go i nothing e = tt
    go i (taken r t) e = (h s r t e, i t)

pub read_full : (places : ℕ) (s : List ℕ) (rs : List Row) → read_table places s ≡ Ok rs → All (λ r. length r.def ≡ 8) rs
read_full places s rs e =
    let r = read_told places s rs e in
    let c = counted places s rs r.left r.formed in
    subst (All (λ r. length r.def ≡ 8)) (ap (λ (x : List Row × List ℕ). x.0) c.rows) (front-each (λ r. length r.def ≡ 8) row_full c.count c.left)

pub kept_full : (places : ℕ) (s : List ℕ) → All (λ r. length r.def ≡ 8) (salvage places s).0
unfolding salvage kept_from
kept_full places s = go (number? s)
  where
    go : (o : Taken ℕ) → All (λ r. length r.def ≡ 8) (salvage_on places (length s) o).0
    go nothing = tt
    go (taken n t) = front-each (λ r. length r.def ≡ 8) row_full _ t

-- ---- no file is empty
pub file_some : (t : Rows) (f : List ℕ) → write_table t ≡ Ok f → 0 < length f
unfolding write_table table_file
file_some t f e = go (table t) e
  where
    go : (o : Outcome (List Facts)) → apply (λ ks. number_bytes (length (rows_of t)) ++ run_bytes row_file (rows_of t)) o ≡ Ok f → 0 < length f
    go (Ok ks) e =
        let x : number_bytes (length (rows_of t)) ++ run_bytes row_file (rows_of t) ≡ f = cc in
        omega (arith, ap length x, length-append (number_bytes (length (rows_of t))) (run_bytes row_file (rows_of t)), number-some (length (rows_of t)))
    go (Err r) e = absurd (let z : ◌≡◌ {A = ℕ} 0 1 = cc in omega arith)
