-- A table that was written: its rows, as they come back, are admitted as it is, so is each beginning of them; and what is left of its file behind a cut.
use mathlib.Core.Path.{◌≡◌, refl, sym, ap, subst, ◌∙◌}
use mathlib.Core.List.{List, [], ◌∷◌, ◌++◌, map}
use Prim.Native.Nat.{ℕ, zero, suc, ◌+◌, ◌-◌, ◌≤◌, ◌<◌}
use native.Mathlib.Omega.{arith}
use lib.ListN.{length, take, drop, length-map, length-append, length-take, length-drop, take-append-drop}
use lib.Seq.{take-append-add}
use Rattle.exponents.specs.Words.{All}
use Rattle.exponents.specs.Outcome.{Outcome, Ok, Err, apply}
use Rattle.exponents.proofs.Each.{all_imp, all_both}
use Rattle.units.specs.declared.Row.{Row}
use Rattle.units.specs.declared.Rows.{Rows}
use Rattle.lent.specs.Lent.{lent_rows_lem}
use Rattle.tables.specs.Rows.{Facts, admit, admitted, known, table, rows_of}
use Rattle.tables.proofs.Filled.{admit-rows}
use Rattle.wire.specs.Bytes.{run_bytes}
use Rattle.beginnings.specs.Beginnings.{admitting}
use Rattle.beginnings.proofs.Counted as beginnings
use Rattle.groups.specs.Numbers.{number_bytes}
use Rattle.files.specs.Records.{row_file, cleaned, table_file}
use Rattle.files.proofs.Tables.{table_back}
use Rattle.filelaws.proofs.Admitted.{Kept, admitted_rows, admitted_all}
use Rattle.filelaws.proofs.Words.{Worded, admitted_fits}
use Rattle.filelaws.proofs.Cleaned.{Alike, admit_alike, file_alike, cleaned_alike}
use Rattle.filelaws.proofs.Cuts.{bytes_to, Whole, rows_cut, bytes_inside, count_cut, count-whole}
use Rattle.tablefiles.specs.Calls.{write_table, read_table, kept_from, salvage}
use Rattle.tablefiles.proofs.Reading.{read_file}
use Rattle.filepromises.proofs.Whole.{known_given, begin_whole, table_is}
use Rattle.filepromises.proofs.Keeping.{kept-all, none_kept, salvage-all}

-- what a written file tells
pub record Written (t : Rows) (f : List ℕ) : Type 0 where
  pub known : List Facts
  pub admitted : table t ≡ Ok known
  pub is : table_file (rows_of t) ≡ f

pub write_told : (t : Rows) (f : List ℕ) → write_table t ≡ Ok f → Written t f
unfolding write_table
write_told t f e = go (table t) refl e
  where
    go : (o : Outcome (List Facts)) → table t ≡ o → apply (λ ks. table_file (rows_of t)) o ≡ Ok f → Written t f
    go (Ok ks) p e = let z : table_file (rows_of t) ≡ f = cc in record { known = ks; admitted = p; is = z }
    go (Err r) p e = absurd (let z : ◌≡◌ {A = ℕ} 0 1 = cc in omega arith)

all_take : {A : Type 0} (P : A → Type 0) (k : ℕ) (l : List A) → All P l → All P (take k l)
all_take P zero l h = tt
all_take P (suc k) [] h = tt
all_take P (suc k) (a ∷ l) h = (h.0, all_take P k l h.1)

module _ (t : Rows) (ks : List Facts) (e : table t ≡ Ok ks) (w : All Worded (rows_of t)) where
  alike : All (λ r. Alike (cleaned r) r) (rows_of t)
  alike = all_imp (rows_of t) (λ r h. cleaned_alike r h.0 h.1.places) (all_both (Kept 128) Worded (rows_of t) (admitted_all t ks e) w)

  pub file_cleaned : table_file (map cleaned (rows_of t)) ≡ table_file (rows_of t)
  file_cleaned = file_alike cleaned (rows_of t) alike

  own : admitting (rows_of t) ≡ admitted ks
  own = admit-rows t ks (known_given (admit t) ks e)

  -- as they come back
  pub table-cleaned : table (lent_rows_lem (map cleaned (rows_of t))) ≡ Ok ks
  table-cleaned = table_is (map cleaned (rows_of t)) (omega (arith, length-map (rows_of t) cleaned, (admitted_rows t ks e).few)) ∙ ap known (admit_alike cleaned (rows_of t) alike ∙ own)

  begin_cleaned : (k : ℕ) → beginnings.Whole (map cleaned (take k (rows_of t)))
  begin_cleaned k =
      let whole = begin_whole (take k (rows_of t)) (drop k (rows_of t)) (subst beginnings.Whole (sym (take-append-drop k (rows_of t))) (record { known = ks; is = own })) in
      record { known = whole.known; is = admit_alike cleaned (take k (rows_of t)) (all_take _ k (rows_of t) alike) ∙ whole.is }

  module _ (places : ℕ) (h : length (rows_of t) ≤ places) where
    pub reads : read_table places (table_file (rows_of t)) ≡ Ok (map cleaned (rows_of t))
    reads =
        read_file places (table_file (rows_of t)) (map cleaned (rows_of t)) []
        (table_back places (rows_of t) h (omega (arith, (admitted_rows t ks e).few)) (admitted_fits t ks e w)) ks table-cleaned

    pub short-count : (c : ℕ) → c < length (number_bytes (length (rows_of t))) → salvage places (take c (table_file (rows_of t))) ≡ ([], 0)
    short-count c l = none_kept places (take c (table_file (rows_of t))) (count_cut (rows_of t) c (omega (arith, (admitted_rows t ks e).few)) l)

    pub short-rows : (c k : ℕ) → Whole (rows_of t) c k
        → salvage places (take (length (number_bytes (length (rows_of t))) + c) (table_file (rows_of t))) ≡ (map cleaned (take k (rows_of t)), length (number_bytes (length (rows_of t))) + bytes_to k (rows_of t))
    unfolding table_file
    short-rows c k m =
        let n = length (rows_of t) in
        let u = take c (run_bytes row_file (rows_of t)) in
        let s = take (length (number_bytes n) + c) (number_bytes n ++ run_bytes row_file (rows_of t)) in
        let few = (admitted_rows t ks e).few in
        let kept = kept-all n u (map cleaned (take k (rows_of t))) (drop (bytes_to k (rows_of t)) u) (rows_cut n (rows_of t) c k (admitted_fits t ks e w) m.few m) (begin_cleaned k) in
        let all = salvage-all places s n u (count-whole (rows_of t) c (omega arith)) h few in
        let long = ap length (take-append-add (number_bytes n) (run_bytes row_file (rows_of t)) c) ∙ length-append (number_bytes n) u in
        let left = ap (λ (p : List Row × List ℕ). length p.1) kept ∙ length-drop (bytes_to k (rows_of t)) u in
        let end : length s - length (kept_from n u).1 ≡ length (number_bytes n) + bytes_to k (rows_of t) = omega (arith, m.inside, bytes_inside k (rows_of t), length-take c (run_bytes row_file (rows_of t))) in
        all ∙ (λ i. ((kept i).0, end i))
