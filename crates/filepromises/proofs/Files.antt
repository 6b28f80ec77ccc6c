-- Unit tables between sites (02, order 1): what is promised of a table's file, of reading one, and of what can be kept of a damaged one.
use mathlib.Core.Path.{◌≡◌, refl, sym, ap, ap₂, subst, ◌∙◌}
use mathlib.Core.List.{List, [], ◌∷◌, ◌++◌, map}
use mathlib.Core.Logic.{◌↔◌}
use Prim.Native.Nat.{ℕ, ◌+◌, ◌-◌, ◌≤◌, ◌<◌}
use native.Mathlib.Omega.{arith}
use lib.ListN.{length, take, length-append}
use Rattle.exponents.specs.Words.{All}
use Rattle.exponents.specs.Outcome.{Refusal, Ok, Err}
use Rattle.units.specs.declared.Row.{Row}
use Rattle.units.specs.declared.Rows.{Rows}
use Rattle.lent.specs.Lent.{lent_rows_lem}
use Rattle.tables.specs.Rows.{known, table, rows_of}
use Rattle.beginnings.specs.Beginnings.{admitting}
use Rattle.beginnings.proofs.Counted as beginnings
use Rattle.beginnings.proofs.Later.{later_stopped}
use Rattle.groups.specs.Taken.{Taken, nothing, taken}
use Rattle.groups.specs.Numbers.{number_bytes, number?}
use Rattle.groups.proofs.Behind.{Bytes}
use Rattle.files.specs.Records.{table_file, cleaned, front}
use Rattle.files.proofs.Forms.{Plain}
use Rattle.files.proofs.Tables.{table_only}
use Rattle.filelaws.proofs.Words.{Worded, admitted_plain}
use Rattle.filelaws.proofs.Cuts.{bytes_to, Whole, how_many}
use Rattle.filelaws.proofs.Lengths.{table-short, table_brief}
use Rattle.filelaws.proofs.Longest.{longest, longest_admitted, longest_met, longest_worded}
use Rattle.filelaws.proofs.Spans.{up_within, front_within}
use Rattle.tablefiles.specs.Calls.{write_table, read_table, least, kept_from, salvage}
use Rattle.tablefiles.proofs.Admissions.{rows_back}
use Rattle.tablefiles.proofs.Writing.{file_is}
use Rattle.tablefiles.proofs.Sized.{read_told, read_few, kept_few}
use Rattle.filepromises.specs.Files.{Admits, read_back_lem, Counts}
use Rattle.filepromises.proofs.Whole.{known_refused, none_whole, begin_whole, table_is, given_admitted, given_whole, whole_given}
use Rattle.filepromises.proofs.Keeping.{least-most, kept_whole, kept-front, kept-most, none_kept, salvage_is}
use Rattle.filepromises.proofs.Exactly.{read_kept, kept_read}
use Rattle.filepromises.proofs.Written.{write_told, file_cleaned, reads, short-count, short-rows}

-- ---- one admitted table has one file, and reading it gives the table back

module _ (t : Rows) (f : List ℕ) (e : write_table t ≡ Ok f) (w : All Worded (rows_of t)) where
  pub read_written : (places : ℕ) → length (rows_of t) ≤ places → read_table places f ≡ Ok (read_back_lem t)
  read_written places h =
      let o = write_told t f e in
      subst (λ s. read_table places s ≡ Ok (read_back_lem t)) o.is (reads t o.known o.admitted w places h)

  -- exactly the table, where nothing stands past its definitions
  pub read_clean : (places : ℕ) → length (rows_of t) ≤ places → All (λ r. cleaned r ≡ r) (rows_of t) → read_table places f ≡ Ok (rows_of t)
  read_clean places h c = read_written places h ∙ ap Ok (same (rows_of t) c)
    where
      same : (rs : List Row) → All (λ r. cleaned r ≡ r) rs → map cleaned rs ≡ rs
      same [] c = refl
      same (r ∷ rs) c = ap₂ ◌∷◌ c.0 (same rs c.1)

  -- what isn't read of a table isn't in its file
  pub written_same : table_file (read_back_lem t) ≡ f
  written_same = let o = write_told t f e in file_cleaned t o.known o.admitted w ∙ o.is

-- so two tables have one file exactly if they differ in nothing that is read
pub same_file : (t u : Rows) (f g : List ℕ) → write_table t ≡ Ok f → write_table u ≡ Ok g → All Worded (rows_of t) → All Worded (rows_of u) → (f ≡ g) ↔ (read_back_lem t ≡ read_back_lem u)
same_file t u f g e d w v = (there, λ h. sym (written_same t f e w) ∙ ap table_file h ∙ written_same u g d v)
  where
    there : f ≡ g → read_back_lem t ≡ read_back_lem u
    there h =
        let n = length (rows_of t) + length (rows_of u) in
        let z : Ok (read_back_lem t) ≡ Ok (read_back_lem u) = sym (read_written t f e w n (omega arith)) ∙ ap (read_table n) h ∙ read_written u g d v n (omega arith) in
        cc

-- what is read is written as the very bytes that it was read from
pub file_only : (places : ℕ) (s : List ℕ) (rs : List Row) → Bytes s → read_table places s ≡ Ok rs → write_table (lent_rows_lem rs) ≡ Ok s
file_only places s rs b e =
    let r = read_told places s rs e in
    let same = rows_back rs (read_few places s rs e).0 in
    let plain = subst (All (λ r. Plain r.kind)) same (admitted_plain (lent_rows_lem rs) r.known r.admitted) in
    file_is (lent_rows_lem rs) r.known r.admitted ∙ ap (λ l. Ok (table_file l)) same ∙ ap Ok (sym ((table_only places s rs r.left b r.formed).written plain))

-- so two files that read as the same rows are the same file
pub one_file : (places more : ℕ) (s u : List ℕ) (rs : List Row) → Bytes s → Bytes u → read_table places s ≡ Ok rs → read_table more u ≡ Ok rs → s ≡ u
one_file places more s u rs b c e d = let z : Ok s ≡ Ok u = sym (file_only places s rs b e) ∙ file_only more u rs c d in cc

-- ---- read and salvage

-- read answers exactly if salvage keeps all rows that the file counts and ends at the file's end
pub read_exactly : (places : ℕ) (s : List ℕ) (rs : List Row) → (read_table places s ≡ Ok rs) ↔ ((salvage places s ≡ (rs, length s)) × Counts s (length rs))
read_exactly places s rs = (read_kept places s rs, λ h. kept_read places s rs h.1.0 h.0 h.1.1)

-- ---- what salvage keeps

-- nothing, and 0, if the count can't be read
pub kept_nothing : (places : ℕ) (s : List ℕ) → number? s ≡ nothing → salvage places s ≡ ([], 0)
kept_nothing places s e = none_kept places s e

-- the rows kept are a table of their own
pub kept_admitted : (places : ℕ) (s : List ℕ) → Admits (lent_rows_lem (salvage places s).0)
kept_admitted places s = whole_given (salvage places s).0 (kept_few places s).0 (go (number? s) refl)
  where
    go : (o : Taken ℕ) → number? s ≡ o → beginnings.Whole (salvage places s).0
    go nothing e = subst beginnings.Whole (sym (ap (λ (p : List Row × ℕ). p.0) (none_kept places s e))) none_whole
    go (taken n t) e = subst beginnings.Whole (sym (ap (λ (p : List Row × ℕ). p.0) (salvage_is places s n t e))) (kept_whole (least n (least places 128)) t)

-- t is what stands behind the count of n rows
module _ (places n : ℕ) (s t : List ℕ) (e : number? s ≡ taken n t) where
  -- they are the rows in front, and the byte is where the first row not kept begins, or where the rows end
  pub kept_beginning : let k = length (salvage places s).0 in salvage places s ≡ ((front k t).0, length s - length (front k t).1)
  kept_beginning =
      let m = least n (least places 128) in
      let i = salvage_is places s n t e in
      let f : kept_from m t ≡ front (length (salvage places s).0) t = kept-front m t ∙ ap (λ k. front k t) (sym (ap (λ (p : List Row × ℕ). length p.0) i)) in
      i ∙ ap (λ (p : List Row × List ℕ). (p.0, length s - length p.1)) f

  -- the longest beginning that is whole, has its places and is admitted
  pub kept-longest : (j : ℕ) → j ≤ n → j ≤ places → j ≤ 128 → length (front j t).0 ≡ j → Admits (lent_rows_lem (front j t).0) → j ≤ length (salvage places s).0
  kept-longest j h p o l a =
      let m = least n (least places 128) in
      let k = kept-most m t j a.0 (least-most j n (least places 128) h (least-most j places 128 p o)) l (given_admitted (front j t).0 (omega arith) a.0 a.1) in
      omega (arith, ap (λ (p : List Row × ℕ). length p.0) (salvage_is places s n t e))

-- ---- a written file, cut anywhere, keeps exactly its whole rows

module _ (t : Rows) (f : List ℕ) (e : write_table t ≡ Ok f) (w : All Worded (rows_of t)) (places : ℕ) (h : length (rows_of t) ≤ places) where
  -- how many bytes the count takes
  abbrev count_bytes : ℕ
  count_bytes = length (number_bytes (length (rows_of t)))

  -- within the count: none
  pub cut_count : (c : ℕ) → c < count_bytes → salvage places (take c f) ≡ ([], 0)
  cut_count c l =
      let o = write_told t f e in
      subst (λ s. salvage places (take c s) ≡ ([], 0)) o.is (short-count t o.known o.admitted w places h c l)

  -- c bytes behind it, in which k rows are whole
  pub cut_keeps : (c k : ℕ) → Whole (rows_of t) c k → salvage places (take (count_bytes + c) f) ≡ (map cleaned (take k (rows_of t)), count_bytes + bytes_to k (rows_of t))
  cut_keeps c k m =
      let o = write_told t f e in
      subst (λ s. salvage places (take (count_bytes + c) s) ≡ (map cleaned (take k (rows_of t)), count_bytes + bytes_to k (rows_of t))) o.is (short-rows t o.known o.admitted w places h c k m)

  -- there is such a k, wherever the cut is
  pub cut_anywhere : (c : ℕ) → (k : ℕ) × Whole (rows_of t) c k × (salvage places (take (count_bytes + c) f) ≡ (map cleaned (take k (rows_of t)), count_bytes + bytes_to k (rows_of t)))
  cut_anywhere c = let m = how_many (rows_of t) c in (m.0, m.1, cut_keeps c m.0 m.1)

-- ---- no row's admission hangs on later rows

-- rows put behind a table change no refusal in it, and take no row out of it
pub no_later_rows : (rs qs : List Row) → length (rs ++ qs) ≤ 128
    → ((r : Refusal) → table (lent_rows_lem rs) ≡ Err r → table (lent_rows_lem (rs ++ qs)) ≡ Err r) × (Admits (lent_rows_lem (rs ++ qs)) → Admits (lent_rows_lem rs))
no_later_rows rs qs h = (stays, λ a. whole_given rs few (begin_whole rs qs (given_whole (rs ++ qs) h a.0 a.1)))
  where
    few : length rs ≤ 128
    few = omega (arith, length-append rs qs)

    stays : (r : Refusal) → table (lent_rows_lem rs) ≡ Err r → table (lent_rows_lem (rs ++ qs)) ≡ Err r
    stays r e =
        let a = known_refused (admitting rs) r (sym (table_is rs few) ∙ e) in
        table_is (rs ++ qs) h ∙ ap known (later_stopped rs qs r a.0 a.1).1

-- ---- how long

module _ (t : Rows) (f : List ℕ) (e : write_table t ≡ Ok f) where
  -- no file exceeds 15,890 bytes
  pub file_longest : All (λ r. r.rank ≤ 65535) (rows_of t) → length f ≤ 15890
  file_longest k = let o = write_told t f e in omega (arith, table-short t o.known o.admitted k, ap length o.is)

  -- whatever the ranks are
  pub file_brief : length f ≤ 16146
  file_brief = let o = write_told t f e in omega (arith, table_brief t o.known o.admitted, ap length o.is)

-- and one that code can hold has so many
pub file_longest_met : (t : Rows) × (f : List ℕ) × (write_table t ≡ Ok f) × All Worded (rows_of t) × (length f ≡ 15890)
file_longest_met = (longest, table_file (rows_of longest), file_is longest longest_admitted.0 longest_admitted.1, longest_worded, longest_met)

-- the byte that salvage tells fits four bytes: a count takes at most 5, each of 128 rows 223
pub byte_small : (places : ℕ) (s : List ℕ) → (salvage places s).1 ≤ 28549
byte_small places s = go (number? s) refl
  where
    go : (o : Taken ℕ) → number? s ≡ o → (salvage places s).1 ≤ 28549
    go nothing e = omega (arith, ap (λ (p : List Row × ℕ). p.1) (none_kept places s e))
    go (taken n t) e =
        let k = length (salvage places s).0 in
        omega (arith, ap (λ (p : List Row × ℕ). p.1) (kept_beginning places n s t e), up_within 4294967295 s n t e, front_within k t, (kept_few places s).0)
