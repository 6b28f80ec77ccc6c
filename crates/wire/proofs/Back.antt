-- Written and given to a call, an argument is what was written.
use mathlib.Core.Path.{◌≡◌, sym, ap, ap₂, ◌∙◌}
use mathlib.Core.List.{List, [], append-nil}
use Prim.Native.Nat.{ℕ, ◌≤◌, ◌<◌}
use native.Mathlib.Nat.{mul-mod_left, mul-div_cancel}
use native.Mathlib.Omega.{arith}
use borrow.Author.Tests.{le-leb, eq-eqb}
use lib.Dec.{eqb}
use lib.ListN.{length}
use Rattle.exponents.specs.declared.Exponent.{Exponent}
use Rattle.units.specs.declared.Prefix.{Prefix}
use Rattle.units.specs.declared.Factor.{Factor}
use Rattle.units.specs.declared.Row.{Row}
use Rattle.units.specs.declared.Quantity.{Quantity}
use Rattle.units.specs.declared.Candidate.{Candidate}
use Rattle.units.specs.Lists.{no_factor, pack}
use Rattle.lent.specs.Lent.{no_row, no_candidate}
use Rattle.exponents.specs.Words.{pick, All}
use Rattle.wire.specs.Bytes.{run_at, run_bytes, pad_to, count_of}
use Rattle.wire.specs.Records.{exponent_bytes, prefix_bytes, list_bytes, quantity_bytes, row_bytes, candidate_bytes}
use Rattle.wire.specs.Arguments.{prefix_from, exponent_from, list_from, quantity_from, many_in, table_from, candidates_from}
use Rattle.wire.proofs.Form.{Form, alone, holding, run_sized, run_back}
use Rattle.wire.proofs.Round.{ExponentFits, PrefixFits, FactorFits, ListFits, QuantityFits, CandidateFits, RowFits, exponent_form, prefix_form, list_form, quantity_form, candidate_form, row_form}

-- ---- one record

one_back : {A : Type 0} {P : A → Type 0} {read : List ℕ → ℕ → A} {bytes : A → List ℕ} {size : ℕ} → Form P read bytes size
    → (bad a : A) → P a → pick (eqb (length (bytes a)) size) (read (bytes a) 0) bad ≡ a
one_back f bad a h = rw (eq-eqb _ _ (f.sized a h)) (alone f a h)

pub exponent_from_lem : (e : Exponent) → ExponentFits e → exponent_from (exponent_bytes e) ≡ e
unfolding exponent_from
exponent_from_lem e h = one_back exponent_form _ e h

pub prefix_from_lem : (p : Prefix) → PrefixFits p → prefix_from (prefix_bytes p) ≡ p
unfolding prefix_from
prefix_from_lem p h = one_back prefix_form _ p h

-- any list of at most 16 factors
pub pack-fits : (fs : List Factor) → All FactorFits fs → length fs ≤ 16 → ListFits (pack fs)
unfolding pack pad_to
pack-fits fs a h = holding FactorFits no_factor 16 fs a h

pub list_from_lem : (fs : List Factor) → All FactorFits fs → length fs ≤ 16 → list_from (list_bytes (pack fs)) ≡ pack fs
unfolding list_from
list_from_lem fs a h = one_back list_form _ (pack fs) (pack-fits fs a h)

pub quantity_from_lem : (q : Quantity) → QuantityFits q → quantity_from (quantity_bytes q) ≡ q
unfolding quantity_from
quantity_from_lem q h = one_back quantity_form _ q h

-- ---- a run of records

module _ {A : Type 0} {P : A → Type 0} {read : List ℕ → ℕ → A} {bytes : A → List ℕ} {size : ℕ} (f : Form P read bytes size) (some : 0 < size) (most : ℕ) where
  -- their true number, be it too many or not
  many_back : (l : List A) → All P l → many_in size most (length (run_bytes bytes l)) ≡ length l
  unfolding many_in
  many_back l h = rw (run_sized f l h, mul-mod_left (length l) size) (mul-div_cancel (length l) some)

  records_back : (l : List A) → All P l → length l ≤ most → run_at read size (count_of most (many_in size most (length (run_bytes bytes l)))) (run_bytes bytes l) 0 ≡ l
  unfolding count_of
  records_back l h q =
      ap (λ n. run_at read size (count_of most n) (run_bytes bytes l) 0) (many_back l h)
      ∙ rw (le-leb (length l) most q) (ap (λ s. run_at read size (length l) s 0) (sym (append-nil (run_bytes bytes l))) ∙ run_back f l [] h)

pub table_len : (rs : List Row) → All RowFits rs → (table_from (run_bytes row_bytes rs)).len ≡ length rs
unfolding table_from
table_len rs h = many_back row_form (omega arith) 128 rs h

pub table_from_lem : (rs : List Row) → All RowFits rs → length rs ≤ 128 → table_from (run_bytes row_bytes rs) ≡ record { at = pad_to no_row 128 rs; len = length rs }
unfolding table_from
table_from_lem rs h q = ap₂ (λ l n. record { at = pad_to no_row 128 l; len = n }) (records_back row_form (omega arith) 128 rs h q) (many_back row_form (omega arith) 128 rs h)

pub candidates_len : (cs : List Candidate) → All CandidateFits cs → (candidates_from (run_bytes candidate_bytes cs)).len ≡ length cs
unfolding candidates_from
candidates_len cs h = many_back candidate_form (omega arith) 32 cs h

pub candidates_from_lem : (cs : List Candidate) → All CandidateFits cs → length cs ≤ 32
    → candidates_from (run_bytes candidate_bytes cs) ≡ record { at = pad_to no_candidate 32 cs; len = length cs }
unfolding candidates_from
candidates_from_lem cs h q = ap₂ (λ l n. record { at = pad_to no_candidate 32 l; len = n }) (records_back candidate_form (omega arith) 32 cs h q) (many_back candidate_form (omega arith) 32 cs h)
