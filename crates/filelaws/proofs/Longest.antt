-- 15,890 bytes are met: an admitted table of 128 rows whose file is as long as any.
use mathlib.Core.Path.{◌≡◌, refl, ap}
use mathlib.Core.Bool.{false, not}
use mathlib.Core.List.{List, [], ◌∷◌, ◌++◌}
use Prim.Native.Nat.{ℕ, zero, suc, ◌+◌, ◌*◌, ◌≤◌, ◌<◌}
use native.Mathlib.Omega.{arith}
use borrow.Author.Tests.{lt-ltb, ne_eqb}
use lib.Dec.{ltb, eqb}
use lib.Ieee.{Float, binary64, of_bits, mul, eq}
use lib.Ieee.Bits.{of_bits-fits}
use lib.IntN.{pos}
use lib.ListN.{length, replicate, length-append}
use lib.Seq.{take_all}
use Rattle.exponents.specs.Words.{All}
use Rattle.exponents.specs.Outcome.{Ok, unless, bind, each}
use Rattle.exponents.specs.Gcd.{gcd, euclid}
use Rattle.exponents.specs.Fractions.{beyond, faulty}
use Rattle.exponents.proofs.Each.{all_imp}
use Rattle.floats.specs.Power.{bits_of, raise, power}
use Rattle.units.specs.declared.Prefix.TheVariants.{Binary}
use Rattle.units.specs.declared.Factor.{Factor}
use Rattle.units.specs.declared.Kind.TheVariants.{Derived}
use Rattle.units.specs.declared.Row.{Row}
use Rattle.units.specs.declared.Rows.{Rows}
use Rattle.units.specs.Lists.{no_factor, some, factor_fault}
use Rattle.keys.specs.Key.{multiple, wholes, reduce, divisor, below, shrink, key}
use Rattle.tables.specs.Lists.{base}
use Rattle.tables.specs.Scale.{raised_to, scale_from_lem}
use Rattle.tables.specs.Scale as scales
use Rattle.tables.specs.Rows.{Facts, scale_at, places, slotted, slots_from, is_base, kind_fault, count, table_fault, row_exps, row_scale, worked_out, row_facts, admitted, admit_from, slots, rows_of, admit, known, table}
use Rattle.groups.specs.Numbers.{groups, number_bytes}
use Rattle.wire.specs.Bytes.{bytes_of, run_bytes}
use Rattle.files.specs.Records.{factor_file, kind_file, row_file, table_file}
use Rattle.canonical.proofs.Keeping.{all_append, none_faulty}
use Rattle.filelaws.proofs.Words.{Worded}
use Rattle.filelaws.proofs.Lengths.{groups-below, groups-above}

-- 2 to the -64: with Binary(64) before it exactly 1, so any exponent of it has a scale
abbrev small : Float
small = of_bits binary64 0x3bf0_0000_0000_0000

-- fourteen bytes
abbrev long_factor : Factor
long_factor = record { row = 0; prefix = Binary (pos 64); exponent = record { num = pos 2147483647; den = 2147483646 } }

abbrev first_row : Row
first_row = record { def = replicate 8 no_factor; len = 0; rank = 65408; kind = Derived small }

abbrev long_row : ℕ → Row
long_row rank = record { def = replicate 8 long_factor; len = 8; rank = rank; kind = Derived small }

-- n rows of ranks that rise from one on
unfoldable pub long_rows_lem : ℕ → ℕ → List Row
long_rows_lem rank zero = []
long_rows_lem rank (suc n) = long_row rank ∷ long_rows_lem (suc rank) n

unfoldable pub longest : Rows
longest = record { at = first_row ∷ long_rows_lem 65409 127; len = 128 }

-- ---- admitted

abbrev fact : ℕ → Facts
fact rank = record { exps = []; key = []; scale = small; rank = rank; base = false }

-- `unfolding computed` opens what a row is worked out by
unfoldable computed : Unit {0}
unfolding unless bind each bits_of raise power mul eq of_bits some factor_fault beyond faulty multiple wholes reduce divisor below shrink key base places raised_to scales.raise scale_from_lem scale_at is_base kind_fault count table_fault row_exps row_scale worked_out row_facts
computed = tt

first_facts : row_facts [] [] first_row ≡ Ok (fact 65408)
unfolding computed
first_facts = refl

long_worked : (ks : List Facts) (rank : ℕ) → worked_out [] (fact 65408 ∷ ks) (long_row rank) ≡ Ok (fact rank)
unfolding computed
long_worked ks rank = refl

long_shape : some factor_fault (replicate 8 long_factor) ≡ false
unfolding computed gcd euclid
long_shape = refl

long_kind : (n : ℕ) → kind_fault (Derived small) n 8 ≡ false
unfolding computed
long_kind n = refl

long_lower : (n : ℕ) → 0 < n → some (λ f. not (ltb f.row n)) (replicate 8 long_factor) ≡ false
unfolding some
long_lower n h = rw (lt-ltb 0 n h)

module _ (ks : List Facts) (rank : ℕ) (h : All (λ k. k.rank < rank) (fact 65408 ∷ ks)) where
  fresh : some (λ k. eqb k.rank rank) (fact 65408 ∷ ks) ≡ false
  fresh = none_faulty (λ (k : Facts). eqb k.rank rank) (fact 65408 ∷ ks) (all_imp (fact 65408 ∷ ks) (λ k l. ne_eqb k.rank rank (λ e. omega arith)) h)

  long_table : table_fault (fact 65408 ∷ ks) (long_row rank) ≡ false
  unfolding table_fault
  long_table = rw (fresh, long_kind (count (fact 65408 ∷ ks)), long_lower (length (fact 65408 ∷ ks)) (omega arith))

  long_facts : row_facts [] (fact 65408 ∷ ks) (long_row rank) ≡ Ok (fact rank)
  unfolding row_facts unless
  long_facts = rw (long_table, long_shape) (long_worked ks rank)

  one_more : All (λ k. k.rank < suc rank) (fact 65408 ∷ (ks ++ (fact rank ∷ [])))
  one_more = all_append (λ k. k.rank < suc rank) (fact 65408 ∷ ks) (fact rank ∷ []) (all_imp (fact 65408 ∷ ks) (λ k l. omega arith) h) (omega arith, tt)

long_admitted : (ks : List Facts) (rank n : ℕ) → All (λ k. k.rank < rank) (fact 65408 ∷ ks) → (js : List Facts) × (admit_from [] (fact 65408 ∷ ks) (long_rows_lem rank n) ≡ admitted js)
unfolding long_rows_lem admit_from
long_admitted ks rank zero h = (fact 65408 ∷ ks, refl)
long_admitted ks rank (suc n) h =
    let i = long_admitted (ks ++ (fact rank ∷ [])) (suc rank) n (one_more ks rank h) in
    (i.0, rw (long_facts ks rank h) i.1)

no_slots : (i rank n : ℕ) → slots_from i [] (long_rows_lem rank n) ≡ []
unfolding slots_from slotted long_rows_lem
no_slots i rank zero = refl
no_slots i rank (suc n) = no_slots (suc i) (suc rank) n

many : (rank n : ℕ) → length (long_rows_lem rank n) ≡ n
unfolding long_rows_lem
many rank zero = refl
many rank (suc n) = ap suc (many (suc rank) n)

its_rows : rows_of longest ≡ first_row ∷ long_rows_lem 65409 127
unfolding longest
its_rows = ap (λ l. first_row ∷ l) (take_all 127 (long_rows_lem 65409 127) (omega (arith, many 65409 127)))

its_slots : slots (first_row ∷ long_rows_lem 65409 127) ≡ []
unfolding slots_from slotted
its_slots = no_slots 1 65409 127

its_facts : (js : List Facts) × (admit_from [] [] (first_row ∷ long_rows_lem 65409 127) ≡ admitted js)
unfolding admit_from
its_facts =
    let i = long_admitted [] 65409 127 (omega arith, tt) in
    (i.0, rw first_facts i.1)

admits : admit longest ≡ admitted its_facts.0
unfolding admit longest
admits = rw (its_rows, its_slots) its_facts.1

pub longest_admitted : (ks : List Facts) × (table longest ≡ Ok ks)
longest_admitted = (its_facts.0, ap known admits)

-- ---- and so long

three_bytes : (rank : ℕ) → 16384 ≤ rank → rank ≤ 65535 → length (number_bytes rank) ≡ 3
unfolding number_bytes
three_bytes rank h k = omega (arith, groups-below 3 5 rank (omega arith) (omega arith), groups-above 2 5 rank (omega arith) (omega arith))

kind_long : (rank : ℕ) → length (kind_file (Derived small) (long_row rank)) ≡ 122
unfolding kind_file run_bytes factor_file number_bytes groups bytes_of
kind_long rank = refl

row_long : (rank : ℕ) → 16384 ≤ rank → rank ≤ 65535 → length (row_file (long_row rank)) ≡ 125
unfolding row_file
row_long rank h k = omega (arith, length-append (number_bytes rank) (kind_file (Derived small) (long_row rank)), three_bytes rank h k, kind_long rank)

rows_long : (rank n : ℕ) → 16384 ≤ rank → rank + n ≤ 65536 → length (run_bytes row_file (long_rows_lem rank n)) ≡ n * 125
unfolding run_bytes long_rows_lem
rows_long rank zero h k = refl
rows_long rank (suc n) h k =
    omega (arith, length-append (row_file (long_row rank)) (run_bytes row_file (long_rows_lem (suc rank) n)), row_long rank h (omega arith), rows_long (suc rank) n (omega arith) (omega arith))

first_long : length (row_file first_row) ≡ 13
unfolding row_file kind_file run_bytes number_bytes groups bytes_of
first_long = refl

count_long : length (number_bytes 128) ≡ 2
unfolding number_bytes groups
count_long = refl

file_long : length (table_file (first_row ∷ long_rows_lem 65409 127)) ≡ 15890
unfolding table_file run_bytes
file_long =
    rw (many 65409 127) (omega (
      arith,
      length-append (number_bytes 128) (row_file first_row ++ run_bytes row_file (long_rows_lem 65409 127)),
      count_long,
      length-append (row_file first_row) (run_bytes row_file (long_rows_lem 65409 127)),
      first_long,
      rows_long 65409 127 (omega arith) (omega arith),
    ))

pub longest_met : length (table_file (rows_of longest)) ≡ 15890
longest_met = rw its_rows file_long

-- ---- a table that code can hold

row_worded : (rank : ℕ) → rank ≤ 65535 → Worded (long_row rank)
row_worded rank h = record { rank = h; places = refl; factor = of_bits-fits binary64 0x3bf0_0000_0000_0000 }

rows_worded : (rank n : ℕ) → rank + n ≤ 65536 → All Worded (long_rows_lem rank n)
unfolding long_rows_lem
rows_worded rank zero h = tt
rows_worded rank (suc n) h = (row_worded rank (omega arith), rows_worded (suc rank) n (omega arith))

pub longest_worded : All Worded (rows_of longest)
longest_worded = rw its_rows (record { rank = omega arith; places = refl; factor = of_bits-fits binary64 0x3bf0_0000_0000_0000 }, rows_worded 65409 127 (omega arith))
