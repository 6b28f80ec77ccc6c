-- Closed examples (02, order 1): files that are read, refused and kept in part, and two that are written, byte for byte.
use mathlib.Core.Path.{◌≡◌, refl}
use mathlib.Core.List.{List, [], ◌∷◌, ◌++◌, map}
use Prim.Native.Nat.{ℕ, zero, suc}
use native.Mathlib.Omega.{arith}
use lib.Ieee.{binary64, of_bits, to_bits, mul, eq}
use lib.IntN.{pos, negsuc}
use lib.ListN.{length, replicate}
use Rattle.exponents.specs.Outcome.{TABLE, SHAPE, FORMAT, Ok, unless, bind, each, number, refusal_of}
use Rattle.exponents.specs.Held.{worked}
use Rattle.floats.specs.Power.{bits_of, raise, power}
use Rattle.units.specs.declared.Prefix.TheVariants.{Metric, Binary}
use Rattle.units.specs.declared.Row.{Row}
use Rattle.units.specs.Lists.{some, factor_fault}
use Rattle.lent.specs.Lent.{over, lent_rows_lem}
use Rattle.keys.specs.Key.{multiple, wholes, reduce, divisor, below, turn, shrink, key}
use Rattle.tables.specs.Lists.{base_at, base}
use Rattle.tables.specs.Scale as scales
use Rattle.tables.specs.Scale.{raised_to, scale_from_lem}
use Rattle.tables.specs.Rows.{exp_at, scale_at, places, placed, slotted, slots_from, is_base, kind_fault, count, table_fault, row_exps, row_scale, worked_out, row_facts, admit_from, admit}
use Rattle.wire.specs.Bytes.{le, bytes_of, run_bytes, pad_to}
use Rattle.wire.specs.Records.{prefix_of}
use Rattle.groups.specs.Taken.{then, run?}
use Rattle.groups.specs.Numbers.{groups, number_bytes, above, groups?, up_to?, unfolded, signed?}
use Rattle.files.specs.Records.{factor_file, factor?, kind_file, row_file, eight?, base_row, derived_row, derived?, row?, table_file, table?, front}
use Rattle.tablefiles.specs.Calls.{write_table, read_table, kept_from, salvage}
use Rattle.filepromises.proofs.Keeping.{salvage-all}

-- `unfolding compute` opens what a file is read, admitted and written by
unfoldable compute : Unit {0}
unfolding worked unless bind each bits_of raise power mul eq of_bits to_bits some factor_fault over lent_rows_lem multiple wholes reduce divisor below turn shrink key base_at base raised_to scales.raise scale_from_lem exp_at scale_at places placed slotted slots_from is_base kind_fault count table_fault row_exps row_scale worked_out row_facts admit_from admit le bytes_of run_bytes pad_to prefix_of then run? groups number_bytes above groups? up_to? unfolded signed? factor_file factor? kind_file row_file eight? derived? row? table_file table? front write_table read_table kept_from salvage
compute = tt

-- ---- salvage: places, a file, how many rows are kept, the byte

abbrev Part : Type 0
Part = ℕ × List ℕ × ℕ × ℕ

abbrev keeps : Part → ℕ × ℕ
keeps c = (length (salvage c.0 c.1).0, (salvage c.0 c.1).1)

abbrev told : Part → ℕ × ℕ
told c = (c.2, c.3)

abbrev salvaged : List Part
salvaged =
    -- the count can't be read: none, not shortest
    (5, [], 0, 0)
    ∷ (5, 0x80 ∷ [], 0, 0)
    ∷ (5, 0x81 ∷ 0 ∷ 0 ∷ 0 ∷ [], 0, 0)
    -- no rows, whatever follows
    ∷ (0, 0 ∷ [], 0, 1)
    ∷ (5, 0 ∷ 0x55 ∷ [], 0, 1)
    -- the first row's rank not shortest
    ∷ (1, 1 ∷ 0x80 ∷ 0 ∷ 0 ∷ [], 0, 1)
    -- the second row missing, cut, of the first's rank
    ∷ (2, 2 ∷ 0 ∷ 0 ∷ [], 1, 3)
    ∷ (2, 2 ∷ 0 ∷ 0 ∷ 1 ∷ [], 1, 3)
    ∷ (2, 2 ∷ 0 ∷ 0 ∷ 0 ∷ 0 ∷ [], 1, 3)
    -- a row without a place
    ∷ (1, 2 ∷ 0 ∷ 0 ∷ 1 ∷ 0 ∷ [], 1, 3)
    ∷ (0, 2 ∷ 0 ∷ 0 ∷ 1 ∷ 0 ∷ [], 0, 1)
    -- where the rows end, whatever follows
    ∷ (1, 1 ∷ 0 ∷ 0 ∷ 7 ∷ [], 1, 3)
    ∷ []

pub kept_so : map keeps salvaged ≡ map told salvaged
unfolding compute
kept_so = refl

-- with any places
pub kept_any : (places : ℕ)
    → (salvage places [] ≡ ([], 0)) × (salvage places (0x80 ∷ []) ≡ ([], 0)) × (salvage places (0x81 ∷ 0 ∷ 0 ∷ 0 ∷ []) ≡ ([], 0))
    × (salvage places (0 ∷ []) ≡ ([], 1)) × (salvage places (0 ∷ 0x55 ∷ []) ≡ ([], 1))
unfolding compute
kept_any places =
    (refl, refl, refl, salvage-all places (0 ∷ []) 0 [] refl (omega arith) (omega arith), salvage-all places (0 ∷ 0x55 ∷ []) 0 (0x55 ∷ []) refl (omega arith) (omega arith))

-- 200 admissible rows: 128 are kept, and the byte is where row 128 begins
unfoldable pub many : ℕ → ℕ → List ℕ
many rank zero = []
many rank (suc n) = number_bytes rank ++ (1 ∷ 0 ∷ 0 ∷ 0 ∷ 0 ∷ 0 ∷ 0 ∷ 0xf0 ∷ 0x3f ∷ 0 ∷ many (suc rank) n)

pub kept_many : keeps (200, number_bytes 200 ++ many 0 200, 0, 0) ≡ (128, 1410)
unfolding compute many
kept_many = refl

-- ---- read: places, a file, the refusal's number, 0 where rows are read

abbrev Whole : Type 0
Whole = ℕ × List ℕ × ℕ

abbrev answer : Whole → ℕ
answer c = refusal_of (read_table c.0 c.1)

-- row 1, of rank 1, derived by 1 with so many factors
abbrev derived_by : ℕ → List ℕ → List ℕ
derived_by n fs = 1 ∷ 1 ∷ 0 ∷ 0 ∷ 0 ∷ 0 ∷ 0 ∷ 0 ∷ 0xf0 ∷ 0x3f ∷ n ∷ fs

-- a base row, and that row
abbrev two : ℕ → List ℕ → List ℕ
two n fs = 2 ∷ 0 ∷ 0 ∷ derived_by n fs

-- one row derived by a number of these bytes, without factors
abbrev by : List ℕ → List ℕ
by x = 1 ∷ 0 ∷ 1 ∷ (x ++ (0 ∷ []))

-- the first row to the first
abbrev good : List ℕ
good = 0 ∷ 0 ∷ 0 ∷ 2 ∷ 1 ∷ []

abbrev readings : List Whole
readings =
    (0, 0 ∷ [], 0)
    ∷ (2, two 1 good, 0)
    ∷ (1, 1 ∷ 0xff ∷ 0xff ∷ 3 ∷ 0 ∷ [], 0)
    -- FORMAT anywhere comes before TABLE: row 0 by factor 0, row 1 of kind 2
    ∷ (2, 2 ∷ 0 ∷ 1 ∷ (replicate 8 0 ++ (0 ∷ 1 ∷ 2 ∷ [])), number FORMAT)
    -- bytes missing, or left over
    ∷ (5, [], number FORMAT)
    ∷ (5, 1 ∷ 0 ∷ [], number FORMAT)
    ∷ (5, 0 ∷ 0x55 ∷ [], number FORMAT)
    -- a number not shortest, above 4294967295, of six groups
    ∷ (5, 0x80 ∷ 0 ∷ [], number FORMAT)
    ∷ (2, two 1 (0 ∷ 0 ∷ 0 ∷ 2 ∷ 0xff ∷ 0xff ∷ 0xff ∷ 0xff ∷ 0x1f ∷ []), number FORMAT)
    ∷ (2, two 1 (0 ∷ 0 ∷ 0 ∷ 2 ∷ 0x80 ∷ 0x80 ∷ 0x80 ∷ 0x80 ∷ 0x80 ∷ 1 ∷ []), number FORMAT)
    -- kind 2, prefix kind 2, rank 65536, nine factors, a count above the places
    ∷ (1, 1 ∷ 0 ∷ 2 ∷ [], number FORMAT)
    ∷ (2, two 1 (0 ∷ 2 ∷ 0 ∷ 2 ∷ 1 ∷ []), number FORMAT)
    ∷ (1, 1 ∷ 0x80 ∷ 0x80 ∷ 4 ∷ 0 ∷ [], number FORMAT)
    ∷ (2, two 9 (good ++ (good ++ (good ++ (good ++ (good ++ (good ++ (good ++ (good ++ good)))))))), number FORMAT)
    ∷ (1, two 1 good, number FORMAT)
    -- 129 rows, with 128 places and with 129
    ∷ (128, 0x81 ∷ 1 ∷ replicate 258 0, number FORMAT)
    ∷ (129, 0x81 ∷ 1 ∷ replicate 258 0, number TABLE)
    -- a factor of zero, minus one, infinity, NaN; a row that isn't lower
    ∷ (1, by (replicate 8 0), number TABLE)
    ∷ (1, by (0 ∷ 0 ∷ 0 ∷ 0 ∷ 0 ∷ 0 ∷ 0xf0 ∷ 0xbf ∷ []), number TABLE)
    ∷ (1, by (0 ∷ 0 ∷ 0 ∷ 0 ∷ 0 ∷ 0 ∷ 0xf0 ∷ 0x7f ∷ []), number TABLE)
    ∷ (1, by (0 ∷ 0 ∷ 0 ∷ 0 ∷ 0 ∷ 0 ∷ 0xf8 ∷ 0x7f ∷ []), number TABLE)
    ∷ (2, two 1 (1 ∷ 0 ∷ 0 ∷ 2 ∷ 1 ∷ []), number TABLE)
    -- n = 1101; the exponents 1/0, 2/4, -2147483648/1
    ∷ (2, two 1 (0 ∷ 0 ∷ 0x9a ∷ 0x11 ∷ 2 ∷ 1 ∷ []), number SHAPE)
    ∷ (2, two 1 (0 ∷ 0 ∷ 0 ∷ 2 ∷ 0 ∷ []), number SHAPE)
    ∷ (2, two 1 (0 ∷ 0 ∷ 0 ∷ 4 ∷ 4 ∷ []), number SHAPE)
    ∷ (2, two 1 (0 ∷ 0 ∷ 0 ∷ 0xff ∷ 0xff ∷ 0xff ∷ 0xff ∷ 0x0f ∷ 1 ∷ []), number SHAPE)
    ∷ []

pub read_so : map answer readings ≡ map (λ c. c.2) readings
unfolding compute
read_so = refl

-- ---- written

pub none_written : write_table (lent_rows_lem []) ≡ Ok (0 ∷ [])
unfolding compute
none_written = refl

-- a base row, and 60 of Binary(-1) of it to the -2 times Metric(3) of it, of rank 300
abbrev small : List Row
small =
    base_row 3
    ∷ derived_row 300 (of_bits binary64 0x404e_0000_0000_0000) (
    record { row = 0; prefix = Binary (negsuc 0); exponent = record { num = negsuc 1; den = 1 } }
    ∷ record { row = 0; prefix = Metric (pos 3); exponent = record { num = pos 1; den = 1 } }
    ∷ []
    )
    ∷ []

abbrev small_file : List ℕ
small_file =
    2
    ∷ 3 ∷ 0
    ∷ 0xac ∷ 2 ∷ 1 ∷ 0 ∷ 0 ∷ 0 ∷ 0 ∷ 0 ∷ 0 ∷ 0x4e ∷ 0x40 ∷ 2
    ∷ 0 ∷ 1 ∷ 1 ∷ 3 ∷ 1
    ∷ 0 ∷ 0 ∷ 6 ∷ 2 ∷ 1
    ∷ []

pub small_written : write_table (lent_rows_lem small) ≡ Ok small_file
unfolding compute
small_written = refl

pub small_read : read_table 2 small_file ≡ Ok small
unfolding compute
small_read = refl
