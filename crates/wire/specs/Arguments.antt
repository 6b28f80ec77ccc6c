-- The arguments of a call (the byte form, "Records"): bytes of the wrong length read as a record that breaks its own rule, so that they are refused where such a record is.
use Rattle.std.specs.Prelude.{false, List, ℕ, ◌+◌, ◌/◌, ◌%◌, eqb, pos, length, replicate}
use Rattle.std.specs.Float.{binary64}
use Rattle.std.specs.Float.Ieee.{of_bits}
use Rattle.exponents.specs.declared.Exponent.{Exponent}
use Rattle.units.specs.declared.Prefix.{Prefix}
use Rattle.units.specs.declared.Factors.{Factors}
use Rattle.units.specs.declared.Rows.{Rows}
use Rattle.units.specs.declared.Quantity.{Quantity}
use Rattle.units.specs.declared.Candidates.{Candidates}
use Rattle.units.specs.Lists.{no_factor}
use Rattle.lent.specs.Lent.{no_row, no_candidate}
use Rattle.exponents.specs.Words.{pick}
use Rattle.wire.specs.Bytes.{run_at, pad_to, count_of}
use Rattle.wire.specs.Records.{exponent_at, bad_prefix, prefix_at, list_at, quantity_at, row_at, candidate_at}

-- ---- what bytes of the wrong length read as

-- no fraction has the denominator 0
abbrev pub bad_exponent : Exponent
bad_exponent = record { num = pos 0; den = 0 }

-- no list has 17 factors
abbrev pub bad_list : Factors
bad_list = record { at = replicate 16 no_factor; len = 17 }

abbrev pub bad_quantity : Quantity
bad_quantity = record { unit = bad_list; value = of_bits binary64 0; mark = false }

-- ---- a call's arguments

unfoldable pub prefix_from : List ℕ → Prefix
prefix_from s = pick (eqb (length s) 8) (prefix_at s 0) bad_prefix

unfoldable pub exponent_from : List ℕ → Exponent
exponent_from s = pick (eqb (length s) 8) (exponent_at s 0) bad_exponent

unfoldable pub list_from : List ℕ → Factors
list_from s = pick (eqb (length s) 324) (list_at s 0) bad_list

unfoldable pub quantity_from : List ℕ → Quantity
quantity_from s = pick (eqb (length s) 336) (quantity_at s 0) bad_quantity

-- how many records of so many bytes are n bytes; one more than the most where they are no whole number
unfoldable pub many_in : ℕ → ℕ → ℕ → ℕ
many_in size most n = pick (eqb (n % size) 0) (n / size) (most + 1)

unfoldable pub table_from : List ℕ → Rows
table_from s = record { at = pad_to no_row 128 (run_at row_at 176 (count_of 128 (many_in 176 128 (length s))) s 0); len = many_in 176 128 (length s) }

unfoldable pub candidates_from : List ℕ → Candidates
candidates_from s = record { at = pad_to no_candidate 32 (run_at candidate_at 328 (count_of 32 (many_in 328 32 (length s))) s 0); len = many_in 328 32 (length s) }
