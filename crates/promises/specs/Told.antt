-- What a call tells (01, "The refusals"): the number, 0 where it answers, and the answer.
use Rattle.std.specs.Prelude.{Bool, false, Float}
use Rattle.std.proofs.Math.Option.{Option}
use Rattle.std.proofs.Math.Option as option
use Rattle.std.specs.declared.cmp.Ordering as cmp
use Rattle.std.specs.declared.cmp.Ordering.TheVariants.{Less, Equal, Greater}
use Prim.Native.Nat.{ℕ, Ordering}
use Rattle.std.specs.Float.{binary64}
use Rattle.std.specs.Float.Ieee.{of_bits}
use Rattle.exponents.specs.Outcome.{Outcome, Ok, Err, number}
use Rattle.reduction.specs.Multiple.{Maybe, none}

-- beside a refusal `blank`, which is zero, no or none
abbrev pub told_of : {A : Type 0} → A → Outcome A → ℕ × A
told_of blank (Ok a) = (0, a)
told_of blank (Err r) = (number r, blank)

-- ---- and by cases, for each kind of answer

-- 01's number and value in each case: value bits zero beside a refusal
abbrev pub factor_told : Outcome Float → ℕ × Float
factor_told (Ok v) = (0, v)
factor_told (Err r) = (number r, of_bits binary64 0)

-- 01's number and answer in each case: no beside a refusal
abbrev pub verdict_told : Outcome Bool → ℕ × Bool
verdict_told (Ok b) = (0, b)
verdict_told (Err r) = (number r, false)

-- 01's number and multiple in each case: none beside a refusal
abbrev pub multiple_told : Outcome Maybe → ℕ × Maybe
multiple_told (Ok m) = (0, m)
multiple_told (Err r) = (number r, none)

-- 01's number and value in each case: value bits zero beside a refusal
abbrev pub converted_told : Outcome Float → ℕ × Float
converted_told (Ok v) = (0, v)
converted_told (Err r) = (number r, of_bits binary64 0)

-- 01's number and order in each case: none beside a refusal
abbrev pub compared_told : Outcome cmp.Ordering → ℕ × Option Ordering
compared_told (Ok Less) = (0, option.some Ordering.lt)
compared_told (Ok Equal) = (0, option.some Ordering.eq)
compared_told (Ok Greater) = (0, option.some Ordering.gt)
compared_told (Err r) = (number r, option.none)
