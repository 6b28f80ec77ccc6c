-- A multiple and a list reduced, written and read back.
use mathlib.Core.Path.{◌≡◌, refl, ap}
use mathlib.Core.List.{List, ◌++◌}
use Prim.Native.Nat.{ℕ, ◌≤◌, ◌<◌, ◌^◌}
use native.Mathlib.Omega.{arith}
use lib.Dec.{T, eqb}
use lib.Ieee.{Float, binary64, fits}
use lib.ListN.{length}
use Rattle.exponents.specs.Words.{pick, All}
use Rattle.exponents.specs.Fractions.{nought}
use Rattle.exponents.specs.declared.Exponent.{Exponent}
use Rattle.units.specs.declared.Factor.{Factor}
use Rattle.units.specs.Lists.{pack}
use Rattle.reduction.specs.Multiple.{Maybe, times, none}
use Rattle.wire.specs.Bytes.{bytes_of}
use Rattle.wire.specs.Records.{exponent_bytes}
use Rattle.wire.proofs.Form.{Form, told, then}
use Rattle.wire.proofs.Round.{ExponentFits, FactorFits, number_form, value_form, exponent_form, list_form}
use Rattle.wire.proofs.Back.{pack-fits}
use Rattle.replies.specs.Replies.{value_bytes, unit_bytes, multiple_bytes, reduced_bytes, multiple_at, reduced_at}

-- ---- a multiple

abbrev pub MultipleFits : Maybe → Type 0
MultipleFits (times e) = ExponentFits e
MultipleFits none = Unit {0}

-- the number before the exponent, and the exponent
abbrev parts : Maybe → ℕ × Exponent
parts (times e) = (1, e)
parts none = (0, nought)

parts_bytes : (m : Maybe) → multiple_bytes m ≡ bytes_of 4 (parts m).0 ++ exponent_bytes (parts m).1
unfolding multiple_bytes
parts_bytes (times e) = refl
parts_bytes none = refl

parts_fit : (m : Maybe) → MultipleFits m → ((parts m).0 < 256 ^ 4) × ExponentFits (parts m).1
parts_fit (times e) h = (omega arith, h)
parts_fit none h = (omega arith, record { num = omega arith; den = omega arith })

parts_back : (m : Maybe) → pick (eqb (parts m).0 0) none (times (parts m).1) ≡ m
parts_back (times e) = refl
parts_back none = refl

pub multiple_form : Form MultipleFits multiple_at multiple_bytes 12
unfolding multiple_at
multiple_form = told (then (number_form 4) exponent_form) (λ x. pick (eqb x.0 0) none (times x.1)) parts (λ s i. refl) parts_bytes parts_fit (λ m _. parts_back m)

pub multiple_back : (m : Maybe) (s : List ℕ) → MultipleFits m → multiple_at (multiple_bytes m ++ s) 0 ≡ m
multiple_back = multiple_form.back

-- ---- a list reduced

pub reduced_back : (fs : List Factor) (v : Float) (s : List ℕ) → All FactorFits fs → length fs ≤ 16 → T (fits binary64 v) → reduced_at (reduced_bytes (fs, v) ++ s) 0 ≡ record { unit = pack fs; scale = v }
unfolding reduced_at reduced_bytes value_bytes unit_bytes
reduced_back fs v s a h f = ap (λ x. record { unit = x.1; scale = x.0 }) ((then value_form list_form).back (v, pack fs) s (f, pack-fits fs a h))
