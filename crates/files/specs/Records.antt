-- Factors, rows and tables of a table file (02, order 1): written and read.
use Rattle.std.specs.Prelude.{Bool, true, false, List, [], ◌∷◌, ◌++◌, ℕ, zero, suc, leb, eqb, Float, length, drop, replicate}
use Rattle.std.specs.Float.{binary64}
use Rattle.std.specs.Float.Ieee.{of_bits, to_bits}
use Rattle.units.specs.declared.Factor.{Factor}
use Rattle.units.specs.declared.Kind.{Kind}
use Rattle.units.specs.declared.Kind.TheVariants.{Base, Derived}
use Rattle.units.specs.declared.Row.{Row}
use Rattle.units.specs.Lists.{no_factor}
use Rattle.exponents.specs.Words.{pick}
use Rattle.tables.specs.Rows.{def_of}
use Rattle.wire.specs.Bytes.{le, bytes_of, run_bytes, pad_to}
use Rattle.wire.specs.Records.{prefix_of, prefix_kind, prefix_number}
use Rattle.groups.specs.Taken.{Taken, nothing, taken, provided, then, run?}
use Rattle.groups.specs.Numbers.{number_bytes, up_to?, number?, folded, signed?}

-- ---- a factor: row, prefix kind, folded n, folded numerator, denominator

unfoldable pub factor_file : Factor → List ℕ
factor_file f =
    number_bytes f.row ++ (number_bytes (prefix_kind f.prefix) ++ (number_bytes (folded (prefix_number f.prefix))
    ++ (number_bytes (folded f.exponent.num) ++ number_bytes f.exponent.den)))

unfoldable pub factor? : List ℕ → Taken Factor
factor? s =
    then (number? s) (λ row s₁.
    then (up_to? 1 s₁) (λ k s₂.
    then (signed? s₂) (λ n s₃.
    then (signed? s₃) (λ num s₄.
    then (number? s₄) (λ den s₅.
    taken (record { row = row; prefix = prefix_of k n; exponent = record { num = num; den = den } }) s₅)))))

-- ---- a row: rank, kind; and of a derived one the factor's eight bytes, the number of factors, the factors

unfoldable pub kind_file : Kind → Row → List ℕ
kind_file Base r = number_bytes 0
kind_file (Derived x) r = number_bytes 1 ++ (bytes_of 8 (to_bits binary64 x) ++ (number_bytes r.len ++ run_bytes factor_file (def_of r)))

unfoldable pub row_file : Row → List ℕ
row_file r = number_bytes r.rank ++ kind_file r.kind r

-- eight bytes, the lowest first
unfoldable pub eight? : List ℕ → Taken ℕ
eight? s = provided (leb 8 (length s)) (taken (le 8 s 0) (drop 8 s))

abbrev pub base_row : ℕ → Row
base_row rank = record { def = replicate 8 no_factor; len = 0; rank = rank; kind = Base }

abbrev pub derived_row : ℕ → Float → List Factor → Row
derived_row rank x fs = record { def = pad_to no_factor 8 fs; len = length fs; rank = rank; kind = Derived x }

-- a row as it comes back: nothing past its definition, and a base row has none
unfoldable pub clean : Kind → Row → Row
clean Base r = base_row r.rank
clean (Derived x) r = derived_row r.rank x (def_of r)

abbrev pub cleaned : Row → Row
cleaned r = clean r.kind r

unfoldable pub derived? : ℕ → List ℕ → Taken Row
derived? rank s =
    then (eight? s) (λ x s₁.
    then (up_to? 8 s₁) (λ n s₂.
    then (run? factor? n s₂) (λ fs s₃.
    taken (derived_row rank (of_bits binary64 x) fs) s₃)))

unfoldable pub row? : List ℕ → Taken Row
row? s =
    then (up_to? 65535 s) (λ rank s₁.
    then (up_to? 1 s₁) (λ k s₂.
    pick (eqb k 0) (taken (base_row rank) s₂) (derived? rank s₂)))

-- ---- a table: the number of rows, the rows, and nothing behind them

unfoldable pub table_file : List Row → List ℕ
table_file rs = number_bytes (length rs) ++ run_bytes row_file rs

abbrev pub is_nil : List ℕ → Bool
is_nil [] = true
is_nil (b ∷ s) = false

-- with so many places lent: a count above them is a fault
unfoldable pub table? : ℕ → List ℕ → Taken (List Row)
table? places s =
    then (number? s) (λ n s₁.
    then (provided (leb n places) (run? row? n s₁)) (λ rs s₂.
    provided (is_nil s₂) (taken rs s₂)))

-- ---- what is whole: rows up to n as far as they are whole, and the bytes from the first that isn't

abbrev pub front_on : Taken Row → List ℕ → (Row → List ℕ → List Row × List ℕ) → List Row × List ℕ
front_on nothing s next = ([], s)
front_on (taken r t) s next = (r ∷ (next r t).0, (next r t).1)

unfoldable pub front : ℕ → List ℕ → List Row × List ℕ
front zero s = ([], s)
front (suc n) s = front_on (row? s) s (λ r t. front n t)
