-- A lent slice as a record by value: its elements as far as there are places, empty ones past them, and the slice's true length (01, "Records and sizes").
use Rattle.std.specs.Prelude.{List, [], ◌∷◌, length, replicate}
use Rattle.units.specs.declared.Kind.TheVariants.{Base}
use Rattle.units.specs.declared.Row.{Row}
use Rattle.units.specs.declared.Rows.{Rows}
use Rattle.units.specs.declared.Candidate.{Candidate}
use Rattle.units.specs.declared.Candidates.{Candidates}
use Rattle.units.specs.Lists.{no_factor}

-- what stands past the end of a table's rows, and of candidates
abbrev pub no_row : Row
no_row = record { def = replicate 8 no_factor; len = 0; rank = 0; kind = Base }

abbrev pub no_candidate : Candidate
no_candidate = record { unit = record { at = replicate 16 no_factor; len = 0 }; rank = 0 }

-- xs laid over ys: as long as ys, with the elements of xs in front, as many as fit
unfoldable pub over : {A : Type 0} → List A → List A → List A
over [] ys = ys
over (x ∷ xs) [] = []
over (x ∷ xs) (y ∷ ys) = x ∷ over xs ys

-- over 128 rows is TABLE, by the length
unfoldable pub lent_rows_lem : List Row → Rows
lent_rows_lem rs = record { at = over rs (replicate 128 no_row); len = length rs }

-- over 32 candidates is SHAPE, by the length
unfoldable pub lent_candidates : List Candidate → Candidates
lent_candidates cs = record { at = over cs (replicate 32 no_candidate); len = length cs }
