-- What the functions by value read or keep, laid over the lent rows, is what the calls say and leave: there is a place for every row.
use mathlib.Core.Path.{◌≡◌, refl, sym, ap, subst, ◌∙◌}
use mathlib.Core.List.{List, ◌++◌}
use Prim.Native.Nat.{ℕ, ◌≤◌}
use lib.ListN.{length, drop, replicate, length-replicate}
use Rattle.exponents.specs.Outcome.{Refusal, Outcome, Ok, Err, apply}
use Rattle.units.specs.declared.Row.{Row}
use Rattle.units.specs.declared.Rows.{Rows}
use Rattle.lent.specs.Lent.{no_row, lent_rows_lem}
use Rattle.lentwrites.specs.Held.{laid}
use Rattle.lentwrites.proofs.Laws.{laid-over}
use Rattle.tablefiles.specs.declared.Kept.{Kept}
use Rattle.tablefiles.specs.declared.Salvaged.{Salvaged}
use Rattle.tablefiles.specs.Calls.{read_table, told_of, salvage, kept_of}
use Rattle.tablefiles.specs.Held.{read_of, salvaged_of}
use Rattle.tablefiles.proofs.Sized.{read_few, kept_few}
use Rattle.lentfiles.specs.Calls.{rows_left}

-- what is put of rows over ys
abbrev Put : List Row → List Row → List Row
Put rs ys = laid 128 (lent_rows_lem rs).len (lent_rows_lem rs).at ys

all_put : (rs ys : List Row) → length rs ≤ 128 → length rs ≤ length ys → Put rs ys ≡ rs ++ drop (length rs) ys
unfolding lent_rows_lem
all_put rs ys p q = laid-over 128 rs (replicate 128 no_row) ys (length-replicate 128 no_row) p q

-- ---- a read

-- what is put of the rows that were read: of a refusal none
abbrev put_of : List Row → Outcome Rows → List Row
put_of ys (Ok rows) = laid 128 rows.len rows.at ys
put_of ys (Err r) = ys

by_answer : (ys : List Row) (o : Outcome (List Row)) → ((rs : List Row) → o ≡ Ok rs → (length rs ≤ 128) × (length rs ≤ length ys))
    → (apply (λ (x : Rows). x.len) (read_of o) ≡ told_of o) × (put_of ys (read_of o) ≡ rows_left ys o)
unfolding lent_rows_lem
by_answer ys (Ok rs) few = (refl, all_put rs ys (few rs refl).0 (few rs refl).1)
by_answer ys (Err r) few = (refl, refl)

-- a refusal writes no row
pub read_refused : (s : List ℕ) (ys : List Row) (r : Refusal) → read_of (read_table (length ys) s) ≡ Err r
    → (told_of (read_table (length ys) s) ≡ Err r) × (rows_left ys (read_table (length ys) s) ≡ ys)
read_refused s ys r e =
    let f = by_answer ys (read_table (length ys) s) (read_few (length ys) s) in
    (sym f.0 ∙ ap (apply (λ (x : Rows). x.len)) e, sym f.1 ∙ ap (put_of ys) e)

pub read_follows : (s : List ℕ) (ys : List Row) (rows : Rows) → read_of (read_table (length ys) s) ≡ Ok rows
    → (Ok rows.len ≡ told_of (read_table (length ys) s)) × (laid 128 rows.len rows.at ys ≡ rows_left ys (read_table (length ys) s))
read_follows s ys rows e =
    let f = by_answer ys (read_table (length ys) s) (read_few (length ys) s) in
    (sym (ap (apply (λ (x : Rows). x.len)) e) ∙ f.0, sym (ap (put_of ys) e) ∙ f.1)

-- ---- salvage
abbrev pub Salvages : List ℕ → List Row → Kept → List Row → Type 0
Salvages s ys r zs = (r ≡ kept_of (salvage (length ys) s)) × (zs ≡ (salvage (length ys) s).0 ++ drop (length (salvage (length ys) s).0) ys)

pub salvage_follows : (s : List ℕ) (ys : List Row) (d : Salvaged) → d ≡ salvaged_of (salvage (length ys) s) → Salvages s ys d.told (laid 128 d.rows.len d.rows.at ys)
salvage_follows s ys d e =
    subst (λ (d' : Salvaged). Salvages s ys d'.told (laid 128 d'.rows.len d'.rows.at ys)) (sym e)
    (refl, all_put (salvage (length ys) s).0 ys (kept_few (length ys) s).0 (kept_few (length ys) s).1)
