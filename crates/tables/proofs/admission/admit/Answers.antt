-- `admit` meets its contract. The invariant: the rows before i are admitted.
use borrow.Author.Rules.{rules}
use mathlib.Core.Path.{◌≡◌, sym, ap, ◌∙◌, subst}
use mathlib.Core.Bool.{Bool}
use mathlib.Core.List.{List, [], ◌∷◌}
use Prim.Native.Nat.{ℕ, ◌+◌, ◌≤◌, ◌<◌}
use native.Mathlib.Omega.{arith}
use lib.IntN.{ℤ}
use lib.Ieee.{Float}
use lib.ListN.{length, drop}
use Rattle.exponents.specs.Outcome.{TABLE, Ok}
use Rattle.units.specs.declared.Row.{Row}
use Rattle.std.specs.Prelude.{Result}
use Rattle.tables.specs.declared.Admitted.{Admitted}
use Rattle.tables.specs.declared.Rejected.{Rejected}
use Rattle.tables.specs.Rows.{Admission, stopped, admit_from, admit, slots, rows_of}
use Rattle.tables.specs.Held.{Pages, admitted_of}
use Rattle.exponents.proofs.Words.{unmapped}
use borrow.Author.Rules.{length_unmapped}
use Rattle.tables.proofs.Terms.{nil_row}
use Rattle.tables.proofs.Placing.{len_slots}
use Rattle.tables.proofs.Slotting.{slots_few, long_rows, row_here}
use Rattle.tables.proofs.Admitting.{Tells, admitting_none, admitting_on, admitting_off, admitting_end, within, over}
use Rattle.tables.proofs.admission.admit.Goals as goal

pub returns-then-n-gt128 : goal.returns-then-n-gt128
returns-then-n-gt128 c =
    let all = slots (rows_of c.args.rows) in
    let is : admit c.args.rows ≡ stopped TABLE [] = over c.args.rows c.if-n-gt128.true in
    record { is = sym (ap (admitted_of all) is); pages = subst (λ (a : Admission). Pages a c.args.columns.now.nums c.args.columns.now.dens c.args.columns.now.scales c.args.columns.now.ranks c.args.columns.now.based) (sym is) tt }

pub loop-i-init : goal.loop-i-init
loop-i-init c = admitting_none (slots (rows_of c.args.rows)) (rows_of c.args.rows) _ _ _ _ _ c.clear.ensures

pub admit_row-entered-requires : goal.admit_row-entered-requires
admit_row-entered-requires c =
    let small : c.args.rows.len ≤ 128 = c.if-n-gt128.false in
    let z = c.slots_of-slots in
    let low : c.loop-i.i < c.args.rows.len = c.loop-i-test.true in
    let most : c.args.rows.len ≤ 128 = small in
    (omega arith, omega (arith, len_slots z.result _ z.ensures, slots_few (rows_of c.args.rows)))

pub returns-in-Err : goal.returns-in-Err
returns-in-Err c =
    let full : length c.args.rows.at ≡ 128 = search (rules, unmapped) in
    let small : c.args.rows.len ≤ 128 = c.if-n-gt128.false in
    let here : drop c.loop-i.i (rows_of c.args.rows) ≡ c.taken-row.result ∷ drop (c.loop-i.i + 1) (rows_of c.args.rows) = row_here c.args.rows (full) (small) c.loop-i.i nil_row c.loop-i-test.true ∙ ap (λ (r : Row). r ∷ drop (c.loop-i.i + 1) (rows_of c.args.rows)) (sym c.taken-row.ensures) in
    let whole : (r : Result Admitted Rejected) → (nums : List ℤ) → (dens : List ℕ) → (scales : List Float) → (ranks : List ℕ) → (based : List Bool) → Tells (slots (rows_of c.args.rows)) (admit_from (slots (rows_of c.args.rows)) [] (rows_of c.args.rows)) r nums dens scales ranks based → Tells (slots (rows_of c.args.rows)) (admit c.args.rows) r nums dens scales ranks based = λ r nums dens scales ranks based. subst (λ (a : Admission). Tells (slots (rows_of c.args.rows)) a r nums dens scales ranks based) (sym (within c.args.rows (small))) in
    let all = slots (rows_of c.args.rows) in
    let a = c.loop-i.invariant in
    let t =
    whole _ _ _ _ _ _
    (admitting_off all (rows_of c.args.rows) _ _ _ _ _ _ _ a _ (here) c.admit_row-entered.result _ _ _ _ _
    (c.admit_row-entered.ensures.joins all a.ks c.slots_of-slots.ensures a.at a.bases-are a.paged) _ c.in-Err.is) in
    record { is = t.0; pages = t.1 }

pub counted-bases-requires : goal.counted-bases-requires
counted-bases-requires c = c.loop-i.invariant.few

pub loop-i-preserved : goal.loop-i-preserved
loop-i-preserved c =
    let full : length c.args.rows.at ≡ 128 = search (rules, unmapped) in
    let small : c.args.rows.len ≤ 128 = c.if-n-gt128.false in
    let here : drop c.loop-i.i (rows_of c.args.rows) ≡ c.taken-row.result ∷ drop (c.loop-i.i + 1) (rows_of c.args.rows) = row_here c.args.rows (full) (small) c.loop-i.i nil_row c.loop-i-test.true ∙ ap (λ (r : Row). r ∷ drop (c.loop-i.i + 1) (rows_of c.args.rows)) (sym c.taken-row.ensures) in
    let all = slots (rows_of c.args.rows) in
    let a = c.loop-i.invariant in
    let low : c.loop-i.i < c.args.rows.len = c.loop-i-test.true in
    let more =
    admitting_on all (rows_of c.args.rows) _ _ _ _ _ _ _ a _ (here) c.admit_row-entered.result _ _ _ _ _
    (c.admit_row-entered.ensures.joins all a.ks c.slots_of-slots.ensures a.at a.bases-are a.paged) tt (search) c.counted-bases.result c.counted-bases.ensures in
    more

pub returns : goal.returns
returns c =
    let full : length c.args.rows.at ≡ 128 = search (rules, unmapped) in
    let small : c.args.rows.len ≤ 128 = c.if-n-gt128.false in
    let whole : (r : Result Admitted Rejected) → (nums : List ℤ) → (dens : List ℕ) → (scales : List Float) → (ranks : List ℕ) → (based : List Bool) → Tells (slots (rows_of c.args.rows)) (admit_from (slots (rows_of c.args.rows)) [] (rows_of c.args.rows)) r nums dens scales ranks based → Tells (slots (rows_of c.args.rows)) (admit c.args.rows) r nums dens scales ranks based = λ r nums dens scales ranks based. subst (λ (a : Admission). Tells (slots (rows_of c.args.rows)) a r nums dens scales ranks based) (sym (within c.args.rows (small))) in
    let rs = rows_of c.args.rows in
    let n : c.loop-i.i ≡ c.args.rows.len = omega arith in
    let t =
    whole _ _ _ _ _ _
    (admitting_end (slots rs) rs _ _ _ _ _ _ _ c.loop-i.invariant (omega (arith, long_rows c.args.rows (full) (small))) c.slots_of-slots.result c.slots_of-slots.ensures) in
    record { is = ap (λ (m : ℕ). Ok (record { slots = c.slots_of-slots.result; len = m })) (sym n) ∙ t.0; pages = t.1 }
