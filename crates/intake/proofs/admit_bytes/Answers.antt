-- `admit_bytes` meets its contract. The invariant: the rows before i are admitted.
use mathlib.Core.Path.{◌≡◌, sym, ap, ◌∙◌, subst}
use mathlib.Core.List.{List, [], ◌∷◌}
use Prim.Native.Nat.{ℕ, ◌+◌, ◌≤◌, ◌<◌}
use native.Mathlib.Omega.{arith}
use lib.ListN.{drop}
use Rattle.exponents.specs.Outcome.{TABLE, Ok}
use Rattle.units.specs.declared.Row.{Row}
use Rattle.tables.specs.Rows.{Admission, stopped, admit, slots, rows_of}
use Rattle.tables.specs.Held.{Pages, admitted_of}
use Rattle.tables.proofs.Placing.{len_slots}
use Rattle.tables.proofs.Slotting.{slots_few}
use Rattle.tables.proofs.Admitting.{admitting_none, admitting_on, admitting_off, admitting_end}
use Rattle.wire.specs.Records.{row_at}
use Rattle.wire.specs.Arguments.{table_from}
use Rattle.wire.proofs.Runs.{length_run_at}
use Rattle.intake.proofs.TableRows.{row_here, row_inside, rows_inside, whole, too_many}
use Rattle.intake.proofs.admit_bytes.Invariants.{rows}
use Rattle.intake.proofs.admit_bytes.Goals as goal

pub returns-then-n-gt128 : goal.returns-then-n-gt128
returns-then-n-gt128 c =
    let a = c.args in
    let is : admit (table_from a.s.now) ≡ stopped TABLE [] = too_many a.s.now c.many-n.result c.many-n.ensures c.if-n-gt128.true in
    record { is = sym (ap (admitted_of (slots (rows_of (table_from a.s.now)))) is); pages = subst (λ (x : Admission). Pages x a.columns.now.nums a.columns.now.dens a.columns.now.scales a.columns.now.ranks a.columns.now.based) (sym is) tt }

pub slots_of-slots-requires : goal.slots_of-slots-requires
slots_of-slots-requires c = (c.if-n-gt128.false, rows_inside c.args.s.now c.many-n.result c.many-n.ensures c.if-n-gt128.false)

pub loop-i-init : goal.loop-i-init
loop-i-init c =
    let rs = rows c.args.s.now c.many-n.result in
    admitting_none (slots rs) rs _ _ _ _ _ c.clear.ensures

pub read_row-row-requires : goal.read_row-row-requires
read_row-row-requires c =
    row_inside c.args.s.now c.many-n.result c.many-n.ensures c.if-n-gt128.false c.loop-i.i c.loop-i-test.true

pub admit_row-entered-requires : goal.admit_row-entered-requires
admit_row-entered-requires c =
    let all : List Row = rows c.args.s.now c.many-n.result in
    let z = c.slots_of-slots in
    let low : c.loop-i.i < c.many-n.result = c.loop-i-test.true in
    let most : c.many-n.result ≤ 128 = c.if-n-gt128.false in
    (omega arith, omega (arith, len_slots z.result _ z.ensures, slots_few all))

pub returns-in-Err : goal.returns-in-Err
returns-in-Err c =
    let all : List Row = rows c.args.s.now c.many-n.result in
    let here : drop c.loop-i.i all ≡ c.read_row-row.result ∷ drop (c.loop-i.i + 1) all = row_here c.args.s.now c.many-n.result c.loop-i.i c.loop-i-test.true ∙ ap (λ (r : Row). r ∷ drop (c.loop-i.i + 1) all) (sym c.read_row-row.ensures) in
    let a = c.loop-i.invariant in
    let t =
    whole c.args.s.now c.many-n.result c.many-n.ensures c.if-n-gt128.false _ _ _ _ _ _
    (admitting_off (slots all) all _ _ _ _ _ _ _ a _ here c.admit_row-entered.result _ _ _ _ _
    (c.admit_row-entered.ensures.joins (slots all) a.ks c.slots_of-slots.ensures a.at a.bases-are a.paged) _ c.in-Err.is) in
    record { is = t.0; pages = t.1 }

pub counted-bases-requires : goal.counted-bases-requires
counted-bases-requires c = c.loop-i.invariant.few

pub loop-i-preserved : goal.loop-i-preserved
loop-i-preserved c =
    let all : List Row = rows c.args.s.now c.many-n.result in
    let here : drop c.loop-i.i all ≡ c.read_row-row.result ∷ drop (c.loop-i.i + 1) all = row_here c.args.s.now c.many-n.result c.loop-i.i c.loop-i-test.true ∙ ap (λ (r : Row). r ∷ drop (c.loop-i.i + 1) all) (sym c.read_row-row.ensures) in
    let a = c.loop-i.invariant in
    let low : c.loop-i.i < c.many-n.result = c.loop-i-test.true in
    let more =
    admitting_on (slots all) all _ _ _ _ _ _ _ a _ here c.admit_row-entered.result _ _ _ _ _
    (c.admit_row-entered.ensures.joins (slots all) a.ks c.slots_of-slots.ensures a.at a.bases-are a.paged) tt (search) c.counted-bases.result c.counted-bases.ensures in
    more

pub returns : goal.returns
returns c =
    let all : List Row = rows c.args.s.now c.many-n.result in
    let s = c.args.s.now in
    let n : c.loop-i.i ≡ c.many-n.result = omega arith in
    let t =
    whole s c.many-n.result c.many-n.ensures c.if-n-gt128.false _ _ _ _ _ _
    (admitting_end (slots all) all _ _ _ _ _ _ _ c.loop-i.invariant (omega (arith, length_run_at row_at 176 c.many-n.result s 0)) c.slots_of-slots.result c.slots_of-slots.ensures) in
    record { is = ap (λ (x : ℕ). Ok (record { slots = c.slots_of-slots.result; len = x })) (sym n) ∙ t.0; pages = t.1 }
