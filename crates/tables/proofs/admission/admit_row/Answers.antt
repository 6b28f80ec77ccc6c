-- `admit_row` meets its contract: each test refuses as the row's definition does, and what is worked out is stored behind the rows before it.
use mathlib.Core.Path.{◌≡◌, sym, ap, ◌∙◌, subst}
use mathlib.Core.List.{List}
use Prim.Native.Nat.{ℕ, ◌≤◌, ◌<◌, ◌*◌}
use native.Mathlib.Omega.{arith}
use lib.ListN.{length, length-set, set}
use lib.Seq.{sets, length-sets}
use lib.IntN.{ℤ}
use Rattle.tables.specs.declared.Slot.{Slot}
use Rattle.exponents.specs.Outcome.{Ok}
use Rattle.tables.specs.Rows.{Facts, def_of, count, row_facts, worked_out}
use borrow.Author.Rules.{rules}
use Rattle.exponents.proofs.Words.{unmapped}
use Rattle.tables.specs.Held.{worked_of, pack_slots, tops, bottoms, Room, Ranked, Paged, RowIn}
use Rattle.std.specs.Result.{result_from_control_flow}
use Rattle.std.proofs.lemmas.Result.{err_from_is_err_and}
use Rattle.tables.proofs.Placing.{len_slots}
use Rattle.tables.proofs.Entering as row
use Rattle.tables.proofs.admission.admit_row.Goals as goal

pub returns-then-row_fault : goal.returns-then-row_fault
returns-then-row_fault c =
    let room : Room c.args.columns.now.nums c.args.columns.now.dens c.args.columns.now.scales c.args.columns.now.ranks c.args.columns.now.based = (search rules, search rules, search rules, search rules, search (rules, unmapped)) in
    let early-is : (ks : List Facts) → (at : c.args.i ≡ length ks) → (n : c.args.bases ≡ count ks) → (p : Ranked ks c.args.columns.now.ranks) → c.row_fault.result ≡ row.early ks c.args.row = λ ks at n p. c.row_fault.ensures ∙ row.early_of ks c.args.row c.args.i at c.args.bases c.args.columns.now.ranks c.rank_met-met.result n room.3 c.requires.0 p c.rank_met-met.ensures in
    record { joins = λ ss ks l at n p. row.row_refused ss ks c.args.row _ _ _ _ _ _ (row.early_fault ss ks c.args.row (sym (early-is ks at n p.ranked) ∙ c.if-row_fault.true)) }

pub names_ahead-requires : goal.names_ahead-requires
names_ahead-requires c =
    let short : c.args.row.len ≤ 8 = row.short c.rank_met-met.result _ c.args.row.len (sym c.row_fault.ensures ∙ c.if-row_fault.false) in
    short

pub returns-then-names_ahead : goal.returns-then-names_ahead
returns-then-names_ahead c =
    let room : Room c.args.columns.now.nums c.args.columns.now.dens c.args.columns.now.scales c.args.columns.now.ranks c.args.columns.now.based = (search rules, search rules, search rules, search rules, search (rules, unmapped)) in
    let names-are : (ks : List Facts) → (at : c.args.i ≡ length ks) → c.names_ahead.result ≡ row.names ks c.args.row = λ ks at. c.names_ahead.ensures ∙ row.names_of ks c.args.row c.args.i at in
    record { joins = λ ss ks l at n p. row.row_refused ss ks c.args.row _ _ _ _ _ _ (row.name_fault ss ks c.args.row (sym (names-are ks at) ∙ c.if-names_ahead.true)) }

pub def_fault-requires : goal.def_fault-requires
def_fault-requires c =
    let short : c.args.row.len ≤ 8 = row.short c.rank_met-met.result _ c.args.row.len (sym c.row_fault.ensures ∙ c.if-row_fault.false) in
    short

pub returns-then-def_fault : goal.returns-then-def_fault
returns-then-def_fault c =
    let room : Room c.args.columns.now.nums c.args.columns.now.dens c.args.columns.now.scales c.args.columns.now.ranks c.args.columns.now.based = (search rules, search rules, search rules, search rules, search (rules, unmapped)) in
    let early-is : (ks : List Facts) → (at : c.args.i ≡ length ks) → (n : c.args.bases ≡ count ks) → (p : Ranked ks c.args.columns.now.ranks) → c.row_fault.result ≡ row.early ks c.args.row = λ ks at n p. c.row_fault.ensures ∙ row.early_of ks c.args.row c.args.i at c.args.bases c.args.columns.now.ranks c.rank_met-met.result n room.3 c.requires.0 p c.rank_met-met.ensures in
    let names-are : (ks : List Facts) → (at : c.args.i ≡ length ks) → c.names_ahead.result ≡ row.names ks c.args.row = λ ks at. c.names_ahead.ensures ∙ row.names_of ks c.args.row c.args.i at in
    record {
      joins = λ ss ks l at n p. row.row_refused ss ks c.args.row _ _ _ _ _ _
          (row.shape_fault ss ks c.args.row (sym (early-is ks at n p.ranked) ∙ c.if-row_fault.false) (sym (names-are ks at) ∙ c.if-names_ahead.false) (sym c.def_fault.ensures ∙ c.if-def_fault.true));
    }

pub work_out-requires : goal.work_out-requires
work_out-requires c =
    let room : Room c.args.columns.now.nums c.args.columns.now.dens c.args.columns.now.scales c.args.columns.now.ranks c.args.columns.now.based = (search rules, search rules, search rules, search rules, search (rules, unmapped)) in
    let short : c.args.row.len ≤ 8 = row.short c.rank_met-met.result _ c.args.row.len (sym c.row_fault.ensures ∙ c.if-row_fault.false) in
    let low : c.args.i < 128 = c.requires.0 in (
      short,
      c.requires.1,
      sym c.def_fault.ensures ∙ c.if-def_fault.false,
      row.below c.args.i (def_of c.args.row) (omega arith) (sym c.names_ahead.ensures ∙ c.if-names_ahead.false),
    )

pub returns-in_err-k : goal.returns-in_err-k
returns-in_err-k c =
    let room : Room c.args.columns.now.nums c.args.columns.now.dens c.args.columns.now.scales c.args.columns.now.ranks c.args.columns.now.based = (search rules, search rules, search rules, search rules, search (rules, unmapped)) in
    let x = err_from_is_err_and c.from_residual.result c.from_residual.ensures.1 in
    let refused = sym (c.branch-k.ensures ∙ ap result_from_control_flow c.in_err-k.is) in
    let early-is : (ks : List Facts) → (at : c.args.i ≡ length ks) → (n : c.args.bases ≡ count ks) → (p : Ranked ks c.args.columns.now.ranks) → c.row_fault.result ≡ row.early ks c.args.row = λ ks at n p. c.row_fault.ensures ∙ row.early_of ks c.args.row c.args.i at c.args.bases c.args.columns.now.ranks c.rank_met-met.result n room.3 c.requires.0 p c.rank_met-met.ensures in
    let names-are : (ks : List Facts) → (at : c.args.i ≡ length ks) → c.names_ahead.result ≡ row.names ks c.args.row = λ ks at. c.names_ahead.ensures ∙ row.names_of ks c.args.row c.args.i at in
    let sound-is : (ks : List Facts) → (ss : List Slot) → (at : c.args.i ≡ length ks) → (n : c.args.bases ≡ count ks) → (p : Ranked ks c.args.columns.now.ranks) → row_facts ss ks c.args.row ≡ worked_out ss ks c.args.row = λ ks ss at n p. row.sound_row ss ks c.args.row (sym (early-is ks at n p) ∙ c.if-row_fault.false) (sym (names-are ks at) ∙ c.if-names_ahead.false) (sym c.def_fault.ensures ∙ c.if-def_fault.false) in
    let worked-is : (ks : List Facts) → (ss : List Slot) → (at : c.args.i ≡ length ks) → (l : c.args.slots ≡ pack_slots ss) → (p : Paged ks c.args.columns.now.nums c.args.columns.now.dens c.args.columns.now.scales c.args.columns.now.ranks c.args.columns.now.based) → c.work_out.result ≡ worked_of (worked_out ss ks c.args.row) = λ ks ss at l p. c.work_out.ensures ss ks l at (sym (names-are ks at) ∙ c.if-names_ahead.false) p.filed p.sized in
    record {
      joins = λ ss ks l at n p. rw (x.1, x.2) (row.work_refused ss ks c.args.row _ _ _ _ _ (sound-is ks ss at n p.ranked) _ (refused ∙ worked-is ks ss at l p));
    }

pub put_exps-requires : goal.put_exps-requires
put_exps-requires c =
    let room : Room c.args.columns.now.nums c.args.columns.now.dens c.args.columns.now.scales c.args.columns.now.ranks c.args.columns.now.based = (search rules, search rules, search rules, search rules, search (rules, unmapped)) in
    let low : c.args.i < 128 = c.requires.0 in
    (omega (arith, room.0), omega (arith, room.1))

pub returns : goal.returns
returns c =
    let room : Room c.args.columns.now.nums c.args.columns.now.dens c.args.columns.now.scales c.args.columns.now.ranks c.args.columns.now.based = (search rules, search rules, search rules, search rules, search (rules, unmapped)) in
    let early-is : (ks : List Facts) → (at : c.args.i ≡ length ks) → (n : c.args.bases ≡ count ks) → (p : Ranked ks c.args.columns.now.ranks) → c.row_fault.result ≡ row.early ks c.args.row = λ ks at n p. c.row_fault.ensures ∙ row.early_of ks c.args.row c.args.i at c.args.bases c.args.columns.now.ranks c.rank_met-met.result n room.3 c.requires.0 p c.rank_met-met.ensures in
    let names-are : (ks : List Facts) → (at : c.args.i ≡ length ks) → c.names_ahead.result ≡ row.names ks c.args.row = λ ks at. c.names_ahead.ensures ∙ row.names_of ks c.args.row c.args.i at in
    let sound-is : (ks : List Facts) → (ss : List Slot) → (at : c.args.i ≡ length ks) → (n : c.args.bases ≡ count ks) → (p : Ranked ks c.args.columns.now.ranks) → row_facts ss ks c.args.row ≡ worked_out ss ks c.args.row = λ ks ss at n p. row.sound_row ss ks c.args.row (sym (early-is ks at n p) ∙ c.if-row_fault.false) (sym (names-are ks at) ∙ c.if-names_ahead.false) (sym c.def_fault.ensures ∙ c.if-def_fault.false) in
    let worked-is : (ks : List Facts) → (ss : List Slot) → (at : c.args.i ≡ length ks) → (l : c.args.slots ≡ pack_slots ss) → (p : Paged ks c.args.columns.now.nums c.args.columns.now.dens c.args.columns.now.scales c.args.columns.now.ranks c.args.columns.now.based) → c.work_out.result ≡ worked_of (worked_out ss ks c.args.row) = λ ks ss at l p. c.work_out.ensures ss ks l at (sym (names-are ks at) ∙ c.if-names_ahead.false) p.filed p.sized in
    let k = c.in_ok-k.k in
    let known = sym (c.branch-k.ensures ∙ ap result_from_control_flow c.in_ok-k.is) in
    let q = c.put_exps in record {
      joins = λ ss ks l at n p.
          subst (λ (x : List ℤ). RowIn ss ks c.args.row (Ok tt) x q.new.dens (set c.args.columns.now.scales c.args.i k.scale) (set c.args.columns.now.ranks c.args.i k.rank) (set c.args.columns.now.based c.args.i k.base)) (sym q.ensures.0)
          (subst (λ (x : List ℕ). RowIn ss ks c.args.row (Ok tt) (sets c.args.columns.now.nums (c.args.i * 16) (tops k.exps)) x (set c.args.columns.now.scales c.args.i k.scale) (set c.args.columns.now.ranks c.args.i k.rank) (set c.args.columns.now.based c.args.i k.base)) (sym q.ensures.1)
          (row.work_stored ss ks c.args.row c.args.columns.now.nums c.args.columns.now.dens c.args.columns.now.scales c.args.columns.now.ranks c.args.columns.now.based (sound-is ks ss at n p.ranked) k (known ∙ worked-is ks ss at l p)
          c.args.i at c.requires.0 (subst (λ (m : ℕ). m ≤ 16) (len_slots c.args.slots ss l) c.requires.1) room p));
    }
