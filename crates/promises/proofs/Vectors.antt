-- Knot vectors and span quotients as they ship (02, order 4): what a caller reads in the room of the exported functions, and in the places lent to the calls over rows, is exactly the call's outcome, so that all of `knotpromises` holds of it.
use mathlib.Core.Path.{◌≡◌, refl, sym, ◌∙◌, ap, subst}
use mathlib.Core.List.{List, [], ◌∷◌, ◌++◌, append_assoc}
use Prim.Native.Nat.{ℕ, zero, suc, ◌+◌, ◌≤◌, ◌<◌}
use native.Mathlib.Omega.{arith}
use borrow.Author.Tests.{le-ltb}
use lib.Ieee.{Float, binary64, of_bits}
use lib.Ieee.Fits.{div-fits}
use lib.ListN.{length, drop, length-append}
use Rattle.exponents.specs.Words.{All}
use Rattle.exponents.specs.Outcome.{Refusal, Outcome, Ok, Err, apply}
use Rattle.exponents.proofs.Numbers.{apply_refuses}
use Rattle.exponents.proofs.Each.{all_imp, all_both}
use Rattle.exponents.proofs.Holds.{Holds, moot, held, take_out, holds_by, holds_imp}
use Rattle.exponents.proofs.Steps.{unless_off, bind_on, bind_off}
use Rattle.exponents.proofs.Words.{pick_is}
use Rattle.floats.proofs.Patterns.{bits_fit}
use Rattle.units.specs.declared.Quantity.{Quantity}
use Rattle.units.specs.declared.Row.{Row}
use Rattle.units.specs.declared.Rows.{Rows}
use Rattle.lent.specs.Lent.{lent_rows_lem}
use Rattle.wire.specs.Bytes.{le, bytes_of, run_at, run_bytes}
use Rattle.wire.specs.Records.{quantity_at}
use Rattle.wire.specs.Arguments.{table_from}
use Rattle.wire.proofs.Digits.{length-bytes_of}
use Rattle.wire.proofs.Form as form
use Rattle.wire.proofs.Form.{Form, then, past, run_skips, run_back}
use Rattle.wire.proofs.Round.{number_form, value_form}
use Rattle.replies.specs.Replies.{value_bytes}
use Rattle.replies.proofs.Parts.{value_sized}
use Rattle.knotruns.specs.Runs.{Run, run, firsts, multiplicities, quotient_at, merged_at}
use Rattle.knotruns.specs.Knots.{roomy, firsts_into, times_into}
use Rattle.knotruns.proofs.Apart.{Apart}
use Rattle.knotruns.proofs.Multiplicities.{total}
use Rattle.knotruns.proofs.Rising.{distinct}
use Rattle.knots.specs.Calls.{knots_in, knot_vector, span_quotient}
use Rattle.knots.specs.Held.{Vectored}
use Rattle.knots.specs.declared.Rule.{Rule}
use Rattle.knots.specs.declared.Span.{Span}
use Rattle.knotpromises.proofs.Words.{At, OfKnot}
use Rattle.knotpromises.proofs.Knots as knot
use Rattle.askknots.specs.Records.{rule_from, span_from, distinct_bytes, vector_bytes}
use Rattle.askknots.specs.Calls as ask
use Rattle.askknots.proofs.Stored.{vector_sized}
use Rattle.askknots.proofs.Told.{few_runs}
use Rattle.demsharin.specs.Exports.{Exported}
use Rattle.promises.specs.Shipped.{distinct_at, runs_in, vector_from, quotient_from, placed, vector_in}
use Rattle.promises.proofs.Rounded.{ValueFits}
use Rattle.promises.proofs.Fitting.{merged-fits}
use Rattle.promises.proofs.Shipped.{from_room}

-- ---- runs in bytes

pub record RunFits (r : Run) : Type 0 where
  pub value : ValueFits r.first
  pub times : r.times < 4294967296

distinct_form : Form RunFits distinct_at distinct_bytes 16
unfolding distinct_at distinct_bytes
distinct_form = form.told (then value_form (then (number_form 4) (number_form 4))) (λ x. run x.0 x.1.0) (λ r. (r.first, (r.times, 0))) (λ s i. refl) (λ r. refl) (λ r h. (h.value, (h.times, omega arith))) (λ r h. refl)

-- behind their number, whatever stands behind them
runs_back : (rs : List Run) → length rs ≤ 512 → All RunFits rs → (s : List ℕ) → runs_in (vector_bytes rs ++ s) ≡ rs
unfolding runs_in vector_bytes
runs_back rs l h s =
    let n = bytes_of 4 (length rs) in
    let rest = run_bytes distinct_bytes rs ++ s in
    let e : (n ++ (bytes_of 4 0 ++ run_bytes distinct_bytes rs)) ++ s ≡ (n ++ bytes_of 4 0) ++ rest = simp append_assoc in
    let f : le 4 ((n ++ bytes_of 4 0) ++ rest) 0 ≡ length rs = rw append_assoc ((number_form 4).back (length rs) (bytes_of 4 0 ++ rest) (omega arith)) in
    let g : length (n ++ bytes_of 4 0) ≡ 8 = simp (length-append, length-bytes_of) in
    rw (e, f) (past (run_skips 16 (length rs) distinct_form.skips) (n ++ bytes_of 4 0) rest 8 g ∙ run_back distinct_form rs s h)

-- ---- every answer fits its bytes

-- a knot that is read has a value that fits
read_at : (n : ℕ) (s : List ℕ) (i j : ℕ) (q : Quantity) → At (run_at quantity_at 336 n s i) j q → ValueFits q.value
unfolding run_at quantity_at
read_at zero s i j q h = let z : ◌≡◌ {A = ℕ} 0 1 = cc in absurd (omega arith)
read_at (suc n) s i zero q h = let e : q ≡ quantity_at s i = cc in rw e (bits_fit _)
read_at (suc n) s i (suc j) q h = read_at n s (i + 336) j q h

knots_fit : (s : List ℕ) (i : ℕ) (q : Quantity) → At (knots_in s) i q → ValueFits q.value
unfolding knots_in
knots_fit s = read_at _ s 0

-- of any knots with values that fit
module _ (t : Rows) (ks : List Quantity) (f : (i : ℕ) (q : Quantity) → At ks i q → ValueFits q.value) (u : Rule) where
  of_knot : (x : Float) → OfKnot t u.unit ks x → ValueFits x
  of_knot x k =
      let r = k.1 in
      subst ValueFits r.becomes.value_is (take_out (merged-fits t r.knot (f k.0 r.knot r.there) u.unit) r.becomes.answers).value

  pub runs_fit : Holds (λ rs. (length rs ≤ 512) × All RunFits rs) (knot_vector t ks u)
  runs_fit = holds_by _ (knot_vector t ks u) λ rs v.
      let s = knot.in_order t ks u rs v in (
        omega (arith, knot.number_within t ks u rs v, s.most),
        all_imp rs (λ r p. record { value = of_knot r.first p.0; times = omega (arith, p.1, s.high) }) (all_both (λ r. OfKnot t u.unit ks r.first) (λ r. (0 < r.times) × (r.times ≤ suc u.degree)) rs (knot.from_knots t ks u rs v) (knot.each_within t ks u rs v)),
      )

-- a quotient is 0, or divided
quotient_fit : (rs : List Run) (i : ℕ) (x : Float) → ValueFits (quotient_at rs i x)
unfolding quotient_at
quotient_fit rs i x = pick_is ValueFits (merged_at rs i) (bits_fit 0) (div-fits binary64 _ _)

quotient_fits : (t : Rows) (ks : List Quantity) (u : Rule) (i : ℕ) (x : Float) {o : Outcome Float} → knot.SpanCase t ks u i x o → Holds ValueFits o
quotient_fits t ks u i x (knot.no_vector r e) = moot
quotient_fits t ks u i x (knot.no_span rs e h) = moot
quotient_fits t ks u i x (knot.span rs e h) = held (quotient_fit rs i x)

-- ---- as exported functions, over the bytes of a table, of knots and of a rule: each returned n and left `end` in the room, by its contract
module _ (tb kb ub room : List ℕ) (n : ℕ) (end : List ℕ) where
  module _ (long : 8200 ≤ length room) (contract : Exported room (ask.knot_vector tb kb ub) n end) where
    -- THEOREM: what `demsharin_knot_vector` returns and leaves in a room of 8,200 bytes or more is the knot vector, refusals included
    pub exported_vector : vector_from n end ≡ knot_vector (table_from tb) (knots_in kb) (rule_from ub)
    unfolding ask.knot_vector
    exported_vector =
        from_room runs_in vector_bytes room (knot_vector (table_from tb) (knots_in kb) (rule_from ub))
        (holds_imp (runs_fit (table_from tb) (knots_in kb) (knots_fit kb) (rule_from ub)) λ rs h. (omega (arith, vector_sized rs, h.0), runs_back rs h.0 h.1)) n end contract

    -- whatever holds of the call's outcome holds of it
    pub vector_has : (P : Outcome (List Run) → Type 0) → P (knot_vector (table_from tb) (knots_in kb) (rule_from ub)) → P (vector_from n end)
    vector_has P p = subst P (sym exported_vector) p

    -- so, of the runs in the room: their multiplicities add up to the knots given
    pub exported_adds_up : (rs : List Run) → vector_from n end ≡ Ok rs → total rs ≡ length (knots_in kb)
    exported_adds_up rs e = knot.add_up (table_from tb) (knots_in kb) (rule_from ub) rs (sym exported_vector ∙ e)

    -- and their values rise, each above the one before it by more than the tolerance
    pub exported_rises : (rs : List Run) → vector_from n end ≡ Ok rs → (j : ℕ) → suc j < length rs → Apart (rule_from ub).tolerance (distinct rs j) (distinct rs (suc j))
    exported_rises rs e = knot.apart (table_from tb) (knots_in kb) (rule_from ub) rs (sym exported_vector ∙ e)

  module _ (long : 8 ≤ length room) (contract : Exported room (ask.span_quotient tb kb ub) n end) where
    -- THEOREM: what `demsharin_span_quotient` returns and leaves in a room of 8 bytes or more is the span quotient, refusals included
    pub exported_quotient : quotient_from n end ≡ span_quotient (table_from tb) (knots_in kb) (span_from ub)
    unfolding ask.span_quotient value_bytes
    exported_quotient =
        let s = span_from ub in
        from_room (λ s. of_bits binary64 (le 8 s 0)) value_bytes room (span_quotient (table_from tb) (knots_in kb) s)
        (holds_imp (quotient_fits (table_from tb) (knots_in kb) s.rule s.at s.x (knot.one_span_case (table_from tb) (knots_in kb) s.rule s.at s.x)) λ x h. (omega (arith, value_sized x), λ r. value_form.back x r h)) n end contract

    pub quotient_has : (P : Outcome Float → Type 0) → P (span_quotient (table_from tb) (knots_in kb) (span_from ub)) → P (quotient_from n end)
    quotient_has P p = subst P (sym exported_quotient) p

-- ---- over lent rows: what a call told and left in the places lent for values and for multiplicities, by its contract

placed_back : (rs : List Run) (l : List Float) (m : List ℕ) → placed (length rs) (firsts rs ++ l) (multiplicities rs ++ m) ≡ rs
unfolding placed
placed_back [] l m = refl
placed_back (r ∷ rs) l m = ap (λ q. r ∷ q) (placed_back rs l m)

in_places : (o : Outcome (List Run)) (fs : List Float) (ks : List ℕ) → vector_in (apply length o) (firsts_into o fs) (times_into o ks) ≡ o
in_places (Ok rs) fs ks = ap Ok (placed_back rs (drop (length rs) fs) (drop (length rs) ks))
in_places (Err r) fs ks = refl

room_enough : (a b : ℕ) (o : Outcome (List Run)) → 512 ≤ a → 512 ≤ b → ((rs : List Run) → o ≡ Ok rs → length rs ≤ 512) → roomy a b o ≡ o
unfolding roomy
room_enough a b (Ok rs) p q h = let l = h rs refl in bind_on rs _ ∙ rw (le-ltb a (length rs) (omega arith), le-ltb b (length rs) (omega arith), unless_off)
room_enough a b (Err r) p q h = bind_off r _

module _ (rows : List Row) (kb : List ℕ) where
  module _ (u : Rule) (r : Outcome ℕ) (fs fs' : List Float) (ks ks' : List ℕ) (contract : Vectored (lent_rows_lem rows) kb u r fs fs' ks ks') where
    -- THEOREM: the number that `knot_vector` tells, and so many of the places from the first on, are the runs; ROOM where they are too few, after every other refusal
    pub lent-vector : vector_in r fs' ks' ≡ roomy (length fs) (length ks) (knot_vector (lent_rows_lem rows) (knots_in kb) u)
    lent-vector = rw (contract.told, contract.firsts, contract.times) (in_places (roomy (length fs) (length ks) (knot_vector (lent_rows_lem rows) (knots_in kb) u)) fs ks)

    -- THEOREM: a refusal leaves all places as they were
    pub lent_keeps : (w : Refusal) → r ≡ Err w → (fs' ≡ fs) × (ks' ≡ ks)
    lent_keeps w e =
        let o = apply_refuses length (roomy (length fs) (length ks) (knot_vector (lent_rows_lem rows) (knots_in kb) u)) w (sym contract.told ∙ e) in
        (contract.firsts ∙ ap (λ o. firsts_into o fs) o, contract.times ∙ ap (λ o. times_into o ks) o)

    -- THEOREM: 512 places are always enough
    pub lent_enough : 512 ≤ length fs → 512 ≤ length ks → vector_in r fs' ks' ≡ knot_vector (lent_rows_lem rows) (knots_in kb) u
    lent_enough p q = lent-vector ∙ room_enough (length fs) (length ks) (knot_vector (lent_rows_lem rows) (knots_in kb) u) p q (few_runs (lent_rows_lem rows) kb u)

  -- THEOREM: what `span_quotient` hands over is the span quotient
  pub lent-quotient : (s : Span) (r : Outcome Float) → r ≡ span_quotient (lent_rows_lem rows) (knots_in kb) s → r ≡ span_quotient (lent_rows_lem rows) (knots_in kb) s
  lent-quotient s r contract = contract
