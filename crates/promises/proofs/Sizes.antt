-- How long an answer is at most: each of 01's as long as a quantity, and none longer than the stream's longest, so that the stream's own room refuses none.
use mathlib.Core.Path.{◌≡◌, refl, sym, ◌∙◌}
use mathlib.Core.Logic.{◌↔◌}
use mathlib.Core.List.{List, [], ◌∷◌, ◌++◌}
use Prim.Native.Nat.{ℕ, ◌≤◌}
use native.Mathlib.Omega.{arith}
use borrow.Author.Tests.{le-ltb}
use lib.Dec.{eqb, ltb}
use lib.Ieee.{Float}
use lib.ListN.{length, length-append}
use Rattle.exponents.specs.Outcome.{Outcome, Err, ROOM, unless, apply, bind}
use Rattle.exponents.proofs.Holds.{holds_all, holds_eq, holds_bind, holds_unless, Holds, moot, held, holds_imp, holds_map}
use Rattle.units.specs.declared.Factor.{Factor}
use Rattle.units.specs.declared.Quantity.{Quantity}
use Rattle.units.specs.declared.Row.{Row}
use Rattle.units.specs.Prefixes.{prefix_factor}
use Rattle.units.specs.Lists.{pack}
use Rattle.exponents.proofs.Words.{pick_is}
use Rattle.reduction.specs.Multiple.{Maybe, times, none}
use Rattle.lists.specs.Calls as lists
use Rattle.quantities.specs.Calls as quantities
use Rattle.wire.specs.Bytes.{bytes_of}
use Rattle.wire.specs.Records.{quantity_bytes, flag}
use Rattle.wire.specs.Arguments.{prefix_from, exponent_from, list_from, quantity_from, table_from, candidates_from}
use Rattle.wire.proofs.Digits.{length-bytes_of}
use Rattle.wire.proofs.Stored.{length-exponent_bytes}
use Rattle.wire.proofs.Round.{ListFits, QuantityFits, list_form, quantity_form}
use Rattle.replies.specs.Replies.{sent, order_number, unit_bytes, value_bytes, reduced_bytes, verdict_bytes, order_bytes, multiple_bytes}
use Rattle.replies.proofs.Parts.{value_sized}
use Rattle.asklists.specs.Calls as asklists
use Rattle.askvalues.specs.Calls as askvalues
use Rattle.asksimplify.specs.Calls as asksimplify
use Rattle.codes.specs.Codes.{Call, look}
use Rattle.codelists.specs.Calls as codelists
use Rattle.codevalues.specs.Calls as codevalues
use Rattle.codesimplify.specs.Calls as codesimplify
use Rattle.wiretables.specs.Arguments.{word_from}
use Rattle.tablefiles.specs.Calls as files
use Rattle.tablefiles.proofs.Sized.{read_few, read_full, kept_few, kept_full}
use Rattle.filepromises.proofs.Files.{file_brief}
use Rattle.askfiles.specs.Calls as askfiles
use Rattle.askconversions.specs.Calls as askconversions
use Rattle.askfiles.proofs.Rowed.{Full, rows_sized}
use Rattle.knots.specs.Calls as knots
use Rattle.knots.specs.Calls.{knots_in}
use Rattle.askknots.specs.Records.{rule_from, span_from, vector_bytes}
use Rattle.askknots.specs.Calls as askknots
use Rattle.askknots.proofs.Stored.{vector_sized}
use Rattle.askknots.proofs.Told.{few_runs}
use Rattle.askcounted.specs.Records.{counted_bytes}
use Rattle.askcounted.specs.Calls as askcounted
use Rattle.codeadded.specs.Calls as codeadded
use Rattle.stream.specs.Calls.{calls, call_of}
use Rattle.stream.specs.Stream.{longest, lent, answer_to, answered}
use Rattle.stream.proofs.Answering.{lent_length}
use Rattle.promises.proofs.Rounded.{ValueFits}
use Rattle.promises.proofs.Fitting as fitting
use Rattle.promises.proofs.Fitting.{read_fits}
use Rattle.promises.proofs.Counted.{CountedFits, counted_form, convert_counted-fits, merged-counted-fits}

-- at most as long as a quantity
abbrev pub Short : List ℕ → Type 0
Short bs = length bs ≤ 336

-- no longer than the longest answer
abbrev pub NoLonger : List ℕ → Type 0
NoLonger bs = length bs ≤ longest

-- ---- the answers' bytes

-- bytes of one size, whatever the answer
sized : {A : Type 0} (bytes : A → List ℕ) (size : ℕ) → size ≤ 336 → ((a : A) → length (bytes a) ≡ size) → (o : Outcome A) → Holds Short (apply bytes o)
sized bytes size h e o = holds_all bytes o λ a. omega (arith, e a)

number_short : {A : Type 0} (number : A → ℕ) (o : Outcome A) → Holds Short (apply (λ a. bytes_of 4 (number a)) o)
number_short number = sized (λ a. bytes_of 4 (number a)) 4 (omega arith) λ a. length-bytes_of 4 (number a)

unit-short : {o : Outcome (List Factor)} → Holds (λ fs. ListFits (pack fs)) o → Holds Short (apply unit_bytes o)
unfolding unit_bytes
unit-short h = holds_map unit_bytes h λ fs k. omega (arith, list_form.sized (pack fs) k)

quantity_short : {o : Outcome Quantity} → Holds QuantityFits o → Holds Short (apply quantity_bytes o)
quantity_short h = holds_map quantity_bytes h λ q k. omega (arith, quantity_form.sized q k)

reduced-short : {o : Outcome (List Factor × Float)} → Holds (λ p. ListFits (pack p.0) × ValueFits p.1) o → Holds Short (apply reduced_bytes o)
unfolding reduced_bytes value_bytes unit_bytes
reduced-short h = holds_map reduced_bytes h λ p k. simp (length-append, length-bytes_of) (omega (arith, list_form.sized (pack p.0) k.0))

multiple_sized : (m : Maybe) → length (multiple_bytes m) ≡ 12
unfolding multiple_bytes
multiple_sized (times e) = simp (length-append, length-bytes_of, length-exponent_bytes)
multiple_sized none = simp (length-append, length-bytes_of, length-exponent_bytes)

-- ---- every call

-- a call answers so, whatever it is asked
abbrev Always : (List ℕ → Type 0) → Call → Type 0
Always P c = (x y z : List ℕ) → Holds P (c.answer x y z)

infixr 1 ◌and◌
-- each call of a list does
data Each (P : List ℕ → Type 0) : List Call → Type 0 where
  done : Each P []
  ◌and◌ : {c : Call} {l : List Call} → Always P c → Each P l → Each P (c ∷ l)

lists-short : Each Short codelists.calls
unfolding codelists.calls asklists.prefix_factor asklists.product asklists.quotient asklists.list_power asklists.canonical asklists.same_list asklists.reduce_list asklists.smaller_unit asklists.is_multiple_of verdict_bytes
lists-short =
    (λ p _ _. sized value_bytes 8 (omega arith) value_sized (prefix_factor (prefix_from p)))
    and (λ t a b. unit-short (fitting.product-fits (table_from t) (list_from a) (list_from b)))
    and (λ t a b. unit-short (fitting.quotient_fits (table_from t) (list_from a) (list_from b)))
    and (λ t a b. unit-short (fitting.list_power-fits (table_from t) (list_from a) (exponent_from b)))
    and (λ t a _. unit-short (fitting.canonical_fits (table_from t) (list_from a)))
    and (λ t a b. number_short flag (lists.same_lists (table_from t) (list_from a) (list_from b)))
    and (λ t a _. reduced-short (fitting.reduction_fits (table_from t) (list_from a)))
    and (λ t a b. unit-short (fitting.smaller_fits (table_from t) (list_from a) (list_from b)))
    and (λ t a b. sized multiple_bytes 12 (omega arith) multiple_sized (lists.multiple (table_from t) (list_from a) (list_from b)))
    and done

values_short : Each Short codevalues.calls
unfolding codevalues.calls askvalues.reduce askvalues.convert_to askvalues.add askvalues.subtract askvalues.multiply askvalues.checked_div askvalues.checked_power askvalues.negate askvalues.magnitude askvalues.equal askvalues.compare askvalues.no_simplify verdict_bytes order_bytes
values_short =
    (λ t a _. quantity_short (fitting.reduce-fits (table_from t) (quantity_from a)))
    and (λ t a b. quantity_short (fitting.convert_fits (table_from t) (quantity_from a) (read_fits a) (list_from b)))
    and (λ t a b. quantity_short (fitting.add-fits (table_from t) (quantity_from a) (quantity_from b) (read_fits a) (read_fits b)))
    and (λ t a b. quantity_short (fitting.subtract_fits (table_from t) (quantity_from a) (quantity_from b) (read_fits a) (read_fits b)))
    and (λ t a b. quantity_short (fitting.multiply_fits (table_from t) (quantity_from a) (quantity_from b)))
    and (λ t a b. quantity_short (fitting.divide_fits (table_from t) (quantity_from a) (quantity_from b)))
    and (λ t a b. quantity_short (fitting.power-fits (table_from t) (quantity_from a) (quantity_from b)))
    and (λ t a _. quantity_short (fitting.negate_fits (table_from t) (quantity_from a) (read_fits a)))
    and (λ t a _. quantity_short (fitting.magnitude_fits (table_from t) (quantity_from a) (read_fits a)))
    and (λ t a b. number_short flag (quantities.equal (table_from t) (quantity_from a) (quantity_from b)))
    and (λ t a b. number_short order_number (quantities.compare (table_from t) (quantity_from a) (quantity_from b)))
    and (λ t a _. quantity_short (fitting.unmarked_fits (table_from t) (quantity_from a) (read_fits a)))
    and done

simplify_short : Each Short codesimplify.calls
unfolding codesimplify.calls asksimplify.full_simplify asksimplify.full_simplify_with
simplify_short =
    (λ t a _. quantity_short (fitting.simplify_fits (table_from t) (quantity_from a) (read_fits a)))
    and (λ t a b. quantity_short (fitting.with_fits (table_from t) (quantity_from a) (read_fits a) (candidates_from b)))
    and done

-- ---- table files

file_bounded : (t : List ℕ) (room : ℕ) → Holds NoLonger (askfiles.write_table t room)
unfolding askfiles.write_table askfiles.file_reply
file_bounded t room =
    holds_bind _ (holds_eq (files.write_table (table_from t))) λ f e.
    holds_unless (ltb room (length f)) ROOM λ h.
    held (simp (length-append, length-bytes_of) (omega (arith, file_brief (table_from t) f e)))

rows_bounded : (other : ℕ) (rs : List Row) → length rs ≤ 128 → Full rs → NoLonger (askfiles.rows_reply other rs)
rows_bounded other rs h k = omega (arith, rows_sized other rs k)

counted_bounded : {o : Outcome (Quantity × ℕ)} → Holds CountedFits o → Holds NoLonger (apply counted_bytes o)
counted_bounded h = holds_map counted_bytes h λ p k. omega (arith, counted_form.sized p k)

added_bounded : Each NoLonger codeadded.calls
unfolding codeadded.calls askfiles.read_table askfiles.salvage_table askconversions.convert_merged askknots.knot_vector askknots.span_quotient askcounted.convert_to_counted askcounted.convert_merged_counted
added_bounded =
    (λ t r _. file_bounded t (word_from r))
    and (λ f p _. holds_map (askfiles.rows_reply 0) (holds_eq (files.read_table (word_from p) f)) λ rs e. rows_bounded 0 rs (read_few (word_from p) f rs e).0 (read_full (word_from p) f rs e))
    and (λ f p _. held (rows_bounded (files.salvage (word_from p) f).1 (files.salvage (word_from p) f).0 (kept_few (word_from p) f).0 (kept_full (word_from p) f)))
    and (λ t a b. holds_imp (quantity_short (fitting.merged-fits (table_from t) (quantity_from a) (read_fits a) (list_from b))) (λ l h. omega (arith, h)))
    and (λ t k u. holds_map vector_bytes (holds_eq (knots.knot_vector (table_from t) (knots_in k) (rule_from u))) λ rs e. omega (arith, vector_sized rs, few_runs (table_from t) k (rule_from u) rs e))
    and (λ t k a. holds_imp (sized value_bytes 8 (omega arith) value_sized (knots.span_quotient (table_from t) (knots_in k) (span_from a))) (λ l h. omega (arith, h)))
    and (λ t a b. counted_bounded (convert_counted-fits (table_from t) (quantity_from a) (read_fits a) (list_from b)))
    and (λ t a b. counted_bounded (merged-counted-fits (table_from t) (quantity_from a) (read_fits a) (list_from b)))
    and done

module _ {P : List ℕ → Type 0} where
  joined : {l m : List Call} → Each P l → Each P m → Each P (l ++ m)
  joined done e = e
  joined (b and d) e = b and joined d e

  looked_up : {l : List Call} (n : ℕ) → Each P l → Always P (look l n)
  unfolding look
  looked_up n done = λ x y z. moot
  looked_up n (◌and◌ {c = c} {l = l} b e) = pick_is (Always P) (eqb n c.code) {a = c} {b = look l n} b (looked_up n e)

-- as long as a quantity is no longer than the longest
at_most : {l : List Call} → Each Short l → Each NoLonger l
at_most done = done
at_most (b and d) = (λ x y z. holds_imp (b x y z) λ bs h. omega arith) and at_most d

calls_bounded : Each NoLonger calls
unfolding calls
calls_bounded = joined (at_most lists-short) (joined (at_most values_short) (joined (at_most simplify_short) added_bounded))

pub no_longer : (code : ℕ) (s : List ℕ) → Holds NoLonger (answer_to code s)
unfolding answer_to call_of
no_longer code s = looked_up code calls_bounded _ _ _

-- ---- the stream's room

-- what the room holds is sent as it is
sent-whole : (room : List ℕ) {o : Outcome (List ℕ)} → Holds (λ bs. length bs ≤ length room) o → sent room o ≡ o
unfolding sent bind unless
sent-whole room moot = refl
sent-whole room (held {a = bs} h) = rw (le-ltb (length room) (length bs) h)

pub answered_is : (code : ℕ) (s : List ℕ) → answered code s ≡ answer_to code s
unfolding answered
answered_is code s = sent-whole lent (holds_imp (no_longer code s) λ bs h. omega (arith, lent_length))

-- ROOM in the stream is the call's own
pub room_own : (code : ℕ) (s : List ℕ) → (answered code s ≡ Err ROOM) ↔ (answer_to code s ≡ Err ROOM)
room_own code s = (λ e. sym (answered_is code s) ∙ e, λ e. answered_is code s ∙ e)
