-- What `convert_to` and `convert_merged` answer (demand 3), in an admitted table and between lists that are checked: the conversion of the value, in the target list as it is spelled, with a fresh mark. What leaves the range is refused as `halves/proofs/Stopped` says.
use mathlib.Core.Path.{◌≡◌, sym, ◌∙◌, ap, subst}
use mathlib.Core.Logic.{◌↔◌}
use mathlib.Core.Bool.{Bool, ◌||◌}
use mathlib.Core.List.{List}
use lib.Ieee.{Float, binary64, mul, div}
use lib.ListN.{length}
use Rattle.exponents.specs.Outcome.{Refusal, UNITS, Outcome, Ok, Err, apply}
use Rattle.exponents.specs.declared.Exponent.{Exponent}
use Rattle.exponents.proofs.Holds.{bind_given}
use Rattle.exponents.proofs.Rationals.{value}
use Rattle.units.specs.declared.Factor.{Factor}
use Rattle.units.specs.declared.Factors.{Factors}
use Rattle.units.specs.declared.Quantity.{Quantity}
use Rattle.units.specs.declared.Rows.{Rows}
use Rattle.units.specs.Lists.{both}
use Rattle.tables.specs.Rows.{Facts, table}
use Rattle.tables.specs.Rules.{Rules, rules_in, scale_by}
use Rattle.canonical.proofs.Bases.{Agree}
use Rattle.canonical.proofs.Total.{order_in_total}
use Rattle.conversion.specs.Conversion.{convert_by}
use Rattle.conversion.specs.Fractional.{fractional}
use Rattle.conversion.proofs.Refusals.{Fraction, fraction, worked}
use Rattle.conversion.proofs.Ready.{Ready}
use Rattle.conversion.proofs.Cases as cases
use Rattle.conversion.proofs.Faithful as laws
use Rattle.values.specs.Quantities.{fresh}
use Rattle.quantities.specs.Calls.{convert_with}
use Rattle.halves.proofs.First.{through, apply_exactly}

-- q is a quantity of the admitted table t and m a list of it; fs and gs are the two lists. `ready` is how the own list over the common factors is made ready: as it stands for `convert_to`, in canonical form for `convert_merged`.
module _ (ready : Rules Float → List Factor → Outcome (List Factor)) (t : Rows) (ks : List Facts) (k : table t ≡ Ok ks) (K : Ready value (ready (rules_in t ks)))
    (q : Quantity) (m : Factors) (fs gs : List Factor) (h : both (length ks) q.unit m ≡ Ok (fs, gs)) where
  abbrev pub in_target : Float → Quantity
  in_target v = fresh v gs

  -- the table's rules
  abbrev rules : Rules Float
  rules = rules_in t ks

  -- the call, and what it does
  abbrev pub call : Outcome Quantity
  call = convert_with t (λ R. convert_by R (ready R)) q m

  abbrev work : Outcome Float
  work = convert_by rules (ready rules) fs gs q.value

  -- the value is converted; the list is the target's
  goes : call ≡ apply in_target work
  goes = bind_given _ k ∙ bind_given _ h

  -- the five cases
  abbrev pub Case : Type 0
  Case = cases.Case rules value (ready rules) fs gs q.value

  -- one of them holds
  pub case : Case
  case = laws.case rules value (order_in_total ks) (ready rules) K fs gs q.value

  -- and the call is right in each
  pub converts : (c : Case) → call ≡ apply in_target (cases.answer rules value (ready rules) c)
  converts c = goes ∙ ap (apply in_target) (laws.faithful rules value (order_in_total ks) (ready rules) K fs gs q.value c)

  refuses : (r : Refusal) → (call ≡ Err r) ↔ (work ≡ Err r)
  refuses r = through (λ e. sym goes ∙ e, λ e. goes ∙ e) (apply_exactly in_target work r)

  -- the value is nonzero, the lists are unequal, and all steps answer
  module _ {cl cm own l : List Factor} {x y : List Exponent} (s : cases.Reduced rules value (ready rules) fs gs q.value cl cm own x l y) where
    -- UNITS exactly where the base exponents of the two lists differ
    pub units_exactly : (call ≡ Err UNITS) ↔ (Agree value rules.bases fs gs → ⊥)
    units_exactly = through (refuses UNITS) (laws.units_exactly rules value (order_in_total ks) (ready rules) K fs gs q.value s)

    -- the value times own scale, divided by target scale
    pub scaled_value : Agree value rules.bases fs gs → (a b : Float) → scale_by rules own ≡ Ok a → scale_by rules l ≡ Ok b → call ≡ Ok (in_target (div binary64 (mul binary64 q.value a) b))
    scaled_value g a b p r = converts (cases.value s g) ∙ ap (apply in_target) (bind_given _ p ∙ ap (apply (λ u. div binary64 (mul binary64 q.value a) u)) r)

    mapped : {b : Bool} {o : Outcome Float} → Fraction b o → Fraction b (apply in_target o)
    mapped fraction = fraction
    mapped worked = worked

    -- a scale has no value
    abbrev pub broken : Bool
    broken = fractional rules own || fractional rules l

    -- where they agree it answers, or is FRACTION exactly where a size other than 1 meets an exponent that isn't whole
    pub fraction_exactly : Agree value rules.bases fs gs → Fraction broken call
    fraction_exactly a =
        subst (λ o. Fraction broken o) (sym goes) (mapped (laws.fraction_exactly rules value (order_in_total ks) (ready rules) K fs gs q.value s a))
