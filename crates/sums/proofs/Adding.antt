-- Sums of nonzero values: what the smaller unit tells of its outcome; and the sum of two quantities once their lists are opened.
use mathlib.Core.Path.{◌≡◌, refl, sym, ap, ◌∙◌}
use mathlib.Core.Bool.{Bool, true, false}
use mathlib.Core.List.{List}
use Prim.Native.Nat.{ℕ}
use lib.IntN.{ℤ}
use lib.Ieee.{Float}
use Rattle.exponents.specs.Words.{pick}
use Rattle.exponents.specs.Outcome.{Refusal, Outcome, Ok, Err, bind}
use Rattle.floats.specs.Values.{is_zero}
use Rattle.units.specs.declared.Factor.{Factor}
use Rattle.units.specs.declared.Quantity.{Quantity}
use Rattle.units.specs.declared.Rows.{Rows}
use Rattle.tables.specs.declared.Items.{Items}
use Rattle.tables.specs.Rows.{Facts, base_rows}
use Rattle.tables.specs.Held.{View, Resolved, Lends, rules_by}
use Rattle.tables.specs.Rules.{Rules, rules_in}
use Rattle.reduction.specs.Reduction.{smaller_unit}
use Rattle.reduction.specs.Held.{smaller_of}
use Rattle.reduction.specs.declared.reduce.Smaller.{Smaller}
use Rattle.reduction.specs.declared.reduce.Smaller.TheVariants as smaller
use Rattle.lists.specs.Held.{Tells, opening, opened_of}
use Rattle.lists.specs.declared.opening.Opened.{Opened}
use Rattle.lists.proofs.Ready.{Ready, stopped, seen, lends, goes}
use Rattle.values.specs.Quantities.{made}
use Rattle.sums.specs.Sums.{nonzero_sum}
use Rattle.sums.specs.Calls.{summed}

-- ---- which unit is the smaller, as code has it, tells its outcome
abbrev pub is_first : Smaller → Bool
is_first smaller.First = true
is_first smaller.Second = false

pub chosen_then : {C : Type 0} (R : Rules Float) (fs gs : List Factor) (f : Bool → Outcome C) → bind (smaller_unit R fs gs) f ≡ bind (smaller_of (smaller_unit R fs gs)) (λ w. f (is_first w))
unfolding bind
chosen_then {C} R fs gs f = go (smaller_unit R fs gs)
  where
    go : (o : Outcome Bool) → bind o f ≡ bind (smaller_of o) (λ w. f (is_first w))
    go (Ok true) = refl
    go (Ok false) = refl
    go (Err r) = refl

-- what code promises of the sum of nonzero values
abbrev Adds : List ℤ → List ℕ → Bool → Float → Float → Items → Items → ℕ → Outcome Quantity → Type 0
Adds nums dens minus y z a b n o = (v : View) (fs gs : List Factor) → Lends v n nums dens → Resolved v a fs → Resolved v b gs → o ≡ nonzero_sum (rules_by v n) minus y z fs gs

-- ---- the sum of two quantities, as it goes on once their lists are opened
module _ (t : Rows) (minus : Bool) (lead : List Factor → Quantity) (q p : Quantity) where
  abbrev sum_in : List Facts → List Factor → List Factor → Outcome Quantity
  sum_in ks fs gs =
      pick (is_zero q.value) (Ok (lead gs))
      (pick (is_zero p.value) (Ok (made q.mark q.value fs))
      (nonzero_sum (rules_in t ks) minus q.value p.value fs gs))

  pub sum_stopped : (r : Refusal) → Err r ≡ opened_of (base_rows t) (opening t q.unit p.unit) → Err r ≡ summed t minus lead q p
  unfolding summed
  sum_stopped r e = sym (stopped t q.unit p.unit sum_in r e)

  module _ (x : Opened) (r : Ready t q.unit p.unit x) where
    sum_goes : summed t minus lead q p ≡ sum_in r.ks r.fs r.gs
    unfolding summed
    sum_goes = goes r sum_in

    pub first-zero : is_zero q.value ≡ true → Ok (lead r.gs) ≡ summed t minus lead q p
    first-zero e = sym (sum_goes ∙ rw e)

    module _ (e : is_zero q.value ≡ false) where
      pub second-zero : is_zero p.value ≡ true → Ok (made q.mark q.value r.fs) ≡ summed t minus lead q p
      second-zero h = sym (sum_goes ∙ rw (e, h))

      pub no_zero : (nums : List ℤ) (dens : List ℕ) → Tells t nums dens → (o : Outcome Quantity) → is_zero p.value ≡ false → Adds nums dens minus q.value p.value x.a x.b x.slots.len o → o ≡ summed t minus lead q p
      no_zero nums dens tells o h k =
          k (seen r) r.fs r.gs (lends r nums dens tells) r.first r.second
          ∙ ap (λ R. nonzero_sum R minus q.value p.value r.fs r.gs) r.rules
          ∙ sym (sum_goes ∙ rw (e, h))
