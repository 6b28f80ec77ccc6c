-- Reduction as the code works it out: one base row more, and the answers of `reduce_list`.
use mathlib.Core.Path.{◌≡◌, refl, sym, ap, ap₂, subst, ◌∙◌}
use mathlib.Core.Bool.{Bool, true, false}
use mathlib.Core.List.{List, [], ◌∷◌, ◌++◌, append-nil}
use Prim.Native.Nat.{ℕ, ◌+◌, ◌-◌, ◌≤◌, ◌<◌}
use native.Mathlib.Omega.{arith}
use native.Mathlib.Numerals.{add-one}
use lib.IntN.{ℤ}
use lib.Ieee.{Float}
use lib.ListN.{length, take, get_or, replicate}
use lib.Seq.{take-suc, take-append_seam, length-take-le}
use Rattle.exponents.specs.Outcome.{Refusal, Outcome, Ok, Err, apply}
use Rattle.exponents.specs.Fractions.{nought, same}
use Rattle.exponents.specs.declared.Exponent.{Exponent}
use Rattle.exponents.proofs.Holds.{bind_given, bind_refused}
use Rattle.units.specs.declared.Factor.{Factor}
use Rattle.units.specs.declared.Factors.{Factors}
use Rattle.units.specs.Lists.{pack}
use Rattle.units.proofs.Laws.{len_pack}
use Rattle.tables.specs.declared.Slot.{Slot}
use Rattle.tables.specs.declared.Slots.{Slots}
use Rattle.tables.specs.Lists.{base}
use Rattle.tables.specs.Rules.{Rules, scale_by}
use Rattle.tables.specs.Held.{pack_slots, pack_exps, exps_of, View, view_bases, Lends}
use Rattle.tables.proofs.Placing.{len_slots}
use Rattle.canonical.specs.Canonical.{drop_if, nonzero}
use Rattle.canonical.proofs.Judged.{nonzero-short}
use Rattle.reduction.specs.Reduction.{base_factor, base_factors, reduced, reduction, reduced_of}

-- ---- one base row more
nonzero_join : (l m : List Factor) → nonzero (l ++ m) ≡ nonzero l ++ nonzero m
unfolding nonzero drop_if
nonzero_join [] m = refl
nonzero_join (f ∷ l) m = ap (drop_if (same f.exponent nought) f) (nonzero_join l m) ∙ kept (same f.exponent nought)
  where
    kept : (t : Bool) → drop_if t f (nonzero l ++ nonzero m) ≡ drop_if t f (nonzero l) ++ nonzero m
    kept true = refl
    kept false = refl

snoc : (ss : List Slot) (s : Slot) (es : List Exponent) (d : Exponent) → length ss < length es → base_factors (ss ++ (s ∷ [])) es ≡ base_factors ss es ++ (base_factor s (get_or es (length ss) d) ∷ [])
unfolding base_factors
snoc [] s [] d h = absurd (omega arith)
snoc [] s (e ∷ es) d h = refl
snoc (t ∷ ss) s [] d h = absurd (omega arith)
snoc (t ∷ ss) s (e ∷ es) d h = ap (λ l. base_factor t e ∷ l) (snoc ss s es d (omega arith))

module _ (at : List Slot) (es : List Exponent) (i : ℕ) (s : Slot) (d : Exponent) (h : i < length at) (k : i < length es) where
  more : reduced (take (i + 1) at) es ≡ reduced (take i at) es ++ nonzero (base_factor (get_or at i s) (get_or es i d) ∷ [])
  unfolding reduced
  more =
      let long = length-take-le i at (omega arith) in
      ap (λ l. nonzero (base_factors l es)) (rw (add-one, take-suc at i s h))
      ∙ ap nonzero (snoc (take i at) (get_or at i s) es d (omega arith) ∙ ap (λ n. base_factors (take i at) es ++ (base_factor (get_or at i s) (get_or es n d) ∷ [])) long)
      ∙ nonzero_join (base_factors (take i at) es) _

  pub slot_on : same (get_or es i d) nought ≡ false → reduced (take (i + 1) at) es ≡ reduced (take i at) es ++ (base_factor (get_or at i s) (get_or es i d) ∷ [])
  unfolding nonzero drop_if
  slot_on e = more ∙ ap (λ t. reduced (take i at) es ++ drop_if t (base_factor (get_or at i s) (get_or es i d)) []) e

  pub slot_skip : same (get_or es i d) nought ≡ true → reduced (take (i + 1) at) es ≡ reduced (take i at) es
  unfolding nonzero drop_if
  slot_skip e = more ∙ ap (λ t. reduced (take i at) es ++ drop_if t (base_factor (get_or at i s) (get_or es i d)) []) e ∙ append-nil (reduced (take i at) es)

  -- the code's turn: `push` gave o' for the factor f
  pub pushed : (o : Factors) → o ≡ pack (reduced (take i at) es) → (f : Factor) → f ≡ base_factor (get_or at i s) (get_or es i d) → (o' : Factors) → ((fs : List Factor) → o ≡ pack fs → o' ≡ pack (fs ++ (f ∷ [])))
      → same (get_or es i d) nought ≡ false → o' ≡ pack (reduced (take (i + 1) at) es)
  pushed o e f q o' push n = push _ e ∙ ap (λ (f : Factor). pack (reduced (take i at) es ++ (f ∷ []))) q ∙ ap pack (sym (slot_on n))

pub none_reduced : (at : List Slot) (es : List Exponent) (o : Factors) → o ≡ pack [] → o ≡ pack (reduced (take 0 at) es)
unfolding reduced base_factors nonzero
none_reduced at es o e = e

zip-short : (ss : List Slot) (es : List Exponent) → length (base_factors ss es) ≤ length ss
unfolding base_factors
zip-short [] es = omega arith
zip-short (s ∷ ss) [] = omega arith
zip-short (s ∷ ss) (e ∷ es) = omega (arith, zip-short ss es)

-- no more than the base rows
pub reduced-short : (ss : List Slot) (es : List Exponent) → length (reduced ss es) ≤ length ss
unfolding reduced
reduced-short ss es = omega (arith, nonzero-short (base_factors ss es), zip-short ss es)

-- than those met
pub reduced_room : (at : List Slot) (es : List Exponent) (i : ℕ) (o : Factors) → i ≤ length at → i < 16 → o ≡ pack (reduced (take i at) es) → o.len < 16
reduced_room at es i o h k e =
    omega (arith, ap (λ (o : Factors). o.len) e ∙ len_pack (reduced (take i at) es), reduced-short (take i at) es, length-take-le i at h)

pub reduced_end : (slots : Slots) (es : List Exponent) (i : ℕ) (o : Factors) → i ≡ slots.len → o ≡ pack (reduced (take i slots.at) es) → o ≡ pack (reduced (take slots.len slots.at) es)
reduced_end slots es i o n e = e ∙ ap (λ i. pack (reduced (take i slots.at) es)) n

-- ---- the answers

-- base rows and base exponents as code holds them
pub reduced-packed : (slots : Slots) (ss : List Slot) (at es : List Exponent) → slots ≡ pack_slots ss → at ≡ pack_exps es → length es ≡ length ss → reduced (take slots.len slots.at) at ≡ reduced ss es
unfolding reduced pack_slots pack_exps base_factors
reduced-packed slots ss at es p q n =
    ap₂ (λ (l : Slots) (at : List Exponent). nonzero (base_factors (take l.len l.at) at)) p q
    ∙ ap (λ l. nonzero (base_factors l (es ++ replicate (16 - length es) nought))) (take-append_seam ss _)
    ∙ ap nonzero (zip ss es (replicate (16 - length es) nought) (omega arith))
  where
    zip : (ss : List Slot) (es r : List Exponent) → length ss ≤ length es → base_factors ss (es ++ r) ≡ base_factors ss es
    zip [] es r h = refl
    zip (s ∷ ss) [] r h = absurd (omega arith)
    zip (s ∷ ss) (e ∷ es) r h = ap (λ l. base_factor s e ∷ l) (zip ss es r (omega arith))

-- the base rows that the code counts
pub slots_exps : (v : View) (slots : Slots) (ss : List Slot) → slots ≡ pack_slots ss → (fs : List Factor) (x : Outcome (List Exponent)) → x ≡ exps_of (base (view_bases v slots.len) fs) → x ≡ exps_of (base (view_bases v (length ss)) fs)
slots_exps v slots ss p fs x e = e ∙ ap (λ n. exps_of (base (view_bases v n) fs)) (len_slots slots ss p)

pub slots_lend : (v : View) (slots : Slots) (ss : List Slot) → slots ≡ pack_slots ss → {nums : List ℤ} {dens : List ℕ} → Lends v (length ss) nums dens → Lends v slots.len nums dens
slots_lend v slots ss p {nums} {dens} h = subst (λ n. Lends v n nums dens) (sym (len_slots slots ss p)) h

-- by the rules R
module _ (R : Rules Float) (ss : List Slot) (l : List Factor) where
  -- the base exponents refuse
  pub reduction_range : (r : Refusal) → base R.bases l ≡ Err r → Err r ≡ reduced_of (reduction R ss l)
  unfolding reduction
  reduction_range r e = sym (ap reduced_of (bind_refused _ e))

  module _ (es : List Exponent) (e : base R.bases l ≡ Ok es) where
    opened : reduction R ss l ≡ apply (λ s. (reduced ss es, s)) (scale_by R l)
    unfolding reduction
    opened = bind_given _ e

    -- the scale refuses
    pub reduction_fraction : (r : Refusal) → scale_by R l ≡ Err r → Err r ≡ reduced_of (reduction R ss l)
    reduction_fraction r q = sym (ap reduced_of (opened ∙ ap (apply (λ s. (reduced ss es, s))) q))

    pub reduction_given : (u : Factors) (s : Float) → u ≡ pack (reduced ss es) → scale_by R l ≡ Ok s → Ok (record { unit = u; scale = s }) ≡ reduced_of (reduction R ss l)
    reduction_given u s p q = ap (λ (u : Factors). Ok (record { unit = u; scale = s })) p ∙ sym (ap reduced_of (opened ∙ ap (apply (λ s. (reduced ss es, s))) q))
