-- A row worked out: how its base exponents, key and scale follow one another, as the code has them.
use mathlib.Core.Path.{◌≡◌, refl, sym, ap, ap₂, ◌∙◌}
use mathlib.Core.Bool.{Bool, true, false}
use mathlib.Core.List.{List, [], ◌∷◌, ◌++◌, map, map-append}
use Prim.Native.Nat.{ℕ, zero, suc, ◌+◌, ◌-◌, ◌≤◌, ◌<◌}
use native.Mathlib.Omega.{arith}
use native.Mathlib.Numerals.{add-one}
use lib.Dec.{eqb}
use lib.ListN.{length, take, get_or, set, replicate, length-map, get_or-append}
use lib.Seq.{take-suc, length-take-le, take_all}
use lib.Ieee.{Float, mul}
use lib.Ieee as ieee
use lib.IntN.{ℤ}
use borrow.Author.Tests.{eq-eqb, ne_eqb}
use Rattle.exponents.specs.Outcome.{Refusal, Outcome, Ok, Err, bind, apply, tested}
use Rattle.exponents.specs.Fractions.{nought, unit, lcm?}
use Rattle.exponents.specs.declared.Exponent.{Exponent}
use Rattle.exponents.proofs.Holds.{bind_given, Holds, take_out}
use Rattle.exponents.proofs.Following.{bind_bind}
use Rattle.floats.specs.Power.{one}
use Rattle.units.specs.declared.Kind.TheVariants.{Base, Derived}
use Rattle.units.specs.declared.Row.{Row}
use Rattle.tables.specs.declared.Slot.{Slot}
use Rattle.tables.specs.declared.Slots.{Slots}
use Rattle.tables.specs.declared.Known.{Known}
use Rattle.tables.specs.Lists.{base}
use Rattle.keys.specs.Key.{multiple, wholes, reduce, key}
use Rattle.tables.specs.Scale.{doubles, scale, size_by}
use Rattle.exponents.specs.Words.{pick, All}
use Rattle.tables.specs.Rows.{Facts, bases, def_of, scale_at, is_base, row_exps, row_scale, worked_out, self_exp}
use Rattle.tables.specs.Held.{row_derived, pack_slots, no_slot, pack_exps, known_of, exps_of, worked_of}
use Rattle.keys.proofs.KeyLaws.{Denominator, lcm-one}
use Rattle.keys.proofs.KeySizes.{multiple_range}
use Rattle.tables.proofs.Placing.{len_slots}
use Rattle.tables.proofs.Terms.{push_exps}

-- ---- the key of padded base exponents
multiple_join : (m : ℕ) (l k : List Exponent) → multiple m (l ++ k) ≡ bind (multiple m l) (λ n. multiple n k)
unfolding multiple
multiple_join m [] k = sym (bind_given (λ n. multiple n k) refl)
multiple_join m (x ∷ l) k = ap (bind (lcm? m x.den)) (λ i n. multiple_join n l k i) ∙ sym (bind_bind (lcm? m x.den) (λ n. multiple n l) (λ n. multiple n k))

-- a denominator 1 changes no multiple
ones : (n : ℕ) (l : List Exponent) → Denominator n → All (λ x. x.den ≡ 1) l → multiple n l ≡ Ok n
unfolding multiple
ones n [] h o = refl
ones n (x ∷ l) h o = ap (λ (d : ℕ). bind (lcm? n d) (λ m. multiple m l)) o.0 ∙ bind_given _ (lcm-one n h.0 h.1) ∙ ones n l h o.1

noughts : (k : ℕ) → All (λ (x : Exponent). x.den ≡ 1) (replicate k nought)
noughts zero = tt
noughts (suc k) = (refl, noughts k)

start : Denominator 1
start = (omega arith, omega arith)

-- behind an answer nothing changes
same_after : {A : Type 0} (P : A → Type 0) (o : Outcome A) (f : A → Outcome A) → Holds P o → ((a : A) → P a → f a ≡ Ok a) → bind o f ≡ o
unfolding bind
same_after P (Ok a) f h k = k a (take_out h refl)
same_after P (Err r) f h k = refl

multiple_padded : (es : List Exponent) → multiple 1 (pack_exps es) ≡ multiple 1 es
unfolding pack_exps
multiple_padded es = multiple_join 1 es (replicate (16 - length es) nought) ∙ same_after Denominator (multiple 1 es) _ (multiple_range 1 es start) (λ n h. ones n (replicate (16 - length es) nought) h (noughts (16 - length es)))

-- ---- a derived row, as the code works it out
pub derived_steps : (n : ℕ) (ks : List Facts) (row : Row) (f : Float)
    → bind (exps_of (base (bases n ks) (def_of row))) (λ x.
    bind (tested (key x)) (λ _.
    bind (scale doubles (size_by (scale_at ks)) (def_of row)) (λ s.
    Ok (record { exps = x; scale = mul ieee.binary64 f s; rank = row.rank; base = false }))))
    ≡ worked_of (row_derived n ks row f)
unfolding bind known_of key
derived_steps n ks row f = go (base (bases n ks) (def_of row))
  where
    scaled : (o : Outcome Float) (es : List Exponent) (k : List ℤ)
        → bind o (λ s. Ok (record { exps = pack_exps es; scale = mul ieee.binary64 f s; rank = row.rank; base = false }))
        ≡ worked_of (bind (apply (mul ieee.binary64 f) o) (λ s. Ok (record { exps = es; key = k; scale = s; rank = row.rank; base = false })))
    scaled (Ok s) es k = refl
    scaled (Err r) es k = refl

    keyed : (o : Outcome ℕ) (es : List Exponent)
        → bind (tested (apply (λ m. reduce (wholes m (pack_exps es))) o)) (λ _. bind (scale doubles (size_by (scale_at ks)) (def_of row)) (λ s. Ok (record { exps = pack_exps es; scale = mul ieee.binary64 f s; rank = row.rank; base = false })))
        ≡ worked_of (bind (apply (λ m. reduce (wholes m es)) o) (λ k. bind (apply (mul ieee.binary64 f) (scale doubles (size_by (scale_at ks)) (def_of row))) (λ s. Ok (record { exps = es; key = k; scale = s; rank = row.rank; base = false }))))
    keyed (Ok m) es = scaled (scale doubles (size_by (scale_at ks)) (def_of row)) es _
    keyed (Err r) es = refl

    go : (o : Outcome (List Exponent))
        → bind (exps_of o) (λ x. bind (tested (key x)) (λ _. bind (scale doubles (size_by (scale_at ks)) (def_of row)) (λ s. Ok (record { exps = x; scale = mul ieee.binary64 f s; rank = row.rank; base = false }))))
        ≡ worked_of (bind o (λ e. bind (key e) (λ k. bind (apply (mul ieee.binary64 f) (scale doubles (size_by (scale_at ks)) (def_of row))) (λ s. Ok (record { exps = e; key = k; scale = s; rank = row.rank; base = false })))))
    go (Ok es) = rw (multiple_padded es) (keyed (multiple 1 es) es)
    go (Err r) = refl

-- the same, by what each step gave
module _ (n : ℕ) (ks : List Facts) (row : Row) (f : Float) where
  pub no_base : (r : Refusal) → Err r ≡ exps_of (base (bases n ks) (def_of row)) → Err r ≡ worked_of (row_derived n ks row f)
  unfolding bind
  no_base r e = rw (← derived_steps n ks row f, ← e) refl

  pub no_key : (r : Refusal) (x : List Exponent) → Ok x ≡ exps_of (base (bases n ks) (def_of row)) → Err r ≡ tested (key x) → Err r ≡ worked_of (row_derived n ks row f)
  unfolding bind
  no_key r x e k = rw (← derived_steps n ks row f, ← e, ← k) refl

  pub no_scale : (r : Refusal) (x : List Exponent) (u : Unit {0}) → Ok x ≡ exps_of (base (bases n ks) (def_of row)) → Ok u ≡ tested (key x)
      → Err r ≡ scale doubles (size_by (scale_at ks)) (def_of row) → Err r ≡ worked_of (row_derived n ks row f)
  unfolding bind
  no_scale r x u e k s = rw (← derived_steps n ks row f, ← e, ← k, ← s) refl

  pub all_three : (x : List Exponent) (u : Unit {0}) (v : Float) → Ok x ≡ exps_of (base (bases n ks) (def_of row)) → Ok u ≡ tested (key x) → Ok v ≡ scale doubles (size_by (scale_at ks)) (def_of row)
      → Ok (record { exps = x; scale = mul ieee.binary64 f v; rank = row.rank; base = false }) ≡ worked_of (row_derived n ks row f)
  unfolding bind
  all_three x u v e k s = rw (← derived_steps n ks row f, ← e, ← k, ← s) refl

pub derived_is : (slots : Slots) (ss : List Slot) (ks : List Facts) (row : Row) (f : Float) → slots ≡ pack_slots ss → row.kind ≡ Derived f → worked_of (row_derived slots.len ks row f) ≡ worked_of (worked_out ss ks row)
unfolding worked_out row_exps row_scale is_base
derived_is slots ss ks row f p e = rw (len_slots slots ss p, e)

-- ---- a base row
self_ones : (i : ℕ) (ss : List Slot) → All (λ (x : Exponent). x.den ≡ 1) (map (self_exp i) ss)
self_ones i [] = tt
self_ones i (s ∷ ss) = (go (eqb s.row i), self_ones i ss)
  where
    go : (t : Bool) → (pick t unit nought).den ≡ 1
    go true = refl
    go false = refl

pub base_is : (ss : List Slot) (ks : List Facts) (row : Row) (exps : List Exponent) → row.kind ≡ Base → exps ≡ pack_exps (map (self_exp (length ks)) ss)
    → ◌≡◌ {A = Outcome Known} (Ok (record { exps = exps; scale = one; rank = row.rank; base = true })) (worked_of (worked_out ss ks row))
unfolding worked_out row_exps row_scale is_base known_of key bind
base_is ss ks row exps e p =
    ap (λ (l : List Exponent). Ok (record { exps = l; scale = one; rank = row.rank; base = true })) p
    ∙ rw (e, ones 1 (map (self_exp (length ks)) ss) start (self_ones (length ks) ss))

-- 1 where the slot is the row's own
pub self_own : (s : Slot) (i : ℕ) → s.row ≡ i → unit ≡ self_exp i s
self_own s i h = rw (eq-eqb s.row i h)

pub self_other : (s : Slot) (i : ℕ) → (s.row ≡ i → ⊥) → nought ≡ self_exp i s
self_other s i h = rw (ne_eqb s.row i h)

-- ---- the loop over the slots: the first s are looked at
module _ (i : ℕ) (slots : Slots) (ss : List Slot) (e : slots ≡ pack_slots ss) where
  pub slot_at : (s : ℕ) (d : Slot) → s < length ss → get_or slots.at s d ≡ get_or ss s d
  unfolding pack_slots
  slot_at s d h = ap (λ (l : Slots). get_or l.at s d) e ∙ get_or-append ss (replicate (16 - length ss) no_slot) d s h

  pub own_none : replicate 16 nought ≡ pack_exps (map (self_exp i) (take 0 ss))
  unfolding pack_exps
  own_none = refl

  pub own_on : (s : ℕ) (d : Slot) (out : List Exponent) (x : Exponent) → s < length ss → s < 16 → x ≡ self_exp i (get_or slots.at s d) → out ≡ pack_exps (map (self_exp i) (take s ss)) → set out s x ≡ pack_exps (map (self_exp i) (take (s + 1) ss))
  own_on s d out x h k p q =
      ap₂ (λ (o : List Exponent) (x : Exponent). set o s x) q (p ∙ ap (self_exp i) (slot_at s d h))
      ∙ push_exps (map (self_exp i) (take s ss)) (self_exp i (get_or ss s d)) s (length-map (take s ss) (self_exp i) ∙ length-take-le s ss (omega arith)) k
      ∙ ap pack_exps (sym (rw (add-one, take-suc ss s d h, map-append)))

  pub own_end : (s : ℕ) (out : List Exponent) → length ss ≤ s → out ≡ pack_exps (map (self_exp i) (take s ss)) → out ≡ pack_exps (map (self_exp i) ss)
  own_end s out h q = q ∙ ap (λ (l : List Slot). pack_exps (map (self_exp i) l)) (take_all s ss h)
