-- A base row at which a list has no exponent refuses nothing: base exponents and the key's common multiple answer and refuse as without it.
use mathlib.Core.Path.{◌≡◌, refl, sym, ap, ap₂, ◌∙◌}
use mathlib.Core.Bool.{false}
use mathlib.Core.List.{List, [], ◌∷◌, map}
use Prim.Native.Nat.{ℕ, ◌≤◌}
use native.Mathlib.Omega.{arith}
use Rattle.exponents.specs.Outcome.{Outcome, Ok, Err, bind, each}
use Rattle.exponents.specs.Fractions.{nought, faulty, sum?, mul?, add?, lcm?}
use Rattle.exponents.specs.declared.Exponent.{Exponent}
use Rattle.exponents.proofs.Holds.{Holds, moot, held, bind_given, holds_bind, holds_map, holds_eq, holds_any}
use Rattle.exponents.proofs.Following.{apply_bind, apply_apply, bind_same, bind_bind}
use Rattle.exponents.proofs.InRange.{or_left, or_right}
use Rattle.exponents.proofs.Sound.{nought_sound, zero_term}
use Rattle.units.specs.declared.Factor.{Factor}
use Rattle.units.specs.Prefixes.{prefix_fault}
use Rattle.units.specs.Lists.{some, factor_fault}
use Rattle.keys.specs.Key.{multiple, key}
use Rattle.keys.proofs.KeyLaws.{Denominator, lcm_range, lcm-one}
use Rattle.tables.specs.declared.Slot.{Slot}
use Rattle.tables.specs.Lists.{base_at}
use Rattle.beginnings.proofs.Matched.{Matched, mute, matched_by, matched_imp}
use Rattle.beginnings.proofs.Between.{Between, none, same, late}

-- ---- at one base row: where no row has an exponent, no list has one
pub base-zero : (l : List Factor) (b : ℕ → Exponent) → some factor_fault l ≡ false → ((r : ℕ) → b r ≡ nought) → base_at l b ≡ Ok nought
unfolding base_at some sum? factor_fault
base-zero [] b h z = refl
base-zero (f ∷ l) b h z =
    let sound : faulty f.exponent ≡ false = or_right (prefix_fault f.prefix) (faulty f.exponent) (or_left (factor_fault f) (some factor_fault l) h) in
    sym (bind_bind (mul? f.exponent (b f.row)) (λ t. add? nought t) (λ u. sum? (λ g. mul? g.exponent (b g.row)) u l))
    ∙ bind_given _ (ap (λ x. bind (mul? f.exponent x) (λ t. add? nought t)) (z f.row) ∙ zero_term f.exponent nought sound nought_sound)
    ∙ base-zero l b (or_right (factor_fault f) (some factor_fault l) h) z

-- ---- at all of them, f at each
abbrev answer : Outcome Exponent → Exponent
answer (Ok x) = x
answer (Err r) = nought

module _ (f : Slot → Outcome Exponent) where
  mute_each : (s : Slot) (l : List Slot) → mute (each f (s ∷ l)) ≡ bind (f s) (λ _. mute (each f l))
  unfolding each
  mute_each s l = apply_bind (f s) _ _ ∙ bind_same (f s) _ _ λ b. apply_apply _ _ (each f l)

  each_is : (l : List Slot) → Holds (λ es. es ≡ map (λ s. answer (f s)) l) (each f l)
  unfolding each
  each_is [] = held refl
  each_is (s ∷ l) = holds_bind _ (holds_eq (f s)) λ b p. holds_map _ (each_is l) λ m q. ap₂ ◌∷◌ (sym (ap answer p)) q

  module _ (n : ℕ) (z : (s : Slot) → n ≤ s.row → f s ≡ Ok nought) where
    each_between : {l m : List Slot} → Between n l m → mute (each f l) ≡ mute (each f m)
    each_between none = refl
    each_between (same {s = s} {l = l} {m = m} b) = mute_each s l ∙ ap (λ o. bind (f s) (λ _. o)) (each_between b) ∙ sym (mute_each s m)
    each_between (late {s = s} {m = m} h b) = each_between b ∙ sym (mute_each s m ∙ bind_given _ (z s h))

-- ---- in the common multiple of a key
bind_held : {A B : Type 0} {P : A → Type 0} {o : Outcome A} (f g : A → Outcome B) → Holds P o → ((a : A) → P a → f a ≡ g a) → bind o f ≡ bind o g
unfolding bind
bind_held f g moot h = refl
bind_held f g (held {a = a} p) h = h a p

module _ (at : Slot → Exponent) (n : ℕ) (z : (s : Slot) → n ≤ s.row → at s ≡ nought) where
  multiple_between : {l m : List Slot} → Between n l m → (k : ℕ) → Denominator k → multiple k (map at l) ≡ multiple k (map at m)
  unfolding multiple
  multiple_between none k d = refl
  multiple_between (same {s = s} b) k d = bind_held _ _ (lcm_range k (at s).den) λ j p. multiple_between b j p
  multiple_between (late {s = s} {m = m} h b) k d =
      multiple_between b k d ∙ sym (ap (λ (x : Exponent). bind (lcm? k x.den) (λ j. multiple j (map at m))) (z s h) ∙ bind_given _ (lcm-one k d.0 d.1))

-- ---- over two lists of base rows that differ in later ones only

-- the exponents at each of ss and of ts, by one function that is zero from row n on
pub record Spread (n : ℕ) (ss ts : List Slot) (es ds : List Exponent) : Type 0 where
  pub at : Slot → Exponent
  pub one : es ≡ map at ss
  pub two : ds ≡ map at ts
  pub zero : (s : Slot) → n ≤ s.row → at s ≡ nought

module _ (n : ℕ) (l ss ts : List Slot) (b : Between n l ss) (c : Between n l ts) where
  -- base exponents answer so, or refuse alike
  pub each_spread : (f : Slot → Outcome Exponent) → ((s : Slot) → n ≤ s.row → f s ≡ Ok nought) → Matched (Spread n ss ts) (each f ss) (each f ts)
  each_spread f z =
      matched_imp (matched_by (each_is f ss) (each_is f ts) (sym (each_between f n z b) ∙ each_between f n z c)) λ es ds h.
      record { at = λ s. answer (f s); one = h.0; two = h.1; zero = λ s k. ap answer (z s k) }

  -- and their keys refuse alike
  pub key_spread : (es ds : List Exponent) → Spread n ss ts es ds → Matched (λ _ _. Unit {0} × Unit {0}) (key es) (key ds)
  unfolding key
  key_spread es ds h =
      let d : Denominator 1 = (omega arith, omega arith) in
      let one : multiple 1 es ≡ multiple 1 (map h.at l) = ap (multiple 1) h.one ∙ sym (multiple_between h.at n h.zero b 1 d) in
      let two : multiple 1 ds ≡ multiple 1 (map h.at l) = ap (multiple 1) h.two ∙ sym (multiple_between h.at n h.zero c 1 d) in
      matched_by (holds_any (key es)) (holds_any (key ds)) (apply_apply _ _ (multiple 1 es) ∙ ap mute (one ∙ sym two) ∙ sym (apply_apply _ _ (multiple 1 ds)))
