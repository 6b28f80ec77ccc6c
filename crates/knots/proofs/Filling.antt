-- The loop that fills the values: the conversion at hand serves the next knot, and each knot's value is its conversion's.
use mathlib.Core.Path.{◌≡◌, sym, ap, ◌∙◌}
use mathlib.Core.List.{List}
use Prim.Native.Nat.{ℕ, ◌+◌, ◌*◌, ◌≤◌, ◌<◌}
use native.Mathlib.Omega.{arith}
use lib.Ieee.{Float}
use lib.ListN.{length, get_or, set, take, replicate, length-map, length-replicate, get_or-replicate}
use Rattle.exponents.specs.Outcome.{Refusal, Outcome, Ok, Err, tested}
use Rattle.exponents.proofs.Numbers.{clash}
use Rattle.units.specs.declared.Factors.{Factors}
use Rattle.units.specs.declared.Quantity.{Quantity}
use Rattle.units.specs.declared.Rows.{Rows}
use Rattle.conversion.specs.Held.{rated_by}
use Rattle.conversion.specs.declared.convert.Rate.{Rate}
use Rattle.quantities.specs.Calls.{merged_value}
use Rattle.wire.specs.Bytes.{run_at}
use Rattle.wire.specs.Records.{list_at, quantity_at}
use Rattle.wire.proofs.Runs.{length_run_at, get_or_run_at}
use Rattle.wire.proofs.Alike.{unit_at}
use Rattle.knotruns.specs.Knots.{converted}
use Rattle.knotruns.specs.Held.{all}
use Rattle.knotruns.proofs.Conversions.{all_given}
use Rattle.knotruns.proofs.Filling.{Filled, filled_none, filled_on, filled_stop, filled_all}
use Rattle.knots.specs.declared.Shelf.{Shelf}
use Rattle.knots.specs.Calls.{conversions}
use Rattle.knots.specs.Held.{Makes, Inside, absent, Shelved, Filling}

-- lists that read alike have one conversion
makes_alike : {t : Rows} {m : Factors} {s : List ℕ} {r : Outcome Rate} (i j : ℕ) → list_at s i ≡ list_at s j → Makes t m s r i → Makes t m s r j
makes_alike i j e f = record { so = λ q h. f.so q (h ∙ sym e) }

-- ---- the conversion at hand, for any table of which `ok` holds
module _ (ok : Rows → Type 0) (m : Factors) (s : List ℕ) where
  -- r is that of the unit at a place, and the shelf f is in order
  pub record Hand (r : Outcome Rate) (at : ℕ) (f : Shelf) : Type 0 where
    pub whole : at + 324 ≤ length s
    pub inside : Inside (length s) f
    pub makes : (t : Rows) → ok t → Makes t m s r at
    pub shelved : (t : Rows) → ok t → Shelved t m s f

  -- and it serves the list at another place
  pub record Serves (r : Outcome Rate) (at : ℕ) (f : Shelf) (new : ℕ) : Type 0 where
    pub hand : Hand r at f
    pub serves : (t : Rows) → ok t → Makes t m s r new

  pub hand_start : (r : Outcome Rate) (at : ℕ) → at + 324 ≤ length s → ((t : Rows) → ok t → Makes t m s r at) → Hand r at (record { rates = replicate 8 r; places = replicate 8 at; next = 1 })
  hand_start r at h f =
      record {
        whole = h;
        inside = record { rates = length-replicate 8 r; places = length-replicate 8 at; next = omega arith; whole = λ k l. rw (get_or-replicate 8 k at 0 l) h };
        makes = f;
        shelved = λ t o. record { each = λ k l. rw (get_or-replicate 8 k r absent l, get_or-replicate 8 k at 0 l) (f t o) };
      }

  -- the list reads as the one at hand
  pub serves_alike : {r r' : Outcome Rate} {at at' : ℕ} {f f' : Shelf} (new : ℕ) → Hand r at f → list_at s at ≡ list_at s new → r' ≡ r → at' ≡ at → f' ≡ f → Serves r' at' f' new
  serves_alike new h e p q g = rw (p, q, g) (record { hand = h; serves = λ t o. makes_alike _ new e (h.makes t o) })

  -- it doesn't: the shelf has turned
  pub serves_turned : {r r' r'' : Outcome Rate} {at at' : ℕ} {f f' f'' : Shelf} (new : ℕ) → Hand r at f → new + 324 ≤ length s → Inside (length s) f'' → ((t : Rows) → ok t → Shelved t m s f → Makes t m s r'' new × Shelved t m s f'')
      → r' ≡ r'' → at' ≡ new → f' ≡ f'' → Serves r' at' f' new
  serves_turned new h w i g p q k =
      rw (p, q, k)
      (record {
        hand = record { whole = w; inside = i; makes = λ t o. (g t o (h.shelved t o)).0; shelved = λ t o. (g t o (h.shelved t o)).1 };
        serves = λ t o. (g t o (h.shelved t o)).0;
      })

-- ---- the values, of n knots
module _ (t : Rows) (m : Factors) (s : List ℕ) (n : ℕ) where
  abbrev pub knots : List Quantity
  knots = run_at quantity_at 336 n s 0

  abbrev pub Upto : ℕ → List Float → Type 0
  Upto i vs = Filled (λ q. merged_value t q m) knots (quantity_at s 0) i vs

  pub upto_none : (vs : List Float) → n ≤ length vs → Upto 0 vs
  upto_none vs h = filled_none (λ q. merged_value t q m) knots (quantity_at s 0) vs (omega (arith, length_run_at quantity_at 336 n s 0))

  -- the knot at a place, converted by what is at hand
  module _ (i : ℕ) (vs : List Float) (w : Upto i vs) (h : i < n) (r : Outcome Rate) (serves : Makes t m s r (i * 336 + 12)) (x : Float) (e : x ≡ (quantity_at s (i * 336)).value) (c : Outcome Float) (rated : c ≡ rated_by r x) where
    here : get_or knots i (quantity_at s 0) ≡ quantity_at s (i * 336)
    here = let z : 0 + i * 336 ≡ i * 336 = omega arith in get_or_run_at quantity_at 336 n s 0 i (quantity_at s 0) h ∙ ap (quantity_at s) z

    so : c ≡ merged_value t (get_or knots i (quantity_at s 0)) m
    so = rated ∙ ap (rated_by r) e ∙ serves.so (quantity_at s (i * 336)) (unit_at s (i * 336)) ∙ ap (λ q. merged_value t q m) (sym here)

    among : i < length knots
    among = omega (arith, length_run_at quantity_at 336 n s 0)

    pub upto_on : (v : Float) → c ≡ Ok v → Upto (i + 1) (set vs i v)
    upto_on v k = filled_on (λ q. merged_value t q m) knots (quantity_at s 0) i vs v w among (sym so ∙ k)

    pub upto_stop : (k : Refusal) → c ≡ Err k → (us : List Float) → Filling (conversions t knots m) (Err k) us
    upto_stop k f us =
        let g = filled_stop (λ q. merged_value t q m) knots (quantity_at s 0) i vs k w among (sym so ∙ f) in
        record { tells = sym (ap tested g); there = λ z. absurd (clash (sym z)) }

  pub upto_all : (i : ℕ) (vs : List Float) → Upto i vs → n ≤ i → Filling (conversions t knots m) (Ok tt) vs
  upto_all i vs w h =
      let e = filled_all (λ q. merged_value t q m) knots (quantity_at s 0) i vs w (omega (arith, length_run_at quantity_at 336 n s 0)) in
      record {
        tells = sym (ap tested (ap converted e ∙ all_given (take (length knots) vs)));
        there = λ z. e ∙ ap (λ k. all (take k vs)) (sym (length-map knots (λ q. merged_value t q m)));
      }
