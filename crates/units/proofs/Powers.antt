-- A list worked out factor by factor into an array, from the front: one turn of the loop, for any step.
use mathlib.Core.Path.{◌≡◌, sym, ap, ◌∙◌}
use mathlib.Core.List.{List, [], ◌∷◌, ◌++◌}
use Prim.Native.Nat.{ℕ, ◌+◌, ◌≤◌, ◌<◌}
use native.Mathlib.Omega.{arith}
use lib.ListN.{length, get_or, set}
use lib.Seq.{get_or-take}
use Rattle.exponents.specs.Outcome.{Outcome, Ok, each}
use Rattle.exponents.proofs.Traversal as each
use Rattle.units.specs.declared.Factor.{Factor}
use Rattle.units.specs.declared.Factors.{Factors}
use Rattle.units.specs.Lists.{list_of, pack, made_of}
use Rattle.units.proofs.Laws.{padded, padded_none, padded_more, padded_all}

-- the factors before i are worked out and stand in the array, the places from i on are clean
pub record Upto (f : Factor → Outcome Factor) (l : Factors) (at : List Factor) (i : ℕ) : Type 0 where
  pub done : List Factor
  pub stands : at ≡ padded done
  pub so_far : each.Upto f (list_of l) i done

pub upto_none : (f : Factor → Outcome Factor) (l o : Factors) → o ≡ pack [] → Upto f l o.at 0
upto_none f l o e = record { done = []; stands = padded_none o e; so_far = each.upto_none f (list_of l) }

module _ (f : Factor → Outcome Factor) (l : Factors) (at : List Factor) (i : ℕ) (u : Upto f l at i) where
  pub upto_end : l.len ≤ i → i ≤ l.len → length (list_of l) ≡ l.len → Ok (record { at = at; len = l.len }) ≡ made_of (each f (list_of l))
  upto_end h m k = ap Ok (padded_all u.done at l.len (omega (arith, u.so_far.sized)) u.stands) ∙ sym (ap made_of (each.upto_end f (list_of l) i u.done u.so_far (omega arith)))

  module _ (d : Factor) (h : i < l.len) (k : i < length (list_of l)) where
    there : get_or (list_of l) i d ≡ get_or l.at i d
    there = get_or-take l.len l.at i d h

    pub upto_more : (g : Factor) → i < 16 → f (get_or l.at i d) ≡ Ok g → Upto f l (set at i g) (i + 1)
    upto_more g m e = record {
      done = u.done ++ (g ∷ []);
      stands = padded_more u.done at i g u.so_far.sized m u.stands;
      so_far = each.upto_on f (list_of l) i u.done u.so_far d k g (ap f there ∙ e);
    }
