-- Canonical forms as code hands them over: a resolved list's is resolved; and how the comparison of two ends.
use mathlib.Core.Path.{◌≡◌, sym, ap, ◌∙◌}
use mathlib.Core.Bool.{Bool}
use mathlib.Core.List.{List, [], ◌∷◌}
use Prim.Native.Nat.{ℕ, suc, ◌+◌, ◌≤◌, Ordering}
use native.Mathlib.Omega.{arith}
use lib.ListN.{length}
use Rattle.exponents.specs.Outcome.{Refusal, Outcome, Ok, Err, apply}
use Rattle.exponents.specs.Fractions.{add?}
use Rattle.exponents.proofs.Holds.{holds_all, Holds, held, take_out, holds_map, holds_bind, bind_given}
use Rattle.exponents.proofs.Numbers.{apply_answers, apply_refuses}
use Rattle.units.specs.declared.Factor.{Factor}
use Rattle.tables.specs.Held.{View, pack_items, Stands, Resolved}
use Rattle.tables.specs.declared.Items.{Items}
use Rattle.tables.specs.Order.{Atom}
use Rattle.canonical.specs.Canonical.{place, insert, gather, nonzero, canon, same_list}
use Rattle.canonical.specs.Held.{form_of}
use Rattle.canonical.specs.Equality.{equal}
use Rattle.canonical.proofs.Keeping.{drop-short, canon_kept}
use Rattle.canonical.proofs.Agree.{canon_atoms}

-- ---- a canonical form is no longer than its list
abbrev Within : ℕ → List Factor → Type 0
Within n m = length m ≤ n

pub nonzero-short : (l : List Factor) → length (nonzero l) ≤ length l
unfolding nonzero
nonzero-short [] = omega arith
nonzero-short (f ∷ l) = drop-short _ f (nonzero l) (length l) (nonzero-short l)

module _ (cmp : Atom → Atom → Ordering) where
  place_short : (o : Ordering) (x y : Factor) (ys : List Factor) (r : Outcome (List Factor)) → Holds (Within (suc (length ys))) r → Holds (Within (suc (suc (length ys)))) (place o x y ys r)
  unfolding place
  place_short Ordering.lt x y ys r h = held {a = x ∷ y ∷ ys} (omega arith)
  place_short Ordering.eq x y ys r h = holds_all _ (add? y.exponent x.exponent) λ e. omega arith
  place_short Ordering.gt x y ys r h = holds_map _ h λ zs p. omega arith

  insert-short : (x : Factor) (l : List Factor) → Holds (Within (suc (length l))) (insert cmp x l)
  unfolding insert
  insert-short x [] = held {a = x ∷ []} (omega arith)
  insert-short x (y ∷ ys) = place_short _ x y ys _ (insert-short x ys)

  gather-short : (n : ℕ) (a l : List Factor) → length a + length l ≤ n → Holds (Within n) (gather cmp a l)
  unfolding gather
  gather-short n a [] h = held {a = a} (omega arith)
  gather-short n a (x ∷ l) h = holds_bind _ (insert-short x a) λ b p. gather-short n b l (omega arith)

  pub canon_short : (l : List Factor) → Holds (Within (length l)) (canon cmp l)
  unfolding canon
  canon_short l = holds_map _ (gather-short (length l) [] l (omega arith)) λ m h. omega (arith, nonzero-short m)

-- ---- and resolved if its list is
pub canon_resolved : (v : View) (l : Items) (fs cs : List Factor) → Resolved v l fs → canon v.order fs ≡ Ok cs → (m : Items) → m ≡ pack_items v cs → Resolved v m cs
canon_resolved v l fs cs r e m p =
    let n = take_out (canon_short v.order fs) e in
    record {
      is = p;
      short = omega (arith, r.short);
      shaped = take_out (canon_kept v.order fs r.shaped) e;
      named = take_out (canon_atoms (λ u. Stands u.row v.among) v.order fs r.named) e;
      placed = r.placed;
    }

-- ---- what is handed over of a form
pub record Formed (v : View) (o : Outcome (List Factor)) (x : Items) : Type 0 where
  pub answer : List Factor
  pub is : o ≡ Ok answer
  pub list : Resolved v x answer

module _ (v : View) where
  -- `law` says that what answers is resolved, as `canon_resolved` does
  pub formed : (o : Outcome (List Factor)) (x : Items) → ((c : List Factor) → o ≡ Ok c → (m : Items) → m ≡ pack_items v c → Resolved v m c) → ◌≡◌ {A = Outcome Items} (Ok x) (form_of v o) → Formed v o x
  formed o x law e = let a = apply_answers (pack_items v) o x (sym e) in record { answer = a.answer; is = a.is; list = law a.answer a.is x (sym a.made) }

  pub canon_formed : (l : Items) (fs : List Factor) (x : Items) → Resolved v l fs → ◌≡◌ {A = Outcome Items} (Ok x) (form_of v (canon v.order fs)) → Formed v (canon v.order fs) x
  canon_formed l fs x r = formed (canon v.order fs) x λ c. canon_resolved v l fs c r

  pub unformed : (o : Outcome (List Factor)) (r : Refusal) → ◌≡◌ {A = Outcome Items} (Err r) (form_of v o) → o ≡ Err r
  unformed o r e = apply_refuses (pack_items v) o r (sym e)

-- ---- how the comparison ends
pub says : (cmp : Atom → Atom → Ordering) (l m c d : List Factor) → canon cmp l ≡ Ok c → canon cmp m ≡ Ok d → ◌≡◌ {A = Outcome Bool} (Ok (same_list cmp c d)) (equal cmp l m)
unfolding equal
says cmp l m c d p q = sym (bind_given _ p ∙ ap (apply (same_list cmp c)) q)
