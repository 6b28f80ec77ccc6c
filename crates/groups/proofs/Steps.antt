-- One step of a reader in code: what was found stands at its place, and the next step reads on at the place behind it.
use mathlib.Core.Path.{◌≡◌, refl, sym, ap, ◌∙◌}
use mathlib.Core.List.{List}
use Prim.Native.Nat.{ℕ, ◌-◌, ◌≤◌}
use native.Mathlib.Omega.{arith}
use borrow.Author.Tests.{leb-true}
use lib.Dec.{leb}
use lib.ListN.{length, drop, length-drop}
use Rattle.groups.specs.Taken.{Taken, nothing, taken, provided}
use Rattle.groups.specs.Numbers.{groups?, up_to?}
use Rattle.groups.specs.Held.{handed}
use Rattle.std.specs.declared.option.Option.{Option}
use Rattle.std.specs.declared.option.Option.TheVariants.{None, Some}
use Rattle.groups.proofs.Behind.{Leaves, dropped, further, place, Then, first, parted, met}
use Rattle.groups.proofs.Groups.{up_leaves}

-- the rest of a reader from a place on is what stands from the place behind it on
pub settled : {A : Type 0} {r : List ℕ → Taken A} → Leaves r → (s : List ℕ) (at : ℕ) (a : A) (t : List ℕ) (i : ℕ) → r (drop at s) ≡ taken a t → i ≡ length s - length t → r (drop at s) ≡ taken a (drop i s)
settled l s at a t i e p = e ∙ ap (taken a) (place (further (dropped s at) (l (drop at s) a t e)) i p)

-- what was found, and where it ends
pub record Read {A : Type 0} (r : List ℕ → Taken A) (s : List ℕ) (at : ℕ) (a : A) (i : ℕ) : Type 0 where
  pub reads : r (drop at s) ≡ taken a (drop i s)
  pub inside : i ≤ length s

pub read_at : {A : Type 0} {r : List ℕ → Taken A} → Leaves r → (s : List ℕ) (at : ℕ) (a : A) (t : List ℕ) (i : ℕ) → r (drop at s) ≡ taken a t → i ≡ length s - length t → Read r s at a i
read_at {r = r} l s at a t i e p = record { reads = settled {r = r} l s at a t i e p; inside = omega arith }

-- the place behind is told by what is left
pub behind : (s : List ℕ) (i : ℕ) → i ≤ length s → length s - length (drop i s) ≡ i
behind s i h = omega (arith, length-drop i s)

-- ---- what was handed over

module _ {A : Type 0} {r : List ℕ → Taken A} (l : Leaves r) (s : List ℕ) (at : ℕ) (x : Option (A × ℕ)) (d : x ≡ handed (length s) (r (drop at s))) where
  pub found : (a : A) (i : ℕ) → x ≡ Some (a, i) → Read r s at a i
  found a i e = go (r (drop at s)) refl (sym d ∙ e)
    where
      go : (o : Taken A) → r (drop at s) ≡ o → handed (length s) o ≡ Some (a, i) → Read r s at a i
      go nothing p e = let z : ◌≡◌ {A = ℕ} 0 1 = cc in absurd (omega arith)
      go (taken b t) p e =
          let q : ◌≡◌ {A = A × ℕ} (b, length s - length t) (a, i) = cc in
          read_at {r = r} l s at a t i (p ∙ ap (λ y. taken y t) (ap (λ y. y.0) q)) (sym (ap (λ y. y.1) q))

  pub missing : x ≡ None → r (drop at s) ≡ nothing
  missing e = go (r (drop at s)) refl (sym d ∙ e)
    where
      go : (o : Taken A) → r (drop at s) ≡ o → handed (length s) o ≡ None → r (drop at s) ≡ nothing
      go nothing p e = p
      go (taken b t) p e = let z : ◌≡◌ {A = ℕ} 0 1 = cc in absurd (omega arith)

-- ---- numbers

pub number_found : (s : List ℕ) (at most v i : ℕ) (x : Option (ℕ × ℕ)) → x ≡ handed (length s) (up_to? most (drop at s)) → x ≡ Some (v, i) → Read (up_to? most) s at v i
number_found s at most v i x d e = found {r = up_to? most} (up_leaves most) s at x d v i e

pub number_missing : (s : List ℕ) (at most : ℕ) (x : Option (ℕ × ℕ)) → x ≡ handed (length s) (up_to? most (drop at s)) → x ≡ None → up_to? most (drop at s) ≡ nothing
number_missing s at most x d e = missing {r = up_to? most} (up_leaves most) s at x d e

-- a number that was found is not above what was asked
pub up_bound : (n : ℕ) (s : List ℕ) (v : ℕ) (t : List ℕ) → up_to? n s ≡ taken v t → v ≤ n
unfolding up_to?
up_bound n s v t e = go (parted (groups? 5 s) _ v t e)
  where
    go : Then (groups? 5 s) (λ v s₁. provided (leb v n) (taken v s₁)) v t → v ≤ n
    go (first x u p q) =
        let m = met (leb x n) (taken x u) v t q in
        let a : x ≡ v = cc m.1 in
        rw (← a) (leb-true x n m.0)

-- by what was handed over alone
pub number_gives : (s : List ℕ) (at most v i : ℕ) → handed (length s) (up_to? most (drop at s)) ≡ Some (v, i)
    → (up_to? most (drop at s) ≡ taken v (drop i s)) × (length s - length (drop i s) ≡ i) × (i ≤ length s) × (v ≤ most)
number_gives s at most v i e =
    let r = number_found s at most v i _ refl e in
    (r.reads, behind s i r.inside, r.inside, up_bound most (drop at s) v (drop i s) r.reads)

pub number_ends : (s : List ℕ) (at most : ℕ) → handed (length s) (up_to? most (drop at s)) ≡ None → up_to? most (drop at s) ≡ nothing
number_ends s at most e = number_missing s at most _ refl e
