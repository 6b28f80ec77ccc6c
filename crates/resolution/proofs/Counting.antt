-- How what comes before a factor is counted: one comparison by key, rank and row, and the counts with the first j factors looked at.
use mathlib.Core.Path.{◌≡◌, refl, sym, ◌∙◌, ap, ap₂}
use mathlib.Core.Bool.{Bool, true, false, cond, ◌||◌, ◌&&◌}
use mathlib.Core.List.{List}
use Prim.Native.Nat.compare
use Prim.Native.Nat.{ℕ, zero, suc, ◌+◌, ◌*◌, ◌<◌, ◌≤◌, compare, Ordering}
use native.Mathlib.Omega.{arith}
use lib.Dec.{ltb, eqb, compare_is_eq, leb-suc-suc}
use lib.IntN.{ℤ}
use lib.ListN.{length, drop, get_or}
use borrow.Author.Tests.{lt-ltb, le-ltb}
use Rattle.units.specs.declared.Factor.{Factor}
use Rattle.units.specs.Lists.{no_factor}
use Rattle.keys.specs.Key.{entries}
use Rattle.keys.specs.Orders.{then, lists, pairs}
use Rattle.keys.specs.Held.{key_at}
use Rattle.tables.specs.Held.{Ranked, is_less, tally, before}
use Rattle.tables.specs.Rows.{Facts, nobody}
use Rattle.tables.specs.Order.{key_order, row_order}
use Rattle.std.specs.Prelude.{Some}
use Rattle.std.specs.declared.cmp.Ordering.TheVariants.{Less, Equal, Greater}
use Rattle.std.specs.Ordering.{is_lt, is_some_and, nat_cmp, partial_lt, partial_ordering_then}
use Rattle.resolution.specs.Held.{Named, Space, count_by, count_of}
use Rattle.resolution.specs.declared.Count.{Count}
use Rattle.resolution.proofs.KeyPads.{entries-packed}
use Rattle.resolution.proofs.Before.{tally-most, before_on, before_end}

-- ---- rows that are named

pub low : (n : ℕ) (rows : List ℕ) (keys : List ℤ) (j : ℕ) → Space n rows keys → j < n → get_or rows j 0 < 128
low n rows keys j h k = h.3 j k

-- ---- one comparison

less_test : (a b : ℕ) → ltb a b ≡ is_less (compare a b)
unfolding is_less
less_test zero zero = refl
less_test zero (suc b) = lt-ltb 0 (suc b) (omega arith) ∙ sym (ap is_less (compare.zero-suc b))
less_test (suc a) zero = le-ltb (suc a) 0 (omega arith) ∙ sym (ap is_less (compare.suc-zero a))
less_test (suc a) (suc b) = leb-suc-suc (suc a) b ∙ less_test a b ∙ sym (ap is_less (compare.suc-suc a b))

-- rank, then row
pub lower_is : (a r b s : ℕ) → (ltb a b || (eqb a b && ltb r s)) ≡ is_less (then (compare a b) (compare r s))
unfolding is_less
lower_is a r b s = ap₂ (λ t u. t || (eqb a b && u)) (less_test a b) (less_test r s) ∙ go (compare a b) (compare r s)
  where
    go : (o p : Ordering) → (is_less o || (compare_is_eq o && is_less p)) ≡ is_less (then o p)
    go Ordering.lt p = refl
    go Ordering.eq p = refl
    go Ordering.gt p = refl

-- as std compares two pairs
pub pairs_less : (a r b s : ℕ) → partial_lt (λ (x y : ℕ × ℕ). partial_ordering_then (Some (nat_cmp x.0 y.0)) (Some (nat_cmp x.1 y.1))) (a, r) (b, s) ≡ is_less (then (compare a b) (compare r s))
pairs_less a r b s = go (ltb a b) (eqb a b) (ltb r s) (eqb r s) ∙ lower_is a r b s
  where
    go : (t e u v : Bool) → is_some_and is_lt (partial_ordering_then (Some (cond t Less (cond e Equal Greater))) (Some (cond u Less (cond v Equal Greater)))) ≡ (t || (e && u))
    go true e u v = refl
    go false true true v = refl
    go false true false true = refl
    go false true false false = refl
    go false false u v = refl

-- a count goes up by one at most
module _ (c u : Count) (o p : Ordering) (e : u ≡ count_by c o p) where
  pub place-most : u.place ≤ c.place + 1
  place-most = omega (arith, ap (λ (u : Count). u.place) e, tally-most (is_less (then o p)) c.place)

  pub class_most : u.class ≤ c.class + 1
  class_most = omega (arith, ap (λ (u : Count). u.class) e, tally-most (is_less o) c.class)

-- ---- the factors before j are counted

pub record Counting (ks : List Facts) (l : List Factor) (r : ℕ) (c : Count) (j : ℕ) : Type 0 where
  pub place : before (row_order ks) l r ≡ c.place + before (row_order ks) (drop j l) r
  pub class : before (key_order ks) l r ≡ c.class + before (key_order ks) (drop j l) r

module _ (ks : List Facts) (l : List Factor) (r : ℕ) where
  pub counting_end : (c : Count) (j : ℕ) → Counting ks l r c j → length l ≤ j → c ≡ count_of ks l r
  counting_end c j p h =
      ap₂ (λ (m n : ℕ). record { place = m; class = n })
      (sym (p.place ∙ before_end (row_order ks) l r c.place j h))
      (sym (p.class ∙ before_end (key_order ks) l r c.class j h))

-- how code compares the factors named at j and at i
abbrev pub by_keys : List ℤ → ℕ → ℕ → Ordering
by_keys keys j i = lists pairs (entries 0 (key_at (j * 16) keys)) (entries 0 (key_at (i * 16) keys))

abbrev pub by_ranks : List ℕ → List ℕ → ℕ → ℕ → Ordering
by_ranks rows ranks j i = then (compare (get_or ranks (get_or rows j 0) 0) (get_or ranks (get_or rows i 0) 0)) (compare (get_or rows j 0) (get_or rows i 0))

module _ {ks : List Facts} {l : List Factor} {n : ℕ} {rows : List ℕ} {keys : List ℤ} (h : Named ks l n rows keys) where
  -- a place holds the key of the row that is named there
  entries_at : (j : ℕ) → j < n → entries 0 (key_at (j * 16) keys) ≡ entries 0 (get_or ks (get_or rows j 0) nobody).key
  entries_at j p = ap (entries 0) (h.key j p) ∙ entries-packed _ ∙ ap (λ r. entries 0 (get_or ks r nobody).key) (sym (h.row j p))

  rank_at : (ranks : List ℕ) → Ranked ks ranks → (j : ℕ) → j < n → get_or ranks (get_or rows j 0) 0 ≡ (get_or ks (get_or rows j 0) nobody).rank
  rank_at ranks k j p = k (get_or rows j 0) (rw (h.row j p) (h.known j p))

  module _ (j i : ℕ) (p : j < n) (q : i < n) where
    keys_agree : by_keys keys j i ≡ key_order ks (get_or rows j 0) (get_or rows i 0)
    unfolding key_order
    keys_agree = ap₂ (lists pairs) (entries_at j p) (entries_at i q)

    rows_agree : (ranks : List ℕ) → Ranked ks ranks → then (by_keys keys j i) (by_ranks rows ranks j i) ≡ row_order ks (get_or rows j 0) (get_or rows i 0)
    unfolding row_order
    rows_agree ranks k =
        ap₂ (λ o p. then o (then p (compare (get_or rows j 0) (get_or rows i 0)))) keys_agree
        (ap₂ compare (rank_at ranks k j p) (rank_at ranks k i q))

    -- one turn of the loop
    pub counting_on : (ranks : List ℕ) → Ranked ks ranks → (c u : Count) → u ≡ count_by c (by_keys keys j i) (by_ranks rows ranks j i) →
        Counting ks l (get_or rows i 0) c j → Counting ks l (get_or rows i 0) u (j + 1)
    counting_on ranks k c u e w =
        let r = get_or rows i 0 in
        let in_list : j < length l = omega (arith, h.few) in
        record {
          place = w.place
              ∙ before_on (row_order ks) l r c.place j no_factor in_list
              ∙ ap (λ s. tally (is_less (row_order ks s r)) c.place + before (row_order ks) (drop (j + 1) l) r) (sym (h.row j p))
              ∙ ap (λ o. tally (is_less o) c.place + before (row_order ks) (drop (j + 1) l) r) (sym (rows_agree ranks k))
              ∙ sym (ap (λ (u : Count). u.place + before (row_order ks) (drop (j + 1) l) r) e);
          class = w.class
              ∙ before_on (key_order ks) l r c.class j no_factor in_list
              ∙ ap (λ s. tally (is_less (key_order ks s r)) c.class + before (key_order ks) (drop (j + 1) l) r) (sym (h.row j p))
              ∙ ap (λ o. tally (is_less o) c.class + before (key_order ks) (drop (j + 1) l) r) (sym keys_agree)
              ∙ sym (ap (λ (u : Count). u.class + before (key_order ks) (drop (j + 1) l) r) e);
        }
