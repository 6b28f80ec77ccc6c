-- What is known of one row more, stored in the five arrays behind the rows before it.
use mathlib.Core.Path.{◌≡◌, refl, sym, ap, ◌∙◌, subst}
use mathlib.Core.Bool.{Bool, true, false}
use mathlib.Core.List.{List, [], ◌∷◌, ◌++◌, map}
use Prim.Native.Nat.{ℕ, zero, suc, ◌+◌, ◌-◌, ◌*◌, ◌≤◌, ◌<◌}
use native.Mathlib.Omega.{arith}
use lib.Dec.{ltb}
use lib.IntN.{ℤ, pos}
use lib.Ieee.{Float}
use lib.ListN.{length, get_or, set, take, replicate, length-map, length-append, length-replicate, length-set, get_or-append, get_or-map}
use lib.Seq.{sets, get_or-set_same, get_or-set_other, get_or_at, get_or-take, length-take-le, ext_get_or}
use borrow.Author.Tests.{ltb-true, ltb-false}
use Rattle.exponents.specs.Fractions.{nought}
use Rattle.exponents.specs.declared.Exponent.{Exponent}
use Rattle.floats.specs.Power.{one}
use Rattle.tables.specs.Rows.{Facts, nobody, exp_at, scale_at}
use Rattle.tables.specs.Held.{pack_exps, tops, bottoms, Room, Blank, Ranked, Paged}
use Rattle.tables.proofs.Terms.{padded}

-- ---- a run of stores, read back
module _ {A : Type 0} where
  sets_before : (vs l : List A) (i j : ℕ) (d : A) → j < i → get_or (sets l i vs) j d ≡ get_or l j d
  sets_before [] l i j d h = refl
  sets_before (v ∷ vs) l i j d h = sets_before vs (set l i v) (suc i) j d (omega arith) ∙ get_or-set_other l i j v d (λ e. omega arith)

  sets_at : (vs l : List A) (i s : ℕ) (d : A) → i + length vs ≤ length l → s < length vs → get_or (sets l i vs) (i + s) d ≡ get_or vs s d
  sets_at [] l i s d h k = absurd (omega arith)
  sets_at (v ∷ vs) l i zero d h k =
      let e : i + 0 ≡ i = omega arith in
      rw e (sets_before vs (set l i v) (suc i) i d (omega arith) ∙ get_or-set_same l i v d (omega arith))
  sets_at (v ∷ vs) l i (suc s) d h k =
      let e : i + suc s ≡ suc i + s = omega arith in
      rw e (sets_at vs (set l i v) (suc i) s d (simp length-set (omega arith)) (omega arith))

  sets_behind : (vs l : List A) (i j : ℕ) (d : A) → i + length vs ≤ j → get_or (sets l i vs) j d ≡ get_or l j d
  sets_behind [] l i j d h = refl
  sets_behind (v ∷ vs) l i j d h = sets_behind vs (set l i v) (suc i) j d (omega arith) ∙ get_or-set_other l i j v d (λ e. omega arith)

-- ---- the exponents that are stored
pub long_exps : (es : List Exponent) → length es ≤ 16 → length (pack_exps es) ≡ 16
unfolding pack_exps
long_exps es h = length-append es (replicate (16 - length es) nought) ∙ ap (λ n. length es + n) (length-replicate (16 - length es) nought) ∙ omega arith

module _ (es : List Exponent) (s : ℕ) (h : s < 16) where
  top_at : get_or (tops (pack_exps es)) s (pos 0) ≡ (get_or es s nought).num
  unfolding pack_exps
  top_at = get_or-map (λ (x : Exponent). x.num) (pack_exps es) s nought ∙ ap (λ (x : Exponent). x.num) (padded 16 es s nought h)

  bottom_at : get_or (bottoms (pack_exps es)) s 1 ≡ (get_or es s nought).den
  unfolding pack_exps
  bottom_at = get_or-map (λ (x : Exponent). x.den) (pack_exps es) s nought ∙ ap (λ (x : Exponent). x.den) (padded 16 es s nought h)

-- ---- one row more
module _ (ks : List Facts) (k : Facts) where
  -- what holds of each of the rows before and of the new one holds of each
  each_more : (P : ℕ → Facts → Type 0) → ((r : ℕ) → r < length ks → P r (get_or ks r nobody)) → P (length ks) k → (r : ℕ) → r < length (ks ++ (k ∷ [])) → P r (get_or (ks ++ (k ∷ [])) r nobody)
  each_more P f p r h = go (ltb r (length ks)) refl
    where
      go : (t : Bool) → ltb r (length ks) ≡ t → P r (get_or (ks ++ (k ∷ [])) r nobody)
      go true e = let q : r < length ks = ltb-true r (length ks) e in subst (P r) (sym (get_or-append ks (k ∷ []) nobody r q)) (f r q)
      go false e =
          let q : length ks ≤ r = ltb-false r (length ks) e in
          let n : length ks ≡ r = omega (arith, length-append ks (k ∷ [])) in
          subst (P r) (sym (get_or_at ks k [] nobody r n)) (subst (λ m. P m k) n p)

  -- one array of values
  module _ {A : Type 0} (f : Facts → A) (l : List A) (d : A) (room : length ks < length l) where
    store_more : ((r : ℕ) → r < length ks → get_or l r d ≡ f (get_or ks r nobody)) → (r : ℕ) → r < length (ks ++ (k ∷ [])) → get_or (set l (length ks) (f k)) r d ≡ f (get_or (ks ++ (k ∷ [])) r nobody)
    store_more h =
        each_more (λ r x. get_or (set l (length ks) (f k)) r d ≡ f x)
        (λ r q. get_or-set_other l (length ks) r (f k) d (λ e. omega arith) ∙ h r q)
        (get_or-set_same l (length ks) (f k) d room)

  -- one array of sixteen values for each row
  module _ {A : Type 0} (f : Facts → ℕ → A) (l vs : List A) (d : A) (room : length ks * 16 + 16 ≤ length l) (sixteen : length vs ≡ 16) where
    run_more : ((r s : ℕ) → r < length ks → s < 16 → get_or l (r * 16 + s) d ≡ f (get_or ks r nobody) s) → ((s : ℕ) → s < 16 → get_or vs s d ≡ f k s)
        → (r : ℕ) → r < length (ks ++ (k ∷ [])) → (s : ℕ) → s < 16 → get_or (sets l (length ks * 16) vs) (r * 16 + s) d ≡ f (get_or (ks ++ (k ∷ [])) r nobody) s
    run_more h v =
        each_more (λ r x. (s : ℕ) → s < 16 → get_or (sets l (length ks * 16) vs) (r * 16 + s) d ≡ f x s)
        (λ r q s t. sets_before vs l (length ks * 16) (r * 16 + s) d (omega arith) ∙ h r s q t)
        (λ s t. sets_at vs l (length ks * 16) s d (omega arith) (omega arith) ∙ v s t)

  pub paged_more : (nums : List ℤ) (dens : List ℕ) (scales : List Float) (ranks : List ℕ) (based : List Bool)
      → Room nums dens scales ranks based → Paged ks nums dens scales ranks based → length ks < 128 → length k.exps ≤ 16
      → Paged (ks ++ (k ∷ [])) (sets nums (length ks * 16) (tops (pack_exps k.exps))) (sets dens (length ks * 16) (bottoms (pack_exps k.exps)))
      (set scales (length ks) k.scale) (set ranks (length ks) k.rank) (set based (length ks) k.base)
  unfolding exp_at scale_at
  paged_more nums dens scales ranks based (ln, ld, ls, lr, lb) p room few =
      let long-tops : length (tops (pack_exps k.exps)) ≡ 16 = length-map (pack_exps k.exps) _ ∙ long_exps k.exps few in
      let long-bottoms : length (bottoms (pack_exps k.exps)) ≡ 16 = length-map (pack_exps k.exps) _ ∙ long_exps k.exps few in
      record {
        short = each_more (λ r x. length x.exps ≤ 16) p.short few;
        filed = record {
          top = λ r s h t. run_more (λ x s. (get_or x.exps s nought).num) nums (tops (pack_exps k.exps)) (pos 0) (omega arith) long-tops p.filed.top (λ s t. top_at k.exps s t) r h s t;
          bottom = λ r s h t. run_more (λ x s. (get_or x.exps s nought).den) dens (bottoms (pack_exps k.exps)) 1 (omega arith) long-bottoms p.filed.bottom (λ s t. bottom_at k.exps s t) r h s t;
        };
        rest = record {
          top = λ i h. sets_behind (tops (pack_exps k.exps)) nums (length ks * 16) i (pos 0) (omega (arith, length-append ks (k ∷ []), long-tops)) ∙ p.rest.top i (omega (arith, length-append ks (k ∷ [])));
          bottom = λ i h. sets_behind (bottoms (pack_exps k.exps)) dens (length ks * 16) i 1 (omega (arith, length-append ks (k ∷ []), long-bottoms)) ∙ p.rest.bottom i (omega (arith, length-append ks (k ∷ [])));
        };
        sized = store_more (λ x. x.scale) scales one (omega arith) p.sized;
        ranked = store_more (λ x. x.rank) ranks 0 (omega arith) p.ranked;
        basic = store_more (λ x. x.base) based false (omega arith) p.basic;
      }

-- ---- no rows
pub paged_none : (nums : List ℤ) (dens : List ℕ) (scales : List Float) (ranks : List ℕ) (based : List Bool) → Blank 0 nums dens → Paged [] nums dens scales ranks based
paged_none nums dens scales ranks based b = record {
  short = λ r h. absurd (omega arith);
  filed = record { top = λ r s h t. absurd (omega arith); bottom = λ r s h t. absurd (omega arith) };
  rest = b;
  sized = λ r h. absurd (omega arith);
  ranked = λ r h. absurd (omega arith);
  basic = λ r h. absurd (omega arith);
}

-- ---- the ranks of the rows, read back
pub ranks_are : (ks : List Facts) (ranks : List ℕ) → length ks ≤ length ranks → Ranked ks ranks → take (length ks) ranks ≡ map (λ k. k.rank) ks
ranks_are ks ranks room h =
    let n : length (take (length ks) ranks) ≡ length ks = length-take-le (length ks) ranks room in
    ext_get_or 0 (take (length ks) ranks) (map (λ k. k.rank) ks) (n ∙ sym (length-map ks (λ k. k.rank)))
    (λ r q. let i : r < length ks = omega arith in get_or-take (length ks) ranks r 0 i ∙ h r i ∙ sym (get_or-map (λ (k : Facts). k.rank) ks r nobody))
