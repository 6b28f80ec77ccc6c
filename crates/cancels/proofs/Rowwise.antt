-- A row that cancels wholly isn't read, whatever its factor is, on tables as they are given (02, order 3): tables with other factors in some rows are known alike but for the scales of those rows and of the rows defined by them.
use mathlib.Core.Path.{◌≡◌, refl, sym, ap, ap₂, ◌∙◌, subst}
use mathlib.Core.Bool.{true≢false, false≢true}
use mathlib.Core.List.{List, [], ◌∷◌, ◌++◌, map, map-append}
use Prim.Native.Nat.{ℕ, zero, suc, ◌+◌, ◌<◌}
use native.Mathlib.Omega.{arith}
use lib.Ieee.{Float, binary64, mul}
use lib.ListN.{length, length-append}
use borrow.Author.Tests.{ltb-true, not-false}
use Rattle.exponents.specs.Words.{All}
use Rattle.exponents.specs.Outcome.{Ok, apply}
use Rattle.exponents.proofs.Holds.{one_answer, take_out}
use Rattle.exponents.proofs.Each.{all_imp, all_by, all_both}
use Rattle.floats.specs.Power.{one}
use Rattle.units.specs.declared.Factor.{Factor}
use Rattle.units.specs.declared.Factors.{Factors}
use Rattle.units.specs.declared.Kind.{Kind}
use Rattle.units.specs.declared.Kind.TheVariants.{Base, Derived}
use Rattle.units.specs.declared.Quantity.{Quantity}
use Rattle.units.specs.declared.Row.{Row}
use Rattle.units.specs.declared.Rows.{Rows}
use Rattle.units.specs.Lists.{no_factor, unknown, both}
use Rattle.units.specs.Prefixes.{factor_of}
use Rattle.keys.specs.Key.{key}
use Rattle.tables.specs.declared.Slot.{Slot}
use Rattle.tables.specs.Lists.{base}
use Rattle.tables.specs.Scale.{doubles, scale, size_by}
use Rattle.tables.specs.Rows.{Facts, scale_at, self_exp, def_of, is_base, row_exps, row_scale, row_facts, slotted, slots_from, slots, admitted, admit_from, rows_of, table}
use Rattle.tables.specs.Order.{order_in}
use Rattle.tables.proofs.Filled.{Known, known, admit_on_lem, lower, admit-rows}
use Rattle.resolution.proofs.Keyed.{admits}
use Rattle.canonical.proofs.Keeping.{each_faultless}
use Rattle.quantities.specs.Calls.{convert_merged}
use Rattle.cancels.proofs.Unread.{OnReduced, on_reduced_imp, scale_agrees, bare, bare_length, bare_bases, unread}

-- scales in two lists as long, with one more row behind each
scale_behind : (l l' : List Facts) (k k' : Facts) (i : ℕ) → length l ≡ length l' → scale_at l i ≡ scale_at l' i → (i ≡ length l → k.scale ≡ k'.scale) → scale_at (l ++ (k ∷ [])) i ≡ scale_at (l' ++ (k' ∷ [])) i
unfolding scale_at
scale_behind [] [] k k' zero n e h = h refl
scale_behind [] [] k k' (suc i) n e h = refl
scale_behind [] (x' ∷ l') k k' i n e h = absurd (omega arith)
scale_behind (x ∷ l) [] k k' i n e h = absurd (omega arith)
scale_behind (x ∷ l) (x' ∷ l') k k' zero n e h = e
scale_behind (x ∷ l) (x' ∷ l') k k' (suc i) n e h = scale_behind l l' k k' i (omega arith) e (λ p. h (ap suc p))

-- S holds of the places of rows whose scales are to stay
module _ (S : ℕ → Type 0) where
  -- row i of two tables: one rank and definition, both base or both derived; where S holds of i one factor too, and S holds of the rows that it is defined by
  pub record Beside (i : ℕ) (r r' : Row) : Type 0 where
    pub rank : r.rank ≡ r'.rank
    pub def : def_of r ≡ def_of r'
    pub base : is_base r.kind ≡ is_base r'.kind
    pub stays : S i → (r.kind ≡ r'.kind) × All (λ f. f.row < i → S f.row) (def_of r)

  -- row for row, from row i on
  abbrev pub Rowwise : ℕ → List Row → List Row → Type 0
  Rowwise i [] [] = Unit {0}
  Rowwise i [] (r' ∷ rs') = ⊥
  Rowwise i (r ∷ rs) [] = ⊥
  Rowwise i (r ∷ rs) (r' ∷ rs') = Beside i r r' × Rowwise (suc i) rs rs'

  -- ---- the base rows are the same
  slotted-same : (k k' : Kind) (s : Slot) (l : List Slot) → is_base k ≡ is_base k' → slotted k s l ≡ slotted k' s l
  unfolding is_base slotted
  slotted-same Base Base s l e = refl
  slotted-same Base (Derived f) s l e = absurd (true≢false e)
  slotted-same (Derived f) Base s l e = absurd (false≢true e)
  slotted-same (Derived f) (Derived f') s l e = refl

  slots_same : (i : ℕ) (l : List Slot) (rs rs' : List Row) → Rowwise i rs rs' → slots_from i l rs ≡ slots_from i l rs'
  unfolding slots_from
  slots_same i l [] [] h = refl
  slots_same i l [] (r' ∷ rs') h = absurd h
  slots_same i l (r ∷ rs) [] h = absurd h
  slots_same i l (r ∷ rs) (r' ∷ rs') h =
      ap (λ m. slots_from (suc i) m rs)
      (slotted-same r.kind r'.kind _ l h.0.base ∙ ap (λ n. slotted r'.kind (record { row = i; rank = n }) l) h.0.rank)
      ∙ slots_same (suc i) _ rs rs' h.1

  -- ---- what is known of the rows before: the same but for scales, and these too where S holds
  pub record Close (js js' : List Facts) : Type 0 where
    pub bares : map bare js ≡ map bare js'
    pub scales : (i : ℕ) → S i → scale_at js i ≡ scale_at js' i

  -- one row more
  module _ (ss : List Slot) (js js' : List Facts) (c : Close js js') (r r' : Row) (b : Beside (length js) r r') where
    exps_same : (k k' : Kind) → is_base k ≡ is_base k' → row_exps k ss js r ≡ row_exps k' ss js' r'
    unfolding is_base row_exps
    exps_same Base Base e = ap (λ n. Ok (map (self_exp n) ss)) (bare_length js js' c.bares)
    exps_same Base (Derived f) e = absurd (true≢false e)
    exps_same (Derived f) Base e = absurd (false≢true e)
    exps_same (Derived f) (Derived f') e = ap₂ base (bare_bases js js' c.bares (length ss)) b.def

    scale_same : (k : Kind) → All (λ f. scale_at js f.row ≡ scale_at js' f.row) (def_of r) → row_scale k js r ≡ row_scale k js' r'
    unfolding row_scale
    scale_same Base h = refl
    scale_same (Derived f) h =
        ap (apply (mul binary64 f))
        (scale_agrees doubles (size_by (scale_at js)) (size_by (scale_at js')) one (def_of r) (all_imp (def_of r) (λ g e. ap (mul binary64 (factor_of g.prefix)) e) h)
        ∙ ap (scale doubles (size_by (scale_at js'))) b.def)

    module _ (k k' : Facts) (p : Known ss js r k) (p' : Known ss js' r' k') where
      bare_same : bare k ≡ bare k'
      bare_same =
          let e = one_answer (sym p.exps ∙ exps_same r.kind r'.kind b.base ∙ p'.exps) in
          let n = one_answer (sym p.key ∙ ap key e ∙ p'.key) in
          λ i. record { exps = e i; key = n i; scale = one; rank = (p.rank ∙ b.rank ∙ sym p'.rank) i; base = (p.base ∙ b.base ∙ sym p'.base) i }

      -- a definition names lower rows only
      scale_stays : S (length js) → k.scale ≡ k'.scale
      scale_stays s =
          let below = each_faultless (unknown (length js)) (def_of r) (lower js r p.table) in
          let agree = all_imp (def_of r) (λ f h. c.scales f.row (h.0 (ltb-true f.row (length js) (not-false _ h.1)))) (all_both _ _ (def_of r) (b.stays s).1 below) in
          one_answer (sym p.scale ∙ scale_same r.kind agree ∙ ap (λ q. row_scale q js' r') (b.stays s).0 ∙ p'.scale)

      close_on : Close (js ++ (k ∷ [])) (js' ++ (k' ∷ []))
      close_on = record {
        bares = map-append bare js (k ∷ []) ∙ ap₂ (λ l x. l ++ (x ∷ [])) c.bares bare_same ∙ sym (map-append bare js' (k' ∷ []));
        scales = λ i s. scale_behind js js' k k' i (bare_length js js' c.bares) (c.scales i s) (λ e. scale_stays (subst S e s));
      }

  close : (ss : List Slot) (js js' : List Facts) (rs rs' : List Row) (ks ks' : List Facts) → Close js js' → Rowwise (length js) rs rs' → admit_from ss js rs ≡ admitted ks → admit_from ss js' rs' ≡ admitted ks' → Close ks ks'
  unfolding admit_from
  close ss js js' [] [] ks ks' c h a a' =
      let p : js ≡ ks = cc in
      let p' : js' ≡ ks' = cc in
      subst (λ l. Close l ks') p (subst (λ l. Close js l) p' c)
  close ss js js' [] (r' ∷ rs') ks ks' c h a a' = absurd h
  close ss js js' (r ∷ rs) [] ks ks' c h a a' = absurd h
  close ss js js' (r ∷ rs) (r' ∷ rs') ks ks' c h a a' =
      admit_on_lem ss js (row_facts ss js r) _ ks a λ k p b.
      admit_on_lem ss js' (row_facts ss js' r') _ ks' a' λ k' p' b'.
      close ss (js ++ (k ∷ [])) (js' ++ (k' ∷ [])) rs rs' ks ks'
      (close_on ss js js' c r r' h.0 k k' (take_out (known ss js r) p) (take_out (known ss js' r') p'))
      (subst (λ n. Rowwise n rs rs') (omega (arith, length-append js (k ∷ []))) h.1) b b'

  -- ---- two admitted tables, row for row
  module _ (t t' : Rows) (ks ks' : List Facts) (k : table t ≡ Ok ks) (k' : table t' ≡ Ok ks') (h : Rowwise 0 (rows_of t) (rows_of t')) where
    -- are known alike but for scales, and these too where S holds
    pub rows-close : Close ks ks'
    rows-close =
        close (slots (rows_of t)) [] [] (rows_of t) (rows_of t') ks ks' (record { bares = refl; scales = λ i s. refl }) h
        (admit-rows t ks (admits t ks k))
        (subst (λ ss. admit_from ss [] (rows_of t') ≡ admitted ks') (sym (slots_same 0 [] (rows_of t) (rows_of t') h)) (admit-rows t' ks' (admits t' ks' k')))

    -- and convert alike where S holds of the rows that the reduced lists name
    pub rows_unread : (q : Quantity) (m : Factors) →
        ((fs gs : List Factor) → both (length ks) q.unit m ≡ Ok (fs, gs) → OnReduced (λ f. S f.row) (order_in ks) fs gs) →
        convert_merged t q m ≡ convert_merged t' q m
    rows_unread q m g = unread t t' ks ks' k k' rows-close.bares q m λ fs gs b. on_reduced_imp (order_in ks) fs gs (λ f s. rows-close.scales f.row s) (g fs gs b)

-- ---- one row has another factor, r and r' behind the rows a
module _ (a b : List Row) (r r' : Row) where
  -- a row other than that
  abbrev pub Other : ℕ → Type 0
  Other i = i ≡ length a → ⊥

  -- the two are derived, with one rank and one definition; no row behind them is defined by that row
  pub record FactorAlone : Type 0 where
    pub factor : Float
    pub factor' : Float
    pub kind : r.kind ≡ Derived factor
    pub kind' : r'.kind ≡ Derived factor'
    pub rank : r.rank ≡ r'.rank
    pub def : def_of r ≡ def_of r'
    pub unnamed : All (λ s. All (λ f. Other f.row) (def_of s)) b

  behind : (i : ℕ) (l : List Row) → All (λ s. All (λ f. Other f.row) (def_of s)) l → Rowwise Other i l l
  behind i [] h = tt
  behind i (s ∷ l) h = (record { rank = refl; def = refl; base = refl; stays = λ _. (refl, all_imp (def_of s) (λ f o _. o) h.0) }, behind (suc i) l h.1)

  one_row : FactorAlone → (i : ℕ) (l : List Row) → i + length l ≡ length a → Rowwise Other i (l ++ (r ∷ b)) (l ++ (r' ∷ b))
  unfolding is_base
  one_row w i [] e = (record { rank = w.rank; def = w.def; base = ap is_base w.kind ∙ sym (ap is_base w.kind'); stays = λ o. absurd (o (omega arith)) }, behind (suc i) b w.unnamed)
  one_row w i (s ∷ l) e = (record { rank = refl; def = refl; base = refl; stays = λ _. (refl, all_by _ no_factor (def_of s) λ j _ p q. omega arith) }, one_row w (suc i) l (omega arith))

  module _ (t t' : Rows) (ks ks' : List Facts) (k : table t ≡ Ok ks) (k' : table t' ≡ Ok ks') (rows : rows_of t ≡ a ++ (r ∷ b)) (rows' : rows_of t' ≡ a ++ (r' ∷ b)) (w : FactorAlone) where
    row_rowwise : Rowwise Other 0 (rows_of t) (rows_of t')
    row_rowwise = subst (λ l. Rowwise Other 0 l (rows_of t')) (sym rows) (subst (λ l. Rowwise Other 0 (a ++ (r ∷ b)) l) (sym rows') (one_row w 0 a (omega arith)))

    -- the tables are known alike but for that row's scale
    pub row_close : Close Other ks ks'
    row_close = rows-close Other t t' ks ks' k k' row_rowwise

    -- and convert alike where no factor of the reduced lists names that row, whatever its factor is
    pub row_unread : (q : Quantity) (m : Factors) →
        ((fs gs : List Factor) → both (length ks) q.unit m ≡ Ok (fs, gs) → OnReduced (λ f. Other f.row) (order_in ks) fs gs) →
        convert_merged t q m ≡ convert_merged t' q m
    row_unread = rows_unread Other t t' ks ks' k k' row_rowwise
