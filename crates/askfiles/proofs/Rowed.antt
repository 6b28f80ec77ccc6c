-- Rows behind two numbers: how many bytes they take, and their parts stored one after another.
use mathlib.Core.Path.{◌≡◌, refl, sym, ap, subst, ◌∙◌}
use mathlib.Core.List.{List, [], ◌∷◌, ◌++◌}
use Prim.Native.Nat.{ℕ, ◌+◌, ◌*◌, ◌≤◌, ◌<◌}
use native.Mathlib.Omega.{arith}
use lib.ListN.{length, take, length-append}
use lib.Seq.{sets}
use Rattle.exponents.specs.Words.{All}
use Rattle.exponents.specs.Outcome.{Refusal, ROOM, Outcome, Ok, Err}
use Rattle.exponents.proofs.Numbers.{From, apply_answers}
use Rattle.units.specs.declared.Row.{Row}
use Rattle.units.specs.declared.Rows.{Rows}
use Rattle.lent.specs.Lent.{lent_rows_lem}
use Rattle.wire.specs.Bytes.{bytes_of, run_bytes}
use Rattle.wire.specs.Records.{row_bytes}
use Rattle.wire.proofs.Digits.{length-bytes_of}
use Rattle.wire.proofs.Stored.{length-row_bytes, sets_number}
use Rattle.replies.specs.Held.{Replied}
use Rattle.replies.proofs.Sent.{refusal_sent, map-sent, no_room, written}
use Rattle.tablefiles.specs.Calls as files
use Rattle.tablefiles.specs.Held.{read_of, salvaged_of}
use Rattle.tablefiles.specs.declared.Salvaged.{Salvaged}
use Rattle.tablefiles.proofs.Admissions.{rows_back, rows-length}
use Rattle.tablefiles.proofs.Sized.{read_few, read_full, kept_full}
use Rattle.askfiles.specs.Calls.{rows_reply, read_table, salvage_table}

abbrev pub Full : List Row → Type 0
Full rs = All (λ r. length r.def ≡ 8) rs

run_sized : (rs : List Row) → Full rs → length (run_bytes row_bytes rs) ≡ length rs * 176
unfolding run_bytes
run_sized [] h = refl
run_sized (r ∷ rs) h = length-append (row_bytes r) (run_bytes row_bytes rs) ∙ omega (arith, length-row_bytes r h.0, run_sized rs h.1)

pub rows_sized : (other : ℕ) (rs : List Row) → Full rs → length (rows_reply other rs) ≡ 8 + length rs * 176
unfolding rows_reply
rows_sized other rs h = simp (length-append, length-bytes_of) (omega (arith, run_sized rs h))

module _ (rows : Rows) (n other : ℕ) (few : n ≤ 128) (rs : List Row) (e : rows ≡ lent_rows_lem rs) (m : n ≡ length rs) (full : Full rs) (room : List ℕ) where
  size : length (rows_reply other rs) ≡ 8 + n * 176
  size = rows_sized other rs full ∙ ap (λ k. 8 + k * 176) (sym m)

  places : take n rows.at ≡ rs
  places = ap (λ (x : Rows). take n x.at) e ∙ ap (λ k. take k (lent_rows_lem rs).at) (m ∙ sym (rows-length rs)) ∙ rows_back rs (omega arith)

  pub rows_refused : length room < 8 + n * 176 → Replied room (Ok (rows_reply other rs)) (Err ROOM) room
  rows_refused h = no_room room (Ok (rows_reply other rs)) (Err ROOM) (rows_reply other rs) refl (8 + n * 176) size h refl

  stored : (l₁ l₂ l₃ : List ℕ) → l₁ ≡ sets room 0 (bytes_of 4 n) → l₂ ≡ sets l₁ 4 (bytes_of 4 other) → l₃ ≡ sets l₂ 8 (run_bytes row_bytes (take n rows.at)) → l₃ ≡ sets room 0 (rows_reply other rs)
  unfolding rows_reply
  stored l₁ l₂ l₃ a b c =
      c
      ∙ ap (λ l. sets l₂ 8 (run_bytes row_bytes l)) places
      ∙ ap (λ l. sets l 8 (run_bytes row_bytes rs)) b
      ∙ sym (sets_number 4 other (run_bytes row_bytes rs) l₁ 4)
      ∙ ap (λ l. sets l 4 (bytes_of 4 other ++ run_bytes row_bytes rs)) a
      ∙ sym (sets_number 4 n (bytes_of 4 other ++ run_bytes row_bytes rs) room 0)
      ∙ ap (λ k. sets room 0 (bytes_of 4 k ++ (bytes_of 4 other ++ run_bytes row_bytes rs))) m

  pub rows_written : (l₁ l₂ l₃ : List ℕ) → l₁ ≡ sets room 0 (bytes_of 4 n) → l₂ ≡ sets l₁ 4 (bytes_of 4 other) → l₃ ≡ sets l₂ 8 (run_bytes row_bytes (take n rows.at))
      → 8 + n * 176 ≤ length room → Replied room (Ok (rows_reply other rs)) (Ok (8 + n * 176)) l₃
  rows_written l₁ l₂ l₃ a b c h = written room (Ok (rows_reply other rs)) (Ok (8 + n * 176)) (rows_reply other rs) refl (8 + n * 176) size l₃ h (stored l₁ l₂ l₃ a b c) refl

-- ---- rows that were read

module _ (places : ℕ) (f : List ℕ) (room : List ℕ) where
  pub read_refused : (w : Refusal) → Err w ≡ read_of (files.read_table places f) → (r : Outcome ℕ) → r ≡ Err w → Replied room (read_table f places) r room
  unfolding read_table
  read_refused w e r s = refusal_sent lent_rows_lem (rows_reply 0) room (files.read_table places f) r w e s

  module _ (rows : Rows) (e : Ok rows ≡ read_of (files.read_table places f)) where
    found : From lent_rows_lem (files.read_table places f) rows
    found = apply_answers lent_rows_lem (files.read_table places f) rows (sym e)

    counted : rows.len ≡ length found.answer
    counted = ap (λ (x : Rows). x.len) (sym found.made) ∙ rows-length found.answer

    pub read_short : rows.len ≤ 128
    read_short = omega (arith, counted, (read_few places f found.answer found.is).0)

    pub read_sent : (r : Outcome ℕ) (end : List ℕ) → ((rs : List Row) → rows ≡ lent_rows_lem rs → rows.len ≡ length rs → Full rs → Replied room (Ok (rows_reply 0 rs)) r end) → Replied room (read_table f places) r end
    unfolding read_table
    read_sent r end told = map-sent (rows_reply 0) room (files.read_table places f) r found.answer end found.is (told found.answer (sym found.made) counted (read_full places f found.answer found.is))

-- ---- rows that were salvaged
pub salvage-sent : (places : ℕ) (f : List ℕ) (d : Salvaged) → d ≡ salvaged_of (files.salvage places f) → (room : List ℕ) (r : Outcome ℕ) (end : List ℕ)
    → ((rs : List Row) → d.rows ≡ lent_rows_lem rs → d.told.rows ≡ length rs → Full rs → Replied room (Ok (rows_reply d.told.byte rs)) r end) → Replied room (salvage_table f places) r end
unfolding salvage_table
salvage-sent places f d e room r end told =
    subst (λ b. Replied room (Ok (rows_reply b (files.salvage places f).0)) r end) (ap (λ (x : Salvaged). x.told.byte) e)
    (told (files.salvage places f).0 (ap (λ (x : Salvaged). x.rows) e) (ap (λ (x : Salvaged). x.told.rows) e) (kept_full places f))
