-- An outcome's bytes sent into lent room: a refusal passed on, ROOM, or an answer written; and what holds of every reply.
use mathlib.Core.Path.{◌≡◌, refl, sym, ap, ◌∙◌, subst}
use mathlib.Core.List.{List}
use Prim.Native.Nat.{ℕ, ◌≤◌, ◌<◌}
use native.Mathlib.Nat.{zero-add}
use native.Mathlib.Omega.{arith}
use borrow.Author.Tests.{lt-ltb, le-ltb, ltb-false}
use lib.ListN.{length, drop, length-append, length-drop}
use lib.Seq.{sets, sets-eq}
use Rattle.exponents.specs.Outcome.{Refusal, ROOM, Outcome, Ok, Err, unless, apply, bind}
use Rattle.exponents.proofs.Holds.{Holds, moot, held, holds_any, holds_bind, holds_unless, bind_refused}
use Rattle.exponents.proofs.Numbers.{clash, apply_answers, apply_refuses}
use Rattle.replies.specs.Replies.{sent, left}
use Rattle.replies.specs.Held.{reply_of, reply_len, Replied}

-- ---- for any call

-- an answer of so many bytes, with too little room and with enough
pub too_short : (room bs : List ℕ) (n : ℕ) → length bs ≡ n → length room < n → sent room (Ok bs) ≡ Err ROOM
unfolding sent unless bind
too_short room bs n e h = let k : length room < length bs = omega arith in rw (lt-ltb (length room) (length bs) k)

pub fits_in : (room bs : List ℕ) (n : ℕ) → length bs ≡ n → n ≤ length room → sent room (Ok bs) ≡ Ok bs
unfolding sent unless bind
fits_in room bs n e h = let k : length bs ≤ length room = omega arith in rw (le-ltb (length room) (length bs) k)

pub left_by : (room end bs : List ℕ) (n : ℕ) → length bs ≡ n → n ≤ length room → end ≡ sets room 0 bs → end ≡ left room (sent room (Ok bs))
left_by room end bs n e h g =
    let k : length bs ≤ length room = omega arith in
    g ∙ sets-eq bs room 0 (simp zero-add k) ∙ (simp zero-add) ∙ ap (left room) (sym (fits_in room bs n e h))

module _ (room : List ℕ) (o : Outcome (List ℕ)) (r : Outcome ℕ) where
  pub passed_on : (w : Refusal) → o ≡ Err w → r ≡ Err w → Replied room o r room
  unfolding sent
  passed_on w e s = let p : sent room o ≡ Err w = bind_refused _ e in (s ∙ ap reply_of (sym p), ap (left room) (sym p))

  module _ (bs : List ℕ) (e : o ≡ Ok bs) (size : ℕ) (sized : length bs ≡ size) where
    pub no_room : length room < size → r ≡ Err ROOM → Replied room o r room
    no_room h s = let p = ap (sent room) e ∙ too_short room bs size sized h in (s ∙ ap reply_of (sym p), ap (left room) (sym p))

    pub written : (end : List ℕ) → size ≤ length room → end ≡ sets room 0 bs → r ≡ Ok size → Replied room o r end
    written end h g s =
        (s ∙ ap Ok (sym sized) ∙ ap reply_of (sym (ap (sent room) e ∙ fits_in room bs size sized h)), left_by room end bs size sized h g ∙ ap (λ o. left room (sent room o)) (sym e))

module _ {A : Type 0} (bytes : A → List ℕ) (room : List ℕ) (o : Outcome A) (r : Outcome ℕ) where
  pub map_passed : (w : Refusal) → o ≡ Err w → r ≡ Err w → Replied room (apply bytes o) r room
  map_passed w e s = passed_on room (apply bytes o) r w (ap (apply bytes) e) s

  pub map-sent : (a : A) (end : List ℕ) → o ≡ Ok a → Replied room (Ok (bytes a)) r end → Replied room (apply bytes o) r end
  map-sent a end e h = subst (λ p. Replied room (apply bytes p) r end) (sym e) h

-- ---- an answer that code holds in a form of its own
module _ {A S : Type 0} (hold : A → S) (bytes : A → List ℕ) (room : List ℕ) (o : Outcome A) (r : Outcome ℕ) where
  pub refusal_sent : (w : Refusal) → Err w ≡ apply hold o → r ≡ Err w → Replied room (apply bytes o) r room
  refusal_sent w e s = map_passed bytes room o r w (apply_refuses hold o w (sym e)) s

  module _ (x : S) (e : Ok x ≡ apply hold o) (size : ℕ) (sized : (a : A) → x ≡ hold a → length (bytes a) ≡ size) where
    pub room_short : length room < size → r ≡ Err ROOM → Replied room (apply bytes o) r room
    room_short k s =
        let a = apply_answers hold o x (sym e) in
        no_room room (apply bytes o) r (bytes a.answer) (ap (apply bytes) a.is) size (sized a.answer (sym a.made)) k s

    pub answer_sent : (end : List ℕ) → size ≤ length room → ((a : A) → x ≡ hold a → end ≡ sets room 0 (bytes a)) → r ≡ Ok size → Replied room (apply bytes o) r end
    answer_sent end k g s =
        let a = apply_answers hold o x (sym e) in
        written room (apply bytes o) r (bytes a.answer) (ap (apply bytes) a.is) size (sized a.answer (sym a.made)) end k (g a.answer (sym a.made)) s

-- ---- of every reply

module _ (room : List ℕ) (o : Outcome (List ℕ)) where
  fits : Holds (λ bs. length bs ≤ length room) (sent room o)
  unfolding sent
  fits = holds_bind _ (holds_any o) λ bs _. holds_unless _ ROOM λ h. held (ltb-false (length room) (length bs) h)

  -- an answer's length is at most the room's
  pub reply_fits : (r : Outcome ℕ) → r ≡ reply_of (sent room o) → reply_len r ≤ length room
  reply_fits r e = go (sent room o) fits e
    where
      go : (p : Outcome (List ℕ)) → Holds (λ bs. length bs ≤ length room) p → r ≡ reply_of p → reply_len r ≤ length room
      go (Ok bs) (held h) e = rw e h
      go (Err w) moot e = rw e (omega arith)

  -- the room's length is kept
  pub length-left : length (left room (sent room o)) ≡ length room
  length-left = go (sent room o) fits
    where
      go : (p : Outcome (List ℕ)) → Holds (λ bs. length bs ≤ length room) p → length (left room p) ≡ length room
      go (Ok bs) (held h) = omega (arith, length-append bs (drop (length bs) room), length-drop (length bs) room)
      go (Err w) moot = refl

  -- a refusal writes nothing
  pub refused_left : (w : Refusal) → Err w ≡ reply_of (sent room o) → left room (sent room o) ≡ room
  refused_left w e = go (sent room o) e
    where
      go : (p : Outcome (List ℕ)) → Err w ≡ reply_of p → left room p ≡ room
      go (Ok bs) e = absurd (clash (sym e))
      go (Err v) e = refl
