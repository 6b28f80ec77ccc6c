-- One answer written behind the others, one request more at the end of those answered, and the next one.
use mathlib.Core.Path.{◌≡◌, refl, sym, ap, ◌∙◌, subst}
use mathlib.Core.Logic.{⊎_elim}
use mathlib.Core.List.{List, ◌++◌, append-nil, append_assoc}
use Prim.Native.Nat.{ℕ, zero, suc, ◌+◌, ◌-◌, ◌≤◌, ◌<◌}
use native.Mathlib.Nat.{add-zero, eq-or-lt_of_le}
use native.Mathlib.Numerals.{add-one}
use native.Mathlib.Omega.{arith}
use lib.ListN.{length, take, drop, length-append, length-drop, length-replicate}
use lib.Seq.{sets, length-take-le, take_at, drop-append-add, drop-drop}
use Rattle.exponents.specs.Outcome.{Outcome, Ok, Err, refusal_of}
use Rattle.std.specs.Result.{result_unwrap_or}
use Rattle.wire.specs.Bytes.{le, bytes_of}
use Rattle.wire.proofs.Digits.{length-bytes_of}
use Rattle.replies.specs.Replies.{sent, left}
use Rattle.replies.specs.Held.{reply_of, reply_len}
use Rattle.stream.specs.Stream.{longest, lent, place, answered, answer_bytes, IsWhole, end_of, framed, behind, ends, answers, next, Feeds}
use Rattle.stream.specs.declared.Frame.{Frame}
use Rattle.stream.specs.declared.Frame.TheVariants.{Whole}
use Rattle.stream.proofs.Frames.{whole_here}
use Rattle.replies.proofs.Headed.{left-part, head_written}
use Rattle.replies.proofs.Sent.{reply_fits}

-- ---- one answer: its two numbers from place o on, and the room behind them

-- of a room only the length matters
sent_alike : (a b : List ℕ) (x : Outcome (List ℕ)) → length a ≡ length b → sent a x ≡ sent b x
unfolding sent
sent_alike a b x e = rw e

-- the two numbers and what is left behind them: the answer's bytes, and further bytes as they were
answer_laid : (out : List ℕ) (b : ℕ) (q : Outcome (List ℕ))
    → (bytes_of 4 (refusal_of (reply_of q)) ++ bytes_of 4 (reply_len (reply_of q))) ++ left (drop b out) q ≡ answer_bytes q ++ drop (b + reply_len (reply_of q)) out
unfolding answer_bytes
answer_laid out b (Ok bs) = simp (append_assoc, drop-drop)
answer_laid out b (Err r) = simp add-zero

laid : (out : List ℕ) (b k : ℕ) (q : Outcome (List ℕ)) (r : Outcome ℕ) → k ≤ length (drop b out) → r ≡ reply_of q → reply_len r ≤ k
    → (bytes_of 4 (refusal_of r) ++ bytes_of 4 (reply_len r)) ++ (left (take k (drop b out)) q ++ drop k (drop b out)) ≡ answer_bytes q ++ drop (b + reply_len r) out
laid out b k q r h e l = rw (left-part (drop b out) k q h (rw e at l), e) (answer_laid out b q)

length_answer : (q : Outcome (List ℕ)) → length (answer_bytes q) ≡ 8 + reply_len (reply_of q)
unfolding answer_bytes
length_answer (Ok bs) = simp (length-append, length-bytes_of) (omega arith)
length_answer (Err r) = simp (length-append, length-bytes_of)

pub lent_length : length lent ≡ longest
unfolding lent
lent_length = length-replicate {A = ℕ} longest 0

-- the bytes of out from o + 8 to the end of the place at o
abbrev size : ℕ → ℕ
size o = o + place - (o + 8)

abbrev room : List ℕ → ℕ → List ℕ
room out o = take (size o) (drop (o + 8) out)

len_is : (r : Outcome ℕ) → result_unwrap_or r 0 ≡ reply_len r
len_is (Ok n) = refl
len_is (Err r) = refl

-- the bytes that a reply counts are in its room
pub reply_within : (out : List ℕ) (x : Outcome (List ℕ)) (r : Outcome ℕ) → r ≡ reply_of (sent out x) → result_unwrap_or r 0 ≤ length out
reply_within out x r e = omega (arith, reply_fits out x r e, len_is r)

-- what x replies into that room: the refusal's number w, and so many bytes
module _ (out : List ℕ) (o : ℕ) (h : o + place ≤ length out) (x : Outcome (List ℕ)) (r : Outcome ℕ) (e : r ≡ reply_of (sent (room out o) x)) where
  here : size o ≤ length (drop (o + 8) out)
  here = omega (arith, length-drop (o + 8) out)

  room_length : length (room out o) ≡ longest
  room_length = length-take-le (size o) (drop (o + 8) out) here ∙ omega arith

  sent-same : sent (room out o) x ≡ sent lent x
  sent-same = sent_alike (room out o) lent x (room_length ∙ sym lent_length)

  short : reply_len r ≤ longest
  short = omega (arith, reply_fits (room out o) x r e, room_length)

  module _ (len : ℕ) (l : len ≡ result_unwrap_or r 0) where
    pub reply_short : len ≤ longest
    reply_short = omega (arith, short, l, len_is r)

    pub one_end : o + 8 + len ≡ o + length (answer_bytes (sent lent x))
    one_end = omega (arith, l, len_is r, length_answer (sent lent x), ap reply_len e, ap (λ q. reply_len (reply_of q)) sent-same)

    pub one_written : (w : ℕ) → w ≡ refusal_of r → (end l1 l2 : List ℕ) → end ≡ left (room out o) (sent (room out o) x)
        → l1 ≡ sets (take (o + 8) out ++ (end ++ drop (size o) (drop (o + 8) out))) o (bytes_of 4 w)
        → l2 ≡ sets l1 (o + 4) (bytes_of 4 len)
        → l2 ≡ take o out ++ (answer_bytes (sent lent x) ++ drop (o + 8 + len) out)
    one_written w f end l1 l2 a b c =
        let n : len ≡ reply_len r = l ∙ len_is r in
        c
        ∙ ap (λ k. sets k (o + 4) (bytes_of 4 len)) b
        ∙ head_written out (end ++ drop (size o) (drop (o + 8) out)) o w len (omega arith)
        ∙ ap (λ z. take o out ++ ((bytes_of 4 w ++ bytes_of 4 len) ++ (z ++ drop (size o) (drop (o + 8) out)))) a
        ∙ ap (λ z. take o out ++ z) (rw (f, n) (laid out (o + 8) (size o) (sent (room out o) x) r here e (omega (arith, short))))
        ∙ ap (λ q. take o out ++ (answer_bytes q ++ drop (o + 8 + len) out)) sent-same

-- ---- one request more, at the end

pub ends_snoc : (n : ℕ) (s : List ℕ) (i : ℕ) → ends (suc n) s i ≡ end_of (framed (le 4 s (ends n s i)) s (ends n s i + 4))
unfolding ends
ends_snoc zero s i = refl
ends_snoc (suc n) s i = ends_snoc n s (end_of (framed (le 4 s i) s (i + 4)))

pub answers_snoc : (n : ℕ) (s : List ℕ) (i : ℕ) → answers (suc n) s i ≡ answers n s i ++ answer_bytes (answered (le 4 s (ends n s i)) (behind s (ends n s i)))
unfolding answers ends
answers_snoc zero s i = append-nil _
answers_snoc (suc n) s i =
    rw append_assoc (ap (λ l. answer_bytes (answered (le 4 s i) (behind s i)) ++ l) (answers_snoc n s (end_of (framed (le 4 s i) s (i + 4)))))

-- b written behind a
written_behind : (a b out₀ out out₁ : List ℕ) (o r : ℕ) → o ≡ length a → out ≡ a ++ drop o out₀ → r ≡ o + length b → out₁ ≡ take o out ++ (b ++ drop r out)
    → out₁ ≡ (a ++ b) ++ drop r out₀
written_behind a b out₀ out out₁ o r p q x y =
    let u : take o out ≡ a = ap (take o) q ∙ take_at a (drop o out₀) o (sym p) in
    let v : drop r out ≡ drop r out₀ = rw (q, x, p, drop-append-add, drop-drop) in
    y ∙ rw (u, v, append_assoc)

-- n requests of s are answered and end at place e; the room, out₀ at first, is out, and their answers end at place o there
pub record Answered (s out₀ : List ℕ) (n e o : ℕ) (out : List ℕ) : Type 0 where
  pub ended : e ≡ ends n s 0
  pub wrote : o ≡ length (answers n s 0)
  pub held : out ≡ answers n s 0 ++ drop o out₀
  pub whole : (k : ℕ) → k < n → IsWhole (next s (ends k s 0))
  pub roomy : (k : ℕ) → k < n → length (answers k s 0) + place ≤ length out₀

pub none_answered : (s out : List ℕ) → Answered s out 0 0 0 out
unfolding ends answers
none_answered s out = record { ended = refl; wrote = refl; held = refl; whole = λ k h. absurd (omega arith); roomy = λ k h. absurd (omega arith) }

module _ (s out₀ : List ℕ) (n e o : ℕ) (out : List ℕ) (so : Answered s out₀ n e o out) (code : ℕ) (at : code ≡ le 4 s e) (to : ℕ) (lies : Whole to ≡ next s e) where
  to_is : to ≡ end_of (framed (le 4 s e) s (e + 4))
  to_is = ap end_of (whole_here s e to lies).1

  bytes_are : answer_bytes (answered code (take (to - (e + 4)) (drop (e + 4) s))) ≡ answer_bytes (answered (le 4 s e) (behind s e))
  unfolding behind
  bytes_are = rw (to_is, at)

  pub one_answered : (r : ℕ) (out₁ : List ℕ) → r ≡ o + length (answer_bytes (answered code (take (to - (e + 4)) (drop (e + 4) s))))
      → out₁ ≡ take o out ++ (answer_bytes (answered code (take (to - (e + 4)) (drop (e + 4) s))) ++ drop r out)
      → o + place ≤ length out₀ → Answered s out₀ (n + 1) to r out₁
  one_answered r out₁ p q w =
      let b : r ≡ o + length (answer_bytes (answered (le 4 s e) (behind s e))) = rw bytes_are at p in
      let a : answers (n + 1) s 0 ≡ answers n s 0 ++ answer_bytes (answered (le 4 s e) (behind s e)) = rw (add-one, answers_snoc, ← so.ended) in
      record {
        ended = rw (add-one, ends_snoc, ← so.ended) to_is;
        wrote = rw (a, length-append, ← so.wrote) b;
        held = rw a (written_behind (answers n s 0) _ out₀ out out₁ o r so.wrote so.held b (rw bytes_are at q));
        whole = λ k h. ⊎_elim (λ (j : k ≡ n). rw (j, ← so.ended) (subst IsWhole lies tt)) (λ (j : k < n). so.whole k j) (eq-or-lt_of_le (omega arith));
        roomy = λ k h. ⊎_elim (λ (j : k ≡ n). rw (j, ← so.wrote) w) (λ (j : k < n). so.roomy k j) (eq-or-lt_of_le (omega arith));
      }

-- ---- all that are answered
pub all_answered : (s room : List ℕ) (n e o : ℕ) (out : List ℕ) → Answered s room n e o out → e ≤ length s → o ≤ length room
    → (f : Frame) → f ≡ next s e → (IsWhole f → length room < o + place) → Feeds s room (record { count = n; used = e; wrote = o; next = f }) out
all_answered s room n e o out so h w f lies full = record {
  each = so.whole;
  roomy = so.roomy;
  used = so.ended;
  inside = h;
  wrote = so.wrote;
  fits = w;
  held = so.held;
  lies = lies;
  full = full;
}
