-- How code hands over what it has sent.
use Rattle.std.specs.Prelude.{◌≡◌, List, ℕ, length}
use Rattle.exponents.specs.Outcome.{Outcome, Ok, Err, apply}
use Rattle.replies.specs.Replies.{sent, left}

-- the answer's length, or the refusal
abbrev pub reply_of : Outcome (List ℕ) → Outcome ℕ
reply_of o = apply length o

-- how many bytes a reply says: none after a refusal
abbrev pub reply_len : Outcome ℕ → ℕ
reply_len (Ok n) = n
reply_len (Err r) = 0

-- the call whose answer is o replies r into the room and leaves end there
abbrev pub Replied : List ℕ → Outcome (List ℕ) → Outcome ℕ → List ℕ → Type 0
Replied room o r end = (r ≡ reply_of (sent room o)) × (end ≡ left room (sent room o))
