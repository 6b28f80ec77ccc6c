-- What an exported call answers (the byte form, "An exported function"): the refusal's number, 0 for answered, and the answer's bytes in the lent room.
use Rattle.std.specs.Prelude.{◌≡◌, List, ℕ, ◌-◌, ◌/◌, length}
use Rattle.exponents.specs.Outcome.{Outcome, refusal_of}
use Rattle.replies.specs.Replies.{sent, left}

-- the call whose answer is o returns r and leaves end in the room
abbrev pub Exported : List ℕ → Outcome (List ℕ) → ℕ → List ℕ → Type 0
Exported room o r end = (r ≡ refusal_of (sent room o)) × (end ≡ left room (sent room o))

-- what a room lends for a file, and for how many rows: what it has behind two numbers of four bytes (the byte form of 02's order 1)
abbrev pub file_room : List ℕ → ℕ
file_room room = length room - 8

abbrev pub row_places : List ℕ → ℕ
row_places room = file_room room / 176
