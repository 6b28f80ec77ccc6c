-- A search to the end of a list: t tells of the elements before.
use Rattle.std.proofs.Common.{◌≡◌, refl, Bool, true, false, ◌||◌}

pub told_more : (t u v : Bool) → ((t || u) || v) ≡ (t || (u || v))
told_more true u v = refl
told_more false u v = refl

pub told_none : (t : Bool) → (t || false) ≡ t
told_none true = refl
told_none false = refl
