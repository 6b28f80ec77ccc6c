-- Values that are all converted, and how code walks to a knot's run. No rule stands here.
use Rattle.std.specs.Prelude.{List, [], ◌∷◌, map, ℕ, zero, suc, Float}
use Rattle.std.specs.Float.{nan}
use Rattle.exponents.specs.Words.{pick}
use Rattle.exponents.specs.Outcome.{Outcome, Ok}
use Rattle.knotruns.specs.Runs.{joins}

-- values all converted
abbrev pub all : List Float → List (Outcome Float)
all xs = map Ok xs

-- a walk to a place: the first of the run at hand after n of l, and of the run that holds the knot at place i
unfoldable pub reached : Float → Float → List Float → ℕ → Float
reached t f l zero = f
reached t f [] (suc n) = f
reached t f (x ∷ l) (suc n) = reached t (pick (joins t f x) f x) l n

unfoldable pub standing : Float → List Float → ℕ → Float
standing t [] i = nan
standing t (x ∷ l) i = reached t x l i
