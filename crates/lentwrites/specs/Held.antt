-- Records laid over the first places of a lent slice (02, order 1: "a refused read writes no row", "salvage writes only the rows it keeps").
use Rattle.std.specs.Prelude.{Bool, ◌&&◌, List, ◌++◌, ℕ, leb, length, take, drop}
use Rattle.exponents.specs.Words.{pick}

-- n of a record's m places fit a slice of l places
unfoldable pub fits : ℕ → ℕ → ℕ → Bool
fits m n l = leb n l && leb n m

-- the first n of xs over the first n places of ys, the others kept; nothing where n doesn't fit
unfoldable pub laid : {A : Type 0} → ℕ → ℕ → List A → List A → List A
laid m n xs ys = pick (fits m n (length ys)) (take n xs ++ drop n ys) ys
