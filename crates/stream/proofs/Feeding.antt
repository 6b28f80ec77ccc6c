-- `Feeds` allows one result only: as many requests are answered as are whole and have room, no fewer.
use mathlib.Core.Path.{◌≡◌, sym, ap, ◌∙◌, subst}
use mathlib.Core.List.{List}
use Prim.Native.Nat.{ℕ, ◌<◌}
use native.Mathlib.Omega.{arith}
use Rattle.stream.specs.Stream.{Feeds, IsWhole, next}
use Rattle.stream.specs.declared.Fed.{Fed}

-- where one more was answered, the next one was whole and had room
no_fewer : (s room : List ℕ) (r r' : Fed) (end end' : List ℕ) → Feeds s room r end → Feeds s room r' end' → r.count < r'.count → ⊥
no_fewer s room r r' end end' f f' h =
    let z : IsWhole r.next = subst IsWhole (sym (f.lies ∙ ap (next s) f.used)) (f'.each r.count h) in
    omega (arith, f.full z, f'.roomy r.count h)

pub feeds_one : (s room : List ℕ) (r r' : Fed) (end end' : List ℕ) → Feeds s room r end → Feeds s room r' end' → (r ≡ r') × (end ≡ end')
feeds_one s room r r' end end' f f' =
    let fewer = no_fewer s room r r' end end' f f' in
    let more = no_fewer s room r' r end' end f' f in
    let c : r.count ≡ r'.count = omega arith in
    let u : r.used ≡ r'.used = cc in
    let w : r.wrote ≡ r'.wrote = cc in
    let n : r.next ≡ r'.next = cc in
    (λ i. record { count = c i; used = u i; wrote = w i; next = n i }, (cc))
