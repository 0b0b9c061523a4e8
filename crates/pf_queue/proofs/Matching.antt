-- Jobs and their places, in one order.
use Rattle.std.proofs.Common.{◌≡◌, ℕ, zero, suc, List, [], ◌∷◌, ◌++◌, length, map, Option, Some, refl, ap}
use Rattle.std.specs.Prelude.{slice_get}

-- the place of a job knows what is noted of the job
pub matched : {P J E : Type 0} (f : P → Option E) (noted : J → E) (ps : List P) (js : List J) (i : ℕ) (p : P) → map f ps ≡ map (λ j. Some (noted j)) js → slice_get ps i ≡ Some p
    → (j : J) × (f p ≡ Some (noted j)) × (slice_get js i ≡ Some j)
matched f noted [] js i p same at = absurd cc
matched f noted (x ∷ ps) [] i p same at = absurd (cc (same))
matched f noted (x ∷ ps) (y ∷ js) zero p same at = (y, cc (same, at), refl)
matched f noted (x ∷ ps) (y ∷ js) (suc i) p same at = matched f noted ps js i p (cc (same)) at

-- one more of each
pub map_end : {P J E : Type 0} (f : P → Option E) (noted : J → E) (ps : List P) (js : List J) (p : P) (j : J) → map f ps ≡ map (λ j. Some (noted j)) js → f p ≡ Some (noted j)
    → map f (ps ++ p ∷ []) ≡ map (λ j. Some (noted j)) (js ++ j ∷ [])
map_end f noted [] [] p j same one = ap (λ (o : Option _). o ∷ []) one
map_end f noted [] (y ∷ js) p j same one = absurd (cc (same))
map_end f noted (x ∷ ps) [] p j same one = absurd (cc (same))
map_end f noted (x ∷ ps) (y ∷ js) p j same one =
    let rest = map_end f noted ps js p j (cc (same)) one in
    let head : f x ≡ Some (noted y) = cc (same) in
    cc (head, rest)

-- as many of each
pub as_many : {P J E : Type 0} (f : P → Option E) (noted : J → E) (ps : List P) (js : List J) → map f ps ≡ map (λ j. Some (noted j)) js → length ps ≡ length js
as_many f noted [] [] same = refl
as_many f noted [] (y ∷ js) same = absurd (cc (same))
as_many f noted (x ∷ ps) [] same = absurd (cc (same))
as_many f noted (x ∷ ps) (y ∷ js) same = ap suc (as_many f noted ps js (cc (same)))
