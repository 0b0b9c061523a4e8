-- The lines that tell where a server listens.
use Rattle.std.proofs.Common.{◌≡◌, List, [], ◌∷◌, ◌++◌, Result, Ok, Err, map, refl, ap}
use Rattle.std.specs.Prelude.{OnOk, flat_map}

-- a text for each of these is one for each of what they are called
pub texts-mapped : {A B C : Type 0} (text : B → List C) (called : A → B) (xs : List A) → flat_map (λ x. text (called x)) xs ≡ flat_map text (map called xs)
texts-mapped {C = C} text called [] = refl
texts-mapped {C = C} text called (x ∷ xs) = ap (λ (l : List C). text (called x) ++ l) (texts-mapped text called xs)

-- what holds anyway holds where all goes well
pub where_ok : {A E : Type 0} (r : Result A E) (P : Type 0) → P → OnOk r P
where_ok (Ok x) P holds = holds
where_ok (Err e) P holds = tt
