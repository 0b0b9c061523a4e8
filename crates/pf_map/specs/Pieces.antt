-- What there is of a part once it was changed in place: the entries of all that there is of it.
use Rattle.std.specs.Prelude.{List, [], ◌++◌}
use Rattle.pf_map.specs.declared.pieces.Pieces.{Pieces}
use Rattle.pf_map.specs.declared.pieces.Pieces.TheVariants.{Gone, One, Two}

-- `itself` is what the part holds then
abbrev pub all_of : {P E : Type 0} → (P → List E) → List E → Pieces P → List E
all_of f itself Gone = []
all_of f itself One = itself
all_of f itself (Two following) = itself ++ f following
