-- What holds of the lines of a text.
use Rattle.std.specs.Prelude.{◌≡◌, ℕ, List}
use Rattle.pf_session.specs.LineEngine.Lines.{IsCut}

abbrev pub IsAlwaysCut : Type 0
IsAlwaysCut = (text : List ℕ) → (lines : List (List ℕ)) × (rest : List ℕ) × IsCut text lines rest

abbrev pub CutsOneWay : Type 0
CutsOneWay = (text : List ℕ) (lines others : List (List ℕ)) (rest more : List ℕ)
    → IsCut text lines rest → IsCut text others more → (lines ≡ others) × (rest ≡ more)
