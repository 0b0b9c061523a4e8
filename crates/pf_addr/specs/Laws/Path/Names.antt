-- What follows from the definitions of names, as laws in contracts.
use Rattle.std.specs.Prelude.{◌≡◌, ℕ, List, Ok}
use Rattle.pf_addr.specs.Path.Names.{IsName, name_of}
use Rattle.pf_form.specs.Form.Words.{Word}

-- what is read is the word, and is a name
abbrev pub ReadsANameAlone : Type 0
ReadsANameAlone = (limit : ℕ) (w : Word) (n : List ℕ) → name_of limit w ≡ Ok n → IsName limit n × (n ≡ w)

-- and each name is read
abbrev pub ReadsEachName : Type 0
ReadsEachName = (limit : ℕ) (n : List ℕ) → IsName limit n → name_of limit n ≡ Ok n
