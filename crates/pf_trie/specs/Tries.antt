-- What a whole trie has, and what it is made of.
use Rattle.std.specs.Prelude.{◌≡◌, ℕ, Bool, List, Option}
use Rattle.pf_trie.specs.declared.rows.Row.{Row}
use Rattle.pf_trie.specs.{Prefixes.AllSigns, Rows.AreRows}

-- the sign of the prefix that contains all addresses, and the level with the signs of all others
pub record IsRooted {X : Type 0} (holds : AllSigns → ℕ → ℕ → X → Type 0) (s : AllSigns) (sign : Option Bool) (below : X) : Type 0 where
  pub all : sign ≡ s 128 0
  pub level : holds s 128 0 below

-- just these signs, in rows of all addresses
abbrev pub IsDraft : AllSigns → Option Bool × List Row → Type 0
IsDraft s draft = IsRooted AreRows s draft.0 draft.1
