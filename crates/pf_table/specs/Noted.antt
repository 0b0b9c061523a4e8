-- What is noted while a list is added to a table, so that a network with both signs in the list is found.
use Rattle.std.specs.Prelude.{Bool, List, Option, Some, None}
use Rattle.pf_table.specs.{Entries.PlainEntry, Edits.with_entry}

-- The sign with which the list first names a network, by its signs in the table that the list is added to, in what is noted, and after it
-- was added.
abbrev pub first_sign : Option Bool → Option Bool → Option Bool → Option Bool
first_sign (Some t) noted (Some there) = noted
first_sign None noted (Some there) = Some there
first_sign table noted None = None

-- a network that is there and that the list hasn't named yet is noted
abbrev pub noted_with : List PlainEntry → Option Bool → Option Bool → PlainEntry → List PlainEntry
noted_with noted None first x = noted
noted_with noted (Some there) (Some s) x = noted
noted_with noted (Some there) None x = with_entry noted x
