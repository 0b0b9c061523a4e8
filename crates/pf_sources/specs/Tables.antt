-- Tables that are filled (pf.conf(5), TABLES): in the order of their networks, each once, with one sign, as pf_table has them.
use Rattle.std.specs.{Prelude.{ℕ, nat_le, List, map, length, Option, Some, None, Result, Ok, Err, if◌then◌else◌}, List.slice_get}
use Rattle.pf_table.specs.{Entries.PlainEntry, Edits.{conflict_in, replaced}}
use Rattle.pf_table.specs.declared.limits.TheConstants.{TABLE_LIMIT}
use Rattle.pf_tokens.specs.declared.place.Place.{Place}
use Rattle.pf_parse.specs.declared.{fault.Stop.Stop, tree.Entry.Entry}
use Rattle.pf_parse.specs.declared.fault.Mistake.TheVariants as mistakes
use Rattle.pf_parse.specs.Stops.{fault_at}

abbrev pub plain : Entry → PlainEntry
plain e = (e.net, e.is_negated)

-- an entry of a table, as one that stands at this place
abbrev pub entry_at : Place → PlainEntry → Entry
entry_at p e = record { place = p; net = e.0; is_negated = e.1 }

abbrev pub place_of : Place → Option Entry → Place
place_of p None = p
place_of p (Some e) = e.place

-- given the place in the list of the first entry whose network came before it with the other sign
abbrev pub filled_unless : Place → List Entry → Option ℕ → Result (List PlainEntry) Stop
filled_unless named es (Some n) = Err (fault_at (place_of named (slice_get es n)) mistakes.OtherSign)
filled_unless named es None =
    if nat_le (length (replaced (map plain es))) TABLE_LIMIT then Ok (replaced (map plain es))
    else Err (fault_at named mistakes.ManyEntries)

-- the table whose name stands at this place
unfoldable pub filled : Place → List Entry → Result (List PlainEntry) Stop
filled named es = filled_unless named es (conflict_in (map plain es))
