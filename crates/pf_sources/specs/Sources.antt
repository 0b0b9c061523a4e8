-- Sources of tables (pf.conf(5), TABLES): what their lists and files have.
use Rattle.std.specs.Prelude.{ℕ, ◌+◌, List, [], ◌++◌, map, Result, Ok, Err}
use Rattle.pf_form.specs.Form.Forms.{◌>>=◌}
use Rattle.pf_table.specs.Entries.{PlainEntry}
use Rattle.pf_tokens.specs.declared.{place.Place.Place, token.Token.Token, files.File.File}
use Rattle.pf_tokens.specs.declared.fault.TokenStop.{TokenStop}
use Rattle.pf_tokens.specs.{Places.text_of, Files.text_of_file}
use Rattle.pf_parse.specs.declared.{fault.Stop.Stop, tree.Entry.Entry, tree.Entries.Entries, tree.Entries.TheVariants.{Listed, File as FromFile}}
use Rattle.pf_parse.specs.{Stops.stop_of, Entries.{file_entries, onto}}
use Rattle.pf_sources.specs.declared.sources.Gathered.{Gathered}
use Rattle.pf_sources.specs.{Steps.each, Tables.{entry_at, filled}}

abbrev pub with_listed : Gathered → List Entry → Gathered
with_listed g es = record g { entries = g.entries ++ es }

abbrev pub of_tokens : {A : Type 0} → Result A TokenStop → Result A Stop
of_tokens (Ok x) = Ok x
of_tokens (Err stop) = Err (stop_of stop)

-- the entries of a file that this token names
unfoldable pub with_file_entries : List File → Token → Gathered → Result Gathered Stop
with_file_entries files t g =
    of_tokens (text_of_file files g.files_read t.place (text_of t.text)) >>= λ found. onto g.entries (file_entries found.0 found.1)
    >>= λ es. Ok (record { files_read = g.files_read + 1; entries = es })

-- the table that was gathered so far, as entries that stand at its name
abbrev pub with_filled_entries : Place → Gathered → List PlainEntry → Gathered
with_filled_entries named g es = record g { entries = map (entry_at named) es }

-- The entries of one more source of a table whose name stands at this place. A file's come behind the table that those before it make.
unfoldable pub with_source : List File → Place → Entries → Gathered → Result Gathered Stop
with_source files named (Listed es) g = Ok (with_listed g es)
with_source files named (FromFile t) g = filled named g.entries >>= λ es. with_file_entries files t (with_filled_entries named g es)

abbrev pub before_sources : ℕ → Gathered
before_sources read = record { files_read = read; entries = [] }

-- the entries of all sources of a table whose name stands at this place, behind so many files that were read
abbrev pub gathered : List File → Place → List Entries → ℕ → Result Gathered Stop
gathered files named sources read = each (with_source files named) sources (before_sources read)
