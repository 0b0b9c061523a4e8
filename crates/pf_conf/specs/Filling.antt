-- The tables of a file that are filled (pf.conf(5), TABLES).
use Rattle.std.specs.Prelude.{ℕ, suc, ◌==◌, Bool, List, [], ◌∷◌, ◌++◌, length, Result, Ok, Err, if◌then◌else◌}
use Rattle.std.specs.{List.list_any, Str.bytes_eq}
use Rattle.pf_form.specs.Form.Forms.{◌>>=◌}
use Rattle.pf_table.specs.Entries.{PlainEntry}
use Rattle.pf_tokens.specs.declared.{place.Place.Place, files.File.File}
use Rattle.pf_parse.specs.declared.{fault.Stop.Stop, tree.Table.Table}
use Rattle.pf_parse.specs.declared.fault.Mistake.TheVariants as mistakes
use Rattle.pf_parse.specs.{Stops.fault_at, Reading.Word}
use Rattle.pf_sources.specs.{Steps.each, Tables.filled, Sources.gathered}
use Rattle.pf_conf.specs.declared.found.Found.{Found}
use Rattle.pf_conf.specs.Found.{is_full, has_tables}

-- a path that has tables
abbrev pub with_table_path : Word → Place → Found → Result Found Stop
with_table_path path p s =
    if has_tables path s then Ok s
    else if is_full s then Err (fault_at p mistakes.ManyRulesets)
    else Ok (record s { table_paths = s.table_paths ++ path ∷ [] })

abbrev pub with_filled : Word → Word → List PlainEntry → ℕ → Found → Found
with_filled path name es read s =
    record s { files_read = read; tables = s.tables ++ (record { path = path; name = name; table = es } ∷ []) }

unfoldable pub with_table : List File → Word → Table → Found → Result Found Stop
with_table files path t s =
    gathered files t.place t.sources s.files_read >>= λ g. filled t.place g.entries >>= λ es. with_table_path path t.place s >>= λ u. Ok (with_filled path t.name es g.files_read u)

-- A table without a list or a file is left as it is.
abbrev pub with_sources : List File → Word → Table → Found → Result Found Stop
with_sources files path t s = if length t.sources == 0 then Ok s else with_table files path t s

-- the tables of a file that stand before one, and what was found so far
abbrev pub Defined : Type 0
Defined = List Table × Found

abbrev pub is_defined : Word → List Table → Bool
is_defined name before = list_any (λ (t : Table). bytes_eq t.name name) before

-- one more table, which is defined once
unfoldable pub with_definition : List File → Word → Table → Defined → Result Defined Stop
with_definition files path t x =
    if is_defined t.name x.0 then Err (fault_at t.place (mistakes.TableTwice t.name))
    else (with_sources files path t x.1 >>= λ s. Ok (x.0 ++ t ∷ [], s))

-- How many tables come before the first whose name one before it has, given those before all of them.
unfoldable pub once_after : List Table → List Table → ℕ
once_after before [] = 0
once_after before (t ∷ ts) = if is_defined t.name before then 0 else suc (once_after (before ++ t ∷ []) ts)

unfoldable pub with_tables : List File → Word → List Table → Found → Result Found Stop
with_tables files path ts s = each (with_definition files path) ts ([], s) >>= λ x. Ok x.1
