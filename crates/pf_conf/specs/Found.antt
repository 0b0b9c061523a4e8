-- What is found of a file and of all that it loads.
use Rattle.std.specs.{Prelude.{◌+◌, nat_le, Bool, [], length}, List.list_any}
use Rattle.pf_addr.specs.Path.Paths.{same_path}
use Rattle.pf_conf.specs.declared.{found.Found.Found, found.Ruleset.Ruleset, found.TheConstants.RULESET_LIMIT}
use Rattle.pf_parse.specs.Reading.{Word}

abbrev pub nothing_found : Found
nothing_found = record { files_read = 0; rulesets = []; tables = []; notes = []; table_paths = []; waiting = [] }

-- a commit has so many rulesets at most: rules at a path, and tables at a path
abbrev pub is_full : Found → Bool
is_full s = nat_le RULESET_LIMIT (length s.rulesets + length s.table_paths)

abbrev pub has_rules : Word → Found → Bool
has_rules path s = list_any (λ (r : Ruleset). same_path r.path path) s.rulesets

abbrev pub has_tables : Word → Found → Bool
has_tables path s = list_any (λ (known : Word). same_path known path) s.table_paths
