-- The rulesets that a load of a file replaces, as pf(4)'s DIOCXBEGIN and DIOCXCOMMIT take them all at once (pfctl(8), -f), and their tickets.
use Rattle.std.specs.{Prelude.{Bool, List, [], ◌∷◌, ◌++◌, map, fold, find, if◌then◌else◌}, List.list_any, Option.option_map_or}
use Rattle.pf_addr.specs.Path.Paths.{same_path}
use Rattle.pf_form.specs.Form.Words.{Word}
use Rattle.pf_ticket.specs.declared.name.RulesetName.{RulesetName}
use Rattle.pf_ticket.specs.Names.{filter_at, table_ruleset_at, same_name}
use Rattle.pf_conf.specs.declared.{found.Conf.Conf, found.Ruleset.Ruleset, found.FilledTable.FilledTable}
use Rattle.pf_conf.specs.declared.commit.naming.Begun.{Begun}

abbrev pub is_among : Word → List Word → Bool
is_among path paths = list_any (λ (known : Word). same_path known path) paths

abbrev pub with_path : List Word → FilledTable → List Word
with_path paths t = if is_among t.path paths then paths else paths ++ t.path ∷ []

-- the paths at which tables are filled, each once
abbrev pub table_paths : List FilledTable → List Word
table_paths ts = fold with_path [] ts

abbrev pub filter_of : Ruleset → RulesetName
filter_of r = filter_at r.path

-- the rules of each path, then the tables at each path that has some
abbrev pub ruleset_names : Conf → List RulesetName
ruleset_names c = map filter_of c.rulesets ++ map table_ruleset_at (table_paths c.tables)

-- the ticket of a ruleset among those that were begun
abbrev pub ticket_of : List Begun → RulesetName → Word
ticket_of begun name = option_map_or (λ (b : Begun). b.ticket) (find (λ (b : Begun). same_name b.name name) begun) []
