-- The lines of a load (pfctl(8), -f). A begin asks for the tickets of all its rulesets (pf(4), DIOCXBEGIN); its rules and tables are offered
-- with them (DIOCADDRULE, DIOCRINADEFINE); one commit switches all (DIOCXCOMMIT). That a table's entries come in parts is this project's own.
use Rattle.std.specs.Prelude.{ℕ, zero, suc, List, [], ◌∷◌, ◌++◌, take, drop, length, codes}
use Rattle.std.specs.List.{flat_map}
use Rattle.pf_addr.specs.Path.Paths.{path_text}
use Rattle.pf_form.specs.Form.Words.{Word}
use Rattle.pf_rule.specs.{Rules.PlainRule, RuleText.rule_text}
use Rattle.pf_table.specs.Entries.{PlainEntry}
use Rattle.pf_ticket.specs.declared.{name.RulesetKind.RulesetKind, name.RulesetKind.TheVariants.{Filter, Table}, name.RulesetName.RulesetName}
use Rattle.pf_ticket.specs.Names.{filter_at, table_ruleset_at}
use Rattle.pf_conf.specs.declared.{found.Conf.Conf, found.Ruleset.Ruleset, found.FilledTable.FilledTable}
use Rattle.pf_conf.specs.{Rulesets.PlacedRule, Tables.entries_text}
use Rattle.pf_conf.specs.declared.commit.{naming.Begun.Begun, lines.OfferedTable.OfferedTable, lines.TheConstants.PART}
use Rattle.pf_conf.specs.Commit.Naming.{ruleset_names, ticket_of}

abbrev pub newline : Word
newline = codes "\n"

-- ---- rulesets

abbrev pub kind_text : RulesetKind → Word
kind_text Filter = codes " filter "
kind_text Table = codes " table "

-- KIND PATH
abbrev pub name_text : RulesetName → Word
name_text n = kind_text n.kind ++ path_text n.path

-- KIND PATH T
abbrev pub begun_text : Begun → Word
begun_text b = name_text b.name ++ codes " " ++ b.ticket

abbrev pub names_text : List RulesetName → Word
names_text names = flat_map name_text names

abbrev pub all_begun_text : List Begun → Word
all_begun_text begun = flat_map begun_text begun

abbrev pub begin_line : List RulesetName → Word
begin_line names = codes "begin" ++ names_text names ++ newline

abbrev pub commit_line : List Begun → Word
commit_line begun = codes "commit" ++ all_begun_text begun ++ newline

abbrev pub rollback_line : List Begun → Word
rollback_line begun = codes "rollback" ++ all_begun_text begun ++ newline

-- ---- rules

-- PATH T
abbrev pub place_text : Word → Word → Word
place_text path ticket = path_text path ++ codes " " ++ ticket ++ codes " "

abbrev pub add_line : Word → PlainRule → Word
add_line place r = codes "add " ++ place ++ rule_text r ++ newline

abbrev pub added_lines : Word → List PlacedRule → Word
added_lines place rs = flat_map (λ (r : PlacedRule). add_line place r.is) rs

-- the rules of a ruleset, in order
abbrev pub add_lines : List Begun → Ruleset → Word
add_lines begun r = added_lines (place_text r.path (ticket_of begun (filter_at r.path))) r.rules

-- ---- tables

-- in parts of PART entries, the last of which may have fewer; at most so many parts
unfoldable pub parts_within : ℕ → List PlainEntry → List (List PlainEntry)
parts_within zero es = []
parts_within (suc n) [] = []
parts_within (suc n) (e ∷ es) = take PART (e ∷ es) ∷ parts_within n (drop PART (e ∷ es))

abbrev pub parts : List PlainEntry → List (List PlainEntry)
parts es = parts_within (length es) es

-- PATH T NAME
abbrev pub table_text : OfferedTable → Word
table_text t = place_text t.path.now t.ticket.now ++ t.name.now

abbrev pub table_place : List Begun → FilledTable → Word
table_place begun t = place_text t.path (ticket_of begun (table_ruleset_at t.path)) ++ t.name

-- COMMAND PATH T NAME ENTRY ..
abbrev pub line_of_table : Word → Word → List PlainEntry → Word
line_of_table command table es = command ++ table ++ entries_text es ++ newline

abbrev pub define_line : Word → List PlainEntry → Word
define_line table es = line_of_table (codes "define ") table es

abbrev pub extend_line : Word → List PlainEntry → Word
extend_line table es = line_of_table (codes "extend ") table es

abbrev pub extend_lines : Word → List PlainEntry → Word
extend_lines table es = flat_map (extend_line table) (parts es)

-- its first entries, and then the others
abbrev pub lines_of_table : Word → List PlainEntry → Word
lines_of_table table es = define_line table (take PART es) ++ extend_lines table (drop PART es)

abbrev pub table_lines : List Begun → FilledTable → Word
table_lines begun t = lines_of_table (table_place begun t) t.table

-- ---- a file

abbrev pub rules_lines : List Begun → List Ruleset → Word
rules_lines begun rs = flat_map (add_lines begun) rs

abbrev pub tables_lines : List Begun → List FilledTable → Word
tables_lines begun ts = flat_map (table_lines begun) ts

-- all rules, and all tables that are filled
abbrev pub load_lines : List Begun → Conf → Word
load_lines begun c = rules_lines begun c.rulesets ++ tables_lines begun c.tables

-- A whole load: what is begun, all that is offered with its tickets, and the commit of all.
abbrev pub whole_load : List Begun → Conf → Word
whole_load begun c = begin_line (ruleset_names c) ++ load_lines begun c ++ commit_line begun
