-- What is printed, as `pfctl -nvv` does (pfctl(8)): the rules of each path, numbered from 0, behind its path if it isn't main's; then each
-- table that is filled.
use Rattle.std.specs.Prelude.{ℕ, ◌+◌, ◌==◌, List, [], ◌∷◌, ◌++◌, length, codes, decimal, if◌then◌else◌}
use Rattle.std.specs.List.{flat_map}
use Rattle.pf_addr.specs.Path.Paths.{path_text}
use Rattle.pf_rule.specs.{Rules.PlainRule, RuleText.rule_text}
use Rattle.pf_conf.specs.declared.{found.Conf.Conf, found.Ruleset.Ruleset, found.FilledTable.FilledTable}
use Rattle.pf_parse.specs.Reading.{Word}
use Rattle.pf_conf.specs.{Rulesets.PlacedRule, Tables.entries_text}

abbrev pub newline : Word
newline = codes "\n"

abbrev pub rule_line : ℕ → PlainRule → Word
rule_line n r = codes "@" ++ decimal n ++ codes " " ++ rule_text r ++ newline

abbrev pub rule_lines : ℕ → List PlacedRule → Word
rule_lines n [] = []
rule_lines n (r ∷ rs) = rule_line n r.is ++ rule_lines (n + 1) rs

abbrev pub path_line : Word → Word
path_line path = if length path == 0 then [] else (codes "anchor " ++ path ++ newline)

abbrev pub ruleset_lines : Ruleset → Word
ruleset_lines r = path_line r.path ++ rule_lines 0 r.rules

abbrev pub rulesets_lines : List Ruleset → Word
rulesets_lines rs = flat_map ruleset_lines rs

abbrev pub table_line : FilledTable → Word
table_line t = codes "table " ++ path_text t.path ++ codes " " ++ t.name ++ entries_text t.table ++ newline

abbrev pub tables_lines : List FilledTable → Word
tables_lines ts = flat_map table_line ts

abbrev pub shown : Conf → Word
shown c = rulesets_lines c.rulesets ++ tables_lines c.tables
