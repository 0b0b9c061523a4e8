-- A file's rules and tables as packets are judged by them (pf.conf(5), PACKET FILTERING and TABLES), and where each rule is written.
use Rattle.std.specs.Prelude.{ℕ, nat_lt, Bool, List, [], ◌++◌, length, map, take, codes, decimal, position, Option, Some, None, Result, Ok, Err, if◌then◌else◌}
use Rattle.std.specs.{List.{slice_get, filter_map}, Option.{option_map, option_and_then}}
use Rattle.pf_addr.specs.Path.{Paths.same_path, Names.table_name_of}
use Rattle.pf_form.specs.declared.form.fault.Kind.{Kind}
use Rattle.pf_rule.specs.Rules.{PlainRule}
use Rattle.pf_anchor.specs.declared.{limits.TheConstants.RULE_LIMIT, verdict.RuleVerdict.RuleVerdict}
use Rattle.pf_anchor.specs.declared.verdict.RuleVerdict.TheVariants as by
use Rattle.pf_anchor.specs.{Rulesets.{PlainPlaced, ruled}, Tables.{PlainPlacedTable, placed_table}, Configurations.{PlainConfig, nothing, with_rulesets, with_tables}}
use Rattle.pf_tokens.specs.declared.{place.Place.Place, files.File.File}
use Rattle.pf_parse.specs.declared.fault.At.{At}
use Rattle.pf_conf.specs.declared.{found.Conf.Conf, found.Ruleset.Ruleset, found.FilledTable.FilledTable}
use Rattle.pf_conf.specs.Telling.{name_of_file}
use Rattle.pfd_conf.specs.declared.firewall.{Decided.Decided, Firewall.Firewall}

-- ---- what packets are judged by

-- the rules without their places
abbrev pub rules_in : List (At PlainRule) → List PlainRule
rules_in rs = map (λ (r : At PlainRule). r.is) rs

-- the same, of which a ruleset has 1,024 at most
abbrev pub plain_rules : List (At PlainRule) → List PlainRule
plain_rules rs = take RULE_LIMIT (rules_in rs)

abbrev pub placed_of : Ruleset → PlainPlaced
placed_of r = ruled r.path (plain_rules r.rules)

abbrev pub named : FilledTable → Result (List ℕ) Kind → Option PlainPlacedTable
named t (Ok name) = Some (placed_table t.path name t.table)
named t (Err kind) = None

abbrev pub table_of : FilledTable → Option PlainPlacedTable
table_of t = named t (table_name_of t.name)

-- the file's rulesets and tables, and nothing else
abbrev pub config_of : Conf → PlainConfig
config_of c = with_tables (with_rulesets nothing (map placed_of c.rulesets)) (filter_map table_of c.tables)

-- ---- the rule that decides

abbrev pub ruleset_at : List Ruleset → List ℕ → Option ℕ
ruleset_at rs path = position (λ (r : Ruleset). same_path r.path path) rs

-- which rule of the file decides by a verdict
abbrev pub decided_in : List Ruleset → RuleVerdict → Option Decided
decided_in rs (by.Rule path n action) = option_map (λ i. record { within = i; number = n }) (ruleset_at rs path)
decided_in rs by.Default = None

abbrev pub rule_at : List Ruleset → Decided → Option (At PlainRule)
rule_at rs d = option_and_then (λ (r : Ruleset). slice_get r.rules d.number) (slice_get rs d.within)

-- ---- where it is written

-- the files and the rulesets of a firewall, by which a user is told where a rule is written
pub record Origins : Type 0 where
  pub files : List File
  pub rulesets : List Ruleset

abbrev pub origins_of : Firewall → Origins
origins_of f = record { files = f.taken.files; rulesets = f.taken.conf.rulesets }

-- FILE:LINE
abbrev pub place_text : List File → Place → List ℕ
place_text files p = name_of_file (slice_get files p.file) ++ (codes ":" ++ decimal p.line)

-- whether a place is in one of these files; the rules of a server are in none
abbrev pub is_in : List File → Place → Bool
is_in files p = nat_lt p.file (length files)

abbrev pub parenthesized : List File → Place → List ℕ
parenthesized files p = if is_in files p then codes " (" ++ (place_text files p ++ codes ")") else []

abbrev pub in_parentheses : List File → Option (At PlainRule) → List ℕ
in_parentheses files None = []
in_parentheses files (Some r) = parenthesized files r.place

abbrev pub origin_text : List File → List Ruleset → Option Decided → List ℕ
origin_text files rs d = in_parentheses files (option_and_then (rule_at rs) d)
