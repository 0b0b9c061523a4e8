-- Rulesets and tables in bytes, at their places: the forms of what a configuration keeps. Rules have a form for each version, tables the
-- same in all.
--
--   a ruleset: its path, the number of its rules in four bytes, and each rule
--   a table: its path, its name, the number of its entries in four bytes, and each entry
--
-- Rulesets are in the order of their paths, tables in that of their paths and at one path of their names, entries in that of their table,
-- each list after its number in four bytes; so nothing is there twice. No ruleset and no table is empty.
use Rattle.std.specs.{Prelude.{ℕ, ◌+◌, ◌==◌, ◌&&◌, not, nat_le, Bool, List, length, map}, List.{list_all, sum_by}, Ordering.is_lt}
use Rattle.pf_addr.specs.Path.{Paths.path_order, PathForms.{TextShape, path_form, table_name_form}}
use Rattle.pf_form.specs.Bytes.{Forms.{Shape, both, list, Value, ByteForm, pair, counted, that, length_of}, Lists.ordered}
use Rattle.pf_rule.specs.{Rules.PlainRule, Sum.{Forms.label_bytes, Layouts.{RuleShape, rule_layout, plain_rule, allows}, Reading.rule_of}}
use Rattle.pf_table.specs.{declared.limits.TheConstants.{TABLE_LIMIT}, EntryForms.{EntryShape, entry, plain_entry, entry_of, entry_before}, Entries.PlainEntry}
use Rattle.pf_anchor.specs.{declared.limits.TheConstants.{RULE_LIMIT, RULESET_LIMIT, TABLE_COUNT_LIMIT}, Configurations.PlainConfig, Rulesets.PlainPlaced, Tables.{PlainPlacedTable, placed_table, table_order}}

abbrev pub at_most : {A : Type 0} → ℕ → List A → Bool
at_most limit xs = nat_le (length xs) limit

abbrev pub has_some : {A : Type 0} → List A → Bool
has_some xs = not (length xs == 0)

-- ---- rulesets

abbrev pub RulesShape : Shape
RulesShape = both TextShape (list RuleShape)

unfoldable pub rule_list_form : ℕ → ByteForm (list RuleShape)
rule_list_form version = that (at_most RULE_LIMIT) (counted 4 (rule_layout version))

unfoldable pub rules_form : ℕ → ByteForm RulesShape
rules_form version = pair path_form (rule_list_form version)

abbrev pub ruleset_before : Value RulesShape → Value RulesShape → Bool
ruleset_before a b = is_lt (path_order a.0 b.0)

-- no more than there may be, none of them empty
abbrev pub are_rulesets : List (Value RulesShape) → Bool
are_rulesets rs = at_most RULESET_LIMIT rs && list_all (λ r. has_some r.1) rs

unfoldable pub rulesets_form : ℕ → ByteForm (list RulesShape)
rulesets_form version = that are_rulesets (ordered ruleset_before 4 (rules_form version))

abbrev pub plain_ruled : PlainPlaced → Value RulesShape
plain_ruled r = (r.0, map plain_rule r.1)

abbrev pub ruled_in : Value RulesShape → PlainPlaced
ruled_in v = (v.0, map rule_of v.1)

-- whether a version allows each of these rules
abbrev pub allows_rules : ℕ → List PlainRule → Bool
allows_rules version rs = list_all (allows version) rs

abbrev pub allows_ruleset : ℕ → PlainPlaced → Bool
allows_ruleset version r = allows_rules version r.1

-- ---- tables under their names

abbrev pub NamedShape : Shape
NamedShape = both TextShape (list EntryShape)

unfoldable pub entries_form : ByteForm (list EntryShape)
entries_form = that (at_most TABLE_LIMIT) (ordered entry_before 4 entry)

unfoldable pub named_form : ByteForm NamedShape
named_form = pair table_name_form entries_form

abbrev pub plain_entries : List PlainEntry → List (Value EntryShape)
plain_entries es = map plain_entry es

abbrev pub plain_named : List ℕ × List PlainEntry → Value NamedShape
plain_named t = (t.0, plain_entries t.1)

abbrev pub entries_in : List (Value EntryShape) → List PlainEntry
entries_in xs = map entry_of xs

abbrev pub named_in : Value NamedShape → List ℕ × List PlainEntry
named_in v = (v.0, entries_in v.1)

-- ---- tables at their paths

abbrev pub PlacedShape : Shape
PlacedShape = both TextShape NamedShape

unfoldable pub placed_form : ByteForm PlacedShape
placed_form = pair path_form named_form

abbrev pub placed_before : Value PlacedShape → Value PlacedShape → Bool
placed_before a b = is_lt (table_order (a.0, a.1.0) (b.0, b.1.0))

-- no more than there may be, none of them empty
abbrev pub are_tables : List (Value PlacedShape) → Bool
are_tables ts = at_most TABLE_COUNT_LIMIT ts && list_all (λ t. has_some t.1.1) ts

unfoldable pub kept_tables_form : ByteForm (list PlacedShape)
kept_tables_form = that are_tables (ordered placed_before 4 placed_form)

abbrev pub plain_tabled : PlainPlacedTable → Value PlacedShape
plain_tabled t = (t.0.0, plain_named (t.0.1, t.1))

abbrev pub tabled_in : Value PlacedShape → PlainPlacedTable
tabled_in v = placed_table v.0 v.1.0 (entries_in v.1.1)

-- ---- both

-- rulesets and tables, each of them a map
abbrev pub configured : List PlainPlaced → List PlainPlacedTable → PlainConfig
configured rs ts = record { rulesets = rs; tables = ts }

-- whether a version allows the rules of each ruleset
abbrev pub allows_config : ℕ → PlainConfig → Bool
allows_config version c = list_all (allows_ruleset version) c.rulesets

-- ---- how many bytes they take

-- the labels of rules
abbrev pub labels_length : List PlainRule → ℕ
labels_length rs = sum_by (λ r. length (label_bytes r)) rs

abbrev pub ruled_length : ℕ → PlainPlaced → ℕ
ruled_length version r = length_of (rules_form version) (plain_ruled r)

abbrev pub tabled_length : PlainPlacedTable → ℕ
tabled_length t = length_of placed_form (plain_tabled t)

-- all of them, with the numbers before them
abbrev pub config_length : ℕ → PlainConfig → ℕ
config_length version c = length_of (rulesets_form version) (map plain_ruled c.rulesets) + length_of kept_tables_form (map plain_tabled c.tables)
