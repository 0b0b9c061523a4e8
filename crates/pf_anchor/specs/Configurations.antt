-- What is active: rulesets and tables at paths (pf.conf(5), ANCHORS and TABLES).
use Rattle.std.specs.Prelude.{List, [], fold}
use Rattle.pf_anchor.specs.{Rulesets.{PlainPlaced, IsMap, with_rules}, Tables.{PlainPlacedTable, IsTableMap, with_table}}

pub record PlainConfig : Type 0 where
  pub rulesets : List PlainPlaced
  pub tables : List PlainPlacedTable

-- no rules and no tables
abbrev pub nothing : PlainConfig
nothing = record { rulesets = []; tables = [] }

-- after these rulesets were replaced in turn
abbrev pub with_rulesets : PlainConfig → List PlainPlaced → PlainConfig
with_rulesets c items = record { rulesets = fold with_rules c.rulesets items; tables = c.tables }

-- after these tables were replaced in turn
abbrev pub with_tables : PlainConfig → List PlainPlacedTable → PlainConfig
with_tables c items = record { rulesets = c.rulesets; tables = fold with_table c.tables items }

-- rulesets and tables are maps
pub record IsConfiguration (c : PlainConfig) : Type 0 where
  pub rulesets : IsMap c.rulesets
  pub tables : IsTableMap c.tables
