-- What the laws of files speak of.
use Rattle.std.specs.{Prelude.{◌≡◌, ◌≤◌, ◌⊎◌, ℕ, Bool, List, length, map, Ok, All, Contains}, List.IsDistinct}
use Rattle.pf_addr.specs.Path.Paths.{same_path}
use Rattle.pf_tokens.specs.declared.{place.Place.Place, files.File.File, flat.Flat.Flat}
use Rattle.pf_parse.specs.declared.{parser.Mode.Mode, statements.Parsed.Parsed, tree.Product.Product}
use Rattle.pf_parse.specs.Laws.{BeginsAt}
use Rattle.pf_values.specs.declared.interfaces.interface.Interface.{Interface}
use Rattle.pf_table.specs.declared.limits.TheConstants.{TABLE_LIMIT}
use Rattle.pf_conf.specs.declared.{found.Conf.Conf, found.FilledTable.FilledTable, found.Mention.Mention, found.Ruleset.Ruleset, found.TheConstants.{RULE_LIMIT, RULESET_LIMIT}}
use Rattle.pf_conf.specs.{Lines.parsed_with, Resolving.flat_of}

-- Here an interface is named that a file's lines skip.
pub record SkipsAt (interfaces : List Interface) (flat : Flat) (p : Place) : Type 0 where
  pub mode : Mode
  pub is_main : Bool
  pub lines : Parsed
  pub read : parsed_with interfaces flat.tokens mode is_main ≡ Ok lines
  pub among : Contains (map (λ (w : Product). w.place) lines.tree.skips) p

-- Here a rule begins of a file that is read, with pass, block or anchor, or an interface is named that the file skips.
pub record IsRulePlace (files : List File) (interfaces : List Interface) (p : Place) : Type 0 where
  pub file : Mention
  pub before : ℕ
  pub flat : Flat
  pub read : flat_of files file before ≡ Ok flat
  pub begins : BeginsAt flat.tokens p ⊎ SkipsAt interfaces flat p

-- One commit can have these rulesets and tables: each path's rules once, and so many rulesets, rules and entries.
pub record FitsCommit (c : Conf) : Type 0 where
  pub paths : IsDistinct same_path (map (λ (q : Ruleset). q.path) c.rulesets)
  pub rulesets : length c.rulesets ≤ RULESET_LIMIT
  pub rules : All (λ (q : Ruleset). length q.rules ≤ RULE_LIMIT) c.rulesets
  pub tables : All (λ (t : FilledTable). length t.table ≤ TABLE_LIMIT) c.tables
