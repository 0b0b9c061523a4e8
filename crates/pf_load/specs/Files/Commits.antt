-- What one commit has of a file (pf(4), DIOCXCOMMIT): its rulesets are the rules of paths, and the tables at paths.
use Rattle.std.specs.Prelude.{◌≡◌, ◌≤◌, ℕ, ◌+◌, List, length, sum_by, codes, Ok}
use Rattle.pf_tokens.specs.declared.files.File.{File}
use Rattle.pf_values.specs.declared.interfaces.interface.Interface.{Interface}
use Rattle.pf_parse.specs.declared.parser.Mode.{Mode}
use Rattle.pf_parse.specs.Reading.{Word}
use Rattle.pf_conf.specs.declared.{found.Conf.Conf, found.Ruleset.Ruleset, found.TheConstants.{RULESET_LIMIT, LINE_LIMIT}}
use Rattle.pf_conf.specs.Resolving.{part_length, resolved}
use Rattle.pf_ticket.specs.Tickets.{PlainTickets}
use Rattle.pf_core.specs.Durable.Changes.{PlainDurable, PlainChange, applied}
use Rattle.pf_conf.specs.Commit.Naming.{table_paths}
use Rattle.pf_load.specs.Laws.{IsLoad, IsLoaded}

-- how many bytes the commit's line has that names all rulesets, each with the longest ticket
abbrev pub line_length : Conf → ℕ
line_length c =
    length (codes "commit") + sum_by (λ (r : Ruleset). part_length (codes " filter ") r.path) c.rulesets
    + sum_by (part_length (codes " table ")) (table_paths c.tables)

-- One commit has room for all rulesets, and one line names them.
pub record CommitHasRoom (c : Conf) : Type 0 where
  pub rulesets : length c.rulesets + length (table_paths c.tables) ≤ RULESET_LIMIT
  pub line : line_length c ≤ LINE_LIMIT

-- After a load of a file that went through, exactly its rulesets and tables are replaced, by what it has.
abbrev pub FilesLoadExactly : Type 0
FilesLoadExactly =
    (files : List File) (interfaces : List Interface) (mode : Mode) (base name : Word) (c : Conf)
    (t : PlainTickets) (d : PlainDurable) (e : PlainChange) →
    resolved files interfaces mode base name ≡ Ok c → IsLoad c t d e → IsLoaded c d (applied d e)
