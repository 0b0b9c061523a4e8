-- What is told of a load that isn't made: what would be gone ("-") and what would come ("+"), of the rules of each path and of each table.
use Rattle.std.specs.{Prelude.{◌≡◌, ℕ, ◌==◌, ◌&&◌, List, [], ◌∷◌, ◌++◌, length, codes, Option, Result, if◌then◌else◌}, List.flat_map}
use Rattle.std.specs.declared.io.Error.{Error}
use Rattle.pf_addr.specs.{Path.Paths.path_text, Writing.Continues}
use Rattle.pf_form.specs.Form.Words.{Word}
use Rattle.pf_table.specs.{Entries.PlainEntry, Edits.deletions}
use Rattle.pf_table.specs.declared.answer.Deletion.{Deletion, TheVariants.{Deleted, Absent}}
use Rattle.pf_conf.specs.declared.{found.Conf.Conf, found.FilledTable.FilledTable, found.Ruleset.Ruleset}
use Rattle.pf_conf.specs.Commit.{Lines.newline, Naming.table_paths}

-- each text on a line of its own, behind a mark
abbrev pub marked : Word → List Word → Word
marked mark texts = flat_map (λ (text : Word). mark ++ text ++ newline) texts

-- nothing, if nothing is gone and nothing comes
abbrev pub changes_text : Word → List Word → List Word → Word
changes_text heading gone come =
    if (length gone == 0) && (length come == 0) then [] else (heading ++ marked (codes "- ") gone ++ marked (codes "+ ") come)

-- A list is another one in which texts in its middle are gone and others have come. That is told.
pub record WritesDifference (heading : Word) (old new : List Word)
    (so_far : Result (Unit {0}) Error) (mid : Option (List ℕ)) (r : Result (Unit {0}) Error) (now : Option (List ℕ)) : Type 0 where
  pub front : List Word
  pub back : List Word
  pub gone : List Word
  pub come : List Word
  pub was : old ≡ front ++ gone ++ back
  pub is : new ≡ front ++ come ++ back
  pub reported : Continues so_far mid r now (changes_text heading gone come)

-- a path's rules are told below its path, main's below nothing
abbrev pub rules_heading : Word → Word
rules_heading path = if length path == 0 then [] else (codes "anchor " ++ path ++ newline)

abbrev pub table_heading : FilledTable → Word
table_heading t = codes "table " ++ path_text t.path ++ codes " " ++ t.name ++ newline

-- ---- entries

abbrev pub if_absent : Deletion → PlainEntry → List PlainEntry
if_absent Deleted e = []
if_absent Absent e = e ∷ []

abbrev pub absent_by : List Deletion → List PlainEntry → List PlainEntry
absent_by [] es = []
absent_by (d ∷ ds) [] = []
absent_by (d ∷ ds) (e ∷ es) = if_absent d e ++ absent_by ds es

-- those of these entries that a delete from a table wouldn't find there
abbrev pub absent_in : List PlainEntry → List PlainEntry → List PlainEntry
absent_in rows es = absent_by (deletions rows es) es

-- ---- what a server is asked: to show what is at a path (pfctl(8), -s and -a)

abbrev pub question : Word → Word → Word
question what path = what ++ path_text path ++ newline

abbrev pub rules_question : Ruleset → Word
rules_question r = question (codes "show rules ") r.path

abbrev pub tables_question : Word → Word
tables_question path = question (codes "show tables ") path

-- the rules of each path of a file, and then the tables of each path at which it fills some
abbrev pub questions : Conf → Word
questions c = flat_map rules_question c.rulesets ++ flat_map tables_question (table_paths c.tables)
