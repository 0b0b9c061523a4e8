-- What a server is asked for all that it has (pfctl(8), -s rules, -s Tables, -s Anchors and -a): for the rules and tables at some paths, and
-- for the anchors below some.
use Rattle.std.specs.{Prelude.{ℕ, List, Option, Result, codes}, List.flat_map}
use Rattle.pf_addr.specs.Writing.{Writes}
use Rattle.pf_form.specs.Form.Words.{Word}
use Rattle.pf_load.specs.Changes.{question, tables_question}

-- what is asked for, and at which path
pub data Asked : Type 0 where
  Rules : Word → Asked
  Tables : Word → Asked
  Anchors : Word → Asked

abbrev pub asked_text : Asked → Word
asked_text (Rules path) = question (codes "show rules ") path
asked_text (Tables path) = tables_question path
asked_text (Anchors path) = question (codes "show anchors ") path

-- Nothing but such questions was sent, the last one perhaps in part if it went wrong.
pub record AsksOnly {A E : Type 0} (r : Result A E) (old new : Option (List ℕ)) : Type 0 where
  pub asked : List Asked
  pub sent : Writes r old new (flat_map asked_text asked)
