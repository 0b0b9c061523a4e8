use Rattle.pf_table.proofs.TableLaws.{table_decides, table_matches, families_apart}
use Rattle.pf_table.proofs.laws.one_entry_decides.Goals as goal

pub returns-clause-decides : goal.returns-clause-decides
returns-clause-decides c = table_decides

pub returns-clause-matches : goal.returns-clause-matches
returns-clause-matches c = table_matches

pub returns-clause-family : goal.returns-clause-family
returns-clause-family c = families_apart
