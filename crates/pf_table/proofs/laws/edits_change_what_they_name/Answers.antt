use Rattle.pf_table.specs.Laws.Edits.{sign_added, sign_deleted}
use Rattle.pf_table.proofs.TableLaws.{holds_the_list, all_else_stays, stays_table}
use Rattle.pf_table.proofs.laws.edits_change_what_they_name.Goals as goal

pub returns-clause-adds : goal.returns-clause-adds
returns-clause-adds c = sign_added

pub returns-clause-deletes : goal.returns-clause-deletes
returns-clause-deletes c = sign_deleted

pub returns-clause-replaces : goal.returns-clause-replaces
returns-clause-replaces c = holds_the_list

pub returns-clause-stays : goal.returns-clause-stays
returns-clause-stays c = all_else_stays

pub returns-clause-table : goal.returns-clause-table
returns-clause-table c = stays_table
