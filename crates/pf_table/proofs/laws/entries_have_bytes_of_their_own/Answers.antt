use Rattle.pf_table.proofs.TableRows.{table_fits}
use Rattle.pf_table.proofs.laws.entries_have_bytes_of_their_own.Goals as goal

pub returns-clause-table : goal.returns-clause-table
returns-clause-table c = table_fits
