-- What is answered if a table or the states refuse.
use Rattle.pf_core.specs.declared.durable.refusal.ChangeRefusal.{ChangeRefusal}
use Rattle.pf_core.specs.declared.durable.refusal.ChangeRefusal.TheVariants as refusals
use Rattle.pf_state.specs.declared.refusal.StatesRefusal.{StatesRefusal}
use Rattle.pf_state.specs.declared.refusal.StatesRefusal.TheVariants as by_states
use Rattle.pf_table.specs.declared.refusal.TableRefusal.{TableRefusal}
use Rattle.pf_table.specs.declared.refusal.TableRefusal.TheVariants as by_table

abbrev pub table_refusal_of : TableRefusal → ChangeRefusal
table_refusal_of (by_table.Conflict i) = refusals.Conflict i
table_refusal_of by_table.TableFull = refusals.TableFull
table_refusal_of by_table.Memory = refusals.Memory

abbrev pub states_refusal_of : StatesRefusal → ChangeRefusal
states_refusal_of by_states.StatesFull = refusals.StatesFull
states_refusal_of by_states.Memory = refusals.Memory
