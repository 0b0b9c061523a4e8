-- What is answered if the tickets or a change refuse, and if memory ran out.
use Rattle.std.specs.Prelude.{◌≡◌, Bool, true, Result, Err}
use Rattle.pf_addr.specs.Refusing.{OrMemory as DueOrMemory}
use Rattle.pf_core.specs.declared.{reply.Refusal.Refusal, durable.refusal.ChangeRefusal.ChangeRefusal}
use Rattle.pf_core.specs.declared.reply.Refusal.TheVariants as refusals
use Rattle.pf_core.specs.declared.durable.refusal.ChangeRefusal.TheVariants as by_change
use Rattle.pf_ticket.specs.declared.{refusal.TicketRefusal.TicketRefusal, refusal.TicketRefusal.TheVariants.BadCount, refusal.TicketRefusal.TheVariants.Twice, refusal.TicketRefusal.TheVariants.Busy, refusal.TicketRefusal.TheVariants.Absent, refusal.TicketRefusal.TheVariants.Conflict, refusal.TicketRefusal.TheVariants.RulesetFull, refusal.TicketRefusal.TheVariants.TooManyRulesets, refusal.TicketRefusal.TheVariants.TableFull, refusal.TicketRefusal.TheVariants.TooManyTables, refusal.TicketRefusal.TheVariants.TicketsExhausted, refusal.TicketRefusal.TheVariants.Memory}

abbrev pub refusal_of : TicketRefusal → Refusal
refusal_of BadCount = refusals.BadCount
refusal_of (Twice i) = refusals.Twice i
refusal_of (Busy i) = refusals.Busy i
refusal_of Absent = refusals.Absent
refusal_of (Conflict i) = refusals.Conflict i
refusal_of RulesetFull = refusals.RulesetFull
refusal_of TooManyRulesets = refusals.TooManyRulesets
refusal_of TableFull = refusals.TableFull
refusal_of TooManyTables = refusals.TooManyTables
refusal_of TicketsExhausted = refusals.TicketsExhausted
refusal_of Memory = refusals.Memory

abbrev pub change_refusal_of : ChangeRefusal → Refusal
change_refusal_of (by_change.Twice i) = refusals.Twice i
change_refusal_of (by_change.Conflict i) = refusals.Conflict i
change_refusal_of by_change.TableFull = refusals.TableFull
change_refusal_of by_change.TooManyRulesets = refusals.TooManyRulesets
change_refusal_of by_change.TooManyTables = refusals.TooManyTables
change_refusal_of by_change.StatesFull = refusals.StatesFull
change_refusal_of by_change.BadTick = refusals.BadTick
change_refusal_of by_change.Memory = refusals.Memory

-- the result is the one that is due; or out of memory, if memory is taken
abbrev pub OrMemory : {A : Type 0} → Bool → Result A Refusal → Result A Refusal → Type 0
OrMemory takes r due = DueOrMemory refusals.Memory r due × (r ≡ Err refusals.Memory → takes ≡ true)
