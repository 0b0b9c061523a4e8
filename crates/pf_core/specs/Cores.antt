-- What contracts see of a core, and what a step leaves of it.
use Rattle.std.specs.Prelude.{◌≡◌, [], ◌++◌, Result, Ok, Err, ⊤}
use Rattle.pf_core.specs.{declared.{command.Command.Command, reply.Refusal.Refusal, step.ReadyStep.ReadyStep, step.Step.Step, step.Step.TheVariants.Done, step.Step.TheVariants.Wants, step.Step.TheVariants.OfHistory}, Commands.{mentioned, unless_unfit}, Durable.Changes.{PlainDurable, PlainChange, applied, voided_by, fits}, Nexts.{PlainNext, next_with}}
use Rattle.pf_core.specs.declared.step.ReadyStep.TheVariants as made
use Rattle.pf_ticket.specs.{Tickets.PlainTickets, Mentions.after}

-- a core: what is kept, and the open transactions
pub record PlainCore : Type 0 where
  pub durable : PlainDurable
  pub tickets : PlainTickets

abbrev pub core_with : PlainDurable → PlainTickets → PlainCore
core_with d t = record { durable = d; tickets = t }

-- what a change leaves
abbrev pub left_by : PlainDurable → PlainChange → PlainNext
left_by d e = next_with (applied d e) (voided_by e)

-- what is prepared for a change, if it fits
abbrev pub prepared : PlainDurable → PlainChange → Result PlainNext Refusal
prepared d e = unless_unfit (fits d e) (Ok (left_by d e))

-- the same within a group, after what earlier changes left
abbrev pub left_from : PlainNext → PlainChange → PlainNext
left_from before e = next_with (applied before.durable e) (before.voided ++ voided_by e)

abbrev pub prepared_from : PlainNext → PlainChange → Result PlainNext Refusal
prepared_from before e = unless_unfit (fits before.durable e) (Ok (left_from before e))

-- what a command leaves of the open transactions: a step that wants a change kept, is left to whoever keeps the history, or is refused,
-- leaves them as they were
abbrev pub answered : PlainTickets → Command → Result Step Refusal → PlainTickets
answered t c (Ok (Done a)) = after t (mentioned c)
answered t c (Ok (Wants e o)) = t
answered t c (Ok (OfHistory x)) = t
answered t c (Err e) = t

abbrev pub stepped : PlainCore → Command → Result Step Refusal → PlainCore
stepped w c r = core_with w.durable (answered w.tickets c r)

-- ---- steps with what their change leaves

-- the step without what its change leaves
abbrev pub plain : Result ReadyStep Refusal → Result Step Refusal
plain (Ok (made.Done a)) = Ok (Done a)
plain (Ok (made.Wants e n o)) = Ok (Wants e o)
plain (Ok (made.OfHistory c)) = Ok (OfHistory c)
plain (Err e) = Err e

-- what was made is what the change leaves, after what earlier ones of a group left
abbrev pub IsMadeFrom : PlainNext → Result ReadyStep Refusal → Type 0
IsMadeFrom before (Ok (made.Done a)) = ⊤
IsMadeFrom before (Ok (made.Wants e n o)) = n ≡ left_from before e
IsMadeFrom before (Ok (made.OfHistory c)) = ⊤
IsMadeFrom before (Err e) = ⊤

-- the same after no earlier ones
abbrev pub IsMade : PlainDurable → Result ReadyStep Refusal → Type 0
IsMade d step = IsMadeFrom (next_with d []) step
