-- What is kept over all openings of a world.
use Rattle.std.specs.Prelude.{◌≡◌, ◌⊎◌, List, [], ◌∷◌, ◌++◌, flat_map}
use Rattle.pf_ticket.specs.{declared.ticket.Ticket.Ticket, Names.tickets_of}
use Rattle.pf_core.specs.{declared.{reply.Reply.Reply, reply.Reply.TheVariants.Answer as Answered}, Calls.replies_in, Durable.Changes.{PlainDurable, PlainChange}, Worlds.{State, up, down, Event, called, called_group, crashed, group_in, group_all, group_of, kept_groups, acked_by, pending_by, acked_by_group, pending_by_group, next, state_after}}
use Rattle.pf_core.specs.declared.reply.Answer.TheVariants as answer

-- what the current opening gave, or what is held between two
abbrev pub base_of : State → PlainDurable
base_of (up h) = h.base
base_of (down d) = d

abbrev pub acked_of : State → List (List PlainChange)
acked_of (up h) = h.acked
acked_of (down d) = []

abbrev pub pending_of : State → List (List PlainChange)
pending_of (up h) = h.pending
pending_of (down d) = []

-- ---- what is kept

-- the groups that a crash keeps of its opening
abbrev pub kept_by : State → Event → List (List PlainChange)
kept_by (up h) (crashed doing n) = kept_groups h doing n
kept_by st e = []

-- the groups of all openings that ended, one opening after the other
abbrev pub earlier : State → List Event → List (List PlainChange)
earlier st [] = []
earlier st (e ∷ es) = kept_by st e ++ earlier (next st e) es

-- then those that the current opening acknowledged
abbrev pub acknowledged : State → List Event → List (List PlainChange)
acknowledged st world = earlier st world ++ acked_of (state_after st world)

-- then the one that it did not
abbrev pub history : State → List Event → List (List PlainChange)
history st world = acknowledged st world ++ pending_of (state_after st world)

-- ---- what was offered

-- the group that an event offered to be kept: with the reply to a call or to a group of commands, whether it was acknowledged or not; with
-- a crash, whether it was kept or not
abbrev pub offered_by : State → Event → List (List PlainChange)
offered_by (up h) (called c t) = acked_by c.reply (group_in h c.command) ++ pending_by c.reply (group_in h c.command)
offered_by (up h) (called_group commands result t) =
    acked_by_group result (group_all h commands) ++ pending_by_group result (group_all h commands)
offered_by (up h) (crashed doing n) = group_of h doing
offered_by st e = []

abbrev pub offered : State → List Event → List (List PlainChange)
offered st [] = []
offered st (e ∷ es) = offered_by st e ++ offered (next st e) es

-- some of these, in order and each at most once
abbrev pub AreAmong : List (List PlainChange) → List (List PlainChange) → Type 0
AreAmong gs [] = gs ≡ []
AreAmong gs (o ∷ os) = AreAmong gs os ⊎ ((rest : List (List PlainChange)) × (gs ≡ o ∷ rest) × AreAmong rest os)

-- ---- tickets

abbrev pub tickets_in : Reply → List Ticket
tickets_in (Answered (answer.Given range)) = tickets_of range
tickets_in r = []

abbrev pub tickets_by : Event → List Ticket
tickets_by (called c t) = tickets_in c.reply
tickets_by (called_group commands result t) = flat_map tickets_in (replies_in result)
tickets_by e = []

-- the tickets that replies gave, in all openings
abbrev pub tickets_given : List Event → List Ticket
tickets_given [] = []
tickets_given (e ∷ es) = tickets_by e ++ tickets_given es
