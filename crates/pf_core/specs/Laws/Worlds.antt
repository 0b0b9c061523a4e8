-- What holds after every world.
use Rattle.std.specs.{Prelude.{◌≡◌, ℕ, ◌≤◌, ◌||◌, Bool, true, false, List, [], ◌++◌, length, flat_map, fold, None, Ok}, List.list_all}
use Rattle.pf_addr.specs.declared.addr.Addr.{Addr}
use Rattle.pf_addr.specs.{Path.Paths.main, Path.References.PlainReference}
use Rattle.pf_rule.specs.Packets.{PlainPacket}
use Rattle.pf_table.specs.{Laws.Tables.DecidesAbout, Tables.deciding}
use Rattle.pf_anchor.specs.{Evaluation.judged, Laws.Evaluation.{decides, IsVerdictOfMain, LeadsThere}, Rulesets.rules_at}
use Rattle.pf_state.specs.{Flows.flow_of, Laws.States.IsStateOf, States.{PlainState, stands}}
use Rattle.pf_ticket.specs.{declared.{entry.RulesetTicket.RulesetTicket, ticket.Ticket.Ticket}, Replies.commit_check, Tickets.content, Laws.Tickets.{AreOnce, IsWithin as AreTicketsWithin}, Mentions.{Mention, opened as left_by}, Names.tickets_from}
use Rattle.pf_core.specs.{declared.{command.Command.TheVariants.Ask, command.Question.TheVariants.Judge, command.Question.TheVariants.Test, durable.verdict.Verdict.TheVariants.State as Stateful, durable.verdict.Verdict.TheVariants.Rules as ByRules, reply.Reply.Reply, reply.Reply.TheVariants.Answer as Answered, reply.Reply.TheVariants.Applied, reply.Reply.TheVariants.Stored}, Calls.{mentions_of, replies_in, mentions_of_group}, Commands.items, Durable.Changes.{PlainDurable, named_again, entries_at, verdict}, History.tickets_in, Laws.Durable.IsWithin, Worlds.{CurrentOpening, State, up, down, Event, called, called_group, opened, flat, log_of, durable_of, LegalReply, state_after, IsWorld}}
use Rattle.pf_core.specs.declared.reply.Answer.TheVariants as answer

-- ---- tickets

abbrev pub given_by : List Ticket → Event → List Ticket
given_by ts (called c t) = ts ++ tickets_in c.reply
given_by ts (called_group commands result t) = ts ++ flat_map tickets_in (replies_in result)
given_by ts (opened setting) = []
given_by ts e = ts

-- the tickets that replies gave since the opening, in order
abbrev pub tickets_since : List Event → List Ticket
tickets_since world = fold given_by [] world

abbrev pub mentions_by : List Mention → Event → List Mention
mentions_by ms (called c t) = ms ++ mentions_of c
mentions_by ms (called_group commands result t) = ms ++ mentions_of_group commands result
mentions_by ms (opened setting) = []
mentions_by ms e = ms

-- what was mentioned since the opening, in order
abbrev pub mentions_since : List Event → List Mention
mentions_since world = fold mentions_by [] world

-- the transactions of the opening that a world ends in are what the mentions since it leave
abbrev pub TicketsAreOfTheCalls : Type 0
TicketsAreOfTheCalls = (first : PlainDurable) (world : List Event) (h : CurrentOpening) → IsWorld first world → state_after (down first) world ≡ up h →
    h.tickets ≡ left_by h.base.epoch (mentions_since world)

-- tickets are numbered from 1 on, so none is given twice
pub record AreGivenOnce (epoch : ℕ) (ts : List Ticket) : Type 0 where
  pub numbered : ts ≡ tickets_from epoch 1 (length ts)
  pub once : AreOnce ts

-- so it is in the opening that a world ends in
abbrev pub GivesEachOnce : Type 0
GivesEachOnce = (first : PlainDurable) (world : List Event) (h : CurrentOpening) → IsWorld first world → state_after (down first) world ≡ up h →
    AreGivenOnce h.base.epoch (tickets_since world)

-- ---- the tick

-- the tick of what is kept, or of what is held between two openings
abbrev pub tick_in : State → ℕ
tick_in (up h) = (durable_of h).tick
tick_in (down d) = d.tick

-- whatever comes after a world, the tick doesn't go back
abbrev pub TickNeverGoesBack : Type 0
TickNeverGoesBack = (first : PlainDurable) (world later : List Event) → IsWorld first (world ++ later) →
    tick_in (state_after (down first) world) ≤ tick_in (state_after (down first) (world ++ later))

-- ---- limits

-- an opening's transactions are within the limits, and so is what it kept
pub record AreWithin (h : CurrentOpening) : Type 0 where
  pub tickets : AreTicketsWithin h.tickets
  pub log : length (log_of h) ≤ h.setting.limit
  pub kept : IsWithin (durable_of h)

abbrev pub KeepsTheLimits : Type 0
KeepsTheLimits = (first : PlainDurable) (world : List Event) (h : CurrentOpening) → IsWithin first → IsWorld first world →
    state_after (down first) world ≡ up h → AreWithin h

-- if the tickets of a commit are valid, it names nothing twice, and is refused only for limits
abbrev pub CommitsNameOnce : Type 0
CommitsNameOnce = (first : PlainDurable) (world : List Event) (h : CurrentOpening) → IsWorld first world → state_after (down first) world ≡ up h →
    (entries : List RulesetTicket) → commit_check h.tickets entries ≡ Ok tt → named_again (items (content h.tickets) entries) ≡ None

abbrev pub failed_by : Bool → Event → Bool
failed_by failed (called c t) = failed || t.failed
failed_by failed (called_group commands result t) = failed || t.failed
failed_by failed (opened setting) = false
failed_by failed e = failed

-- whether the device failed in a call since the opening
abbrev pub failed_since : List Event → Bool
failed_since world = fold failed_by false world

abbrev pub hides : Bool → Reply → Bool
hides hidden (Stored n o) = true
hides hidden (Applied n o) = false
hides hidden (Answered (answer.Shown n)) = false
hides hidden r = hidden

abbrev pub hidden_by : Bool → Event → Bool
hidden_by hidden (called c t) = hides hidden c.reply
hidden_by hidden (called_group commands result t) = fold hides hidden (replies_in result)
hidden_by hidden (opened setting) = false
hidden_by hidden e = hidden

-- whether a change was answered `Stored` since the opening, and not all was shown since
abbrev pub hidden_since : List Event → Bool
hidden_since world = fold hidden_by false world

-- No change is shown that wasn't acknowledged, and all that were are shown, unless some were stored and not shown since. At most one group
-- isn't acknowledged, and none if the device didn't fail.
pub record AllIsShown (world : List Event) (h : CurrentOpening) : Type 0 where
  pub within : h.shown ≤ length (flat h.acked)
  pub all : hidden_since world ≡ false → h.shown ≡ length (flat h.acked)
  pub one : length h.pending ≤ 1
  pub none : failed_since world ≡ false → h.pending ≡ []

abbrev pub ShowsAll : Type 0
ShowsAll = (first : PlainDurable) (world : List Event) (h : CurrentOpening) → IsWorld first world → state_after (down first) world ≡ up h → AllIsShown world h

-- ---- answers

-- The answer to a test is the entry that decides in the table at that path and name: the one that contains the address and whose network is
-- the most specific of those that do; none if none contains it.
pub record TellsTheEntry (h : CurrentOpening) (p name : List ℕ) (a : Addr) : Type 0 where
  pub reported : (r : Reply) (failed : Bool) → LegalReply h (Ask (Test p name a)) r failed →
      r ≡ Answered (answer.Tested (deciding (entries_at (durable_of h) p name) a))
  pub decides : DecidesAbout (entries_at (durable_of h) p name) a

abbrev pub TestsTellTheEntry : Type 0
TestsTellTheEntry = (first : PlainDurable) (world : List Event) (h : CurrentOpening) → IsWithin first → IsWorld first world →
    state_after (down first) world ≡ up h →
    (p name : List ℕ) (a : Addr) → TellsTheEntry h p name a

-- the one state of its flow, which isn't due, decides about a packet, and without one the rules do
pub record IsDecided (d : PlainDurable) (packet : PlainPacket) : Type 0 where
  pub by_state : (s : PlainState) → IsStateOf d.states (flow_of packet) s → verdict d packet ≡ Stateful s.0
  pub standing : (s : PlainState) → IsStateOf d.states (flow_of packet) s → stands d.tick s.1 ≡ true
  pub one : (s t : PlainState) → IsStateOf d.states (flow_of packet) s → IsStateOf d.states (flow_of packet) t → s ≡ t
  pub by_rules : ((s : PlainState) → IsStateOf d.states (flow_of packet) s → ⊥) → verdict d packet ≡ ByRules (judged d.config packet)
  -- of rules that all decide the last one that matches, or the first quick one
  pub last : list_all decides (rules_at main d.config.rulesets) ≡ true → IsVerdictOfMain d.config packet
  -- an anchor rule leads to the rulesets that are there, in order
  pub leads : (p : List ℕ) (s : PlainReference) → LeadsThere d.config.rulesets p s

pub record TellsTheVerdict (h : CurrentOpening) (packet : PlainPacket) : Type 0 where
  pub reported : (r : Reply) (failed : Bool) → LegalReply h (Ask (Judge packet)) r failed →
      r ≡ Answered (answer.Judged (verdict (durable_of h) packet))
  pub decided : IsDecided (durable_of h) packet

abbrev pub JudgesTellTheVerdict : Type 0
JudgesTellTheVerdict = (first : PlainDurable) (world : List Event) (h : CurrentOpening) → IsWithin first → IsWorld first world →
    state_after (down first) world ≡ up h →
    (packet : PlainPacket) → TellsTheVerdict h packet
