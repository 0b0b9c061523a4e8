-- Calls, and what they mention.
use Rattle.std.specs.Prelude.{cond, flat_map, List, [], ◌∷◌, Result, Ok, Err}
use Rattle.pf_ticket.specs.Mentions.{Mention}
use Rattle.pf_core.specs.{declared.{command.Command.Command, reply.Refusal.Refusal, reply.Reply.Reply}, Commands.{mentioned, is_accepted}}

-- a command, and the reply that it got
pub record Call : Type 0 where
  pub command : Command
  pub reply : Reply

abbrev pub call : Command → Reply → Call
call c r = record { command = c; reply = r }

-- a refused command mentions nothing
abbrev pub mentions_of : Call → List Mention
mentions_of c = cond (is_accepted c.reply) (mentioned c.command) []

-- ---- groups

-- the replies to a group's commands; there are none if it was refused whole
abbrev pub replies_in : Result (List Reply) Refusal → List Reply
replies_in (Ok replies) = replies
replies_in (Err e) = []

-- each command with its reply
abbrev pub calls_of : List Command → List Reply → List Call
calls_of commands [] = []
calls_of [] (r ∷ replies) = []
calls_of (c ∷ commands) (r ∷ replies) = call c r ∷ calls_of commands replies

abbrev pub mentions_of_group : List Command → Result (List Reply) Refusal → List Mention
mentions_of_group commands result = flat_map mentions_of (calls_of commands (replies_in result))
