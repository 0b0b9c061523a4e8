-- What a group of commands comes to, compared with the same commands one by one.
use Rattle.std.specs.{Prelude.{◌≡◌, Bool, true, false, not, List, [], ◌∷◌, ◌++◌, ⊤, Ok}, List.AllByRecursion}
use Rattle.pf_core.specs.{declared.{command.Command.Command, reply.Refusal.Refusal, reply.Refusal.TheVariants.HistoryFull, reply.Refusal.TheVariants.Full, reply.Reply.Reply, reply.Reply.TheVariants.Answer, reply.Reply.TheVariants.Applied, reply.Reply.TheVariants.Stored, reply.Reply.TheVariants.Refused}, Calls.call, Commands.may_be_grouped, Durable.Changes.PlainChange, Worlds.{CurrentOpening, flat, due, room_for, amid, changes_due, replies_due, upshot, heard, shown_by}}

-- the opening after a command got the reply that it is due
abbrev pub heard_due : CurrentOpening → Command → CurrentOpening
heard_due h c = heard h (call c (due h c)) (upshot (shown_by (due h c) h.shown) false)

-- the replies that commands are due one by one, each as a call of its own, and the opening after them
abbrev pub dues_one_by_one : CurrentOpening → List Command → List Reply
dues_one_by_one h [] = []
dues_one_by_one h (c ∷ commands) = due h c ∷ dues_one_by_one (heard_due h c) commands

abbrev pub one_by_one : CurrentOpening → List Command → CurrentOpening
one_by_one h [] = h
one_by_one h (c ∷ commands) = one_by_one (heard_due h c) commands

abbrev pub is_want_of_room : Refusal → Bool
is_want_of_room HistoryFull = true
is_want_of_room Full = true
is_want_of_room e = false

abbrev pub found_room : Reply → Bool
found_room (Answer a) = true
found_room (Applied n o) = true
found_room (Stored n o) = true
found_room (Refused e) = not (is_want_of_room e)

-- A group's commands are due the replies that they would be due one by one, and its changes, and the tickets that these void, are those of
-- these calls.
pub record AreInTurn (h : CurrentOpening) (commands : List Command) : Type 0 where
  pub replies : replies_due h [] commands ≡ dues_one_by_one h commands
  pub changes : flat h.acked ++ changes_due h [] commands ≡ flat (one_by_one h commands).acked
  pub tickets : (amid h (changes_due h [] commands)).tickets ≡ (one_by_one h commands).tickets

abbrev pub GroupsAreInTurn : Type 0
GroupsAreInTurn = (h : CurrentOpening) (commands : List Command) → h.pending ≡ [] → AllByRecursion (λ c. may_be_grouped c ≡ true) commands →
    AllByRecursion (λ r. found_room r ≡ true) (dues_one_by_one h commands) → AreInTurn h commands

-- Each of these changes finds room in a group of its own, after those before it.
abbrev pub HaveRoomEach : CurrentOpening → List PlainChange → Type 0
HaveRoomEach h [] = ⊤
HaveRoomEach h (e ∷ es) = (room_for h (e ∷ []) ≡ Ok tt) × HaveRoomEach (amid h (e ∷ [])) es

-- So it is where each change that a group wants finds room by itself.
abbrev pub RoomyGroupsAreInTurn : Type 0
RoomyGroupsAreInTurn = (h : CurrentOpening) (commands : List Command) → h.pending ≡ [] → AllByRecursion (λ c. may_be_grouped c ≡ true) commands →
    HaveRoomEach h (changes_due h [] commands) → AreInTurn h commands
